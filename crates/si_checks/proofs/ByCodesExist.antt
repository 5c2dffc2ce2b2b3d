-- A connected, deterministic and consistent graph has codes.
use Rattle.std.proofs.Common.{◌≡◌, ℕ, zero, suc, ◌+◌, ◌*◌, ◌-◌, ◌^◌, ◌<◌, ◌≤◌, ◌==◌, Bool, true, false, List, length}
use Rattle.std.proofs.Common.{map, slice_index, get_or, refl, sym, ap, ◌∙◌, arith, ◌⊎◌, inl, inr}
use Rattle.std.specs.List.{range_with_len}
use Rattle.std.proofs.lemmas.Bool.{cases_lt, cases_order}
use Rattle.std.proofs.lemmas.List.FromFn.{length-map-range_with_len, get_or-map-range_with_len}
use Rattle.std.proofs.lemmas.Nat.Bits.{bit_at_cat_low, bit_at_cat_high}
use Rattle.std.proofs.Math.Nat.{pow-suc}
use Rattle.si_base.specs.declared.ids.Event.{Event}
use Rattle.si_base.specs.Bits.{bit}
use Rattle.si_base.specs.Codes.{CodedGraph, AreValues, IsConnected, IsDeterministic, IsConsistent, IsCoded}
use Rattle.si_base.specs.Graph.{StateGraph, Step, IsGraph, rise, fall}
use Rattle.si_base.proofs.RightGateLemmas.{step_within}

-- ---- a number by its bits
abbrev digit : Bool → ℕ
digit true = 1
digit false = 0

number : ℕ → (ℕ → Bool) → ℕ
number zero w = 0
number (suc n) w = digit (w n) * 2 ^ n + number n w

one_more_fits : (b : Bool) (n k : ℕ) → k < 2 ^ n → digit b * 2 ^ n + k < 2 ^ suc n
one_more_fits true n k below = rw pow-suc (omega arith)
one_more_fits false n k below = rw pow-suc (omega arith)

number_fits : (n : ℕ) (w : ℕ → Bool) → number n w < 2 ^ n
unfolding number
number_fits zero w = omega arith
number_fits (suc n) w = one_more_fits (w n) n (number n w) (number_fits n w)

bit_of_digit : (b : Bool) (k : ℕ) → k ≡ 0 → bit (digit b) k ≡ b
bit_of_digit true k is = rw is refl
bit_of_digit false k is = rw is refl

number_bit : (n : ℕ) (w : ℕ → Bool) (i : ℕ) → i < n → bit (number n w) i ≡ w i
unfolding number
number_bit zero w i below = absurd (omega arith)
number_bit (suc n) w i below = elim (cases_order i n) [
  | inl same ↦ ap (λ (x : ℕ). x == 1) (bit_at_cat_high (digit (w n)) n (number n w) i (number_fits n w) (omega arith))
      ∙ bit_of_digit (w n) (i - n) (omega arith) ∙ ap w (sym same)
  | inr (inl less) ↦ ap (λ (x : ℕ). x == 1) (bit_at_cat_low (digit (w n)) n (number n w) i less) ∙ number_bit n w i less
  | inr (inr more) ↦ absurd (omega arith)
]

-- ---- values that are the same at each state
pub values_as : (g : StateGraph) (a : ℕ) (v w : ℕ → Bool) → IsGraph g → ((s : ℕ) → s < g.states → w s ≡ v s)
    → AreValues g a v → AreValues g a w
values_as g a v w is same are = record {
  rises = λ s t step. (
    same s (from s (rise a) t step) ∙ (are.rises s t step).0,
    same t (to s (rise a) t step) ∙ (are.rises s t step).1,
  );
  falls = λ s t step. (
    same s (from s (fall a) t step) ∙ (are.falls s t step).0,
    same t (to s (fall a) t step) ∙ (are.falls s t step).1,
  );
  keeps = λ s t e other step. same t (to s e t step) ∙ are.keeps s t e other step ∙ sym (same s (from s e t step));
  idle = λ idle s there. same s there ∙ are.idle idle s there;
}
  where
    from : (s : ℕ) (e : Event) (t : ℕ) → Step g s e t → s < g.states
    from s e t step = (step_within g s e t is step).0

    to : (s : ℕ) (e : Event) (t : ℕ) → Step g s e t → t < g.states
    to s e t step = (step_within g s e t is step).2

-- ---- the codes of a graph
module _ (g : StateGraph) (is : IsGraph g) (connected : IsConnected g) (deterministic : IsDeterministic g)
    (consistent : IsConsistent g) where
  value_by : (a s : ℕ) → (a < length g.signals) ⊎ (length g.signals ≤ a) → Bool
  value_by a s (inl below) = (consistent a below).0 s
  value_by a s (inr past) = false

  values_by : (a : ℕ) (o : (a < length g.signals) ⊎ (length g.signals ≤ a)) → a < length g.signals
      → AreValues g a (λ s. value_by a s o)
  unfolding value_by
  values_by a (inl below) within = (consistent a below).1
  values_by a (inr past) within = absurd (omega arith)

  code_of : ℕ → ℕ
  code_of s = number (length g.signals) (λ a. value_by a s (cases_lt a (length g.signals)))

  code_list : List ℕ
  code_list = map code_of (range_with_len 0 g.states)

  code_there : (s d : ℕ) → s < g.states → get_or code_list s d ≡ code_of s
  unfolding code_list
  code_there s d there = get_or-map-range_with_len code_of 0 g.states s s d there (omega arith)

  count : length code_list ≡ g.states
  unfolding code_list
  count = length-map-range_with_len code_of 0 g.states

  code_bit : (s a : ℕ) → s < g.states → a < length g.signals
      → bit (slice_index code_list s) a ≡ value_by a s (cases_lt a (length g.signals))
  unfolding code_of
  code_bit s a there within = ap (λ (k : ℕ). bit k a) (code_there s 0 there)
      ∙ number_bit (length g.signals) (λ b. value_by b s (cases_lt b (length g.signals))) a within

  code_fits : (s : ℕ) → code_of s < 2 ^ length g.signals
  unfolding code_of
  code_fits s = number_fits (length g.signals) (λ a. value_by a s (cases_lt a (length g.signals)))

  code_list_fits : (k d : ℕ) → k < length code_list → get_or code_list k d < 2 ^ length g.signals
  code_list_fits k d within = (
      let there : k < g.states = omega (arith, within, count) in
      rw (code_there k d there) (code_fits k))

  code_list_values : (a : ℕ) → a < length g.signals → AreValues g a (λ s. bit (slice_index code_list s) a)
  code_list_values a within =
      let v : ℕ → Bool = λ s. value_by a s (cases_lt a (length g.signals)) in
      values_as g a v (λ s. bit (slice_index code_list s) a) is (λ s there. code_bit s a there within)
      (values_by a (cases_lt a (length g.signals)) within)

  pub some_codes : (c : CodedGraph) × (c.graph ≡ g) × IsCoded c
  some_codes = (
    record { graph = g; codes = code_list },
    refl,
    record {
      graph_is = is;
      connected = connected;
      deterministic = deterministic;
      count = count;
      values = code_list_values;
      no_more = code_list_fits;
    },
  )
