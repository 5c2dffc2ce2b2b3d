-- Lists of signals, and codes that have a 1 for each of them.
use Rattle.std.proofs.Common.{◌≡◌, ℕ, zero, suc, ◌+◌, ◌-◌, ◌<◌, ◌⊎◌, ◌||◌, ◌==◌, not, Bool, true, false, List, [], ◌∷◌}
use Rattle.std.proofs.Common.{◌++◌, refl, sym, ap, ap₂, subst, ◌∙◌, arith, inl, inr, length, filter, take, get_or, cond}
use Rattle.std.proofs.Common.{remove, slice_get, Some, All, Contains, bit_or}
use Rattle.std.specs.List.{range_with_len}
use Rattle.std.proofs.lemmas.Bool.{cases_eq, cases_lt}
use Rattle.std.proofs.lemmas.Bool.Decides.{eqb_tells}
use Rattle.std.proofs.lemmas.List.{append-nil}
use Rattle.std.proofs.lemmas.List.Edits.{get_or-remove_below, get_or-remove_above, length-remove}
use Rattle.std.proofs.lemmas.List.Elements.{filter-append}
use Rattle.std.proofs.lemmas.List.Folds.{list_any_more, list_any-append}
use Rattle.std.proofs.lemmas.Option.{slice_get-get_or}
use Rattle.si_base.specs.declared.graph.Signal.{Signal}
use Rattle.si_base.specs.Bits.{bit, IsSet}
use Rattle.si_base.specs.Graph.{is_driven}
use Rattle.si_netlist.specs.Reads.{MarksExactly}
use Rattle.si_base.proofs.BitFacts.{bit-or}
use Rattle.si_loops.specs.Arcs.{has_gate}
use Rattle.si_loops.proofs.ArcLemmas.{gate_of_signal, numbers_more}
use Rattle.si_settled.specs.Settling.{is_among}

-- ---- codes
pub set_more : (signals : List ℕ) (z code new : ℕ) → MarksExactly (is_among signals) code → IsSet code z true new
    → MarksExactly (λ x. (z == x) || is_among signals x) new
set_more signals z code new before set x = elim (eqb_tells z x) [
  | inl same ↦ ap (bit new) (sym same.1) ∙ set.there ∙ rw same.0 refl
  | inr other ↦ set.others x (λ e. other.1 (sym e)) ∙ before x ∙ rw other.0 refl
]

or_swap : (a b : Bool) → (a || b) ≡ (b || a)
or_swap true true = refl
or_swap true false = refl
or_swap false true = refl
or_swap false false = refl

pub marks_more : (signals : List ℕ) (i z code new : ℕ) → i < length signals → z ≡ get_or signals i z
    → MarksExactly (is_among (take i signals)) code → IsSet code z true new
    → MarksExactly (is_among (take (i + 1) signals)) new
marks_more signals i z code new within is before set x =
    set_more (take i signals) z code new before set x ∙ or_swap (z == x) (is_among (take i signals) x)
    ∙ sym (list_any_more (λ (k : ℕ). k == x) signals i z within
    ∙ ap (λ (k : ℕ). is_among (take i signals) x || (k == x)) (sym is))

pub marks_both : (xs ys : List ℕ) (a b : ℕ) → MarksExactly (is_among xs) a → MarksExactly (is_among ys) b
    → MarksExactly (is_among (xs ++ ys)) (bit_or a b)
marks_both xs ys a b one two x =
    bit-or a b x ∙ ap₂ (λ (c d : Bool). c || d) (one x) (two x) ∙ sym (list_any-append (λ (k : ℕ). k == x) xs ys)

-- ---- the inputs
abbrev pub inputs_before : List Signal → ℕ → List ℕ
inputs_before signals z = filter (λ k. not (has_gate signals k)) (range_with_len 0 z)

filter_one : (p : ℕ → Bool) (z : ℕ) (v : Bool) → p z ≡ v → filter p (z ∷ []) ≡ cond v (z ∷ []) []
filter_one p z v is = rw is refl

inputs_more : (signals : List Signal) (z : ℕ) (v : Bool) → not (has_gate signals z) ≡ v
    → inputs_before signals (z + 1) ≡ inputs_before signals z ++ cond v (z ∷ []) []
inputs_more signals z v is =
    let p : ℕ → Bool = λ k. not (has_gate signals k) in
    ap (filter p) (numbers_more z) ∙ filter-append p (range_with_len 0 z) (z ∷ [])
    ∙ ap (λ (l : List ℕ). inputs_before signals z ++ l) (filter_one p z v is)

pub input_pushed : (signals : List Signal) (z : ℕ) (x : Signal) (items : List ℕ) → z < length signals
    → x ≡ get_or signals z x → is_driven x.kind ≡ false → items ≡ inputs_before signals z
    → items ++ z ∷ [] ≡ inputs_before signals (z + 1)
input_pushed signals z x items within is input so_far =
    let at : slice_get signals z ≡ Some x = slice_get-get_or signals z x within ∙ ap Some (sym is) in
    ap (λ (l : List ℕ). l ++ z ∷ []) so_far
    ∙ sym (inputs_more signals z true (ap not (gate_of_signal signals z x at ∙ input)))

pub gate_passed : (signals : List Signal) (z : ℕ) (x : Signal) (items : List ℕ) → z < length signals
    → x ≡ get_or signals z x → is_driven x.kind ≡ true → items ≡ inputs_before signals z
    → items ≡ inputs_before signals (z + 1)
gate_passed signals z x items within is driven so_far =
    let at : slice_get signals z ≡ Some x = slice_get-get_or signals z x within ∙ ap Some (sym is) in
    so_far ∙ sym (inputs_more signals z false (ap not (gate_of_signal signals z x at ∙ driven))
    ∙ append-nil (inputs_before signals z))

-- ---- a list without the element at a place
pub any_other : (xs : List ℕ) (k d e : ℕ) → k < length xs → get_or xs k d ≡ get_or xs k e
any_other [] k d e within = absurd (omega (arith, within))
any_other (x ∷ xs) zero d e within = refl
any_other (x ∷ xs) (suc k) d e within = any_other xs k d e (omega (arith, within))

pub others_stay : (xs : List ℕ) (k a : ℕ) → k < length xs → Contains xs a
    → (a ≡ get_or xs k 0) ⊎ Contains (remove xs k) a
others_stay xs k a within there = elim (cases_lt there.0 k) [
  | inl before ↦ inr (
    there.0,
    omega (arith, length-remove xs k within, there.1, before),
    get_or-remove_below xs k a there.0 before within ∙ there.2,
  )
  | inr from ↦ elim (cases_eq there.0 k) [
    | inl same ↦ inl (sym there.2 ∙ ap (λ (i : ℕ). get_or xs i a) same ∙ any_other xs k a 0 within)
    | inr past ↦ inr (
      there.0 - 1,
      omega (arith, length-remove xs k within, there.1, from, past),
      get_or-remove_above xs k a (there.0 - 1) (omega (arith, from, past)) within
          ∙ ap (λ (i : ℕ). get_or xs i a) (omega (arith, from, past)) ∙ there.2,
    )
  ]
]

pub all_stay : (P : ℕ → Type 0) (xs : List ℕ) (k : ℕ) → k < length xs → All P xs → All P (remove xs k)
all_stay P xs k within all i d there = elim (cases_lt i k) [
  | inl before ↦ subst P (sym (get_or-remove_below xs k d i before within)) (all i d (omega (arith, before, within)))
  | inr from ↦ subst P (sym (get_or-remove_above xs k d i from within))
      (all (i + 1) d (omega (arith, length-remove xs k within, there)))
]
