-- What a function forces at 128 states at once, by the values of each signal.
use Rattle.std.proofs.Common.{◌≡◌, ◌≢◌, ℕ, ◌+◌, ◌-◌, ◌/◌, ◌^◌, ◌<◌, ◌≤◌, ◌&&◌, ◌||◌, Bool, not, true, false}
use Rattle.std.proofs.Common.{List, length, get_or, refl, sym, ap, ap₂, subst, ◌∙◌, arith, inl, inr, ◌↔◌}
use Rattle.std.proofs.Common.{bit_and, bit_or}
use Rattle.std.proofs.lemmas.Bool.{cases_eq, cases_lt, false_from_ne_true}
use Rattle.std.proofs.lemmas.Nat.{pow-add}
use Rattle.si_base.specs.Bits.{bit}
use Rattle.si_base.specs.Limits.{code_width}
use Rattle.si_base.proofs.BitFacts.{bit-or, same_codes}
use Rattle.si_base.proofs.Booleans.{equals_true, equals_false}
use Rattle.si_base.proofs.StepCodes.{no_bit}
use Rattle.si_closures.proofs.WordBits.{in_and, not_is}
use Rattle.si_closures.proofs.WordLemmas.{full_bit}
use Rattle.si_divisor.specs.declared.function.Function.{Function}
use Rattle.si_divisor.specs.Functions.{function_value, values_at}
use Rattle.si_divisor.specs.Loops.Columns.{HasCode, TellsStates}
use Rattle.si_divisor.proofs.FunctionLemmas.{bit_of_signal, output_at_one, values_small}

-- ---- the states at which signals have given values
-- the bits say so of the first n signals
abbrev pub AreWith : List ℕ → List ℕ → ℕ → ℕ → ℕ → Type 0
AreWith signals columns values n there = (i code : ℕ) → i < 128 → HasCode columns i code
    → (bit there i ≡ true) ↔ ((j : ℕ) → j < n → bit code (get_or signals j 0) ≡ bit values j)

pub all_with : (signals columns : List ℕ) (values : ℕ) → AreWith signals columns values 0 (2 ^ 128 - 1)
all_with signals columns values i code few has = (λ h j early. absurd (omega arith), λ all. full_bit i few)

module _ (signals columns : List ℕ) (values n there column z more : ℕ) (is : z ≡ get_or signals n 0)
    (within : z < code_width) (at : column ≡ get_or columns z 0)
    (picks : (i : ℕ) → i < 128 → (bit more i ≡ true) ↔ (bit column i ≡ bit values n))
    (before : AreWith signals columns values n there) where
  column_bit : (i code : ℕ) → HasCode columns i code → bit column i ≡ bit code (get_or signals n 0)
  column_bit i code has = ap (λ w. bit w i) at ∙ has z within ∙ ap (bit code) is

  pub one_with : AreWith signals columns values (n + 1) (bit_and there more)
  one_with i code few has = (
    λ h j early. (
        let parts = (in_and there more i).0 h in
        elim (cases_eq j n) [
          | inl same ↦ subst (λ k. bit code (get_or signals k 0) ≡ bit values k) (sym same)
              (sym (column_bit i code has) ∙ (picks i few).0 parts.1)
          | inr other ↦ (before i code few has).0 parts.0 j (omega (arith, early, other))
        ]),
    λ all. (in_and there more i).1 (
      (before i code few has).1 (λ j early. all j (omega (arith, early))),
      (picks i few).1 (column_bit i code has ∙ all n (omega arith)),
    ),
  )

without_output : (signals : List ℕ) (code : ℕ) → values_at signals code false < 2 ^ length signals
without_output signals code =
    let low : ℕ = values_at signals code false in
    let adds = output_at_one signals code low (2 ^ (length signals + 1)) refl refl in
    omega (arith, adds, values_small signals code true, pow-add 2 (length signals) 1)

from_bits : (signals : List ℕ) (values code : ℕ) → values < 2 ^ length signals
    → ((j : ℕ) → j < length signals → bit code (get_or signals j 0) ≡ bit values j)
    → values_at signals code false ≡ values
from_bits signals values code small same = same_codes (values_at signals code false) values
    (λ j. elim (cases_lt j (length signals)) [
      | inl inside ↦ bit_of_signal signals code false j 0 inside ∙ same j inside
      | inr past ↦ no_bit (values_at signals code false) (length signals) j (without_output signals code) past
          ∙ sym (no_bit values (length signals) j small past)
    ])

pub with_all : (signals columns : List ℕ) (values there : ℕ) → values < 2 ^ length signals
    → AreWith signals columns values (length signals) there → (i code : ℕ) → i < 128 → HasCode columns i code
    → (bit there i ≡ true) ↔ (values_at signals code false ≡ values)
with_all signals columns values there small are i code few has = (
  λ h. from_bits signals values code small ((are i code few has).0 h),
  λ same. (are i code few has).1
      (λ j inside. sym (bit_of_signal signals code false j 0 inside) ∙ ap (λ v. bit v j) same),
)

-- ---- the values of a function, row by row of its table
-- the bit of each state is that of its row, where this is among the first n, and else 0
pub record AreReadTo (columns signals : List ℕ) (row : ℕ → Bool) (n word : ℕ) : Type 0 where
  pub read : (i code : ℕ) → i < 128 → HasCode columns i code → values_at signals code false < n
      → bit word i ≡ row (values_at signals code false)
  pub later : (i code : ℕ) → i < 128 → HasCode columns i code → n ≤ values_at signals code false
      → bit word i ≡ false

picked : (t : Bool) → (false || (t && true)) ≡ t
picked true = refl
picked false = refl

kept : (a t : Bool) → (a || (t && false)) ≡ a
kept true t = refl
kept false true = refl
kept false false = refl

module _ (columns signals : List ℕ) (row : ℕ → Bool) (n word there more : ℕ)
    (are : (i code : ℕ) → i < 128 → HasCode columns i code
    → (bit there i ≡ true) ↔ (values_at signals code false ≡ n))
    (more_is : (i : ℕ) → bit more i ≡ (row n && bit there i))
    (before : AreReadTo columns signals row n word) where
  both : (i : ℕ) (a b : Bool) → bit word i ≡ a → bit there i ≡ b
      → bit (bit_or word more) i ≡ (a || (row n && b))
  both i a b one other =
      bit-or word more i ∙ ap₂ (λ (x y : Bool). x || y) one (more_is i ∙ ap (λ y. row n && y) other)

  at_row : (i code : ℕ) → i < 128 → HasCode columns i code → values_at signals code false ≡ n
      → bit (bit_or word more) i ≡ row n
  at_row i code few has same =
      both i false true (before.later i code few has (omega (arith, same))) ((are i code few has).1 same)
      ∙ picked (row n)

  elsewhere : (i code : ℕ) → i < 128 → HasCode columns i code → values_at signals code false ≢ n
      → bit (bit_or word more) i ≡ bit word i
  elsewhere i code few has other =
      both i (bit word i) false refl (false_from_ne_true (bit there i) (λ h. other ((are i code few has).0 h)))
      ∙ kept (bit word i) (row n)

  pub one_read : AreReadTo columns signals row (n + 1) (bit_or word more)
  one_read = record {
    read = λ i code few has early. elim (cases_eq (values_at signals code false) n) [
      | inl same ↦ at_row i code few has same ∙ ap row (sym same)
      | inr other ↦ elsewhere i code few has other
          ∙ before.read i code few has (omega (arith, early, other))
    ];
    later = λ i code few has late. elsewhere i code few has (λ same. absurd (omega (arith, late, same)))
        ∙ before.later i code few has (omega (arith, late));
  }

pub up_states : (f : Function) (columns : List ℕ) (codes rows word : ℕ)
    → codes ≡ 2 ^ (length f.signals.items + 1) → rows ≡ codes / 2
    → AreReadTo columns f.signals.items (bit f.table) rows word → TellsStates f true columns word
up_states f columns codes rows word codes_are rows_are are i code few has =
    let signals : List ℕ = f.signals.items in
    let twice = pow-add 2 (length signals) 1 in
    let early : values_at signals code false < rows =
    omega (arith, without_output signals code, twice, codes_are, rows_are) in
    are.read i code few has early ∙ equals_true (function_value f code false)

pub down_states : (f : Function) (columns : List ℕ) (codes rows word : ℕ) → word < 2 ^ 128
    → codes ≡ 2 ^ (length f.signals.items + 1) → rows ≡ codes / 2
    → AreReadTo columns f.signals.items (λ v. bit f.table (rows + v)) rows word
    → TellsStates f false columns (2 ^ 128 - 1 - word)
down_states f columns codes rows word fits codes_are rows_are are i code few has =
    let signals : List ℕ = f.signals.items in
    let twice = pow-add 2 (length signals) 1 in
    let low : ℕ = values_at signals code false in
    let early : low < rows = omega (arith, without_output signals code, twice, codes_are, rows_are) in
    let adds = output_at_one signals code low codes refl codes_are in
    let at_one : rows + low ≡ values_at signals code true = omega (arith, adds, rows_are) in
    let value = are.read i code few has early ∙ ap (bit f.table) at_one in
    not_is word i fits few ∙ ap not value ∙ equals_false (function_value f code true)
