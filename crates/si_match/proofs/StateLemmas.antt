-- States, and codes that agree but for some pins.
use Rattle.std.proofs.Common.{◌≡◌, ℕ, ◌⊎◌, ◌+◌, ◌-◌, ◌<◌, ◌≤◌, Bool, true, false, List, [], ◌∷◌, ◌++◌, length, map}
use Rattle.std.proofs.Common.{take, get_or, sym, ap, ◌∙◌, arith, inl, inr}
use Rattle.std.specs.List.{list_all}
use Rattle.std.proofs.lemmas.Bool.{false_from_ne_true, and_from}
use Rattle.std.proofs.lemmas.Bool.Decides.{eqb_tells, leb_tells}
use Rattle.std.proofs.lemmas.List.{length-append, length-map, map-append, get_or_append_left, get_or_past}
use Rattle.std.proofs.lemmas.List.{get_or_default, take_all}
use Rattle.std.proofs.lemmas.List.FromFn.{length-enumerate_from, get_or-enumerate_from}
use Rattle.std.proofs.lemmas.List.Folds.{list_all_more, list_all_at}
use Rattle.std.proofs.Math.Seq.{get_or-append_seam}
use Rattle.si_base.proofs.GraphSteps.{beq-true}
use Rattle.si_base.specs.Bits.{bit, IsSet}
use Rattle.si_base.specs.Codes.{CodedGraph, code, next_value}
use Rattle.si_base.specs.Netlist.{Sum, literal_value, sum_value}
use Rattle.si_base.specs.declared.ids.Literal.{Literal}
use Rattle.si_cell.specs.Library.{Cell, pin_values}
use Rattle.si_cell.proofs.ExpandedLemmas.{bit_of}
use Rattle.si_match.specs.Fit.{states_of}
use Rattle.si_match.specs.Loops.Search.{IsRefutedAt, AgreeOutside}

-- ---- states
pub state_at : (c : CodedGraph) (s : ℕ) (d : ℕ × ℕ) → s < length c.codes → get_or (states_of c) s d ≡ (s, code c s)
state_at c s d within =
    let pair : ℕ → ℕ → ℕ × ℕ = λ n k. (n, k) in
    let at : 0 + s ≡ s = omega arith in
    get_or-enumerate_from 0 c.codes s d within ∙ ap (λ (n : ℕ). pair n (get_or c.codes s d.1)) at
    ∙ ap (λ (k : ℕ). pair s k) (get_or_default c.codes s d.1 0 within)

pub states_are : (c : CodedGraph) → length (states_of c) ≡ length c.codes
states_are c = length-enumerate_from 0 c.codes

module _ (c : CodedGraph) (test : ℕ × ℕ → Bool) (s : ℕ) (within : s < length c.codes) where
  inside : s < length (states_of c)
  inside = rw states_are within

  -- one more state passes the test
  pub one_more : list_all test (take s (states_of c)) ≡ true → test (s, code c s) ≡ true
      → list_all test (take (s + 1) (states_of c)) ≡ true
  one_more so_far here = list_all_more test (states_of c) s (0, 0) inside
      ∙ and_from _ _ so_far (ap test (state_at c s (0, 0) within) ∙ here)

  -- one state fails it
  pub one_fails : test (s, code c s) ≡ false → list_all test (states_of c) ≡ false
  one_fails here = list_all_at test (states_of c) s (0, 0) inside (ap test (state_at c s (0, 0) within) ∙ here)

pub all_states : (c : CodedGraph) (test : ℕ × ℕ → Bool) (s : ℕ) → length c.codes ≤ s
    → list_all test (take s (states_of c)) ≡ true → list_all test (states_of c) ≡ true
all_states c test s past all = ap (list_all test) (sym (take_all s (states_of c) (rw states_are past))) ∙ all

-- ---- the values of pins of which the first have literals
value_at : (literals : List Literal) (code : ℕ) (q : Bool) (j : ℕ) → j < length literals
    → bit (pin_values literals code q) j ≡ get_or (map (literal_value code) literals) j false
value_at literals code q j within =
    bit_of (map (literal_value code) literals ++ q ∷ []) j
    ∙ get_or_append_left (map (literal_value code) literals) (q ∷ []) false j (rw length-map within)

own_at : (literals : List Literal) (code : ℕ) (q : Bool) (j : ℕ) → j ≡ length literals
    → bit (pin_values literals code q) j ≡ q
own_at literals code q j at =
    let e : j ≡ length (map (literal_value code) literals) = at ∙ sym (length-map literals (literal_value code)) in
    bit_of (map (literal_value code) literals ++ q ∷ []) j
    ∙ rw e (get_or-append_seam (map (literal_value code) literals) q [] false)

past_at : (literals : List Literal) (code : ℕ) (q : Bool) (j : ℕ) → length literals < j
    → bit (pin_values literals code q) j ≡ false
past_at literals code q j past =
    bit_of (map (literal_value code) literals ++ q ∷ []) j ∙ get_or_past (map (literal_value code) literals
    ++ q ∷ []) j false
    (rw (length-append, length-map) (omega (arith, past)))

-- a completion has the values of its first pins and of the own output
pub completed : (literals rest : List Literal) (code pins values : ℕ) (q : Bool) → length literals + length rest ≡ pins
    → IsSet (pin_values literals code false) pins q values
    → AgreeOutside (length literals) pins values (pin_values (literals ++ rest) code q)
completed literals rest code pins values q count set j outside = elim (eqb_tells j pins) [
  | inl same ↦ own_at (literals ++ rest) code q j (same.1 ∙ sym count ∙ sym (length-append literals rest))
      ∙ sym (rw same.1 set.there)
  | inr different ↦ (let not_last = different.1 in before_or_past (side j) not_last)
]
  where
    side : (j : ℕ) → (j < length literals) ⊎ (length literals ≤ j)
    side j = grind arith

    before_or_past : (j < length literals) ⊎ (length literals ≤ j) → (j ≡ pins → ⊥) → bit (pin_values (literals
        ++ rest) code q) j ≡ bit values j
    before_or_past (inl first) other =
        value_at (literals ++ rest) code q j (rw length-append (omega (arith, first)))
        ∙ ap (λ (vs : List Bool). get_or vs j false) (map-append (literal_value code) literals rest)
        ∙ get_or_append_left (map (literal_value code) literals) (map (literal_value code) rest) false j
        (rw length-map first)
        ∙ sym (set.others j other ∙ value_at literals code false j first)
    before_or_past (inr later) other =
        let above : pins ≤ j = elim (leb_tells pins j) [ inl up ↦ up.1 | inr down ↦ absurd (outside later down.1) ] in
        let over : pins < j = grind (arith, above, other) in
        past_at (literals ++ rest) code q j (rw length-append (omega (arith, over, count)))
        ∙ sym (set.others j other ∙ free)
      where
        free : bit (pin_values literals code false) j ≡ false
        free = elim (eqb_tells j (length literals)) [
          | inl same ↦ own_at literals code false j same.1
          | inr different ↦ (let not_own = different.1 in past_at literals code false j (grind (arith, later, not_own)))
        ]

pub refutes_at : (c : CodedGraph) (z s : ℕ) (cell : Cell) (literals : List Literal) (sum : Sum)
    (at_state first pins values : ℕ) (q v : Bool)
    → length literals ≤ length cell.pins → sum ≡ cell.sum → pins ≡ length cell.pins → at_state ≡ code c s
    → first ≡ pin_values literals at_state false
    → q ≡ bit at_state z → v ≡ next_value c s z → IsSet first pins q values
    → ((other : ℕ) → AgreeOutside (length literals) pins values other → sum_value other sum ≡ v → ⊥)
    → IsRefutedAt c z cell literals (length cell.pins - length literals) (s, code c s)
refutes_at c z s cell literals sum at_state first pins values q v short sum_is pins_are state_is first_is own next set
    none rest count =
    let done : length literals + length rest ≡ pins = omega (arith, count, short, pins_are) in
    let start : IsSet (pin_values literals at_state false) pins q values = rw first_is at set in
    let agree = completed literals rest at_state pins values q done start in
    let fails : sum_value (pin_values (literals ++ rest) at_state q) sum ≡ v → ⊥ = none (pin_values (literals
    ++ rest) at_state q) agree in
    false_from_ne_true _ (λ same. fails (
    ap (λ (k : ℕ). sum_value (pin_values (literals ++ rest) k q) sum) state_is
    ∙ ap (λ (b : Bool). sum_value (pin_values (literals ++ rest) (code c s) b) sum) (own
    ∙ ap (λ (k : ℕ). bit k z) state_is)
    ∙ ap (sum_value (pin_values (literals ++ rest) (code c s) (bit (code c s) z))) sum_is
    ∙ beq-true _ _ same ∙ sym next))
