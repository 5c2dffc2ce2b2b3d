-- Where two lists of signals with their start values are the same.
use Rattle.std.proofs.Common.{◌≡◌, ℕ, ◌<◌, ◌≤◌, min, List, length, get_or, sym, ◌∙◌, arith, slice_get, Option, Some}
use Rattle.std.proofs.Common.{None, MatchOption}
use Rattle.std.proofs.Common.{inl, inr}
use Rattle.std.proofs.lemmas.List.{same_lists}
use Rattle.std.proofs.lemmas.Option.{slice_get_cases, slice_get-get_or, get_or_from_slice_get}
use Rattle.si_base.specs.declared.graph.Signal.{Signal}
use Rattle.si_base.specs.Codes.{CodedGraph, code}
use Rattle.si_base.specs.Netlist.{Netlist}
use Rattle.si_base.specs.System.{IsFor}
use Rattle.si_system.specs.Lists.{given, AreSameAt, AreSameLists, IsFirstDifference, IsSameAt}

-- two lists that are the same at each place up to the end of both
pub same_from_places : (own : List Signal) (values : ℕ) (others : List Signal) (start k : ℕ)
    → length own ≡ length others → length own ≤ k → ((j : ℕ) → j < k → AreSameAt own values others start j)
    → AreSameLists own values others start
same_from_places own values others start k len within same = record {
  signals = same_lists others own (sym len)
      (λ j d below. get_or_from_slice_get others j (get_or own j d) d
      ((same j (omega arith)).signal ∙ slice_get-get_or own j d (omega arith)));
  values_are = λ j below. (same j (omega arith)).value below;
}

ended : (xs ys : List Signal) (k : ℕ) → slice_get xs k ≡ slice_get ys k
    → k ≡ min (length ys) (length xs) → length ys ≡ length xs
ended xs ys k same is = elim (slice_get_cases xs k).1 [
  | inl h ↦ elim (slice_get_cases ys k).1 [
    | inl g ↦ absurd (omega arith)
    | inr g ↦ let e : Some h.0 ≡ None = sym h.2 ∙ same ∙ g.1 in cc
  ]
  | inr h ↦ elim (slice_get_cases ys k).1 [
    | inl g ↦ let e : Some g.0 ≡ None = sym g.2 ∙ sym same ∙ h.1 in cc
    | inr g ↦ omega arith
  ]
]

-- two lists of which one has ended
pub ended_differs : (own : List Signal) (values : ℕ) (others : List Signal) (start k : ℕ)
    → (length own ≡ length others → ⊥) → k ≡ min (length own) (length others) → AreSameAt own values others start k → ⊥
ended_differs own values others start k differ is same = differ (ended others own k same.signal is)
