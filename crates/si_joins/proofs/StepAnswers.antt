-- The insertions of parts come to one lineage, or to one refusal.
use Rattle.std.proofs.Common.{◌≡◌, ℕ, ◌+◌, ◌<◌, ◌≤◌, Bool, true, false, List, [], ◌∷◌, ◌++◌, length, Ok, Err, refl}
use Rattle.std.proofs.Common.{sym, ap, subst, ◌∙◌, arith, inl, inr, bytes_eq, zip, zero, suc}
use Rattle.std.specs.List.{list_any}
use Rattle.std.proofs.lemmas.Bool.{true≢false}
use Rattle.std.proofs.lemmas.List.FromFn.{length-map-range_with_len}
use Rattle.si_base.specs.declared.graph.Signal.{Signal}
use Rattle.si_base.specs.Codes.{CodedGraph, IsCoded}
use Rattle.si_base.specs.GivenGraph.{Sg}
use Rattle.si_base.specs.Graph.{StateGraph}
use Rattle.si_base.specs.Limits.{max_signals}
use Rattle.si_base.specs.Netlist.{Insertion, Netlist}
use Rattle.si_base.specs.Proper.{IsProper}
use Rattle.si_base.specs.Sets.{IsDisjoint, IsIn}
use Rattle.si_audit.proofs.FaultReasonExists.{accepted_or_reason}
use Rattle.si_audit.proofs.OneAudit.{same_history}
use Rattle.si_audit.proofs.OneFaultReason.{one_reason}
use Rattle.si_candidates.specs.Parts.{AreClasses}
use Rattle.si_candidates.proofs.BlockDecisions.{disjoint_or_not}
use Rattle.si_candidates.proofs.ClassesExist.{classes_or_torn}
use Rattle.si_candidates.proofs.PartLaws.{classes_lawful, classes_unique, torn_have_none}
use Rattle.si_checks.proofs.SearchDecisions.{Decided}
use Rattle.si_graph.proofs.SearchLemmas.{in_below}
use Rattle.si_insert.specs.Accepted.{IsAccepted}
use Rattle.si_insert.specs.Fresh.{IsTaken}
use Rattle.si_insert.specs.Lineage.{Extends, History}
use Rattle.si_insert.specs.Partition.{IsLawful}
use Rattle.si_insert.specs.declared.lineage.TraceStep.{TraceStep}
use Rattle.si_insert.specs.declared.partition.Class.{Class}
use Rattle.si_insert.proofs.AcceptedByTests.{rejected_is_not}
use Rattle.si_insert.proofs.InsertionCodes.{is_coded}
use Rattle.si_insert.proofs.InsertionsExist.{some_next}
use Rattle.si_insert.proofs.OneFreshName.{one_name, some_fresh}
use Rattle.si_insert.proofs.OneInsertion.{one_insertion}
use Rattle.si_insert.specs.Insertion.{new_signal}
use Rattle.si_joins.specs.Lifted.{IsNamedAmong, PartView, letters, lifted_set, own_word}
use Rattle.si_joins.specs.Steps.{HasSome, accepted, apart, extended, named, numbered, parted, told, used, view_of}
use Rattle.si_joins.specs.Steps.{with_insertion, with_line, with_part, with_parts, with_sets}
use Rattle.si_joins.proofs.AlongLemmas.{along_keeps, along_one, along_some}
use Rattle.si_joins.proofs.NameLemmas.{taken_or_not}
use Rattle.si_readings.specs.Laws.{AtMostOne, HasResult}
use Rattle.si_readings.proofs.StageLemmas.{passed, shows_one, shows_some, then_one, then_some}
use Rattle.si_refusals.specs.Refusal as answer
use Rattle.si_refusals.specs.declared.rejection.NamedRejection.TheVariants as reason

-- ---- the name
one_named : (signals : List Signal) (own x y : List ℕ) → IsNamedAmong signals own x → IsNamedAmong signals own y → x ≡ y
one_named signals own x y (inl a) (inl b) = a.1 ∙ sym b.1
one_named signals own x y (inl a) (inr b) = absurd (a.0 b.0)
one_named signals own x y (inr a) (inl b) = absurd (b.0 a.0)
one_named signals own x y (inr a) (inr b) = one_name signals (letters own) x y a.1 b.1

-- ---- the sets
none_set : (s : ℕ) → IsIn [] s → ⊥
none_set s is = true≢false (sym is)

some_or_not : (set : List Bool) → Decided (HasSome set)
some_or_not [] = inr (λ some. none_set some.0 some.1)
some_or_not (true ∷ set) = inl (0, refl)
some_or_not (false ∷ set) = elim (some_or_not set) [
  | inl some ↦ inl (suc some.0, some.1)
  | inr none ↦ inr (λ some. later some.0 some.1 none)
]
  where
    later : (s : ℕ) → IsIn (false ∷ set) s → (HasSome set → ⊥) → ⊥
    later zero is none = true≢false (sym is)
    later (suc s) is none = none (s, is)

used_one : (own : List ℕ) (plus minus : List Bool) → AtMostOne (used own plus minus)
used_one own plus minus (Ok x) (Ok y) one other = refl
used_one own plus minus (Ok x) (Err r) one other = absurd (other.0 one)
used_one own plus minus (Err r) (Ok x) one other = absurd (one.0 other)
used_one own plus minus (Err r) (Err q) one other = ap Err (one.1 ∙ sym other.1)

used_some : (own : List ℕ) (plus minus : List Bool) → HasResult (used own plus minus)
used_some own plus minus = elim (some_or_not plus) [
  | inl p ↦ elim (some_or_not minus) [
    | inl q ↦ (Ok tt, (p, q))
    | inr none ↦ (Err (answer.Unused own), ((λ both. none both.1), refl))
  ]
  | inr none ↦ (Err (answer.Unused own), ((λ both. none both.0), refl))
]

apart_one : (k : ℕ) (plus minus : List Bool) → AtMostOne (apart k plus minus)
apart_one k plus minus (Ok x) (Ok y) one other = refl
apart_one k plus minus (Ok x) (Err r) one other = absurd (other.0 one)
apart_one k plus minus (Err r) (Ok x) one other = absurd (one.0 other)
apart_one k plus minus (Err r) (Err q) one other = ap Err (one.1 ∙ sym other.1)

apart_some : (k : ℕ) (plus minus : List Bool) → HasResult (apart k plus minus)
apart_some k plus minus = elim (disjoint_or_not plus minus) [
  | inl disjoint ↦ (Ok tt, disjoint)
  | inr meet ↦ (Err (answer.Rejected (reason.States k)), (meet, refl))
]

-- ---- what holds of each current graph
pub record IsSoundCurrent (l : History) : Type 0 where
  pub coded : IsCoded l.current.coded
  pub proper : IsProper l.current.coded.graph

same_extended : (l : History) (p : TraceStep) (m w : History) → Extends l p m → Extends l p w → m ≡ w
same_extended l p m w one other =
    same_history m w (one.given_stays ∙ sym other.given_stays) (one.trace_grows ∙ sym other.trace_grows)
    (one_insertion l.current p m.current w.current one.inserts other.inserts)

pub extended_sound : (l : History) (p : TraceStep) (m : History) → IsSoundCurrent l → Extends l p m → IsSoundCurrent m
extended_sound l p m sound is =
    let i = is.inserts in
    let new = new_signal p.name in
    record {
      coded = subst IsCoded (sym (ap (λ u. u.coded) i.makes))
          (is_coded l.current.coded p.partition new i.copies i.graph sound.coded i.accepted.lawful i.insertion i.limits);
      proper = subst (λ (c : CodedGraph). IsProper c.graph) (sym (ap (λ u. u.coded) i.makes))
          (i.accepted.proper new i.copies i.graph i.insertion);
    }

-- ---- the classes of two sets
module _ (states : List (List ℕ)) (l : History) (own name : List ℕ) (plus minus : List Bool)
    (sound : IsSoundCurrent l) (sizes : (length plus ≡ l.current.coded.graph.states)
    × (length minus ≡ l.current.coded.graph.states)) (some : HasSome plus × HasSome minus)
    (disjoint : IsDisjoint plus minus) (free : IsTaken l.current.coded.graph.signals name → ⊥) where
  abbrev g : StateGraph
  g = l.current.coded.graph

  abbrev k : ℕ
  k = length l.trace + 1

  rises : some.0.0 < g.states
  rises = omega (arith, in_below plus some.0.0 some.0.1, sizes.0)

  falls : some.1.0 < g.states
  falls = omega (arith, in_below minus some.1.0 some.1.1, sizes.1)

  lawful : (classes : List Class) → AreClasses g plus minus classes → IsLawful g classes
  lawful classes are = classes_lawful g plus minus classes some.0.0 some.1.0 sound.coded.graph_is are some.0.1 rises
      some.1.1 falls

  parted_one : AtMostOne (parted g k plus minus)
  parted_one (Ok xs) (Ok ys) one other = ap Ok (classes_unique g plus minus xs ys some.0.0 some.1.0
      sound.coded.graph_is sound.coded.connected some.0.1 rises some.1.1 falls one other)
  parted_one (Ok xs) (Err r) one other = absurd (other.0 xs one)
  parted_one (Err r) (Ok xs) one other = absurd (one.0 xs other)
  parted_one (Err r) (Err q) one other = ap Err (one.1 ∙ sym other.1)

  parted_some : HasResult (parted g k plus minus)
  parted_some = elim (classes_or_torn g plus minus some.0.0 some.1.0 sound.coded.graph_is sound.coded.connected sizes.0
      sizes.1 disjoint some.0.1 some.1.1) [
        | inl (classes, are) ↦ (Ok classes, are)
        | inr (s, torn) ↦ (
          Err (answer.Rejected (reason.Classes k)),
          ((λ classes are. torn_have_none g plus minus classes s are torn), refl),
        )
      ]

  accepted_one : (classes : List Class) → IsLawful g classes → AtMostOne (accepted states l k own classes)
  accepted_one classes law (Ok x) (Ok y) one other = refl
  accepted_one classes law (Ok x) (Err r) one other =
      absurd (rejected_is_not l.current.coded classes other.0 sound.coded sound.proper law other.1 one)
  accepted_one classes law (Err r) (Ok x) one other =
      absurd (rejected_is_not l.current.coded classes one.0 sound.coded sound.proper law one.1 other)
  accepted_one classes law (Err r) (Err q) one other =
      ap Err (one.2 ∙ ap (told states l k own classes) (one_reason l.current.coded classes sound.coded sound.proper law
      one.0 other.0 one.1 other.1) ∙ sym other.2)

  accepted_some : (classes : List Class) → IsLawful g classes → HasResult (accepted states l k own classes)
  accepted_some classes law = elim (accepted_or_reason l.current.coded classes sound.coded sound.proper law) [
    | inl is ↦ (Ok tt, is)
    | inr (first, shows) ↦ (Err (told states l k own classes first), (first, shows, refl))
  ]

  extended_some : (classes : List Class) → IsAccepted g classes
      → HasResult (extended l (record { name = name; partition = classes }))
  extended_some classes is =
      let step : TraceStep = record { name = name; partition = classes } in
      let next = some_next l.current step sound.coded is free in
      let m : History = record { given = l.given; trace = l.trace ++ step ∷ []; current = next.0 } in
      (Ok m, record { given_stays = refl; trace_grows = refl; inserts = next.1.inserts })

  sets_one : AtMostOne (with_sets states l own name plus minus)
  sets_one = then_one _ _ parted_one (λ classes are. then_one _ _ (accepted_one classes (lawful classes are))
      (λ _ is. shows_one (Extends l (record { name = name; partition = classes }))
      (same_extended l (record { name = name; partition = classes }))))

  sets_some : HasResult (with_sets states l own name plus minus)
  sets_some = then_some _ _ parted_some (λ classes are. then_some _ _ (accepted_some classes (lawful classes are))
      (λ _ is. extended_some classes is))

-- ---- one insertion
pub free_name : (signals : List Signal) (own name : List ℕ) → IsNamedAmong signals own name → IsTaken signals name → ⊥
free_name signals own name (inl a) taken = a.0 (subst (IsTaken signals) a.1 taken)
free_name signals own name (inr b) taken = b.1.free taken

module _ (states : List (List ℕ)) (l : History) (own : List ℕ) (plus minus : List Bool) (sound : IsSoundCurrent l)
    (sizes : (length plus ≡ l.current.coded.graph.states) × (length minus ≡ l.current.coded.graph.states)) where
  abbrev signals : List Signal
  signals = l.current.coded.graph.signals

  insertion_one : AtMostOne (with_insertion states l own plus minus)
  insertion_one = then_one _ _ (shows_one (IsNamedAmong signals own) (one_named signals own))
      (λ name is. then_one _ _ (used_one own plus minus) (λ _ some. then_one _ _ (apart_one (length l.trace + 1) plus minus)
      (λ _ disjoint. sets_one states l own name plus minus sound sizes some disjoint (free_name signals own name is))))

  insertion_some : ((name : List ℕ) × IsNamedAmong signals own name) → HasResult (with_insertion states l own plus minus)
  insertion_some found = then_some _ _ (shows_some (IsNamedAmong signals own) found)
      (λ name is. then_some _ _ (used_some own plus minus) (λ _ some. then_some _ _ (apart_some (length l.trace + 1) plus minus)
      (λ _ disjoint. sets_some states l own name plus minus sound sizes some disjoint (free_name signals own name is))))

  insertion_extends : (m : History) → with_insertion states l own plus minus (Ok m)
      → (p : TraceStep) × Extends l p m × IsNamedAmong signals own p.name
  insertion_extends m all =
      let first = passed (named signals own) _ m all in
      let second = passed (used own plus minus) _ m first.2 in
      let third = passed (apart (length l.trace + 1) plus minus) _ m second.2 in
      let fourth = passed (parted l.current.coded.graph (length l.trace + 1) plus minus) _ m third.2 in
      let fifth = passed (accepted states l (length l.trace + 1) own fourth.0) _ m fourth.2 in
      (record { name = first.0; partition = fourth.0 }, fifth.2, first.1)

  pub insertion_keeps : (m : History) → with_insertion states l own plus minus (Ok m) → IsSoundCurrent m
  insertion_keeps m all = (let e = insertion_extends m all in extended_sound l e.0 m sound e.1)

-- ---- one line of a part
pub set_size : (view : PartView) (l : History) (words : List (List ℕ))
    → length (lifted_set view l words) ≡ l.current.coded.graph.states
set_size view l words =
    length-map-range_with_len (λ (s : ℕ). list_any (bytes_eq (own_word view l s)) words) 0 l.current.coded.graph.states

some_name : (signals : List Signal) (own : List ℕ) → length signals ≤ max_signals
    → (name : List ℕ) × IsNamedAmong signals own name
some_name signals own few = elim (taken_or_not signals own) [
  | inl taken ↦ (let fresh = some_fresh signals (letters own) few in (fresh.0, inr (taken, fresh.1)))
  | inr free ↦ (own, inl (free, refl))
]

module _ (states : List (List ℕ)) (view : PartView) where
  line_one : (l : History) (line : Insertion) → IsSoundCurrent l → AtMostOne (with_line states view l line)
  line_one l line sound = insertion_one states l line.name (lifted_set view l line.up) (lifted_set view l line.down) sound
      (set_size view l line.up, set_size view l line.down)

  line_some : (l : History) (line : Insertion) → IsSoundCurrent l → HasResult (with_line states view l line)
  line_some l line sound = insertion_some states l line.name (lifted_set view l line.up) (lifted_set view l line.down) sound
      (set_size view l line.up, set_size view l line.down)
      (some_name l.current.coded.graph.signals line.name sound.coded.graph_is.few_signals)

  line_keeps : (l : History) (line : Insertion) (m : History) → IsSoundCurrent l → with_line states view l line (Ok m)
      → IsSoundCurrent m
  line_keeps l line m sound all = insertion_keeps states l line.name (lifted_set view l line.up)
      (lifted_set view l line.down) sound (set_size view l line.up, set_size view l line.down) m all

-- ---- all lines of all parts
module _ (states tuples : List (List ℕ)) where
  part_keeps : (l : History) (p : ℕ × (Sg × Netlist)) (m : History) → IsSoundCurrent l
      → with_part states tuples l p (Ok m) → IsSoundCurrent m
  part_keeps l p m sound all =
      let view = view_of tuples l p.0 p.1.0 in
      along_keeps (with_line states view) IsSoundCurrent (line_keeps states view) l p.1.1.inserts m sound all

  part_one : (l : History) (p : ℕ × (Sg × Netlist)) → IsSoundCurrent l → AtMostOne (with_part states tuples l p)
  part_one l p sound =
      let view = view_of tuples l p.0 p.1.0 in
      along_one (with_line states view) IsSoundCurrent (line_keeps states view) (line_one states view) l p.1.1.inserts sound

  part_some : (l : History) (p : ℕ × (Sg × Netlist)) → IsSoundCurrent l → HasResult (with_part states tuples l p)
  part_some l p sound =
      let view = view_of tuples l p.0 p.1.0 in
      along_some (with_line states view) IsSoundCurrent (line_keeps states view) (line_some states view) l p.1.1.inserts
      sound

  pub parts_one : (l : History) (given : List Sg) (netlists : List Netlist) → IsSoundCurrent l
      → AtMostOne (with_parts states tuples l given netlists)
  parts_one l given netlists sound =
      along_one (with_part states tuples) IsSoundCurrent part_keeps part_one l (numbered 0 (zip given netlists)) sound

  pub parts_some : (l : History) (given : List Sg) (netlists : List Netlist) → IsSoundCurrent l
      → HasResult (with_parts states tuples l given netlists)
  parts_some l given netlists sound =
      along_some (with_part states tuples) IsSoundCurrent part_keeps part_some l (numbered 0 (zip given netlists)) sound
