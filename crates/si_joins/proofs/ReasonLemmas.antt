-- What a reason against an insertion shows is there.
use Rattle.std.proofs.Common.{◌≡◌, ℕ, ◌+◌, ◌<◌, List, [], ◌∷◌, ◌++◌, take, get_or, length, subst, ap, ◌∙◌, arith}
use Rattle.std.proofs.lemmas.Option.{slice_get_within}
use Rattle.si_base.specs.Codes.{CodedGraph, IsCoded}
use Rattle.si_base.specs.Proper.{IsProper, Loss}
use Rattle.si_base.proofs.StepCodes.{step_within}
use Rattle.si_insert.specs.Accepted.{ShowsRejected, copy_count}
use Rattle.si_insert.specs.Partition.{IsLawful}
use Rattle.si_insert.specs.declared.accept.Rejected.{Rejected}
use Rattle.si_insert.specs.declared.accept.Rejected.TheVariants as why
use Rattle.si_insert.specs.declared.partition.Class.{Class}
use Rattle.si_insert.specs.declared.partition.Class.TheVariants.{Falling, High, Low, Rising}
use Rattle.si_insert.proofs.AcceptedLosses.{breaks_if_loses}
use Rattle.si_joins.specs.Loops.Parts.{ShowsWithin}
use Rattle.si_works.proofs.EachLemmas.{next, taken_more}

module _ (c : CodedGraph) (classes : List Class) (is : IsCoded c) (proper : IsProper c.graph)
    (lawful : IsLawful c.graph classes) where
  pub shows_within : (w : Rejected) → ShowsRejected c.graph classes w → ShowsWithin c.graph w
  shows_within (why.DelaysInput s e) shows =
      let d = shows.holds in (
        subst (λ (n : ℕ). n < c.graph.states) d.at d.is_copy.within,
        slice_get_within c.graph.signals e.sig d.input.0 d.input.1,
      )
  shows_within (why.BreaksPersistency s lost by) shows =
      let b : Loss = record { s = s; lost = lost; by = by } in
      let w = breaks_if_loses c.graph classes b is.graph_is proper.persistent lawful shows.1.holds in
      let first = step_within c.graph s lost w.t is.graph_is w.first in
      let other = step_within c.graph s by w.u is.graph_is w.other in
      (first.0, first.1, other.1)
  shows_within (why.TooLarge count) shows = tt
  shows_within why.NoCodeBit shows = tt

-- ---- copies, one class after another
count_one : (class : Class) (classes : List Class)
    → copy_count (class ∷ classes) ≡ copy_count (class ∷ []) + copy_count classes
count_one Low classes = omega arith
count_one Rising classes = omega arith
count_one High classes = omega arith
count_one Falling classes = omega arith

count_added : (classes : List Class) (class : Class)
    → copy_count (classes ++ class ∷ []) ≡ copy_count classes + copy_count (class ∷ [])
count_added [] class = omega arith
count_added (x ∷ classes) class =
    let first = count_one x (classes ++ class ∷ []) in
    let later = count_added classes class in
    let whole = count_one x classes in
    omega (arith, first, later, whole)

pub count_more : (classes : List Class) (k : ℕ) (class : Class) → k < length classes → class ≡ get_or classes k class
    → copy_count (take (k + 1) classes) ≡ copy_count (take k classes) + copy_count (class ∷ [])
count_more classes k class below at =
    ap (λ (n : ℕ). copy_count (take n classes)) (next k) ∙ ap copy_count (taken_more classes k class below at)
    ∙ count_added (take k classes) class
