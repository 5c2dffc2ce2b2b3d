-- A signal that rises and falls over two sets can't be inserted for one reason.
use Rattle.std.proofs.Common.{◌≡◌, ℕ, ◌<◌, Bool, List, [], ◌∷◌, length, refl, sym, ap, subst, arith}
use Rattle.si_base.specs.Codes.{CodedGraph, IsCoded}
use Rattle.si_base.specs.Order.{IsFirst}
use Rattle.si_base.specs.Proper.{IsProper}
use Rattle.si_base.specs.Sets.{IsIn}
use Rattle.si_checks.proofs.SearchFirst.{firsts_at_one_place}
use Rattle.si_graph.proofs.SearchLemmas.{in_below}
use Rattle.si_insert.specs.declared.accept.Rejected.{Rejected}
use Rattle.si_insert.specs.declared.partition.Class.{Class}
use Rattle.si_insert.specs.Accepted.{ShowsRejected}
use Rattle.si_candidates.specs.Parts.{AreClasses}
use Rattle.si_candidates.proofs.PartLaws.{classes_lawful, classes_unique, torn_have_none}
use Rattle.si_audit.proofs.OneFaultReason.{one_reason}
use Rattle.si_finder.specs.declared.not_found.Obstacle.{Obstacle}
use Rattle.si_finder.specs.declared.not_found.Obstacle.TheVariants.{NeverUp, NeverDown, Both, Classes, Refused}
use Rattle.si_finder.specs.NotFound.{IsObstacle, SwitchesBothWays}

pub one_state : (P : ℕ → Type 0) (s t : ℕ) → IsFirst (λ (k : ℕ). k ∷ []) P s → IsFirst (λ (k : ℕ). k ∷ []) P t → s ≡ t
one_state P s t one other =
    let place : s ∷ [] ≡ t ∷ [] = firsts_at_one_place (λ (k : ℕ). k ∷ []) P s t refl one other in cc

module _ (d : CodedGraph) (plus minus : List Bool) (is : IsCoded d) (proper : IsProper d.graph)
    (plus_size : length plus ≡ d.graph.states) (minus_size : length minus ≡ d.graph.states) where
  one_refusal : (xs ys : List Class) (why other : Rejected) → SwitchesBothWays plus minus
      → AreClasses d.graph plus minus xs → AreClasses d.graph plus minus ys → ShowsRejected d.graph xs why
      → ShowsRejected d.graph ys other → why ≡ other
  one_refusal xs ys why other both xs_are ys_are shows also =
      let r = both.rises in
      let f = both.falls in
      let r_in : r.0 < d.graph.states = (let b = in_below plus r.0 r.1 in omega (arith, b, plus_size)) in
      let f_in : f.0 < d.graph.states = (let b = in_below minus f.0 f.1 in omega (arith, b, minus_size)) in
      let same =
      classes_unique d.graph plus minus xs ys r.0 f.0 is.graph_is is.connected r.1 r_in f.1 f_in xs_are ys_are in
      let lawful = classes_lawful d.graph plus minus xs r.0 f.0 is.graph_is xs_are r.1 r_in f.1 f_in in
      one_reason d xs is proper lawful why other shows
      (subst (λ (zs : List Class). ShowsRejected d.graph zs other) (sym same) also)

  pub one_obstacle : (a b : Obstacle) → IsObstacle d.graph plus minus a → IsObstacle d.graph plus minus b → a ≡ b
  one_obstacle NeverUp NeverUp x y = refl
  one_obstacle NeverUp NeverDown x y = absurd (x y.0.0 y.0.1)
  one_obstacle NeverUp (Both t) x y = absurd (x y.0.0 y.0.1)
  one_obstacle NeverUp (Classes t) x y = absurd (x y.0.rises.0 y.0.rises.1)
  one_obstacle NeverUp (Refused r) x y = absurd (x y.0.rises.0 y.0.rises.1)
  one_obstacle NeverDown NeverUp x y = absurd (y x.0.0 x.0.1)
  one_obstacle NeverDown NeverDown x y = refl
  one_obstacle NeverDown (Both t) x y = absurd (x.1 y.1.0 y.1.1)
  one_obstacle NeverDown (Classes t) x y = absurd (x.1 y.0.falls.0 y.0.falls.1)
  one_obstacle NeverDown (Refused r) x y = absurd (x.1 y.0.falls.0 y.0.falls.1)
  one_obstacle (Both s) NeverUp x y = absurd (y x.0.0 x.0.1)
  one_obstacle (Both s) NeverDown x y = absurd (y.1 x.1.0 x.1.1)
  one_obstacle (Both s) (Both t) x y =
      ap (λ (k : ℕ). Both k) (one_state (λ (k : ℕ). IsIn plus k × IsIn minus k) s t x.2 y.2)
  one_obstacle (Both s) (Classes t) x y = absurd (y.0.apart s x.2.holds.0 x.2.holds.1)
  one_obstacle (Both s) (Refused r) x y = absurd (y.0.apart s x.2.holds.0 x.2.holds.1)
  one_obstacle (Classes s) NeverUp x y = absurd (y x.0.rises.0 x.0.rises.1)
  one_obstacle (Classes s) NeverDown x y = absurd (y.1 x.0.falls.0 x.0.falls.1)
  one_obstacle (Classes s) (Both t) x y = absurd (x.0.apart t y.2.holds.0 y.2.holds.1)
  one_obstacle (Classes s) (Classes t) x y = ap (λ (k : ℕ). Classes k) (one_state _ s t x.1 y.1)
  one_obstacle (Classes s) (Refused r) x y =
      absurd (torn_have_none d.graph plus minus y.1.0 s y.1.1 x.1.holds)
  one_obstacle (Refused r) NeverUp x y = absurd (y x.0.rises.0 x.0.rises.1)
  one_obstacle (Refused r) NeverDown x y = absurd (y.1 x.0.falls.0 x.0.falls.1)
  one_obstacle (Refused r) (Both t) x y = absurd (x.0.apart t y.2.holds.0 y.2.holds.1)
  one_obstacle (Refused r) (Classes t) x y =
      absurd (torn_have_none d.graph plus minus x.1.0 t x.1.1 y.1.holds)
  one_obstacle (Refused r) (Refused q) x y =
      ap (λ (w : Rejected). Refused w) (one_refusal x.1.0 y.1.0 r q x.0 x.1.1 y.1.1 x.1.2 y.1.2)
