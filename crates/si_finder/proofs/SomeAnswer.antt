-- A graph and a netlist for it have an answer: a lineage that fits, or a reason that isn't want of memory.
use Rattle.std.proofs.Common.{◌≢◌, ℕ, zero, suc, ◌<◌, ◌≤◌, ◌+◌, ◌⊎◌, ◌++◌, ◌∷◌, [], List, length}
use Rattle.std.proofs.Common.{Result, Ok, Err, refl, sym, subst, arith, inl, inr}
use Rattle.std.proofs.lemmas.Bool.{cases_lt}
use Rattle.si_base.specs.Codes.{CodedGraph, IsCoded}
use Rattle.si_base.specs.Netlist.{Netlist}
use Rattle.si_base.specs.Proper.{IsProper}
use Rattle.si_base.specs.System.{IsFor}
use Rattle.si_base.specs.WellFormed.{IsNetlist}
use Rattle.si_insert.specs.declared.lineage.TraceStep.{TraceStep}
use Rattle.si_insert.specs.Built.{IsBuilt}
use Rattle.si_insert.specs.Lineage.{Extends, History, Keeps, given_history}
use Rattle.si_insert.proofs.InsertionsExist.{some_next as some_inserted}
use Rattle.si_audit.proofs.WalkSignals.{none_inserted}
use Rattle.si_found.specs.Found.{Fits}
use Rattle.si_found.proofs.NoneFits.{found_fit}
use Rattle.si_reached.specs.Laws.{AreTold}
use Rattle.si_reached.specs.declared.reached.Wild.{Wild}
use Rattle.si_reached.specs.declared.reached.Wild.TheVariants.{NoMemory as NoRoom, TooMany as Crowd, Astray as Strays}
use Rattle.si_reached.specs.declared.state.Reached.{Reached}
use Rattle.si_reached.proofs.ListLemmas.{some_at}
use Rattle.si_reached.proofs.ToldExists.{told_or_wild}
use Rattle.si_finder.specs.declared.next.Next.{Next}
use Rattle.si_finder.specs.declared.next.Next.TheVariants.{Found, Stopped}
use Rattle.si_finder.specs.declared.not_found.NotFound.{NotFound}
use Rattle.si_finder.specs.declared.not_found.NotFound.TheVariants.{NoMemory, Hindered, Unbuilt}
use Rattle.si_finder.specs.declared.not_found.Obstacle.{Obstacle}
use Rattle.si_finder.specs.Laws.{AnswersExist, IsAnswer}
use Rattle.si_finder.specs.Loops.Next.{IsNextFor}
use Rattle.si_finder.specs.Loops.Steps.{FindsNext, IsFoundTo}
use Rattle.si_finder.specs.Loops.Wild.{not_found_of}
use Rattle.si_finder.specs.NotFound.{FindsAll, IsHindered}
use Rattle.si_finder.proofs.FindLemmas.{wild_shows}
use Rattle.si_finder.proofs.NoneFound.{found_keeps}
use Rattle.si_finder.proofs.SomeDifference.{built_or_different}
use Rattle.si_finder.proofs.SomeNext.{some_next}
use Rattle.si_finder.proofs.StepLemmas.{all_found, begins, ends_there, found_next, goes_on, next_free, next_named}

wild_is_told : (w : Wild) → w ≢ NoRoom → not_found_of w ≢ NoMemory
wild_is_told NoRoom other same = other refl
wild_is_told Crowd other same = cc
wild_is_told (Strays at sig) other same = cc

module _ (c : CodedGraph) (n : Netlist) (is : IsCoded c) (proper : IsProper c.graph) (netlist : IsNetlist n)
    (fits : IsFor c n) (xs : List Reached) (told : AreTold c.graph n xs) where
  -- ---- one hidden signal after another
  module _ (z : ℕ) (l : History) (to : IsFoundTo c n z l) (within : z < length n.signals) where
    abbrev Step : Type 0
    Step = ((m : History) × FindsNext n l m) ⊎ ((why : Obstacle) × IsHindered c n l why)

    kept : Keeps c l.current
    kept = found_keeps c n l is proper to.found

    step_by : (next : Next) → IsNextFor l.given.graph n l.current next → Step
    step_by (Stopped why) hinders =
        inr (why, ends_there c n z l to within (Hindered l why) (refl, hinders))
    step_by (Found classes) tells =
        let x = some_at n.signals z within in
        let p : TraceStep = record { name = x.0.name; partition = classes } in
        let free = next_free c n z l to within netlist x.0 x.1 in
        let made = some_inserted l.current p kept.coded tells.accepted free in
        let m : History = record { given = l.given; trace = l.trace ++ p ∷ []; current = made.0 } in
        let extends : Extends l p m =
        record { given_stays = refl; trace_grows = refl; inserts = made.1.inserts } in
        inl (m, found_next n l m x.0.name classes tells (next_named c n z l to within x.0 x.1) extends)

    step : Step
    step =
        let here = subst (λ (d : CodedGraph). AreTold d.graph n xs) (sym to.found.given_is) told in
        let next = some_next l.given.graph n l.current xs here kept.coded kept.proper in
        step_by next.0 next.1

  abbrev Ends : Type 0
  Ends = ((l : History) × FindsAll c n l) ⊎ ((l : History) × (why : Obstacle) × IsHindered c n l why)

  walk : (fuel z : ℕ) (l : History) → IsFoundTo c n z l → length n.signals ≤ z + fuel → Ends
  walk zero z l to enough = inl (l, all_found c n z l to (omega (arith, enough)))
  walk (suc fuel) z l to enough = elim (cases_lt z (length n.signals)) [
    | inr past ↦ inl (l, all_found c n z l to past)
    | inl within ↦ elim (step z l to within) [
      | inr stopped ↦ inr (l, stopped.0, stopped.1)
      | inl next ↦
          walk fuel (z + 1) next.0 (goes_on c n z l to within next.0 next.1) (omega (arith, enough))
    ]
  ]

  ends : Ends
  ends =
      let z = length c.graph.signals in
      walk (length n.signals) z (given_history c) (begins c n z (given_history c) netlist fits refl refl)
      (omega arith)

  -- ---- the last graph
  abbrev Answer : Type 0
  Answer = (r : Result History NotFound) × IsAnswer c n r

  built_fits : (l : History) → FindsAll c n l → IsBuilt l.current n → Fits c n l
  built_fits l all built =
      let fitted = found_fit c n l.trace l.current is proper (none_inserted c n fits) all.found.trace built in
      subst (λ (d : CodedGraph). Fits c n (record { given = d; trace = l.trace; current = l.current }))
      (sym all.found.given_is) fitted

  last : (l : History) → FindsAll c n l → Answer
  last l all =
      let given = sym all.found.given_is in
      let here = subst (λ (d : CodedGraph). IsFor d n) given fits in
      let kept_here =
      subst (λ (d : CodedGraph). Keeps d l.current) given (found_keeps c n l is proper all.found) in
      elim (built_or_different l n netlist here kept_here all.signals) [
        | inl built ↦ (Ok l, built_fits l all built)
        | inr why ↦ (Err (Unbuilt l why.0), (((xs, told), all, why.1), (λ same. cc)))
      ]

  answer_told : Answer
  answer_told = elim ends [
    | inl all ↦ last all.0 all.1
    | inr stopped ↦ (Err (Hindered stopped.0 stopped.1), (((xs, told), stopped.2), (λ same. cc)))
  ]

pub answers_exist : AnswersExist
answers_exist c n is proper netlist fits = elim (told_or_wild c.graph n) [
  | inl told ↦ answer_told c n is proper netlist fits told.0 told.1
  | inr wild ↦ (
    Err (not_found_of wild.0),
    (wild_shows c n wild.0 wild.1, wild_is_told wild.0 wild.2),
  )
]
