-- What an unfit signal tells holds of each inserted graph.
use Rattle.std.proofs.Common.{◌≡◌, ℕ, true, List, All, Option, Some, None, is_some}
use Rattle.std.proofs.Common.{Bool, is_none, ap, subst, ◌∙◌, arith, inl, inr}
use Rattle.std.specs.Prelude.{IfSome}
use Rattle.std.proofs.lemmas.Bool.{cases_Bool}
use Rattle.std.specs.Prelude.{Vec}
use Rattle.std.specs.Global.{Global}
use Rattle.si_base.specs.Codes.{CodedGraph, IsCoded}
use Rattle.si_base.specs.Graph.{StateGraph}
use Rattle.si_base.specs.declared.graph.Signal.{Signal}
use Rattle.si_cell.specs.Library.{Library}
use Rattle.si_insert.specs.declared.partition.Class.{Class}
use Rattle.si_insert.specs.declared.partition.Class.TheVariants.{Low, High}
use Rattle.si_insert.specs.Insertion.{Copy, IsInsertedGraph, coded}
use Rattle.si_insert.specs.Partition.{IsLawful}
use Rattle.si_match.specs.Fit.{first_fit}
use Rattle.si_match.proofs.UnfitLemmas.{unfit_adds}
use Rattle.si_bounds.specs.declared.needs.Need.{Need}
use Rattle.si_bounds.specs.declared.unfit.Unfit.{Unfit}
use Rattle.si_bounds.specs.Loops.Least.{AddsAtLeast}
use Rattle.si_bounds.specs.Loops.Needs.{AreNeeds, AreStable, HasSize, is_high, is_low}
use Rattle.si_bounds.specs.Loops.Supports.{HasAll}
use Rattle.si_bounds.specs.Loops.Waiting.{NeverWaits}
use Rattle.si_bounds.specs.Loops.Unfit.{IsUnfitOfSize, KnowsUnfit, TellsUnmet}
use Rattle.si_bounds.proofs.WaitingFits.{none_first}

-- ---- stable states
module _ (classes : List Class) (high low : List Bool) (stable : AreStable classes high low) where
  pub all_high : HasAll classes High high
  all_high s within is = stable.are_high s within ∙ ap is_high is

  pub all_low : HasAll classes Low low
  all_low s within is = stable.are_low s within ∙ ap is_low is

-- ---- one signal
module _ (c : CodedGraph) (library : Library) (z : ℕ) (unfit : Unfit) (knows : KnowsUnfit c library z unfit) where
  -- its sets are of the size of the graph
  pub sets_of_graph : IsUnfitOfSize c.graph.states unfit
  sets_of_graph = record {
    needs = sized unfit.needs knows.needs;
    support = knows.support.of_size;
  }
    where
      sized : (o : Option (Vec Need Global)) → IfSome o (λ needs. AreNeeds c library z needs.items)
          → IfSome o (λ needs. All (HasSize c.graph.states) needs.items)
      sized None known = known
      sized (Some needs) known = known.sizes

  -- where the classes meet no need, the signal adds what it tells
  module _ (classes : List Class) (high low : List Bool) (stable : AreStable classes high low) (least : ℕ)
      (tells : TellsUnmet classes high low unfit least) where
    none_fits : (new : Signal) (copies : List Copy) (h : StateGraph) → IsLawful c.graph classes
        → IsInsertedGraph c.graph classes new copies h → IsCoded (coded c copies h)
        → NeverWaits c.graph classes z → is_none (first_fit (coded c copies h) library z) ≡ true
    none_fits new copies h lawful inserted made never =
        let (needs, are, unmet) = tells.none in
        let known : AreNeeds c library z needs.items =
        subst (λ o. IfSome o (λ ns. AreNeeds c library z ns.items)) are knows.needs in
        let fits = known.fits knows.none_fits classes new copies h lawful inserted made never in
        let first = first_fit (coded c copies h) library z in
        elim (cases_Bool (is_some first)) [
          | inl some ↦ absurd (unmet (fits.0 some))
          | inr none ↦ ap is_none (none_first first none)
        ]

    pub unmet_adds : AddsAtLeast c library classes z least
    unmet_adds new copies h lawful inserted made none never =
        let adds = unfit_adds (coded c copies h) library z
        (none_fits new copies h lawful inserted made never) in
        let size = tells.bounds c z knows.support classes new copies h lawful inserted made none never
        (all_high classes high low stable) (all_low classes high low stable) in
        let told = tells.told in
        omega (arith, adds, size, told)
