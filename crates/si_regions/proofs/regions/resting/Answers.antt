use Rattle.std.proofs.Common.{◌<◌, ◌≤◌, ◌∙◌, ap, sym, refl, arith}
use Rattle.std.proofs.lemmas.Bool.{true≢false}
use Rattle.si_base.specs.Graph.{StateGraph}
use Rattle.si_regions.specs.Regions.{IsQuiet}
use Rattle.si_regions.proofs.RegionLemmas.{IsStateOf, made_more, made_pass, states_all}
use Rattle.si_regions.proofs.regions.resting.Goals as goal
use Rattle.si_regions.proofs.regions.resting.Goals.{then-rests_at, else-rests_at}

pub loop-k-preserved : goal.loop-k-preserved
loop-k-preserved c =
    let d = c.args.coded.now in
    let k = c.loop-k.k in
    let Quiet = IsStateOf (IsQuiet d c.args.e.now) in
    let states = c.states-k-end.ensures ∙ ap (λ (h : StateGraph). h.states) c.graph-g.ensures.same in
    let below : k < d.graph.states = omega (arith, c.loop-k-test.true, states) in
    elim c.if-rests_at.branch [
      | then-rests_at w ↦ rw (w.set-is ∙ w.add.ensures) (record {
        made = made_more Quiet d.graph.states k k c.loop-k.set below
            (c.rests_at.ensures.0 w.if-rests_at.true, refl) (λ u quiet. sym quiet.1) c.loop-k.invariant.made;
        most = omega (arith, below);
      })
      | else-rests_at w ↦ rw w.set-is (record {
        made = made_pass Quiet d.graph.states k c.loop-k.set
            (λ u quiet. true≢false (sym (c.rests_at.ensures.1 quiet.0) ∙ w.if-rests_at.false)) c.loop-k.invariant.made;
        most = omega (arith, below);
      })
    ]

pub returns : goal.returns
returns c =
    let d = c.args.coded.now in
    let states = c.states-k-end.ensures ∙ ap (λ (h : StateGraph). h.states) c.graph-g.ensures.same in
    let all : d.graph.states ≤ c.loop-k.k = omega (arith, c.loop-k-test.false, states) in
    states_all d.graph (IsQuiet d c.args.e.now) c.loop-k.k c.loop-k.set all c.loop-k.invariant.made
    c.loop-k.invariant.most
