use Rattle.std.proofs.Common.{◌<◌, ◌≤◌, ◌∙◌, sym, refl, arith}
use Rattle.std.proofs.lemmas.Bool.{true≢false}
use Rattle.si_candidates.specs.Parts.{IsOther}
use Rattle.si_regions.proofs.RegionLemmas.{IsStateOf, made_more, made_pass}
use Rattle.si_candidates.proofs.PartLemmas.{outside_all}
use Rattle.si_candidates.proofs.parts.states_outside.Goals as goal
use Rattle.si_candidates.proofs.parts.states_outside.Goals.{then-is_outside, else-is_outside}

pub loop-k-preserved : goal.loop-k-preserved
loop-k-preserved c =
    let g = c.args.graph.now in
    let k = c.loop-k.k in
    let Other = IsStateOf (IsOther g c.args.plus.now c.args.minus.now) in
    let below : k < g.states = omega (arith, c.loop-k-test.true, c.states-k-end.ensures) in
    elim c.if-is_outside.branch [
      | then-is_outside w ↦ (
          let outside = c.is_outside.ensures.0 w.if-is_outside.true in
          rw (w.set-is ∙ w.add.ensures) (record {
            made = made_more Other g.states k k c.loop-k.set below
                (record { within = below; not_plus = outside.0; not_minus = outside.1 }, refl)
                (λ u other. sym other.1) c.loop-k.invariant.made;
            most = omega (arith, below);
          }))
      | else-is_outside w ↦ rw w.set-is (record {
        made = made_pass Other g.states k c.loop-k.set
            (λ u other. true≢false (sym (c.is_outside.ensures.1 (other.0.not_plus, other.0.not_minus))
            ∙ w.if-is_outside.false)) c.loop-k.invariant.made;
        most = omega (arith, below);
      })
    ]

pub returns : goal.returns
returns c =
    let g = c.args.graph.now in
    let all : g.states ≤ c.loop-k.k = omega (arith, c.loop-k-test.false, c.states-k-end.ensures) in
    outside_all g c.args.plus.now c.args.minus.now c.loop-k.k c.loop-k.set all c.loop-k.invariant.made
    c.loop-k.invariant.most
