use Rattle.std.proofs.Common.{◌≤◌, ◌∙◌, ℕ, List, arith, length, subst, sym, true, false}
use Rattle.std.proofs.lemmas.List.{take_all}
use Rattle.si_match.specs.Loops.Apart.{AreCodesAmong}
use Rattle.si_match.proofs.ApartLemmas.{none_split, off_joined, on_joined}
use Rattle.si_match.proofs.apart.codes_among.Goals as goal
use Rattle.si_match.proofs.apart.codes_among.Goals.{then-next_value, else-next_value}

pub loop-state-init : goal.loop-state-init
loop-state-init c = rw (c.new-on.ensures, c.new-off.ensures)
    (none_split c.args.coded.now c.args.z c.args.states.now)

pub loop-state-preserved : goal.loop-state-preserved
loop-state-preserved c =
    let coded = c.args.coded.now in
    let states = c.args.states.now in
    let k = c.loop-state.state-index in
    let code_is = c.code.view_is ∙ c.code-code.ensures in
    elim c.if-next_value.branch [
      | then-next_value w ↦ rw (w.on-is, w.off-is, w.push.ensures.items)
          (on_joined coded c.args.z states k c.loop-state.on.items c.loop-state.off.items c.loop-state.invariant
          c.loop-state-test.true c.code.inside.0 code_is (sym c.next_value.ensures ∙ w.if-next_value.true))
      | else-next_value w ↦ rw (w.on-is, w.off-is, w.push-else-next_value.ensures.items)
          (off_joined coded c.args.z states k c.loop-state.on.items c.loop-state.off.items c.loop-state.invariant
          c.loop-state-test.true c.code.inside.0 code_is (sym c.next_value.ensures ∙ w.if-next_value.false))
    ]

pub returns-clause-on : goal.returns-clause-on
returns-clause-on c =
    let past : length c.args.states.now ≤ c.loop-state.state-index = omega (arith, c.loop-state-test.false) in
    subst (λ (xs : List ℕ). AreCodesAmong c.args.coded.now c.args.z true xs c.loop-state.on.items)
    (take_all c.loop-state.state-index c.args.states.now past) c.loop-state.invariant.on_are

pub returns-clause-off : goal.returns-clause-off
returns-clause-off c =
    let past : length c.args.states.now ≤ c.loop-state.state-index = omega (arith, c.loop-state-test.false) in
    subst (λ (xs : List ℕ). AreCodesAmong c.args.coded.now c.args.z false xs c.loop-state.off.items)
    (take_all c.loop-state.state-index c.args.states.now past) c.loop-state.invariant.off_are
