use Rattle.std.proofs.Common.{◌≤◌, ◌∙◌, ℕ, ap, arith, length, subst, sym}
use Rattle.si_base.specs.declared.graph.Signal.{Signal}
use Rattle.si_base.specs.Graph.{StateGraph}
use Rattle.si_bounds.specs.Loops.Needs.{AreToldOver}
use Rattle.si_bounds.proofs.NeedChoices.{all_choices, none_told, one_choice, origins, told_at_once, told_if_known}
use Rattle.si_bounds.proofs.needs.+add_further.Goals as goal

pub returns-then-more-eq0-clause-told : goal.returns-then-more-eq0-clause-told
returns-then-more-eq0-clause-told t c =
    let at_once = told_at_once c.args.coded.now c.args.z c.args.tables.now c.args.chosen.now c.args.needs.now.items
    c.requires.sizes c.add_over.new.needs.items in
    told_if_known c.add_over.result (λ exact told. subst (λ (n : ℕ). AreToldOver c.args.coded.now c.args.z
    c.args.tables.now c.args.chosen.now n c.add_over.new.needs.items) (sym c.if-more-eq0.true) (at_once exact told))
    c.add_over.ensures.no_more c.add_over.ensures.told

pub loop-y-init : goal.loop-y-init
loop-y-init t c = none_told c.args.coded.now c.args.z c.args.tables.now c.args.chosen.now c.args.needs.now.items
    c.requires.sizes c.in_ok-read.read.items c.args.more

pub returns-then-not-branch-clause-no_more : goal.returns-then-not-branch-clause-no_more
returns-then-not-branch-clause-no_more t c =
    origins c.args.coded.now c.args.z c.args.tables.now c.args.chosen.now c.args.needs.now.items
    c.requires.sizes c.in_ok-read.read.items c.args.more c.loop-y.y c.chosen_tables-those.result.now c.eq.result
    c.eq.ensures c.chosen_tables-those.ensures.all
    (λ other. c.chosen_tables-those.ensures.read other ∙ c.deref.ensures.value)
    c.in_ok-read.ensures.within c.deref-in-loop-y.result.now c.loop-y.needs.items c.add_further.new.needs.items
    (c.deref-in-loop-y.ensures.value ∙ c.in_ok-next.ensures) c.loop-y.invariant c.in_ok-add_further.ensures.no_more

pub loop-y-preserved : goal.loop-y-preserved
loop-y-preserved t c =
    one_choice c.args.coded.now c.args.z c.args.tables.now c.args.chosen.now c.args.needs.now.items
    c.requires.sizes c.in_ok-read.read.items c.args.more c.loop-y.y c.chosen_tables-those.result.now c.eq.result
    c.eq.ensures c.chosen_tables-those.ensures.all
    (λ other. c.chosen_tables-those.ensures.read other ∙ c.deref.ensures.value)
    c.in_ok-read.ensures.within c.deref-in-loop-y.result.now c.loop-y.needs.items c.add_further.new.needs.items
    (c.deref-in-loop-y.ensures.value ∙ c.in_ok-next.ensures) c.loop-y.invariant c.in_ok-add_further.ensures.no_more
    (c.in_ok-add_further.ensures.told c.if-not-branch.false) c.in_ok-add_further.ensures.kept

pub returns-clause-told : goal.returns-clause-told
returns-clause-told t c = λ _. (
    let count = c.signals-y-end.ensures ∙ ap (λ (g : StateGraph). g.signals) c.graph.ensures.same in
    let past : length c.args.coded.now.graph.signals ≤ c.loop-y.y =
    omega (arith, c.loop-y-test.false, ap (length {A = Signal}) count) in
    all_choices c.args.coded.now c.args.z c.args.tables.now c.args.chosen.now c.args.needs.now.items c.requires.sizes
    c.in_ok-read.read.items c.args.more c.loop-y.y c.loop-y.needs.items (omega (arith, c.if-more-eq0.false))
    (omega (arith, c.requires.few, c.if-more-eq0.false)) c.requires.signal past c.in_ok-read.ensures.others
    c.loop-y.invariant)
