use Rattle.std.proofs.Common.{◌≡◌, ◌++◌, ◌∷◌, [], sym, subst}
use Rattle.si_base.specs.Words.{text_of}
use Rattle.si_breaches.specs.BreachText.{clash_lines, value_line}
use Rattle.si_breaches.specs.Breaches.{by_arc}
use Rattle.si_breaches.specs.declared.clashes.Clash.{Clash}
use Rattle.si_breaches.proofs.BreachLines.{both_added}
use Rattle.si_breaches.proofs.breach_lines.add_clash.Goals as goal

pub returns-in_ok-add_to-in-Torn : goal.returns-in_ok-add_to-in-Torn
returns-in_ok-add_to-in-Torn c = λ walk walks.
    let g = c.args.graph.now in
    let states = c.args.states.now in
    let a = c.args.a in
    let x = c.in-Torn.x in
    subst (λ (k : Clash). c.add_to.new.text ≡ c.args.text.now ++ text_of (clash_lines g.signals states walk a k))
    (sym c.in-Torn.is)
    (both_added g (λ w. value_line g.signals states a x.to (by_arc w x) ∷ [])
    (λ w. value_line g.signals states a x.to (w x.to) ∷ []) c.args.text.now _ c.add_to.new.text
    c.in_ok-add_by_arc-in-Torn.ensures c.in_ok-add_to-in-Torn.ensures walk walks)

pub returns-in_ok-add_by_arc-in-Apart-2 : goal.returns-in_ok-add_by_arc-in-Apart-2
returns-in_ok-add_by_arc-in-Apart-2 c = λ walk walks.
    let g = c.args.graph.now in
    let states = c.args.states.now in
    let a = c.args.a in
    let x = c.in-Apart.x in
    let y = c.in-Apart.y in
    let new = c.add_by_arc-in-Apart-2.new.text in
    subst (λ (k : Clash). new ≡ c.args.text.now ++ text_of (clash_lines g.signals states walk a k))
    (sym c.in-Apart.is)
    (both_added g (λ w. value_line g.signals states a x.to (by_arc w x) ∷ [])
    (λ w. value_line g.signals states a y.to (by_arc w y) ∷ []) c.args.text.now _ new
    c.in_ok-add_by_arc-in-Apart.ensures c.in_ok-add_by_arc-in-Apart-2.ensures walk walks)
