use Rattle.std.proofs.Common.{◌≡◌, ◌∙◌, Bool, List, ℕ, Ok, IsTrue, length, sym, ap, subst, subst₂}
use Rattle.std.proofs.lemmas.Result.{IfOk-weaker}
use Rattle.si_base.specs.Words.{is_signal_name}
use Rattle.si_insert.specs.Lineage.{History}
use Rattle.si_joins.specs.Lifted.{lifted_set}
use Rattle.si_joins.specs.Steps.{with_insertion, with_line}
use Rattle.si_joins.proofs.StepAnswers.{set_size}
use Rattle.si_readings.proofs.ReadingRefusals.{err_map}
use Rattle.si_refusals.specs.Ending.{MayStop}
use Rattle.si_joins.proofs.lines.with_line.Goals as goal

pub with_insertion-requires-clause-plus_size : goal.with_insertion-requires-clause-plus_size
with_insertion-requires-clause-plus_size c =
    ap (length {A = Bool}) c.in_ok-plus.ensures ∙ set_size c.args.view.now c.args.lineage c.line.inside.up

pub with_insertion-requires-clause-minus_size : goal.with_insertion-requires-clause-minus_size
with_insertion-requires-clause-minus_size c =
    ap (length {A = Bool}) c.in_ok-minus.ensures ∙ set_size c.args.view.now c.args.lineage c.line.inside.down

pub with_insertion-requires-clause-own : goal.with_insertion-requires-clause-own
with_insertion-requires-clause-own c =
    let name : c.line.inside.name ≡ c.args.line.now.name = cc in
    subst (λ (w : List ℕ). IsTrue (is_signal_name w)) (sym name) c.requires.own

pub returns-clause-ok : goal.returns-clause-ok
returns-clause-ok c =
    let states = c.args.states.now in
    let view = c.args.view.now in
    let l = c.args.lineage in
    let line = c.args.line.now in
    let name : c.line.inside.name ≡ line.name = cc in
    let ups : c.line.inside.up ≡ line.up = cc in
    let downs : c.line.inside.down ≡ line.down = cc in
    let plus = c.in_ok-plus.ensures ∙ ap (lifted_set view l) ups in
    let minus = c.in_ok-minus.ensures ∙ ap (lifted_set view l) downs in
    IfOk-weaker c.with_insertion.result
    (λ (m : History). with_insertion states l c.line.inside.name c.in_ok-plus.plus c.in_ok-minus.minus (Ok m))
    (λ (m : History). with_line states view l line (Ok m))
    (λ m all. subst (λ (n : List ℕ). with_insertion states l n (lifted_set view l line.up) (lifted_set view l line.down)
    (Ok m)) name (subst₂ (λ (p q : List Bool). with_insertion states l c.line.inside.name p q (Ok m)) plus minus all))
    c.with_insertion.ensures.ok

pub returns-clause-err : goal.returns-clause-err
returns-clause-err c =
    let states = c.args.states.now in
    let view = c.args.view.now in
    let l = c.args.lineage in
    let line = c.args.line.now in
    let name : c.line.inside.name ≡ line.name = cc in
    let ups : c.line.inside.up ≡ line.up = cc in
    let downs : c.line.inside.down ≡ line.down = cc in
    let plus = c.in_ok-plus.ensures ∙ ap (lifted_set view l) ups in
    let minus = c.in_ok-minus.ensures ∙ ap (lifted_set view l) downs in
    err_map c.with_insertion.result
    (MayStop (with_insertion states l c.line.inside.name c.in_ok-plus.plus c.in_ok-minus.minus))
    (MayStop (with_line states view l line))
    (λ e may. subst (λ (n : List ℕ). MayStop (with_insertion states l n (lifted_set view l line.up)
    (lifted_set view l line.down)) e) name (subst₂ (λ (p q : List Bool). MayStop (with_insertion states l
    c.line.inside.name p q) e) plus minus may)) c.with_insertion.ensures.err
