use Rattle.std.proofs.Common.{◌∙◌, ap, sym}
use Rattle.std.proofs.lemmas.Bool.{true≢false}
use Rattle.std.proofs.lemmas.Option.{IfSome_then}
use mathlib.Core.Bool.{beq}
use Rattle.si_base.proofs.GraphSteps.{beq-refl}
use Rattle.si_match.specs.Loops.Apart.{DifferAtRead}
use Rattle.si_match.proofs.ApartLemmas.{alike_states, if_none_so, unread_apart}
use Rattle.si_match.proofs.apart.differing.Goals as goal

pub returns-clause-apart : goal.returns-clause-apart
returns-clause-apart c =
    let one = c.next_value.result in
    IfSome_then c.unread_difference.result c.unread_difference.ensures.some
    (unread_apart c.args.coded.now c.args.z c.args.read c.args.one c.args.other c.code.result c.code-2.result
    c.code.ensures c.code-2.ensures c.requires.one c.requires.other
    (λ same. (let equal = c.next_value.ensures ∙ same ∙ sym c.next_value-2.ensures in
    true≢false (sym (ap (beq one) (sym equal) ∙ beq-refl one) ∙ c.if-next_value.false))))

pub returns-clause-none : goal.returns-clause-none
returns-clause-none c =
    if_none_so (DifferAtRead c.args.read c.code.result c.code-2.result) _ c.unread_difference.result
    c.unread_difference.ensures.none
    (alike_states c.args.coded.now c.args.z c.args.read c.args.one c.args.other c.code.result c.code-2.result
    c.code.ensures c.code-2.ensures)
