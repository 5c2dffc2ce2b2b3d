use Rattle.std.proofs.Common.{◌∙◌, arith, sym, ap}
use Rattle.si_conflicts.specs.declared.tally.Role.{Role}
use Rattle.si_conflicts.specs.Loops.Apart.{are_apart}
use Rattle.std.proofs.Common.{count_by}
use Rattle.si_conflicts.proofs.TallyLemmas.{meets_none, meets_plain, fewer_equal}
use Rattle.si_conflicts.proofs.tally.Tally.conflicts.Goals as goal

pub overflow_sub-result : goal.overflow_sub-result
overflow_sub-result c = fewer_equal c.requires.key c.requires.copies c.args.self c.requires.is

pub returns-in-Absent : goal.returns-in-Absent
returns-in-Absent c = λ copies key is. sym
    (ap (λ (r : Role). count_by (λ e. are_apart e (r, key)) copies) c.in-Absent.is ∙ meets_none key copies)

pub returns-in-Plain : goal.returns-in-Plain
returns-in-Plain c = λ copies key is. (
    let few = fewer_equal key copies c.args.self is in
    let met = meets_plain key copies c.args.self is in
    let role = ap (λ (r : Role). count_by (λ e. are_apart e (r, key)) copies) c.in-Plain.is in
    omega (arith, few, met, role))
