use Rattle.std.proofs.Common.{◌∙◌}
use Rattle.std.proofs.lemmas.Result.{IfOk-weaker}
use Rattle.si_sg.specs.Loops.Others.{AreNamesOfOthers}
use Rattle.si_sg.proofs.OtherLemmas.{names_of_others, others_within, ascending}
use Rattle.si_sg.proofs.build.dropped_names.Goals as goal

pub names_at-requires-clause-within : goal.names_at-requires-clause-within
names_at-requires-clause-within c = rw c.as_slice.ensures.value (others_within _ _ _ c.in_ok-others.ensures
    (c.in_ok-set.ensures.count ∙ c.len.ensures.len))

pub names_at-requires-clause-ascending : goal.names_at-requires-clause-ascending
names_at-requires-clause-ascending c =
    rw c.as_slice.ensures.value (ascending _ c.in_ok-others.ensures.in_order)

pub returns : goal.returns
returns c =
    let named = rw c.as_slice.ensures.value at c.names_at.ensures in
    IfOk-weaker c.names_at.result _ (AreNamesOfOthers c.args.names.now c.args.kept.now)
    (λ found is. names_of_others c.args.names.now found c.args.kept.now c.in_ok-others.others.items c.in_ok-set.set
    (rw c.len.ensures.len at c.in_ok-set.ensures) c.in_ok-others.ensures is) named
