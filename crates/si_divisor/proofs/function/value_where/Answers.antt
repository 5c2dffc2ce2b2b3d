use Rattle.si_divisor.proofs.FunctionLemmas.{value_by}
use Rattle.si_divisor.proofs.function.value_where.Goals as goal

pub returns : goal.returns
returns c =
    value_by c.args.library.now c.args.instance.now c.args.signals.now c.args.values c.code_where-code.result
    c.value.result c.has_bit-q.result c.requires.all c.code_where-code.ensures c.has_bit-q.ensures c.value.ensures
