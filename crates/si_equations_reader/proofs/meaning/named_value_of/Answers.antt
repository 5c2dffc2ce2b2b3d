use Rattle.std.proofs.Common.{sym, ◌∙◌, arith}
use Rattle.std.proofs.lemmas.Bool.{le-ltb}
use Rattle.si_equations_reader.proofs.NamedValueLemmas.{named_there, named_none, no_bit}
use Rattle.si_equations_reader.proofs.meaning.named_value_of.Goals as goal

pub returns-then-place-lt-CODE_WIDTH : goal.returns-then-place-lt-CODE_WIDTH
returns-then-place-lt-CODE_WIDTH c = c.get.ensures
    ∙ named_there c.args.names.now c.args.values c.args.name.now c.in-Some.place c.in-Some.ensures

pub returns-else-place-lt-CODE_WIDTH : goal.returns-else-place-lt-CODE_WIDTH
returns-else-place-lt-CODE_WIDTH c = le-ltb _ _ c.if-place-lt-CODE_WIDTH.false
    ∙ sym (no_bit c.args.values c.in-Some.place (omega arith) c.if-place-lt-CODE_WIDTH.false)
    ∙ named_there c.args.names.now c.args.values c.args.name.now c.in-Some.place c.in-Some.ensures

pub returns-in-None : goal.returns-in-None
returns-in-None c = named_none c.args.names.now c.args.values c.args.name.now c.in-None.ensures
