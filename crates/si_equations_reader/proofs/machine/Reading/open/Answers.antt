use Rattle.std.proofs.Common.{arith}
use Rattle.si_equations_reader.specs.Loops.Machine.{trees_now}
use Rattle.si_equations_reader.proofs.MachineLemmas.{too_deep, opens}
use Rattle.si_equations_reader.proofs.machine.Reading.open.Goals as goal

pub returns-then-len-ge-MAX_UNFINISHED : goal.returns-then-len-ge-MAX_UNFINISHED
returns-then-len-ge-MAX_UNFINISHED c = too_deep c.args.self.now c.args.operator
    (omega (arith, c.if-len-ge-MAX_UNFINISHED.true, c.len.ensures, c.args.self.now.unfinished.ok.0))

pub returns : goal.returns
returns c = opens c.args.self.now.operand c.args.self.now.terms c.args.self.now.factors
    c.args.self.now.unfinished.items c.push.new.self.items c.args.operator (trees_now c.args.self.now.steps.items)
    c.requires c.in_ok-push.ensures.items
    (omega (arith, c.if-len-ge-MAX_UNFINISHED.false, c.len.ensures, c.args.self.now.unfinished.ok.0))
