use Rattle.std.proofs.Common.{sym, ◌∙◌}
use Rattle.si_equations.specs.Equations.{driven}
use Rattle.si_equations_reader.specs.Read.{equations_now}
use Rattle.si_from_equations.proofs.PlaceLemmas.{hides_here, hides_none}
use Rattle.si_from_equations.proofs.signals.all_signals.Goals as goal

pub loop-k-preserved-then-has_name : goal.loop-k-preserved-then-has_name
loop-k-preserved-then-has_name c =
    hides_none c.args.graph.now.signals (driven (equations_now c.args.equations.now)) c.loop-k.k c.name-name.result.now
    c.name-name.ensures c.loop-k.signals.items
    (rw c.signals.ensures at (sym c.has_name.ensures ∙ c.if-has_name.true)) c.loop-k.invariant

pub loop-k-preserved : goal.loop-k-preserved
loop-k-preserved c =
    hides_here c.args.graph.now.signals (driven (equations_now c.args.equations.now)) c.loop-k.k c.name-name.result.now
    c.name-name.ensures c.loop-k.signals.items c.push.new.self.items
    (rw c.signals.ensures at (sym c.has_name.ensures ∙ c.if-has_name.false)) c.loop-k.invariant
    (rw c.in_ok-copy_of.ensures at c.in_ok-push.ensures.items)
