use Rattle.std.proofs.Common.{sym, ◌∙◌}
use Rattle.si_equations.specs.Equations.{driven}
use Rattle.si_equations_reader.specs.Read.{equations_now}
use Rattle.si_from_equations.proofs.PlaceLemmas.{stands_behind, stands_here}
use Rattle.si_from_equations.proofs.signals.has_equation.Goals as goal

pub returns-then-eq : goal.returns-then-eq
returns-then-eq c = stands_here (driven (equations_now c.args.equations.now)) c.loop-k.k c.args.name.now c.name.result.now
    _ c.name.ensures (sym c.eq.ensures ∙ c.if-eq.true) c.loop-k.invariant

pub loop-k-preserved : goal.loop-k-preserved
loop-k-preserved c = stands_behind (driven (equations_now c.args.equations.now)) c.loop-k.k c.args.name.now
    c.name.result.now _ c.name.ensures (sym c.eq.ensures ∙ c.if-eq.false) c.loop-k.invariant
