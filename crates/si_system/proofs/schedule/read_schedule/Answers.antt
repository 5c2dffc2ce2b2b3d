use Rattle.std.proofs.Common.{◌∙◌, ap}
use Rattle.si_base.specs.Graph.{names_in}
use Rattle.si_system.proofs.ScheduleLemmas.{within}
use Rattle.si_system.proofs.schedule.read_schedule.Goals as goal

pub returns-clause-within : goal.returns-clause-within
returns-clause-within c = within _ c.args.netlist.now.signals _ c.args.text.now c.read_lines.result
    (c.in_ok-names.ensures ∙ ap names_in c.signals.ensures.signals) c.read_lines.ensures
