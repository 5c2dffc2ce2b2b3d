use Rattle.std.proofs.Common.{◌∙◌}
use Rattle.si_pictures.proofs.SeenLemmas.{any_out}
use Rattle.si_pictures.proofs.seen.leads.Goals as goal

pub returns : goal.returns
returns c = c.has_step.ensures ∙ any_out c.args.graph.now c.args.s c.args.e.now c.args.t _ c.arcs_out.ensures
