use Rattle.std.proofs.Common.{◌∙◌, ap, sym, nat_lt}
use Rattle.si_base.specs.Limits.{max_arcs_read}
use Rattle.si_sg.specs.Loops.Tables.{counted_in}
use Rattle.si_sg.proofs.ArcSetLemmas.{too_many_are}
use Rattle.si_sg.proofs.arc_set.ArcSet.are_too_many.Goals as goal

pub returns : goal.returns
returns c = ap (nat_lt max_arcs_read) c.count_of.ensures
    ∙ too_many_are (counted_in c.self.inside.counted) c.self.inside.listed.items c.args.self.now (sym c.self.view_is)
    c.self.invariant
