use Rattle.si_base.specs.Netlist.{literal_value}
use Rattle.si_settled.proofs.CubeLemmas.{is_known, one_fails}
use Rattle.si_settled.proofs.shown.is_false.Goals as goal

pub returns : goal.returns
returns c = rw (c.covers.ensures, c.known_part.ensures)
    (one_fails (is_known c.args.known) (literal_value c.args.start) c.args.cube.now)
