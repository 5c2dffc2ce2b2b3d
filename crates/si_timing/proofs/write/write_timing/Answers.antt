use Rattle.si_timing.proofs.Leaving.{leaves_no_loop}
use Rattle.si_timing.proofs.write.write_timing.Goals as goal

pub assure-requires : goal.assure-requires
assure-requires c = rw c.library.ensures at c.in_ok-check_gates.ensures.ok

pub returns-clause-cells : goal.returns-clause-cells
returns-clause-cells c = c.assure.ensures.of_cells

pub returns-clause-means : goal.returns-clause-means
returns-clause-means c = leaves_no_loop c.args.library.now c.args.netlist.now c.in_ok-text.text c.assure.ensures
    c.in_ok-text.ensures
