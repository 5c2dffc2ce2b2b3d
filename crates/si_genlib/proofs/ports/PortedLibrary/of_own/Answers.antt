use Rattle.std.proofs.Common.{map, ap, subst, sym, ◌∙◌}
use Rattle.si_genlib.specs.Ports.{ArePorts, own_ports}
use Rattle.si_genlib.proofs.PortLemmas.{own_are}
use Rattle.si_genlib.proofs.ports.PortedLibrary.of_own.Goals as goal

pub make-requires : goal.make-requires
make-requires c = subst (ArePorts c.args.library.cells)
    (sym (c.in_ok-ports.ensures ∙ ap (map own_ports) c.cells.ensures.cells))
    (own_are c.args.library c.cells.ensures.library)
