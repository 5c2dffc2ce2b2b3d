use Rattle.std.proofs.Common.{◌≡◌, ◌++◌, List, ap, sym, ◌∙◌}
use Rattle.std.proofs.lemmas.List.{append-nil}
use Rattle.si_cell.specs.Library.{Library}
use Rattle.si_words.proofs.WritingLemmas.{left_as}
use Rattle.si_netlist.specs.Loops.Parts.{gate_seen}
use Rattle.si_timing.specs.Loops.Writing.{lines}
use Rattle.si_timing.specs.Instances.{NamedArc}
use Rattle.si_timing.specs.TimingText.{own_of_gate}
use Rattle.si_timing.proofs.Writing.{own_of_cell, no_own}
use Rattle.si_timing.proofs.lines.add_feedback.Goals as goal

pub returns-in-Some : goal.returns-in-Some
returns-in-Some c =
    let library = c.args.library.now in
    let signals = c.args.signals.now in
    let cells_are : c.cells-cells.result.now ≡ library.library.cells =
    c.cells-cells.ensures.cells ∙ ap (λ (l : Library). l.cells) c.library.ensures in
    let good = rw c.library.ensures at c.cells-cells.ensures.library in
    let found = rw (cells_are, c.bytes.ensures) at c.in-Some.ensures in
    let ports = rw c.ports.ensures.same at c.index-ports-k.is in
    let arcs = own_of_cell library good c.ports.ensures.ports signals c.in-Cell.name
    c.in-Cell.literals.items c.in-Cell.sum c.args.z c.in-Some.k c.index-cells-k.result c.index-ports-k.result found.0
    found.1 (rw cells_are at c.index-cells-k.is) ports in
    left_as _ _ _ _ (ap (λ (l : List NamedArc). c.args.text.now ++ lines l)
    (arcs ∙ ap (own_of_gate library signals c.args.z) (ap gate_seen (sym c.in-Cell.is)))) c.add_own.ensures

pub returns-in-None : goal.returns-in-None
returns-in-None c =
    let library = c.args.library.now in
    let signals = c.args.signals.now in
    let cells_are : c.cells-cells.result.now ≡ library.library.cells =
    c.cells-cells.ensures.cells ∙ ap (λ (l : Library). l.cells) c.library.ensures in
    let none = no_own library signals c.in-Cell.name c.in-Cell.literals.items c.in-Cell.sum c.args.z
    (rw (cells_are, c.bytes.ensures) at c.in-None.ensures) in
    sym (append-nil c.args.text.now) ∙ ap (λ (l : List NamedArc). c.args.text.now ++ lines l)
    (none ∙ ap (own_of_gate library signals c.args.z) (ap gate_seen (sym c.in-Cell.is)))
