use Rattle.std.proofs.Common.{List, ℕ, sym, subst}
use Rattle.si_cell.specs.Library.{Library}
use Rattle.si_structure.specs.Meaning.{MeansStructure}
use Rattle.si_structure.specs.Refusals.{AllPlaced}
use Rattle.si_structure.proofs.TextLemmas.{text_means}
use Rattle.si_structure.proofs.write.write_structure.Goals as goal

pub returns-clause-means : goal.returns-clause-means
returns-clause-means c =
    let library = c.args.library.now in
    let complements = c.args.complements in
    let n = c.args.netlist.now in
    let reset = c.args.reset.now in
    subst (λ (t : List ℕ). MeansStructure t library n reset) (sym c.in_ok-text.ensures.text)
    (text_means library complements n reset c.in_ok-text.ensures.ported c.text_of.ensures.netlist (record {
      placed = subst (λ (l : Library). AllPlaced l complements n) c.library.ensures c.in_ok-check_gates.ensures.ok;
      model = sym c.if-model_is_cell.ensures;
    }) c.requires)
