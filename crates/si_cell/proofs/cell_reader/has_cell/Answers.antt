use Rattle.std.proofs.Common.{rules, tests, ◌∙◌, bytes_eq}
use Rattle.std.proofs.lemmas.Iterator.{YieldsList-from_slice}
use Rattle.std.proofs.lemmas.Iterator.Search.{any_from_yields_List}
use Rattle.si_words.proofs.SumWordLemmas.{list_any-map}
use Rattle.si_cell.specs.Library.{Cell}
use Rattle.si_cell.proofs.cell_reader.has_cell.Goals as goal

pub returns : goal.returns
returns c = any_from_yields_List {all = c.args.cells.now} (λ (cell : Cell). bytes_eq c.args.name.now cell.name) _ _ _
    c.any.ensures.ran (YieldsList-from_slice c.args.cells.now cc) (λ x b q k. search (rules, tests))
    ∙ list_any-map (λ (cell : Cell). cell.name) (bytes_eq c.args.name.now) c.args.cells.now
