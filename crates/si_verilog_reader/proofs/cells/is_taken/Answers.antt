use Rattle.std.proofs.Common.{rules, tests, ◌∙◌, bytes_eq, map}
use Rattle.std.proofs.lemmas.Iterator.{YieldsList-from_slice}
use Rattle.std.proofs.lemmas.Iterator.Search.{any_from_yields_List}
use Rattle.si_words.proofs.SumWordLemmas.{list_any-map}
use Rattle.si_verilog_reader.specs.Modules.{Cell}
use Rattle.si_verilog_reader.specs.Loops.Held.{cell_now}
use Rattle.si_verilog_reader.specs.declared.cells.Cell.{Cell as CellHeld}
use Rattle.si_verilog_reader.proofs.cells.is_taken.Goals as goal

pub returns : goal.returns
returns c = any_from_yields_List {all = c.args.cells.now}
    (λ (x : CellHeld). bytes_eq c.args.name.now x.name.now) _ _ _
    c.any.ensures.ran (YieldsList-from_slice c.args.cells.now cc) (λ x b q k. search (rules, tests))
    ∙ list_any-map cell_now (λ (x : Cell). bytes_eq c.args.name.now x.name) c.args.cells.now
    ∙ list_any-map (λ (x : Cell). x.name) (bytes_eq c.args.name.now) (map cell_now c.args.cells.now)
