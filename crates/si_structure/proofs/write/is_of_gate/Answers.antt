use Rattle.std.proofs.Common.{rules, tests, ap, ◌∙◌}
use Rattle.std.specs.List.{list_any}
use Rattle.std.proofs.lemmas.Iterator.{YieldsList-from_slice}
use Rattle.std.proofs.lemmas.Iterator.Search.{any_from_yields_List}
use Rattle.si_words.proofs.SumWordLemmas.{list_any-map}
use Rattle.si_netlist.specs.Loops.Parts.{gate_seen}
use Rattle.si_netlist.specs.declared.gate.Gate.{Gate}
use Rattle.si_structure.specs.StructureText.{is_of}
use Rattle.si_structure.proofs.write.is_of_gate.Goals as goal

pub returns : goal.returns
returns c = any_from_yields_List {all = c.gates.result.now} (λ (g : Gate). is_of c.args.cell.now (gate_seen g)) _ _ _
    c.any.ensures.ran (YieldsList-from_slice c.gates.result.now cc) (λ x b q k. search (rules, tests))
    ∙ list_any-map gate_seen (is_of c.args.cell.now) c.gates.result.now
    ∙ ap (list_any (is_of c.args.cell.now)) c.gates.ensures
