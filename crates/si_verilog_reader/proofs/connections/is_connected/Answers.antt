use Rattle.std.proofs.Common.{rules, tests, ◌∙◌, bytes_eq, map}
use Rattle.std.proofs.lemmas.Iterator.{YieldsList-from_slice}
use Rattle.std.proofs.lemmas.Iterator.Search.{any_from_yields_List}
use Rattle.si_words.proofs.SumWordLemmas.{list_any-map}
use Rattle.si_verilog_reader.specs.Modules.{Connection}
use Rattle.si_verilog_reader.specs.Loops.Held.{connection_now}
use Rattle.si_verilog_reader.specs.declared.connections.Connection.{Connection as ConnectionHeld}
use Rattle.si_verilog_reader.proofs.connections.is_connected.Goals as goal

pub returns : goal.returns
returns c = any_from_yields_List {all = c.args.connections.now}
    (λ (n : ConnectionHeld). bytes_eq c.args.port.now n.port.now) _ _ _
    c.any.ensures.ran (YieldsList-from_slice c.args.connections.now cc) (λ x b q k. search (rules, tests))
    ∙ list_any-map connection_now (λ (n : Connection). bytes_eq c.args.port.now n.port) c.args.connections.now
    ∙ list_any-map (λ (n : Connection). n.port) (bytes_eq c.args.port.now) (map connection_now c.args.connections.now)
