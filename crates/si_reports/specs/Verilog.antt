-- (command) What `verilog` means over the text of its file: the netlist as a module.
use Rattle.std.specs.Prelude.{◌≡◌, ℕ, List, None}
use Rattle.si_netlist_reader.specs.NetlistFault.{netlist_fault}
use Rattle.si_netlist_reader.specs.NetlistValue.{netlist_of}
use Rattle.si_refusals.specs.Refusal.{TextRefusal}
use Rattle.si_refusals.specs.Stages.{Stage, ◌>>=◌, gives}
use Rattle.si_readings.specs.Readings.{netlist_in}
use Rattle.si_verilog.specs.Meaning.{MeansNetlist}
use Rattle.si_verilog.specs.ModuleText.{verilog_text}

abbrev pub verilog : (file text : List ℕ) → Stage TextRefusal (List ℕ)
verilog file text = do
  circuit ← netlist_in file text
  gives (verilog_text circuit)

-- the text spells a netlist, and the output is that netlist as a module, which means it
pub record IsItsModule (text output : List ℕ) : Type 0 where
  pub sound : netlist_fault text ≡ None
  pub output_is : output ≡ verilog_text (netlist_of text)
  pub means : MeansNetlist output (netlist_of text)
