-- (command) What `eqn` means over the text of its file: the netlist as equations.
use Rattle.std.specs.Prelude.{◌≡◌, ℕ, List, None}
use Rattle.si_equations.specs.Meaning.{MeansNetlist}
use Rattle.si_equations.specs.Written.{equations_text}
use Rattle.si_netlist_reader.specs.NetlistFault.{netlist_fault}
use Rattle.si_netlist_reader.specs.NetlistValue.{netlist_of}
use Rattle.si_refusals.specs.Refusal.{TextRefusal}
use Rattle.si_refusals.specs.Stages.{Stage, ◌>>=◌, gives}
use Rattle.si_readings.specs.Readings.{netlist_in}

abbrev pub equations : (file text : List ℕ) → Stage TextRefusal (List ℕ)
equations file text = do
  circuit ← netlist_in file text
  gives (equations_text circuit)

-- the text spells a netlist, and the output is that netlist as equations, which mean it
pub record AreItsEquations (text output : List ℕ) : Type 0 where
  pub sound : netlist_fault text ≡ None
  pub output_is : output ≡ equations_text (netlist_of text)
  pub means : MeansNetlist output (netlist_of text)
