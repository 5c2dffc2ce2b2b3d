-- The first six lines of a netlist text, read.
use Rattle.std.specs.Prelude.{ℕ, ◌≡◌, List, ◌++◌, length, take, drop, ◌-◌}
use Rattle.si_base.specs.Netlist.{Gate}
use Rattle.si_base.specs.declared.graph.Signal.{Signal}
use Rattle.si_base.specs.declared.graph.SigKind.TheVariants.{Input, Output, Internal, Inserted}
use Rattle.si_base.specs.GivenGraph.{signals_of}
use Rattle.si_netlist_reader.specs.declared.header.Header.{Header}
use Rattle.si_netlist_reader.specs.NetlistFault.{due_in, due_after, names_at}
use Rattle.si_words.specs.Lines.{rest_of}
use Rattle.si_netlist_reader.specs.GateParts.{gate_of}
use Rattle.si_netlist_reader.specs.NetlistValue.{first_word, code_of_bits}
use Rattle.si_words.specs.Rows.{Left, fault_of}

-- the model's name, by the words of its line
abbrev pub model_of : List (List ℕ) → List ℕ
model_of words = first_word (rest_of words)

-- the start code, by the words of its line
abbrev pub start_of : List (List ℕ) → ℕ
start_of words = code_of_bits (first_word (rest_of words))

-- the gate, by the words of its line
abbrev pub gate_in : List (List ℕ) → List (List ℕ) → Gate
gate_in names words = gate_of names (rest_of words)

-- the signals of names whose lists end at these places
abbrev pub signals_by : List (List ℕ) → ℕ → ℕ → ℕ → List Signal
signals_by names inputs outputs internals =
    signals_of Input (take inputs names)
    ++ signals_of Output (take (outputs - inputs) (drop inputs names))
    ++ signals_of Internal (take (internals - outputs) (drop outputs names))
    ++ signals_of Inserted (drop internals names)

-- the header has the parts that the lines spell, and the text's fault is that of the lines left
pub record ReadsHeader (limit : ℕ) (old new : Left) (names : List (List ℕ))
    (header : Header) : Type 0 where
  pub inputs : List (List ℕ)
  pub outputs : List (List ℕ)
  pub internals : List (List ℕ)
  pub inserted : List (List ℕ)
  pub names_are : names ≡ inputs ++ outputs ++ internals ++ inserted
  pub inputs_are : header.inputs ≡ length inputs
  pub outputs_are : header.outputs ≡ length (inputs ++ outputs)
  pub internals_are : header.internals ≡ length (inputs ++ outputs ++ internals)
  pub fault : fault_of (due_in limit old.lines) old
      ≡ fault_of (due_after inputs outputs internals inserted) new
  pub model_at : header.model ≡ first_word (names_at 0 old.lines)
  pub inputs_at : inputs ≡ names_at 1 old.lines
  pub outputs_at : outputs ≡ names_at 2 old.lines
  pub internals_at : internals ≡ names_at 3 old.lines
  pub inserted_at : inserted ≡ names_at 4 old.lines
  pub start_at : header.start ≡ code_of_bits (first_word (names_at 5 old.lines))
  pub lines : new.lines ≡ drop 6 old.lines
