-- (text) A text of one line: the gate of a new signal.
use Rattle.std.specs.Prelude.{ℕ, List, [], ◌∷◌, ◌++◌, slice_index_or, Option}
use Rattle.si_base.specs.declared.fault.TextKind.{TextKind}
use Rattle.si_base.specs.Faults.{◌otherwise◌}
use Rattle.si_base.specs.Limits.{max_signals}
use Rattle.si_base.specs.Netlist.{Gate}
use Rattle.si_netlist_reader.specs.GateParts.{gate_fault, gate_of}
use Rattle.si_netlist_reader.specs.NetlistValue.{first_word}
use Rattle.si_words.specs.Lines.{Form, ended, rest_of, words_of}
use Rattle.si_words.specs.Names.{name_fault}
use Rattle.si_words.specs.Rows.{all_lines, fault_of}

-- these names, and behind them the new one: the first word of its line
abbrev pub with_new : List (List ℕ) → (words : List (List ℕ)) → List (List ℕ)
with_new names words = names ++ first_word words ∷ []

-- the fault of the new name, else that of the gate, which may read the new signal too
abbrev pub line_fault : List (List ℕ) → Form
line_fault names words = name_fault max_signals names (first_word words)
    otherwise gate_fault (with_new names words) (first_word words) words

-- the first fault of the text, where these are the names of the signals
abbrev pub gate_text_fault : List (List ℕ) → (text : List ℕ) → Option (ℕ × TextKind)
gate_text_fault names text = fault_of (line_fault names ∷ []) (all_lines text)

-- a new signal, by its name and its gate
pub record NewGate : Type 0 where
  pub name : List ℕ
  pub gate : Gate

abbrev pub gate_of_line : List (List ℕ) → (words : List (List ℕ)) → NewGate
gate_of_line names words =
    record { name = first_word words; gate = gate_of (with_new names words) (rest_of words) }

-- what a text without fault spells
abbrev pub new_gate : List (List ℕ) → (text : List ℕ) → NewGate
new_gate names text = gate_of_line names (words_of (slice_index_or (ended text) 0 []))
