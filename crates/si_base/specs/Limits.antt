-- (field) The limits of the tool. The code has them under the same words, in `src/limits.rt`.
use Rattle.std.specs.Prelude.{ℕ}

-- how many signals a code has bits for
abbrev pub code_width : ℕ
code_width = 128

-- the most signals of a graph or a netlist, inserted ones included
abbrev pub max_signals : ℕ
max_signals = 128

-- the most signals of a netlist text of version 1
abbrev pub max_signals_version_1 : ℕ
max_signals_version_1 = 64

-- the most states of a graph that is read
abbrev pub max_states_read : ℕ
max_states_read = 262144

-- the most states of any graph, after insertion of signals too
abbrev pub max_states : ℕ
max_states = 262144

-- the most distinct arcs of a graph that is read
abbrev pub max_arcs_read : ℕ
max_arcs_read = 1048576

-- the most bytes of a text
abbrev pub max_text : ℕ
max_text = 16777216
