-- (text) The text of a netlist.
use Rattle.std.specs.Prelude.{ℕ, ◌+◌, Bool, true, false, List, [], ◌∷◌, ◌++◌, map, filter, codes}
use Rattle.std.specs.Prelude.{if◌then◌else◌}
use Rattle.std.specs.List.{zip}
use Rattle.si_base.specs.declared.ids.Literal.{Literal}
use Rattle.si_base.specs.declared.graph.Signal.{Signal}
use Rattle.si_base.specs.declared.graph.SigKind.{SigKind}
use Rattle.si_base.specs.declared.graph.SigKind.TheVariants.{Input, Output, Internal, Inserted}
use Rattle.si_base.specs.Bits.{bit}
use Rattle.si_base.specs.Bytes.{apostrophe, digit_zero, digit_one}
use Rattle.si_base.specs.Limits.{max_signals, max_signals_version_1}
use Rattle.si_base.specs.Words.{text_of}
use Rattle.si_base.specs.Graph.{is_driven}
pub use Rattle.si_base.specs.Graph.{name_of}
use Rattle.si_base.specs.Netlist.{Sum, Gate, SumGate, Gc, Cell, Insertion, Netlist}

abbrev pub same_kind : SigKind → SigKind → Bool
same_kind Input Input = true
same_kind Output Output = true
same_kind Internal Internal = true
same_kind Inserted Inserted = true
same_kind _ _ = false

abbrev pub names_of : SigKind → List Signal → List (List ℕ)
names_of kind signals = map (λ x. x.name) (filter (λ x. same_kind kind x.kind) signals)

-- a name, with a mark behind it for the complement
abbrev pub literal_word : List Signal → Literal → List ℕ
literal_word signals l = name_of signals l.sig ++ (if l.plain then [] else apostrophe ∷ [])

abbrev pub cube_words : List Signal → List Literal → List (List ℕ)
cube_words signals [] = codes "1" ∷ []
cube_words signals (l ∷ ls) = map (literal_word signals) (l ∷ ls)

abbrev pub more_cubes : List Signal → Sum → List (List ℕ)
more_cubes signals [] = []
more_cubes signals (cube ∷ cubes) = codes "+" ∷ cube_words signals cube ++ more_cubes signals cubes

-- `0` where there is no cube, else the cubes with `+` between them
abbrev pub sum_words : List Signal → Sum → List (List ℕ)
sum_words signals [] = codes "0" ∷ []
sum_words signals (cube ∷ cubes) = cube_words signals cube ++ more_cubes signals cubes

abbrev pub gate_words : List Signal → Gate → List (List ℕ)
gate_words signals (SumGate sum) = codes "sum" ∷ sum_words signals sum
gate_words signals (Gc set reset) =
    codes "gc" ∷ sum_words signals set ++ codes "|" ∷ sum_words signals reset
gate_words signals (Cell name literals sum) =
    codes "cell" ∷ name ∷ map (literal_word signals) literals ++ codes ":" ∷ sum_words signals sum

-- the values of the signals from the i-th on
abbrev pub bits_from : ℕ → List Signal → ℕ → List ℕ
bits_from i [] values = []
bits_from i (x ∷ xs) values = (if bit values i then digit_one else digit_zero)
    ∷ bits_from (i + 1) xs values

abbrev pub word_if_any : List ℕ → List (List ℕ)
word_if_any [] = []
word_if_any (b ∷ bs) = (b ∷ bs) ∷ []

abbrev pub insert_line : Insertion → List (List ℕ)
insert_line i = codes ".insert" ∷ i.name ∷ codes "up" ∷ i.up ++ codes "down" ∷ i.down

-- the lines after that of the version, each by its words
abbrev pub netlist_lines : Netlist → List (List (List ℕ))
netlist_lines n = (codes ".model" ∷ n.model ∷ [])
    ∷ (codes ".inputs" ∷ names_of Input n.signals)
    ∷ (codes ".outputs" ∷ names_of Output n.signals)
    ∷ (codes ".internal" ∷ names_of Internal n.signals)
    ∷ (codes ".inserted" ∷ names_of Inserted n.signals)
    ∷ (codes ".start" ∷ word_if_any (bits_from 0 n.signals n.start))
    ∷ map insert_line n.inserts
    ++ (codes ".gates" ∷ [])
    ∷ map (λ p. p.0.name ∷ gate_words n.signals p.1)
    (zip (filter (λ x. is_driven x.kind) n.signals) n.gates)
    ++ (codes ".end" ∷ []) ∷ []

-- a text of version 2 has its version in front, and room for all signals; one of version 1 has
-- neither
pub data Version : Type 0 where
  Version1 : Version
  Version2 : Version

abbrev pub version_lines : Version → List (List (List ℕ))
version_lines Version1 = []
version_lines Version2 = (codes ".version" ∷ codes "2" ∷ []) ∷ []

-- the most signals that a text of the version names
abbrev pub most_signals : Version → ℕ
most_signals Version1 = max_signals_version_1
most_signals Version2 = max_signals

-- the text of a netlist in that version
abbrev pub netlist_text_in : Version → Netlist → List ℕ
netlist_text_in version n = text_of (version_lines version ++ netlist_lines n)

-- the text that is written
unfoldable pub netlist_text : Netlist → List ℕ
netlist_text n = netlist_text_in Version2 n
