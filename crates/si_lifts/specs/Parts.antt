-- (field) Parts whose signals have the names that they have in the whole: an inserted signal may be
-- called otherwise there.
use Rattle.std.specs.Prelude.{ℕ, zero, suc, ◌+◌, List, [], ◌∷◌, length, slice_index, slice_index_or}
use Rattle.si_base.specs.declared.graph.Signal.{Signal}
use Rattle.si_base.specs.declared.graph.SigKind.TheVariants.{Inserted}
use Rattle.si_base.specs.Graph.{name_of}
use Rattle.si_base.specs.Netlist.{Insertion, Netlist}
use Rattle.si_base.specs.NetlistText.{names_of}

-- the signals of a part that stand at these places: each has its name there, and its own kind
abbrev pub named_signals : (whole : List Signal) → (to : List ℕ) → List Signal → List Signal
named_signals whole [] signals = []
named_signals whole (k ∷ to) [] = []
named_signals whole (k ∷ to) (x ∷ xs) =
    record { name = name_of whole k; kind = x.kind } ∷ named_signals whole to xs

-- insertions with these names
abbrev pub named_inserts : (names : List (List ℕ)) → List Insertion → List Insertion
named_inserts [] inserts = []
named_inserts (name ∷ names) [] = []
named_inserts (name ∷ names) (i ∷ rest) =
    record { name = name; up = i.up; down = i.down } ∷ named_inserts names rest

-- a netlist with these signals, of the same kinds as its own
abbrev pub with_signals : List Signal → Netlist → Netlist
with_signals signals n = record {
  model = n.model;
  signals = signals;
  start = n.start;
  inserts = named_inserts (names_of Inserted signals) n.inserts;
  gates = n.gates;
}

abbrev pub no_netlist : Netlist
no_netlist = record { model = []; signals = []; start = 0; inserts = []; gates = [] }

-- part i of a list of netlists, and the places of its signals
abbrev pub part_at : List Netlist → ℕ → Netlist
part_at parts i = slice_index_or parts i no_netlist

abbrev pub to_at : (places : List (List ℕ)) → ℕ → ℕ → ℕ
to_at places i z = slice_index (slice_index_or places i []) z

-- part i with the names that its signals have in the whole
abbrev pub named_part : (whole : List Signal) → (places : List (List ℕ)) → List Netlist → ℕ
    → Netlist
named_part whole places parts i = with_signals
    (named_signals whole (slice_index_or places i []) (part_at parts i).signals) (part_at parts i)

-- how many insertions the parts before part i have
abbrev pub inserts_before : List Netlist → ℕ → ℕ
inserts_before [] i = 0
inserts_before (n ∷ parts) zero = 0
inserts_before (n ∷ parts) (suc i) = length n.inserts + inserts_before parts i
