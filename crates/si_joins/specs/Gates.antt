-- (field) The gates of parts over the signals of the whole.
use Rattle.std.specs.Prelude.{ℕ, ◌+◌, ◌==◌, ◌&&◌, nat_lt, Bool, List, [], ◌∷◌, suc, length, map}
use Rattle.std.specs.Prelude.{filter, flat_map, bytes_eq, slice_index, slice_index_or}
use Rattle.std.specs.Prelude.{if◌then◌else◌, Option, Some, None}
use Rattle.std.specs.List.{range_with_len}
use Rattle.si_base.specs.declared.graph.Signal.{Signal}
use Rattle.si_base.specs.declared.ids.Literal.{Literal}
use Rattle.si_base.specs.Graph.{is_driven}
use Rattle.si_base.specs.Netlist.{Cell, Gate, Gc, Netlist, Sum, SumGate, gate_place}
use Rattle.si_base.specs.System.{is_inserted}
use Rattle.si_circuit.specs.Gates.{netlist_of}
use Rattle.si_circuit.specs.Spelling.{insertions_of}
use Rattle.si_compose.specs.Renamed.{renamed_literal}
use Rattle.si_insert.specs.Lineage.{History}

-- ---- places
-- the place of the first signal of the name: that behind all where none has it
abbrev pub place_of : List Signal → (name : List ℕ) → ℕ
place_of [] name = 0
place_of (x ∷ xs) name = if bytes_eq x.name name then 0 else suc (place_of xs name)

-- where the signals of a part stand in the whole: a given one where its name does, and the inserted
-- ones from the place `next` on, in the order of insertion
abbrev pub places : (whole : List Signal) → (next : ℕ) → List Signal → List ℕ
places whole next [] = []
places whole next (x ∷ xs) =
    if is_inserted x.kind then next ∷ places whole (next + 1) xs
    else place_of whole x.name ∷ places whole next xs

-- the same for all parts: the insertions of each stand behind those of the parts before it
abbrev pub all_places : (whole : List Signal) → (next : ℕ) → List Netlist → List (List ℕ)
all_places whole next [] = []
all_places whole next (n ∷ ns) =
    places whole next n.signals ∷ all_places whole (next + length n.inserts) ns

-- ---- renamed gates
-- how the literal of the cube that stands at signal k of the whole has its signal, if there is one
abbrev pub literal_at : (to : List ℕ) → List Literal → (k : ℕ) → Option Bool
literal_at to [] k = None
literal_at to (l ∷ ls) k = if slice_index to l.sig == k then Some l.plain else literal_at to ls k

abbrev pub literal_if : (k : ℕ) → Option Bool → List Literal
literal_if k None = []
literal_if k (Some plain) = record { sig = k; plain = plain } ∷ []

-- the literals of a cube over n signals of the whole, one signal after another
abbrev pub renamed_cube : (to : List ℕ) → (n : ℕ) → List Literal → List Literal
renamed_cube to n cube = flat_map (λ k. literal_if k (literal_at to cube k)) (range_with_len 0 n)

abbrev pub renamed_sum : (to : List ℕ) → (n : ℕ) → Sum → Sum
renamed_sum to n sum = map (renamed_cube to n) sum

-- the literals of a cell in the order of its pins
abbrev pub renamed_pins : (to : List ℕ) → (n : ℕ) → List Literal → List Literal
renamed_pins to n literals = filter (λ l. nat_lt l.sig n)
    (map (renamed_literal (slice_index to)) literals)

-- a gate of the same form, signal z of the part being signal `to z` of the n signals of the whole
abbrev pub renamed_gate : (to : List ℕ) → (n : ℕ) → Gate → Gate
renamed_gate to n (SumGate sum) = SumGate (renamed_sum to n sum)
renamed_gate to n (Gc set reset) = Gc (renamed_sum to n set) (renamed_sum to n reset)
renamed_gate to n (Cell name literals sum) =
    Cell name (renamed_pins to n literals) (renamed_sum to n sum)

-- ---- the gates of the whole
-- the first signal of a part, from its z-th on, that the part drives and that stands at k
abbrev pub driven_at : (k z : ℕ) → List Signal → (to : List ℕ) → Option ℕ
driven_at k z [] to = None
driven_at k z (x ∷ xs) [] = None
driven_at k z (x ∷ xs) (p ∷ to) =
    if is_driven x.kind && (p == k) then Some z else driven_at k (z + 1) xs to

abbrev pub own_gate : Netlist → (z : ℕ) → Gate
own_gate n z = slice_index_or n.gates (gate_place n.signals z) (SumGate [])

-- the gate of the part's signal, if there is one, among n signals: else another gate
abbrev pub gate_or : (n : ℕ) → Netlist → (to : List ℕ) → (other : Gate) → Option ℕ → Gate
gate_or n part to other None = other
gate_or n part to other (Some z) = renamed_gate to n (own_gate part z)

-- the gate of signal k of the whole, of n signals: that of the first part that drives it, renamed
abbrev pub joined_gate : (n : ℕ) → List Netlist → (places : List (List ℕ)) → (k : ℕ) → Gate
joined_gate n [] tos k = SumGate []
joined_gate n (part ∷ parts) [] k = SumGate []
joined_gate n (part ∷ parts) (to ∷ tos) k =
    gate_or n part to (joined_gate n parts tos k) (driven_at k 0 part.signals to)

-- the netlist of all gates of all parts, for the last graph of the lineage, with its insertions as
-- they are spelled by the names of the given states
abbrev pub joined_netlist : (model : List ℕ) → (states : List (List ℕ)) → List Netlist → History
    → Netlist
joined_netlist model states parts l = netlist_of
    (joined_gate (length l.current.coded.graph.signals) parts
    (all_places l.current.coded.graph.signals (length l.given.graph.signals) parts))
    model (insertions_of states l) l.current.coded
