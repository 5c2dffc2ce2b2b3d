-- (field) The instances of a library over the signals of a graph, and the first that fits a signal.
use Rattle.std.specs.Prelude.{◌≡◌, ℕ, ◌<◌, Bool, List, [], ◌∷◌, zero, suc, length, map, flat_map}
use Rattle.std.specs.Prelude.{if◌then◌else◌, All, IsTrue, Option, Some, None, filter}
use Rattle.std.specs.List.{list_all, enumerate_from}
use mathlib.Core.Bool.{beq}
use Rattle.si_base.specs.Bits.{bit}
use Rattle.si_base.specs.Codes.{CodedGraph, code, next_value}
use Rattle.si_base.specs.Netlist.{sum_value}
use Rattle.si_base.specs.declared.ids.Literal.{Literal}
use Rattle.si_cell.specs.Library.{Cell, Library, Instance, IsInstance, cell_at, pin_values}
use Rattle.si_cell.specs.Library.{instance_value, admits}
use Rattle.si_cell.specs.Literals.{both_from}
use Rattle.si_cell.specs.declared.pins.Pins.{Pins}

-- ---- all instances, by cell in library order, then by their literals in literal order, the first
-- pin first

-- all lists of so many of the literals, in their order, the first place first
abbrev pub lists_of : ℕ → List Literal → List (List Literal)
lists_of zero literals = [] ∷ []
lists_of (suc pins) literals = flat_map (λ l. map (λ ls. l ∷ ls) (lists_of pins literals)) literals

-- both literals of each signal, in literal order
abbrev pub literals_of_signals : ℕ → List Literal
literals_of_signals signals = both_from signals 0

-- those of them that such pins may have
abbrev pub literals_for : Pins → ℕ → List Literal
literals_for pins signals = filter (admits pins) (literals_of_signals signals)

-- the instances of a cell that stands at that place
abbrev pub instances_of : Pins → ℕ → ℕ × Cell → List Instance
instances_of pins signals p =
    map (λ ls. record { cell = p.0; literals = ls })
    (lists_of (length p.1.pins) (literals_for pins signals))

abbrev pub instances : ℕ → Library → List Instance
instances signals library =
    flat_map (instances_of library.pins signals) (enumerate_from 0 library.cells)

-- ---- fitting

-- each state, with its code
abbrev pub states_of : CodedGraph → List (ℕ × ℕ)
states_of c = enumerate_from 0 c.codes

-- at the state the cell with these literals has the next value of z, where its own output has the
-- value of z
abbrev pub suits : CodedGraph → ℕ → Cell → List Literal → ℕ × ℕ → Bool
suits c z cell literals s =
    beq (sum_value (pin_values literals s.1 (bit s.1 z)) cell.sum) (next_value c s.0 z)

-- the same at every state
abbrev pub fits : CodedGraph → ℕ → Cell → List Literal → Bool
fits c z cell literals = list_all (suits c z cell literals) (states_of c)

-- the first item that passes the test
abbrev pub first_that : {A : Type 0} → (A → Bool) → List A → Option A
first_that test [] = None
first_that test (x ∷ xs) = if test x then Some x else first_that test xs

-- the first instance that fits z
unfoldable pub first_fit : CodedGraph → Library → ℕ → Option Instance
first_fit c library z =
    first_that (λ i. fits c z (cell_at library i.cell) i.literals)
    (instances (length c.graph.signals) library)

-- ---- what it is for an instance to fit

-- an instance over signals of the graph, by literals that the library's pins may have
pub record IsOver (c : CodedGraph) (library : Library) (i : Instance) : Type 0 where
  pub instance : IsInstance library i
  pub signals : All (λ l. l.sig < length c.graph.signals) i.literals
  pub admitted : All (λ l. IsTrue (admits library.pins l)) i.literals

-- at every state its value, where the own output has the value of z, is the next value of z
abbrev pub Fits : CodedGraph → Library → ℕ → Instance → Type 0
Fits c library z i = (s : ℕ) → s < c.graph.states
    → instance_value library i (code c s) (bit (code c s) z) ≡ next_value c s z
