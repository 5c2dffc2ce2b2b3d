-- Cells with the names of their ports: by places, by names, and as inverters.
use Rattle.std.proofs.Common.{◌≡◌, ◌≢◌, ℕ, zero, suc, ◌<◌, Bool, true, false, List, [], ◌∷◌, length, filter}
use Rattle.std.proofs.Common.{Option, Some, None, All, AllPairs, bytes_eq, refl, sym, ap, ◌∙◌, arith, inl, inr}
use Rattle.std.specs.Prelude.{slice_index_or}
use Rattle.std.specs.Bool.{IsFalse}
use Rattle.std.specs.Option.{MatchOption, is_some}
use Rattle.std.specs.List.{AllByRecursion, list_any}
use Rattle.std.proofs.lemmas.Bool.{cases_Bool, false_from_ne_true, or_from}
use Rattle.std.proofs.lemmas.List.Elements.{recursion_from_All}
use Rattle.std.proofs.lemmas.Slice.Eq.{bytes_eq-Decides}
use Rattle.si_cell.specs.Library.{Cell, IsCell, no_cell}
use Rattle.si_genlib.specs.Ports.{Ports, ArePortsOf, PortedLibrary}
use Rattle.si_structure.specs.Laws.{IsPorted}
use Rattle.si_structure.specs.StructureText.{PortedCell, cell_named, inverter_of, is_inverter, ported_cells, with_ports}
use Rattle.si_structure.specs.Loops.Deciding.{HasNoInverter, IsFirstInverter, no_ports, ported_at}
use Rattle.si_structure.proofs.CellLemmas.{IsPortedCell}

-- ---- by places

ported_count : (cells : List Cell) (ports : List Ports) → length ports ≡ length cells
    → length (with_ports cells ports) ≡ length cells
ported_count [] ports count = refl
ported_count (c ∷ cs) [] count = absurd (omega arith)
ported_count (c ∷ cs) (p ∷ ps) count =
    let rest : length ps ≡ length cs = omega arith in
    ap suc (ported_count cs ps rest)

cell_there : (cells : List Cell) (ports : List Ports) → length ports ≡ length cells → (k : ℕ) (d : PortedCell)
    → (slice_index_or (with_ports cells ports) k d).cell ≡ slice_index_or cells k d.cell
cell_there [] ports count k d = refl
cell_there (c ∷ cs) [] count k d = absurd (omega arith)
cell_there (c ∷ cs) (p ∷ ps) count zero d = refl
cell_there (c ∷ cs) (p ∷ ps) count (suc k) d =
    let rest : length ps ≡ length cs = omega arith in
    cell_there cs ps rest k d

pub ported_distinct : (ported : PortedLibrary) → IsPorted ported
    → AllPairs (λ (x : PortedCell) (y : PortedCell). x.cell.name ≢ y.cell.name) (ported_cells ported)
ported_distinct ported is = λ i j d before within.
    let cells = ported.library.cells in
    let ports = ported.ports in
    let count = is.ports.count in
    let size = ported_count cells ports count in
    let inside : j < length cells = omega arith in
    let first = cell_there cells ports count i d in
    let second = cell_there cells ports count j d in
    λ same. is.library.cells.distinct i j d.cell before inside
    (ap (λ (c : Cell). c.name) (sym first) ∙ same ∙ ap (λ (c : Cell). c.name) second)

-- what each cell of a library has
pub cell_is : (ported : PortedLibrary) → IsPorted ported → (k : ℕ) → k < length ported.library.cells
    → IsPortedCell (ported_at ported k)
cell_is ported is k within = record {
  cell = is.library.cells.each k no_cell within;
  ports = is.ports.each k no_cell no_ports within;
}

cells_are_from : (cells : List Cell) (ports : List Ports) → length ports ≡ length cells → AllByRecursion IsCell cells
    → ((k : ℕ) (c : Cell) (p : Ports) → k < length cells → ArePortsOf (slice_index_or cells k c)
    (slice_index_or ports k p)) → AllByRecursion IsPortedCell (with_ports cells ports)
cells_are_from [] ports count all each = tt
cells_are_from (c ∷ cs) [] count all each = absurd (omega arith)
cells_are_from (c ∷ cs) (p ∷ ps) count all each =
    let rest : length ps ≡ length cs = omega arith in (
      record { cell = all.0; ports = each 0 c p (omega arith) },
      cells_are_from cs ps rest all.1 (λ k d q within. each (suc k) d q (omega arith)),
    )

pub cells_are : (ported : PortedLibrary) → IsPorted ported → AllByRecursion IsPortedCell (ported_cells ported)
cells_are ported is = cells_are_from ported.library.cells ported.ports is.ports.count
    (recursion_from_All IsCell ported.library.cells is.library.cells.each) is.ports.each

-- ---- by their names

module _ (name : List ℕ) where
  named_none : (cells : List Cell) (ports : List Ports) → AllByRecursion (λ c. c.name ≢ name) cells
      → cell_named (with_ports cells ports) name ≡ None
  named_none [] ports none = refl
  named_none (c ∷ cs) [] none = refl
  named_none (c ∷ cs) (p ∷ ps) none =
      let other : bytes_eq c.name name ≡ false = false_from_ne_true (bytes_eq c.name name)
      (λ same. none.0 ((bytes_eq-Decides c.name name).0 same)) in
      rw other (named_none cs ps none.1)

named_from : (cells : List Cell) (ports : List Ports) → length ports ≡ length cells
    → AllPairs (λ x y. x.name ≢ y.name) cells → (k : ℕ) → k < length cells
    → cell_named (with_ports cells ports) (slice_index_or cells k no_cell).name
    ≡ Some (record { cell = slice_index_or cells k no_cell; ports = slice_index_or ports k no_ports })
named_from [] ports count pairs k within = absurd (omega arith)
named_from (c ∷ cs) [] count pairs k within = absurd (omega arith)
named_from (c ∷ cs) (p ∷ ps) count pairs zero within =
    let same : bytes_eq c.name c.name ≡ true = (bytes_eq-Decides c.name c.name).1 refl in
    rw same refl
named_from (c ∷ cs) (p ∷ ps) count pairs (suc k) within =
    let rest : length ps ≡ length cs = omega arith in
    let apart : c.name ≢ (slice_index_or cs k no_cell).name = pairs 0 (suc k) no_cell (omega arith) (omega arith) in
    let other : bytes_eq c.name (slice_index_or cs k no_cell).name ≡ false =
    false_from_ne_true (bytes_eq c.name (slice_index_or cs k no_cell).name)
    (λ same. apart ((bytes_eq-Decides c.name (slice_index_or cs k no_cell).name).0 same)) in
    rw other (named_from cs ps rest (λ i j d before inside. pairs (suc i) (suc j) d (omega arith) (omega arith)) k
    (omega arith))

pub named_at : (ported : PortedLibrary) → IsPorted ported → (k : ℕ) → k < length ported.library.cells
    → cell_named (ported_cells ported) (ported_at ported k).cell.name ≡ Some (ported_at ported k)
named_at ported is k within =
    named_from ported.library.cells ported.ports is.ports.count is.library.cells.distinct k within

-- the place that a search by name tells
pub named_told : (ported : PortedLibrary) → IsPorted ported → (name : List ℕ) (found : Option ℕ)
    → MatchOption found (All (λ c. c.name ≢ name) ported.library.cells)
    (λ k. (k < length ported.library.cells) × ((slice_index_or ported.library.cells k no_cell).name ≡ name))
    → MatchOption found (cell_named (ported_cells ported) name ≡ None)
    (λ k. (k < length ported.library.cells)
    × (cell_named (ported_cells ported) name ≡ Some (ported_at ported k)))
named_told ported is name None told = named_none name ported.library.cells ported.ports
    (recursion_from_All (λ (c : Cell). c.name ≢ name) ported.library.cells told)
named_told ported is name (Some k) told = (
  told.0,
  ap (cell_named (ported_cells ported)) (sym told.1) ∙ named_at ported is k told.0,
)

-- the first of the name among those that are kept
pub kept_found : (kept : PortedCell → Bool) (cells : List PortedCell) (name : List ℕ) (c : PortedCell)
    → cell_named cells name ≡ Some c → kept c ≡ true → cell_named (filter kept cells) name ≡ Some c
kept_found kept [] name c found is_kept = cc
kept_found kept (d ∷ ds) name c found is_kept = elim (cases_Bool (bytes_eq d.cell.name name)) [
  | inl is ↦ (
      let here = rw is at found in
      let same : d ≡ c = cc in
      let first : kept d ≡ true = ap kept same ∙ is_kept in
      rw (first, is) here)
  | inr other ↦ (
      let later = kept_found kept ds name c (rw other at found) is_kept in
      elim (cases_Bool (kept d)) [
        | inl first ↦ rw (first, other) later
        | inr unused ↦ rw unused later
      ])
]

-- ---- inverters

inverter_none : (cells : List Cell) (ports : List Ports) → AllByRecursion (λ c. IsFalse (is_inverter c)) cells
    → inverter_of (with_ports cells ports) ≡ None
inverter_none [] ports none = refl
inverter_none (c ∷ cs) [] none = refl
inverter_none (c ∷ cs) (p ∷ ps) none = rw none.0 (inverter_none cs ps none.1)

later_first : (c : Cell) (cs : List Cell) (k : ℕ) → IsFirstInverter (c ∷ cs) (suc k) → IsFirstInverter cs k
later_first c cs k first =
    let inside = first.within in
    record {
      within = omega arith;
      is = first.is;
      others = λ j d before. first.others (suc j) d (omega arith);
    }

inverter_from : (cells : List Cell) (ports : List Ports) → length ports ≡ length cells → (k : ℕ)
    → IsFirstInverter cells k → inverter_of (with_ports cells ports)
    ≡ Some (record { cell = slice_index_or cells k no_cell; ports = slice_index_or ports k no_ports })
inverter_from [] ports count k first = let inside = first.within in absurd (omega arith)
inverter_from (c ∷ cs) [] count k first = absurd (omega arith)
inverter_from (c ∷ cs) (p ∷ ps) count zero first = let here = first.is in rw here refl
inverter_from (c ∷ cs) (p ∷ ps) count (suc k) first =
    let rest : length ps ≡ length cs = omega arith in
    let other = first.others 0 no_cell (omega arith) in
    rw other (inverter_from cs ps rest k (later_first c cs k first))

pub inverter_at : (ported : PortedLibrary) → IsPorted ported → (k : ℕ) → IsFirstInverter ported.library.cells k
    → inverter_of (ported_cells ported) ≡ Some (ported_at ported k)
inverter_at ported is k first = inverter_from ported.library.cells ported.ports is.ports.count k first

none_inverts : (cells : List Cell) → AllByRecursion (λ c. IsFalse (is_inverter c)) cells
    → list_any is_inverter cells ≡ false
none_inverts [] none = refl
none_inverts (c ∷ cs) none = or_from _ _ none.0 (none_inverts cs none.1)

one_inverts : (cells : List Cell) (k : ℕ) → IsFirstInverter cells k → list_any is_inverter cells ≡ true
one_inverts [] k first = let inside = first.within in absurd (omega arith)
one_inverts (c ∷ cs) zero first = let here = first.is in rw here refl
one_inverts (c ∷ cs) (suc k) first =
    let other = first.others 0 no_cell (omega arith) in
    rw other (one_inverts cs k (later_first c cs k first))

-- what a search for an inverter tells
pub inverter_told : (ported : PortedLibrary) → IsPorted ported → (found : Option ℕ)
    → MatchOption found (HasNoInverter ported.library.cells) (IsFirstInverter ported.library.cells)
    → MatchOption found (inverter_of (ported_cells ported) ≡ None)
    (λ k. (k < length ported.library.cells) × (inverter_of (ported_cells ported) ≡ Some (ported_at ported k)))
inverter_told ported is None told = inverter_none ported.library.cells ported.ports
    (recursion_from_All (λ (c : Cell). IsFalse (is_inverter c)) ported.library.cells told)
inverter_told ported is (Some k) told = (told.within, inverter_at ported is k told)

pub inverts_told : (cells : List Cell) (found : Option ℕ)
    → MatchOption found (HasNoInverter cells) (IsFirstInverter cells) → is_some found ≡ list_any is_inverter cells
inverts_told cells None told =
    sym (none_inverts cells (recursion_from_All (λ (c : Cell). IsFalse (is_inverter c)) cells told))
inverts_told cells (Some k) told = sym (one_inverts cells k told)

pub some_inverter : (cells : List Cell) → list_any is_inverter cells ≡ true → (k : ℕ) × IsFirstInverter cells k
some_inverter [] some = cc
some_inverter (c ∷ cs) some = elim (cases_Bool (is_inverter c)) [
  | inl is ↦ (
    0,
    record { within = omega arith; is = is; others = λ j d before. absurd (omega arith) },
  )
  | inr other ↦ (
      let later = some_inverter cs (rw other at some) in
      let inside = later.1.within in (
        suc later.0,
        record {
          within = omega arith;
          is = later.1.is;
          others = earlier later.0 other later.1;
        },
      ))
]
  where
    earlier : (k : ℕ) → IsFalse (is_inverter c) → IsFirstInverter cs k → (j : ℕ) (d : Cell) → j < suc k
        → IsFalse (is_inverter (slice_index_or (c ∷ cs) j d))
    earlier k other first zero d before = other
    earlier k other first (suc j) d before = first.others j d (omega arith)

-- the inverter that there may be is a cell of the library
abbrev pub IsCellIfAny : Option PortedCell → Type 0
IsCellIfAny None = Unit {0}
IsCellIfAny (Some c) = IsPortedCell c

inverter_good : (cells : List PortedCell) → AllByRecursion IsPortedCell cells → IsCellIfAny (inverter_of cells)
inverter_good [] all = tt
inverter_good (c ∷ cs) all = elim (cases_Bool (is_inverter c.cell)) [
  | inl is ↦ rw is all.0
  | inr other ↦ rw other (inverter_good cs all.1)
]

pub inverter_is : (ported : PortedLibrary) → IsPorted ported → IsCellIfAny (inverter_of (ported_cells ported))
inverter_is ported is = inverter_good (ported_cells ported) (cells_are ported is)
