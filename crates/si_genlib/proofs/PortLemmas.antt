-- The ports of cells: the names that a library's own cells have are names of their ports.
use Rattle.std.proofs.Common.{◌≡◌, ◌≢◌, ℕ, ◌<◌, List, [], ◌∷◌, ◌++◌, length, map, get_or, IsTrue, refl, sym}
use Rattle.std.proofs.Common.{subst, ◌∙◌, inl, inr, arith}
use Rattle.std.proofs.lemmas.Bool.{true≢false, cases_lt}
use Rattle.std.proofs.lemmas.List.{get_or-map, get_or_append_left, get_or_push, length-map, length_push}
use Rattle.std.proofs.lemmas.List.Elements.{All-push, All-weaker}
use Rattle.std.proofs.lemmas.List.Quantifiers.{all_pairs_push}
use Rattle.si_base.specs.Words.{is_signal_name}
use Rattle.si_words.proofs.NameWords.{name_bytes}
use Rattle.si_cell.specs.Library.{Cell, Library, IsPinName, IsCell, IsLibrary, own}
use Rattle.si_genlib.specs.Ports.{Ports, IsPortName, ArePortsOf, ArePorts, own_ports}

signal_name_is_port_name : (name : List ℕ) → IsTrue (is_signal_name name) → IsPortName name
signal_name_is_port_name [] is = absurd (true≢false (sym is))
signal_name_is_port_name (b ∷ bs) is = name_bytes (b ∷ bs) is

own_are_of : (cell : Cell) → IsCell cell → ArePortsOf cell (own_ports cell)
own_are_of cell is = record {
  count = refl;
  names = All-push IsPortName cell.pins own
      (All-weaker IsPinName IsPortName (λ name pin. signal_name_is_port_name name pin.signal_name) cell.pins is.pins)
      refl;
  distinct = all_pairs_push (λ x y. x ≢ y) cell.pins own is.distinct (λ k d inside. (is.pins k d inside).other);
}

pub own_are : (library : Library) → IsLibrary library → ArePorts library.cells (map own_ports library.cells)
own_are library is = record {
  count = length-map library.cells own_ports;
  each = λ k cell names inside.
      let own_there : get_or (map own_ports library.cells) k names ≡ own_ports (get_or library.cells k cell) =
      get_or-map own_ports library.cells k cell names inside in
      subst (ArePortsOf (get_or library.cells k cell)) (sym own_there)
      (own_are_of (get_or library.cells k cell) (is.cells.each k cell inside));
}

-- ---- one more cell, with names of its ports
pub more_ports : (cells : List Cell) (ports : List Ports) (cell : Cell) (names : Ports) → ArePorts cells ports
    → ArePortsOf cell names → ArePorts (cells ++ cell ∷ []) (ports ++ names ∷ [])
more_ports cells ports cell names are is = record {
  count = omega (arith, are.count, length_push ports names, length_push cells cell);
  each = λ k c p inside. elim (cases_lt k (length cells)) [
    | inl old ↦
        let in_ports : k < length ports = omega (arith, old, are.count) in
        let old_cell : get_or (cells ++ cell ∷ []) k c ≡ get_or cells k c =
        get_or_append_left cells (cell ∷ []) c k old in
        let old_ports : get_or (ports ++ names ∷ []) k p ≡ get_or ports k p =
        get_or_append_left ports (names ∷ []) p k in_ports in
        rw (old_cell, old_ports) (are.each k c p old)
    | inr last ↦
        let at_cells : length cells ≡ k = omega (arith, last, inside, length_push cells cell) in
        let at_ports : length ports ≡ k = are.count ∙ at_cells in
        rw (get_or_push cells cell c k at_cells, get_or_push ports names p k at_ports) is
  ];
}
