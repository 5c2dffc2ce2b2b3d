-- (text) Gates, and the cells that they become.
use Rattle.std.specs.Prelude.{ℕ, ◌+◌, ◌^◌, ◌&&◌, not, Bool, true, false, List, [], ◌∷◌, ◌++◌}
use Rattle.std.specs.Prelude.{length, map, filter, take, ◌==◌, nat_le, bytes_eq, codes}
use Rattle.std.specs.Prelude.{if◌then◌else◌, position, unwrap_or, zero, suc, Result, Ok, Err}
use Rattle.std.specs.List.{list_any}
use Rattle.si_base.specs.Bits.{bit}
use Rattle.si_base.specs.Bytes.{underscore, semicolon}
use Rattle.si_base.specs.Netlist.{Sum}
use Rattle.si_base.specs.Words.{is_name_byte, is_letter}
use Rattle.si_base.specs.declared.fault.TextKind.TheVariants.{OwnFalling, TooManyCells}
use Rattle.si_words.specs.Names.{stands_in}
use Rattle.si_cell.specs.Library.{Cell}
use Rattle.si_cell.specs.Limits.{max_cells, max_pins}
use Rattle.si_cell.specs.LibraryText.{names_of}
use Rattle.si_cube.specs.Covers.{Demand}
use Rattle.si_cube.specs.Rule.{chosen}
use Rattle.si_tokens.specs.declared.fault.Stop.{Stop}
use Rattle.si_tokens.specs.declared.fault.Stop.TheVariants.{Fault}
use Rattle.si_tokens.specs.Unread.{Piece}
use Rattle.si_genlib.specs.Expression.{Tree, truth, value_of, is_name, is_constant}
use Rattle.si_genlib.specs.Ports.{Ports}

-- ---- pins

-- the pins, in order of first appearance, as far as a cell may have them; whether there are more;
-- and whether the own output occurs
pub record Pins : Type 0 where
  pub names : List (List ℕ)
  pub more : Bool
  pub own : Bool

abbrev pub no_pins : Pins
no_pins = record { names = []; more = false; own = false }

-- with this name; the own output has the name `out`
abbrev pub with_pin : List ℕ → Pins → List ℕ → Pins
with_pin out pins name =
    if bytes_eq name out then record { names = pins.names; more = pins.more; own = true }
    else if stands_in pins.names name then pins
    else if nat_le max_pins (length pins.names) then record {
      names = pins.names;
      more = true;
      own = pins.own;
    }
    else record { names = pins.names ++ name ∷ []; more = pins.more; own = pins.own }

abbrev pub with_token : List ℕ → Pins → List ℕ → Pins
with_token out pins bytes =
    if is_name bytes && not (is_constant bytes) then with_pin out pins bytes else pins

abbrev pub ends_expression : List ℕ → Bool
ends_expression (b ∷ []) = b == semicolon
ends_expression _ = false

-- the pins of the expression of these tokens
abbrev pub pins_from : List ℕ → Pins → List Piece → Pins
pins_from out pins [] = pins
pins_from out pins (token ∷ more) =
    if ends_expression token.bytes then pins
    else pins_from out (with_token out pins token.bytes) more

-- ---- gates

-- a gate: the line where it begins, its name, that of its own output, its pins, and the tree of its
-- expression
pub record Gate : Type 0 where
  pub line : ℕ
  pub name : List ℕ
  pub out : List ℕ
  pub pins : Pins
  pub tree : Tree

-- the number of pins, and of the own output, where it occurs
abbrev pub pin_count : Gate → ℕ
pin_count gate = length gate.pins.names

abbrev pub bits_of : Pins → ℕ
bits_of pins = length pins.names + (if pins.own then 1 else 0)

abbrev pub width : Gate → ℕ
width gate = bits_of gate.pins

-- the bit of a name in a code: that of its place among the pins, and for the own output the next
abbrev pub place : List (List ℕ) → List ℕ → ℕ
place names name = unwrap_or (position (λ n. bytes_eq name n) names) (length names)

-- the value of the gate at a code
unfoldable pub gate_value : Gate → ℕ → Bool
gate_value gate code = value_of (truth (λ name. bit code (place gate.pins.names name))) gate.tree

-- the numbers below this one, in ascending order
abbrev pub below : ℕ → List ℕ
below zero = []
below (suc n) = below n ++ n ∷ []

-- the value is 1 where the own output is 0, and 0 where it is 1
abbrev pub falls_at : ℕ → (ℕ → Bool) → ℕ → Bool
falls_at count value code = value code && not (value (code + 2 ^ count))

-- so for some values of the pins, of which there are so many
abbrev pub falls : ℕ → (ℕ → Bool) → Bool
falls count value = list_any (falls_at count value) (below (2 ^ count))

-- ---- cells

-- the codes of so many bits at which the value is 1 are required, the others forbidden
abbrev pub demand : ℕ → (ℕ → Bool) → Demand
demand bits value = record {
  required = filter value (below (2 ^ bits));
  forbidden = filter (λ code. not (value code)) (below (2 ^ bits));
}

-- the sum that is chosen for them
unfoldable pub sum_of : ℕ → (ℕ → Bool) → Sum
sum_of bits value = chosen bits (demand bits value)

-- `_` for a byte that a name can't have
abbrev pub lawful_byte : ℕ → ℕ
lawful_byte b = if is_name_byte b then b else underscore

-- `_` in front of what begins with no letter and no `_`
abbrev pub front : List ℕ → List ℕ
front [] = []
front (b ∷ bs) = if is_letter (lawful_byte b) then [] else underscore ∷ []

abbrev pub lawful : List ℕ → List ℕ
lawful name = front name ++ map lawful_byte name

-- `_` at the end while the name is one of these, at most so often
abbrev pub fresh : ℕ → List (List ℕ) → List ℕ → List ℕ
fresh zero names name = name
fresh (suc n) names name =
    if stands_in names name then fresh n names (name ++ underscore ∷ []) else name

abbrev pub cell_name : List (List ℕ) → List ℕ → List ℕ
cell_name names name = fresh (length names) names (lawful name)

abbrev pub pin_name : ℕ → List ℕ
pin_name k =
    if k == 0 then codes "p1"
    else if k == 1 then codes "p2"
    else if k == 2 then codes "p3"
    else codes "p4"

abbrev pub pin_names : List (List ℕ)
pin_names = codes "p1" ∷ codes "p2" ∷ codes "p3" ∷ codes "p4" ∷ []

-- the cell of a gate, after cells of these names
unfoldable pub cell_of : List (List ℕ) → Gate → Cell
cell_of names gate = record {
  name = cell_name names gate.name;
  pins = take (pin_count gate) pin_names;
  sum = sum_of (width gate) (gate_value gate);
}

-- the cells, with that of the gate, if it isn't passed over
unfoldable pub with_gate : List Cell → Gate → Result (List Cell) Stop
with_gate cells gate =
    if gate.pins.more then Ok cells
    else if falls (pin_count gate) (gate_value gate) then Err (Fault gate.line OwnFalling)
    else if nat_le max_cells (length cells) then Err (Fault gate.line TooManyCells)
    else Ok (cells ++ cell_of (names_of cells) gate ∷ [])

-- ---- ports

-- the names that the gate gives to the ports of its cell: each pin stands for the name at its place
abbrev pub ports_of : Gate → Ports
ports_of gate = record { pins = gate.pins.names; output = gate.out }

-- the ports of the cells, with those of the gate, if it isn't passed over
abbrev pub with_ports : List Ports → Gate → List Ports
with_ports ports gate = if gate.pins.more then ports else ports ++ ports_of gate ∷ []
