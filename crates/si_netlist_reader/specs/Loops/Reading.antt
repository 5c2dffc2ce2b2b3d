-- Insert lines, read.
use Rattle.std.specs.Prelude.{◌≡◌, ℕ, List, true}
use Rattle.si_netlist_reader.specs.NetlistFault.{is_insert_line}
use Rattle.si_netlist_reader.specs.NetlistValue.{insertion_of}

-- the words are an insert line for the name, with these rising and falling states
pub record Inserts (name : List ℕ) (words up down : List (List ℕ)) : Type 0 where
  pub form : is_insert_line name words ≡ true
  pub value : insertion_of words ≡ record { name = name; up = up; down = down }
