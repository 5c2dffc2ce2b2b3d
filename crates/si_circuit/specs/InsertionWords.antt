-- (text) The words of insertions in a line that tells them.
use Rattle.std.specs.Prelude.{ℕ, List, ◌∷◌, ◌++◌, codes, flat_map}
use Rattle.si_base.specs.Netlist.{Insertion}

-- a bar, the name, and the words of the states at which the signal rises and falls
abbrev pub insertion_words : Insertion → List (List ℕ)
insertion_words i = codes "|" ∷ i.name ∷ codes "up" ∷ i.up ++ codes "down" ∷ i.down

abbrev pub all_insertion_words : List Insertion → List (List ℕ)
all_insertion_words inserts = flat_map insertion_words inserts
