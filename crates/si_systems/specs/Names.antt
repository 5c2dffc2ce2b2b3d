-- (text) The name of a tuple of states: the names of its states with `|` between them. No two
-- tuples have one name.
use Rattle.std.specs.Prelude.{ℕ, ◌<◌, ◌==◌, ◌||◌, if◌then◌else◌, List, [], ◌∷◌, length, map}
use Rattle.std.specs.Prelude.{flat_map}
use Rattle.std.specs.List.{join_with_byte}
use Rattle.si_base.specs.Bytes.{backslash}
use Rattle.si_base.specs.GivenGraph.{Sg}
use Rattle.si_base.specs.Graph.{StateGraph}
use Rattle.si_sg.specs.CanonicalText.{state_at}

abbrev pub bar : ℕ
bar = 124

-- `|` and `\` have a `\` before them
abbrev pub escape : ℕ → List ℕ
escape b = if (b == bar) || (b == backslash) then backslash ∷ b ∷ [] else b ∷ []

abbrev pub escaped : List ℕ → List ℕ
escaped name = flat_map escape name

-- a tuple of states of the graphs, one of each
abbrev pub IsTupleOf : List Sg → List ℕ → Type 0
IsTupleOf [] [] = Unit {0}
IsTupleOf (g ∷ gs) (x ∷ xs) = (x < length g.states) × IsTupleOf gs xs
IsTupleOf [] (x ∷ xs) = ⊥
IsTupleOf (g ∷ gs) [] = ⊥

-- the names of its states
abbrev pub names_at : List Sg → List ℕ → List (List ℕ)
names_at [] xs = []
names_at (g ∷ gs) [] = []
names_at (g ∷ gs) (x ∷ xs) = state_at g.states x ∷ names_at gs xs

abbrev pub tuple_name : List Sg → List ℕ → List ℕ
tuple_name given xs = join_with_byte bar (map escaped (names_at given xs))

abbrev pub joined_model : List Sg → List ℕ
joined_model given = join_with_byte bar (map (λ g. g.model) given)

-- the graph of the graphs side by side, whose states are these tuples
abbrev pub composed_sg : List Sg → List (List ℕ) → StateGraph → Sg
composed_sg given tuples whole = record {
  model = joined_model given;
  graph = whole;
  states = map (tuple_name given) tuples;
}
