-- (field) An insertion of a part as one of the graph that is composed of all parts: what the part's
-- own netlist calls each state, the states that its words name, and the name of the new signal.
use Rattle.std.specs.Prelude.{◌≡◌, ◌⊎◌, ℕ, ◌-◌, ◌/◌, ◌^◌, Bool, List, [], ◌∷◌, length, map}
use Rattle.std.specs.Prelude.{bytes_eq, slice_index, if◌then◌else◌}
use Rattle.std.specs.List.{list_all, list_any, range_with_len}
use Rattle.si_base.specs.declared.graph.Signal.{Signal}
use Rattle.si_base.specs.Codes.{code}
use Rattle.si_base.specs.Words.{is_digit}
use Rattle.si_circuit.specs.Spelling.{state_word}
use Rattle.si_circuit.specs.declared.spelling.Descent.{Descent}
use Rattle.si_insert.specs.Fresh.{IsFresh, IsTaken}
use Rattle.si_insert.specs.Lineage.{History, origin}
use Rattle.si_sg.specs.CanonicalText.{state_at}

-- how a part sees the composed graph: its own name for each given state of that, and how many
-- signals other parts have inserted before it
pub record PartView : Type 0 where
  pub names : List (List ℕ)
  pub before : ℕ

-- part i, whose states have these names, calls each tuple as its own state there
abbrev pub names_in_part : (states : List (List ℕ)) → (i : ℕ) → (tuples : List (List ℕ))
    → List (List ℕ)
names_in_part states i tuples = map (λ xs. state_at states (slice_index xs i)) tuples

-- from where state s of the current graph comes, and the values of the signals that the part itself
-- has inserted
abbrev pub own_descent : PartView → History → ℕ → Descent
own_descent view l s = record {
  origin = origin l.current s;
  bits = code l.current.coded s / 2 ^ length l.given.graph.signals / 2 ^ view.before;
}

-- the word that the part's own netlist has for that state
abbrev pub own_word : PartView → History → ℕ → List ℕ
own_word view l s = state_word view.names (length l.trace - view.before) (own_descent view l s)

-- the states of the current graph for which the part has one of these words
abbrev pub lifted_set : PartView → History → (words : List (List ℕ)) → List Bool
lifted_set view l words = map (λ s. list_any (bytes_eq (own_word view l s)) words)
    (range_with_len 0 l.current.coded.graph.states)

-- a name without the digits at its end
abbrev pub letters : List ℕ → List ℕ
letters [] = []
letters (b ∷ bs) = if list_all is_digit (b ∷ bs) then [] else b ∷ letters bs

-- the name that an inserted signal of a part has among these signals: its own, or, where one of
-- them has that, its letters with the least number that is free
abbrev pub IsNamedAmong : List Signal → (own name : List ℕ) → Type 0
IsNamedAmong signals own name = ((IsTaken signals own → ⊥) × (name ≡ own))
    ⊎ (IsTaken signals own × IsFresh signals (letters own) name)
