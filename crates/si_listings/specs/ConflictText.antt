-- (text) The text of the conflicts of a graph.
use Rattle.std.specs.Prelude.{◌≡◌, ℕ, List, [], ◌∷◌, map, codes, decimal}
use Rattle.si_base.specs.Codes.{CodedGraph}
use Rattle.si_base.specs.Words.{text_of}
use Rattle.si_conflicts.specs.Conflicts.{HasConflicts, AreFirstConflicts}
use Rattle.si_sg.specs.CanonicalText.{state_at}

-- the most conflicts that are printed
abbrev pub max_printed : ℕ
max_printed = 1000

abbrev pub pair_line : List (List ℕ) → ℕ × ℕ → List (List ℕ)
pair_line states pair = state_at states pair.0 ∷ state_at states pair.1 ∷ []

-- how many conflicts there are, and these ones
unfoldable pub conflicts_text : List (List ℕ) → ℕ → List (ℕ × ℕ) → List ℕ
conflicts_text states count pairs =
    text_of ((codes "conflicts" ∷ decimal count ∷ []) ∷ map (pair_line states) pairs)

-- the text of the number of all conflicts of c and of the first of them, with these names of its
-- states
pub record IsConflictText (c : CodedGraph) (states : List (List ℕ)) (text : List ℕ) : Type 0 where
  pub count : ℕ
  pub counted : HasConflicts c count
  pub pairs : List (ℕ × ℕ)
  pub first : AreFirstConflicts c max_printed pairs
  pub text_is : text ≡ conflicts_text states count pairs
