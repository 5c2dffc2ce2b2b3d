-- What is red in a picture, as it is found.
use Rattle.std.specs.Prelude.{◌≡◌, ℕ, ◌<◌, Bool, false, List, [], length, slice_index_or}
use Rattle.si_conflicts.specs.Conflicts.{AreFirstConflicts}
use Rattle.si_pictures.specs.InConflict.{AreMarks}
use Rattle.si_pictures.specs.Picture.{max_lines}
use Rattle.si_pictures.specs.Seen.{is_breach_state}
use Rattle.si_pictures.specs.declared.seen.Breach.{Breach}
use Rattle.si_pictures.specs.declared.seen.Seen.{Seen}
use Rattle.si_pictures.specs.declared.seen.Seen.TheVariants.{Proper, Coded, Uncoded}

-- for each of n states whether the breach shows at it
pub record AreBreachMarks (n : ℕ) (breach : Breach) (marks : List Bool) : Type 0 where
  pub count : length marks ≡ n
  pub each : (s : ℕ) → s < n → slice_index_or marks s false ≡ is_breach_state breach s

-- for each state whether it is in a conflict, or the breach shows at it
abbrev pub AreRed : Seen → List Bool → Type 0
AreRed (Proper c) marks = AreMarks c marks
AreRed (Coded c breach) marks = AreBreachMarks c.graph.states breach marks
AreRed (Uncoded g breach) marks = AreBreachMarks g.states breach marks

-- the first conflicts of a proper graph, and of another none
abbrev pub AreLines : Seen → List (ℕ × ℕ) → Type 0
AreLines (Proper c) lines = AreFirstConflicts c max_lines lines
AreLines (Coded c breach) lines = lines ≡ []
AreLines (Uncoded g breach) lines = lines ≡ []
