-- How far the words of a line fill the places of a form.
use Rattle.std.specs.Prelude.{◌≡◌, ℕ, List, [], ◌++◌, drop}
use Rattle.si_commands.specs.Form.{Slot, Tail, HasParts}

-- of all files and choices, what is left behind the first places, which have these
pub record Later (places : List Slot) (tail : Tail) (words files choices : List (List ℕ)) (place : ℕ)
    (all_files all_choices : List (List ℕ)) : Type 0 where
  pub files_left : List (List ℕ)
  pub choices_left : List (List ℕ)
  pub files_are : all_files ≡ files ++ files_left
  pub choices_are : all_choices ≡ choices ++ choices_left
  pub has : HasParts (drop place places) tail (drop place words) files_left choices_left

-- the places before this one are filled, with these files and choices
pub record IsFilled (places : List Slot) (tail : Tail) (words files choices : List (List ℕ))
    (place : ℕ) : Type 0 where
  pub later : (all_files all_choices : List (List ℕ))
      → HasParts places tail words all_files all_choices
      → Later places tail words files choices place all_files all_choices
  pub with_later : (files_left choices_left : List (List ℕ))
      → HasParts (drop place places) tail (drop place words) files_left choices_left
      → HasParts places tail words (files ++ files_left) (choices ++ choices_left)

-- whatever stands behind them
abbrev pub AreFilled : (places : List Slot) → (words files choices : List (List ℕ)) → (place : ℕ)
    → Type 0
AreFilled places words files choices place =
    (tail : Tail) → IsFilled places tail words files choices place

-- the words behind the places, all of them, are these more files and choices
pub record Completes (tail : Tail) (left files choices all_files all_choices : List (List ℕ))
    : Type 0 where
  pub more_files : List (List ℕ)
  pub more_choices : List (List ℕ)
  pub files_are : all_files ≡ files ++ more_files
  pub choices_are : all_choices ≡ choices ++ more_choices
  pub has : HasParts [] tail left more_files more_choices
