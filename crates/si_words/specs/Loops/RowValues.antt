-- Lines of a text that were taken, with the values that they spell.
use Rattle.std.specs.Prelude.{ℕ, ◌≡◌, List, ◌++◌, length, map, take, drop, None}
use Rattle.si_words.specs.Lines.{Form, words_of}
use Rattle.si_words.specs.Rows.{Left, fault_of, TakesLine}

-- one line was taken: it has the form, and its words spell the value
pub record TakesValue {V : Type 0} (form : Form) (spelled : List (List ℕ) → V) (old new : Left)
    (value : V) : Type 0 where
  pub words : List (List ℕ)
  pub takes : TakesLine old new words
  pub good : form words ≡ None
  pub value_is : value ≡ spelled words

-- a line was taken for each form: they have the forms, and their words spell the values
pub record TakesAll {V : Type 0} (forms : List Form) (spelled : List (List ℕ) → V) (old new : Left)
    (values : List V) : Type 0 where
  pub fault : (rest : List Form) → fault_of (forms ++ rest) old ≡ fault_of rest new
  pub lines : new.lines ≡ drop (length forms) old.lines
  pub values_are : values ≡ map (λ line. spelled (words_of line)) (take (length forms) old.lines)
