-- Classes that are packed into words.
use Rattle.std.specs.Prelude.{◌≡◌, ℕ, ◌+◌, ◌*◌, List, [], ◌∷◌, map, reverse, Vec}
use Rattle.std.specs.Global.{Global}
use Rattle.std.specs.Cmp.Lexicographic.{slice_cmp}
use Rattle.std.specs.List.{flat_map}
use Rattle.std.specs.Ordering.{nat_cmp}
use Rattle.std.specs.declared.cmp.Ordering.{Ordering}
use Rattle.si_insert.specs.declared.partition.Class.{Class}
use Rattle.si_insert.specs.declared.partition.Class.TheVariants.{Low, Rising, High, Falling}

-- the two bits of a class
abbrev pub digit : Class → ℕ
digit Low = 0
digit Rising = 1
digit High = 2
digit Falling = 3

-- the word of classes, of which the last stands first: the two bits of each behind a 1
abbrev pub word_of : List Class → ℕ
word_of [] = 1
word_of (c ∷ cs) = 4 * word_of cs + digit c

-- the words are those of parts of the classes; of the parts the last stands first
pub record ArePacked (classes : List Class) (words : List ℕ) : Type 0 where
  pub parts : List (List Class)
  pub joined : flat_map (λ p. p) parts ≡ reverse classes
  pub coded : map word_of parts ≡ reverse words

-- the same with a word behind the others: that of the last part, which takes the next class
pub record ArePacking (classes : List Class) (words : List ℕ) (word : ℕ) : Type 0 where
  pub last : List Class
  pub full : List (List Class)
  pub joined : flat_map (λ p. p) (last ∷ full) ≡ reverse classes
  pub coded : map word_of full ≡ reverse words
  pub here : word_of last ≡ word

-- the order of words: by the first in which they differ
abbrev pub words_cmp : Vec ℕ Global → Vec ℕ Global → Ordering
words_cmp v w = slice_cmp nat_cmp v.items w.items
