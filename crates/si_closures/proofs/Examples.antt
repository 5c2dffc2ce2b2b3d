-- Worked examples: sets as columns of words and as rows of flags, the event at a place, and cells of matrices.
use Rattle.std.proofs.Common.{◌≡◌, true, false, [], ◌∷◌, ◌++◌, replicate, refl, arith}
use Rattle.si_base.specs.Graph.{rise, fall}
use Rattle.si_closures.specs.Loops.Rows.{flag_in}
use Rattle.si_closures.specs.Loops.Turned.{cell}
use Rattle.si_closures.specs.Loops.WordSearch.{column}
use Rattle.si_closures.specs.Loops.Words.{IsEventAt}

-- of three states the first is in the set 1 alone, the second in the set 0 alone, the third in both
first_column : column 0 (2 ∷ 1 ∷ 3 ∷ []) ≡ false ∷ true ∷ true ∷ []
first_column = refl

next_column : column 1 (2 ∷ 1 ∷ 3 ∷ []) ≡ true ∷ false ∷ true ∷ []
next_column = refl

second_event : IsEventAt (rise 0 ∷ fall 3 ∷ []) 1 (fall 3)
second_event = record { inside = omega arith; same = refl }

-- the bit of value 2 stands in column 1, and in the row of that number where the matrix is turned
in_the_first_row : cell (2 ∷ 0 ∷ []) 0 1 ≡ true
in_the_first_row = refl

in_the_first_column : cell (0 ∷ 1 ∷ []) 1 0 ≡ true
in_the_first_column = refl

-- the second row of a block has the flags of the set 1: the bit of value 4 is that of the state 2
in_the_second_row : flag_in (0 ∷ 4 ∷ []) 1 2 ≡ true
in_the_second_row = refl

-- the states from 128 on have a block of their own
in_the_second_block : flag_in (replicate 128 0 ++ 0 ∷ 4 ∷ []) 1 130 ≡ true
in_the_second_block = refl
