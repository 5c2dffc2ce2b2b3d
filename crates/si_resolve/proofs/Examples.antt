-- Worked examples: the order of choices, the number that the next candidate has to get below, how
-- blocks lie to conflicts, and the crowds that blocks share.
use Rattle.std.proofs.Common.{◌≡◌, ℕ, Bool, true, false, List, [], ◌∷◌, Some, None, refl, inl, inr, lit<, lit≤}
use Rattle.si_base.specs.Order.{Before}
use Rattle.si_resolve.specs.declared.aspects.Aspect.TheVariants.{Together, Apart, Touched}
use Rattle.si_resolve.specs.Loops.Aspects.{aspect_of, part, unparted_count}
use Rattle.si_resolve.specs.Best.{Choice, choice_place}
use Rattle.si_resolve.specs.Loops.Search.{bar}
use Rattle.si_resolve.specs.Loops.Sharing.{ShareCrowd}

abbrev choice : ℕ → ℕ → ℕ → Choice
choice i j conflicts = record { i = i; j = j; classes = []; conflicts = conflicts }

-- fewer conflicts come first, wherever the blocks stand
fewer_first : Before (choice_place (choice 7 9 1)) (choice_place (choice 0 1 2))
fewer_first = inl (lit< tt)

-- among equals the lower place of the later block
lower_later : Before (choice_place (choice 3 4 2)) (choice_place (choice 0 5 2))
lower_later = inr (refl, inl (lit< tt))

-- and then that of the earlier one
lower_earlier : Before (choice_place (choice 1 4 2)) (choice_place (choice 3 4 2))
lower_earlier = inr (refl, inr (refl, inl (lit< tt)))

-- a graph of five conflicts: before anything is found, fewer than five count, then fewer than two
at_first : bar 5 None ≡ 5
at_first = refl

later : bar 5 (Some (choice 3 4 2)) ≡ 2
later = refl

-- s0 leads to s1, that to s2, and that to s3; the block of s1 is left on the way to s2
abbrev second : List Bool
second = false ∷ true ∷ false ∷ false ∷ []

abbrev sides_of_second : List Bool
sides_of_second = false ∷ false ∷ true ∷ true ∷ []

-- the block of s3 is left nowhere
abbrev fourth : List Bool
fourth = false ∷ false ∷ false ∷ true ∷ []

abbrev sides_of_fourth : List Bool
sides_of_fourth = false ∷ false ∷ false ∷ false ∷ []

-- a signal that rises at s1 and falls at s3 parts s0 from s2
apart : aspect_of second sides_of_second (0, 2) ≡ Apart
apart = refl

together : aspect_of fourth sides_of_fourth (0, 2) ≡ Together
together = refl

parted : part Apart Together ≡ true
parted = refl

-- it has both values at s1, which no other state is parted from
touched : aspect_of second sides_of_second (1, 2) ≡ Touched
touched = refl

-- of two conflicts it leaves one at least
one_stays : unparted_count (Apart ∷ Touched ∷ []) (Together ∷ Together ∷ []) ≡ 1
one_stays = refl

-- two blocks with states of a code that three states have leave three conflicts
three_shared : ShareCrowd (Some (record { code = 4; states = 3 })) (Some (record { code = 4; states = 3 })) 3
three_shared = record {
  first = record { code = 4; states = 3 };
  second = record { code = 4; states = 3 };
  first_told = refl;
  second_told = refl;
  same_code = refl;
  enough = lit≤ tt;
}
