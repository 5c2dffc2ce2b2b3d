-- (law) What laws say of netlists that work together.
use Rattle.std.specs.Prelude.{◌≡◌, ℕ, List, length, Ok}
use Rattle.si_works.specs.System.{AreRight, two_by_two}
use Rattle.si_works.specs.Works.{works}

-- texts that come to an output are right together
abbrev pub OutputsAreRight : Type 0
OutputsAreRight = (files texts : List (List ℕ)) (output : List ℕ) → length texts ≡ length files
    → works files texts (Ok output) → AreRight (two_by_two texts)
