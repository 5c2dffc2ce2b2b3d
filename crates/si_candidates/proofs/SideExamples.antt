-- Worked examples: a tree of arcs, the sides of a block along it, and the classes that sides tell.
use Rattle.std.proofs.Common.{◌≡◌, ℕ, Bool, true, false, List, [], ◌∷◌, refl, arith, inl, inr}
use Rattle.si_base.specs.Sets.{is_in}
use Rattle.si_insert.specs.declared.partition.Class.TheVariants.{Low, Rising, High, Falling}
use Rattle.si_candidates.specs.declared.tree.Link.{Link}
use Rattle.si_candidates.specs.Loops.Tree.{IsMet}
use Rattle.si_candidates.specs.Loops.Sides.{between, class_by, classes_by, differ, leaves, side_classes}

-- from s0, the start, to s1, from there to s2, and on to s3
abbrev three_links : List Link
three_links = record { from = 0; to = 1 } ∷ record { from = 1; to = 2 } ∷ record { from = 2; to = 3 } ∷ []

start_met : IsMet 0 three_links 0 0
start_met = inl refl

last_met : IsMet 0 three_links 3 3
last_met = inr (2, record { from = 2; to = 3 }, omega arith, (omega arith, refl), refl)

-- s1 alone: s2 and s3 lie on the other side than the start, since the link to s2 leaves it
abbrev second : List Bool
second = false ∷ true ∷ false ∷ false ∷ []

abbrev sides_of_second : List Bool
sides_of_second = false ∷ false ∷ true ∷ true ∷ []

into_it : is_in sides_of_second 1 ≡ differ (is_in sides_of_second 0) (leaves second 0 1)
into_it = refl

out_of_it : is_in sides_of_second 2 ≡ differ (is_in sides_of_second 1) (leaves second 1 2)
out_of_it = refl

past_it : is_in sides_of_second 3 ≡ differ (is_in sides_of_second 2) (leaves second 2 3)
past_it = refl

-- s3 alone: it is left nowhere
abbrev fourth : List Bool
fourth = false ∷ false ∷ false ∷ true ∷ []

abbrev sides_of_fourth : List Bool
sides_of_fourth = false ∷ false ∷ false ∷ false ∷ []

-- a signal that rises at s1 and falls at s3 is High between them, and Low at the start
abbrev turned : ℕ → Bool
turned s = differ (between sides_of_second sides_of_fourth 1) (between sides_of_second sides_of_fourth s)

low_at_start : class_by (is_in second 0) (is_in fourth 0) (turned 0) ≡ Low
low_at_start = refl

rises_there : class_by (is_in second 1) (is_in fourth 1) (turned 1) ≡ Rising
rises_there = refl

high_between : class_by (is_in second 2) (is_in fourth 2) (turned 2) ≡ High
high_between = refl

falls_there : class_by (is_in second 3) (is_in fourth 3) (turned 3) ≡ Falling
falls_there = refl

-- s2 alone: there the value is 1 on the way
abbrev third : List Bool
third = false ∷ false ∷ true ∷ false ∷ []

each_class : classes_by second fourth third ≡ Low ∷ Rising ∷ High ∷ Falling ∷ []
each_class = refl

-- the sides alone tell the same, by the value that the signal has on the way to s1
told_by_sides : side_classes second fourth sides_of_second sides_of_fourth false ≡ Low ∷ Rising ∷ High ∷ Falling ∷ []
told_by_sides = refl

turned_about : side_classes second fourth sides_of_second sides_of_fourth true ≡ High ∷ Rising ∷ Low ∷ Falling ∷ []
turned_about = refl
