-- Places by prefix sums.
use Rattle.std.proofs.Common.{◌≡◌, ℕ, zero, suc, ◌+◌, ◌<◌, Bool, List, [], ◌∷◌, length, take, arith}
use Rattle.si_insert.specs.declared.partition.Class.{Class}
use Rattle.si_insert.specs.declared.partition.Class.TheVariants.{Low, Rising, High, Falling}
use Rattle.si_insert.specs.Partition.{class_of}
use Rattle.si_insert.specs.Accepted.{copy_count}
use Rattle.si_insert.specs.GraphOfCopies.{copies_before, place}

count_cons : (c : Class) (xs : List Class) → copy_count (c ∷ xs) ≡ copy_count (c ∷ []) + copy_count xs
count_cons Low xs = omega arith
count_cons Rising xs = omega arith
count_cons High xs = omega arith
count_cons Falling xs = omega arith

-- the place of a copy: the number of copies of the states before, and one more for the second copy of its state
pub place_is : (classes : List Class) (s : ℕ) (b : Bool) → s < length classes
    → place classes s b ≡ copy_count (take s classes) + copies_before (class_of classes s) b
place_is [] s b within = absurd (omega arith)
place_is (c ∷ rest) zero b within = omega arith
place_is (c ∷ rest) (suc s) b within =
    let h = place_is rest s b (omega arith) in
    let e = count_cons c (take s rest) in
    omega (arith, h, e)
