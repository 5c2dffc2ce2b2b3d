-- How a block lies to the states of a conflict, and which conflicts two blocks part.
use Rattle.std.specs.Prelude.{◌≡◌, ◌<◌, ℕ, ◌+◌, Bool, true, false, List, [], ◌∷◌, length, map}
use Rattle.std.specs.Prelude.{All, if◌then◌else◌}
use Rattle.std.specs.List.{slice_index_or}
use Rattle.si_base.specs.Sets.{is_in}
use Rattle.si_candidates.specs.Blocks.{block_at}
use Rattle.si_candidates.specs.Loops.Sides.{differ}
use Rattle.si_conflicts.specs.declared.conflicts.Pair.{Pair}
use Rattle.si_resolve.specs.declared.aspects.Aspect.{Aspect}
use Rattle.si_resolve.specs.declared.aspects.Aspect.TheVariants.{Together, Apart, Touched}

-- by whether the two states are in the block, and by their sides
abbrev pub aspect_by : Bool → Bool → Bool → Bool → Aspect
aspect_by true q p_side q_side = Touched
aspect_by false true p_side q_side = Touched
aspect_by false false p_side q_side = if differ p_side q_side then Apart else Together

abbrev pub aspect_of : List Bool → List Bool → ℕ × ℕ → Aspect
aspect_of set sides pair =
    aspect_by (is_in set pair.0) (is_in set pair.1) (is_in sides pair.0) (is_in sides pair.1)

-- two blocks part the states: these lie on different sides of just one of them, and in neither
abbrev pub part : Aspect → Aspect → Bool
part Together Apart = true
part Apart Together = true
part a b = false

abbrev pub stays_by : Aspect → Aspect → ℕ
stays_by x y = if part x y then 0 else 1

-- how many conflicts two blocks don't part, by the aspects of each
abbrev pub unparted_count : List Aspect → List Aspect → ℕ
unparted_count (x ∷ xs) (y ∷ ys) = stays_by x y + unparted_count xs ys
unparted_count xs ys = 0

-- how many conflicts are looked at so for each candidate
abbrev pub max_compared : ℕ
max_compared = 32768

abbrev pub column_at : List (List Aspect) → ℕ → List Aspect
column_at columns k = slice_index_or columns k []

-- the states of each conflict are within the sets
pub record AreWithin (set sides : List Bool) (pairs : List Pair) : Type 0 where
  pub size : length sides ≡ length set
  pub first : All (λ x. x.p < length set) pairs
  pub later : All (λ x. x.q < length set) pairs

-- for each usable block its aspects of the conflicts
pub record HaveAspects (blocks : List (List Bool)) (usable : List Bool) (sides : List (List Bool))
    (pairs : List (ℕ × ℕ)) (columns : List (List Aspect)) : Type 0 where
  pub count : length columns ≡ length blocks
  pub each : (k : ℕ) → k < length blocks → slice_index_or usable k false ≡ true
      → column_at columns k ≡ map (aspect_of (block_at blocks k) (block_at sides k)) pairs
