-- Where states of the circuit show a signal about to switch.
use Rattle.std.specs.Prelude.{◌≡◌, ◌↔◌, ℕ, ◌<◌, not, Bool, true, false, List, length, slice_get}
use Rattle.std.specs.Prelude.{Some, bit_and}
use Rattle.si_base.specs.Bits.{bit, ones}
use Rattle.si_base.specs.Netlist.{Netlist, IsExcited}
use Rattle.si_base.specs.Sets.{IsIn}
use Rattle.si_reached.specs.declared.state.Reached.{Reached}

-- the values of the signals before z, the others as 0
abbrev pub seen : ℕ → Reached → Reached
seen z x = record { state = x.state; values = bit_and x.values (ones z) }

-- x shows signal z about to rise, or to fall, over the place s
pub record TurnsAt (n : Netlist) (places : List Reached) (z : ℕ) (x : Reached) (s : ℕ) (up : Bool)
    : Type 0 where
  pub place : slice_get places s ≡ Some (seen z x)
  pub old : bit x.values z ≡ not up
  pub excited : IsExcited n x.values z

-- one of the first k states shows that
pub record TurnsBelow (n : Netlist) (places : List Reached) (z : ℕ) (xs : List Reached) (k s : ℕ)
    (up : Bool) : Type 0 where
  pub at : ℕ
  pub state : Reached
  pub below : at < k
  pub there : slice_get xs at ≡ Some state
  pub turns : TurnsAt n places z state s up

-- the set has just the places over which one of the first k states shows that
pub record MarksTurns (n : Netlist) (places : List Reached) (z : ℕ) (xs : List Reached) (k : ℕ)
    (up : Bool) (set : List Bool) : Type 0 where
  pub size : length set ≡ length places
  pub just : (s : ℕ) → IsIn set s ↔ TurnsBelow n places z xs k s up

pub record AreTurnsBelow (n : Netlist) (places : List Reached) (z : ℕ) (xs : List Reached) (k : ℕ)
    (plus minus : List Bool) : Type 0 where
  pub rises : MarksTurns n places z xs k true plus
  pub falls : MarksTurns n places z xs k false minus

abbrev pub AreTurnSets : Netlist → List Reached → ℕ → List Reached → (plus minus : List Bool)
    → Type 0
AreTurnSets n places z xs plus minus = AreTurnsBelow n places z xs (length xs) plus minus
