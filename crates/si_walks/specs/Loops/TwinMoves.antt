-- One move of twins, from the number of a pair of states to that of another.
use Rattle.std.specs.Prelude.{◌≡◌, ℕ, ◌/◌, ◌%◌, ◌<◌, Bool, false, List, replicate, ◌⊎◌}
use Rattle.si_base.specs.declared.ids.Event.{Event}
use Rattle.si_base.specs.Graph.{StateGraph, Step, IsNonInput}
use Rattle.si_base.specs.Codes.{CodedGraph, code}
use Rattle.si_insert.specs.Accepted.{IsInput}
use Rattle.si_walks.specs.Twins.{pair_number}

-- so many flags, none of which is set
abbrev pub none_of : ℕ → List Bool
none_of n = replicate n false

-- the pair of a state with itself
abbrev pub IsDiagonal : ℕ → ℕ → Type 0
IsDiagonal states k = (s : ℕ) × (s < states) × (k ≡ pair_number states s s)

-- some step out of s, by which P leads to l
abbrev pub ByStep : StateGraph → ℕ → (Event → ℕ → ℕ → Type 0) → ℕ → Type 0
ByStep g s P l = (e : Event) × (u : ℕ) × Step g s e u × P e u l

-- an input leads the first state on
abbrev pub FirstMovesBy : StateGraph → ℕ → Event → ℕ → ℕ → Type 0
FirstMovesBy g t e u l = IsInput g.signals e.sig × (l ≡ pair_number g.states u t)

abbrev pub FirstMoves : StateGraph → ℕ → ℕ → ℕ → Type 0
FirstMoves g s t l = ByStep g s (FirstMovesBy g t) l

-- or the second
abbrev pub SecondMovesBy : StateGraph → ℕ → Event → ℕ → ℕ → Type 0
SecondMovesBy g s e u l = IsInput g.signals e.sig × (l ≡ pair_number g.states s u)

abbrev pub SecondMoves : StateGraph → ℕ → ℕ → ℕ → Type 0
SecondMoves g s t l = ByStep g t (SecondMovesBy g s) l

-- or the circuit leads both on by one event
abbrev pub BothMoveBy : StateGraph → ℕ → Event → ℕ → ℕ → Type 0
BothMoveBy g t e u l = IsNonInput g.signals e.sig
    × (w : ℕ) × Step g t e w × (l ≡ pair_number g.states u w)

abbrev pub BothMove : StateGraph → ℕ → ℕ → ℕ → Type 0
BothMove g s t l = ByStep g s (BothMoveBy g t) l

-- a move leads from the pair of the one number to that of the other
abbrev pub MovesFrom : CodedGraph → ℕ → ℕ → ℕ → Type 0
MovesFrom c s t l = FirstMoves c.graph s t l
    ⊎ (SecondMoves c.graph s t l ⊎ ((code c s ≡ code c t) × BothMove c.graph s t l))

abbrev pub MovesPair : CodedGraph → ℕ → ℕ → Type 0
MovesPair c k l = MovesFrom c (k / c.graph.states) (k % c.graph.states) l
