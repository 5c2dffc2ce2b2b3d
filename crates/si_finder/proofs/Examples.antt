-- Worked examples: a hidden signal that follows a request, where it is about to switch; and one that never falls.
use Rattle.std.proofs.Common.{◌≢◌, ℕ, zero, suc, Bool, true, false, List, [], ◌∷◌, AllPairs, codes}
use Rattle.std.proofs.Common.{refl, sym, ap, arith}
use Rattle.std.proofs.lemmas.Bool.{true≢false, false≢true}
use Rattle.si_base.specs.declared.graph.Signal.{Signal}
use Rattle.si_base.specs.declared.graph.SigKind.TheVariants.{Input, Inserted}
use Rattle.si_base.specs.Graph.{StateGraph, arc, rise, fall}
use Rattle.si_base.specs.Netlist.{Netlist, SumGate}
use Rattle.si_base.specs.Sets.{IsIn}
use Rattle.si_reached.specs.declared.state.Reached.{Reached}
use Rattle.si_finder.specs.declared.not_found.Obstacle.TheVariants.{NeverDown}
use Rattle.si_finder.specs.NotFound.{IsObstacle, SwitchesBothWays}
use Rattle.si_finder.specs.Loops.Turns.{AreTurnSets, TurnsAt}
use Rattle.si_finder.proofs.TurnLemmas.{all_turns, next_turns, no_turn, none_yet}

abbrev at : ℕ → ℕ → Reached
at state values = record { state = state; values = values }

abbrev request : Signal
request = record { name = codes "r"; kind = Input }

abbrev hidden : Signal
hidden = record { name = codes "x"; kind = Inserted }

-- r+ and r- in a circle
abbrev toggle : StateGraph
toggle = record {
  signals = request ∷ [];
  states = 2;
  edges = arc 0 (rise 0) 1 ∷ arc 1 (fall 0) 0 ∷ [];
  start = 0;
}

-- the hidden signal is about to be what the request is
abbrev follower : Netlist
follower = record {
  model = codes "m";
  signals = request ∷ hidden ∷ [];
  start = 0;
  inserts = [];
  gates = SumGate ((record { sig = 0; plain = true } ∷ []) ∷ []) ∷ [];
}

-- the states of the graph, and those of the circuit beside them
abbrev places : List Reached
places = at 0 0 ∷ at 1 1 ∷ []

abbrev four : List Reached
four = at 0 0 ∷ at 0 2 ∷ at 1 1 ∷ at 1 3 ∷ []

places_once : AllPairs (λ (x y : Reached). x ≢ y) places
places_once zero zero d less within = absurd (omega (arith, less))
places_once zero (suc zero) d less within =
    λ same. (let states = ap (λ (x : Reached). x.state) same in omega (arith, states))
places_once (suc i) zero d less within = absurd (omega (arith, less))
places_once (suc i) (suc zero) d less within = absurd (omega (arith, less))
places_once i (suc (suc j)) d less within = absurd (omega (arith, within))

rises_over : TurnsAt follower places 1 (at 1 1) 1 true
rises_over = record {
  place = refl;
  old = refl;
  excited = record { gate = (hidden, refl, refl); differs = true≢false };
}

falls_over : TurnsAt follower places 1 (at 0 2) 0 false
falls_over = record {
  place = refl;
  old = refl;
  excited = record { gate = (hidden, refl, refl); differs = false≢true };
}

-- it is about to rise over state 1, and to fall over state 0
turns_are : AreTurnSets follower places 1 four (false ∷ true ∷ []) (true ∷ false ∷ [])
turns_are =
    let none : List Bool = false ∷ false ∷ [] in
    let falls : List Bool = true ∷ false ∷ [] in
    let rises : List Bool = false ∷ true ∷ [] in
    let begun = none_yet follower places 1 four 2 none none refl refl refl in
    let first =
    no_turn follower places 1 four 0 (at 0 0) none none refl (λ s up turns. turns.excited.differs refl) begun in
    let second =
    next_turns follower places 1 four places_once 1 (at 0 2) 0 false none none none falls refl falls_over refl refl
    first in
    let third =
    next_turns follower places 1 four places_once 2 (at 1 1) 1 true none falls rises falls refl rises_over refl refl
    second in
    let last =
    no_turn follower places 1 four 3 (at 1 3) rises falls refl (λ s up turns. turns.excited.differs refl) third in
    all_turns follower places 1 four 4 rises falls (omega arith) last

both_ways : SwitchesBothWays (false ∷ true ∷ []) (true ∷ false ∷ [])
both_ways = record { rises = (1, refl); falls = (0, refl); apart = apart }
  where
    apart : (s : ℕ) → IsIn (false ∷ true ∷ []) s → IsIn (true ∷ false ∷ []) s → ⊥
    apart zero rises falls = true≢false (sym rises)
    apart (suc zero) rises falls = true≢false (sym falls)
    apart (suc (suc s)) rises falls = true≢false (sym rises)

-- a signal that is nowhere about to fall
never_falls : IsObstacle toggle (false ∷ true ∷ []) (false ∷ false ∷ []) NeverDown
never_falls = ((1, refl), none)
  where
    none : (s : ℕ) → IsIn (false ∷ false ∷ []) s → ⊥
    none zero falls = true≢false (sym falls)
    none (suc zero) falls = true≢false (sym falls)
    none (suc (suc s)) falls = true≢false (sym falls)
