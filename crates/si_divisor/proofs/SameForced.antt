-- The answer depends on what is forced at the states of the graph alone.
use Rattle.std.proofs.Common.{◌≡◌, ℕ, ◌<◌, ◌&&◌, not, Bool, true, false, List, sym, ap₂, ◌∙◌, inl, inr}
use Rattle.si_base.specs.Graph.{StateGraph, IsGraph}
use Rattle.si_base.proofs.StepCodes.{step_within}
use Rattle.si_insert.specs.declared.partition.Class.{Class}
use Rattle.si_divisor.specs.declared.fault.NoPartition.{NoPartition}
use Rattle.si_divisor.specs.declared.fault.NoPartition.TheVariants.{NoMemory, Unforced, Contradiction, LeavesForced}
use Rattle.si_divisor.specs.declared.fault.NoPartition.TheVariants.{Constant}
use Rattle.si_divisor.specs.Targets.{IsLeast, Settles, AreSettled, holds, target}
use Rattle.si_divisor.specs.Switching.{Switches}
use Rattle.si_divisor.specs.PartitionFor.{Sets, AreSets, Leaves, IsPartitionFor, ShowsNone}
use Rattle.si_divisor.proofs.TargetSets.{least_within}
use Rattle.si_divisor.proofs.SwitchRuleLemmas.{least_same}

-- the same is forced at all states
abbrev pub ForceAlike : StateGraph → (Bool → ℕ → Bool) → (Bool → ℕ → Bool) → Type 0
ForceAlike g forced others = (b : Bool) (s : ℕ) → s < g.states → forced b s ≡ others b s

turned_round : (g : StateGraph) (f h : Bool → ℕ → Bool) → ForceAlike g f h → ForceAlike g h f
turned_round g f h same b s within = sym (same b s within)

settles_alike : (g : StateGraph) (f h : Bool → ℕ → Bool) (b : Bool) (set : List Bool) → IsGraph g → ForceAlike g f h
    → Settles g f b set → Settles g h b set
settles_alike g f h b set graph same x = record {
  begins = λ s within there. x.begins s within (same b s within ∙ there);
  goes_on = λ s e t step there held. (
      let within : t < g.states = (step_within g s e t graph step).2 in
      let alike : holds f t ≡ holds h t = ap₂ (λ p q. not p && not q) (same true t within) (same false t within) in
      x.goes_on s e t step there (alike ∙ held));
}

settled_alike : (g : StateGraph) (f h : Bool → ℕ → Bool) (ones zeros : List Bool) → IsGraph g → ForceAlike g f h
    → AreSettled g f ones zeros → AreSettled g h ones zeros
settled_alike g f h ones zeros graph same x = record {
  at_one = on true ones x.at_one;
  at_zero =
      on false zeros x.at_zero;
}
  where
    on : (b : Bool) (set : List Bool) → IsLeast g.states (Settles g f b) set → IsLeast g.states (Settles g h b) set
    on b set a = least_same g.states (Settles g f b) (Settles g h b) set (λ k. settles_alike g f h b k graph same)
        (λ k. settles_alike g h f b k graph (turned_round g f h same)) a

sets_alike : (g : StateGraph) (f h : Bool → ℕ → Bool) (x : Sets) → IsGraph g → ForceAlike g f h → AreSets g f x
    → AreSets g h x
sets_alike g f h x graph same a =
    record {
      settled = settled_alike g f h x.ones x.zeros graph same a.settled;
      targets = a.targets;
      rising =
          a.rising;
      falling = a.falling;
    }

leaves_alike : (g : StateGraph) (f h : Bool → ℕ → Bool) (x : Sets) (s : ℕ) → ForceAlike g f h → AreSets g f x
    → Leaves h x s → Leaves f x s
leaves_alike g f h x s same a (inl up) =
    inl (up.0, same true s (least_within g.states (Switches g (target x.ones) true) x.plus s a.rising up.0) ∙ up.1)
leaves_alike g f h x s same a (inr down) =
    inr (
      down.0,
      same false s (least_within g.states (Switches g (target x.ones) false) x.minus s a.falling down.0)
          ∙ down.1,
    )

pub partitions_alike : (g : StateGraph) (f h : Bool → ℕ → Bool) (classes : List Class) → IsGraph g → ForceAlike g f h
    → IsPartitionFor g f classes → IsPartitionFor g h classes
partitions_alike g f h classes graph same p = record {
  sets = p.sets;
  are = sets_alike g f h p.sets graph same p.are;
  stays = λ s k. p.stays s (leaves_alike g f h p.sets s same p.are k);
  rises = p.rises;
  falls = p.falls;
  count = p.count;
  classes_are = p.classes_are;
}

pub reasons_alike : (g : StateGraph) (f h : Bool → ℕ → Bool) (why : NoPartition) → IsGraph g → ForceAlike g f h
    → ShowsNone g f why → ShowsNone g h why
reasons_alike g f h NoMemory graph same shows = tt
reasons_alike g f h (Unforced s) graph same (ones, zeros, are, first) =
    (ones, zeros, settled_alike g f h ones zeros graph same are, first)
reasons_alike g f h (Contradiction s) graph same (ones, zeros, are, passed, first) =
    (ones, zeros, settled_alike g f h ones zeros graph same are, passed, first)
reasons_alike g f h (LeavesForced s) graph same (x, are, first) =
    let also = sets_alike g f h x graph same are in
    let back = turned_round g f h same in (
      x,
      also,
      record {
        holds = leaves_alike g h f x s back also first.holds;
        none_before = λ y k before. first.none_before y (leaves_alike g f h x y same are k) before;
      },
    )
reasons_alike g f h Constant graph same (x, are, stays, none) =
    (x, sets_alike g f h x graph same are, (λ s k. stays s (leaves_alike g f h x s same are k)), none)
