-- Why there is no partition where the new signal would switch outside of the forced states.
use Rattle.std.proofs.Common.{◌≡◌, ℕ, ◌<◌, Bool, true, false, not, List, sym, subst, ◌∙◌, inl, inr}
use Rattle.std.proofs.lemmas.Bool.{true≢false}
use Rattle.si_base.specs.Sets.{IsSubset}
use Rattle.si_base.specs.Graph.{StateGraph, IsGraph}
use Rattle.si_base.specs.Sets.{IsIn}
use Rattle.si_insert.specs.declared.partition.Class.{Class}
use Rattle.si_divisor.specs.Targets.{IsLeast, AreSettled, HaveTargets, forced_in, target}
use Rattle.si_divisor.specs.Switching.{Switches}
use Rattle.si_divisor.specs.Loops.SwitchRules.{Belongs, OmitsState}
use Rattle.si_divisor.specs.PartitionFor.{LeavesAt, HasSome, IsPartitionFor, HasNone}
use Rattle.si_divisor.proofs.OnePartitionFor.{one_ones, one_zeros}
use Rattle.si_divisor.proofs.SwitchRuleLemmas.{closed_if_switches, least_rises}

belongs_in : (g : StateGraph) (high set : List Bool) (s : ℕ)
    → IsLeast g.states (Switches g (target high) true) set → Belongs g high s → IsIn set s
belongs_in g high set s is belongs = belongs set is.size (closed_if_switches g high set is.meets)

module _ (g : StateGraph) (up down ones zeros : List Bool) (settled : AreSettled g (forced_in up down) ones zeros)
  where
    same_ones : (classes : List Class) (p : IsPartitionFor g (forced_in up down) classes) → p.sets.ones ≡ ones
    same_ones classes p = one_ones g (forced_in up down) p.sets.ones p.sets.zeros ones zeros p.are.settled settled

    same_zeros : (classes : List Class) (p : IsPartitionFor g (forced_in up down) classes) → p.sets.zeros ≡ zeros
    same_zeros classes p = one_zeros g (forced_in up down) p.sets.ones p.sets.zeros ones zeros p.are.settled settled

    pub none_without_targets : (HaveTargets g ones zeros → ⊥) → HasNone g (forced_in up down)
    none_without_targets none classes p =
        none (subst (λ (z : List Bool). HaveTargets g ones z) (same_zeros classes p)
        (subst (λ (o : List Bool). HaveTargets g o p.sets.zeros) (same_ones classes p) p.are.targets))

    plus_is : (classes : List Class) (p : IsPartitionFor g (forced_in up down) classes)
        → IsLeast g.states (Switches g (target ones) true) p.sets.plus
    plus_is classes p = subst (λ (o : List Bool). IsLeast g.states (Switches g (target o) true) p.sets.plus)
        (same_ones classes p) p.are.rising

    minus_is : (classes : List Class) (p : IsPartitionFor g (forced_in up down) classes)
        → IsLeast g.states (Switches g (target ones) false) p.sets.minus
    minus_is classes p = subst (λ (o : List Bool). IsLeast g.states (Switches g (target o) false) p.sets.minus)
        (same_ones classes p) p.are.falling

    pub none_if_strays_up : OmitsState g ones up → HasNone g (forced_in up down)
    none_if_strays_up (s, below, belongs, outside) classes p =
        p.stays s (inl (belongs_in g ones p.sets.plus s (plus_is classes p) belongs, outside))

    pub none_if_strays_down : IsGraph g → ((s : ℕ) → s < g.states → target zeros s ≡ not (target ones s))
        → OmitsState g zeros down → HasNone g (forced_in up down)
    none_if_strays_down graph opposed (s, below, belongs, outside) classes p =
        let falls = least_rises g ones zeros graph opposed p.sets.minus (minus_is classes p) in
        p.stays s (inr (belongs_in g zeros p.sets.minus s falls belongs, outside))

    pub none_if_never_up : (plus : List Bool) → IsLeast g.states (Switches g (target ones) true) plus
        → (HasSome plus → ⊥) → HasNone g (forced_in up down)
    none_if_never_up plus is none classes p =
        none (p.rises.0, (plus_is classes p).least plus is.size is.meets p.rises.0 p.rises.1)

    pub none_if_never_down : (minus : List Bool) → IsLeast g.states (Switches g (target ones) false) minus
        → (HasSome minus → ⊥) → HasNone g (forced_in up down)
    none_if_never_down minus is none classes p =
        none (p.falls.0, (minus_is classes p).least minus is.size is.meets p.falls.0 p.falls.1)

-- what switches within the forced states doesn't leave them
pub stays_within : (up down plus minus : List Bool) → IsSubset plus up → IsSubset minus down → (s : ℕ)
    → LeavesAt (forced_in up down) plus minus s → ⊥
stays_within up down plus minus in_up in_down s (inl leaves) = true≢false (sym (in_up s leaves.0) ∙ leaves.1)
stays_within up down plus minus in_up in_down s (inr leaves) = true≢false (sym (in_down s leaves.0) ∙ leaves.1)
