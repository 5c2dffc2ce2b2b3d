-- A coded graph without forks and losses is proper.
use Rattle.std.proofs.Common.{◌≡◌, ◌≤◌, ◌<◌, ℕ, sym, subst, Some, None}
use Rattle.si_base.specs.Bits.{bit}
use Rattle.si_base.specs.Graph.{StateGraph, IsGraph}
use Rattle.si_base.specs.Codes.{CodedGraph, IsCoded, IsDeterministic, code}
use Rattle.si_base.specs.Proper.{IsProper, Fork, Forks, Loss, Loses, loss_place}
use Rattle.si_checks.specs.declared.breaches.Breach.{Breach}
use Rattle.si_checks.specs.declared.breaches.Breach.TheVariants.{Fork as AsFork, Loss as AsLoss}
use Rattle.si_checks.specs.Faults.{ShowsImproper, told_breach}
use Rattle.si_checks.specs.Loops.Searches.{IsFirstBreach, IsFirstOrNone, LosesBelow}
use Rattle.si_checks.proofs.ForkLemmas.{no_fork_commutes, fork_within}
use Rattle.si_checks.proofs.LossLemmas.{no_loss_persists, loss_within}
use Rattle.si_checks.proofs.SearchLemmas.{found_of_all}

pub deterministic : (c : CodedGraph) (g : StateGraph) → IsCoded c → g ≡ c.graph → IsDeterministic g
deterministic c g coded same =
    let P : StateGraph → Type 0 = λ h. IsDeterministic h in subst P (sym same) coded.deterministic

-- a coded graph without a breach is proper
pub proper : (c : CodedGraph) (g : StateGraph) → IsCoded c → g ≡ c.graph → IsFirstBreach g None → IsProper c.graph
proper c g coded same none =
    let parts : IsFirstBreach c.graph None = subst (λ (h : StateGraph). IsFirstBreach h None) same none in
    record {
      deterministic = coded.deterministic;
      consistent = λ a within. ((λ s. bit (code c s) a), coded.values a within);
      commutative = parts.0;
      persistent = parts.1;
    }

-- the first breach shows itself
pub shows : (g : StateGraph) (breach : Breach) → IsFirstBreach g (Some breach) → ShowsImproper g (told_breach breach)
shows g (AsFork b) first = first
shows g (AsLoss b) first = first

pub none_at_end : (g : StateGraph) (n : ℕ) → IsGraph g → IsDeterministic g → g.states ≤ n
    → ((b : Fork) → Forks g b → b.s < n → ⊥) → IsFirstOrNone loss_place (LosesBelow g n) None → IsFirstBreach g None
none_at_end g n is det all no_fork no_loss = (
  no_fork_commutes g det (λ b forks. no_fork b forks (fork_within g n is all b forks)),
  no_loss_persists g
      (found_of_all (Loses g) (λ b. b.s) (λ b. b.lost) (λ b. b.by) n None (loss_within g n is all) no_loss),
)

pub loss_at_end : (g : StateGraph) (n : ℕ) (b : Loss) → IsGraph g → IsDeterministic g → g.states ≤ n
    → ((b : Fork) → Forks g b → b.s < n → ⊥) → IsFirstOrNone loss_place (LosesBelow g n) (Some b)
    → IsFirstBreach g (Some (AsLoss b))
loss_at_end g n b is det all no_fork first = (
  no_fork_commutes g det (λ b forks. no_fork b forks (fork_within g n is all b forks)),
  found_of_all (Loses g) (λ x. x.s) (λ x. x.lost) (λ x. x.by) n (Some b) (loss_within g n is all) first,
)
