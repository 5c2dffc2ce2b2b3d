-- A reason that is told has one name.
use Rattle.std.proofs.Common.{◌≡◌, ◌≢◌, ℕ, List, refl, sym, ◌∙◌}
use Rattle.si_audit.specs.declared.fault.AuditFault.{AuditFault}
use Rattle.si_audit.specs.declared.fault.AuditFault.TheVariants as fault
use Rattle.si_audit.specs.Faults.{refused_word}
use Rattle.si_base.specs.declared.graph.Signal.{Signal}
use Rattle.si_base.specs.NetlistText.{name_of}
use Rattle.si_circuit.specs.Spelling.{current_word}
use Rattle.si_finder.specs.declared.not_found.Difference.{Difference}
use Rattle.si_finder.specs.declared.not_found.Difference.TheVariants as differs
use Rattle.si_finder.specs.declared.not_found.NotFound.{NotFound}
use Rattle.si_finder.specs.declared.not_found.NotFound.TheVariants as none
use Rattle.si_finder.specs.declared.not_found.Obstacle.{Obstacle}
use Rattle.si_finder.specs.declared.not_found.Obstacle.TheVariants as obstacle
use Rattle.si_insert.specs.Lineage.{History}
use Rattle.si_insert.specs.declared.accept.Rejected.{Rejected}
use Rattle.si_refusals.specs.declared.rejection.NamedRejection.{NamedRejection}
use Rattle.si_refusals.specs.declared.rejection.NamedRejection.TheVariants as named
use Rattle.si_stages.proofs.AuditLemmas.{one_name, some_name}
use Rattle.si_certify.specs.Certify.{TellsDifference, TellsNotFound, TellsObstacle, reached_word, turn}
use Rattle.si_certify.specs.Loops.There.{IsThere, ObstacleIsThere}

-- ---- the fault that an audit tells of a partition
-- ---- one name
module _ (states : List (List ℕ)) (signals : List Signal) (l : History) where
  refused : Rejected → AuditFault
  refused why = fault.Refused (turn l) (refused_word states l why) why

  one_obstacle : (why : Obstacle) (r q : NamedRejection) → TellsObstacle states signals l why r
      → TellsObstacle states signals l why q → r ≡ q
  unfolding refused
  one_obstacle obstacle.NeverUp r q one other = one ∙ sym other
  one_obstacle obstacle.NeverDown r q one other = one ∙ sym other
  one_obstacle (obstacle.Both s) r q one other = one ∙ sym other
  one_obstacle (obstacle.Classes s) r q one other = one ∙ sym other
  one_obstacle (obstacle.Refused why) r q one other = one_name signals (refused why) r q one other

  one_difference : (why : Difference) (r q : NamedRejection) → TellsDifference states signals l why r
      → TellsDifference states signals l why q → r ≡ q
  one_difference (differs.Start sig) r q one other = one ∙ sym other
  one_difference (differs.Gate sig s) r q one other = one ∙ sym other

  some_obstacle : (why : Obstacle) → ObstacleIsThere signals l why
      → (r : NamedRejection) × TellsObstacle states signals l why r
  unfolding refused
  some_obstacle obstacle.NeverUp there = (named.NeverUp (turn l), refl)
  some_obstacle obstacle.NeverDown there = (named.NeverDown (turn l), refl)
  some_obstacle (obstacle.Both s) there = (named.Both (turn l) (current_word states l s), refl)
  some_obstacle (obstacle.Classes s) there = (named.Classes (turn l), refl)
  some_obstacle (obstacle.Refused why) there =
      some_name signals (refused why) (λ (same : refused why ≡ fault.NoMemory). cc) there.1

  some_difference : (why : Difference) → (r : NamedRejection) × TellsDifference states signals l why r
  some_difference (differs.Start sig) = (named.Start (name_of signals sig), refl)
  some_difference (differs.Gate sig s) = (named.Gate (name_of signals sig) (current_word states l s), refl)

module _ (states : List (List ℕ)) (given : ℕ) (signals : List Signal) where
  pub not_memory : (why : NotFound) (r : NamedRejection) → TellsNotFound states given signals why r
      → why ≢ none.NoMemory
  not_memory none.NoMemory r told = absurd told
  not_memory none.TooMany r told = λ (same : none.TooMany ≡ none.NoMemory). cc
  not_memory (none.Astray at sig) r told = λ (same : none.Astray at sig ≡ none.NoMemory). cc
  not_memory (none.Hindered l why) r told = λ (same : none.Hindered l why ≡ none.NoMemory). cc
  not_memory (none.Unbuilt l why) r told = λ (same : none.Unbuilt l why ≡ none.NoMemory). cc

  pub one_reason : (why : NotFound) (r q : NamedRejection) → TellsNotFound states given signals why r
      → TellsNotFound states given signals why q → r ≡ q
  one_reason none.NoMemory r q one other = absurd one
  one_reason none.TooMany r q one other = one ∙ sym other
  one_reason (none.Astray at sig) r q one other = one ∙ sym other
  one_reason (none.Hindered l why) r q one other = one_obstacle states signals l why r q one other
  one_reason (none.Unbuilt l why) r q one other = one_difference states signals l why r q one other

  pub some_reason : (count : ℕ) (why : NotFound) → why ≢ none.NoMemory → IsThere count given signals why
      → (r : NamedRejection) × TellsNotFound states given signals why r
  some_reason count none.NoMemory other there = absurd (other refl)
  some_reason count none.TooMany other there = (named.TooMany, refl)
  some_reason count (none.Astray at sig) other there =
      (named.Astray (name_of signals sig) (reached_word states given signals at), refl)
  some_reason count (none.Hindered l why) other there = some_obstacle states signals l why there.1
  some_reason count (none.Unbuilt l why) other there = some_difference states signals l why
