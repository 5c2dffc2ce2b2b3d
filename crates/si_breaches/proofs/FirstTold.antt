-- What a check refuses a graph with is told first.
use Rattle.std.proofs.Common.{◌≡◌, ℕ, List, [], ◌∷◌, refl, ap, inl, inr}
use Rattle.si_base.specs.declared.ids.Event.{Event}
use Rattle.si_base.specs.Codes.{IsConsistent, IsDeterministic}
use Rattle.si_base.specs.Graph.{StateGraph, IsGraph}
use Rattle.si_base.specs.Order.{IsFirst}
use Rattle.si_base.specs.Proper.{Split, Splits, split_place, fork_place, Loses, loss_place, IsFirstWithoutValues}
use Rattle.si_base.proofs.OrderLemmas.{order_head, in_contains}
use Rattle.si_checks.proofs.UniqueBreaches.{split_breaches, fork_breaches, loss_breaches}
use Rattle.si_checks.specs.Laws.{ProperOrBreach, AllHold, HasSplit, HasNoValues, HasFork, HasLoss}
use Rattle.si_graph.proofs.ListMembers.{Contains-nil, Contains-here, Contains-cons_cases}
use Rattle.si_told.specs.All.{AreAll}
use Rattle.si_breaches.specs.Breaches.{AreFirstWays, IsSplit, IsClash, IsClashing, clashing_place, IsFirstFork}
use Rattle.si_breaches.specs.Breaches.{Breaches, AreBreaches}
use Rattle.si_breaches.specs.Laws.{BeginsWith, LeadsWith}
use Rattle.si_breaches.specs.declared.clashes.Clash.{Clash}
use Rattle.si_breaches.proofs.ClashValues.{clash_tells}
use Rattle.si_breaches.proofs.ForkLemmas.{forks_are_first}

-- a list of all begins with the first
begins : {A : Type 0} (place : A → List ℕ) (P : A → Type 0) (xs : List A) (x : A) → AreAll place P xs
    → IsFirst place P x → BeginsWith x xs
begins place P [] x are first = absurd (Contains-nil x ((are.exactly x).1 first.holds))
begins {A} place P (y ∷ ys) x are first = elim (Contains-cons_cases y ys x ((are.exactly x).1 first.holds)) [
  | inl same ↦ (ys, ap (λ (z : A). z ∷ ys) same)
  | inr later ↦ absurd (first.none_before y ((are.exactly y).0 (Contains-here y ys))
      (order_head place y ys x are.in_order (in_contains ys x later)))
]

-- and is empty where there is none
empty : {A : Type 0} (place : A → List ℕ) (P : A → Type 0) (xs : List A) → AreAll place P xs → ((x : A) → P x → ⊥)
    → xs ≡ []
empty place P [] are none = refl
empty place P (x ∷ xs) are none = absurd (none x ((are.exactly x).0 (Contains-here x xs)))

module _ (g : StateGraph) (walk : ℕ → List Event) (b : Breaches) (is : IsGraph g) (ways : AreFirstWays g walk)
    (are : AreBreaches g walk b) where
  no_splits : IsDeterministic g → b.splits ≡ []
  no_splits one = empty split_place (IsSplit g) b.splits are.splits (λ x split. split_breaches g x split.splits one)

  no_clashes : IsConsistent g → b.clashes ≡ []
  no_clashes all = empty clashing_place (IsClashing g walk) b.clashes are.clashes
      (λ c clashing. (clash_tells g is walk ways c.sig).0 (c.clash, clashing.clash) (all c.sig clashing.within))

  first_split : (x : Split) → IsFirst split_place (Splits g) x → IsFirst split_place (IsSplit g) x
  first_split x first = record {
    holds = record {
      splits = first.holds;
      next = λ v above below step. first.none_before (record { s = x.s; e = x.e; t = x.t; u = v })
          (record { one = first.holds.one; other = step; apart = above })
          (inr (refl, inr (refl, inr (refl, inl below))));
    };
    none_before = λ y split before. first.none_before y split.splits before;
  }

  first_clash : (a : ℕ) (k : Clash) → IsFirstWithoutValues g a → IsClash g walk a k
      → IsFirst clashing_place (IsClashing g walk) (record { sig = a; clash = k })
  first_clash a k first clash = record {
    holds = record { within = first.within; clash = clash };
    none_before = λ c clashing before. elim before [
      | inl less ↦ (clash_tells g is walk ways c.sig).0 (c.clash, clashing.clash) (first.before c.sig less)
      | inr tied ↦ tied.1
    ];
  }

  leads_with : (found : ProperOrBreach g) → LeadsWith found b
  leads_with (AllHold good) = (
    no_splits good.deterministic,
    no_clashes good.consistent,
    empty fork_place (IsFirstFork g) b.forks are.forks (λ x fork. fork_breaches g x fork.forks good.commutative),
    empty loss_place (Loses g) b.losses are.losses (λ x loss. loss_breaches g x loss good.persistent),
  )
  leads_with (HasSplit x first) = begins split_place (IsSplit g) b.splits x are.splits (first_split x first)
  leads_with (HasNoValues one a first) =
      let clash = (clash_tells g is walk ways a).1 first.none in (
        no_splits one,
        (
          clash.0,
          begins clashing_place (IsClashing g walk) b.clashes (record { sig = a; clash = clash.0 }) are.clashes
              (first_clash a clash.0 first clash.1),
        ),
      )
  leads_with (HasFork one all x first) = (
    no_splits one,
    no_clashes all,
    begins fork_place (IsFirstFork g) b.forks x are.forks (record {
      holds = forks_are_first g x one first.holds;
      none_before = λ y fork before. first.none_before y fork.forks before;
    }),
  )
  leads_with (HasLoss one all squares x first) = (
    no_splits one,
    no_clashes all,
    empty fork_place (IsFirstFork g) b.forks are.forks (λ y fork. fork_breaches g y fork.forks squares),
    begins loss_place (Loses g) b.losses x are.losses first,
  )

pub first_told : (g : StateGraph) (walk : ℕ → List Event) (b : Breaches) → IsGraph g → AreFirstWays g walk
    → AreBreaches g walk b → (found : ProperOrBreach g) → LeadsWith found b
first_told g walk b is ways are found = leads_with g walk b is ways are found
