-- Earlier steps: which ones a list grows by.
use Rattle.std.proofs.Common.{◌≡◌, ◌≢◌, ℕ, ◌+◌, ◌<◌, ◌∙◌, List, [], ◌∷◌, ◌++◌, length, get_or}
use Rattle.std.proofs.Common.{Contains, Option, ◌⊎◌, ◌↔◌, inl, inr, refl, sym, ap, subst, arith}
use Rattle.std.proofs.lemmas.Bool.{cases_order}
use Rattle.std.proofs.lemmas.List.{append-nil, append_assoc, get_or_default}
use Rattle.std.proofs.lemmas.List.Elements.{Contains-push, Contains-push_cases}
use Rattle.std.proofs.lemmas.List.Elements.{Contains-append_left, Contains-append_right, Contains-append_cases}
use Rattle.si_base.specs.declared.graph.Edge.{Edge}
use Rattle.si_base.specs.Codes.{IsDeterministic}
use Rattle.si_base.specs.Graph.{StateGraph, Step, IsGraph, IsNonInput, arc}
use Rattle.si_base.proofs.StepCodes.{step_within}
use Rattle.si_graph.specs.Loops.Arcs.{edge_at, no_edge, IsFirstPlace, IsInto}
use Rattle.si_graph.proofs.ClosureLemmas.{place_in_walk, none_between, later_place}
use Rattle.si_candidates.specs.declared.earlier.EarlierStep.{EarlierStep}
use Rattle.si_candidates.specs.Loops.Earlier.{AreEarlier, IsEarlier, IsEarlierBy, Adds}

-- ---- what a list grows by
pub adds_none : (P : EarlierStep → Type 0) (old : List EarlierStep) → ((step : EarlierStep) → P step → ⊥)
    → Adds P old old
adds_none P old none = record {
  more = [];
  are = sym (append-nil old);
  exactly = λ step. (λ there. absurd (omega (arith, there.1)), λ is. absurd (none step is));
}

pub adds_one : (P : EarlierStep → Type 0) (old : List EarlierStep) (step : EarlierStep) → P step
    → ((other : EarlierStep) → P other → other ≡ step) → Adds P old (old ++ step ∷ [])
adds_one P old step is only = record {
  more = step ∷ [];
  are = refl;
  exactly = λ other. (
    λ there. elim (Contains-push_cases [] step other there) [
      | inl none ↦ absurd (omega (arith, none.1))
      | inr same ↦ subst P same is
    ],
    λ that. subst (λ (x : EarlierStep). Contains (step ∷ []) x) (sym (only other that)) (Contains-push [] step),
  );
}

pub adds_as : (P Q : EarlierStep → Type 0) (old new : List EarlierStep) → ((step : EarlierStep) → P step ↔ Q step)
    → Adds P old new → Adds Q old new
adds_as P Q old new same adds = record {
  more = adds.more;
  are = adds.are;
  exactly = λ step. (
    λ there. (same step).0 ((adds.exactly step).0 there),
    λ is. (adds.exactly step).1 ((same step).1 is),
  );
}

pub adds_both : (P Q : EarlierStep → Type 0) (old mid new : List EarlierStep) → Adds P old mid → Adds Q mid new
    → Adds (λ step. P step ⊎ Q step) old new
adds_both P Q old mid new first second = record {
  more = first.more ++ second.more;
  are = second.are ∙ ap (λ (steps : List EarlierStep). steps ++ second.more) first.are
      ∙ append_assoc old first.more second.more;
  exactly = λ step. (
    λ there. elim (Contains-append_cases first.more second.more step there) [
      | inl early ↦ inl ((first.exactly step).0 early)
      | inr late ↦ inr ((second.exactly step).0 late)
    ],
    λ is. elim is [
      | inl early ↦ Contains-append_left first.more second.more step ((first.exactly step).1 early)
      | inr late ↦ Contains-append_right first.more second.more step ((second.exactly step).1 late)
    ],
  );
}

-- ---- before one arc
pub earlier_is : (g : StateGraph) (exit before : Edge) (old : List EarlierStep) (t : ℕ) → IsDeterministic g
    → before.event ≢ exit.event → Step g before.from exit.event t
    → Adds (IsEarlierBy g exit before) old (old ++ record { from = before.from; to = t } ∷ [])
earlier_is g exit before old t one apart step = adds_one (IsEarlierBy g exit before) old
    (record { from = before.from; to = t }) (record { apart = apart; from = refl; leads = step })
    (λ other by. (
    let first = subst (λ (s : ℕ). Step g s exit.event other.to) by.from by.leads in
    let target : other.to ≡ t = one before.from exit.event other.to t first step in
    λ i. record { from = by.from i; to = target i }))

-- ---- before the arcs into the source of an exit
module _ (g : StateGraph) (exit : Edge) where
  -- before one of the first n arcs
  abbrev pub IsEarlierOf : ℕ → EarlierStep → Type 0
  IsEarlierOf n step = (j : ℕ) × (j < n) × (j < length g.edges) × IsInto g.edges exit.from j
      × IsEarlierBy g exit (edge_at g.edges j) step

  pub one_more : (k : ℕ) (next : Option ℕ) (old mid new : List EarlierStep)
      → (k < length g.edges) × IsInto g.edges exit.from k
      → IsFirstPlace (IsInto g.edges exit.from) (k + 1) (length g.edges) next
      → Adds (IsEarlierOf k) old mid → Adds (IsEarlierBy g exit (edge_at g.edges k)) mid new
      → Adds (IsEarlierOf (place_in_walk g next)) old new
  one_more k next old mid new stands first before here =
      adds_as (λ step. IsEarlierOf k step ⊎ Here step) (IsEarlierOf (place_in_walk g next)) old new
      (λ step. (
        λ either. elim either [
          | inl (j, early, inside, into, by) ↦ (j, omega (arith, early, later), inside, into, by)
          | inr by ↦ (k, later, stands.0, stands.1, by)
        ],
        λ (j, early, inside, into, by). elim (cases_order j k) [
          | inl same ↦ inr (subst (λ (n : ℕ). IsEarlierBy g exit (edge_at g.edges n) step) same by)
          | inr (inl less) ↦ inl (j, less, inside, into, by)
          | inr (inr more) ↦ absurd (none_between g [] exit.from (k + 1) next first j (omega (arith, more)) early
              inside into)
        ],
      ))
      (adds_both (IsEarlierOf k) Here old mid new before here)
    where
      Here : EarlierStep → Type 0
      Here step = IsEarlierBy g exit (edge_at g.edges k) step

      later : k < place_in_walk g next
      later = later_place g [] exit.from k next stands.0 first

  other_step : (j s : ℕ) → j < length g.edges → IsInto g.edges exit.from j → s ≡ (edge_at g.edges j).from
      → Step g s (edge_at g.edges j).event exit.from
  other_step j s inside into from =
      let a : Edge = edge_at g.edges j in
      let whole : a ≡ arc s a.event exit.from = λ i. record { from = sym from i; event = a.event; to = into i } in
      (j, inside, get_or_default g.edges j (arc s a.event exit.from) no_edge inside ∙ whole)

  pub all_earlier : (old new : List EarlierStep) → IsNonInput g.signals exit.event.sig → Contains g.edges exit
      → Adds (IsEarlierOf (length g.edges)) old new → Adds (IsEarlier g exit) old new
  all_earlier old new non_input there adds = adds_as (IsEarlierOf (length g.edges)) (IsEarlier g exit) old new
      (λ step. (
        λ (j, early, inside, into, by). (
          (edge_at g.edges j).event,
          record {
            non_input = non_input;
            apart = λ same. by.apart (sym same);
            first = by.leads;
            other = other_step j step.from inside into by.from;
            next = there;
          },
        ),
        λ (by, d). (
            let j = d.other.0 in
            let is : edge_at g.edges j ≡ arc step.from by exit.from =
            get_or_default g.edges j no_edge (arc step.from by exit.from) d.other.1 ∙ d.other.2 in (
              j,
              d.other.1,
              d.other.1,
              ap (λ (a : Edge). a.to) is,
              record {
                apart = λ same. d.apart (sym same ∙ ap (λ (a : Edge). a.event) is);
                from = sym (ap (λ (a : Edge). a.from) is);
                leads = d.first;
              },
            )),
      ))
      adds

-- ---- what such a step is
pub earlier_within : (g : StateGraph) (exit : Edge) (step : EarlierStep) → IsGraph g → IsEarlier g exit step
    → (step.from < g.states) × (step.to < g.states)
earlier_within g exit step graph (by, d) =
    let within = step_within g step.from exit.event step.to graph d.first in (within.0, within.2)

-- a list that was empty has them alone
pub added_to_none : (g : StateGraph) (exit : Edge) (old new : List EarlierStep) → old ≡ []
    → Adds (IsEarlier g exit) old new → AreEarlier g exit new
added_to_none g exit old new empty adds = subst (AreEarlier g exit) (sym is) adds.exactly
  where
    is : new ≡ adds.more
    is = adds.are ∙ ap (λ (xs : List EarlierStep). xs ++ adds.more) empty

-- the arc at a place
pub item_at : (g : StateGraph) (arcs : List Edge) (n : ℕ) (a : Edge) → arcs ≡ g.edges → n < length g.edges
    → a ≡ get_or arcs n a → a ≡ edge_at g.edges n
item_at g arcs n a same inside at = at ∙ ap (λ (es : List Edge). get_or es n a) same
    ∙ get_or_default g.edges n a no_edge inside
