-- The signals that no arc switches.
use Rattle.std.proofs.Common.{◌≡◌, ℕ, ◌+◌, ◌<◌, ◌≤◌, ◌↔◌, true, false, List, ◌++◌, [], ◌∷◌, length, take, get_or}
use Rattle.std.proofs.Common.{All, Contains, refl, sym, ap, subst, ◌∙◌, arith, inl, inr}
use Rattle.std.proofs.lemmas.Bool.{cases_eq, true≢false}
use Rattle.std.proofs.lemmas.List.{take_more, take_all, get_or_default}
use Rattle.std.proofs.lemmas.List.Elements.{Contains-append_left, Contains-push, Contains-push_cases}
use Rattle.si_base.specs.declared.graph.Edge.{Edge}
use Rattle.si_base.specs.Bits.{bit, IsSet}
use Rattle.si_base.specs.Graph.{StateGraph, IsGraph, arc}
use Rattle.si_base.specs.Limits.{code_width}
use Rattle.si_base.specs.Order.{Before}
use Rattle.si_base.proofs.StepCodes.{no_bit, step_within}
use Rattle.si_graph.proofs.ListMembers.{Contains-nil}
use Rattle.si_carried.specs.Lint.{IsUnused}
use Rattle.si_told.specs.All.{number_place}
use Rattle.si_told.specs.Loops.Search.{Adds}
use Rattle.si_lint.specs.Loops.Search.{IsSwitched}
use Rattle.si_told.proofs.Alls.{adds_none, adds_one}

-- the bits of the number are the signals that the first n arcs switch
abbrev pub SwitchedTo : List Edge → ℕ → ℕ → Type 0
SwitchedTo arcs n switched = (z : ℕ) → (bit switched z ≡ true) ↔ IsSwitched (take n arcs) z

pub switched_none : (arcs : List Edge) → SwitchedTo arcs 0 0
switched_none arcs z = (
  λ is. absurd (true≢false (sym is ∙ no_bit 0 0 z (omega arith) (omega arith))),
  λ found. absurd (Contains-nil found.0 found.1),
)

pub switched_more : (arcs : List Edge) (k : ℕ) (a : Edge) (old new : ℕ) → k < length arcs → a ≡ get_or arcs k a
    → SwitchedTo arcs k old → IsSet old a.event.sig true new → SwitchedTo arcs (k + 1) new
switched_more arcs k a old new within at so_far set z = (
  λ is. elim (cases_eq z a.event.sig) [
    | inl same ↦ (a, last, sym same)
    | inr other ↦ (let found = (so_far z).0 (sym (set.others z other) ∙ is) in
        (found.0, more found.0 found.1, found.2))
  ],
  λ found. elim (cases_eq z a.event.sig) [
    | inl same ↦ ap (λ y. bit new y) same ∙ set.there
    | inr other ↦ elim (Contains-push_cases (take k arcs) a found.0
        (subst (λ l. Contains l found.0) (sym longer) found.1)) [
          | inl there ↦ set.others z other ∙ (so_far z).1 (found.0, there, found.2)
          | inr same ↦ absurd (other (sym found.2 ∙ ap (λ (b : Edge). b.event.sig) (sym same)))
        ]
  ],
)
  where
    longer : take k arcs ++ a ∷ [] ≡ take (k + 1) arcs
    longer = ap (λ (c : Edge). take k arcs ++ c ∷ []) at ∙ sym (take_more arcs k a within)

    more : (c : Edge) → Contains (take k arcs) c → Contains (take (k + 1) arcs) c
    more c there = subst (λ l. Contains l c) longer (Contains-append_left (take k arcs) (a ∷ []) c there)

    last : Contains (take (k + 1) arcs) a
    last = subst (λ l. Contains l a) longer (Contains-push (take k arcs) a)

pub switched_all : (arcs : List Edge) (k switched : ℕ) → length arcs ≤ k → SwitchedTo arcs k switched
    → (z : ℕ) → (bit switched z ≡ true) ↔ IsSwitched arcs z
switched_all arcs k switched all is z =
    subst (λ l. (bit switched z ≡ true) ↔ IsSwitched l z) (take_all k arcs all) (is z)

-- the signals of arcs are few
pub small_signals : (g : StateGraph) (arcs : List Edge) → IsGraph g → arcs ≡ g.edges
    → All (λ a. a.event.sig < code_width) arcs
small_signals g arcs is same k d within =
    let a : Edge = get_or arcs k d in
    let there : Contains g.edges a =
    subst (λ (l : List Edge). Contains l a) same (k, within, get_or_default arcs k a d within) in
    let small = (step_within g a.from a.event a.to is there).1 in
    omega (arith, small, is.few_signals)

-- ---- signal by signal
unused_is : (g : StateGraph) (a : ℕ) → a < length g.signals → (IsSwitched g.edges a → ⊥) → IsUnused g a
unused_is g a within none = record {
  within = within;
  idle = λ s e t step same. none (arc s e t, step, same);
}

unused_is_not : (g : StateGraph) (a : ℕ) → IsUnused g a → IsSwitched g.edges a → ⊥
unused_is_not g a unused (b, there, same) = unused.idle b.from b.event b.to there same

pub unused_order : (g : StateGraph) (x y : ℕ) → IsUnused g x → IsUnused g y → x < y
    → Before (number_place x) (number_place y)
unused_order g x y p q less = inl less

module _ (g : StateGraph) (arcs : List Edge) (same : arcs ≡ g.edges) (switched k : ℕ)
    (told : (bit switched k ≡ true) ↔ IsSwitched arcs k) where
  pub unused_here : (old new : List ℕ) → k < length g.signals → bit switched k ≡ false → new ≡ old ++ k ∷ []
      → Adds number_place (λ a. IsUnused g a × (a ≡ k)) old new
  unused_here old new within off pushed =
      adds_one number_place (λ a. IsUnused g a × (a ≡ k)) old new k
      (unused_is g k within none, refl) (λ a is. sym is.1) pushed
    where
      none : IsSwitched g.edges k → ⊥
      none found = true≢false
          (sym (told.1 (subst (λ (l : List Edge). IsSwitched l k) (sym same) found)) ∙ off)

  pub unused_pass : (old : List ℕ) → bit switched k ≡ true → Adds number_place (λ a. IsUnused g a × (a ≡ k)) old old
  unused_pass old on =
      adds_none number_place (λ a. IsUnused g a × (a ≡ k)) old (λ a is. unused_is_not g k
      (subst (IsUnused g) is.1 is.0) (subst (λ (l : List Edge). IsSwitched l k) same (told.0 on)))
