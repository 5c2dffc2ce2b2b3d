-- The states without arcs.
use Rattle.std.proofs.Common.{◌≡◌, ℕ, ◌<◌, ◌==◌, Bool, true, false, List, [], ◌∷◌, ◌++◌, length, refl}
use Rattle.std.proofs.Common.{sym, subst, ◌∙◌, arith, inl, eq-eqb, eqb-true}
use Rattle.std.proofs.lemmas.Bool.{true≢false}
use Rattle.si_base.specs.declared.graph.Edge.{Edge}
use Rattle.si_base.specs.Graph.{StateGraph, Step, arc}
use Rattle.si_base.specs.Order.{Before}
use Rattle.si_graph.specs.Loops.Arcs.{AreOut}
use Rattle.si_graph.proofs.ListMembers.{Contains-here}
use Rattle.si_carried.specs.Lint.{IsDeadState}
use Rattle.si_told.specs.All.{number_place}
use Rattle.si_told.specs.Loops.Search.{Adds}
use Rattle.si_told.proofs.Alls.{adds_none, adds_one}

is_dead : (g : StateGraph) (s : ℕ) (arcs : List Edge) → AreOut g s arcs → s < g.states → length arcs ≡ 0
    → IsDeadState g s
is_dead g s arcs out within empty = record {
  within = within;
  dead = λ e t step. (let there = (out.exactly (arc s e t)).1 (step, refl) in omega (arith, there.1, empty));
}

not_dead : (g : StateGraph) (s : ℕ) (arcs : List Edge) → AreOut g s arcs → (length arcs ≡ 0 → ⊥)
    → IsDeadState g s → ⊥
not_dead g s [] out some dead = some refl
not_dead g s (a ∷ arcs) out some dead =
    let is = (out.exactly a).0 (Contains-here a arcs) in
    dead.dead a.event a.to (subst (λ (x : ℕ). Step g x a.event a.to) is.1 is.0)

pub dead_order : (g : StateGraph) (x y : ℕ) → IsDeadState g x → IsDeadState g y → x < y
    → Before (number_place x) (number_place y)
dead_order g x y p q less = inl less

module _ (g : StateGraph) (s : ℕ) (arcs : List Edge) (out : AreOut g s arcs) (empty : Bool)
    (told : empty ≡ (length arcs == 0)) where
  pub dead_here : (old new : List ℕ) → s < g.states → empty ≡ true → new ≡ old ++ s ∷ []
      → Adds number_place (λ t. IsDeadState g t × (t ≡ s)) old new
  dead_here old new within yes_empty pushed =
      adds_one number_place (λ t. IsDeadState g t × (t ≡ s)) old new s
      (is_dead g s arcs out within (eqb-true (length arcs) 0 (sym told ∙ yes_empty)), refl) (λ t is. sym is.1) pushed

  pub dead_pass : (old : List ℕ) → empty ≡ false → Adds number_place (λ t. IsDeadState g t × (t ≡ s)) old old
  dead_pass old not_empty =
      adds_none number_place (λ t. IsDeadState g t × (t ≡ s)) old (λ t is. not_dead g s arcs out
      (λ none. true≢false (sym (eq-eqb (length arcs) 0 none) ∙ sym told ∙ not_empty))
      (subst (IsDeadState g) is.1 is.0))
