-- What an equation at its place says.
use Rattle.std.proofs.Common.{◌≡◌, ℕ, Bool, List, map, slice_get, Some, option_map, sym, ap, ◌∙◌}
use Rattle.std.proofs.lemmas.Option.{slice_get-map}
use Rattle.si_equations.specs.Equations.{Equation, expression_value}
use Rattle.si_equations_reader.specs.Held.{equation_now}
use Rattle.si_equations_reader.specs.Steps.{tree_of}
use Rattle.si_equations_reader.specs.declared.step.Step.{Step}
use Rattle.si_equations_reader.specs.declared.progress.Equation.{Equation as EquationHeld}

pub at_place : {Y : Type 0} (f : Equation → Y) (qs : List EquationHeld) (k : ℕ) (q : EquationHeld)
    → slice_get qs k ≡ Some q → slice_get (map f (map equation_now qs)) k ≡ Some (f (equation_now q))
at_place f qs k q at = slice_get-map f (map equation_now qs) k
    ∙ ap (option_map f) (slice_get-map equation_now qs k ∙ ap (option_map equation_now) at)

pub value_there : (sigs names : List (List ℕ)) (values : ℕ) (qs : List EquationHeld) (k : ℕ) (q : EquationHeld)
    (all : List Step) (v : Bool) → slice_get qs k ≡ Some q → sigs ≡ names → all ≡ q.steps.items
    → v ≡ expression_value sigs values (tree_of all)
    → slice_get (map (λ (e : Equation). expression_value names values e.tree) (map equation_now qs)) k ≡ Some v
value_there sigs names values qs k q all v at sigs_are all_are is =
    at_place (λ (e : Equation). expression_value names values e.tree) qs k q at
    ∙ ap (λ (b : Bool). Some b) (sym (is
    ∙ ap (λ (l : List (List ℕ)). expression_value l values (tree_of all)) sigs_are
    ∙ ap (λ (l : List Step). expression_value names values (tree_of l)) all_are))

pub tree_there : (qs : List EquationHeld) (k : ℕ) (q : EquationHeld) (all : List Step) → slice_get qs k ≡ Some q
    → all ≡ q.steps.items
    → slice_get (map (λ (e : Equation). e.tree) (map equation_now qs)) k ≡ Some (tree_of all)
tree_there qs k q all at all_are = at_place (λ (e : Equation). e.tree) qs k q at
    ∙ ap (λ (l : List Step). Some (tree_of l)) (sym all_are)
