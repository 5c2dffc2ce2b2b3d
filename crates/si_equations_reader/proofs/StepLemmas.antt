-- What steps come to over other values.
use Rattle.std.proofs.Common.{◌≡◌, ℕ, ◌≤◌, List, [], ◌∷◌, length, drop, map, refl, sym, ap, ◌∙◌}
use Rattle.std.proofs.Math.ListN.{drop_of_length-le}
use Rattle.si_genlib.specs.Expression.{Operations, Tree, trees, value_of}
use Rattle.si_equations_reader.specs.declared.step.Step.{Step}
use Rattle.si_equations_reader.specs.declared.step.Step.TheVariants as steps
use Rattle.si_equations_reader.specs.Steps.{last_of, after_step, after_steps, result_of, tree_of}

abbrev values : {X : Type 0} → Operations X → List Tree → List X
values o ts = map (value_of o) ts

last_value : {X : Type 0} (o : Operations X) (ts : List Tree)
    → value_of o (last_of trees ts) ≡ last_of o (values o ts)
last_value o [] = refl
last_value o (t ∷ ts) = refl

values_step : {X : Type 0} (o : Operations X) (ts : List Tree) (step : Step)
    → values o (after_step trees ts step) ≡ after_step o (values o ts) step
values_step o ts (steps.Pin name) = refl
values_step o ts (steps.Constant value) = refl
values_step o [] steps.Not = refl
values_step o (t ∷ ts) steps.Not = refl
values_step o [] steps.And = refl
values_step o (t ∷ []) steps.And = refl
values_step o (t ∷ u ∷ ts) steps.And = refl
values_step o [] steps.Or = refl
values_step o (t ∷ []) steps.Or = refl
values_step o (t ∷ u ∷ ts) steps.Or = refl

values_steps : {X : Type 0} (o : Operations X) (ts : List Tree) (all : List Step)
    → values o (after_steps trees ts all) ≡ after_steps o (values o ts) all
values_steps o ts [] = refl
values_steps {X} o ts (step ∷ more) = values_steps o (after_step trees ts step) more
    ∙ ap (λ (xs : List X). after_steps o xs more) (values_step o ts step)

-- the value of the tree of the steps is what the steps come to
pub value_tree : {X : Type 0} (o : Operations X) (all : List Step) → value_of o (tree_of all) ≡ result_of o all
value_tree o all = last_value o (after_steps trees [] all) ∙ ap (last_of o) (values_steps o [] all)

-- where no step is left
pub all_values : {X : Type 0} (o : Operations X) (xs : List X) (all : List Step) (i : ℕ)
    → after_steps o xs (drop i all) ≡ after_steps o [] all → length all ≤ i → last_of o xs ≡ value_of o (tree_of all)
all_values o xs all i so_far past =
    ap (last_of o) (sym (ap (after_steps o xs) (drop_of_length-le all past)) ∙ so_far) ∙ sym (value_tree o all)
