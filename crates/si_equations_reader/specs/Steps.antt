-- (text) Expressions as they are held: steps, each behind its operands, and what they come to.
use Rattle.std.specs.Prelude.{false, List, [], ◌∷◌}
use Rattle.si_genlib.specs.Expression.{Operations, Tree, trees}
use Rattle.si_equations_reader.specs.declared.step.Step.{Step}
use Rattle.si_equations_reader.specs.declared.step.Step.TheVariants as steps

-- the last result, and those before it; where there is none, the constant 0
abbrev pub last_of : {X : Type 0} → Operations X → List X → X
last_of o [] = o.constant false
last_of o (x ∷ xs) = x

abbrev pub before_last : {X : Type 0} → List X → List X
before_last [] = []
before_last (x ∷ xs) = xs

-- the results behind a step, the last first
abbrev pub after_step : {X : Type 0} → Operations X → List X → Step → List X
after_step o xs (steps.Pin name) = o.pin name.now ∷ xs
after_step o xs (steps.Constant value) = o.constant value ∷ xs
after_step o xs steps.Not = o.complement (last_of o xs) ∷ before_last xs
after_step o xs steps.And =
    o.both (last_of o (before_last xs)) (last_of o xs) ∷ before_last (before_last xs)
after_step o xs steps.Or =
    o.either (last_of o (before_last xs)) (last_of o xs) ∷ before_last (before_last xs)

abbrev pub after_steps : {X : Type 0} → Operations X → List X → List Step → List X
after_steps o xs [] = xs
after_steps o xs (step ∷ more) = after_steps o (after_step o xs step) more

-- what all the steps come to: the last result
abbrev pub result_of : {X : Type 0} → Operations X → List Step → X
result_of o all = last_of o (after_steps o [] all)

abbrev pub tree_of : List Step → Tree
tree_of all = result_of trees all
