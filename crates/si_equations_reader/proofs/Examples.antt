-- The trees of the steps of some expressions.
use Rattle.std.proofs.Common.{◌≡◌, ℕ, true, false, List, [], ◌∷◌, Bor, refl}
use Rattle.si_genlib.specs.Expression.{Pin, Constant, Not, And, Or}
use Rattle.si_equations_reader.specs.declared.step.Step.TheVariants as steps
use Rattle.si_equations_reader.specs.Steps.{tree_of}

-- `a' b + !c;`
sum : (a b c : Bor (List ℕ))
    → tree_of (steps.Pin a ∷ steps.Not ∷ steps.Pin b ∷ steps.And ∷ steps.Pin c ∷ steps.Not ∷ steps.Or ∷ [])
    ≡ Or (And (Not (Pin a.now)) (Pin b.now)) (Not (Pin c.now))
sum a b c = refl

constant : tree_of (steps.Constant true ∷ []) ≡ Constant true
constant = refl

-- operands that are missing are the constant 0
missing : tree_of (steps.And ∷ []) ≡ And (Constant false) (Constant false)
missing = refl
