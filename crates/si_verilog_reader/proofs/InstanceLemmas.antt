-- The expression of a cell with nets in place of its ports.
use Rattle.std.proofs.Common.{◌≡◌, ℕ, ◌+◌, ◌<◌, ◌≤◌, List, [], ◌∷◌, ◌++◌, drop, length, get_or, refl, sym, ap, ◌∙◌}
use Rattle.std.proofs.lemmas.List.{drop_more}
use Rattle.si_genlib.specs.Expression.{Tree, trees, value_of}
use Rattle.si_equations_reader.specs.Loops.Machine.{trees_now}
use Rattle.si_equations_reader.specs.Steps.{last_of, after_step, after_steps, tree_of}
use Rattle.si_equations_reader.specs.declared.step.Step.{Step}
use Rattle.si_equations_reader.proofs.MachineLemmas.{trees_push}
use Rattle.si_equations_reader.proofs.StepLemmas.{all_values}
use Rattle.si_verilog_reader.specs.Modules.{Connection, connected}

same_last : (cs : List Connection) (ts : List Tree) → last_of trees ts ≡ last_of (connected cs) ts
same_last cs [] = refl
same_last cs (t ∷ ts) = refl

-- a step is put last, with a net in place of its port
pub one_step : (cs : List Connection) (old new all : List Step) (i : ℕ) (renamed d : Step) → i < length all
    → new ≡ old ++ renamed ∷ []
    → ((ts : List Tree) → after_step trees ts renamed ≡ after_step (connected cs) ts (get_or all i d))
    → after_steps (connected cs) (trees_now old) (drop i all) ≡ after_steps (connected cs) [] all
    → after_steps (connected cs) (trees_now new) (drop (i + 1) all) ≡ after_steps (connected cs) [] all
one_step cs old new all i renamed d within is means so_far =
    let here : trees_now new ≡ after_step (connected cs) (trees_now old) (get_or all i d) =
    trees_push new old renamed is ∙ means (trees_now old) in
    ap (λ (ts : List Tree). after_steps (connected cs) ts (drop (i + 1) all)) here
    ∙ sym (ap (after_steps (connected cs) (trees_now old)) (drop_more all i d within)) ∙ so_far

-- where no step is left
pub all_connected : (cs : List Connection) (new all : List Step) (i : ℕ)
    → after_steps (connected cs) (trees_now new) (drop i all) ≡ after_steps (connected cs) [] all
    → length all ≤ i → tree_of new ≡ value_of (connected cs) (tree_of all)
all_connected cs new all i so_far past =
    same_last cs (trees_now new) ∙ all_values (connected cs) (trees_now new) all i so_far past
