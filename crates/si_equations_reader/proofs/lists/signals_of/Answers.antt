use Rattle.std.proofs.Common.{◌≡◌, ◌++◌, List, ℕ, [], None, ap, sym, subst, ◌∙◌}
use Rattle.si_base.specs.Faults.{first_after}
use Rattle.si_base.specs.Limits.{max_signals}
use Rattle.si_words.specs.Names.{name_fault}
use Rattle.si_equations_reader.proofs.ListLemmas.{good_both}
use Rattle.si_equations_reader.proofs.lists.signals_of.Goals as goal

pub add_all-requires : goal.add_all-requires
add_all-requires c =
    subst (λ (l : List (List ℕ)). first_after (name_fault max_signals) l c.args.inputs.now ≡ None)
    (sym c.empty_like-signals.ensures) (good_both [] c.args.inputs.now c.args.outputs.now c.requires).0

pub add_all-requires-2 : goal.add_all-requires-2
add_all-requires-2 c =
    subst (λ (l : List (List ℕ)). first_after (name_fault max_signals) l c.args.outputs.now ≡ None)
    (sym (c.in_ok-add_all.ensures ∙ ap (λ (l : List (List ℕ)). l ++ c.args.inputs.now) c.empty_like-signals.ensures))
    (good_both [] c.args.inputs.now c.args.outputs.now c.requires).1
