use Rattle.std.proofs.Common.{◌∙◌, ap, List, ℕ}
use Rattle.si_conflicts.specs.Conflicts.{pairs_of}
use Rattle.si_explain.specs.ExplainText.{with_further}
use Rattle.si_explain.proofs.ExplainLines.{each_conflict, text_by_calls}
use Rattle.si_explain.proofs.explain.explain.Goals as goal

pub add_conflicts-requires-clause-pairs : goal.add_conflicts-requires-clause-pairs
add_conflicts-requires-clause-pairs c =
    let twin = c.first_twin_conflict-first_twin.result in
    let kin = c.in_ok-first_kin.first_kin in
    let pairs_are = c.in_ok-add_if_new-2.ensures
    ∙ ap (λ (pairs : List (ℕ × ℕ)). with_further pairs kin) c.in_ok-add_if_new.ensures in
    rw (c.as_slice-2.ensures.value, pairs_are)
    (each_conflict c.args.graph.now (pairs_of c.in_ok-pairs.pairs.items) twin kin c.in_ok-pairs.ensures
    c.first_twin_conflict-first_twin.ensures c.in_ok-first_kin.ensures)

pub returns : goal.returns
returns c =
    let twin = c.first_twin_conflict-first_twin.result in
    let kin = c.in_ok-first_kin.first_kin in
    let pairs_are = c.in_ok-add_if_new-2.ensures
    ∙ ap (λ (pairs : List (ℕ × ℕ)). with_further pairs kin) c.in_ok-add_if_new.ensures in
    let explained = rw c.as_slice-2.ensures.value at c.in_ok-add_conflicts.ensures in
    text_by_calls c.args.graph.now c.args.states.now c.in_ok-count.count _ twin kin _ _ _ _ _ c.in_ok-count.ensures
    c.in_ok-pairs.ensures c.first_twin_conflict-first_twin.ensures c.in_ok-first_kin.ensures pairs_are
    (c.as_bytes.ensures.value ∙ c.in-Ok.ensures.ok) c.in_ok-text.ensures c.in_ok-add_line.ensures explained
