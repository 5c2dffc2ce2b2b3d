use Rattle.std.proofs.Common.{◌∙◌, Bool, List, length, sym}
use Rattle.std.proofs.lemmas.Bool.{true≢false, eqb-true}
use Rattle.si_candidates.proofs.BlockSameSets.{same_set-not, same_if_back, not_same}
use Rattle.si_candidates.proofs.block.have_same_states.Goals as goal
use Rattle.si_candidates.proofs.block.have_same_states.Goals.{then-size, else-size}

pub returns-then-is_subset : goal.returns-then-is_subset
returns-then-is_subset c = elim c.if-size.branch [
  | then-size w ↦ same_if_back c.args.x.now c.args.y.now c.is_subset-then-is_subset.result
      (sym c.size.ensures ∙ w.if-size.true ∙ c.size-2.ensures)
      (w.is_subset.ensures.0 (sym w.value-is ∙ c.if-is_subset.true)) c.is_subset-then-is_subset.ensures
  | else-size w ↦ absurd (w.if-size.false
      (eqb-true c.size.result c.size-2.result (sym w.value-is ∙ c.if-is_subset.true)))
]

pub returns-else-is_subset : goal.returns-else-is_subset
returns-else-is_subset c = c.if-is_subset.false ∙ elim c.if-size.branch [
  | then-size w ↦ not_same c.args.x.now c.args.y.now
      (λ within. true≢false (sym (w.is_subset.ensures.1 within) ∙ sym w.value-is ∙ c.if-is_subset.false))
  | else-size w ↦ sym (same_set-not (λ (set : List Bool). length set) c.args.x.now c.args.y.now
      (λ same. w.if-size.false (c.size.ensures ∙ same ∙ sym c.size-2.ensures)))
]
