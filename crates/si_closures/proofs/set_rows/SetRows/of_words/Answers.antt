use Rattle.std.proofs.Common.{List, ℕ, subst, sym, ap, ◌∙◌}
use Rattle.std.proofs.lemmas.List.{take_at}
use Rattle.si_closures.specs.Loops.Rows.{AreRows, AreTurned, set_in}
use Rattle.si_closures.proofs.RowLemmas.{rows_of_words, sets_of_columns}
use Rattle.si_closures.proofs.set_rows.SetRows.of_words.Goals as goal

pub invariant_of-result : goal.invariant_of-result
invariant_of-result c =
    let n = c.args.states in
    let new = c.turn_blocks.new.rows in
    let kept = take_at new _ c.in_ok-rows.rows.len (c.turn_blocks.ensures.size ∙ c.as_mut_slice.ensures.len) in
    let are = subst (λ old. AreTurned old new) c.as_mut_slice.ensures.value c.turn_blocks.ensures in
    subst (AreRows n) (sym kept)
    (rows_of_words n c.args.words.now c.in_ok-rows.rows.items new c.ranges.states.fits c.requires
    c.in_ok-rows.ensures.same c.in_ok-rows.ensures.size are)

pub returns-clause-sets : goal.returns-clause-sets
returns-clause-sets c k small =
    let n = c.args.states in
    let new = c.turn_blocks.new.rows in
    let kept = take_at new _ c.in_ok-rows.rows.len (c.turn_blocks.ensures.size ∙ c.as_mut_slice.ensures.len) in
    let are = subst (λ old. AreTurned old new) c.as_mut_slice.ensures.value c.turn_blocks.ensures in
    ap (λ (rows : List ℕ). set_in (record { states = n; rows = rows }) k) kept
    ∙ sets_of_columns n c.args.words.now c.in_ok-rows.rows.items new c.ranges.states.fits c.requires
    c.in_ok-rows.ensures.same c.in_ok-rows.ensures.size are k small
