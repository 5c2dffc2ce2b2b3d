use Rattle.std.proofs.Common.{length, take, ap, subst, ◌∙◌}
use Rattle.std.proofs.lemmas.List.{take_at}
use Rattle.si_closures.specs.Loops.Rows.{AreTurned, set_in}
use Rattle.si_closures.specs.Loops.WordSearch.{column}
use Rattle.si_closures.proofs.RowLemmas.{words_count, columns_of_sets}
use Rattle.si_closures.proofs.set_rows.SetRows.into_words.Goals as goal

pub returns-clause-size : goal.returns-clause-size
returns-clause-size c =
    let n = c.self.inside.states in
    let new = c.turn_blocks.new.rows in
    let kept = take_at new _ c.self.inside.rows.len (c.turn_blocks.ensures.size ∙ c.as_mut_slice.ensures.len) in
    let are = subst (λ old. AreTurned old new) c.as_mut_slice.ensures.value c.turn_blocks.ensures in
    ap length (c.truncate.ensures.items ∙ ap (take n) kept)
    ∙ words_count n c.self.inside.rows.items new c.self.invariant are ∙ ap (λ v. v.states) c.self.view_is

pub returns-clause-sets : goal.returns-clause-sets
returns-clause-sets c k small =
    let n = c.self.inside.states in
    let new = c.turn_blocks.new.rows in
    let kept = take_at new _ c.self.inside.rows.len (c.turn_blocks.ensures.size ∙ c.as_mut_slice.ensures.len) in
    let are = subst (λ old. AreTurned old new) c.as_mut_slice.ensures.value c.turn_blocks.ensures in
    ap (column k) (c.truncate.ensures.items ∙ ap (take n) kept)
    ∙ columns_of_sets n c.self.inside.rows.items new c.self.invariant are k small ∙ ap (λ v. set_in v k) c.self.view_is
