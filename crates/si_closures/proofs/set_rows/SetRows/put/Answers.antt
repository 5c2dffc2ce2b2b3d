use Rattle.std.proofs.Common.{List, ℕ, sym, ap, subst, ◌∙◌}
use Rattle.std.proofs.lemmas.List.{take_at}
use Rattle.si_closures.specs.Loops.Rows.{FlagRows, AreRows, set_in}
use Rattle.si_closures.proofs.RowLemmas.{set_put, rows_put, set_kept}
use Rattle.si_closures.proofs.set_rows.SetRows.put.Goals as goal

pub invariant_of-self : goal.invariant_of-self
invariant_of-self c =
    let n = c.self.inside.states in
    let old = c.as_mut_slice.result.now in
    let new = c.put_row.new.rows in
    let kept = take_at new _ c.self.inside.rows.len (c.put_row.ensures.size ∙ c.as_mut_slice.ensures.len) in
    let size = c.requires.size ∙ ap (λ v. v.states) (sym c.self.view_is) in
    subst (AreRows n) (sym kept)
    (rows_put n c.args.k c.words.result.now old new c.args.set.now size c.words.ensures.flags c.put_row.ensures.there
    (subst (AreRows n) (sym c.as_mut_slice.ensures.value) c.self.invariant) c.put_row.ensures.size
    c.put_row.ensures.others)

pub returns-clause-there : goal.returns-clause-there
returns-clause-there c =
    let n = c.self.inside.states in
    let new = c.put_row.new.rows in
    let kept = take_at new _ c.self.inside.rows.len (c.put_row.ensures.size ∙ c.as_mut_slice.ensures.len) in
    let size = c.requires.size ∙ ap (λ v. v.states) (sym c.self.view_is) in
    ap (λ (rows : List ℕ). set_in (record { states = n; rows = rows }) c.args.k) kept
    ∙ set_put n c.args.k c.words.result.now c.as_mut_slice.result.now new c.args.set.now size c.words.ensures.flags
    c.put_row.ensures.there c.words.ensures.told

pub returns-clause-others : goal.returns-clause-others
returns-clause-others c j small other =
    let n = c.self.inside.states in
    let new = c.put_row.new.rows in
    let kept = take_at new _ c.self.inside.rows.len (c.put_row.ensures.size ∙ c.as_mut_slice.ensures.len) in
    let At : List ℕ → FlagRows = λ rows. record { states = n; rows = rows } in
    ap (λ rows. set_in (At rows) j) kept
    ∙ set_kept n j c.as_mut_slice.result.now new (λ s. c.put_row.ensures.others j s small other)
    ∙ ap (λ rows. set_in (At rows) j) c.as_mut_slice.ensures.value ∙ ap (λ v. set_in v j) c.self.view_is
