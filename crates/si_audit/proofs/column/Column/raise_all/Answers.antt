use Rattle.std.proofs.Common.{◌≡◌, ◌/◌, ℕ, List, length, ap, ◌∙◌, arith}
use Rattle.std.proofs.lemmas.List.{take_at}
use Rattle.si_base.specs.Sets.{flag}
use Rattle.si_audit.proofs.ColumnLemmas.{filled_flag}
use Rattle.si_audit.proofs.column.Column.raise_all.Goals as goal

pub returns-clause-each : goal.returns-clause-each
returns-clause-each c =
    let kept = take_at c.fill.new.words _ c.self.inside.words.len (c.fill.ensures.size ∙ c.deref_mut.ensures.len) in
    let same : c.deref_mut.result.now ≡ c.args.self.now = c.deref_mut.ensures.value ∙ c.self.view_is in
    let size = ap (length {A = ℕ}) same in
    λ s low. ap (λ (ws : List ℕ). flag ws s) kept
    ∙ filled_flag c.fill.new.words s (c.fill.ensures.each (s / 64) (omega (arith, low, size)))
