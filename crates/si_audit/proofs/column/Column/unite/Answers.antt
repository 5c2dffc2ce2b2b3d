use Rattle.std.proofs.Common.{◌≡◌, ◌/◌, ◌||◌, ℕ, List, ap, ◌∙◌}
use Rattle.std.proofs.lemmas.List.{take_at}
use Rattle.si_base.specs.Sets.{flag}
use Rattle.si_audit.proofs.ColumnLemmas.{joined_flag}
use Rattle.si_audit.proofs.column.Column.unite.Goals as goal

pub returns-clause-each : goal.returns-clause-each
returns-clause-each c =
    let new = c.join.new.words in
    let old = c.deref_mut.result.now in
    let other = c.deref.result.now in
    let kept = take_at new _ c.self.inside.words.len (c.join.ensures.size ∙ c.deref_mut.ensures.len) in
    let same : old ≡ c.args.self.now = c.deref_mut.ensures.value ∙ c.self.view_is in
    let other_same : other ≡ c.args.other.now = c.deref.ensures.value ∙ c.other.view_is in
    λ s. ap (λ (ws : List ℕ). flag ws s) kept ∙ joined_flag old other new s (c.join.ensures.each (s / 64))
    ∙ ap (λ (ws : List ℕ). flag ws s || flag other s) same
    ∙ ap (λ (ws : List ℕ). flag c.args.self.now s || flag ws s) other_same
