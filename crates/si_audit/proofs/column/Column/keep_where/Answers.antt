use Rattle.std.proofs.Common.{◌≡◌, ◌/◌, ◌&&◌, ℕ, List, length, get_or, bit_and, bit_xor, ap, ◌∙◌, arith}
use Rattle.std.proofs.lemmas.List.{take_at}
use Rattle.si_base.specs.Sets.{flag}
use Rattle.si_audit.specs.Loops.Columns.{is_value}
use Rattle.si_audit.proofs.ColumnLemmas.{narrowed_flag}
use Rattle.si_audit.proofs.column.Column.keep_where.Goals as goal

pub returns-clause-each : goal.returns-clause-each
returns-clause-each c =
    let new = c.narrow.new.words in
    let old = c.deref_mut.result.now in
    let other = c.deref.result.now in
    let kept = take_at new _ c.self.inside.words.len (c.narrow.ensures.size ∙ c.deref_mut.ensures.len) in
    let same : old ≡ c.args.self.now = c.deref_mut.ensures.value ∙ c.self.view_is in
    let other_same : other ≡ c.args.other.now = c.deref.ensures.value ∙ c.other.view_is in
    let size = ap (length {A = ℕ}) same in
    λ s low. ap (λ (ws : List ℕ). flag ws s) kept
    ∙ narrowed_flag old other new c.args.v s
    (c.narrow.ensures.each (s / 64) (omega (arith, low, size))
    ∙ ap (λ (t : ℕ). bit_and (get_or old (s / 64) 0) (bit_xor (get_or other (s / 64) 0) t)) c.turned_unless.ensures)
    ∙ ap (λ (ws : List ℕ). flag ws s && is_value c.args.v (flag other s)) same
    ∙ ap (λ (ws : List ℕ). flag c.args.self.now s && is_value c.args.v (flag ws s)) other_same
