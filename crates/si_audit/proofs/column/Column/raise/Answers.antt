use Rattle.std.proofs.Common.{◌≡◌, ◌*◌, ◌/◌, ◌%◌, ◌^◌, ◌<◌, ℕ, true, List, length, set, bit_or, ap, subst, ◌∙◌, arith}
use Rattle.std.proofs.lemmas.List.{get_or_read}
use Rattle.si_base.specs.Sets.{flag}
use Rattle.si_base.proofs.SetsAsWords.{set_written}
use Rattle.si_audit.proofs.column.Column.raise.Goals as goal

pub returns-clause-there : goal.returns-clause-there
returns-clause-there c =
    let words = c.self.inside.words.items in
    let s = c.s.inside.0 in
    let there : s / 64 < length words =
    omega (arith, c.requires, c.s.view_is, ap (length {A = ℕ}) c.self.view_is) in
    let written = set_written words s c.index_mut.result.now there
    (get_or_read words _ _ there c.index_mut.ensures.value 0) in
    let new : List ℕ = set words (s / 64) (bit_or c.index_mut.result.now (1 * 2 ^ (s % 64) % 2 ^ 64)) in
    let P : ℕ → Type 0 = λ t. flag new t ≡ true in
    subst P c.s.view_is written.there

pub returns-clause-others : goal.returns-clause-others
returns-clause-others c =
    let words = c.self.inside.words.items in
    let s = c.s.inside.0 in
    let there : s / 64 < length words =
    omega (arith, c.requires, c.s.view_is, ap (length {A = ℕ}) c.self.view_is) in
    let written = set_written words s c.index_mut.result.now there
    (get_or_read words _ _ there c.index_mut.ensures.value 0) in
    λ t apart. written.others t (λ e. apart (e ∙ c.s.view_is)) ∙ ap (λ (ws : List ℕ). flag ws t) c.self.view_is
