use Rattle.std.proofs.Common.{◌≡◌, ◌*◌, ◌<◌, ℕ, length, subst, sym, ap, arith, ◌∙◌}
use Rattle.std.proofs.lemmas.List.{take_at}
use Rattle.si_base.specs.Sets.{AreFlags, flag, flags_of}
use Rattle.si_closures.specs.Loops.Rows.{flag_in, set_in}
use Rattle.si_closures.proofs.RowLemmas.{flags_got, set_got}
use Rattle.si_closures.proofs.set_rows.SetRows.set.Goals as goal

pub from_words-requires : goal.from_words-requires
from_words-requires c =
    let n = c.self.inside.states in
    let rows = c.self.inside.rows.items in
    let new = c.get_row.new.words in
    let told : (s : ℕ) → s < 64 * length new → flag new s ≡ flag_in rows c.args.k s =
    λ s within. c.get_row.ensures.flags s (omega (arith, within, c.get_row.ensures.size))
    ∙ ap (λ l. flag_in l c.args.k s) c.as_slice.ensures.value in
    let kept = take_at new _ c.in_ok-words.words.len (c.get_row.ensures.size ∙ c.as_mut_slice.ensures.len) in
    subst (AreFlags n) (sym kept) (flags_got n c.args.k rows new c.requires c.self.invariant
    (c.get_row.ensures.size ∙ c.as_mut_slice.ensures.len ∙ c.in_ok-words.ensures.len) told)

pub returns : goal.returns
returns c =
    let n = c.self.inside.states in
    let rows = c.self.inside.rows.items in
    let new = c.get_row.new.words in
    let told : (s : ℕ) → s < 64 * length new → flag new s ≡ flag_in rows c.args.k s =
    λ s within. c.get_row.ensures.flags s (omega (arith, within, c.get_row.ensures.size))
    ∙ ap (λ l. flag_in l c.args.k s) c.as_slice.ensures.value in
    let kept = take_at new _ c.in_ok-words.words.len (c.get_row.ensures.size ∙ c.as_mut_slice.ensures.len) in
    c.from_words.ensures ∙ ap (flags_of n) kept
    ∙ set_got n c.args.k rows new c.requires c.self.invariant
    (c.get_row.ensures.size ∙ c.as_mut_slice.ensures.len ∙ c.in_ok-words.ensures.len) told
    ∙ ap (λ v. set_in v c.args.k) c.self.view_is
