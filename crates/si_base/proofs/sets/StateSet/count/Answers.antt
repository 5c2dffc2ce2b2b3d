use Rattle.std.proofs.Common.{◌≡◌, ℕ, ◌+◌, ◌*◌, ◌/◌, List, length, arith, ap, ◌∙◌}
use Rattle.si_base.specs.Sets.{HasNoFlagFrom, flags_of}
use Rattle.si_base.proofs.SetsAsWords.{set_count, all_counted, count_within}
use Rattle.si_base.proofs.sets.StateSet.count.Goals as goal

pub ones_in-requires : goal.ones_in-requires
ones_in-requires c = omega (arith, ap length c.deref.ensures.value, c.self.invariant.size, c.self.invariant.few)

counted : (n r : ℕ) (words slice : List ℕ) → slice ≡ words → length words ≡ (n + 63) / 64 → HasNoFlagFrom words n
    → r ≡ set_count (flags_of (64 * length slice) slice) → r ≡ set_count (flags_of n words)
counted n r words slice same size none is =
    is ∙ ap (λ l. set_count (flags_of (64 * length l) l)) same ∙ all_counted n words size none

pub overflow_cast-result : goal.overflow_cast-result
overflow_cast-result c =
    let words = c.self.inside.words.items in
    let n = c.self.inside.states in
    omega (
      arith,
      c.self.invariant.few,
      count_within n words,
      counted n c.ones_in.result words _ c.deref.ensures.value c.self.invariant.size c.self.invariant.none
          c.ones_in.ensures,
    )

pub returns : goal.returns
returns c =
    let words = c.self.inside.words.items in
    let n = c.self.inside.states in
    counted n c.ones_in.result words _ c.deref.ensures.value c.self.invariant.size c.self.invariant.none
    c.ones_in.ensures
    ∙ ap set_count c.self.view_is
