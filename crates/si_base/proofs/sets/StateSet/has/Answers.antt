use Rattle.std.proofs.Common.{length, arith, get_or, false, sym, ap, ◌∙◌}
use Rattle.std.proofs.lemmas.List.{get_or_read}
use Rattle.si_base.proofs.SetsAsWords.{state_within, word_within, flag_read, test_told}
use Rattle.si_base.proofs.sets.StateSet.has.Goals as goal

pub index-requires : goal.index-requires
index-requires c =
    omega (
      arith,
      c.self.inside.words.ok.0,
      word_within c.self.inside.states c.s.inside.0 (length c.self.inside.words.items) c.self.invariant.size
          (state_within c.self.inside.states c.s.inside.0 c.args.s c.self.inside.words.items c.args.self.now
          c.self.view_is
          c.s.view_is c.requires),
    )

pub returns : goal.returns
returns c =
    let words = c.self.inside.words.items in
    let s = c.s.inside.0 in
    let within = state_within c.self.inside.states s c.args.s words c.args.self.now c.self.view_is c.s.view_is
    c.requires in
    let there = word_within c.self.inside.states s (length words) c.self.invariant.size within in
    test_told words s c.index.result.now (get_or_read words _ _ there c.index.ensures 0)
    ∙ sym (flag_read c.self.inside.states words s within)
    ∙ ap (λ l. get_or l s false) c.self.view_is ∙ ap (λ j. get_or c.args.self.now j false) c.s.view_is
