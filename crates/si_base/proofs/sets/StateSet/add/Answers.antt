use Rattle.std.proofs.Common.{length, arith, true, ◌∙◌}
use Rattle.std.proofs.lemmas.List.{length-set, get_or_read}
use Rattle.si_base.proofs.SetsAsWords.{state_within, word_within, set_written, none_after_write, set_seen}
use Rattle.si_base.proofs.sets.StateSet.add.Goals as goal

pub index_mut-requires : goal.index_mut-requires
index_mut-requires c =
    omega (
      arith,
      c.self.inside.words.ok.0,
      word_within c.self.inside.states c.s.inside.0 (length c.self.inside.words.items) c.self.invariant.size
          (state_within c.self.inside.states c.s.inside.0 c.args.s c.self.inside.words.items c.args.self.now
          c.self.view_is
          c.s.view_is c.requires),
    )

pub invariant_of-self : goal.invariant_of-self
invariant_of-self c =
    let words = c.self.inside.words.items in
    let n = c.self.inside.states in
    let s = c.s.inside.0 in
    let within = state_within n s c.args.s words c.args.self.now c.self.view_is c.s.view_is c.requires in
    let there = word_within n s (length words) c.self.invariant.size within in
    let written = set_written words s c.index_mut.result.now there
    (get_or_read words _ _ there c.index_mut.ensures.value 0) in
    record {
      few = c.self.invariant.few;
      size = length-set words _ _ ∙ c.self.invariant.size;
      none = none_after_write n s true words _ within written c.self.invariant.none;
    }

pub returns : goal.returns
returns c =
    let words = c.self.inside.words.items in
    let n = c.self.inside.states in
    let s = c.s.inside.0 in
    let within = state_within n s c.args.s words c.args.self.now c.self.view_is c.s.view_is c.requires in
    let there = word_within n s (length words) c.self.invariant.size within in
    let written = set_written words s c.index_mut.result.now there
    (get_or_read words _ _ there c.index_mut.ensures.value 0) in
    set_seen n s c.args.s true words _ c.args.self.now c.self.view_is c.s.view_is within written
