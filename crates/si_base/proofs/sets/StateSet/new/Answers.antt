use Rattle.std.proofs.Common.{◌≡◌, replicate, ◌+◌, ◌/◌, ◌∙◌, ap, rules}
use Rattle.si_base.specs.Sets.{flags_of}
use Rattle.si_base.proofs.SetsAsWords.{empty_flags}
use Rattle.si_base.proofs.sets.StateSet.new.Goals as goal

pub returns : goal.returns
returns c =
    let zeros : c.in_ok-words.words.items ≡ replicate ((c.args.states + 63) / 64) 0 = search rules in
    ap (flags_of c.args.states) zeros ∙ empty_flags c.args.states ((c.args.states + 63) / 64)
