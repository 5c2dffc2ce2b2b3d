use Rattle.std.proofs.Common.{◌∙◌}
use Rattle.si_words.proofs.PlaceLemmas.{has_is}
use Rattle.si_words.proofs.lists.has.Goals as goal

pub returns : goal.returns
returns c = c.is_some.ensures ∙ has_is c.args.names.now c.args.name.now c.place.result c.place.ensures.found
    c.place.ensures.absent
