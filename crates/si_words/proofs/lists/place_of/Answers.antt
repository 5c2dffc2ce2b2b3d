use Rattle.si_words.proofs.PlaceLemmas.{place_is}
use Rattle.si_words.proofs.lists.place_of.Goals as goal

pub returns : goal.returns
returns c = place_is c.args.names.now c.args.name.now c.place.ensures.distinct c.place.result c.place.ensures.found
    c.place.ensures.absent
