use Rattle.std.proofs.Common.{sym}
use Rattle.si_finder.proofs.PlaceLemmas.{placed, not_placed}
use Rattle.si_finder.proofs.places.Places.place.Goals as goal

pub returns-in-Some : goal.returns-in-Some
returns-in-Some c = rw (← c.self.view_is) (placed c.self.inside.set.keys c.key_of-key.result c.args.x.now
    c.key_of-key.ensures c.in-Some.k c.in-Some.ensures.index)

pub returns-in-None : goal.returns-in-None
returns-in-None c = rw (← c.self.view_is) (not_placed c.self.inside.set.keys c.key_of-key.result c.args.x.now
    c.key_of-key.ensures (sym c.in-None.ensures.found))
