use Rattle.si_base.proofs.SetsAsWords.{shows, none_seen, first_seen}
use Rattle.std.proofs.Common.{refl}
use Rattle.si_base.proofs.sets.StateSet.first_from.Goals as goal

pub returns-in-Some : goal.returns-in-Some
returns-in-Some c =
    let words = c.self.inside.words.items in
    let shown = shows c.self.inside.states words words c.args.self.now refl c.self.view_is c.self.invariant.none in
    first_seen c.self.inside.states c.s.inside.0 c.args.s c.in-Some.t words c.deref.result.now c.args.self.now
    c.deref.ensures.value shown c.s.view_is c.in-Some.ensures

pub returns-in-None : goal.returns-in-None
returns-in-None c =
    let words = c.self.inside.words.items in
    let shown = shows c.self.inside.states words words c.args.self.now refl c.self.view_is c.self.invariant.none in
    none_seen c.self.inside.states c.s.inside.0 c.args.s words c.deref.result.now c.args.self.now
    c.deref.ensures.value shown c.s.view_is c.in-None.ensures
