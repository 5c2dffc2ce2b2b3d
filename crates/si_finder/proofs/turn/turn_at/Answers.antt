use Rattle.si_finder.proofs.TurnLemmas.{turns_there, no_place}
use Rattle.si_finder.proofs.turn.turn_at.Goals as goal

pub returns-in-Some : goal.returns-in-Some
returns-in-Some c = turns_there c.args.netlist.now c.args.places.now c.args.z c.args.x.now c.seen.result
    c.gate_value-up.result c.get.result c.in-Some.state c.requires.gate c.gate_value-up.ensures c.get.ensures
    c.if-up-get.false c.seen.ensures c.in-Some.ensures

pub returns-in-None : goal.returns-in-None
returns-in-None c = no_place c.args.netlist.now c.args.places.now c.args.z c.args.x.now c.seen.result c.seen.ensures
    c.in-None.ensures
