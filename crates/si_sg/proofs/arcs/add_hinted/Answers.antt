use Rattle.si_sg.proofs.NameLemmas.{state_none, stands_at, there_already, word_there}
use Rattle.si_sg.proofs.arcs.add_hinted.Goals as goal

pub returns-in-Some-clause-fault : goal.returns-in-Some-clause-fault
returns-in-Some-clause-fault c = state_none c.args.states.now c.args.states.now c.args.word.now
    (word_there c.args.states.now c.args.word.now c.in-Some.place c.requires c.in-Some.ensures.placed)
    (there_already c.args.states.now c.args.word.now c.in-Some.place c.in-Some.ensures.placed) c.requires.few

pub returns-in-Some-clause-value : goal.returns-in-Some-clause-value
returns-in-Some-clause-value c =
    there_already c.args.states.now c.args.word.now c.in-Some.place c.in-Some.ensures.placed

pub returns-in-Some-clause-place : goal.returns-in-Some-clause-place
returns-in-Some-clause-place c =
    stands_at c.args.states.now c.args.word.now c.in-Some.place c.place.ensures.distinct c.in-Some.ensures.placed
