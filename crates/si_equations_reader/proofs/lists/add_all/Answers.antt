use Rattle.std.proofs.Common.{List, ℕ, ◌+◌, ◌++◌, drop, sym, subst}
use Rattle.si_equations_reader.proofs.ListLemmas.{GoOn, name_next}
use Rattle.si_equations_reader.proofs.lists.add_all.Goals as goal

pub push-requires-clause-new : goal.push-requires-clause-new
push-requires-clause-new c = (name_next c.loop-k.signals c.args.names.now (c.args.signals.now ++ c.args.names.now)
    c.loop-k.k c.get.result.now c.get.ensures c.loop-k.invariant).new

pub push-requires-clause-room : goal.push-requires-clause-room
push-requires-clause-room c = (name_next c.loop-k.signals c.args.names.now (c.args.signals.now ++ c.args.names.now)
    c.loop-k.k c.get.result.now c.get.ensures c.loop-k.invariant).room

pub loop-k-preserved : goal.loop-k-preserved
loop-k-preserved c =
    let whole = c.args.signals.now ++ c.args.names.now in
    subst (λ (l : List (List ℕ)). GoOn l (drop (c.loop-k.k + 1) c.args.names.now) whole) (sym c.in_ok-push.ensures)
    (name_next c.loop-k.signals c.args.names.now whole c.loop-k.k c.get.result.now c.get.ensures
    c.loop-k.invariant).later
