use Rattle.std.proofs.Common.{◌<◌, ◌≤◌, ◌∙◌, ◌++◌, List, ℕ, ap, length}
use Rattle.si_pictures.proofs.CodeLemmas.{events_at, all_events}
use Rattle.si_pictures.proofs.WritingParts.{part_more, parts_done}
use Rattle.si_pictures.proofs.states_text.add_events.Goals as goal

pub loop-i-preserved : goal.loop-i-preserved
loop-i-preserved c =
    let g = c.args.graph.now in
    let within : c.loop-i.i < length g.signals = rw c.signals-i-end.ensures at c.loop-i-test.true in
    part_more (events_at g c.args.s) (length g.signals) c.loop-i.i _ c.loop-i.text c.add_events_of.new.text within
    c.loop-i.invariant c.in_ok-add_events_of.ensures

pub returns : goal.returns
returns c =
    let g = c.args.graph.now in
    let all : length g.signals ≤ c.loop-i.i = rw c.signals-i-end.ensures at c.loop-i-test.false in
    parts_done (events_at g c.args.s) (length g.signals) c.loop-i.i c.loop-i.text c.args.text.now all
    c.loop-i.invariant ∙ ap (λ (t : List ℕ). c.args.text.now ++ t) (all_events g c.args.s)
