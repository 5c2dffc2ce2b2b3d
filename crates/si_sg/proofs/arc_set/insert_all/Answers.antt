use Rattle.std.proofs.Common.{◌≡◌, ◌∙◌, ap, sym, List, get_or, false}
use Rattle.si_sg.specs.declared.arc_set.Arc.{Arc}
use Rattle.si_sg.specs.Section.{with_arc}
use Rattle.si_sg.proofs.ArcSetLemmas.{one_taken}
use Rattle.si_sg.proofs.arc_set.insert_all.Goals as goal

pub loop-arc-preserved : goal.loop-arc-preserved
loop-arc-preserved c =
    let none : Arc = record { from = 0; sig = 0; up = false; to = 0 } in
    let arc : Arc = get_or c.args.arcs.now c.loop-arc.arc-index none in
    let put : c.insert.new.self.keys ≡ with_arc c.loop-arc.table.keys arc = c.in-Ok.ensures.keys in
    put ∙ ap (λ (arcs : List Arc). with_arc arcs arc) c.loop-arc.invariant
    ∙ sym (one_taken c.args.table.now.keys c.args.arcs.now c.loop-arc.arc-index none c.loop-arc-test.true)
