use Rattle.std.proofs.Common.{◌≡◌, ◌++◌}
use Rattle.si_pictures.specs.Seen.{graph_of}
use Rattle.si_pictures.proofs.WritingParts.{items_from}
use Rattle.si_pictures.proofs.PictureLemmas.{link_at}
use Rattle.si_pictures.proofs.dot_text.add_arcs.Given as goal

abbrev pub invariant-loop-arc : goal.invariant-loop-arc
invariant-loop-arc l = l.text ++ items_from (link_at l.seen) (graph_of l.seen).edges l.arc-index
    ≡ l.initial.text ++ items_from (link_at l.seen) (graph_of l.seen).edges 0
