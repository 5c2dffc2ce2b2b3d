use Rattle.std.proofs.Common.{◌≡◌, ◌++◌}
use Rattle.si_pictures.specs.Seen.{graph_of}
use Rattle.si_pictures.proofs.WritingParts.{parts_from}
use Rattle.si_pictures.proofs.PictureLemmas.{node_at}
use Rattle.si_pictures.proofs.dot_text.add_states.Given as goal

abbrev pub invariant-loop-k : goal.invariant-loop-k
invariant-loop-k l = l.text ++ parts_from (node_at l.seen l.states l.marks) (graph_of l.seen).states l.k
    ≡ l.initial.text ++ parts_from (node_at l.seen l.states l.marks) (graph_of l.seen).states 0
