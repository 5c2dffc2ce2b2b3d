use Rattle.std.proofs.Common.{◌≡◌, ◌++◌}
use Rattle.si_pictures.specs.Seen.{graph_of}
use Rattle.si_pictures.proofs.WritingParts.{parts_from}
use Rattle.si_pictures.proofs.CodeLemmas.{line_at, signals_line}
use Rattle.si_pictures.proofs.states_text.list_states.Given as goal

abbrev pub invariant-loop-k : goal.invariant-loop-k
invariant-loop-k l = l.text ++ parts_from (line_at l.seen l.states) (graph_of l.seen).states l.k
    ≡ signals_line l.seen ++ parts_from (line_at l.seen l.states) (graph_of l.seen).states 0
