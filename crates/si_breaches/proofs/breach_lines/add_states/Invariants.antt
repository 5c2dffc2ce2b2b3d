use Rattle.std.proofs.Common.{◌≡◌, ◌++◌, map, take}
use Rattle.si_sg.specs.CanonicalText.{state_at}
use Rattle.si_words.specs.Loops.Writing.{spaced}
use Rattle.si_breaches.proofs.breach_lines.add_states.Given as goal

abbrev pub invariant-loop-t : goal.invariant-loop-t
invariant-loop-t l = l.text ≡ l.initial.text ++ spaced (map (state_at l.states) (take l.t-index l.ends))
