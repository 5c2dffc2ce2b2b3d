-- The arcs as they are made, one after another.
use Rattle.std.specs.Prelude.{ℕ, ◌+◌, ◌-◌, ◌*◌, ◌/◌, ◌%◌, ◌^◌, ◌==◌, if◌then◌else◌}
use Rattle.si_base.specs.declared.graph.Edge.{Edge}
use Rattle.si_base.specs.Graph.{arc}
use Rattle.si_handshakes.specs.Handshakes.{phase, ending}

-- the state in which handshake i is one phase on
abbrev pub next_state : ℕ → ℕ → ℕ
next_state m i = if phase m i == 3 then m - 3 * 4 ^ i else m + 4 ^ i

-- the arc by which handshake i among n goes on from m
abbrev pub arc_of : ℕ → ℕ → ℕ → Edge
arc_of n m i = arc m (ending n i (phase m i)) (next_state m i)

-- arc k in the order of states, then handshakes
abbrev pub arc_at : ℕ → ℕ → Edge
arc_at n k = arc_of n (k / n) (k % n)
