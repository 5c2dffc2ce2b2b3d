-- Jumps back along the tree of first paths, each twice as long as before.
use Rattle.std.specs.Prelude.{◌≡◌, ℕ, ◌<◌, ◌≤◌, ◌⊎◌, List, [], ◌++◌, length, map, bit_xor}
use Rattle.std.specs.Prelude.{slice_index_or}
use Rattle.si_base.specs.declared.graph.Edge.{Edge}
use Rattle.si_base.specs.Bits.{bit}
use Rattle.si_base.specs.Graph.{StateGraph}
use Rattle.si_base.specs.Limits.{max_states}
use Rattle.si_breaches.specs.Breaches.{is_odd}
use Rattle.si_breaches.specs.declared.parities.Jump.{Jump}
use Rattle.si_walks.specs.Paths.{IsFirstPath, events_of}

-- what stands where no jump does
abbrev pub no_jump : Jump
no_jump = record { to = 0; change = 0 }

abbrev pub jump_at : List Jump → ℕ → Jump
jump_at jumps s = slice_index_or jumps s no_jump

-- the jump leads from s back by so many arcs of the path, or to its begin, and tells which signals
-- the arcs in between switch an odd number of times
pub record IsJump (g : StateGraph) (path : ℕ → List Edge) (arcs s : ℕ) (jump : Jump)
    : Type 0 where
  pub within : jump.to < g.states
  pub rest : List Edge
  pub path_is : path s ≡ path jump.to ++ rest
  pub change : (a : ℕ) → bit jump.change a ≡ is_odd a (events_of rest)
  pub long : (path jump.to ≡ []) ⊎ (length rest ≡ arcs)

-- such a jump for each state
pub record AreJumps (g : StateGraph) (arcs : ℕ) (jumps : List Jump) : Type 0 where
  pub size : length jumps ≡ g.states
  pub path : ℕ → List Edge
  pub first : (s : ℕ) → s < g.states → IsFirstPath g s (path s)
  pub short : (s : ℕ) → s < g.states → length (path s) ≤ max_states
  pub each : (s : ℕ) → s < g.states → IsJump g path arcs s (jump_at jumps s)

-- a jump, and that of the state to which it leads
abbrev pub twice_by : List Jump → Jump → Jump
twice_by jumps j = record {
  to = (jump_at jumps j.to).to;
  change = bit_xor j.change (jump_at jumps j.to).change;
}

abbrev pub doubled_of : List Jump → List Jump
doubled_of jumps = map (twice_by jumps) jumps
