-- States of one class and one code.
use Rattle.std.specs.Prelude.{◌≡◌, ℕ, ◌<◌, ◌≤◌, ◌↔◌, List, length, slice_index}
use Rattle.std.specs.declared.cmp.Ordering.{Ordering}
use Rattle.std.specs.Ordering.{nat_cmp, ordering_then}
use Rattle.si_base.specs.Codes.{CodedGraph, code}
use Rattle.si_kin.specs.declared.alike.Likeness.{Likeness}

-- the order of likenesses: by class, then by code
abbrev pub likeness_cmp : Likeness → Likeness → Ordering
likeness_cmp x y = ordering_then (nat_cmp x.class y.class) (nat_cmp x.code y.code)

-- the class and the code of a state
abbrev pub likeness_of : CodedGraph → List ℕ → ℕ → Likeness
likeness_of c classes s = record { class = slice_index classes s; code = code c s }

-- for each state the first that is alike
pub record AreFirstAlike (c : CodedGraph) (classes firsts : List ℕ) : Type 0 where
  pub count : length firsts ≡ c.graph.states
  pub up_to : (s : ℕ) → s < c.graph.states → slice_index firsts s ≤ s
  pub own : (s : ℕ) → s < c.graph.states
      → slice_index firsts (slice_index firsts s) ≡ slice_index firsts s
  pub exactly : (s t : ℕ) → s < c.graph.states → t < c.graph.states
      → (slice_index firsts s ≡ slice_index firsts t)
      ↔ (likeness_of c classes s ≡ likeness_of c classes t)
