-- (field) The signals of a graph beside the given signals of a netlist, or those of another graph.
use Rattle.std.specs.Prelude.{◌≡◌, ℕ, ◌+◌, ◌<◌, not, List, length, filter, slice_get}
use Rattle.si_base.specs.declared.graph.Signal.{Signal}
use Rattle.si_base.specs.Bits.{bit}
use Rattle.si_base.specs.Codes.{CodedGraph, code}
use Rattle.si_base.specs.Netlist.{Netlist}
use Rattle.si_base.specs.System.{is_inserted}

-- the signals that aren't inserted
abbrev pub given : Netlist → List Signal
given n = filter (λ x. not (is_inserted x.kind)) n.signals

-- at place k, from 0, two lists of signals have one signal with one start value, or both have ended
pub record AreSameAt (own : List Signal) (values : ℕ) (others : List Signal) (start k : ℕ)
    : Type 0 where
  pub signal : slice_get others k ≡ slice_get own k
  pub value : k < length own → bit start k ≡ bit values k

-- the signals of a graph beside the given signals of a netlist
abbrev pub IsSameAt : CodedGraph → Netlist → ℕ → Type 0
IsSameAt c n k = AreSameAt c.graph.signals (code c c.graph.start) (given n) n.start k

-- and beside those of another graph
abbrev pub IsSameInBoth : CodedGraph → CodedGraph → ℕ → Type 0
IsSameInBoth c d k =
    AreSameAt c.graph.signals (code c c.graph.start) d.graph.signals (code d d.graph.start) k

-- k is the first place, from 0, at which they aren't the same
pub record IsFirstDifference (IsSame : ℕ → Type 0) (k : ℕ) : Type 0 where
  pub differs : IsSame k → ⊥
  pub before : (j : ℕ) → j < k → IsSame j

-- place, from 1, is the first at which they aren't the same
abbrev pub ShowsFirst : (ℕ → Type 0) → ℕ → Type 0
ShowsFirst IsSame place = (k : ℕ) × (place ≡ k + 1) × IsFirstDifference IsSame k

abbrev pub ShowsDifference : CodedGraph → Netlist → ℕ → Type 0
ShowsDifference c n place = ShowsFirst (IsSameAt c n) place

abbrev pub ShowsUnlike : CodedGraph → CodedGraph → ℕ → Type 0
ShowsUnlike c d place = ShowsFirst (IsSameInBoth c d) place

-- two lists of signals, with the same start values
pub record AreSameLists (own : List Signal) (values : ℕ) (others : List Signal) (start : ℕ)
    : Type 0 where
  pub signals : others ≡ own
  pub values_are : (a : ℕ) → a < length own → bit start a ≡ bit values a

-- two graphs have one list of signals, with the same values at their starts
abbrev pub StartAlike : CodedGraph → CodedGraph → Type 0
StartAlike c d =
    AreSameLists c.graph.signals (code c c.graph.start) d.graph.signals (code d d.graph.start)
