-- (field) The weight of a graph for a library.
use Rattle.std.specs.Prelude.{ℕ, ◌+◌, ◌&&◌, List, [], ◌∷◌, zero, suc, length, if◌then◌else◌}
use Rattle.std.specs.Prelude.{is_none}
use Rattle.si_base.specs.Bits.{bit}
use Rattle.si_base.specs.Codes.{CodedGraph}
use Rattle.si_base.specs.Graph.{is_driven}
use Rattle.si_base.specs.declared.graph.Signal.{Signal}
use Rattle.si_cell.specs.Library.{Library}
use Rattle.si_match.specs.Fit.{first_fit}
use Rattle.si_match.specs.Support.{support_of}

-- how many of the signals from the i-th on, so many, are in the set
abbrev pub size_from : ℕ → ℕ → ℕ → ℕ
size_from zero i signals = 0
size_from (suc count) i signals = (if bit signals i then 1 else 0) + size_from count (i + 1) signals

abbrev pub size_of_support : CodedGraph → ℕ → ℕ
size_of_support c z = size_from (length c.graph.signals) 0 (support_of c z)

-- what a non-input adds to the weight: nothing where it fits a cell, else one more than the size of
-- its support
abbrev pub added_weight : CodedGraph → Library → ℕ → ℕ
added_weight c library z = if is_none (first_fit c library z) then 1 + size_of_support c z else 0

-- for each of the non-inputs from the i-th signal on that fit no cell, one more than the size of
-- its support
abbrev pub weight_from : CodedGraph → Library → ℕ → List Signal → ℕ
weight_from c library i [] = 0
weight_from c library i (x ∷ xs) =
    (if is_driven x.kind && is_none (first_fit c library i) then 1 + size_of_support c i else 0)
    + weight_from c library (i + 1) xs

unfoldable pub weight_of : CodedGraph → Library → ℕ
weight_of c library = weight_from c library 0 c.graph.signals
