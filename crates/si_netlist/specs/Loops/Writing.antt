-- Parts of a netlist's text.
use Rattle.std.specs.Prelude.{ℕ, List, ◌∷◌, map, filter}
use Rattle.std.specs.List.{zip}
use Rattle.si_base.specs.declared.graph.Signal.{Signal}
use Rattle.si_base.specs.Graph.{is_driven}
use Rattle.si_base.specs.Netlist.{Gate}
use Rattle.si_base.specs.NetlistText.{gate_words}

-- the lines of the gates, each with the next of the non-inputs among these signals
abbrev pub gate_lines : List Signal → List Signal → List Gate → List (List (List ℕ))
gate_lines all signals gates =
    map (λ p. p.0.name ∷ gate_words all p.1) (zip (filter (λ x. is_driven x.kind) signals) gates)
