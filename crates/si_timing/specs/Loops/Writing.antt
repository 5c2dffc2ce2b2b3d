-- Parts of the text for a timing tool.
use Rattle.std.specs.Prelude.{ℕ, ◌==◌, List, [], ◌∷◌, flat_map, if◌then◌else◌}
use Rattle.si_base.specs.declared.graph.Signal.{Signal}
use Rattle.si_base.specs.declared.ids.Literal.{Literal}
use Rattle.si_genlib.specs.Ports.{Ports}
use Rattle.si_loops.specs.declared.arcs.Arc.{Arc}
use Rattle.si_timing.specs.Instances.{NamedArc, arc_from}
use Rattle.si_timing.specs.TimingText.{disabled_line}

-- the lines of the arcs
abbrev pub lines : List NamedArc → List ℕ
lines arcs = flat_map disabled_line arcs

-- the arc from a pin with that literal, if it is of the signal at which the cut arc begins
abbrev pub pin_arc : List Signal → Arc → Ports → List ℕ → Literal → List NamedArc
pin_arc signals a ports pin l =
    if l.sig == a.from then arc_from signals a.to ports pin ∷ [] else []
