-- The states and signals of what is printed are those of the graph.
use Rattle.std.specs.Prelude.{◌<◌, length}
use Rattle.si_base.specs.Graph.{StateGraph}
use Rattle.si_base.specs.Proper.{Split, Fork}
use Rattle.si_breaches.specs.declared.clashes.Clash.{Clash}
use Rattle.si_breaches.specs.declared.clashes.Clash.TheVariants.{Torn, Apart}
use Rattle.si_told.specs.Loops.Lines.{ArcIsWithin}

abbrev pub SplitIsWithin : StateGraph → Split → Type 0
SplitIsWithin g b = (b.s < g.states) × (b.e.sig < length g.signals) × (b.t < g.states)
    × (b.u < g.states)

abbrev pub ForkIsWithin : StateGraph → Fork → Type 0
ForkIsWithin g b = (b.s < g.states) × (b.a.sig < length g.signals) × (b.c.sig < length g.signals)
    × (b.w < g.states) × (b.w2 < g.states)

abbrev pub ClashIsWithin : StateGraph → Clash → Type 0
ClashIsWithin g (Torn x) = ArcIsWithin g x
ClashIsWithin g (Apart x y) = ArcIsWithin g x × ArcIsWithin g y
