-- The composed graph as the code hands it out.
use Rattle.si_sg.specs.GivenGraph.{sg_now}
use Rattle.si_systems.specs.Compose.{ComposedSg}
use Rattle.si_systems.specs.declared.compose.ComposedSg.{ComposedSg as Made}

abbrev pub composed_now : Made → ComposedSg
composed_now c = record { sg = sg_now c.sg; tuples = c.tuples.items }
