-- (field) What a fault of `Coded::make` shows of the graph.
use Rattle.si_base.specs.Graph.{StateGraph}
use Rattle.si_base.specs.Order.{IsFirst}
use Rattle.si_base.specs.Codes.{IsDeterministic}
use Rattle.si_base.specs.Proper.{Splits, split_place, IsFirstWithoutValues}
use Rattle.si_graph.specs.declared.coded.CodeFault.{CodeFault}
use Rattle.si_graph.specs.declared.coded.CodeFault.TheVariants.{NoMemory, Nondeterministic}
use Rattle.si_graph.specs.declared.coded.CodeFault.TheVariants.{Inconsistent}

abbrev pub ShowsUncoded : StateGraph → CodeFault → Type 0
ShowsUncoded g NoMemory = Unit {0}
ShowsUncoded g (Nondeterministic s e t u) =
    IsFirst split_place (Splits g) (record { s = s; e = e; t = t; u = u })
ShowsUncoded g (Inconsistent a) = IsDeterministic g × IsFirstWithoutValues g a
