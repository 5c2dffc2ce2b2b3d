-- (field) A netlist that is suggested for a graph, and why there is none.
use Rattle.std.specs.Prelude.{◌≡◌, ℕ, ◌≤◌, List}
use Rattle.si_base.specs.Behaviour.{Implements}
use Rattle.si_base.specs.Codes.{CodedGraph}
use Rattle.si_base.specs.Netlist.{Netlist}
use Rattle.si_base.specs.Order.{IsFirst}
use Rattle.si_base.specs.Proper.{HasNoConflict, pair_place}
use Rattle.si_base.specs.WellFormed.{IsNetlist}
use Rattle.si_circuit.specs.Circuits.{LineageNetlist, circuit_of}
use Rattle.si_circuit.specs.declared.style.Style.{Style}
use Rattle.si_insert.specs.declared.lineage.TraceStep.{TraceStep}
use Rattle.si_insert.specs.Lineage.{Current, History, given_current}
use Rattle.si_resolve.specs.Trace.{EndsResolved, EndsUnresolved}
use Rattle.si_suggest.specs.Literals.{literals_of}
use Rattle.si_suggest.specs.Never.{HasNoNever, IsNeverResolved}
use Rattle.si_suggest.specs.declared.suggest.Unsuggested.{Unsuggested}
use Rattle.si_suggest.specs.declared.suggest.Unsuggested.TheVariants.{NoMemory, Never, NotFound}

-- a lineage of the graph that leaves no conflict, whatever its insertions are, with the netlist of
-- the chosen gates of the style, which implements the graph; the netlist spells the insertions by
-- these names of the states
pub record IsOffered (given : CodedGraph) (style : Style) (model : List ℕ)
    (states : List (List ℕ)) (x : LineageNetlist) : Type 0 where
  pub given_is : x.lineage.given ≡ given
  pub free : HasNoConflict x.lineage.current.coded
  pub netlist_is : x.netlist ≡ circuit_of style model states x.lineage
  pub is_netlist : IsNetlist x.netlist
  pub implements : Implements x.netlist given.graph

-- where insertions of best candidates resolve the conflicts of the graph, the netlist has no more
-- literals than the one that they lead to
abbrev pub IsNoHeavier : CodedGraph → Style → List ℕ → List (List ℕ) → Netlist → Type 0
IsNoHeavier given style model states n = (trace : List TraceStep) (w : Current)
    → EndsResolved (given_current given) trace w
    → literals_of n ≤ literals_of (circuit_of style model states
    (record { given = given; trace = trace; current = w }))

pub record IsSuggested (given : CodedGraph) (style : Style) (model : List ℕ)
    (states : List (List ℕ)) (x : LineageNetlist) : Type 0 where
  pub offered : IsOffered given style model states x
  pub light : IsNoHeavier given style model states x.netlist

-- insertions of best candidates end at a conflict, the first of their last graph, and none of the
-- given graph's is known to be never resolved
pub record IsNotFound (given : CodedGraph) (l : History) (pair : ℕ × ℕ) : Type 0 where
  pub may_be : HasNoNever given
  pub given_is : l.given ≡ given
  pub ends : EndsUnresolved (given_current given) l.trace l.current pair

-- what the cause shows of the graph
abbrev pub ShowsUnsuggested : CodedGraph → Unsuggested → Type 0
ShowsUnsuggested given NoMemory = Unit {0}
ShowsUnsuggested given (Never p q) = IsFirst pair_place (IsNeverResolved given) (p, q)
ShowsUnsuggested given (NotFound lineage p q tried) = IsNotFound given lineage (p, q)
