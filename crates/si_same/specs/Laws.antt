-- (law) The laws of graphs that behave alike, one word each.
use Rattle.std.specs.Prelude.{◌≡◌, ◌↔◌, ℕ, List, Option}
use Rattle.si_base.specs.declared.ids.Event.{Event}
use Rattle.si_base.specs.Graph.{StateGraph, Walk}
use Rattle.si_base.specs.Codes.{CodedGraph, IsCoded, code}
use Rattle.si_base.specs.Netlist.{Netlist}
use Rattle.si_base.specs.System.{IsFor}
use Rattle.si_fold.specs.Folded.{IsFolded}
use Rattle.si_fold.specs.Laws.{BehavesAlike}
use Rattle.si_same.specs.Same.{BehaveAlike, Difference, IsFirstDifferenceOrNone}

-- two coded graphs behave alike, or have a first difference
abbrev pub AlikeOrDiffer : Type 0
AlikeOrDiffer = (c d : CodedGraph) → IsCoded c → IsCoded d
    → (found : Option Difference) × IsFirstDifferenceOrNone c.graph d.graph found

-- one of the two, and one difference
abbrev pub AnswersAreUnique : Type 0
AnswersAreUnique = (c d : CodedGraph) (found other : Option Difference) → IsCoded c → IsCoded d
    → IsFirstDifferenceOrNone c.graph d.graph found → IsFirstDifferenceOrNone c.graph d.graph other
    → found ≡ other

-- the graph can go these events, one step after another
abbrev pub CanGo : StateGraph → List Event → Type 0
CanGo g es = (s : ℕ) × Walk g g.start es s

-- graphs behave alike just where each walk of the one is one of the other
abbrev pub WalksTell : Type 0
WalksTell = (c d : CodedGraph) → IsCoded c → IsCoded d
    → BehaveAlike c.graph d.graph ↔ ((es : List Event) → CanGo c.graph es ↔ CanGo d.graph es)

-- to behave alike is an equivalence
pub record IsEquivalence : Type 0 where
  pub itself : (c : CodedGraph) → IsCoded c → BehaveAlike c.graph c.graph
  pub back : (c d : CodedGraph) → IsCoded c → IsCoded d → BehaveAlike c.graph d.graph
      → BehaveAlike d.graph c.graph
  pub through : (c d e : CodedGraph) → IsCoded c → IsCoded d → IsCoded e → BehaveAlike c.graph d.graph
      → BehaveAlike d.graph e.graph → BehaveAlike c.graph e.graph

-- two graphs with one list of signals and one code at their starts
pub record AreAlikeFromStart (c d : CodedGraph) : Type 0 where
  pub signals : c.graph.signals ≡ d.graph.signals
  pub start_code : code c c.graph.start ≡ code d d.graph.start
  pub alike : BehaveAlike c.graph d.graph

-- the folded graphs of two such graphs have as many states
abbrev pub FoldedSizesAgree : Type 0
FoldedSizesAgree = (c d : CodedGraph) (kept class : List ℕ) (e : CodedGraph) (kept2 class2 : List ℕ)
    (h : CodedGraph) → IsCoded c → IsCoded d → AreAlikeFromStart c d → IsFolded c kept class e
    → IsFolded d kept2 class2 h → e.graph.states ≡ h.graph.states

-- beside two such graphs that behave alike a netlist behaves alike
abbrev pub NetlistsServeBoth : Type 0
NetlistsServeBoth = (c d : CodedGraph) (n : Netlist) → IsCoded c → IsCoded d
    → AreAlikeFromStart c d → BehavesAlike c d n

-- and it is for the one where it is for the other
abbrev pub NetlistsAreForEither : Type 0
NetlistsAreForEither = (c d : CodedGraph) (n : Netlist) → IsCoded c → IsCoded d
    → AreAlikeFromStart c d → IsFor c n ↔ IsFor d n
