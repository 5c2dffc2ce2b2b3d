-- (law) What laws say of composing texts.
use Rattle.std.specs.Prelude.{◌≡◌, ℕ, ◌<◌, List, [], ◌∷◌, length, slice_index_or, Ok}
use Rattle.si_base.specs.Behaviour.{Implements}
use Rattle.si_base.specs.Codes.{CodedGraph}
use Rattle.si_base.specs.GivenGraph.{Sg}
use Rattle.si_base.specs.Graph.{StateGraph}
use Rattle.si_base.specs.Netlist.{Netlist}
use Rattle.si_base.specs.Proper.{IsProper}
use Rattle.si_compose.specs.JoinedNetlist.{IsJoined}
use Rattle.si_compose.specs.Laws.{IsOver, IsPart}
use Rattle.si_composing.specs.SideBySide.{IsSideBySide}
use Rattle.si_readings.specs.Checks.{IsSound}
use Rattle.si_sg.specs.GivenGraph.{IsGivenBy}
use Rattle.si_base.specs.Words.{IsStateName}
use Rattle.si_systems.specs.Compose.{compose}
use Rattle.si_systems.specs.Names.{IsTupleOf, composed_sg, tuple_name}

-- each is the graph that its text gives
abbrev pub AreGivenBy : (texts : List (List ℕ)) → List Sg → Type 0
AreGivenBy [] [] = Unit {0}
AreGivenBy (text ∷ texts) (g ∷ gs) = IsGivenBy text g × AreGivenBy texts gs
AreGivenBy [] (g ∷ gs) = ⊥
AreGivenBy (text ∷ texts) [] = ⊥

-- the parts are the graphs with their codes, each of which is proper
abbrev pub AreSound : List Sg → List CodedGraph → Type 0
AreSound [] [] = Unit {0}
AreSound (g ∷ gs) (c ∷ cs) = IsSound g.graph c × AreSound gs cs
AreSound [] (c ∷ cs) = ⊥
AreSound (g ∷ gs) [] = ⊥

-- graph i of those given
abbrev pub given_graph : List Sg → ℕ → StateGraph
given_graph given i = (slice_index_or given i (record {
  model = [];
  graph = record { signals = []; states = 0; edges = []; start = 0 };
  states = [];
})).graph

-- the texts give graphs, and the text `output` gives the graph of all of them side by side, which is
-- proper: netlists that implement the graphs implement it together
pub record IsComposedText (texts : List (List ℕ)) (output : List ℕ) : Type 0 where
  pub given : List Sg
  pub given_are : AreGivenBy texts given
  pub parts : List CodedGraph
  pub parts_are : AreSound given parts
  pub tuples : List (List ℕ)
  pub whole : StateGraph
  pub side_by_side : IsSideBySide parts tuples whole
  pub reads_back : IsGivenBy output (composed_sg given tuples whole)
  pub proper : IsProper whole
  pub serves : (netlists : ℕ → Netlist) (m : Netlist)
      → ((i : ℕ) → i < length given → IsPart (given_graph given i) (netlists i))
      → IsJoined (length given) netlists m → IsOver whole m → Implements m whole

-- no two tuples of states have one name
abbrev pub NamesAreOne : Type 0
NamesAreOne = (texts : List (List ℕ)) (given : List Sg) (xs ys : List ℕ) → AreGivenBy texts given
    → IsTupleOf given xs → IsTupleOf given ys → tuple_name given xs ≡ tuple_name given ys → xs ≡ ys

-- and each is the name of a state
abbrev pub NamesAreStateNames : Type 0
NamesAreStateNames = (texts : List (List ℕ)) (given : List Sg) (xs : List ℕ) → AreGivenBy texts given
    → 0 < length given → IsTupleOf given xs → IsStateName (tuple_name given xs)

-- an output is the text of the composed graph, which netlists of the graphs implement together
abbrev pub OutputsServe : Type 0
OutputsServe = (files texts : List (List ℕ)) (output : List ℕ) → length texts ≡ length files
    → 0 < length files → compose files texts (Ok output) → IsComposedText texts output
