-- (command) Whether two graphs behave alike.
use Rattle.std.specs.Prelude.{◌≡◌, ◌↔◌, ℕ, if◌then◌else◌, List, [], ◌∷◌, map, codes, decimal}
use Rattle.std.specs.Prelude.{Ok, Err}
use Rattle.si_base.specs.Behaviour.{Implements}
use Rattle.si_base.specs.Codes.{CodedGraph}
use Rattle.si_base.specs.GivenGraph.{Sg}
use Rattle.si_base.specs.Graph.{StateGraph, enables}
use Rattle.si_base.specs.Netlist.{Netlist}
use Rattle.si_base.specs.Words.{text_of}
use Rattle.si_fold.specs.Folded.{IsFolded}
use Rattle.si_readings.specs.Checks.{proper, match_graphs}
use Rattle.si_readings.specs.Readings.{graph_readings}
use Rattle.si_refusals.specs.Refusal.{TextRefusal, Unlike}
use Rattle.si_refusals.specs.Stages.{Stage, ◌>>=◌}
use Rattle.si_same.specs.Same.{BehaveAlike, Difference, IsFirstDifference}
use Rattle.si_sg.specs.CanonicalText.{event_word, state_at}
use Rattle.si_sg.specs.GivenGraph.{IsGivenBy}

-- so many states has the folded graph of c
pub record HasFolded (c : CodedGraph) (count : ℕ) : Type 0 where
  pub kept : List ℕ
  pub class : List ℕ
  pub folded : CodedGraph
  pub is : IsFolded c kept class folded
  pub count_is : count ≡ folded.graph.states

-- how many states a graph has, and its folded graph has
abbrev pub sizes_line : ℕ → ℕ → List (List ℕ)
sizes_line states folded =
    codes "states" ∷ decimal states ∷ codes "folded" ∷ decimal folded ∷ []

abbrev pub same_text : (one one_folded other other_folded : ℕ) → List ℕ
same_text one one_folded other other_folded = text_of ((codes "same" ∷ [])
    ∷ sizes_line one one_folded ∷ sizes_line other other_folded ∷ [])

-- the graphs behave alike, and the output tells their sizes
pub record TellsSame (c d : CodedGraph) (output : List ℕ) : Type 0 where
  pub alike : BehaveAlike c.graph d.graph
  pub one_folded : ℕ
  pub other_folded : ℕ
  pub one : HasFolded c one_folded
  pub other : HasFolded d other_folded
  pub output_is : output ≡ same_text c.graph.states one_folded d.graph.states other_folded

-- a difference of two graphs over these signals, by words: the file of the one that enables the
-- event, the event, the two states, and the walk
abbrev pub unlike_by : (one other : List ℕ) (one_states other_states : List (List ℕ)) → StateGraph
    → Difference → TextRefusal
unlike_by one other one_states other_states g x = Unlike
    (if enables g x.one x.event then one else other) (event_word g.signals x.event)
    (state_at one_states x.one) (state_at other_states x.other) (map (event_word g.signals) x.walk)

-- the refusal shows the first difference of the graphs
pub record TellsUnlike (one other : List ℕ) (one_states other_states : List (List ℕ))
    (c d : CodedGraph) (refusal : TextRefusal) : Type 0 where
  pub difference : Difference
  pub first : IsFirstDifference c.graph d.graph difference
  pub refusal_is : refusal ≡ unlike_by one other one_states other_states c.graph difference

-- that two graphs behave alike, each of a file and with these names of its states: else their first
-- difference
abbrev pub likeness : (one other : List ℕ) (one_states other_states : List (List ℕ))
    → (c d : CodedGraph) → Stage TextRefusal (List ℕ)
likeness one other one_states other_states c d (Ok output) = TellsSame c d output
likeness one other one_states other_states c d (Err refusal) =
    TellsUnlike one other one_states other_states c d refusal

abbrev pub likeness_of : (one : List ℕ) (f : StateGraph) (f_states : List (List ℕ))
    (other : List ℕ) (g : StateGraph) (g_states : List (List ℕ)) → Stage TextRefusal (List ℕ)
likeness_of one f f_states other g g_states = do
  c ← proper f f_states
  d ← proper g g_states
  _ ← match_graphs other c d
  likeness one other f_states g_states c d

-- each file with its text
abbrev pub same : (one one_text other other_text : List ℕ) → Stage TextRefusal (List ℕ)
same one one_text other other_text = do
  readings ← graph_readings one one_text other other_text
  likeness_of one readings.one.graph readings.one.states
      other readings.other.graph readings.other.states

-- ---- what laws say of it

-- the texts give two graphs, and a netlist implements the one just where it implements the other
pub record ServesBoth (one_text other_text : List ℕ) : Type 0 where
  pub one : Sg
  pub other : Sg
  pub one_is : IsGivenBy one_text one
  pub other_is : IsGivenBy other_text other
  pub same_lists : one.graph.signals ≡ other.graph.signals
  pub each : (n : Netlist) → Implements n one.graph ↔ Implements n other.graph
