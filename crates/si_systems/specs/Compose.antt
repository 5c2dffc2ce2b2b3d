-- (command) The graph of graphs side by side.
use Rattle.std.specs.Prelude.{◌≡◌, ℕ, List, [], ◌∷◌, ◌++◌, map, zip, Ok, Err}
use Rattle.si_base.specs.declared.ids.Event.{Event}
use Rattle.si_base.specs.Bytes.{sign}
use Rattle.si_base.specs.Codes.{CodedGraph}
use Rattle.si_base.specs.GivenGraph.{Sg}
use Rattle.si_base.specs.Graph.{StateGraph}
use Rattle.si_composing.specs.Causes.{ShowsUncomposed}
use Rattle.si_composing.specs.JoinedSignals.{joined_signals}
use Rattle.si_composing.specs.SideBySide.{IsSideBySide}
use Rattle.si_composing.specs.declared.clash.Clash.TheVariants as clash
use Rattle.si_composing.specs.declared.compose.Uncomposed.{Uncomposed}
use Rattle.si_composing.specs.declared.compose.Uncomposed.TheVariants as cause
use Rattle.si_readings.specs.Checks.{proper}
use Rattle.si_readings.specs.Readings.{graph_in}
use Rattle.si_refusals.specs.Refusal.{TextRefusal}
use Rattle.si_refusals.specs.Refusal as answer
use Rattle.si_refusals.specs.Stages.{Stage, ◌>>=◌, each}
use Rattle.si_refusals.specs.declared.uncomposed.NamedCause.{NamedCause}
use Rattle.si_refusals.specs.declared.uncomposed.NamedCause.TheVariants as named
use Rattle.si_sg.specs.CanonicalText.{event_word}
use Rattle.si_systems.specs.Halts.{text_with_halts}
use Rattle.si_systems.specs.Names.{composed_sg, names_at}
use Rattle.si_trails.specs.Trails.{IsFirstWalkTo}

-- the words of the events of the first walk to the tuple
abbrev pub AreWalkWords : List CodedGraph → List ℕ → List (List ℕ) → Type 0
AreWalkWords parts at words = (walk : List Event) × IsFirstWalkTo parts at walk
    × (words ≡ map (event_word (joined_signals parts)) walk)

-- a cause against composing by the names of signals and states, an interference with the first walk
-- to it; want of memory has no name
abbrev pub IsNamed : List Sg → List CodedGraph → Uncomposed → NamedCause → Type 0
IsNamed given parts cause.NoMemory shown = ⊥
IsNamed given parts (cause.Signal clash.Driven name) shown = shown ≡ named.Driven name
IsNamed given parts (cause.Signal clash.Private name) shown = shown ≡ named.Private name
IsNamed given parts (cause.Signal clash.Starts name) shown = shown ≡ named.Starts name
IsNamed given parts (cause.TooMany count) shown = shown ≡ named.Signals count
IsNamed given parts cause.States shown = shown ≡ named.States
IsNamed given parts (cause.Interferes at name up) shown = (words : List (List ℕ))
    × AreWalkWords parts at words
    × (shown ≡ named.Interferes (names_at given at) (name ++ sign up ∷ []) words)
IsNamed given parts cause.Arcs shown = shown ≡ named.Arcs
IsNamed given parts (cause.Constant name) shown = shown ≡ named.Constant name

-- the graph of graphs side by side, and the tuples that are its states
pub record ComposedSg : Type 0 where
  pub sg : Sg
  pub tuples : List (List ℕ)

-- the parts have a composed graph, and this is it
abbrev pub IsComposedSg : List Sg → List CodedGraph → ComposedSg → Type 0
IsComposedSg given parts c = IsSideBySide parts c.tuples c.sg.graph
    × (c.sg ≡ composed_sg given c.tuples c.sg.graph)

-- the parts have a composed graph, and the output is its text, with the line that tells how many of
-- its states enable nothing
pub record TellsComposed (given : List Sg) (parts : List CodedGraph) (output : List ℕ)
    : Type 0 where
  pub tuples : List (List ℕ)
  pub whole : StateGraph
  pub side_by_side : IsSideBySide parts tuples whole
  pub output_is : output ≡ text_with_halts (composed_sg given tuples whole)

-- the refusal shows the first cause against it
pub record TellsUncomposed (given : List Sg) (parts : List CodedGraph) (refusal : TextRefusal)
    : Type 0 where
  pub cause : Uncomposed
  pub first : ShowsUncomposed parts cause
  pub shown : NamedCause
  pub named : IsNamed given parts cause shown
  pub refusal_is : refusal ≡ answer.Uncomposed shown

-- the graph of the given graphs side by side, of which these are the parts with their codes
abbrev pub composed : List Sg → List CodedGraph → Stage TextRefusal ComposedSg
composed given parts (Ok c) = IsComposedSg given parts c
composed given parts (Err refusal) = TellsUncomposed given parts refusal

-- the same as a text
abbrev pub composition : List Sg → List CodedGraph → Stage TextRefusal (List ℕ)
composition given parts (Ok output) = TellsComposed given parts output
composition given parts (Err refusal) = TellsUncomposed given parts refusal

-- the graphs that texts give, each of its file
abbrev pub graphs_in : (files texts : List (List ℕ)) → Stage TextRefusal (List Sg)
graphs_in files texts = each (λ f. graph_in f.0 f.1) (zip files texts)

-- these graphs with their codes, where each is proper
abbrev pub parts_of : List Sg → Stage TextRefusal (List CodedGraph)
parts_of given = each (λ g. proper g.graph g.states) given

-- each file with its text
abbrev pub compose : (files texts : List (List ℕ)) → Stage TextRefusal (List ℕ)
compose files texts = do
  given ← graphs_in files texts
  parts ← parts_of given
  composition given parts
