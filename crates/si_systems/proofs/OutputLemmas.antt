-- An output is the text of the composed graph, which netlists of the graphs implement together.
use Rattle.std.proofs.Common.{◌≡◌, ℕ, zero, suc, ◌<◌, List, [], ◌∷◌, length, Ok, refl, sym, ap, subst, arith}
use Rattle.si_base.specs.Behaviour.{Implements}
use Rattle.si_base.specs.Codes.{CodedGraph}
use Rattle.si_base.specs.GivenGraph.{Sg}
use Rattle.si_base.specs.Graph.{StateGraph}
use Rattle.si_base.specs.Netlist.{Netlist}
use Rattle.si_base.specs.Proper.{IsProper}
use Rattle.si_compose.specs.JoinedNetlist.{IsJoined}
use Rattle.si_compose.specs.Laws.{IsOver, IsPart}
use Rattle.si_compose.proofs.ComposedProper.{is_proper}
use Rattle.si_compose.proofs.JoinedBehaviour.{implements}
use Rattle.si_composing.specs.JoinedSignals.{graph_of}
use Rattle.si_composing.specs.Tuples.{state_in}
use Rattle.si_readings.specs.Readings.{graph_in}
use Rattle.si_readings.proofs.StageLemmas.{one_value, passed}
use Rattle.si_refusals.specs.Stages.{each}
use Rattle.si_sg.specs.GivenGraph.{IsGivenBy}
use Rattle.si_systems.specs.Compose.{TellsComposed, compose, graphs_in, parts_of}
use Rattle.si_systems.specs.Laws.{AreGivenBy, AreSound, IsComposedText, given_graph}
use Rattle.si_systems.specs.Loops.Parts.{AreGiven}
use Rattle.si_systems.specs.Halts.{dead_count, dead_line}
use Rattle.si_systems.specs.Names.{composed_sg}
use Rattle.si_systems.proofs.BehindEnd.{gives_with_more}
use Rattle.si_systems.proofs.PartLemmas.{are_sound, as_many}
use Rattle.si_systems.proofs.WritableLemmas.{composed_reads_back}

-- ---- the graphs that the texts give
pub as_given : (texts : List (List ℕ)) (given : List Sg) → AreGivenBy texts given → AreGiven given
as_given [] [] are = tt
as_given [] (g ∷ gs) are = absurd are
as_given (t ∷ texts) [] are = absurd are
as_given (t ∷ texts) (g ∷ gs) are = ((t, are.0), as_given texts gs are.1)

pub given_by : (files texts : List (List ℕ)) (given : List Sg) → length texts ≡ length files
    → graphs_in files texts (Ok given) → AreGivenBy texts given
given_by [] [] given many all = subst (AreGivenBy []) (sym (one_value (Ok given) given [] refl all)) tt
given_by [] (t ∷ texts) given many all = absurd (omega (arith, many))
given_by (f ∷ files) [] given many all = absurd (omega (arith, many))
given_by (f ∷ files) (t ∷ texts) given many all =
    let first = passed (graph_in f t) _ given all in
    let rest = passed (graphs_in files texts) _ given first.2 in
    subst (AreGivenBy (t ∷ texts)) (sym (one_value (Ok given) given (first.0 ∷ rest.0) refl rest.2))
    (first.1, given_by files texts rest.0 (omega (arith, many)) rest.1)

pub many_given : (texts : List (List ℕ)) (given : List Sg) → AreGivenBy texts given → length given ≡ length texts
many_given [] [] are = refl
many_given [] (g ∷ gs) are = absurd are
many_given (t ∷ texts) [] are = absurd are
many_given (t ∷ texts) (g ∷ gs) are = ap suc (many_given texts gs are.1)

-- ---- each graph is that of its part
graph_is : (given : List Sg) (parts : List CodedGraph) → AreSound given parts → (i : ℕ) → i < length parts
    → given_graph given i ≡ graph_of parts i
graph_is given [] sound i below = absurd (omega (arith, below))
graph_is [] (c ∷ cs) sound i below = absurd sound
graph_is (g ∷ gs) (c ∷ cs) sound zero below = sym sound.0.same_graph
graph_is (g ∷ gs) (c ∷ cs) sound (suc i) below = graph_is gs cs sound.1 i (omega (arith, below))

proper_at : (given : List Sg) (parts : List CodedGraph) → AreSound given parts → (i : ℕ) → i < length parts
    → IsProper (graph_of parts i)
proper_at given [] sound i below = absurd (omega (arith, below))
proper_at [] (c ∷ cs) sound i below = absurd sound
proper_at (g ∷ gs) (c ∷ cs) sound zero below =
    subst (λ (h : StateGraph). IsProper h) (sym sound.0.same_graph) sound.0.proper
proper_at (g ∷ gs) (c ∷ cs) sound (suc i) below = proper_at gs cs sound.1 i (omega (arith, below))

-- ---- the output
module _ (texts : List (List ℕ)) (given : List Sg) (are : AreGivenBy texts given) (parts : List CodedGraph)
    (sound : AreSound given parts) (output : List ℕ) (told : TellsComposed given parts output)
    (some : 0 < length given) where
  serves : (netlists : ℕ → Netlist) (m : Netlist)
      → ((i : ℕ) → i < length given → IsPart (given_graph given i) (netlists i))
      → IsJoined (length given) netlists m → IsOver told.whole m → Implements m told.whole
  serves netlists m each joined over =
      let many : length given ≡ length parts = as_many given parts sound in
      let is = told.side_by_side in
      implements (length parts) (graph_of parts) netlists (state_in told.tuples) told.whole m
      (λ i below. subst (λ (g : StateGraph). IsPart g (netlists i)) (graph_is given parts sound i below)
      (each i (omega (arith, below, many)))) is.composed is.free
      (subst (λ (count : ℕ). IsJoined count netlists m) many joined) over

  composed_text : IsComposedText texts output
  composed_text =
      let is = told.side_by_side in
      let graph : Sg = composed_sg given told.tuples told.whole in
      record {
        given = given;
        given_are = are;
        parts = parts;
        parts_are = sound;
        tuples = told.tuples;
        whole = told.whole;
        side_by_side = is;
        reads_back = subst (λ (text : List ℕ). IsGivenBy text (composed_sg given told.tuples told.whole))
            (sym told.output_is)
            (gives_with_more graph graph (dead_line (dead_count told.whole))
            (composed_reads_back given parts (as_given texts given are) sound told.tuples told.whole is some));
        proper = is_proper (length parts) (graph_of parts) (state_in told.tuples) told.whole
            (proper_at given parts sound) is.composed is.free is.graph is.connected;
        serves = serves;
      }

pub output_serves : (files texts : List (List ℕ)) (output : List ℕ) → length texts ≡ length files → 0 < length files
    → compose files texts (Ok output) → IsComposedText texts output
output_serves files texts output many some comes =
    let read = passed (graphs_in files texts) _ output comes in
    let proper_parts = passed (parts_of read.0) _ output read.2 in
    let are = given_by files texts read.0 many read.1 in
    composed_text texts read.0 are proper_parts.0 (are_sound read.0 proper_parts.0 proper_parts.1) output proper_parts.2
    (omega (arith, many, some, many_given texts read.0 are))
