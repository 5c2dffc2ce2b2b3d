-- What is known of audited parts, and of their composed graph.
use Rattle.std.proofs.Common.{◌≡◌, ℕ, zero, suc, ◌<◌, List, [], ◌∷◌, zip, length, map, Ok, refl, sym, ap, subst, ◌∙◌}
use Rattle.std.proofs.Common.{◌≢◌, false, arith, get_or, slice_index}
use Rattle.std.proofs.lemmas.List.{length-map}
use Rattle.std.proofs.lemmas.Option.{get_or_from_slice_get, slice_get_within}
use Rattle.si_base.specs.declared.graph.Signal.{Signal}
use Rattle.si_base.specs.declared.graph.SigKind.{SigKind}
use Rattle.si_base.specs.declared.graph.SigKind.TheVariants.{Inserted, Input, Internal, Output}
use Rattle.si_base.specs.Codes.{CodedGraph}
use Rattle.si_base.specs.GivenGraph.{Sg}
use Rattle.si_base.specs.Graph.{StateGraph}
use Rattle.si_base.specs.Proper.{IsProper}
use Rattle.si_base.specs.System.{is_inserted}
use Rattle.si_checks.proofs.ByCodesExist.{some_codes}
use Rattle.si_compose.proofs.ComposedProper.{is_proper}
use Rattle.si_composing.specs.JoinedSignals.{graph_of}
use Rattle.si_composing.specs.SideBySide.{IsSideBySide}
use Rattle.si_composing.specs.Tuples.{state_in}
use Rattle.si_insert.specs.Lineage.{AllGiven, given_history}
use Rattle.si_base.specs.WellFormed.{IsNetlist}
use Rattle.si_joins.specs.Loops.Audited.{AreAudited}
use Rattle.si_joins.specs.Loops.Parts.{AreAllShown, AreNetlists, AreShown}
use Rattle.si_netlist_reader.proofs.ReadLaw.{read_is_netlist}
use Rattle.si_joins.proofs.StepAnswers.{IsSoundCurrent}
use Rattle.si_readings.specs.Checks.{IsNamed, IsSound, proper}
use Rattle.si_readings.specs.Laws.{HasResult}
use Rattle.si_readings.specs.Readings.{graph_in}
use Rattle.si_readings.proofs.StageLemmas.{one_value, passed}
use Rattle.si_refusals.specs.Stages.{Passes, each}
use Rattle.si_sg.specs.CanonicalText.{IsWritable}
use Rattle.si_systems.specs.Compose.{ComposedSg, IsComposedSg, parts_of}
use Rattle.si_systems.specs.Laws.{AreSound}
use Rattle.si_systems.specs.Loops.Parts.{AreGiven, AreTuplesOf}
use Rattle.si_systems.specs.Names.{IsTupleOf, tuple_name}
use Rattle.si_systems.proofs.PartLemmas.{composed_tuples}
use Rattle.si_systems.proofs.WritableLemmas.{composed_writable}
use Rattle.si_works.specs.Audited.{AuditedPart, audited_part}
use Rattle.si_works.specs.Works.{graphs}
use Rattle.si_works.proofs.AuditedLemmas.{part_is}

abbrev pub givens : List AuditedPart → List Sg
givens parts = map (λ p. p.given) parts

abbrev pub Pairs : Type 0
Pairs = List (List ℕ × List ℕ)

abbrev pub EachPart : (fs ts : Pairs) → List AuditedPart → Type 0
EachPart fs ts parts = each (λ p. audited_part p.0.0 p.1.0 p.0.1 p.1.1) (zip fs ts) (Ok parts)

-- ---- the parts that texts give
no_parts : (parts : List AuditedPart) → EachPart [] [] parts → parts ≡ []
no_parts parts all = one_value (Ok parts) parts [] refl all

-- each part of the row with what its stage says
record FirstPart (fs ts : Pairs) (f t : List ℕ × List ℕ) (parts : List AuditedPart) : Type 0 where
  part : AuditedPart
  rest : List AuditedPart
  is : audited_part f.0 t.0 f.1 t.1 (Ok part)
  later : EachPart fs ts rest
  same : parts ≡ part ∷ rest

first_part : (fs ts : Pairs) (f t : List ℕ × List ℕ) (parts : List AuditedPart) → EachPart (f ∷ fs) (t ∷ ts) parts
    → FirstPart fs ts f t parts
first_part fs ts f t parts all =
    let first = passed _ _ parts all in
    let rest = passed (each (λ p. audited_part p.0.0 p.1.0 p.0.1 p.1.1) (zip fs ts)) _ parts first.2 in
    record {
      part = first.0;
      rest = rest.0;
      is = first.1;
      later = rest.1;
      same = one_value (Ok parts) parts (first.0 ∷ rest.0) refl rest.2;
    }

pub are_audited : (fs ts : Pairs) (parts : List AuditedPart) → EachPart fs ts parts → AreAudited parts
are_audited [] ts parts all = subst AreAudited (sym (no_parts parts all)) tt
are_audited (f ∷ fs) [] parts all = subst AreAudited (sym (no_parts parts all)) tt
are_audited (f ∷ fs) (t ∷ ts) parts all =
    let p = first_part fs ts f t parts all in
    subst AreAudited (sym p.same)
    ((t.0, t.1, part_is f.0 t.0 f.1 t.1 p.part p.is), are_audited fs ts p.rest p.later)

abbrev firsts : Pairs → List (List ℕ)
firsts ws = map (λ p. p.0) ws

-- their graphs are those that the first texts of the pairs give
abbrev GivenIn : (fs ts : Pairs) → List AuditedPart → Type 0
GivenIn fs ts parts = each (λ f. graph_in f.0 f.1) (zip (firsts fs) (firsts ts)) (Ok (givens parts))

pub given_in : (fs ts : Pairs) (parts : List AuditedPart) → EachPart fs ts parts → GivenIn fs ts parts
given_in [] ts parts all = subst (GivenIn [] ts) (sym (no_parts parts all)) refl
given_in (f ∷ fs) [] parts all = subst (GivenIn (f ∷ fs) []) (sym (no_parts parts all)) refl
given_in (f ∷ fs) (t ∷ ts) parts all =
    let p = first_part fs ts f t parts all in
    subst (GivenIn (f ∷ fs) (t ∷ ts)) (sym p.same)
    (Passes p.part.given (part_is f.0 t.0 f.1 t.1 p.part p.is).is_given
    (Passes (givens p.rest) (given_in fs ts p.rest p.later) refl))

-- ---- audited parts
pub are_given : (parts : List AuditedPart) → AreAudited parts → AreGiven (givens parts)
are_given [] are = tt
are_given (p ∷ parts) are = ((are.0.0, are.0.2.is_given), are_given parts are.1)

pub are_sound : (parts : List AuditedPart) → AreAudited parts → AreSound (givens parts) (graphs parts)
are_sound [] are = tt
are_sound (p ∷ parts) are = (are.0.2.sound, are_sound parts are.1)

pub proper_parts : (parts : List AuditedPart) → AreAudited parts → parts_of (givens parts) (Ok (graphs parts))
proper_parts [] are = refl
proper_parts (p ∷ parts) are =
    Passes p.coded are.0.2.sound (Passes (graphs parts) (proper_parts parts are.1) refl)

proper_at : (given : List Sg) (coded : List CodedGraph) → AreSound given coded → (i : ℕ) → i < length coded
    → IsProper (graph_of coded i)
proper_at given [] sound i below = absurd (omega (arith, below))
proper_at [] (c ∷ cs) sound i below = absurd sound
proper_at (g ∷ gs) (c ∷ cs) sound zero below =
    subst (λ (h : StateGraph). IsProper h) (sym sound.0.same_graph) sound.0.proper
proper_at (g ∷ gs) (c ∷ cs) sound (suc i) below = proper_at gs cs sound.1 i (omega (arith, below))

pub are_netlists : (parts : List AuditedPart) → AreAudited parts → AreNetlists (map (λ p. p.netlist) parts)
are_netlists [] are = tt
are_netlists (p ∷ parts) are =
    let is = are.0.2 in
    (subst IsNetlist (sym is.netlist_is) (read_is_netlist are.0.1 is.no_fault), are_netlists parts are.1)

-- ---- each tuple shows a state of each part
tuple_shows : (given : List Sg) (xs : List ℕ) (k : ℕ) (g : Sg) → IsTupleOf given xs → k < length given
    → g ≡ get_or given k g → (k < length xs) × (slice_index xs k < length g.states)
tuple_shows [] xs k g is below at = absurd (omega (arith, below))
tuple_shows (h ∷ given) [] k g is below at = absurd is
tuple_shows (h ∷ given) (x ∷ xs) zero g is below at =
    (omega arith, subst (λ (y : Sg). x < length y.states) (sym at) is.0)
tuple_shows (h ∷ given) (x ∷ xs) (suc k) g is below at =
    let rest = tuple_shows given xs k g is.1 (omega (arith, below)) at in
    ((let inside = rest.0 in omega (arith, inside)), rest.1)

tuples_show : (given : List Sg) (tuples : List (List ℕ)) (k : ℕ) (g : Sg) → AreTuplesOf given tuples → k < length given
    → g ≡ get_or given k g → AreShown g.states k tuples
tuples_show given [] k g are below at = tt
tuples_show given (xs ∷ tuples) k g are below at =
    let one = tuple_shows given xs k g are.0 below at in
    (one.0, one.1, tuples_show given tuples k g are.1 below at)

-- ---- their composed graph
module _ (given : List Sg) (coded : List CodedGraph) (are : AreGiven given) (sound : AreSound given coded) where
  pub composed_proper : (tuples : List (List ℕ)) (h : StateGraph) → IsSideBySide coded tuples h → IsProper h
  composed_proper tuples h is =
      is_proper (length coded) (graph_of coded) (state_in tuples) h (proper_at given coded sound) is.composed is.free
      is.graph is.connected

  pub whole_proper : (c : ComposedSg) → IsComposedSg given coded c → HasResult (proper c.sg.graph c.sg.states)
  whole_proper c is =
      let good = composed_proper c.tuples c.sg.graph is.0 in
      let some = some_codes c.sg.graph is.0.graph is.0.connected good.deterministic good.consistent in
      (Ok some.0, record { coded_is = some.2; same_graph = some.1; proper = good })

  pub whole_writable : 0 < length given → (c : ComposedSg) → IsComposedSg given coded c → IsWritable c.sg
  whole_writable some c is =
      subst IsWritable (sym is.1) (composed_writable given coded are sound c.tuples c.sg.graph is.0 some)

  pub all_shown : (c : ComposedSg) → IsComposedSg given coded c → AreAllShown given c.tuples
  all_shown c is k g below at =
      tuples_show given c.tuples k g (composed_tuples given coded are sound c.tuples c.sg.graph is.0) below
      (sym (get_or_from_slice_get given k g g at))

pub whole_named : (given : List Sg) (coded : List CodedGraph) (c : ComposedSg) → IsComposedSg given coded c
    → IsNamed c.sg.graph c.sg.states
whole_named given coded c is = record {
  is_graph = is.0.graph;
  connected = is.0.connected;
  names = ap (λ (s : Sg). length s.states) is.1 ∙ length-map c.tuples (tuple_name given) ∙ sym is.0.states;
}

-- ---- no given signal is inserted
given_kind : (kind : SigKind) → kind ≢ Inserted → is_inserted kind ≡ false
given_kind Input other = refl
given_kind Output other = refl
given_kind Internal other = refl
given_kind Inserted other = absurd (other refl)

pub none_inserted : (sg : Sg) (coded : CodedGraph) → IsWritable sg → IsSound sg.graph coded
    → AllGiven coded.graph.signals
none_inserted sg coded writable sound =
    subst (λ (h : StateGraph). AllGiven h.signals) (sym sound.same_graph) (λ a x at.
    given_kind x.kind (λ is. writable.given a x (slice_get_within sg.graph.signals a x at)
    (ap (λ (y : Signal). y.kind) (get_or_from_slice_get sg.graph.signals a x x at) ∙ is)))

pub begins_sound : (graph : StateGraph) (coded : CodedGraph) → IsSound graph coded
    → IsSoundCurrent (given_history coded)
begins_sound graph coded sound = record {
  coded = sound.coded_is;
  proper = subst (λ (h : StateGraph). IsProper h) (sym sound.same_graph) sound.proper;
}
