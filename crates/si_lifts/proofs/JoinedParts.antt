-- Where all insertions of all parts are told, the netlist of all gates is built for the composed graph.
use Rattle.std.proofs.Common.{◌≡◌, ℕ, ◌<◌, ◌+◌, List, [], ◌∷◌, ◌++◌, drop, length, slice_get, slice_index_or, Some}
use Rattle.std.proofs.Common.{◌≢◌, refl, sym, ap, subst, ◌∙◌, arith, false, slice_index, zero, suc}
use Rattle.std.proofs.lemmas.List.{length-map}
use Rattle.std.proofs.lemmas.Option.{slice_get_within}
use Rattle.si_base.specs.Bits.{bit}
use Rattle.si_base.specs.declared.graph.Signal.{Signal}
use Rattle.si_base.specs.declared.graph.SigKind.TheVariants.{Inserted, Output}
use Rattle.si_base.specs.Codes.{CodedGraph, code, next_value}
use Rattle.si_base.specs.Graph.{IsNonInput, name_of}
use Rattle.si_base.specs.Netlist.{Netlist, gate_value, value_if_there}
use Rattle.si_base.specs.RightGates.{GivesNextValues}
use Rattle.si_base.specs.System.{is_inserted}
use Rattle.si_circuit.specs.Gates.{netlist_of}
use Rattle.si_insert.specs.Built.{IsBuilt}
use Rattle.si_insert.specs.Lineage.{Current, History, Keeps, given_history}
use Rattle.si_insert.proofs.InsertionKeeps.{keeps}
use Rattle.si_audit.proofs.OneAudit.{spelled_all, spelled_first}
use Rattle.si_audit.proofs.StateWords.{HasStateNames}
use Rattle.si_compose.specs.Joined.{AreDistinct, AreJoined, Drives, IsSame}
use Rattle.si_compose.specs.JoinedNetlist.{IsJoined, Shows}
use Rattle.si_compose.specs.Renamed.{HasGatesOf}
use Rattle.si_compose.proofs.GluedCodes.{gives_next_values}
use Rattle.si_compose.proofs.SameSignals.{some_same}
use Rattle.si_joins.specs.Gates.{all_places, joined_netlist}
use Rattle.si_joins.specs.Gates as gates
use Rattle.si_joins.specs.Loops.Audited.{AreAudited}
use Rattle.si_joins.proofs.PartFacts.{are_netlists}
use Rattle.si_joins.proofs.PlaceLemmas.{as_many_places}
use Rattle.si_works.specs.Audited.{AuditedPart}
use Rattle.si_lifts.specs.Parts.{inserts_before, named_part, named_signals, part_at, to_at}
use Rattle.si_lifts.proofs.AuditedParts.{IsPartAt, as_many, coded_at, count, facts, final_at, netlists}
use Rattle.si_lifts.proofs.Told.{IsTold, behind}
use Rattle.si_lifts.proofs.LiftedParts.{IsAfterPart}
use Rattle.si_lifts.proofs.NamedParts.{same_gate_place}
use Rattle.si_lifts.proofs.PlacedGates.{has_gates, netlists_joined}
use Rattle.si_lifts.proofs.PlacedSignals.{HasName, alike_rest, begins_as, given_named, named_are, places_of_part}
use Rattle.si_lifts.proofs.PlacedSignals.{places_within}
use Rattle.si_lifts.proofs.RenamedGraphs.{AreAlike, same_non_input}
use Rattle.si_lifts.proofs.Standing.{Stands, as_named, named_within}

in_front : (xs ys : List Signal) (k : ℕ) (x : Signal) → slice_get xs k ≡ Some x → slice_get (xs ++ ys) k ≡ Some x
in_front [] ys k x at = cc
in_front (y ∷ xs) ys zero x at = at
in_front (y ∷ xs) ys (suc k) x at = in_front xs ys k x at

-- joined signals are told part by part
joined_same : (size : ℕ) (f g : ℕ → List Signal) (whole : List Signal) → ((i : ℕ) → i < size → f i ≡ g i)
    → AreJoined size f whole → AreJoined size g whole
joined_same size f g whole same joined = record {
  distinct = joined.distinct;
  part_distinct = λ i inside. subst AreDistinct (same i inside) (joined.part_distinct i inside);
  each = λ i z inside below. subst (λ (xs : List Signal). z < length xs → (k : ℕ) × IsSame whole k xs z) (same i inside)
      (joined.each i z inside) below;
  no_other = λ k below. (let found = joined.no_other k below in (
    found.0,
    found.1,
    found.2,
    subst (λ (xs : List Signal). IsSame whole k xs found.1) (same found.0 found.2)
        found.3,
  ));
  kind = λ i k z inside. subst (λ (xs : List Signal). (d : Drives whole k xs z) → d.0.signal.kind ≡ d.0.own.kind)
      (same i inside) (joined.kind i k z inside);
  driven = λ k x at is. (let found = joined.driven k x at is in (
    found.0,
    found.1,
    found.2,
    subst (λ (xs : List Signal). Drives whole k xs found.1) (same found.0 found.2) found.3,
  ));
  one_driver = λ i j k y z i_in j_in one other. joined.one_driver i j k y z i_in j_in
      (subst (λ (xs : List Signal). Drives whole k xs y) (sym (same i i_in)) one)
      (subst (λ (xs : List Signal). Drives whole k xs z) (sym (same j j_in)) other);
  private = λ i j k y z i_in j_in.
      subst (λ (xs : List Signal). (d : Drives whole k xs y) → d.0.own.kind ≢ Output → IsSame whole k (g j) z → i ≡ j)
      (same i i_in)
      (λ d hidden other. joined.private i j k y z i_in j_in d hidden
      (subst (λ (xs : List Signal). IsSame whole k xs z) (sym (same j j_in)) other));
}

module _ (parts : List AuditedPart) (are : AreAudited parts) (tuples : List (List ℕ)) (start : CodedGraph) (l : History)
    (after : IsAfterPart (count parts) tuples start (netlists parts) (coded_at parts) (final_at parts are) l
    (count parts)) (model : List ℕ) (states : List (List ℕ)) where
  abbrev stands : Stands (count parts) tuples l.current after.signals after.parts after.at
  stands = after.before.stands

  abbrev whole : List Signal
  whole = l.current.coded.graph.signals

  abbrev next : ℕ
  next = length l.given.graph.signals

  abbrev places : List (List ℕ)
  places = all_places whole next (netlists parts)

  abbrev m : Netlist
  m = joined_netlist model states (netlists parts) l

  abbrev named : ℕ → Netlist
  named = named_part whole places (netlists parts)

  netlists_many : length (netlists parts) ≡ count parts
  netlists_many = length-map parts (λ p. p.netlist)
      ∙ sym (as_many parts)

  module _ (i : ℕ) (inside : i < count parts) where
    part : IsPartAt parts are i
    part = facts parts are i inside

    told : IsTold l (after.signals i) (inserts_before (netlists parts) i) (final_at parts are i)
    told = (after.before.done i inside inside).1

    part_now : after.parts i ≡ (final_at parts are i).current
    part_now = (after.before.done i inside inside).0

    spelled : HasStateNames part.part_is.given.states (final_at parts are i)
    spelled = spelled_all part.part_is.given.states (given_history (coded_at parts i)) part.part_is.netlist.inserts
        (final_at parts are i)
        (spelled_first part.part_is.given.states (coded_at parts i) part.part_is.netlist part.for_graph.can)
        part.for_graph.taken

    kept : Keeps (final_at parts are i).given (final_at parts are i).current
    kept = keeps (final_at parts are i).given (final_at parts are i).trace (final_at parts are i).current
        spelled.lineage

    abbrev given : List Signal
    given = (final_at parts are i).given.graph.signals

    abbrev own : List Signal
    own = (final_at parts are i).current.coded.graph.signals

    abbrev inserted : List Signal
    inserted = drop (length given) own

    own_is : own ≡ given ++ inserted
    own_is = begins_as given own kept.given_signals

    netlist_signals : (part_at (netlists parts) i).signals ≡ own
    netlist_signals = ap (λ (n : Netlist). n.signals) part.netlist_is ∙ part.for_graph.built.signals

    alike_own : AreAlike (after.signals i) own
    alike_own = subst (λ (v : Current). AreAlike (after.signals i) v.coded.graph.signals) part_now
        (stands.alike i inside)

    alike : AreAlike told.mine inserted
    alike = alike_rest given told.mine inserted (subst (λ (xs : List Signal). AreAlike xs (given ++ inserted))
        told.signals_are (subst (AreAlike (after.signals i)) own_is alike_own))

    all_inserted : (z : ℕ) (x : Signal) → slice_get inserted z ≡ Some x → x.kind ≡ Inserted
    all_inserted z x at = kept.new_signals (length given + z) x (omega arith)
        (subst (λ (xs : List Signal). slice_get xs (length given + z) ≡ Some x) (sym own_is)
        (behind given inserted z x at))

    stand : (z : ℕ) (x : Signal) → slice_get told.mine z ≡ Some x
        → slice_get whole (next + inserts_before (netlists parts) i + z) ≡ Some x
    stand z x at = subst (λ (k : ℕ). slice_get whole k ≡ Some x) (omega arith) (told.inserted z x at)

    found : (z : ℕ) (x : Signal) → slice_get given z ≡ Some x → (is_inserted x.kind ≡ false) × HasName whole x.name
    found z x at =
        let there : slice_get (after.signals i) z ≡ Some x =
        subst (λ (xs : List Signal). slice_get xs z ≡ Some x) (sym told.signals_are) (in_front given told.mine z x at)
        in
        let same = stands.composed.signals.each i z inside (slice_get_within (after.signals i) z x there) in
        let one : same.1.own ≡ x = some_same same.1.own x (sym same.1.own_is ∙ there) in (
          spelled.lineage.none_inserted z x at,
          (same.0, same.1.signal, same.1.signal_is, sym same.1.name ∙ ap (λ (y : Signal). y.name) one),
        )

    places_are : slice_index_or places i []
        ≡ gates.places whole (next + inserts_before (netlists parts) i) (given ++ inserted)
    places_are = places_of_part whole next (netlists parts) i (omega (arith, inside, netlists_many))
        ∙ ap (gates.places whole (next + inserts_before (netlists parts) i)) (netlist_signals ∙ own_is)

    -- the part's signals, by the names at its places
    pub signals_named : (named i).signals ≡ after.signals i
    signals_named =
        ap (λ (to : List ℕ). named_signals whole to (part_at (netlists parts) i).signals) places_are
        ∙ ap (named_signals whole (gates.places whole (next + inserts_before (netlists parts) i) (given ++ inserted)))
        (netlist_signals ∙ own_is)
        ∙ named_are whole (next + inserts_before (netlists parts) i) inserted told.mine alike all_inserted stand given
        found
        ∙ sym told.signals_are

    pub place_within : (z : ℕ) → z < length (part_at (netlists parts) i).signals → to_at places i z < length whole
    place_within z below = subst (λ (to : List ℕ). slice_index to z < length whole) (sym places_are)
        (places_within whole (next + inserts_before (netlists parts) i) inserted told.mine alike all_inserted stand
        given
        found z (subst (λ (xs : List Signal). z < length xs) (netlist_signals ∙ own_is) below))

    own_name : (z : ℕ) (x : Signal) → slice_get (part_at (netlists parts) i).signals z ≡ Some x
        → is_inserted x.kind ≡ false → name_of whole (to_at places i z) ≡ x.name
    own_name z x at old = subst (λ (to : List ℕ). name_of whole (slice_index to z) ≡ x.name) (sym places_are)
        (given_named whole (next + inserts_before (netlists parts) i) inserted told.mine alike all_inserted stand given
        found
        z x (subst (λ (xs : List Signal). slice_get xs z ≡ Some x) (netlist_signals ∙ own_is) at) old)

    placed : length (slice_index_or places i []) ≡ length (part_at (netlists parts) i).signals
    placed = ap (λ (to : List ℕ). length to) places_are
        ∙ as_many_places whole (next + inserts_before (netlists parts) i) (given ++ inserted)
        ∙ ap (λ (xs : List Signal). length xs) (sym (netlist_signals ∙ own_is))

    -- ---- its gates
    same_gate : (z values : ℕ) → gate_value (named i) z values ≡ gate_value part.part_is.netlist z values
    same_gate z values =
        ap (λ (k : ℕ). value_if_there (slice_get (part_at (netlists parts) i).gates k) z values)
        (same_gate_place whole (slice_index_or places i []) (part_at (netlists parts) i).signals z placed)
        ∙ ap (λ (n : Netlist). gate_value n z values) part.netlist_is

    own_driven : (z : ℕ) → IsNonInput (named i).signals z → IsNonInput part.part_is.netlist.signals z
    own_driven z driven = subst (λ (xs : List Signal). IsNonInput xs z) (sym part.for_graph.built.signals)
        (same_non_input (after.signals i) (final_at parts are i).current.coded.graph alike_own z
        (subst (λ (xs : List Signal). IsNonInput xs z) signals_named driven))

    own_values : GivesNextValues (as_named after.signals after.parts i) (named i)
    own_values = record {
      gates = λ s z within driven. (
          let now : CodedGraph = (final_at parts are i).current.coded in
          let here = subst (λ (v : Current). s < v.coded.graph.states) part_now within in
          same_gate z (code (after.parts i).coded s)
          ∙ ap (λ (v : Current). gate_value part.part_is.netlist z (code v.coded s)) part_now
          ∙ part.for_graph.built.gives.gates s z here (own_driven z driven)
          ∙ ap (λ (v : Current). next_value v.coded s z) (sym part_now));
    }

    starts_so : Shows m (named i) m.start (named i).start
    unfolding netlist_of
    starts_so k z same =
        let s = l.current.coded.graph.start in
        let is : IsSame whole k (after.signals i) z =
        subst (λ (xs : List Signal). IsSame whole k xs z) signals_named same in
        ap (λ (n : Netlist). bit n.start z) part.netlist_is
        ∙ ap (λ (x : ℕ). bit x z) part.for_graph.built.start
        ∙ ap (λ (v : Current). bit (code v.coded v.coded.graph.start) z) (sym part_now)
        ∙ ap (λ (t : ℕ). bit (code (after.parts i).coded t) z) (sym (stands.composed.start i inside))
        ∙ sym (stands.glued i k z s inside stands.coded.graph_is.starts is)

  -- ---- all gates
  joined_signals : AreJoined (length (netlists parts)) (λ i. (named i).signals) whole
  joined_signals = subst (λ (n : ℕ). AreJoined n (λ i. (named i).signals) whole) (sym netlists_many)
      (joined_same (count parts) after.signals (λ i. (named i).signals) whole (λ i inside. sym (signals_named i inside))
      stands.composed.signals)

  within : (i z : ℕ) → i < length (netlists parts) → z < length (part_at (netlists parts) i).signals
      → to_at places i z < length whole
  within i z inside below = place_within i (omega (arith, inside, netlists_many)) z below

  pub own_names : (i z : ℕ) (x : Signal) → i < length (netlists parts)
      → slice_get (part_at (netlists parts) i).signals z ≡ Some x → is_inserted x.kind ≡ false
      → name_of whole (to_at places i z) ≡ x.name
  own_names i z x inside = own_name i (omega (arith, inside, netlists_many)) z x

  pub gates_are : HasGatesOf (length (netlists parts)) named (to_at places) m
  gates_are = has_gates model states (netlists parts) l (are_netlists parts are) after.before.named within
      joined_signals

  pub joined_are : IsJoined (length (netlists parts)) named m
  joined_are = netlists_joined model states (netlists parts) l (are_netlists parts are) after.before.named within
      joined_signals (λ i inside. starts_so i (omega (arith, inside, netlists_many)))

  gives : GivesNextValues l.current.coded m
  unfolding netlist_of
  gives = gives_next_values (count parts) (as_named after.signals after.parts) named after.at l.current.coded m
      stands.composed
      stands.free stands.coded stands.glued (λ i inside. signals_named i inside) refl
      (subst (λ (n : ℕ). IsJoined n named m) netlists_many joined_are)
      (λ i s inside below. named_within (count parts) tuples l.current after.signals after.parts after.at stands i s
      inside
      below)
      (λ i inside. own_values i inside)

  pub is_built : IsBuilt l.current m
  unfolding netlist_of
  is_built = record { signals = refl; start = refl; gives = gives }
