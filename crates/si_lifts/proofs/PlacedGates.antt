-- The netlist that is made for the whole is its parts' netlists, joined.
use Rattle.std.proofs.Common.{◌≡◌, ℕ, zero, suc, ◌<◌, List, [], ◌∷◌, Some, refl, sym, ap, subst, ◌∙◌, arith}
use Rattle.std.proofs.Common.{length, slice_get, slice_index, slice_index_or}
use Rattle.std.proofs.lemmas.List.{get_or_default}
use Rattle.std.proofs.lemmas.Option.{slice_get_within, slice_get-get_or}
use Rattle.si_base.specs.declared.graph.Signal.{Signal}
use Rattle.si_base.specs.Codes.{CodedGraph}
use Rattle.si_base.specs.Graph.{IsNonInput, is_driven}
use Rattle.si_base.specs.Netlist.{Gate, Netlist, SumGate, gate_place}
use Rattle.si_base.specs.WellFormed.{IsGate, IsNetlist}
use Rattle.si_circuit.specs.Gates.{netlist_of}
use Rattle.si_circuit.specs.Spelling.{insertions_of}
use Rattle.si_circuit.proofs.CoveredGates.{has_gates as gates_there}
use Rattle.si_compose.specs.Joined.{AreJoined, Drives, IsSame}
use Rattle.si_compose.specs.JoinedNetlist.{IsJoined, Shows}
use Rattle.si_compose.specs.Renamed.{HasGatesOf, IsRenamedGate}
use Rattle.si_compose.proofs.RenamedGates.{renamed_are_joined}
use Rattle.si_compose.proofs.SameSignals.{one_own, one_whole}
use Rattle.si_insert.specs.Lineage.{History}
use Rattle.si_joins.specs.Gates.{all_places, driven_at, joined_gate, joined_netlist, own_gate, renamed_gate}
use Rattle.si_joins.specs.Loops.Parts.{AreNamed, AreNetlists, ArePlaced}
use Rattle.si_joins.proofs.PlaceLemmas.{are_placed, placed_at, placed_many}
use Rattle.si_netlist.proofs.GateLemmas.{gate_place-lt}
use Rattle.si_lifts.specs.Parts.{named_part, no_netlist, part_at, to_at}
use Rattle.si_lifts.proofs.DriverGates.{finds_driven, gate_of_driver, stands_from}
use Rattle.si_lifts.proofs.NamedParts.{as_many, name_there, named_as, named_from, named_is_netlist, named_there}
use Rattle.si_lifts.proofs.NamedParts.{same_gate_place, signal_there}
use Rattle.si_lifts.proofs.RenamedForms.{form_is}

part_is : (parts : List Netlist) (i : ℕ) → AreNetlists parts → i < length parts → IsNetlist (part_at parts i)
part_is [] i are inside = absurd (omega (arith, inside))
part_is (n ∷ parts) zero are inside = are.0
part_is (n ∷ parts) (suc i) are inside = part_is parts i are.1 (omega (arith, inside))

-- ---- parts that stand at places of the whole
module _ (whole : List Signal) (parts : List Netlist) (tos : List (List ℕ)) (placed : ArePlaced parts tos)
    (netlists : AreNetlists parts)
    (within : (i z : ℕ) → i < length parts → z < length (part_at parts i).signals → to_at tos i z < length whole)
    (joined : AreJoined (length parts) (λ i. (named_part whole tos parts i).signals) whole) where
  abbrev part : ℕ → Netlist
  part i = part_at parts i

  abbrev to_of : ℕ → List ℕ
  to_of i = slice_index_or tos i []

  abbrev seen : ℕ → List Signal
  seen i = (named_part whole tos parts i).signals

  many : length tos ≡ length parts
  many = placed_many parts tos placed

  size : (i : ℕ) → i < length parts → length (to_of i) ≡ length (part i).signals
  size i inside =
      placed_at parts tos i (part i) (to_of i) placed inside (get_or_default parts i no_netlist (part i) inside)
      (get_or_default tos i [] (to_of i) (omega (arith, inside, many)))

  -- a signal of a part has its name at its place
  abbrev same_at : (i z : ℕ) (x : Signal) → i < length parts → slice_get (part i).signals z ≡ Some x
      → IsSame whole (to_at tos i z) (seen i) z
  same_at i z x inside at =
      let y = signal_there whole (to_at tos i z) (within i z inside (slice_get_within (part i).signals z x at)) in
      record {
        signal = y.0;
        own = named_as whole (to_at tos i z) x;
        signal_is = y.1;
        own_is = named_there whole (to_of i) (part i).signals z x (size i inside) at;
        name = name_there whole (to_at tos i z) y.0 y.1;
      }

  same_below : (i z : ℕ) → i < length parts → z < length (part i).signals → IsSame whole (to_at tos i z) (seen i) z
  same_below i z inside below =
      let x = signal_there (part i).signals z below in
      same_at i z x.0 inside x.1

  place_is : (i k z : ℕ) → i < length parts → IsSame whole k (seen i) z → to_at tos i z ≡ k
  place_is i k z inside same =
      let below = slice_get_within (seen i) z same.own same.own_is in
      let own_size = as_many whole (to_of i) (part i).signals (size i inside) in
      one_whole whole (seen i) (to_at tos i z) k z joined.distinct
      (same_below i z inside (omega (arith, below, own_size))) same

  -- different signals of a part stand at different places
  apart : (i : ℕ) → i < length parts → (y z : ℕ) → y < length (part i).signals → z < length (part i).signals
      → slice_index (to_of i) y ≡ slice_index (to_of i) z → y ≡ z
  apart i inside y z first second places =
      one_own whole (seen i) (to_at tos i z) y z (joined.part_distinct i inside)
      (subst (λ (k : ℕ). IsSame whole k (seen i) y) places (same_below i y inside first)) (same_below i z inside second)

  -- what is found to stand at k is driven by the part
  drives_from : (i k y : ℕ) → i < length parts → driven_at k 0 (part i).signals (to_of i) ≡ Some y
      → Drives whole k (seen i) y
  drives_from i k y inside found =
      let from = stands_from k 0 (part i).signals (to_of i) y found in
      let stands = from.2 in
      let at : from.0 ≡ y = (let same = from.1 in omega (arith, same)) in
      let drives : Drives whole (to_at tos i from.0) (seen i) from.0 =
      (same_at i from.0 stands.signal inside stands.there, stands.driven) in
      let there : Drives whole k (seen i) from.0 =
      subst (λ (p : ℕ). Drives whole p (seen i) from.0) stands.place drives in
      subst (λ (w : ℕ). Drives whole k (seen i) w) at there

  -- ---- a driven signal
  module _ (i k z : ℕ) (inside : i < length parts) (drives : Drives whole k (seen i) z) where
    own : (x : Signal) × (slice_get (part i).signals z ≡ Some x)
        × (drives.0.own ≡ named_as whole (slice_index (to_of i) z) x)
    own = named_from whole (to_of i) (part i).signals z drives.0.own drives.0.own_is

    own_driven : IsNonInput (part i).signals z
    own_driven = (own.0, own.1, sym (ap (λ (s : Signal). is_driven s.kind) own.2) ∙ drives.1)

    whole_driven : IsNonInput whole k
    whole_driven =
        (drives.0.signal, drives.0.signal_is, ap is_driven (joined.kind i k z inside drives) ∙ drives.1)

    found : driven_at k 0 (part i).signals (to_of i) ≡ Some z
    found =
        let below = slice_get_within (part i).signals z own.0 own.1 in
        let some = finds_driven k 0 (part i).signals (to_of i) z (omega (arith, below, size i inside)) (record {
          signal = own_driven.0;
          there = own_driven.1;
          driven = own_driven.2;
          place = place_is i k z inside drives.0;
        }) in
        let same : some.0 ≡ z =
        one_own whole (seen i) k some.0 z (joined.part_distinct i inside) (drives_from i k some.0 inside some.1).0
        drives.0 in
        some.1 ∙ ap (λ (y : ℕ). Some y) same

    gate_is : joined_gate (length whole) parts tos k ≡ renamed_gate (to_of i) (length whole) (own_gate (part i) z)
    gate_is = gate_of_driver (length whole) k parts tos i z many inside
        (λ j y below at. joined.one_driver j i k y z below inside (drives_from j k y below at) drives) found

    gate_below : gate_place (part i).signals z < length (part i).gates
    gate_below =
        let place = gate_place-lt (part i).signals z own_driven in
        let count = (part_is parts i netlists inside).gate_count in
        omega (arith, place, count)

    own_there : slice_get (part i).gates (gate_place (seen i) z) ≡ Some (own_gate (part i) z)
    own_there =
        ap (λ (p : ℕ). slice_get (part i).gates p)
        (same_gate_place whole (to_of i) (part i).signals z (size i inside))
        ∙ slice_get-get_or (part i).gates (gate_place (part i).signals z) (SumGate []) gate_below

    gate_renamed : (new : Gate) → new ≡ joined_gate (length whole) parts tos k
        → (gate : Gate) × (slice_get (part i).gates (gate_place (seen i) z) ≡ Some gate)
        × IsRenamedGate (to_at tos i) gate new
    gate_renamed new is =
        let well : IsGate (length (part i).signals) (own_gate (part i) z) =
        (part_is parts i netlists inside).gates (gate_place (part i).signals z) (SumGate []) gate_below in
        let renamed = form_is (to_of i) (length (part i).signals) (length whole) (λ y below. within i y inside below)
        (apart i inside) (own_gate (part i) z) well in
        let same : renamed_gate (to_of i) (length whole) (own_gate (part i) z) ≡ new = sym (is ∙ gate_is) in
        (own_gate (part i) z, own_there, subst (IsRenamedGate (to_at tos i) (own_gate (part i) z)) same renamed)

  -- ---- the parts are netlists
  named_is : AreNamed whole → (i : ℕ) → i < length parts → IsNetlist (named_part whole tos parts i)
  named_is spelled i inside =
      named_is_netlist whole (to_of i) (part i) (part_is parts i netlists inside) (size i inside) spelled
      (λ z below. within i z inside below) (joined.part_distinct i inside)

-- ---- the netlist that is made
module _ (model : List ℕ) (states : List (List ℕ)) (parts : List Netlist) (l : History) where
  abbrev c : CodedGraph
  c = l.current.coded

  abbrev whole : List Signal
  whole = l.current.coded.graph.signals

  abbrev places : List (List ℕ)
  places = all_places whole (length l.given.graph.signals) parts

  abbrev m : Netlist
  m = joined_netlist model states parts l

  abbrev named : ℕ → Netlist
  named = named_part whole places parts

  abbrev gate : ℕ → Gate
  gate k = joined_gate (length whole) parts places k

  placed : ArePlaced parts places
  placed = are_placed whole (length l.given.graph.signals) parts

  module _ (netlists : AreNetlists parts) (spelled : AreNamed whole)
      (within : (i z : ℕ) → i < length parts → z < length (part_at parts i).signals → to_at places i z < length whole)
      (joined : AreJoined (length parts) (λ i. (named i).signals) whole) where
    pub has_gates : HasGatesOf (length parts) named (to_at places) m
    unfolding netlist_of
    has_gates = record {
      places = λ i k z inside same. place_is whole parts places placed netlists within joined i k z inside same;
      gates = λ i k z inside drives. (
          let driven = whole_driven whole parts places placed netlists within joined i k z inside drives in
          let there = gates_there (λ z g. g ≡ gate z) gate model (insertions_of states l) c (λ z at. refl) k driven in
          let own = gate_renamed whole parts places placed netlists within joined i k z inside drives there.0 there.2 in
          (own.0, there.0, own.1, there.1, own.2));
    }

    pub part_is_netlist : (i : ℕ) → i < length parts → IsNetlist (named i)
    part_is_netlist i inside = named_is whole parts places placed netlists within joined spelled i inside

    pub netlists_joined : ((i : ℕ) → i < length parts → Shows m (named i) m.start (named i).start)
        → IsJoined (length parts) named m
    unfolding netlist_of
    netlists_joined start =
        renamed_are_joined (length parts) named (to_at places) m part_is_netlist joined start has_gates
