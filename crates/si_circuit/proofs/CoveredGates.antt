-- Gates that are covers give the next values, and the chosen gates are such.
use Rattle.std.proofs.Common.{◌≡◌, ℕ, zero, suc, ◌+◌, ◌<◌, not, Bool, true, false, List, [], ◌∷◌, ◌++◌, length, refl}
use Rattle.std.proofs.Common.{sym, ap, ◌∙◌, arith, inl, inr, slice_get, Some, Option, one-add, zero-add, if◌then◌else◌}
use Rattle.std.proofs.lemmas.Bool.{cases_Bool, or_left, or_right, and_from, not_from_false}
use Rattle.si_base.specs.declared.graph.Signal.{Signal}
use Rattle.si_base.specs.Behaviour.{Implements}
use Rattle.si_base.specs.Bits.{bit}
use Rattle.si_base.specs.Graph.{enables, rise, fall, is_driven, IsNonInput}
use Rattle.si_base.specs.Codes.{CodedGraph, IsCoded, code, next_value}
use Rattle.si_base.specs.Proper.{HasNoConflict, IsProper}
use Rattle.si_base.specs.Netlist.{Sum, Gate, SumGate, Gc, Cell, Insertion, Netlist, gate_place, sum_value, value_of}
use Rattle.si_base.specs.Netlist.{value_if_there}
use Rattle.si_base.specs.RightGates.{GivesNextValues, HasNoneInserted, IsRight}
use Rattle.si_base.proofs.GivenGraphUnique.{contains_from_in}
use Rattle.si_insert.proofs.LineageChain.{right_implement}
use Rattle.si_cover.specs.declared.kind.SumKind.{SumKind}
use Rattle.si_cover.specs.declared.kind.SumKind.TheVariants.{Next, Set, Reset}
use Rattle.si_cover.specs.Demands.{is_required, is_forbidden, demand}
use Rattle.si_cube.specs.Covers.{IsCover}
use Rattle.si_cover.proofs.DemandLemmas.{code_in, chosen_is_prime_cover}
use Rattle.si_circuit.specs.declared.style.Style.{Style}
use Rattle.si_circuit.specs.declared.style.Style.TheVariants.{Complex, GeneralisedC}
use Rattle.si_circuit.specs.Covered.{HasGates, IsCoverGate, HasCoverGates, IsPrimeGate, HasPrimeGates}
use Rattle.si_circuit.specs.Gates.{gate_of, gates_from, netlist_of, chosen_netlist}

-- ---- the value of a cover at the code of a state
covered : (kind : SumKind) (c : CodedGraph) (z s : ℕ) (sum : Sum) → IsCover (demand kind c z) sum → s < length c.codes
    → is_required kind c z s ≡ true → sum_value (code c s) sum ≡ true
covered kind c z s sum cover within holds =
    cover.covers (code c s) (contains_from_in _ (code c s) (code_in c (is_required kind c z) s within holds))

avoided : (kind : SumKind) (c : CodedGraph) (z s : ℕ) (sum : Sum) → IsCover (demand kind c z) sum → s < length c.codes
    → is_forbidden kind c z s ≡ true → sum_value (code c s) sum ≡ false
avoided kind c z s sum cover within holds =
    cover.avoids (code c s) (contains_from_in _ (code c s) (code_in c (is_forbidden kind c z) s within holds))

sum_gives : (c : CodedGraph) (z s : ℕ) (sum : Sum) → IsCover (demand Next c z) sum → s < length c.codes
    → sum_value (code c s) sum ≡ next_value c s z
sum_gives c z s sum cover within = elim (cases_Bool (next_value c s z)) [
  | inl high ↦ covered Next c z s sum cover within high ∙ sym high
  | inr low ↦ avoided Next c z s sum cover within (not_from_false _ low) ∙ sym low
]

-- where neither event is enabled, a generalised C-element keeps the value
keeps : (c : CodedGraph) (z s : ℕ) (set reset : Sum) → IsCover (demand Set c z) set → IsCover (demand Reset c z) reset
    → s < length c.codes → enables c.graph s (rise z) ≡ false → enables c.graph s (fall z) ≡ false
    → value_of (Gc set reset) z (code c s) ≡ next_value c s z
keeps c z s set reset sets resets within idle stays = elim (cases_Bool (bit (code c s) z)) [
  | inl high ↦ (
      let same : not (enables c.graph s (fall z)) ≡ true = not_from_false _ stays in
      let kept = avoided Reset c z s reset resets within (or_left _ _ (and_from _ _ high same)) in
      or_right _ _ (and_from _ _ high (not_from_false _ kept)) ∙ sym (or_right _ _ (and_from _ _ high same)))
  | inr low ↦ (
      let still : not (enables c.graph s (rise z)) ≡ true = not_from_false _ idle in
      let off = avoided Set c z s set sets within (or_left _ _ (and_from _ _ (not_from_false _ low) still)) in
      rw (off, low, idle) refl)
]

gc_gives : (c : CodedGraph) (z s : ℕ) (set reset : Sum) → IsCover (demand Set c z) set
    → IsCover (demand Reset c z) reset → s < length c.codes → value_of (Gc set reset) z (code c s) ≡ next_value c s z
gc_gives c z s set reset sets resets within = elim (cases_Bool (enables c.graph s (rise z))) [
  | inl rises ↦ (let on = covered Set c z s set sets within rises in rw (on, rises) refl)
  | inr idle ↦ elim (cases_Bool (enables c.graph s (fall z))) [
    | inl falls ↦ (
        let off = avoided Set c z s set sets within (or_right _ _ falls) in
        let gone = covered Reset c z s reset resets within falls in
        rw (off, gone, idle, falls) refl)
    | inr stays ↦ keeps c z s set reset sets resets within idle stays
  ]
]

gate_gives : (c : CodedGraph) (z s : ℕ) (gate : Gate) → IsCoverGate c z gate → s < length c.codes
    → value_of gate z (code c s) ≡ next_value c s z
gate_gives c z s (SumGate sum) covers within = sum_gives c z s sum covers within
gate_gives c z s (Gc set reset) covers within = gc_gives c z s set reset covers.0 covers.1 within
gate_gives c z s (Cell name literals sum) covers within = absurd covers

-- a netlist of such gates
pub cover_gates_give : (c : CodedGraph) (n : Netlist) → IsCoded c → HasCoverGates c n → GivesNextValues c n
cover_gates_give c n is covers = record {
  gates = λ s z within non_input.
      (let found = covers z non_input in
      ap (λ (g : Option Gate). value_if_there g z (code c s)) found.1
      ∙ gate_gives c z s found.0 found.2 (omega (arith, is.count)));
}

-- ---- the gate of a signal
past : (b : Bool) (g : Gate) (gs : List Gate) (k : ℕ)
    → slice_get ((if b then g ∷ [] else []) ++ gs) ((if b then 1 else 0) + k) ≡ slice_get gs k
past true g gs k = rw one-add refl
past false g gs k = rw zero-add refl

gate_at : (gate : ℕ → Gate) (i : ℕ) (xs : List Signal) (z : ℕ) (x : Signal) → slice_get xs z ≡ Some x
    → is_driven x.kind ≡ true → slice_get (gates_from gate i xs) (gate_place xs z) ≡ Some (gate (i + z))
gate_at gate i [] z x here driven = cc
gate_at gate i (y ∷ xs) zero x here driven =
    let same : y ≡ x = cc in
    let yes_y : is_driven y.kind ≡ true = rw same driven in
    let at : i + 0 ≡ i = omega arith in
    rw (yes_y, at) refl
gate_at gate i (y ∷ xs) (suc z) x here driven =
    let at : i + 1 + z ≡ i + suc z = omega arith in
    let rest = gate_at gate (i + 1) xs z x here driven in
    past (is_driven y.kind) (gate i) (gates_from gate (i + 1) xs) (gate_place xs z) ∙ rest
    ∙ ap (λ (n : ℕ). Some (gate n)) at

pub has_gates : (serves : ℕ → Gate → Type 0) (gate : ℕ → Gate) (model : List ℕ) (inserts : List Insertion)
    (c : CodedGraph)
    → ((z : ℕ) → IsNonInput c.graph.signals z → serves z (gate z)) → HasGates serves (netlist_of gate model inserts c)
unfolding netlist_of
has_gates serves gate model inserts c serve z non_input =
    let at : 0 + z ≡ z = omega arith in
    let here = gate_at gate 0 c.graph.signals z non_input.0 non_input.1 non_input.2 in
    (gate z, here ∙ ap (λ (n : ℕ). Some (gate n)) at, serve z non_input)

-- ---- the chosen gates
gate_is_prime : (style : Style) (c : CodedGraph) (z : ℕ) → IsCoded c → HasNoConflict c → IsNonInput c.graph.signals z
    → IsPrimeGate c z (gate_of style c z)
gate_is_prime Complex c z is none non_input = chosen_is_prime_cover Next c z is none non_input
gate_is_prime GeneralisedC c z is none non_input =
    (chosen_is_prime_cover Set c z is none non_input, chosen_is_prime_cover Reset c z is none non_input)

prime_covers : (c : CodedGraph) (z : ℕ) (gate : Gate) → IsPrimeGate c z gate → IsCoverGate c z gate
prime_covers c z (SumGate sum) prime = prime.cover
prime_covers c z (Gc set reset) prime = (prime.0.cover, prime.1.cover)
prime_covers c z (Cell name literals sum) prime = prime

pub chosen_are_prime : (style : Style) (c : CodedGraph) (model : List ℕ) (inserts : List Insertion) → IsCoded c
    → HasNoConflict c → HasPrimeGates c (netlist_of (gate_of style c) model inserts c)
chosen_are_prime style c model inserts is none =
    has_gates (IsPrimeGate c) (gate_of style c) model inserts c (λ z. gate_is_prime style c z is none)

pub chosen_give : (style : Style) (c : CodedGraph) (model : List ℕ) (inserts : List Insertion) → IsCoded c
    → HasNoConflict c → GivesNextValues c (netlist_of (gate_of style c) model inserts c)
chosen_give style c model inserts is none =
    let covers : HasCoverGates c (netlist_of (gate_of style c) model inserts c) =
    has_gates (IsCoverGate c) (gate_of style c) model inserts c
    (λ z non_input. prime_covers c z (gate_of style c z) (gate_is_prime style c z is none non_input)) in
    cover_gates_give c (netlist_of (gate_of style c) model inserts c) is covers

pub chosen_are_right : (style : Style) (c : CodedGraph) (model : List ℕ) → IsCoded c → HasNoConflict c
    → HasNoneInserted (chosen_netlist style model c) → IsRight c (chosen_netlist style model c)
unfolding netlist_of
chosen_are_right style c model is none given = record {
  signals = refl;
  none_inserted = given;
  start = refl;
  gives = chosen_give style c model [] is none;
}

pub chosen_implement : (style : Style) (c : CodedGraph) (model : List ℕ) → IsCoded c → IsProper c.graph
    → HasNoConflict c → HasNoneInserted (chosen_netlist style model c)
    → Implements (chosen_netlist style model c) c.graph
chosen_implement style c model is proper none given =
    right_implement c (chosen_netlist style model c) is proper (chosen_are_right style c model is none given)
