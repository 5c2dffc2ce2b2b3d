-- Each netlist has a structural text over a library, or one reason to have none.
use Rattle.std.proofs.Common.{◌≡◌, ◌≢◌, ◌⊎◌, ℕ, zero, suc, ◌+◌, ◌<◌, ◌≤◌, false, List, [], length, slice_get}
use Rattle.std.proofs.Common.{Some, get_or, refl, sym, ap, subst, ◌∙◌, arith, inl, inr, Result, IfErr, IsErrAnd}
use Rattle.std.proofs.lemmas.Bool.{cases_Bool, cases_lt, true≢false}
use Rattle.std.proofs.lemmas.Result.{err_from_is_err_and}
use Rattle.std.proofs.lemmas.Option.{get_or_from_slice_get, slice_get-get_or, slice_get_read, slice_get_within}
use Rattle.si_base.specs.declared.graph.Signal.{Signal}
use Rattle.si_base.specs.declared.graph.SigKind.TheVariants.{Input}
use Rattle.si_base.specs.Graph.{is_driven, IsNonInput}
use Rattle.si_base.specs.Limits.{code_width}
use Rattle.si_base.specs.Netlist.{Gate, SumGate, Gc, Cell as CellGate, Netlist, gate_place}
use Rattle.si_base.specs.WellFormed.{IsGate, IsNetlist}
use Rattle.si_netlist.proofs.GateLemmas.{gate_place-lt, within_signals}
use Rattle.si_cell.specs.Library.{Library, IsLibrary}
use Rattle.si_genlib.specs.Ports.{PortedLibrary}
use Rattle.si_structure.specs.Refusals.{AllPlaced, HasGate, IsFirstRefused, IsPlacedGate, IsStructured, Shows}
use Rattle.si_structure.specs.Refusals.{ShowsGates, ShowsOfGate, model_is_cell}
use Rattle.si_structure.specs.Loops.Deciding.{FitsCells}
use Rattle.si_structure.specs.declared.complements.Complements.{Complements}
use Rattle.si_structure.specs.declared.refusal.Unstructured.{Unstructured}
use Rattle.si_structure.specs.declared.refusal.Unstructured.TheVariants.{NoMemory, NoInstance, Complemented}
use Rattle.si_structure.specs.declared.refusal.Unstructured.TheVariants.{ModelIsCell}
use Rattle.si_structure.proofs.GateDecisions.{decided_gate}

-- ---- the gates of a netlist

pub gate_is : (n : Netlist) → IsNetlist n → (z : ℕ) (g : Gate) → HasGate n z g → IsGate (length n.signals) g
gate_is n is z g has =
    let place = gate_place n.signals z in
    subst (IsGate (length n.signals)) (get_or_from_slice_get n.gates place g g has.there)
    (is.gates place g (slice_get_within n.gates place g has.there))

-- signals of a netlist have bits in a code
pub fits_cells : (count : ℕ) (g : Gate) → count ≤ code_width → IsGate count g → FitsCells g
fits_cells count (SumGate sum) few is = tt
fits_cells count (Gc set reset) few is = tt
fits_cells count (CellGate name literals sum) few is = record {
  few = is.1;
  signals = λ k d within. let there = is.2 k d within in omega arith;
}

gate_there : (n : Netlist) → IsNetlist n → (z : ℕ) → IsNonInput n.signals z → (g : Gate) × HasGate n z g
gate_there n is z non_input =
    let before = gate_place-lt n.signals z non_input in
    let count = is.gate_count in
    let within : gate_place n.signals z < length n.gates = omega arith in (
      get_or n.gates (gate_place n.signals z) (SumGate []),
      record {
        driven = non_input;
        there = slice_get-get_or n.gates (gate_place n.signals z) (SumGate []) within;
      },
    )

pub same_gate : (n : Netlist) (z : ℕ) (g h : Gate) → HasGate n z g → HasGate n z h → g ≡ h
same_gate n z g h one other =
    let first = one.there in
    let second = other.there in
    cc

pub signal_at : (n : Netlist) (items : List Signal) (z : ℕ) (x : Signal) → items ≡ n.signals → z < length items
    → x ≡ get_or items z x → slice_get n.signals z ≡ Some x
signal_at n items z x same within is =
    ap (λ (xs : List Signal). slice_get xs z) (sym same) ∙ slice_get_read items (length items) z x refl within is

-- ---- gates before a signal

-- each gate before signal z is an instance by literals that are plain or get inverters
abbrev pub AreBefore : Library → Complements → Netlist → ℕ → Type 0
AreBefore library complements n z = (y : ℕ) (g : Gate) → y < z → HasGate n y g → IsPlacedGate library complements y g

pub none_before : (library : Library) (complements : Complements) (n : Netlist) → AreBefore library complements n 0
none_before library complements n y g before has = absurd (omega arith)

pub one_more_placed : (library : Library) (complements : Complements) (n : Netlist) (z : ℕ) (g : Gate)
    → AreBefore library complements n z → HasGate n z g
    → IsPlacedGate library complements z g → AreBefore library complements n (z + 1)
one_more_placed library complements n z g before has plain y h under there = elim (cases_lt y z) [
  | inl earlier ↦ before y h earlier there
  | inr later ↦ (
      let here : z ≡ y = omega arith in
      let there_too : HasGate n y g = subst (λ (x : ℕ). HasGate n x g) here has in
      subst (IsPlacedGate library complements y) (same_gate n y g h there_too there)
      (subst (λ (x : ℕ). IsPlacedGate library complements x g) here plain))
]

pub one_more_input : (library : Library) (complements : Complements) (n : Netlist) (z : ℕ) (x : Signal)
    → AreBefore library complements n z
    → slice_get n.signals z ≡ Some x → is_driven x.kind ≡ false → AreBefore library complements n (z + 1)
one_more_input library complements n z x before at input y h under there = elim (cases_lt y z) [
  | inl earlier ↦ before y h earlier there
  | inr later ↦ (
      let here : z ≡ y = omega arith in
      let driven : IsNonInput n.signals z = subst (IsNonInput n.signals) (sym here) there.driven in
      let found = driven.1 in
      let same : driven.0 ≡ x = cc in
      absurd (true≢false (sym driven.2 ∙ ap (λ (s : Signal). is_driven s.kind) same ∙ input)))
]

pub all_before : (library : Library) (complements : Complements) (n : Netlist) (z : ℕ) → length n.signals ≤ z
    → AreBefore library complements n z
    → AllPlaced library complements n
all_before library complements n z past before y g has =
    let within = within_signals n.signals y has.driven in
    before y g (omega arith) has

-- the refusal of a gate, behind gates without one, is that of the netlist
pub first_refused : (library : Library) (complements : Complements) (n : Netlist) (z : ℕ) (g : Gate) (e : Unstructured)
    → AreBefore library complements n z
    → HasGate n z g → ShowsOfGate library complements z g e → ShowsGates library complements n e
first_refused library complements n z g NoMemory before has shows = tt
first_refused library complements n z g (NoInstance sig) before has shows =
    subst (λ (s : ℕ). IsFirstRefused library complements n s (NoInstance s)) (sym shows.0)
    (record { gate = g; has = has; shows = (refl, shows.1); others = before })
first_refused library complements n z g (Complemented sig cell pin) before has shows =
    subst (λ (s : ℕ). IsFirstRefused library complements n s (Complemented s cell pin)) (sym shows.0)
    (record { gate = g; has = has; shows = (refl, shows.1); others = before })
first_refused library complements n z g ModelIsCell before has shows = absurd shows

pub refused_gates : (ported : PortedLibrary) (complements : Complements) (n : Netlist) (e : Unstructured)
    → ShowsGates ported.library complements n e → Shows ported complements n e
refused_gates ported complements n NoMemory shows = tt
refused_gates ported complements n (NoInstance sig) shows = shows
refused_gates ported complements n (Complemented sig cell pin) shows = shows
refused_gates ported complements n ModelIsCell shows = absurd shows

-- a refusal that is handed on
pub handed_on : {X : Type 0} (r : Result X Unstructured) (e : Unstructured) (P : Unstructured → Type 0)
    → IsErrAnd r (λ x. x ≡ e) → P e → IfErr r P
handed_on r e P is holds = (let p = err_from_is_err_and r is in rw (p.1, p.2) holds)

-- ---- all gates, one after another

abbrev AreRefused : Library → Complements → Netlist → Type 0
AreRefused library complements n = (e : Unstructured) × (e ≢ NoMemory) × ShowsGates library complements n e

decided_at : (library : Library) → IsLibrary library → (complements : Complements) (n : Netlist) → IsNetlist n
    → (z : ℕ) → z < length n.signals
    → AreBefore library complements n z → AreBefore library complements n (z + 1) ⊎ AreRefused library complements n
decided_at library good complements n is z within before = elim (cases_Bool (is_driven x.kind)) [
  | inl driven ↦ (
      let gate = gate_there n is z (x, at, driven) in
      let few = is.few in
      let fits : FitsCells gate.0 =
      fits_cells (length n.signals) gate.0 (omega arith) (gate_is n is z gate.0 gate.1) in
      elim (decided_gate library complements good z gate.0 fits) [
        | inl plain ↦ inl (one_more_placed library complements n z gate.0 before gate.1 plain)
        | inr refused ↦ inr (
          refused.0,
          refused.1,
          first_refused library complements n z gate.0 refused.0 before gate.1 refused.2,
        )
      ])
  | inr input ↦ inl (one_more_input library complements n z x before at input)
]
  where
    x : Signal
    x = get_or n.signals z (record { name = []; kind = Input })

    at : slice_get n.signals z ≡ Some x
    at = slice_get-get_or n.signals z (record { name = []; kind = Input }) within

decided_below : (library : Library) → IsLibrary library → (complements : Complements) (n : Netlist) → IsNetlist n
    → (z : ℕ)
    → z ≤ length n.signals → AreBefore library complements n z ⊎ AreRefused library complements n
decided_below library good complements n is zero within = inl (none_before library complements n)
decided_below library good complements n is (suc z) within =
    elim (decided_below library good complements n is z (omega arith)) [
      | inl before ↦ elim (decided_at library good complements n is z (omega arith) before) [
        | inl after ↦ inl (λ y g under has. after y g (omega arith) has)
        | inr refused ↦ inr refused
      ]
      | inr refused ↦ inr refused
    ]

-- ---- the outcome

pub some_outcome : (ported : PortedLibrary) (complements : Complements) (n : Netlist) → IsLibrary ported.library
    → IsNetlist n → IsStructured ported complements n
    ⊎ ((e : Unstructured) × (e ≢ NoMemory) × Shows ported complements n e)
some_outcome ported complements n good is =
    let library = ported.library in
    elim (decided_below library good complements n is (length n.signals) (omega arith)) [
      | inl before ↦ (
          let placed : AllPlaced library complements n =
          all_before library complements n (length n.signals) (omega arith) before in
          elim (cases_Bool (model_is_cell ported n)) [
            | inl cell ↦ inr (ModelIsCell, λ same. cc, (placed, cell))
            | inr other ↦ inl (record { placed = placed; model = other })
          ])
      | inr refused ↦ inr (refused.0, refused.1, refused_gates ported complements n refused.0 refused.2)
    ]
