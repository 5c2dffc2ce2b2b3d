-- Each netlist is of cells of a library, or has one first gate that isn't an instance of one.
use Rattle.std.proofs.Common.{◌≡◌, ◌≢◌, ◌⊎◌, ℕ, zero, suc, ◌+◌, ◌<◌, ◌≤◌, Bool, true, false, List, [], ◌∷◌, length}
use Rattle.std.proofs.Common.{slice_get, Some, All, get_or, refl, sym, ap, subst, ◌∙◌, arith, inl, inr}
use Rattle.std.specs.Prelude.{slice_index_or}
use Rattle.std.proofs.lemmas.Bool.{cases_Bool, cases_lt, true≢false}
use Rattle.std.proofs.lemmas.Bool.Decides.{eqb_tells}
use Rattle.std.proofs.lemmas.List.Elements.{All-cons, All-nil}
use Rattle.std.proofs.lemmas.Option.{get_or_from_slice_get, slice_get-get_or, slice_get_read, slice_get_within}
use Rattle.si_base.specs.declared.graph.Signal.{Signal}
use Rattle.si_base.specs.declared.graph.SigKind.TheVariants.{Input}
use Rattle.si_base.specs.declared.ids.Literal.{Literal}
use Rattle.si_base.specs.Graph.{IsNonInput, is_driven}
use Rattle.si_base.specs.Limits.{code_width}
use Rattle.si_base.specs.Netlist.{Sum, Gate, SumGate, Gc, Cell as CellGate, Netlist, gate_place}
use Rattle.si_base.specs.WellFormed.{IsGate, IsNetlist}
use Rattle.si_netlist.proofs.GateLemmas.{within_signals}
use Rattle.si_cell.specs.Expanded.{expanded}
use Rattle.si_cell.specs.Library.{Cell, Instance, IsLibrary, Library, cell_at, no_cell}
use Rattle.si_structure.specs.Refusals.{HasGate, IsInstanceGate}
use Rattle.si_timing.specs.Refusals.{IsCellGate, IsFirstOther, IsOfCells, Shows}
use Rattle.si_timing.specs.declared.refusal.Untimed.{Untimed}
use Rattle.si_timing.specs.declared.refusal.Untimed.TheVariants.{NoMemory, NoInstance}
use Rattle.si_timing.proofs.InstanceLemmas.{gate_there, same_gate, same_place}

-- ---- gates that are no instance

pub sum_is_none : (library : Library) (z : ℕ) (sum : Sum) → IsCellGate library z (SumGate sum) → ⊥
sum_is_none library z sum some = let same = some.1.same in cc

pub latch_is_none : (library : Library) (z : ℕ) (set reset : Sum) → IsCellGate library z (Gc set reset) → ⊥
latch_is_none library z set reset some = let same = some.1.same in cc

-- a pin for each of the literals, and the sum that the cell computes over them and signal z
pub record Fits (library : Library) (k z : ℕ) (literals : List Literal) (sum : Sum) : Type 0 where
  pub pins : length literals ≡ length (cell_at library k).pins
  pub sum_is : sum ≡ expanded library (record { cell = k; literals = literals }) z

module _ (library : Library) (z : ℕ) (name : List ℕ) (literals : List Literal) (sum : Sum) where
  abbrev gate : Gate
  gate = CellGate name literals sum

  pub unnamed_is_none : All (λ (c : Cell). c.name ≢ name) library.cells → IsCellGate library z gate → ⊥
  unnamed_is_none none some =
      let same = some.1.same in
      let named : (cell_at library some.0.cell).name ≡ name = cc in
      none some.0.cell no_cell some.1.instance.cell named

  -- the instance of the gate is that of the cell of the name
  instance_is : IsLibrary library → (k : ℕ) → k < length library.cells → (cell_at library k).name ≡ name
      → (i : Instance) → IsInstanceGate library z gate i → i ≡ record { cell = k; literals = literals }
  instance_is good k within named i is =
      let same = is.same in
      let names : (cell_at library i.cell).name ≡ (cell_at library k).name = cc in
      let cell : i.cell ≡ k = same_place library good i.cell k is.instance.cell within names in
      let literals_are : i.literals ≡ literals = cc in
      λ j. record { cell = cell j; literals = literals_are j }

  pub fits_from : IsLibrary library → (k : ℕ) → k < length library.cells → (cell_at library k).name ≡ name
      → IsCellGate library z gate → Fits library k z literals sum
  fits_from good k within named some =
      let same = some.1.same in
      let is = instance_is good k within named some.0 some.1 in
      let here : sum ≡ expanded library some.0 z = cc in
      record {
        pins = subst (λ (i : Instance). length i.literals ≡ length (cell_at library i.cell).pins) is
            some.1.instance.pins;
        sum_is = here ∙ ap (λ (i : Instance). expanded library i z) is;
      }

  pub fits_to : (k : ℕ) → k < length library.cells → (cell_at library k).name ≡ name
      → All (λ (l : Literal). l.sig < code_width) literals → Fits library k z literals sum → IsCellGate library z gate
  fits_to k within named small fits =
      let named_so : name ≡ (cell_at library k).name = sym named in (
        record { cell = k; literals = literals },
        record {
          instance = record { cell = within; pins = fits.pins; signals = small };
          same = λ i. CellGate (named_so i) literals (fits.sum_is i);
        },
      )

-- ---- lists are equal, or are not

abbrev AreDecided : Type 0 → Type 0
AreDecided A = (x y : A) → (x ≡ y) ⊎ (x ≢ y)

decided_numbers : AreDecided ℕ
decided_numbers a b = elim (eqb_tells a b) [ inl same ↦ inl same.1 | inr other ↦ inr other.1 ]

decided_bools : AreDecided Bool
decided_bools true true = inl refl
decided_bools true false = inr true≢false
decided_bools false true = inr (λ same. true≢false (sym same))
decided_bools false false = inl refl

decided_literals : AreDecided Literal
decided_literals k l = elim (decided_numbers k.sig l.sig) [
  | inl same ↦ elim (decided_bools k.plain l.plain) [
    | inl also ↦ inl (λ i. record { sig = same i; plain = also i })
    | inr other ↦ inr (λ is. other (ap (λ (m : Literal). m.plain) is))
  ]
  | inr other ↦ inr (λ is. other (ap (λ (m : Literal). m.sig) is))
]

decided_lists : {A : Type 0} → AreDecided A → AreDecided (List A)
decided_lists decided [] [] = inl refl
decided_lists decided [] (y ∷ ys) = inr (λ same. cc)
decided_lists decided (x ∷ xs) [] = inr (λ same. cc)
decided_lists decided (x ∷ xs) (y ∷ ys) = elim (decided x y) [
  | inl first ↦ elim (decided_lists decided xs ys) [
    | inl rest ↦ inl (λ i. first i ∷ rest i)
    | inr other ↦ inr (λ same. other (cc))
  ]
  | inr other ↦ inr (λ same. other (cc))
]

decided_sums : AreDecided Sum
decided_sums = decided_lists (decided_lists decided_literals)

-- ---- one gate

abbrev HasOne : List Cell → List ℕ → Type 0
HasOne cells name = (k : ℕ) × (k < length cells) × ((slice_index_or cells k no_cell).name ≡ name)

decided_name : (cells : List Cell) (name : List ℕ) → HasOne cells name ⊎ All (λ c. c.name ≢ name) cells
decided_name [] name = inr (All-nil (λ (c : Cell). c.name ≢ name))
decided_name (c ∷ cs) name = elim (decided_lists decided_numbers c.name name) [
  | inl same ↦ inl (0, omega arith, same)
  | inr other ↦ elim (decided_name cs name) [
    | inl later ↦ inl (suc later.0, omega (arith, later.1), later.2)
    | inr none ↦ inr (All-cons (λ (d : Cell). d.name ≢ name) c cs other none)
  ]
]

abbrev IsDecided : Library → ℕ → Gate → Type 0
IsDecided library z g = IsCellGate library z g ⊎ (IsCellGate library z g → ⊥)

decided_cell : (library : Library) → IsLibrary library → (z : ℕ) (name : List ℕ) (literals : List Literal) (sum : Sum)
    → All (λ (l : Literal). l.sig < code_width) literals → HasOne library.cells name
    → IsDecided library z (CellGate name literals sum)
decided_cell library good z name literals sum small one =
    let wanted : Sum = expanded library (record { cell = one.0; literals = literals }) z in
    elim (decided_numbers (length literals) (length (cell_at library one.0).pins)) [
      | inl count ↦ elim (decided_sums sum wanted) [
        | inl same ↦ inl (fits_to library z name literals sum one.0 one.1 one.2 small
            (record { pins = count; sum_is = same }))
        | inr other ↦ inr (λ some. other (fits_from library z name literals sum good one.0 one.1 one.2 some).sum_is)
      ]
      | inr other ↦ inr (λ some. other (fits_from library z name literals sum good one.0 one.1 one.2 some).pins)
    ]

small_literals : (count : ℕ) (literals : List Literal) → count ≤ code_width → All (λ l. l.sig < count) literals
    → All (λ l. l.sig < code_width) literals
small_literals count literals few there k d within =
    let small = there k d within in omega (arith, small, few)

decided_gate : (library : Library) → IsLibrary library → (z count : ℕ) (g : Gate) → count ≤ code_width → IsGate count g
    → IsDecided library z g
decided_gate library good z count (SumGate sum) few is = inr (sum_is_none library z sum)
decided_gate library good z count (Gc set reset) few is = inr (latch_is_none library z set reset)
decided_gate library good z count (CellGate name literals sum) few is = elim (decided_name library.cells name) [
  | inl one ↦ decided_cell library good z name literals sum (small_literals count literals few is.2) one
  | inr none ↦ inr (unnamed_is_none library z name literals sum none)
]

-- ---- gates before a signal

pub gate_is : (n : Netlist) → IsNetlist n → (z : ℕ) (g : Gate) → HasGate n z g → IsGate (length n.signals) g
gate_is n is z g has =
    let place = gate_place n.signals z in
    subst (IsGate (length n.signals)) (get_or_from_slice_get n.gates place g g has.there)
    (is.gates place g (slice_get_within n.gates place g has.there))

pub is_signal : (n : Netlist) (items : List Signal) (z : ℕ) (x : Signal) → items ≡ n.signals → z < length items
    → x ≡ get_or items z x → slice_get n.signals z ≡ Some x
is_signal n items z x same within is =
    ap (λ (xs : List Signal). slice_get xs z) (sym same) ∙ slice_get_read items (length items) z x refl within is

-- each gate before signal z is an instance of a cell
abbrev pub AreBefore : Library → Netlist → ℕ → Type 0
AreBefore library n z = (y : ℕ) (g : Gate) → y < z → HasGate n y g → IsCellGate library y g

pub one_more_gate : (library : Library) (n : Netlist) (z : ℕ) (g : Gate) → AreBefore library n z → HasGate n z g
    → IsCellGate library z g → AreBefore library n (z + 1)
one_more_gate library n z g before has is y h under there = elim (cases_lt y z) [
  | inl earlier ↦ before y h earlier there
  | inr later ↦ (
      let here : z ≡ y = omega (arith, later, under) in
      let there_too : HasGate n y g = subst (λ (x : ℕ). HasGate n x g) here has in
      subst (IsCellGate library y) (same_gate n y g h there_too there)
      (subst (λ (x : ℕ). IsCellGate library x g) here is))
]

pub one_more_input : (library : Library) (n : Netlist) (z : ℕ) (x : Signal) → AreBefore library n z
    → slice_get n.signals z ≡ Some x → is_driven x.kind ≡ false → AreBefore library n (z + 1)
one_more_input library n z x before at input y h under there = elim (cases_lt y z) [
  | inl earlier ↦ before y h earlier there
  | inr later ↦ (
      let here : z ≡ y = omega (arith, later, under) in
      let driven : IsNonInput n.signals z = subst (IsNonInput n.signals) (sym here) there.driven in
      let found = driven.1 in
      let same : driven.0 ≡ x = cc in
      absurd (true≢false (sym driven.2 ∙ ap (λ (s : Signal). is_driven s.kind) same ∙ input)))
]

pub all_before : (library : Library) (n : Netlist) (z : ℕ) → length n.signals ≤ z → AreBefore library n z
    → IsOfCells library n
all_before library n z past before y g has =
    let within = within_signals n.signals y has.driven in
    before y g (omega (arith, within, past)) has

-- ---- the outcome

pub some_outcome : (library : Library) (n : Netlist) → IsLibrary library → IsNetlist n
    → IsOfCells library n ⊎ ((e : Untimed) × (e ≢ NoMemory) × Shows library n e)
some_outcome library n good is = elim (below (length n.signals) (omega arith)) [
  | inl before ↦ inl (all_before library n (length n.signals) (omega arith) before)
  | inr first ↦ inr (NoInstance first.0, (λ same. cc), first.1)
]
  where
    input_of : (z : ℕ) → Signal
    input_of z = get_or n.signals z (record { name = []; kind = Input })

    at : (z : ℕ) → z < length n.signals → slice_get n.signals z ≡ Some (input_of z)
    at z within = slice_get-get_or n.signals z (record { name = []; kind = Input }) within

    step : (z : ℕ) → z < length n.signals → AreBefore library n z
        → AreBefore library n (z + 1) ⊎ ((y : ℕ) × IsFirstOther library n y)
    step z within before = elim (cases_Bool (is_driven (input_of z).kind)) [
      | inl driven ↦ (
          let gate = gate_there n is z (input_of z, at z within, driven) in
          let few = is.few in
          elim (decided_gate library good z (length n.signals) gate.0 (omega (arith, few))
          (gate_is n is z gate.0 gate.1)) [
            | inl one ↦ inl (one_more_gate library n z gate.0 before gate.1 one)
            | inr none ↦ inr (z, record { gate = gate.0; has = gate.1; none = none; others = before })
          ])
      | inr input ↦ inl (one_more_input library n z (input_of z) before (at z within) input)
    ]

    below : (z : ℕ) → z ≤ length n.signals → AreBefore library n z ⊎ ((y : ℕ) × IsFirstOther library n y)
    below zero within = inl (λ y g before has. absurd (omega (arith, before)))
    below (suc z) within = elim (below z (omega (arith, within))) [
      | inl before ↦ elim (step z (omega (arith, within)) before) [
        | inl after ↦ inl (λ y g under has. after y g (omega (arith, under)) has)
        | inr first ↦ inr first
      ]
      | inr first ↦ inr first
    ]

same_first : (library : Library) (n : Netlist) (a b : ℕ) → IsFirstOther library n a → IsFirstOther library n b → a ≡ b
same_first library n a b one other = elim (cases_lt a b) [
  | inl before ↦ absurd (one.none (other.others a one.gate before one.has))
  | inr after ↦ elim (cases_lt b a) [
    | inl before ↦ absurd (other.none (one.others b other.gate before other.has))
    | inr back ↦ omega (arith, after, back)
  ]
]

pub one_refusal : (library : Library) (n : Netlist) (e f : Untimed) → e ≢ NoMemory → f ≢ NoMemory → Shows library n e
    → Shows library n f → e ≡ f
one_refusal library n NoMemory f some also one other = absurd (some refl)
one_refusal library n (NoInstance a) NoMemory some also one other = absurd (also refl)
one_refusal library n (NoInstance a) (NoInstance b) some also one other =
    ap (λ (z : ℕ). NoInstance z) (same_first library n a b one other)

pub none_of_cells : (library : Library) (n : Netlist) (e : Untimed) → IsOfCells library n → Shows library n e
    → e ≡ NoMemory
none_of_cells library n NoMemory all shows = refl
none_of_cells library n (NoInstance a) all shows = absurd (shows.none (all a shows.gate shows.has))
