-- A netlist has one outcome over a library.
use Rattle.std.proofs.Common.{◌≡◌, ◌≢◌, ℕ, true, List, slice_get, Some}
use Rattle.std.proofs.Common.{All, refl, sym, ap, subst, ◌∙◌, arith, inl, inr}
use Rattle.std.specs.Prelude.{IsTrue}
use Rattle.std.proofs.lemmas.Bool.{true≢false, cases_lt}
use Rattle.std.proofs.lemmas.Option.{get_or_from_slice_get, slice_get_within}
use Rattle.si_base.specs.declared.ids.Literal.{Literal}
use Rattle.si_base.specs.Netlist.{Gate, Netlist}
use Rattle.si_cell.specs.Library.{Library, Instance, IsLibrary, cell_at}
use Rattle.si_genlib.specs.Ports.{PortedLibrary}
use Rattle.si_structure.specs.Refusals.{AllPlaced, HasGate, IsComplemented, IsFirstComplemented, IsFirstRefused}
use Rattle.si_structure.specs.Refusals.{IsInstanceGate, IsPlacedGate, IsStructured, Shows}
use Rattle.si_structure.specs.declared.complements.Complements.{Complements}
use Rattle.si_structure.specs.declared.refusal.Unstructured.{Unstructured}
use Rattle.si_structure.specs.declared.refusal.Unstructured.TheVariants.{NoMemory, NoInstance, Complemented}
use Rattle.si_structure.specs.declared.refusal.Unstructured.TheVariants.{ModelIsCell}
use Rattle.si_structure.proofs.GateDecisions.{same_place}
use Rattle.si_structure.proofs.NetlistDecisions.{AreBefore, same_gate}

-- ---- one gate

same_literals : (library : Library) (z : ℕ) (g : Gate) (i j : Instance) → IsInstanceGate library z g i
    → IsInstanceGate library z g j → i.literals ≡ j.literals
same_literals library z g i j one other =
    let first = one.same in
    let second = other.same in
    cc

same_name : (library : Library) (z : ℕ) (g : Gate) (i j : Instance) → IsInstanceGate library z g i
    → IsInstanceGate library z g j → (cell_at library i.cell).name ≡ (cell_at library j.cell).name
same_name library z g i j one other =
    let first = one.same in
    let second = other.same in
    cc

same_cell : (library : Library) → IsLibrary library → (z : ℕ) (g : Gate) (i j : Instance)
    → IsInstanceGate library z g i → IsInstanceGate library z g j → i.cell ≡ j.cell
same_cell library good z g i j one other = same_place library good i.cell j.cell one.instance.cell other.instance.cell
    (same_name library z g i j one other)

is_plain_there : (literals : List Literal) → All (λ (l : Literal). IsTrue l.plain) literals → (pin : ℕ) (l : Literal)
    → slice_get literals pin ≡ Some l → l.plain ≡ true
is_plain_there literals all pin l there = subst (λ (m : Literal). IsTrue m.plain)
    (get_or_from_slice_get literals pin l l there) (all pin l (slice_get_within literals pin l there))

-- a gate that is placed has no complemented literal that keeps it from being so
not_complemented : (library : Library) (complements : Complements) (z : ℕ) (g : Gate) (cell pin : ℕ)
    → IsComplemented library complements z g cell pin → IsPlacedGate library complements z g → ⊥
not_complemented library complements z g cell pin is placed = elim placed.plain [
  | inl inverted ↦ true≢false (sym inverted ∙ is.kept)
  | inr plain ↦ (
      let same = same_literals library z g placed.instance is.instance placed.is is.is in
      let all = subst (All (λ (l : Literal). IsTrue l.plain)) same plain in
      true≢false (sym (is_plain_there is.instance.literals all pin is.pin_is.literal is.pin_is.there)
      ∙ is.pin_is.complemented))
]

same_pin : (literals : List Literal) (p q : ℕ) → IsFirstComplemented literals p → IsFirstComplemented literals q → p ≡ q
same_pin literals p q one other = elim (cases_lt p q) [
  | inl before ↦ absurd (true≢false (sym (other.others p one.literal before one.there) ∙ one.complemented))
  | inr after ↦ elim (cases_lt q p) [
    | inl before ↦ absurd (true≢false (sym (one.others q other.literal before other.there) ∙ other.complemented))
    | inr back ↦ omega arith
  ]
]

-- ---- the first gate

-- a gate that isn't placed
abbrev IsRefused : Library → Complements → Netlist → ℕ → Type 0
IsRefused library complements n z = (g : Gate) × HasGate n z g × (IsPlacedGate library complements z g → ⊥)

same_first : (library : Library) (complements : Complements) (n : Netlist) (a b : ℕ)
    → IsRefused library complements n a → AreBefore library complements n a
    → IsRefused library complements n b → AreBefore library complements n b → a ≡ b
same_first library complements n a b one before_one other before_other = elim (cases_lt a b) [
  | inl before ↦ absurd (one.2 (before_other a one.0 before one.1))
  | inr after ↦ elim (cases_lt b a) [
    | inl before ↦ absurd (other.2 (before_one b other.0 before other.1))
    | inr back ↦ omega arith
  ]
]

no_instance_refused : (library : Library) (complements : Complements) (n : Netlist) (a : ℕ)
    → IsFirstRefused library complements n a (NoInstance a)
    → IsRefused library complements n a
no_instance_refused library complements n a first =
    (first.gate, first.has, λ placed. first.shows.1 placed.instance placed.is)

complemented_refused : (library : Library) (complements : Complements) (n : Netlist) (a cell pin : ℕ)
    → IsFirstRefused library complements n a (Complemented a cell pin) → IsRefused library complements n a
complemented_refused library complements n a cell pin first =
    (first.gate, first.has, λ placed. not_complemented library complements a first.gate cell pin first.shows.1 placed)

apart_kinds : (library : Library) (complements : Complements) (n : Netlist) (a b cell pin : ℕ)
    → IsFirstRefused library complements n a (NoInstance a)
    → IsFirstRefused library complements n b (Complemented b cell pin) → ⊥
apart_kinds library complements n a b cell pin one other =
    let same : a ≡ b = same_first library complements n a b (no_instance_refused library complements n a one) one.others
    (complemented_refused library complements n b cell pin other) other.others in
    let has : HasGate n a other.gate = subst (λ (z : ℕ). HasGate n z other.gate) (sym same) other.has in
    let gates : other.gate ≡ one.gate = same_gate n a other.gate one.gate has one.has in
    let is : IsInstanceGate library b one.gate other.shows.1.instance =
    subst (λ (g : Gate). IsInstanceGate library b g other.shows.1.instance) gates other.shows.1.is in
    one.shows.1 other.shows.1.instance
    (subst (λ (z : ℕ). IsInstanceGate library z one.gate other.shows.1.instance) (sym same) is)

same_complemented : (library : Library) → IsLibrary library
    → (complements : Complements) (n : Netlist) (a c p b d q : ℕ)
    → IsFirstRefused library complements n a (Complemented a c p)
    → IsFirstRefused library complements n b (Complemented b d q)
    → (a ≡ b) × (c ≡ d) × (p ≡ q)
same_complemented library good complements n a c p b d q one other =
    let same : a ≡ b = same_first library complements n a b (complemented_refused library complements n a c p one)
    one.others
    (complemented_refused library complements n b d q other) other.others in
    let has : HasGate n a other.gate = subst (λ (z : ℕ). HasGate n z other.gate) (sym same) other.has in
    let gates : other.gate ≡ one.gate = same_gate n a other.gate one.gate has one.has in
    let second : IsComplemented library complements a one.gate d q =
    subst (λ (g : Gate). IsComplemented library complements a g d q) gates
    (subst (λ (z : ℕ). IsComplemented library complements z other.gate d q) (sym same) other.shows.1) in
    let first : IsComplemented library complements a one.gate c p = one.shows.1 in
    let literals = same_literals library a one.gate first.instance second.instance first.is second.is in
    let cells = same_cell library good a one.gate first.instance second.instance first.is second.is in (
      same,
      sym first.cell_is ∙ cells ∙ second.cell_is,
      same_pin second.instance.literals p q
          (subst (λ (ls : List Literal). IsFirstComplemented ls p) literals first.pin_is) second.pin_is,
    )

none_refused : (library : Library) (complements : Complements) (n : Netlist) (z : ℕ) → AllPlaced library complements n
    → IsRefused library complements n z → ⊥
none_refused library complements n z all refused = refused.2 (all z refused.0 refused.1)

-- ---- outcomes

pub one_refusal : (ported : PortedLibrary) (complements : Complements) (n : Netlist) (e f : Unstructured)
    → IsLibrary ported.library → e ≢ NoMemory → f ≢ NoMemory → Shows ported complements n e
    → Shows ported complements n f → e ≡ f
one_refusal ported complements n NoMemory f good some also one other = absurd (some refl)
one_refusal ported complements n (NoInstance a) NoMemory good some also one other = absurd (also refl)
one_refusal ported complements n (NoInstance a) (NoInstance b) good some also one other =
    ap (λ (z : ℕ). NoInstance z)
    (same_first ported.library complements n a b (no_instance_refused ported.library complements n a one) one.others
    (no_instance_refused ported.library complements n b other) other.others)
one_refusal ported complements n (NoInstance a) (Complemented b d q) good some also one other =
    absurd (apart_kinds ported.library complements n a b d q one other)
one_refusal ported complements n (NoInstance a) ModelIsCell good some also one other =
    absurd (none_refused ported.library complements n a other.0
    (no_instance_refused ported.library complements n a one))
one_refusal ported complements n (Complemented a c p) NoMemory good some also one other = absurd (also refl)
one_refusal ported complements n (Complemented a c p) (NoInstance b) good some also one other =
    absurd (apart_kinds ported.library complements n b a c p other one)
one_refusal ported complements n (Complemented a c p) (Complemented b d q) good some also one other =
    let same = same_complemented ported.library good complements n a c p b d q one other in
    λ i. Complemented (same.0 i) (same.1 i) (same.2 i)
one_refusal ported complements n (Complemented a c p) ModelIsCell good some also one other =
    absurd (none_refused ported.library complements n a other.0
    (complemented_refused ported.library complements n a c p one))
one_refusal ported complements n ModelIsCell NoMemory good some also one other = absurd (also refl)
one_refusal ported complements n ModelIsCell (NoInstance b) good some also one other =
    absurd (none_refused ported.library complements n b one.0
    (no_instance_refused ported.library complements n b other))
one_refusal ported complements n ModelIsCell (Complemented b d q) good some also one other =
    absurd (none_refused ported.library complements n b one.0
    (complemented_refused ported.library complements n b d q other))
one_refusal ported complements n ModelIsCell ModelIsCell good some also one other = refl

pub none_of_structured : (ported : PortedLibrary) (complements : Complements) (n : Netlist) (e : Unstructured)
    → IsStructured ported complements n → Shows ported complements n e → e ≡ NoMemory
none_of_structured ported complements n NoMemory is shows = refl
none_of_structured ported complements n (NoInstance a) is shows =
    absurd (none_refused ported.library complements n a is.placed
    (no_instance_refused ported.library complements n a shows))
none_of_structured ported complements n (Complemented a c p) is shows =
    absurd (none_refused ported.library complements n a is.placed
    (complemented_refused ported.library complements n a c p shows))
none_of_structured ported complements n ModelIsCell is shows = absurd (true≢false (sym shows.1 ∙ is.model))
