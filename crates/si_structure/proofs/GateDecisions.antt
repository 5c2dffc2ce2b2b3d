-- Each gate is an instance by literals that are plain or get inverters, or shows a reason why it isn't.
use Rattle.std.proofs.Common.{◌≡◌, ◌≢◌, ◌⊎◌, ℕ, zero, suc, ◌<◌, Bool, true, false, List, [], ◌∷◌, length, slice_get}
use Rattle.std.proofs.Common.{Some, All, refl, sym, ap, subst, ◌∙◌, arith, inl, inr}
use Rattle.std.specs.Prelude.{IsTrue, slice_index_or}
use Rattle.std.specs.List.{AllByRecursion}
use Rattle.std.proofs.lemmas.Bool.{cases_Bool, cases_lt, true≢false}
use Rattle.std.proofs.lemmas.Bool.Decides.{eqb_tells}
use Rattle.std.proofs.lemmas.List.Elements.{All-cons, All-from_recursion, All-nil}
use Rattle.si_base.specs.declared.ids.Literal.{Literal}
use Rattle.si_base.specs.Limits.{code_width}
use Rattle.si_base.specs.Netlist.{Sum, Gate, SumGate, Gc, Cell as CellGate}
use Rattle.si_cell.specs.Expanded.{expanded}
use Rattle.si_cell.specs.Library.{Cell, Library, Instance, IsLibrary, cell_at, no_cell}
use Rattle.si_structure.specs.Refusals.{IsComplemented, IsFirstComplemented, IsInstanceGate, IsPlacedGate, ShowsOfGate}
use Rattle.si_structure.specs.Refusals.{inverts}
use Rattle.si_structure.specs.Loops.Deciding.{AreSmall, FitsCells}
use Rattle.si_structure.specs.declared.complements.Complements.{Complements}
use Rattle.si_structure.specs.declared.refusal.Unstructured.{Unstructured}
use Rattle.si_structure.specs.declared.refusal.Unstructured.TheVariants.{NoMemory, NoInstance, Complemented}

-- ---- lists are equal, or are not

abbrev AreDecided : Type 0 → Type 0
AreDecided A = (x y : A) → (x ≡ y) ⊎ (x ≢ y)

decided_bools : AreDecided Bool
decided_bools true true = inl refl
decided_bools true false = inr true≢false
decided_bools false true = inr (λ same. true≢false (sym same))
decided_bools false false = inl refl

decided_literals : AreDecided Literal
decided_literals k l = elim (eqb_tells k.sig l.sig) [
  | inl same ↦ elim (decided_bools k.plain l.plain) [
    | inl also ↦ inl (λ i. record { sig = same.1 i; plain = also i })
    | inr other ↦ inr (λ is. other (ap (λ (m : Literal). m.plain) is))
  ]
  | inr other ↦ inr (λ is. other.1 (ap (λ (m : Literal). m.sig) is))
]

decided_lists : {A : Type 0} → AreDecided A → AreDecided (List A)
decided_lists decided [] [] = inl refl
decided_lists decided [] (y ∷ ys) = inr (λ same. cc)
decided_lists decided (x ∷ xs) [] = inr (λ same. cc)
decided_lists decided (x ∷ xs) (y ∷ ys) = elim (decided x y) [
  | inl first ↦ elim (decided_lists decided xs ys) [
    | inl rest ↦ inl (λ i. first i ∷ rest i)
    | inr other ↦ inr (λ same. other (cc))
  ]
  | inr other ↦ inr (λ same. other (cc))
]

decided_sums : AreDecided Sum
decided_sums = decided_lists (decided_lists decided_literals)

-- ---- the cell of a name

-- the cell at that place has the name
pub record IsNamed (library : Library) (name : List ℕ) (k : ℕ) : Type 0 where
  pub within : k < length library.cells
  pub named : (cell_at library k).name ≡ name

-- no cell has it
abbrev pub HasNone : List Cell → List ℕ → Type 0
HasNone cells name = All (λ c. c.name ≢ name) cells

abbrev HasOne : List Cell → List ℕ → Type 0
HasOne cells name = (k : ℕ) × (k < length cells) × ((slice_index_or cells k no_cell).name ≡ name)

decided_name : (cells : List Cell) (name : List ℕ) → HasOne cells name ⊎ HasNone cells name
decided_name [] name = inr (All-nil (λ (c : Cell). c.name ≢ name))
decided_name (c ∷ cs) name = elim (decided_lists (λ a b. by a b) c.name name) [
  | inl same ↦ inl (0, omega arith, same)
  | inr other ↦ elim (decided_name cs name) [
    | inl later ↦ inl (suc later.0, omega arith, later.2)
    | inr none ↦ inr (All-cons (λ (d : Cell). d.name ≢ name) c cs other none)
  ]
]
  where
    by : AreDecided ℕ
    by a b = elim (eqb_tells a b) [ inl same ↦ inl same.1 | inr other ↦ inr other.1 ]

pub same_place : (library : Library) → IsLibrary library → (j k : ℕ) → j < length library.cells
    → k < length library.cells → (cell_at library j).name ≡ (cell_at library k).name → j ≡ k
same_place library good j k within also same = elim (cases_lt j k) [
  | inl before ↦ absurd (good.cells.distinct j k no_cell before also same)
  | inr after ↦ elim (cases_lt k j) [
    | inl before ↦ absurd (good.cells.distinct k j no_cell before within (sym same))
    | inr back ↦ omega arith
  ]
]

-- ---- gates that are no instance

abbrev pub IsNoInstance : Library → ℕ → Gate → Type 0
IsNoInstance library z g = (i : Instance) → IsInstanceGate library z g i → ⊥

pub sum_is_none : (library : Library) (z : ℕ) (sum : Sum) → IsNoInstance library z (SumGate sum)
sum_is_none library z sum i is = let same = is.same in cc

pub latch_is_none : (library : Library) (z : ℕ) (set reset : Sum) → IsNoInstance library z (Gc set reset)
latch_is_none library z set reset i is = let same = is.same in cc

module _ (library : Library) (z : ℕ) (name : List ℕ) (literals : List Literal) (sum : Sum) where
  pub unnamed_is_none : HasNone library.cells name → IsNoInstance library z (CellGate name literals sum)
  unnamed_is_none none i is =
      let same = is.same in
      let named : (cell_at library i.cell).name ≡ name = cc in
      none i.cell no_cell is.instance.cell named

  -- the instance of the gate is that of the cell of the name
  instance_is : IsLibrary library → (k : ℕ) → IsNamed library name k → (i : Instance)
      → IsInstanceGate library z (CellGate name literals sum) i → i ≡ record { cell = k; literals = literals }
  instance_is good k is_named i is =
      let same = is.same in
      let named : (cell_at library i.cell).name ≡ (cell_at library k).name = let here = is_named.named in cc in
      let cell : i.cell ≡ k = same_place library good i.cell k is.instance.cell is_named.within named in
      let literals_are : i.literals ≡ literals = cc in
      λ j. record { cell = cell j; literals = literals_are j }

  pub other_count_is_none : IsLibrary library → (k : ℕ) → IsNamed library name k
      → length literals ≢ length (cell_at library k).pins → IsNoInstance library z (CellGate name literals sum)
  other_count_is_none good k is_named other i is = other (
      subst (λ (j : Instance). length j.literals ≡ length (cell_at library j.cell).pins)
      (instance_is good k is_named i is) is.instance.pins)

  pub other_sum_is_none : IsLibrary library → (k : ℕ) → IsNamed library name k
      → sum ≢ expanded library (record { cell = k; literals = literals }) z
      → IsNoInstance library z (CellGate name literals sum)
  other_sum_is_none good k is_named other i is =
      let same = is.same in
      let here : sum ≡ expanded library i z = cc in
      other (here ∙ ap (λ (j : Instance). expanded library j z) (instance_is good k is_named i is))

  -- ---- gates that are one

  pub is_instance : (k : ℕ) → IsNamed library name k → length literals ≡ length (cell_at library k).pins
      → sum ≡ expanded library (record { cell = k; literals = literals }) z
      → All (λ (l : Literal). l.sig < code_width) literals
      → IsInstanceGate library z (CellGate name literals sum) (record { cell = k; literals = literals })
  is_instance k is_named count same small =
      let named : name ≡ (cell_at library k).name = sym is_named.named in
      record {
        instance = record { cell = is_named.within; pins = count; signals = small };
        same = λ i. CellGate (named i) literals (same i);
      }

  module _ (complements : Complements) (k : ℕ) (is : IsInstanceGate library z (CellGate name literals sum) (record {
    cell = k;
    literals = literals;
  })) where
    pub is_placed : IsTrue (inverts complements library.cells) ⊎ All (λ (l : Literal). IsTrue l.plain) literals
        → IsPlacedGate library complements z (CellGate name literals sum)
    is_placed plain = record { instance = record { cell = k; literals = literals }; is = is; plain = plain }

    pub is_complemented : (pin : ℕ) → IsFirstComplemented literals pin → inverts complements library.cells ≡ false
        → IsComplemented library complements z (CellGate name literals sum) k pin
    is_complemented pin first kept = record {
      instance = record { cell = k; literals = literals };
      is = is;
      cell_is = refl;
      pin_is = first;
      kept = kept;
    }

-- ---- the first complemented literal

later_complemented : (l : Literal) (ls : List Literal) (pin : ℕ) → l.plain ≡ true → IsFirstComplemented ls pin
    → IsFirstComplemented (l ∷ ls) (suc pin)
later_complemented l ls pin plain first = record {
  literal = first.literal;
  there = first.there;
  complemented = first.complemented;
  others = others;
}
  where
    others : (k : ℕ) (m : Literal) → k < suc pin → slice_get (l ∷ ls) k ≡ Some m → IsTrue m.plain
    others zero m before there =
        let same : l ≡ m = cc in
        ap (λ (k : Literal). k.plain) (sym same) ∙ plain
    others (suc k) m before there = first.others k m (omega arith) there

decided_plain : (literals : List Literal)
    → ((pin : ℕ) × IsFirstComplemented literals pin) ⊎ AllByRecursion (λ l. IsTrue l.plain) literals
decided_plain [] = inr tt
decided_plain (l ∷ ls) = elim (cases_Bool l.plain) [
  | inl plain ↦ elim (decided_plain ls) [
    | inl later ↦ inl (suc later.0, later_complemented l ls later.0 plain later.1)
    | inr rest ↦ inr (plain, rest)
  ]
  | inr complemented ↦ inl (
    0,
    record {
      literal = l;
      there = refl;
      complemented = complemented;
      others = λ k m before there. absurd (omega arith);
    },
  )
]

-- ---- what is decided of a gate

-- what a refusal shows of it, beside want of memory
abbrev pub IsRefusedGate : Library → Complements → ℕ → Gate → Type 0
IsRefusedGate library complements z g =
    (e : Unstructured) × (e ≢ NoMemory) × ShowsOfGate library complements z g e

module _ (library : Library) (complements : Complements) where
  none_refused : (z : ℕ) (g : Gate) → IsNoInstance library z g → IsRefusedGate library complements z g
  none_refused z g none = (NoInstance z, λ same. cc, (refl, none))

  decided_literals_of : (z : ℕ) (name : List ℕ) (literals : List Literal) (sum : Sum) (k : ℕ)
      → IsInstanceGate library z (CellGate name literals sum) (record { cell = k; literals = literals })
      → IsPlacedGate library complements z (CellGate name literals sum)
      ⊎ IsRefusedGate library complements z (CellGate name literals sum)
  decided_literals_of z name literals sum k is = elim (cases_Bool (inverts complements library.cells)) [
    | inl inverted ↦ inl (is_placed library z name literals sum complements k is (inl inverted))
    | inr kept ↦ elim (decided_plain literals) [
      | inl first ↦ inr (
        Complemented z k first.0,
        λ same. cc,
        (refl, is_complemented library z name literals sum complements k is first.0 first.1 kept),
      )
      | inr plain ↦ inl (is_placed library z name literals sum complements k is
          (inr (All-from_recursion (λ (l : Literal). IsTrue l.plain) literals plain)))
    ]
  ]

  decided_cell : IsLibrary library → (z : ℕ) (name : List ℕ) (literals : List Literal) (sum : Sum)
      → AreSmall literals → (k : ℕ) → IsNamed library name k
      → IsPlacedGate library complements z (CellGate name literals sum)
      ⊎ IsRefusedGate library complements z (CellGate name literals sum)
  decided_cell good z name literals sum small k is_named =
      elim (eqb_tells (length literals) (length (cell_at library k).pins)) [
        | inl count ↦ elim (decided_sums sum (expanded library (record { cell = k; literals = literals }) z)) [
          | inl same ↦ decided_literals_of z name literals sum k
              (is_instance library z name literals sum k is_named count.1 same small.signals)
          | inr other ↦ inr (none_refused z (CellGate name literals sum)
              (other_sum_is_none library z name literals sum good k is_named other))
        ]
        | inr other ↦ inr (none_refused z (CellGate name literals sum)
            (other_count_is_none library z name literals sum good k is_named other.1))
      ]

  pub decided_gate : IsLibrary library → (z : ℕ) (g : Gate) → FitsCells g
      → IsPlacedGate library complements z g ⊎ IsRefusedGate library complements z g
  decided_gate good z (SumGate sum) small = inr (none_refused z (SumGate sum) (sum_is_none library z sum))
  decided_gate good z (Gc set reset) small = inr (none_refused z (Gc set reset) (latch_is_none library z set reset))
  decided_gate good z (CellGate name literals sum) small = elim (decided_name library.cells name) [
    | inl one ↦ decided_cell good z name literals sum small one.0 (record { within = one.1; named = one.2 })
    | inr none ↦ inr (none_refused z (CellGate name literals sum)
        (unnamed_is_none library z name literals sum none))
  ]
