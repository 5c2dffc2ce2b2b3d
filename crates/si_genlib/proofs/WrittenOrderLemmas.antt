-- The literals of a cube are in literal order already.
use Rattle.std.proofs.Common.{◌≡◌, ℕ, zero, suc, ◌+◌, ◌<◌, ◌≤◌, Bool, true, false, not, List, [], ◌∷◌, length}
use Rattle.std.proofs.Common.{filter, get_or, refl, ap, ap₂, ◌∙◌, inl, inr, arith}
use Rattle.std.proofs.lemmas.Bool.Decides.{eqb_tells}
use Rattle.std.proofs.lemmas.List.Elements.{recursion_from_All}
use Rattle.std.specs.List.{AllByRecursion}
use Rattle.std.proofs.Math.Bool.{or-false}
use mathlib.Core.Bool.{beq}
use Rattle.si_base.specs.declared.ids.Literal.{Literal}
use Rattle.si_base.specs.Limits.{code_width}
use Rattle.si_cube.specs.Literals.{InSignalOrder}
use Rattle.si_cell.specs.Literals.{same_literal, has_literal, both_from, in_literal_order}

-- the signals rise, from the k-th on
abbrev Rises : ℕ → List Literal → Type 0
Rises k [] = Unit {0}
Rises k (l ∷ ls) = (k ≤ l.sig) × Rises (l.sig + 1) ls

abbrev pub AreBelow : ℕ → List Literal → Type 0
AreBelow n ls = AllByRecursion (λ (l : Literal). l.sig < n) ls

rises_from : (k : ℕ) (ls : List Literal) → AllByRecursion (λ (l : Literal). k ≤ l.sig) ls → InSignalOrder ls
    → Rises k ls
rises_from k [] low rising = tt
rises_from k (l ∷ ls) low rising = (
  low.0,
  rises_from (l.sig + 1) ls (recursion_from_All (λ (m : Literal). l.sig + 1 ≤ m.sig) ls above)
      (λ i j d before within. rising (suc i) (suc j) d (omega arith) (omega arith)),
)
  where
    above : (j : ℕ) (d : Literal) → j < length ls → l.sig + 1 ≤ (get_or ls j d).sig
    above j d within =
        let less : l.sig < (get_or ls j d).sig = rising 0 (suc j) d (omega arith) (omega arith) in
        omega arith

abbrev lit : ℕ → Bool → Literal
lit i v = record { sig = i; plain = v }

other_signal : (m l : Literal) → (m.sig ≡ l.sig → ⊥) → same_literal m l ≡ false
other_signal m l apart = elim (eqb_tells m.sig l.sig) [
  | inl same ↦ absurd (apart same.1)
  | inr other ↦ rw other.0 refl
]

absent : (m : Literal) (k : ℕ) (ls : List Literal) → m.sig < k → Rises k ls → has_literal ls m ≡ false
absent m k [] low rises = refl
absent m k (l ∷ ls) low rises =
    let here : k ≤ l.sig = rises.0 in
    rw (other_signal m l (λ same. omega arith)) (absent m (l.sig + 1) ls (omega arith) rises.1)

one_sign : (p : Literal → Bool) (i : ℕ) (v : Bool) (rest : List Literal) → p (lit i true) ≡ v → p (lit i false) ≡ not v
    → filter p (lit i true ∷ lit i false ∷ rest) ≡ lit i v ∷ filter p rest
one_sign p i true rest plain other = rw (plain, other) refl
one_sign p i false rest plain other = rw (plain, other) refl

no_sign : (p : Literal → Bool) (i : ℕ) (rest : List Literal) → p (lit i true) ≡ false → p (lit i false) ≡ false
    → filter p (lit i true ∷ lit i false ∷ rest) ≡ filter p rest
no_sign p i rest plain other = rw (plain, other) refl

its_sign : (l : Literal) (v : Bool) → same_literal (lit l.sig v) l ≡ beq v l.plain
its_sign l v = elim (eqb_tells l.sig l.sig) [ inl same ↦ rw same.0 refl | inr other ↦ absurd (other.1 refl) ]

beq_plain : (v : Bool) → beq true v ≡ v
beq_plain true = refl
beq_plain false = refl

beq_other : (v : Bool) → beq false v ≡ not v
beq_other true = refl
beq_other false = refl

-- of the literals of the signals from the i-th on, just these pass
abbrev Pass : (Literal → Bool) → ℕ → List Literal → Type 0
Pass p i ls = (m : Literal) → i ≤ m.sig → p m ≡ has_literal ls m

-- ---- the first literal is of signal i

its_signs : (p : Literal → Bool) (i : ℕ) (l : Literal) (ls : List Literal) → Pass p i (l ∷ ls) → i ≡ l.sig
    → Rises (l.sig + 1) ls → (v : Bool) → p (lit i v) ≡ beq v l.plain
its_signs p i l ls pass same rises v =
    let sign : same_literal (lit i v) l ≡ beq v l.plain =
    ap (λ (s : ℕ). same_literal (lit s v) l) same ∙ its_sign l v in
    let none : has_literal ls (lit i v) ≡ false = absent (lit i v) (i + 1) ls (omega arith) (rw same rises) in
    pass (lit i v) (omega arith) ∙ rw (sign, none) (or-false (beq v l.plain))

behind_first : (p : Literal → Bool) (i : ℕ) (l : Literal) (ls : List Literal) → Pass p i (l ∷ ls) → i ≡ l.sig
    → Pass p (i + 1) ls
behind_first p i l ls pass same m above =
    let other : same_literal m l ≡ false = other_signal m l (λ e. omega (arith, e, above, same)) in
    pass m (omega arith) ∙ rw other refl

first_kept : (p : Literal → Bool) (i : ℕ) (l : Literal) (ls rest : List Literal) → Pass p i (l ∷ ls) → i ≡ l.sig
    → Rises (l.sig + 1) ls → filter p rest ≡ ls → filter p (lit i true ∷ lit i false ∷ rest) ≡ l ∷ ls
first_kept p i l ls rest pass same rises later =
    let signs : (v : Bool) → p (lit i v) ≡ beq v l.plain = its_signs p i l ls pass same rises in
    one_sign p i l.plain rest (signs true ∙ beq_plain l.plain) (signs false ∙ beq_other l.plain)
    ∙ ap₂ (λ (s : ℕ) (ms : List Literal). lit s l.plain ∷ ms) same later

-- ---- it is of a later signal

none_kept : (p : Literal → Bool) (i : ℕ) (ls rest : List Literal) → Pass p i ls → Rises (i + 1) ls
    → filter p rest ≡ ls → filter p (lit i true ∷ lit i false ∷ rest) ≡ ls
none_kept p i ls rest pass rises later =
    let none : (v : Bool) → p (lit i v) ≡ false =
    λ v. pass (lit i v) (omega arith) ∙ absent (lit i v) (i + 1) ls (omega arith) rises in
    no_sign p i rest (none true) (none false) ∙ later

one_less : (n i : ℕ) (ls : List Literal) → AreBelow (i + suc n) ls → AreBelow (i + 1 + n) ls
one_less n i [] below = tt
one_less n i (l ∷ ls) below = (omega (arith, below.0), one_less n i ls below.1)

-- just these literals of the next signals, so many, from the i-th on, pass
kept : (n i : ℕ) (p : Literal → Bool) (ls : List Literal) → Rises i ls → AreBelow (i + n) ls → Pass p i ls
    → filter p (both_from n i) ≡ ls
kept zero i p [] rises low pass = refl
kept zero i p (l ∷ ls) rises low pass =
    let from : i ≤ l.sig = rises.0 in
    let below : l.sig < i + 0 = low.0 in
    absurd (omega arith)
kept (suc n) i p [] rises low pass = none_kept p i [] (both_from n (i + 1)) pass tt
    (kept n (i + 1) p [] tt tt (λ m above. pass m (omega arith)))
kept (suc n) i p (l ∷ ls) rises low pass = elim (eqb_tells i l.sig) [
  | inl same ↦ first_kept p i l ls (both_from n (i + 1)) pass same.1 rises.1 (kept n (i + 1) p ls
      (rw same.1 rises.1) (one_less n i ls low.1) (behind_first p i l ls pass same.1))
  | inr other ↦
      let first : i ≤ l.sig = rises.0 in
      let later : Rises (i + 1) (l ∷ ls) = (omega (arith, other.1), rises.1) in
      none_kept p i (l ∷ ls) (both_from n (i + 1)) pass later (kept n (i + 1) p (l ∷ ls) later
      (one_less n i (l ∷ ls) low) (λ m above. pass m (omega arith)))
]

pub in_order : (ls : List Literal) → InSignalOrder ls → AreBelow code_width ls → in_literal_order ls ≡ ls
unfolding in_literal_order
in_order ls rising below =
    kept code_width 0 (has_literal ls) ls (rises_from 0 ls (low ls) rising) below (λ m from. refl)
  where
    low : (ms : List Literal) → AllByRecursion (λ (l : Literal). 0 ≤ l.sig) ms
    low [] = tt
    low (m ∷ ms) = (omega arith, low ms)
