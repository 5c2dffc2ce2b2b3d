-- The cube of a cell's line, read one word after the other.
use Rattle.std.proofs.Common.{◌≡◌, ℕ, ◌+◌, ◌<◌, ◌≤◌, ◌==◌, ◌&&◌, ◌||◌, Bool, true, false, List, [], ◌∷◌, ◌++◌, length}
use Rattle.std.proofs.Common.{drop, get_or, bytes_eq, codes, Bor, Option, Some, None, Ok, Err, refl, sym, ap, ◌∙◌, inl}
use Rattle.std.proofs.Common.{inr}
use Rattle.std.proofs.Math.Bool.{or-false}
use Rattle.std.proofs.lemmas.Bool.{true≢false, cases_Bool, or_right}
use Rattle.std.proofs.lemmas.Bool.Decides.{eqb_tells}
use Rattle.std.proofs.lemmas.List.Folds.{list_any-append}
use Rattle.std.proofs.lemmas.Nat.Bits.{bit_at-zero}
use Rattle.std.proofs.lemmas.Slice.Eq.{bytes_eq-Decides}
use Rattle.std.specs.List.{list_any, list_all}
use Rattle.std.specs.Option.{option_or}
use mathlib.Core.Bool.{beq}
use Rattle.si_base.proofs.GraphSteps.{beq-refl, beq-true}
use Rattle.si_base.specs.Bits.{bit, IsSet}
use Rattle.si_base.specs.declared.fault.TextKind.{TextKind}
use Rattle.si_base.specs.declared.fault.TextKind.TheVariants.{Repeated}
use Rattle.si_base.specs.declared.ids.Literal.{Literal}
use Rattle.si_cube.specs.Literals.{literals_of}
use Rattle.si_words.specs.Loops.Reads.{words_now}
use Rattle.si_words.specs.Sums.{is_one}
use Rattle.si_tokens.specs.LineParts.{made, held, each_after}
use Rattle.si_tokens.proofs.LinePartLemmas.{with_fault, with_value, all_read}
use Rattle.si_cell.specs.CellWords.{plain_part, new_among, next_literal, cube_part}
use Rattle.si_cell.specs.Literals.{same_literal, in_literal_order}
use Rattle.si_cell.proofs.OrderLemmas.{Makes, makes_none, makes_more, makes_in_order}

pub same_name : (a b : List ℕ) → a ≡ b → bytes_eq a b ≡ true
same_name a b e = (bytes_eq-Decides a b).1 e

pub names_same : (a b : List ℕ) → bytes_eq a b ≡ true → a ≡ b
names_same a b e = (bytes_eq-Decides a b).0 e

pub same_is : (l m : Literal) → same_literal l m ≡ true → l ≡ m
same_is l m e = by_sig l m e
  where
    by_sig : (l m : Literal) → same_literal l m ≡ true → l ≡ m
    by_sig l m e = elim (eqb_tells l.sig m.sig) [
      | inl same ↦ (let signs : beq l.plain m.plain ≡ true = rw same.0 at e in
          let make : ℕ → Bool → Literal = λ s v. record { sig = s; plain = v } in
          ap (λ s. make s l.plain) same.1 ∙ ap (λ v. make m.sig v) (beq-true l.plain m.plain signs))
      | inr other ↦ absurd (true≢false (sym e ∙ rw other.0 refl))
    ]

pub same_self : (l : Literal) → same_literal l l ≡ true
same_self l = elim (eqb_tells l.sig l.sig) [
  | inl same ↦ rw (same.0) (beq-refl l.plain)
  | inr other ↦ absurd (other.1 refl)
]

pub and_first : (a b : Bool) → (a && b) ≡ true → a ≡ true
and_first true b e = refl
and_first false b e = absurd (true≢false (sym e))

pub and_second : (a b : Bool) → (a && b) ≡ true → b ≡ true
and_second true b e = e
and_second false b e = absurd (true≢false (sym e))

-- one that passes a test: it passes each test that all pass, and shows that one passes each test that it passes
pub found : {A : Type 0} (p : A → Bool) (xs : List A) → list_any p xs ≡ true
    → (x : A) × (p x ≡ true) × ((q : A → Bool) → list_all q xs ≡ true → q x ≡ true) × ((r : A → Bool) → r x ≡ true
    → list_any r xs ≡ true)
found {A} p [] any = absurd (true≢false (sym any))
found {A} p (x ∷ xs) any = elim (cases_Bool (p x)) [
  | inl here ↦ (x, here, (λ q all. and_first (q x) (list_all q xs) all), (λ r one. rw one refl))
  | inr other ↦
      let later : list_any p xs ≡ true = rw other at any in
      let (y, passes, all, some) = found p xs later in (
        y,
        passes,
        (λ q every. all q (and_second (q x) (list_all q xs) every)),
        (λ r one. or_right (r x)
            (list_any r xs) (some r one)),
      )
]

-- ---- literals of different signals, and the cube that they make
pub record Built (before : List Literal) (care value : ℕ) : Type 0 where
  pub there : (s : ℕ) → list_any (λ (m : Literal). m.sig == s) before ≡ bit care s
  pub made_of : Makes before care value

pub built_none : Built [] 0 0
built_none = record { there = λ s. sym (rw (bit_at-zero s) refl); made_of = makes_none }

-- one more, whose signal is not there yet
pub built_more : (before : List Literal) (l : Literal) (care value care2 value2 : ℕ) → Built before care value
    → bit care l.sig ≡ false → IsSet care l.sig true care2 → IsSet value l.sig l.plain value2
    → Built (before ++ l ∷ []) care2 value2
built_more before l care value care2 value2 built free s t = record {
  there = λ k. list_any-append (λ (m : Literal). m.sig == k) before (l ∷ []) ∙ rw (built.there k) (by_signal k);
  made_of = makes_more before l care value care2 value2 built.made_of (λ on. absurd (true≢false (sym on ∙ free))) s t;
}
  where
    by_signal : (k : ℕ) → (bit care k || ((l.sig == k) || false)) ≡ bit care2 k
    by_signal k = elim (eqb_tells l.sig k) [
      | inl same ↦ rw (same.0, ← same.1, s.there) (or_right (bit care l.sig) true refl)
      | inr other ↦ rw (other.0, s.others k (λ e. other.1 (sym e))) (or-false (bit care k))
    ]

-- ---- word after word
module _ (names : List (List ℕ)) (words : List (Bor (List ℕ))) where
  -- the words from the i-th on complete the literals before them, which make this cube
  pub record InCube (i care value : ℕ) (fault : Option TextKind) : Type 0 where
    pub before : List Literal
    pub read : held fault (each_after (next_literal names) before (words_now (drop i words)))
        ≡ each_after (next_literal names) [] (words_now words)
    pub built : Built before care value

  abbrev now : Bor (List ℕ) → List ℕ
  now w = w.now

  module _ (i : ℕ) (d : Bor (List ℕ)) (inside : i < length words) (care value : ℕ) (fault : Option TextKind)
      (so_far : InCube i care value fault) where
    abbrev word : List ℕ
    word = (get_or words i d).now

    faulty : (kind : TextKind) → next_literal names so_far.before word ≡ Some (Err kind)
        → InCube (i + 1) care value (option_or fault (Some kind))
    faulty kind is = record {
      before = so_far.before;
      read = sym (with_fault (next_literal names) now so_far.before fault words i d inside kind is) ∙ so_far.read;
      built = so_far.built;
    }

    pub undeclared : (kind : TextKind) → plain_part names word ≡ Some (Err kind)
        → InCube (i + 1) care value (option_or fault (Some kind))
    undeclared kind is = faulty kind (ap (new_among so_far.before) is)

    pub again : (l : Literal) → plain_part names word ≡ Some (Ok l) → bit care l.sig ≡ true
        → InCube (i + 1) care value (option_or fault (Some Repeated))
    again l is there =
        faulty Repeated (ap (new_among so_far.before) is ∙ rw (so_far.built.there l.sig, there) refl)

    pub one_more : (l : Literal) (care2 value2 : ℕ) → plain_part names word ≡ Some (Ok l) → bit care l.sig ≡ false
        → IsSet care l.sig true care2 → IsSet value l.sig l.plain value2 → InCube (i + 1) care2 value2 fault
    one_more l care2 value2 is free s t =
        let one : next_literal names so_far.before word ≡ Some (Ok l) =
        ap (new_among so_far.before) is ∙ rw (so_far.built.there l.sig, free) refl in
        record {
          before = so_far.before ++ l ∷ [];
          read = sym (with_value (next_literal names) now so_far.before fault words i d inside l one) ∙ so_far.read;
          built = built_more so_far.before l care value care2 value2 so_far.built free s t;
        }

  -- ---- all words
  by_literals : (length words == 0) ≡ false → is_one (codes "1") (words_now words) ≡ false
      → cube_part names (words_now words)
      ≡ made in_literal_order (each_after (next_literal names) [] (words_now words))
  by_literals some many = by_words words some many
    where
      by_words : (ws : List (Bor (List ℕ))) → (length ws == 0) ≡ false → is_one (codes "1") (words_now ws) ≡ false
          → cube_part names (words_now ws)
          ≡ made in_literal_order (each_after (next_literal names) [] (words_now ws))
      by_words [] some many = absurd (true≢false some)
      by_words (w ∷ ws) some many = rw many refl

  pub one_read : is_one (codes "1") (words_now words) ≡ true
      → Some (Ok (literals_of 0 0)) ≡ cube_part names (words_now words)
  one_read one = ap (λ ls. Some (Ok ls)) (makes_in_order [] 0 0 makes_none) ∙ by_words (words_now words) one
    where
      by_words : (ws : List (List ℕ)) → is_one (codes "1") ws ≡ true
          → Some (Ok (in_literal_order [])) ≡ cube_part names ws
      by_words [] one = absurd (true≢false (sym one))
      by_words (w ∷ ws) one = rw one refl

  module _ (some : (length words == 0) ≡ false) (many : is_one (codes "1") (words_now words) ≡ false) where
    pub cube_read : (i care value : ℕ) (fault : Option TextKind) → length words ≤ i → InCube i care value fault
        → held fault (Some (Ok (literals_of care value))) ≡ cube_part names (words_now words)
    cube_read i care value fault past all = ordered fault all.before (makes_in_order all.before care value all.built.made_of)
        ∙ ap (made in_literal_order) (sym (all_read (next_literal names) now all.before fault words i past) ∙ all.read)
        ∙ sym (by_literals some many)
      where
        ordered : (fault : Option TextKind) (ls : List Literal) {cube : List Literal} → cube ≡ in_literal_order ls
            → held fault (Some (Ok cube)) ≡ made in_literal_order (held fault (Some (Ok ls)))
        ordered None ls is = ap (λ c. Some (Ok c)) is
        ordered (Some kind) ls is = refl
