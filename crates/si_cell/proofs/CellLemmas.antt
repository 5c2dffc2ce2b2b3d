-- Pins, sums and cells of lines without fault.
use Rattle.std.proofs.Common.{◌≡◌, ◌≢◌, ℕ, ◌+◌, ◌<◌, ◌≤◌, ◌==◌, ◌||◌, not, Bool, true, false, List, [], ◌∷◌, ◌++◌}
use Rattle.std.proofs.Common.{length, map, get_or, bytes_eq, codes, Option, Some, None, Ok, Err, refl, sym, ap, ◌∙◌}
use Rattle.std.proofs.Common.{arith, if◌then◌else◌, inl, inr, append_assoc, subst, AllPairs, All, IsTrue, nat_le}
use Rattle.std.proofs.Common.{is_some}
use Rattle.std.specs.List.{AllByRecursion, list_any}
use Rattle.std.proofs.lemmas.Bool.{true≢false, cases_Bool, false_from_ne_true, not-false, or_parts}
use Rattle.std.proofs.lemmas.Bool.Decides.{eqb_tells, leb_tells}
use Rattle.std.proofs.lemmas.List.{length_push, length-map, get_or-map, get_or_append_left, append-nil}
use Rattle.std.proofs.lemmas.List.Quantifiers.{all_pairs_push, position-Some}
use Rattle.std.proofs.lemmas.List.Elements.{All-nil, All-push, filter_passes, recursion_from_All}
use Rattle.std.proofs.lemmas.List.Folds.{list_any_none, list_any_at}
use mathlib.Core.Bool.{beq}
use Rattle.si_base.proofs.BitFacts.{set_same, set_flip, beq_false}
use Rattle.si_base.proofs.GraphSteps.{beq-true}
use Rattle.si_base.specs.Bits.{bit, flip, IsSet}
use Rattle.si_base.specs.Faults.{when, first_after}
use Rattle.si_base.specs.Netlist.{Sum}
use Rattle.si_base.specs.TextFaults.{ShowsKind}
use Rattle.si_base.specs.Words.{is_signal_name}
use Rattle.si_base.specs.declared.fault.LineFault.{LineFault}
use Rattle.si_base.specs.declared.fault.LineFault.TheVariants.{NoMemory, Kind}
use Rattle.si_base.specs.declared.fault.TextKind.{TextKind}
use Rattle.si_base.specs.declared.fault.TextKind.TheVariants.{BadLine, Repeated, BadName, TooManyPins, TooManyCells}
use Rattle.si_base.specs.declared.ids.Literal.{Literal}
use Rattle.si_cube.proofs.LiteralLemmas.{rising_of}
use Rattle.si_cube.specs.Literals.{InSignalOrder}
use Rattle.si_words.proofs.FaultLemmas.{both, not_when}
use Rattle.si_words.proofs.SumWordLemmas.{unmarked}
use Rattle.si_words.specs.Names.{stands_in}
use Rattle.si_words.specs.Sums.{is_one, is_literal, literal_name, parts_at, place_in}
use Rattle.si_tokens.proofs.LinePartLemmas.{made_read, made_form, each_form, each_read}
use Rattle.si_tokens.specs.LineParts.{Part, held, part_fault}
use Rattle.si_tokens.specs.SumParts.{literal_at, cube_by}
use Rattle.si_cell.specs.CellWords.{CellWords, cell_name_fault, pin_fault, front_fault, plain_part, new_among}
use Rattle.si_cell.specs.CellWords.{next_literal, cube_part, sum_part, declared, cell_fault}
use Rattle.si_cell.specs.Library.{Cell, IsCell, AreCells, IsPinName, own}
use Rattle.si_cell.specs.Limits.{max_cells, max_pins}
use Rattle.si_cell.specs.Literals.{has_literal, same_literal, in_literal_order, both_from}
use Rattle.si_cell.proofs.OrderLemmas.{makes_in_order}
use Rattle.si_cell.proofs.CubeLemmas.{Built, built_none, built_more, same_is, names_same, same_name}

-- ---- pins
pub good_pin : (before : List (List ℕ)) (pin : List ℕ) → pin_fault before pin ≡ None
    → IsPinName pin × (stands_in before pin ≡ false) × (length before < max_pins)
good_pin before pin none =
    let parts = both (when (not (is_signal_name pin) || bytes_eq own pin) BadName) _ none in
    let later = both (when (stands_in before pin) Repeated) _ parts.1 in
    let name = or_parts _ _ (not_when _ BadName parts.0) in
    let room = not_when (nat_le max_pins (length before)) TooManyPins later.1 in (
      record { signal_name = not-false _ name.0; other = λ e. true≢false (sym (same_name own pin (sym e)) ∙ name.1) },
      not_when _ Repeated later.0,
      elim (leb_tells max_pins (length before)) [
        | inl full ↦ absurd (true≢false (sym full.0 ∙ room))
        | inr few ↦ few.1
      ],
    )

pub no_own : (pins : List (List ℕ)) → All IsPinName pins → stands_in pins own ≡ false
no_own pins good = list_any_none (bytes_eq own) pins (λ k d inside. false_from_ne_true _ (λ same.
    (good k d inside).other (sym (names_same _ _ same))))

-- ---- literals
-- a word whose name is that of the own output, and that is not complemented
plain_own : (w : List ℕ) → literal_name w ≡ codes "q" → bytes_eq (codes "q'") w ≡ false → w ≡ codes "q"
plain_own [] is other = absurd cc
plain_own (b ∷ []) is other = elim (cases_Bool (b == 39)) [
  | inl mark ↦ absurd (let none : [] ≡ codes "q" = rw mark at is in cc)
  | inr letter ↦ rw letter at is
]
plain_own (b ∷ c ∷ []) is other = elim (cases_Bool (c == 39)) [
  | inl mark ↦
      let short : b ∷ [] ≡ codes "q" = rw mark at (sym (unmarked b c []) ∙ is) in
      let first : b ≡ 113 = cc in
      let second : c ≡ 39 = marks c mark in
      absurd (true≢false (sym (rw (first, second) refl) ∙ other))
  | inr letter ↦ absurd (let long : b ∷ c ∷ [] ≡ codes "q" = rw letter at (sym (unmarked b c []) ∙ is) in cc)
]
  where
    marks : (c : ℕ) → (c == 39) ≡ true → c ≡ 39
    marks c mark = elim (eqb_tells c 39) [
      | inl same ↦ same.1
      | inr no_mark ↦ absurd (true≢false (sym mark
          ∙ no_mark.0))
    ]
plain_own (b ∷ c ∷ d ∷ bs) is other =
    let long : b ∷ c ∷ literal_name (d ∷ bs) ≡ codes "q" = ap (λ (l : List ℕ). b ∷ l) (sym (unmarked c d bs))
    ∙ sym (unmarked b c (d ∷ bs)) ∙ is in
    absurd cc

-- a literal of a name that is there; the own output is plain
pub record IsGiven (names : List (List ℕ)) (l : Literal) : Type 0 where
  pub there : l.sig < length names
  pub plain : get_or names l.sig [] ≡ own → IsTrue l.plain

literal_given : (names : List (List ℕ)) (word : List ℕ) (l : Literal) → plain_part names word ≡ Some (Ok l)
    → IsGiven names l
literal_given names word l is = elim (cases_Bool (bytes_eq (codes "q'") word)) [
  | inl marked ↦ absurd (let none : None ≡ Some (Ok l) = rw marked at is in cc)
  | inr other ↦ elim (cases_Bool (is_literal word)) [
    | inr bad ↦ absurd (let none : None ≡ Some (Ok l) = rw (other, bad) at is in cc)
    | inl good ↦ by_place (place_in names word) refl other (rw (other, good) at is)
  ]
]
  where
    by_place : (o : Option ℕ) → place_in names word ≡ o → bytes_eq (codes "q'") word ≡ false
        → Some (literal_at word o) ≡ Some (Ok l) → IsGiven names l
    by_place None at other is = absurd cc
    by_place (Some k) at other is =
        let found = position-Some (λ n. bytes_eq (literal_name word) n) names k [] at in
        let name : literal_name word ≡ get_or names k [] = names_same _ _ found.1 in
        let same : record { sig = k; plain = bytes_eq word (literal_name word) } ≡ l = cc in
        subst (IsGiven names) same (record {
          there = found.0;
          plain = λ owns. same_name word (literal_name word)
              (plain_own word (name ∙ owns) other ∙ sym (name ∙ owns));
        })

-- ---- cubes and sums
set_exists : (code k : ℕ) (v : Bool) → (new : ℕ) × IsSet code k v new
set_exists code k v = elim (cases_Bool (beq (bit code k) v)) [
  | inl same ↦ (code, set_same code k v (beq-true (bit code k) v same))
  | inr other ↦ (flip code k, set_flip code k v (beq_false (bit code k) v other))
]

one_of : (P : Literal → Type 0) (l : Literal) (ls : List Literal) → AllByRecursion P ls
    → has_literal ls l ≡ true → P l
one_of P l [] all has = absurd (true≢false (sym has))
one_of P l (m ∷ ms) all has = elim (cases_Bool (same_literal l m)) [
  | inl same ↦ subst P (sym (same_is l m same)) all.0
  | inr other ↦ one_of P l ms all.1 (rw other at has)
]

in_order_all : (P : Literal → Type 0) (ls : List Literal) → All P ls → All P (in_literal_order ls)
unfolding in_literal_order
in_order_all P ls all = λ k d inside. one_of P _ ls (recursion_from_All P ls all)
    (filter_passes (has_literal ls) (both_from 128 0) k d inside)

module _ (names : List (List ℕ)) where
  -- literals that were read, and the cube that they make
  abbrev Read : List Literal → Type 0
  Read ls = All (IsGiven names) ls × (care : ℕ) × (value : ℕ) × Built ls care value

  none_read : Read []
  none_read = (All-nil (IsGiven names), 0, 0, built_none)

  one_more : (before : List Literal) (word : List ℕ) (l : Literal) → Read before
      → next_literal names before word ≡ Some (Ok l) → Read (before ++ l ∷ [])
  one_more before word l read is = by_part (plain_part names word) refl is
    where
      by_part : (part : Part Literal) → plain_part names word ≡ part → new_among before part ≡ Some (Ok l)
          → Read (before ++ l ∷ [])
      by_part None at is = absurd cc
      by_part (Some (Err kind)) at is = absurd cc
      by_part (Some (Ok m)) at is = elim (cases_Bool (list_any (λ k. k.sig == m.sig) before)) [
        | inl again ↦ absurd (let bad : Some (Err Repeated) ≡ Some (Ok l) = rw again at is in cc)
        | inr new ↦ (
            let same : Some (Ok m) ≡ Some (Ok l) = rw new at is in
            let it_is : m ≡ l = cc in
            let (given, care, value, built) = read in
            let (care2, s) = set_exists care m.sig true in
            let (value2, t) = set_exists value m.sig m.plain in
            subst (λ k. Read (before ++ k ∷ [])) it_is (
              All-push (IsGiven names) before m given (literal_given names word m at),
              care2,
              value2,
              built_more before m care value care2 value2 built (sym (built.there m.sig) ∙ new) s t,
            ))
      ]

  abbrev pub IsCubeOf : List Literal → Type 0
  IsCubeOf cube = All (IsGiven names) cube × InSignalOrder cube

  pub cube_given : (words : List (List ℕ)) (cube : List Literal) → cube_part names words ≡ Some (Ok cube)
      → IsCubeOf cube
  cube_given [] cube is = absurd cc
  cube_given (w ∷ ws) cube is =
      let (ls, read, same) = made_read in_literal_order (cube_by (next_literal names) (w ∷ ws)) cube is in
      let (given, care, value, built) = literals ls read in
      subst IsCubeOf same (
        in_order_all (IsGiven names) ls given,
        subst InSignalOrder (makes_in_order ls care value built.made_of) (rising_of care value),
      )
    where
      literals : (ls : List Literal) → cube_by (next_literal names) (w ∷ ws) ≡ Some (Ok ls) → Read ls
      literals ls is = elim (cases_Bool (is_one (codes "1") (w ∷ ws))) [
        | inl one ↦ (
            let none : Some (Ok []) ≡ Some (Ok ls) = rw one at is in
            let same : [] ≡ ls = cc in
            subst Read same none_read)
        | inr many ↦ each_read (next_literal names) (λ before left. Read before)
            (λ before word left l. one_more before word l) [] (w ∷ ws) ls none_read (rw many at is)
      ]

  pub sum_given : (words : List (List ℕ)) (sum : Sum) → sum_part names words ≡ Some (Ok sum) → All IsCubeOf sum
  sum_given words sum is = elim (cases_Bool (is_one (codes "0") words)) [
    | inl one ↦ (
        let none : Some (Ok []) ≡ Some (Ok sum) = rw one at is in
        let same : [] ≡ sum = cc in
        subst (All IsCubeOf) same (All-nil IsCubeOf))
    | inr many ↦ each_read (λ before. cube_part names) (λ before left. All IsCubeOf before)
        (λ before word left c good here. All-push IsCubeOf before c good (cube_given word c here)) []
        (parts_at (codes "+") words) sum (All-nil IsCubeOf) (rw many at is)
  ]

-- the literals of a cube are those of pins and of the own output
pub cube_low : (names words : List (List ℕ)) (cube : List Literal) → length names ≤ max_pins + 1
    → cube_part names words ≡ Some (Ok cube) → All (λ (l : Literal). l.sig ≤ max_pins) cube
cube_low names words cube few is = λ k d inside. (
    let there = ((cube_given names words cube is).0 k d inside).there in
    omega (arith, there, few))

at_end : (pins : List (List ℕ)) → get_or (pins ++ own ∷ []) (length pins) [] ≡ own
at_end [] = refl
at_end (p ∷ pins) = at_end pins

-- ---- cells
pub good_name : (cells : List (List ℕ)) (name : List ℕ) → cell_name_fault cells name ≡ None
    → (is_signal_name name ≡ true) × (stands_in cells name ≡ false) × (length cells < max_cells)
good_name cells name none =
    let parts = both (when (not (is_signal_name name)) BadName) _ none in
    let later = both (when (stands_in cells name) Repeated) _ parts.1 in
    let room = not_when (nat_le max_cells (length cells)) TooManyCells later.1 in (
      not-false _ (not_when _ BadName parts.0),
      not_when _ Repeated later.0,
      elim (leb_tells max_cells (length cells)) [
        | inl full ↦ absurd (true≢false (sym full.0 ∙ room))
        | inr few ↦ few.1
      ],
    )

pub is_cell : (name : List ℕ) (pins ws : List (List ℕ)) (sum : Sum) → is_signal_name name ≡ true → All IsPinName pins
    → AllPairs (λ x y. x ≢ y) (declared pins) → length pins ≤ max_pins → sum_part (declared pins) ws ≡ Some (Ok sum)
    → IsCell (record { name = name; pins = pins; sum = sum })
is_cell name pins ws sum good pins_good distinct few is =
    let count : length (declared pins) ≡ length pins + 1 = length_push pins own in
    let given = sum_given (declared pins) ws sum is in
    record {
      name = good;
      pins = pins_good;
      distinct = λ j k d order within. (
          let wider : k < length (declared pins) = omega (arith, count, within) in
          let at_j = get_or_append_left pins (own ∷ []) d j (omega (arith, order, within)) in
          let at_k = get_or_append_left pins (own ∷ []) d k within in
          λ e. distinct j k d order wider (at_j ∙ e ∙ sym at_k));
      few_pins = few;
      sum = λ k d inside. record {
        rising = (given k d inside).1;
        there = λ i l within. (let below = ((given k d inside).0 i l within).there in omega (arith, count, below));
      };
      own_plain = λ k d inside i l within last. ((given k d inside).0 i l within).plain
          (ap (λ (j : ℕ). get_or (declared pins) j []) last ∙ at_end pins);
    }

pub more_cells : (cells : List Cell) (cell : Cell) → AreCells cells → IsCell cell
    → stands_in (map (λ c. c.name) cells) cell.name ≡ false
    → length cells < max_cells → AreCells (cells ++ cell ∷ [])
more_cells cells cell good is new few = record {
  each = All-push IsCell cells cell good.each is;
  distinct = all_pairs_push (λ (x y : Cell). x.name ≢ y.name) cells cell good.distinct
      (λ k d inside e. true≢false (sym (list_any_at (λ n. bytes_eq cell.name n) (map (λ
      (c : Cell). c.name) cells) k [] (rw length-map inside)
      (same_name _ _ (sym e ∙ sym (get_or-map (λ (c : Cell). c.name) cells k d [] inside)))) ∙ new));
  few = rw length_push (omega (arith, few));
}

-- pins without fault
pins_from : (before pins : List (List ℕ)) → All IsPinName before → AllPairs (λ x y. x ≢ y) before
    → length before ≤ max_pins
    → first_after pin_fault before pins ≡ None
    → All IsPinName (before ++ pins) × AllPairs (λ x y. x ≢ y) (before ++ pins) × (length (before ++ pins) ≤ max_pins)
pins_from before [] good distinct few none = rw append-nil (good, distinct, few)
pins_from before (pin ∷ pins) good distinct few none =
    let parts = both (pin_fault before pin) _ none in
    let (here, new, room) = good_pin before pin parts.0 in
    rw at_cons (pins_from (before ++ pin ∷ []) pins (All-push IsPinName before pin good here)
    (all_pairs_push (λ x y. x ≢ y) before pin distinct
    (λ k d inside e. true≢false (sym (list_any_at (bytes_eq pin) before k d inside (same_name _ _ (sym e))) ∙ new)))
    (rw length_push (omega (arith, room))) parts.1)
  where
    at_cons : before ++ pin ∷ pins ≡ (before ++ pin ∷ []) ++ pins
    at_cons = sym (append_assoc before (pin ∷ []) pins)

pub good_pins : (pins : List (List ℕ)) → first_after pin_fault [] pins ≡ None
    → All IsPinName pins × AllPairs (λ x y. x ≢ y) (declared pins) × (length pins ≤ max_pins)
good_pins pins none =
    let (good, distinct, few) = pins_from [] pins (All-nil IsPinName) (λ j k d order within. absurd (omega arith))
    (omega arith) none in
    (good, all_pairs_push (λ x y. x ≢ y) pins own distinct (λ k d inside e. (good k d inside).other e), few)

-- ---- the line of a cell

-- the form of a sum doesn't ask for the names
pub form_same : (names others : List (List ℕ)) (words : List (List ℕ))
    → is_some (sum_part names words) ≡ is_some (sum_part others words)
form_same names others words = elim (cases_Bool (is_one (codes "0") words)) [
  | inl zero ↦ rw zero refl
  | inr many ↦ rw many (each_form (λ before. cube_part names) (λ before. cube_part others)
      (λ before after ws. made_form in_literal_order (cube_by (next_literal names) ws) ∙ by_cube ws
      ∙ sym (made_form in_literal_order (cube_by (next_literal others) ws))) [] [] (parts_at (codes "+") words))
]
  where
    new_form : (before : List Literal) (part : Part Literal) → is_some (new_among before part) ≡ is_some part
    new_form before None = refl
    new_form before (Some (Err kind)) = refl
    new_form before (Some (Ok l)) = refl

    by_word : (w : List ℕ) → is_some (plain_part names w) ≡ is_some (plain_part others w)
    by_word w = by_tests (bytes_eq (codes "q'") w) (is_literal w)
      where
        by_tests : (marked good : Bool)
            → is_some (if marked then None else if good then Some (literal_at w (place_in names w)) else None)
            ≡ is_some (if marked then None else if good then Some (literal_at w (place_in others w)) else None)
        by_tests true good = refl
        by_tests false true = refl
        by_tests false false = refl

    by_cube : (ws : List (List ℕ))
        → is_some (cube_by (next_literal names) ws) ≡ is_some (cube_by (next_literal others) ws)
    by_cube [] = refl
    by_cube (w ∷ ws) = elim (cases_Bool (is_one (codes "1") (w ∷ ws))) [
      | inl one ↦ rw one refl
      | inr many ↦ rw many (each_form (next_literal names) (next_literal others)
          (λ before after v. new_form before (plain_part names v) ∙ by_word v
          ∙ sym (new_form after (plain_part others v))) [] [] (w ∷ ws))
    ]

module _ (cells : List (List ℕ)) (words : CellWords) where
  pub few_declared : (names : List (List ℕ)) → front_fault cells words ≡ None → names ≡ declared words.pins
      → length names ≤ max_pins + 1
  few_declared names none is =
      let (good, distinct, few) = good_pins words.pins (both (cell_name_fault cells words.name) _ none).1 in
      let count : length (declared words.pins) ≡ length words.pins + 1 = length_push words.pins own in
      rw is (omega (arith, few, count))

  -- where the front has a fault, it is the line's, but where the sum has another form
  pub fault_before_sum : (fault first : LineFault)
      → first ≡ (if is_some (sum_part [] words.sum) then fault else Kind BadLine)
      → ShowsKind fault (front_fault cells words) → ShowsKind first (cell_fault cells (Some words))
  fault_before_sum fault first is shown = rw (is, form_same [] (declared words.pins) words.sum)
      (by_form fault (front_fault cells words) (sum_part (declared words.pins) words.sum) shown)
    where
      by_form : (fault : LineFault) (front : Option TextKind) (sum : Part Sum) → ShowsKind fault front
          → ShowsKind (if is_some sum then fault else Kind BadLine) (part_fault (held front sum))
      by_form fault None None shown = refl
      by_form fault (Some kind) None shown = refl
      by_form NoMemory front (Some read) shown = tt
      by_form (Kind kind) None (Some read) shown = absurd cc
      by_form (Kind kind) (Some k) (Some read) shown = shown

  -- the cell that was read
  pub cell_read : (names : List (List ℕ)) (name : List ℕ) (pins : List (List ℕ)) (sum : Sum)
      → front_fault cells words ≡ None → names ≡ declared words.pins → sum_part names words.sum ≡ Some (Ok sum)
      → name ≡ words.name → pins ≡ words.pins → IsCell (record { name = name; pins = pins; sum = sum })
  cell_read names name pins sum none is read name_is pins_are =
      let front = both (cell_name_fault cells words.name) _ none in
      let (good, distinct, few) = good_pins words.pins front.1 in
      rw (name_is, pins_are) (is_cell words.name words.pins words.sum sum (good_name cells words.name front.0).0 good
      distinct few (ap (λ (ns : List (List ℕ)). sum_part ns words.sum) (sym is) ∙ read))
