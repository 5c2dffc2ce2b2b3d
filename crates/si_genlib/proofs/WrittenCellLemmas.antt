-- The line of a cell has no fault, and spells that cell.
use Rattle.std.proofs.Common.{IsTrue, option_map, if◌then◌else◌, ◌≡◌, ◌≢◌, ℕ, ◌+◌, ◌<◌, ◌≤◌, Bool, true, false}
use Rattle.std.proofs.Common.{List, [], ◌∷◌, ◌++◌, length, get_or, All, AllPairs, refl, sym, ap, subst, ◌∙◌, arith}
use Rattle.std.proofs.Common.{append_assoc, codes, bytes_eq, nat_le, position, Option, Some, None, Ok}
use Rattle.std.proofs.lemmas.Bool.{true≢false, and_from, lt-leb, false_from_ne_true}
use Rattle.std.proofs.lemmas.List.{length_push, length-append, map-append, get_or_at, get_or_append_left}
use Rattle.std.proofs.lemmas.List.Elements.{All-push, recursion_from_All}
use Rattle.std.proofs.lemmas.List.Folds.{list_all-append, list_any_none}
use Rattle.std.proofs.lemmas.List.Quantifiers.{all_pairs_push}
use Rattle.std.specs.List.{AllByRecursion, list_all, list_any}
use Rattle.si_base.specs.declared.graph.Signal.{Signal}
use Rattle.si_base.specs.declared.graph.SigKind.TheVariants.{Input}
use Rattle.si_base.specs.declared.ids.Literal.{Literal}
use Rattle.si_base.specs.Faults.{first_after}
use Rattle.si_base.specs.GivenGraph.{signals_of}
use Rattle.si_base.specs.Graph.{name_of, names_in}
use Rattle.si_base.specs.Netlist.{Sum}
use Rattle.si_base.specs.NetlistText.{literal_word, sum_words}
use Rattle.si_base.specs.WellFormed.{IsCube}
use Rattle.si_base.specs.Words.{is_word_byte, is_signal_name}
use Rattle.si_words.proofs.NameWords.{name_word}
use Rattle.si_words.proofs.WrittenLineLemmas.{IsWord, AreWords}
use Rattle.si_words.specs.Names.{stands_in}
use Rattle.si_cube.specs.Literals.{InSignalOrder}
use Rattle.si_tokens.proofs.CutLemmas.{cut_made}
use Rattle.si_tokens.proofs.SumPartLemmas as sums
use Rattle.si_tokens.specs.LineParts.{part_fault, part_value}
use Rattle.si_tokens.specs.SumParts.{literal_part}
use Rattle.si_cell.proofs.CubeLemmas.{names_same}
use Rattle.si_cell.specs.CellWords.{CellWords, around, cell_words, pin_fault, sum_part, cell_fault, cell_of, declared}
use Rattle.si_cell.specs.Library.{Cell, IsCell, IsPinName, own}
use Rattle.si_cell.specs.Limits.{max_cells, max_pins}
use Rattle.si_genlib.proofs.WrittenSumLemmas.{AreNames, sum_forth}
use Rattle.si_genlib.specs.Written.{cell_line, signals_in}

-- ---- names are words

joined : (xs ys : List ℕ) → list_all is_word_byte xs ≡ true → list_all is_word_byte ys ≡ true
    → list_all is_word_byte (xs ++ ys) ≡ true
joined xs ys first last = rw list_all-append (and_from _ _ first last)

signed_is_word : (name : List ℕ) (plain : Bool) → IsWord name → IsWord (name ++ (if plain then [] else 39 ∷ []))
signed_is_word [] plain is = absurd (true≢false (sym is))
signed_is_word (b ∷ bs) true is = joined (b ∷ bs) [] is refl
signed_is_word (b ∷ bs) false is = joined (b ∷ bs) (39 ∷ []) is refl

-- ---- what is new in a list

pub is_new : {A : Type 0} (name : A → List ℕ) (before : List A) (x : A) (later : List A)
    → AllPairs (λ a b. name a ≢ name b) (before ++ x ∷ later)
    → list_any (λ a. bytes_eq (name x) (name a)) before ≡ false
is_new name before x later distinct = list_any_none (λ a. bytes_eq (name x) (name a)) before (λ k d inside.
    false_from_ne_true _ (λ same.
    let within : length before < length (before ++ x ∷ later) = omega (arith, length-append before (x ∷ later)) in
    distinct k (length before) d inside within (ap name (get_or_append_left before (x ∷ later) d k inside)
    ∙ sym (names_same _ _ same) ∙ ap name (sym (get_or_at before x later d (length before) refl)))))

pub at_here : {A : Type 0} (P : A → Type 0) (before : List A) (x : A) (later : List A) → All P (before ++ x ∷ later)
    → P x
at_here P before x later all =
    let within : length before < length (before ++ x ∷ later) = omega (arith, length-append before (x ∷ later)) in
    subst P (get_or_at before x later x (length before) refl) (all (length before) x within)

-- ---- pins

pins_good : (before pins : List (List ℕ)) → All IsPinName (before ++ pins) → AllPairs (λ x y. x ≢ y) (before ++ pins)
    → length (before ++ pins) ≤ max_pins → first_after pin_fault before pins ≡ None
pins_good before [] good distinct few = refl
pins_good before (pin ∷ pins) good distinct few =
    let here : IsPinName pin = at_here IsPinName before pin pins good in
    let other : bytes_eq own pin ≡ false = false_from_ne_true _ (λ same. here.other (sym (names_same own pin same))) in
    let room : nat_le max_pins (length before) ≡ false =
    lt-leb max_pins (length before) (omega (arith, few, length-append before (pin ∷ pins))) in
    let shift : (before ++ pin ∷ []) ++ pins ≡ before ++ pin ∷ pins = append_assoc before (pin ∷ []) pins in
    rw (here.signal_name, other, is_new (λ n. n) before pin pins distinct, room)
    (pins_good (before ++ pin ∷ []) pins (subst (All IsPinName) (sym shift) good)
    (subst (AllPairs (λ x y. x ≢ y)) (sym shift) distinct)
    (subst (λ (ns : List (List ℕ)). length ns ≤ max_pins) (sym shift) few))

-- ---- a cell

named : (pins : List (List ℕ)) → names_in (signals_of Input pins) ≡ pins
named [] = refl
named (pin ∷ pins) = ap (λ (ns : List (List ℕ)). pin ∷ ns) (named pins)

pub names_are : (cell : Cell) → names_in (signals_in cell) ≡ declared cell.pins
names_are cell = map-append (λ (x : Signal). x.name) (signals_of Input cell.pins) _
    ∙ ap (λ (ns : List (List ℕ)). ns ++ own ∷ []) (named cell.pins)

module _ (cell : Cell) (is : IsCell cell) where
  abbrev signals : List Signal
  signals = signals_in cell

  abbrev count : ℕ
  count = length cell.pins

  abbrev sum : List (List ℕ)
  sum = sum_words signals cell.sum

  abbrev words : CellWords
  words = record { name = cell.name; pins = cell.pins; sum = sum }

  declared_are : AreNames (declared cell.pins)
  declared_are =
      let few : count ≤ max_pins = is.few_pins in
      record {
        good = All-push (λ w. IsTrue (is_signal_name w)) cell.pins own (λ k d inside. (is.pins k d inside).signal_name)
            refl;
        distinct = all_pairs_push (λ x y. x ≢ y) cell.pins own is.distinct (λ k d inside. (is.pins k d inside).other);
        few = omega (arith, few, length_push cell.pins own);
      }

  names_good : AreNames (names_in signals)
  names_good = subst AreNames (sym (names_are cell)) declared_are

  how_many : length (names_in signals) ≡ count + 1
  how_many = ap length (names_are cell) ∙ length_push cell.pins own

  -- ---- the literals of its sum
  abbrev Here : Literal → Type 0
  Here l = (l.sig < length (names_in signals)) × (l.sig ≡ count → IsTrue l.plain)

  own_place : position (λ n. bytes_eq own n) (names_in signals) ≡ Some count
  own_place =
      let at : get_or (names_in signals) count [] ≡ own = ap (λ (ns : List (List ℕ)). get_or ns count [])
      (names_are cell) ∙ get_or_at cell.pins own [] [] count refl in
      subst (λ (w : List ℕ). position (λ n. bytes_eq w n) (names_in signals) ≡ Some count) at
      (sums.place signals names_good.good names_good.distinct count (omega (arith, how_many)))

  -- the own output stands only plain
  not_marked : (l : Literal) → Here l → bytes_eq (codes "q'") (literal_word signals l) ≡ false
  not_marked l here = false_from_ne_true _ (λ same.
      let read : literal_part (names_in signals) (codes "q'") ≡ Some (Ok l) =
      ap (literal_part (names_in signals)) (names_same (codes "q'") (literal_word signals l) same)
      ∙ sums.literal_forth signals names_good.good names_good.distinct l here.0 in
      let spelled : Some (Ok (record { sig = count; plain = false })) ≡ Some (Ok l) = rw own_place at read in
      let is_it : record { sig = count; plain = false } ≡ l = cc in
      let at : l.sig ≡ count = ap (λ (m : Literal). m.sig) (sym is_it) in
      true≢false (sym (here.1 at) ∙ ap (λ (m : Literal). m.plain) (sym is_it)))

  all_here : AllByRecursion (AllByRecursion Here) cell.sum
  all_here = by_cubes cell.sum (recursion_from_All (IsCube (count + 1)) cell.sum is.sum)
      (recursion_from_All (All (λ (l : Literal). l.sig ≡ count → IsTrue l.plain)) cell.sum is.own_plain)
    where
      by_cubes : (cubes : Sum) → AllByRecursion (IsCube (count + 1)) cubes
          → AllByRecursion (All (λ (l : Literal). l.sig ≡ count → IsTrue l.plain)) cubes
          → AllByRecursion (AllByRecursion Here) cubes
      by_cubes [] are plain = tt
      by_cubes (cube ∷ cubes) are plain = (
        recursion_from_All Here cube (λ k d inside. (rw how_many (are.0.there k d inside), plain.0 k d inside)),
        by_cubes cubes are.1 plain.1,
      )

  rising : AllByRecursion InSignalOrder cell.sum
  rising = each_rises cell.sum (recursion_from_All (IsCube (count + 1)) cell.sum is.sum)
    where
      each_rises : (cubes : Sum) → AllByRecursion (IsCube (count + 1)) cubes → AllByRecursion InSignalOrder cubes
      each_rises [] are = tt
      each_rises (cube ∷ cubes) are = (are.0.rising, each_rises cubes are.1)

  sum_read : sum_part (declared cell.pins) sum ≡ Some (Ok cell.sum)
  sum_read = subst (λ (ns : List (List ℕ)). sum_part ns sum ≡ Some (Ok cell.sum)) (names_are cell)
      (sum_forth signals names_good Here (λ l here. here.0) not_marked cell.sum all_here rising)

  -- ---- the words of the line
  pins_unlike : AllByRecursion (λ w. bytes_eq (codes "=") w ≡ false) cell.pins
  pins_unlike = each cell.pins (recursion_from_All IsPinName cell.pins is.pins)
    where
      each : (pins : List (List ℕ)) → AllByRecursion IsPinName pins
          → AllByRecursion (λ w. bytes_eq (codes "=") w ≡ false) pins
      each [] are = tt
      each (pin ∷ pins) are = (
        false_from_ne_true _ (λ same. true≢false (sym are.0.signal_name
            ∙ sym (ap is_signal_name (names_same (codes "=") pin same)))),
        each pins are.1,
      )

  pub words_cut : cell_words (cell_line cell) ≡ Some words
  words_cut = ap (λ (o : Option (List (List ℕ) × List (List ℕ))). option_map (around cell.name) o)
      (cut_made (codes "=") cell.pins sum pins_unlike)

  pub line_good : (before : List (List ℕ)) → stands_in before cell.name ≡ false → length before < max_cells
      → cell_fault before (Some words) ≡ None
  line_good before new few =
      let room : nat_le max_cells (length before) ≡ false = lt-leb max_cells (length before) few in
      rw (is.name, new, room, pins_good [] cell.pins is.pins is.distinct is.few_pins) (ap part_fault sum_read)

  pub line_spelled : cell_of words ≡ cell
  line_spelled =
      let make : Sum → Cell = λ s. record { name = cell.name; pins = cell.pins; sum = s } in
      ap make (ap (part_value []) sum_read)

  pub line_words : AreWords (cell_line cell)
  line_words = (
    refl,
    (
      name_word cell.name is.name,
      pins_then cell.pins (recursion_from_All IsPinName cell.pins is.pins)
          (refl, sums.of_sum IsWord Here signals literal_is_word refl cell.sum refl refl all_here),
    ),
  )
    where
      pins_then : (pins : List (List ℕ)) → AllByRecursion IsPinName pins → AreWords (codes "=" ∷ sum)
          → AreWords (pins ++ codes "=" ∷ sum)
      pins_then [] are later = later
      pins_then (pin ∷ pins) are later = (name_word pin are.0.signal_name, pins_then pins are.1 later)

      literal_is_word : (l : Literal) → Here l → IsWord (literal_word signals l)
      literal_is_word l here = signed_is_word (name_of signals l.sig) l.plain (name_word (name_of signals l.sig)
          (sums.good_name signals names_good.good names_good.distinct l.sig here.0))
