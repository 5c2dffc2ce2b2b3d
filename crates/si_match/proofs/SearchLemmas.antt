-- The first of many instances.
use Rattle.std.proofs.Common.{◌≡◌, ℕ, zero, suc, ◌+◌, ◌-◌, ◌*◌, ◌/◌, ◌%◌, ◌<◌, ◌≤◌, ◌==◌, Bool, true, false, List, []}
use Rattle.std.proofs.Common.{◌∷◌, ◌++◌, length, map, take, drop, get_or, option_map, Option, Some, None}
use Rattle.std.proofs.Common.{All, refl, sym, ap, subst, ◌∙◌, arith, inl, inr, append_assoc, add-one, filter}
use Rattle.std.specs.Prelude.{flat_map}
use Rattle.std.specs.List.{enumerate_from}
use Rattle.std.proofs.Math.Seq.{drop-cons}
use Rattle.std.proofs.lemmas.Bool.{cases_Bool}
use Rattle.std.proofs.lemmas.List.{drop_all, take_all, length_push, take-append-le}
use Rattle.std.proofs.lemmas.List.Concat.{flat_map-cons}
use Rattle.std.proofs.lemmas.List.Elements.{All-nil, All-cons, All-append, All-map}
use Rattle.std.proofs.lemmas.List.FromFn.{length-enumerate_from, get_or-enumerate_from}
use Rattle.si_base.specs.Codes.{CodedGraph}
use Rattle.si_base.specs.Limits.{code_width}
use Rattle.si_base.specs.declared.ids.Literal.{Literal}
use Rattle.si_cell.specs.Library.{Cell, Library, Instance, admits, cell_at, no_cell}
use Rattle.si_cell.specs.Literals.{both_from}
use Rattle.si_cell.specs.declared.pins.Pins.{Pins}
use Rattle.si_cell.specs.declared.pins.Pins.TheVariants.{Any, Plain}
use Rattle.si_match.specs.Fit.{fits, first_that, lists_of, literals_of_signals, literals_for, instances_of}
use Rattle.si_match.specs.Fit.{first_fit}
use Rattle.si_match.specs.Loops.Search.{first_completion, IsRefuted, literal_at, literal_count}

-- the first, or else the second
abbrev either : {A : Type 0} → Option A → Option A → Option A
either (Some x) later = Some x
either None later = later

-- ---- the first item that passes a test
module _ {A : Type 0} (test : A → Bool) where
  first-append : (xs ys : List A) → first_that test (xs ++ ys) ≡ either (first_that test xs) (first_that test ys)
  first-append [] ys = refl
  first-append (x ∷ xs) ys = elim (cases_Bool (test x)) [
    | inl passes ↦ rw passes refl
    | inr fails ↦ rw fails (first-append xs ys)
  ]

  first_none : (xs : List A) → All (λ x. test x ≡ false) xs → first_that test xs ≡ None
  first_none [] none = refl
  first_none (x ∷ xs) none = let here : test x ≡ false = none 0 x (omega arith) in
      rw here (first_none xs (λ k d inside. none (suc k) d (omega (arith, inside))))

first-map : {A B : Type 0} (test : B → Bool) (f : A → B) (xs : List A)
    → first_that test (map f xs) ≡ option_map f (first_that (λ x. test (f x)) xs)
first-map test f [] = refl
first-map test f (x ∷ xs) = elim (cases_Bool (test (f x))) [
  | inl passes ↦ rw passes refl
  | inr fails ↦ rw fails (first-map test f xs)
]

first_same : {A : Type 0} (one other : A → Bool) (xs : List A) → ((x : A) → one x ≡ other x)
    → first_that one xs ≡ first_that other xs
first_same one other [] same = refl
first_same one other (x ∷ xs) same = rw (same x, first_same one other xs same) refl

-- ---- all literals in literal order
pub literals_count : (n i : ℕ) → length (both_from n i) ≡ 2 * n
literals_count zero i = refl
literals_count (suc n) i = let later = literals_count n (i + 1) in omega (arith, later)

literal_from : (n i place : ℕ) (d : Literal) → place < 2 * n
    → get_or (both_from n i) place d ≡ record { sig = i + place / 2; plain = place % 2 == 0 }
literal_from zero i place d within = absurd (omega arith)
literal_from (suc n) i zero d within = let e : i ≡ i + 0 = omega arith in ap (λ
    (k : ℕ). record { sig = k; plain = true }) e
literal_from (suc n) i (suc zero) d within = let e : i ≡ i + 0 = omega arith in ap (λ
    (k : ℕ). record { sig = k; plain = false }) e
literal_from (suc n) i (suc (suc place)) d within =
    let half : i + suc (suc place) / 2 ≡ i + 1 + place / 2 = omega arith in
    let same : suc (suc place) % 2 ≡ place % 2 = omega arith in
    rw (half, same) (literal_from n (i + 1) place d (omega (arith, within)))

pub literal_of_place : (n place : ℕ) (d : Literal) → place < 2 * n
    → get_or (literals_of_signals n) place d ≡ record { sig = place / 2; plain = place % 2 == 0 }
literal_of_place n place d within =
    let e : 0 + place / 2 ≡ place / 2 = omega arith in
    literal_from n 0 place d within ∙ ap (λ (k : ℕ). record { sig = k; plain = place % 2 == 0 }) e

-- ---- those of them that pins may have
all_kept : (ls : List Literal) → filter (admits Any) ls ≡ ls
all_kept [] = refl
all_kept (l ∷ ls) = ap (λ (ms : List Literal). l ∷ ms) (all_kept ls)

plain_count : (n i : ℕ) → length (filter (admits Plain) (both_from n i)) ≡ n
plain_count zero i = refl
plain_count (suc n) i = ap suc (plain_count n (i + 1))

plain_from : (n i place : ℕ) (d : Literal) → place < n
    → get_or (filter (admits Plain) (both_from n i)) place d ≡ record { sig = i + place; plain = true }
plain_from zero i place d within = absurd (omega arith)
plain_from (suc n) i zero d within =
    let e : i ≡ i + 0 = omega arith in
    ap (λ (k : ℕ). record { sig = k; plain = true }) e
plain_from (suc n) i (suc place) d within =
    let e : i + 1 + place ≡ i + suc place = omega arith in
    plain_from n (i + 1) place d (omega (arith, within)) ∙ ap (λ (k : ℕ). record { sig = k; plain = true }) e

pub count_for : (allowed : Pins) (n : ℕ) → length (literals_for allowed n) ≡ literal_count allowed n
count_for Any n = ap length (all_kept (literals_of_signals n)) ∙ literals_count n 0
count_for Plain n = plain_count n 0

pub literal_for : (allowed : Pins) (n place : ℕ) (d : Literal) → place < literal_count allowed n
    → get_or (literals_for allowed n) place d ≡ literal_at allowed place
literal_for Any n place d within =
    ap (λ (ls : List Literal). get_or ls place d) (all_kept (literals_of_signals n)) ∙ literal_of_place n place d within
literal_for Plain n place d within =
    let e : 0 + place ≡ place = omega arith in
    plain_from n 0 place d within ∙ ap (λ (k : ℕ). record { sig = k; plain = true }) e

pub place_small : (allowed : Pins) (n place : ℕ) → place < literal_count allowed n
    → (literal_at allowed place).sig < n
place_small Any n place within = omega (arith, within)
place_small Plain n place within = within

-- a place below the count that was told, or behind it
pub counted : (allowed : Pins) (n m count place : ℕ) → n ≡ m → count ≡ literal_count allowed n → place < count
    → place < literal_count allowed m
counted allowed n m count place same is within = subst (λ (k : ℕ). place < literal_count allowed k) same
    (subst (λ (k : ℕ). place < k) is within)

pub all_counted : (allowed : Pins) (n m count place : ℕ) → n ≡ m → count ≡ literal_count allowed n
    → count ≤ place → literal_count allowed m ≤ place
all_counted allowed n m count place same is past = subst (λ (k : ℕ). literal_count allowed k ≤ place) same
    (subst (λ (k : ℕ). k ≤ place) is past)

-- literals of the graph's signals are literals of code bits
pub within_width : (n : ℕ) (literals slice : List Literal) → slice ≡ literals → n ≤ code_width
    → All (λ (l : Literal). l.sig < n) literals → All (λ (l : Literal). l.sig < code_width) slice
within_width n literals slice same width inside =
    subst (λ (ls : List Literal). All (λ (l : Literal). l.sig < code_width) ls) (sym same)
    (λ k d within. (let small = inside k d within in omega (arith, small, width)))

-- ---- completions
pub have_length : (n : ℕ) (literals : List Literal) → All (λ (ls : List Literal). length ls ≡ n) (lists_of n literals)
have_length zero literals = All-cons (λ (ls : List Literal). length ls ≡ 0) [] [] refl (All-nil (λ
    (ls : List Literal). length ls ≡ 0))
have_length (suc n) literals = by_literal literals (have_length n literals)
  where
    by_literal : (ls : List Literal) → All (λ (xs : List Literal). length xs ≡ n) (lists_of n literals)
        → All (λ (xs : List Literal). length xs ≡ suc n)
        (flat_map (λ l. map (λ xs. l ∷ xs) (lists_of n literals)) ls)
    by_literal [] shorter = All-nil (λ (xs : List Literal). length xs ≡ suc n)
    by_literal (l ∷ ls) shorter = All-append (λ (xs : List Literal). length xs ≡ suc n) _ _
        (All-map (λ (xs : List Literal). length xs ≡ suc n) (λ xs. l ∷ xs) (lists_of n literals)
        (λ k d inside. ap suc (shorter k d inside))) (by_literal ls shorter)

module _ (allowed : Pins) (c : CodedGraph) (z : ℕ) (cell : Cell) where
  abbrev all_literals : List Literal
  all_literals = literals_for allowed (length c.graph.signals)

  abbrev with_next : ℕ → Literal → List (List Literal)
  with_next more l = map (λ ls. l ∷ ls) (lists_of more all_literals)

  -- each of these literals is of a signal of the graph
  abbrev Inside : List Literal → Type 0
  Inside ls = All (λ (l : Literal). l.sig < length c.graph.signals) ls

  all_inside : Inside all_literals
  all_inside k d within =
      let place : k < literal_count allowed (length c.graph.signals) = rw count_for at within in
      let same = ap (λ (l : Literal). l.sig) (literal_for allowed (length c.graph.signals) k d place) in
      let small = place_small allowed (length c.graph.signals) k place in
      omega (arith, small, same)

  insides : (more : ℕ) → All Inside (lists_of more all_literals)
  insides zero = All-cons Inside [] [] (All-nil (λ (l : Literal). l.sig < length c.graph.signals)) (All-nil Inside)
  insides (suc more) = by_literal all_literals all_inside (insides more)
    where
      by_literal : (ls : List Literal) → Inside ls → All Inside (lists_of more all_literals)
          → All Inside (flat_map (with_next more) ls)
      by_literal [] small shorter = All-nil Inside
      by_literal (l ∷ ls) small shorter = rw flat_map-cons (All-append Inside _ _
          (All-map Inside (λ xs. l ∷ xs) (lists_of more all_literals)
          (λ k d inside. All-cons (λ (m : Literal). m.sig < length c.graph.signals) l _ (small 0 l (omega arith))
          (shorter k d inside)))
          (by_literal ls (λ k d inside. small (suc k) d (omega (arith, inside))) shorter))

  pub refuted : (literals : List Literal) (more : ℕ) → IsRefuted c z cell literals more
      → first_completion allowed c z cell literals more ≡ None
  refuted literals more none = first_none (λ rest. fits c z cell (literals ++ rest)) (lists_of more all_literals)
      (λ k d inside. none (get_or (lists_of more all_literals) k d) (have_length more all_literals k d inside)
      (insides more k d inside))

  -- the completions by the literals from a place on
  abbrev pub from_place : List Literal → ℕ → ℕ → Option (List Literal)
  from_place literals more place = first_that (λ rest. fits c z cell (literals
      ++ rest)) (flat_map (with_next more) (drop place all_literals))

  -- those with one more literal
  next_literal : (literals : List Literal) (more : ℕ) (l : Literal)
      → first_that (λ rest. fits c z cell (literals ++ rest)) (with_next more l) ≡ option_map (λ ls. l ∷ ls)
      (first_completion allowed c z cell (literals ++ l ∷ []) more)
  next_literal literals more l =
      first-map (λ rest. fits c z cell (literals ++ rest)) (λ ls. l ∷ ls) (lists_of more all_literals)
      ∙ ap (option_map (λ ls. l ∷ ls)) (first_same _ _ (lists_of more all_literals) (λ ls. ap (fits c z cell) (sym
      (append_assoc literals (l ∷ []) ls))))

  module _ (literals : List Literal) (more place : ℕ) (l : Literal) (inside : place < length all_literals)
      (at : get_or all_literals place l ≡ l) where
    split_at : from_place literals more place ≡ either (option_map (λ ls. l ∷ ls)
        (first_completion allowed c z cell (literals ++ l ∷ []) more)) (from_place literals more (place + 1))
    split_at =
        let left : drop place all_literals ≡ l ∷ drop (place + 1) all_literals = rw
        (drop-cons all_literals place l inside, at, add-one) refl in
        ap (λ (ls : List Literal). first_that (λ rest. fits c z cell (literals
        ++ rest)) (flat_map (with_next more) ls)) left
        ∙ ap (first_that (λ rest. fits c z cell (literals
        ++ rest))) (flat_map-cons (with_next more) l (drop (place + 1) all_literals))
        ∙ first-append (λ rest. fits c z cell (literals
        ++ rest)) (with_next more l) (flat_map (with_next more) (drop (place + 1) all_literals))
        ∙ ap (λ (o : Option (List Literal)). either o (from_place literals more (place + 1)))
        (next_literal literals more l)

    pub place_found : (total : Option (List Literal)) (found : List Literal) → from_place literals more place ≡ total
        → option_map (λ rest. (literals ++ l ∷ []) ++ rest) (first_completion allowed c z cell (literals
        ++ l ∷ []) more) ≡ Some found
        → option_map (λ rest. literals ++ rest) total ≡ Some found
    place_found total found told here =
        rw (← told, split_at) (by_first (first_completion allowed c z cell (literals ++ l ∷ []) more) here)
      where
        by_first : (o : Option (List Literal)) → option_map (λ rest. (literals ++ l ∷ []) ++ rest) o ≡ Some found
            → option_map (λ rest. literals ++ rest) (either (option_map (λ ls. l ∷ ls) o) (from_place literals more
            (place + 1))) ≡ Some found
        by_first (Some rest) e = ap Some (sym (append_assoc literals (l ∷ []) rest)) ∙ e
        by_first None e = absurd cc

    pub place_none : (total : Option (List Literal)) → from_place literals more place ≡ total
        → first_completion allowed c z cell (literals ++ l ∷ []) more ≡ None
        → from_place literals more (place + 1) ≡ total
    place_none total told none = sym (sym told ∙ split_at ∙ rw none refl)

  pub places_done : (literals : List Literal) (more place : ℕ) (total : Option (List Literal))
      → length all_literals ≤ place → from_place literals more place ≡ total → total ≡ None
  places_done literals more place total past told = sym told ∙ rw (drop_all place all_literals past) refl

-- ---- the loop over the literals at the next pin
module _ (allowed : Pins) (c : CodedGraph) (z : ℕ) (cell : Cell) (literals : List Literal) where
  -- a state refutes each completion of the literals that the slice shows
  pub refuted_now : (slice : List Literal) (more : ℕ) → slice ≡ literals → length literals + more ≡ length cell.pins
      → IsRefuted c z cell slice (length cell.pins - length slice)
      → first_completion allowed c z cell literals more ≡ None
  refuted_now slice more same count none =
      let left : length cell.pins - length slice ≡ more = omega (arith, count, ap length same) in
      let here : IsRefuted c z cell slice more = rw left at none in
      refuted allowed c z cell literals more (rw same at here)

  pub starts : (more : ℕ) → (more ≡ 0 → ⊥) → from_place allowed c z cell literals (more - 1) 0
      ≡ first_completion allowed c z cell literals more
  starts zero some = absurd (some refl)
  starts (suc more) some = let e : suc more - 1 ≡ more = omega arith in rw e refl

  module _ (less place : ℕ) (l : Literal) (now : List Literal)
      (within : place < literal_count allowed (length c.graph.signals)) (l_is : l ≡ literal_at allowed place)
      (now_is : now ≡ literals ++ l ∷ []) where
    inside : place < length (literals_for allowed (length c.graph.signals))
    inside = rw count_for within

    at : get_or (literals_for allowed (length c.graph.signals)) place l ≡ l
    at = literal_for allowed (length c.graph.signals) place l within ∙ sym l_is

    pub found_now : (total : Option (List Literal)) (found : List Literal)
        → from_place allowed c z cell literals less place ≡ total
        → option_map (λ rest. now ++ rest) (first_completion allowed c z cell now less) ≡ Some found
        → option_map (λ rest. literals ++ rest) total ≡ Some found
    found_now total found told here = place_found allowed c z cell literals less place l inside at total found told
        (rw now_is at here)

    pub none_now : (total : Option (List Literal)) → from_place allowed c z cell literals less place ≡ total
        → first_completion allowed c z cell now less ≡ None
        → from_place allowed c z cell literals less (place + 1) ≡ total
    none_now total told none =
        place_none allowed c z cell literals less place l inside at total told (rw now_is at none)

  pub done_now : (less place : ℕ) (total : Option (List Literal))
      → literal_count allowed (length c.graph.signals) ≤ place
      → from_place allowed c z cell literals less place ≡ total → total ≡ None
  done_now less place total past told = places_done allowed c z cell literals less place total (rw count_for past) told

-- what is left after the last literal is taken away
pub popped : (literals old new : List Literal) (l : Literal) → old ≡ literals ++ l ∷ []
    → new ≡ take (length old - 1) old → new ≡ literals
popped literals old new l is rest =
    let count : length old - 1 ≡ length literals = rw (is, length_push) (omega arith) in
    let within : length literals ≤ length literals = omega arith in
    rest ∙ rw (count, is, take-append-le (length literals) literals (l ∷ []) within) (take_all
    (length literals) literals within)

-- ---- cell after cell
module _ (c : CodedGraph) (z : ℕ) (library : Library) where
  abbrev fits_z : Instance → Bool
  fits_z i = fits c z (cell_at library i.cell) i.literals

  -- the first fitting instance of the cells from a place on
  abbrev pub from_cell : ℕ → Option Instance
  from_cell k = first_that fits_z (flat_map (instances_of library.pins (length c.graph.signals)) (drop k
      (enumerate_from 0 library.cells)))

  pub all_cells : from_cell 0 ≡ first_fit c library z
  unfolding first_fit
  all_cells = refl

  abbrev instance_with : ℕ → List Literal → Instance
  instance_with k ls = record { cell = k; literals = ls }

  module _ (k : ℕ) (within : k < length library.cells) where
    of_cell : first_that fits_z (instances_of library.pins (length c.graph.signals) (k, cell_at library k))
        ≡ option_map (instance_with k)
        (first_completion library.pins c z (cell_at library k) [] (length (cell_at library k).pins))
    of_cell = first-map fits_z (instance_with k) (lists_of (length (cell_at library k).pins) (literals_for library.pins
        (length c.graph.signals)))

    cell_split : from_cell k ≡ either (option_map (instance_with k)
        (first_completion library.pins c z (cell_at library k) []
        (length (cell_at library k).pins))) (from_cell (k + 1))
    cell_split =
        let inside : k < length (enumerate_from 0 library.cells) = rw length-enumerate_from within in
        let at : get_or (enumerate_from 0 library.cells) k (k, no_cell) ≡ (k, cell_at library k) =
        (let pair : ℕ → Cell → ℕ × Cell = λ n x. (n, x) in
        let e : 0 + k ≡ k = omega arith in
        get_or-enumerate_from 0 library.cells k (k, no_cell) within ∙ ap (λ (n : ℕ). pair n (cell_at library k)) e) in
        let left : drop k (enumerate_from 0 library.cells) ≡ (k, cell_at library k) ∷ drop (k + 1)
        (enumerate_from 0 library.cells) =
        rw (drop-cons (enumerate_from 0 library.cells) k (k, no_cell) inside, at, add-one) refl in
        ap (λ ps. first_that fits_z (flat_map (instances_of library.pins (length c.graph.signals)) ps)) left
        ∙ ap (first_that fits_z) (flat_map-cons (instances_of library.pins (length c.graph.signals))
        (k, cell_at library k) (drop (k + 1) (enumerate_from 0 library.cells)))
        ∙ first-append fits_z (instances_of library.pins (length c.graph.signals) (k, cell_at library k))
        (flat_map (instances_of library.pins (length c.graph.signals)) (drop (k + 1) (enumerate_from 0 library.cells)))
        ∙ ap (λ (o : Option Instance). either o (from_cell (k + 1))) of_cell

    pub cell_found : (cell : Cell) (total : Option Instance) (found : List Literal) → cell ≡ cell_at library k
        → from_cell k ≡ total
        → option_map (λ rest. [] ++ rest) (first_completion library.pins c z cell [] (length cell.pins)) ≡ Some found
        → Some (instance_with k found) ≡ total
    cell_found cell total found is told here =
        rw (← told, cell_split) (by_first (first_completion library.pins c z (cell_at library k) [] (length
        (cell_at library k).pins)) (rw is at here))
      where
        by_first : (o : Option (List Literal)) → option_map (λ rest. [] ++ rest) o ≡ Some found
            → Some (instance_with k found) ≡ either (option_map (instance_with k) o) (from_cell (k + 1))
        by_first (Some rest) e = ap (option_map (instance_with k)) (sym e)
        by_first None e = absurd cc

    pub cell_none : (cell : Cell) (total : Option Instance) → cell ≡ cell_at library k → from_cell k ≡ total
        → first_completion library.pins c z cell [] (length cell.pins) ≡ None → from_cell (k + 1) ≡ total
    cell_none cell total is told none = sym (sym told ∙ cell_split ∙ rw (rw is at none) refl)

  pub cells_done : (k : ℕ) (total : Option Instance) → length library.cells ≤ k → from_cell k ≡ total → None ≡ total
  cells_done k total past told =
      let none_left : drop k (enumerate_from 0 library.cells) ≡ [] = drop_all k (enumerate_from 0 library.cells)
      (rw length-enumerate_from past) in
      sym (rw none_left refl) ∙ told

-- ---- the loop over the cells
module _ (c g : CodedGraph) (z : ℕ) (library : Library) (k : ℕ) (cell : Cell) (start : List Literal) (pins : ℕ)
    (allowed : Pins) (same : c ≡ g) (kind : allowed ≡ library.pins)
    (within : k < length library.cells) (is : cell ≡ cell_at library k) (begins : start ≡ []) (count : pins
    ≡ length cell.pins)
    (told : from_cell c z library k ≡ first_fit c library z) where
  pub found_cell : (found : List Literal) → option_map (λ rest. start
      ++ rest) (first_completion allowed c z cell start pins) ≡ Some found
      → Some (record { cell = k; literals = found }) ≡ first_fit g library z
  found_cell found here =
      let from_none : option_map (λ rest. [] ++ rest) (first_completion library.pins c z cell [] (length cell.pins))
      ≡ Some found = rw (begins, count, kind) at here in
      cell_found c z library k within cell (first_fit c library z) found is told from_none
      ∙ ap (λ (x : CodedGraph). first_fit x library z) same

  pub none_cell : first_completion allowed c z cell start pins ≡ None
      → from_cell c z library (k + 1) ≡ first_fit c library z
  none_cell none =
      let from_none : first_completion library.pins c z cell [] (length cell.pins) ≡ None =
      rw (begins, count, kind) at none in
      cell_none c z library k within cell (first_fit c library z) is told from_none

pub no_cell_left : (c g : CodedGraph) (z : ℕ) (library : Library) (k : ℕ) → c ≡ g → length library.cells ≤ k
    → from_cell c z library k ≡ first_fit c library z → None ≡ first_fit g library z
no_cell_left c g z library k same past told =
    cells_done c z library k (first_fit c library z) past told ∙ ap (λ (x : CodedGraph). first_fit x library z) same
