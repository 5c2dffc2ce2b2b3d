-- The truth tables of all instances over the places.
use Rattle.std.proofs.Common.{◌≡◌, ℕ, suc, ◌+◌, ◌<◌, ◌≤◌, List, [], ◌∷◌, ◌++◌}
use Rattle.std.proofs.Common.{length, map, take, get_or}
use Rattle.std.proofs.Common.{All, Contains, false, true, refl, sym, ap, ◌∙◌, arith, append_assoc}
use Rattle.std.specs.Prelude.{flat_map}
use Rattle.std.specs.List.{enumerate_from, range_with_len}
use Rattle.std.proofs.lemmas.Grind.{flat_map-append}
use Rattle.std.proofs.lemmas.List.{append-nil, map-append, take_more, take_all}
use Rattle.std.proofs.lemmas.List.Concat.{flat_map-cons}
use Rattle.std.proofs.lemmas.List.FromFn.{length-enumerate_from, get_or-enumerate_from, get_or-map-range_with_len}
use Rattle.std.proofs.lemmas.Simd.{map-map}
use Rattle.si_base.proofs.GivenGraphUnique.{contains_from_in, in_from_contains}
use Rattle.si_base.specs.Bits.{bit}
use Rattle.si_base.specs.Limits.{code_width}
use Rattle.si_base.specs.declared.ids.Literal.{Literal}
use Rattle.si_cell.specs.Library.{Cell, Library, Instance, IsInstance, admits, cell_at, no_cell}
use Rattle.si_cell.specs.Limits.{table_codes}
use Rattle.si_cell.proofs.ExpandedLemmas.{bit_of}
use Rattle.si_cell.specs.declared.pins.Pins.{Pins}
use Rattle.si_match.specs.Fit.{lists_of, literals_for, instances_of, instances}
use Rattle.si_match.specs.Functions.{AreFunctions, function_table, function_tables, places, value_at}
use Rattle.si_match.proofs.FitLemmas.{listed_in, from_listed, in_map, from_map}
use Rattle.si_match.specs.Loops.Search.{literal_at, literal_count}
use Rattle.si_match.proofs.SearchLemmas.{literal_for, count_for}

map_same : {A B : Type 0} (f g : A → B) (xs : List A) → ((x : A) → f x ≡ g x) → map f xs ≡ map g xs
map_same f g [] same = refl
map_same f g (x ∷ xs) same = rw (same x, map_same f g xs same) refl

-- ---- literal after literal at the next pin
module _ (allowed : Pins) (cell : Cell) (literals : List Literal) where
  abbrev all_literals : List Literal
  all_literals = literals_for allowed places

  -- all lists of one more literal, this one first
  abbrev with_next : ℕ → Literal → List (List Literal)
  with_next more l = map (λ ls. l ∷ ls) (lists_of more all_literals)

  abbrev table_with : List Literal → ℕ
  table_with rest = function_table cell (literals ++ rest)

  -- the tables with a literal before that place of literal order
  abbrev pub tables_before : ℕ → ℕ → List ℕ
  tables_before more place = map table_with (flat_map (with_next more) (take place all_literals))

  module _ (more place : ℕ) (l : Literal) (within : place < literal_count allowed places)
      (l_is : l ≡ literal_at allowed place) where
    abbrev tables_with : List ℕ
    tables_with = map (λ rest. function_table cell ((literals ++ l ∷ []) ++ rest)) (lists_of more all_literals)

    inside : place < length all_literals
    inside = rw count_for within

    wider : take (place + 1) all_literals ≡ take place all_literals ++ l ∷ []
    wider = take_more all_literals place l inside
        ∙ ap (λ (m : Literal). take place all_literals ++ m ∷ []) (literal_for allowed places place l within ∙ sym l_is)

    more_lists : flat_map (with_next more) (take (place + 1) all_literals)
        ≡ flat_map (with_next more) (take place all_literals) ++ with_next more l
    more_lists = ap (flat_map (with_next more)) wider
        ∙ flat_map-append (with_next more) (take place all_literals) (l ∷ [])
        ∙ ap (λ (ls : List (List Literal)). flat_map (with_next more) (take place all_literals) ++ ls)
        (flat_map-cons (with_next more) l [] ∙ append-nil (with_next more l))

    one_literal : map table_with (with_next more l) ≡ tables_with
    one_literal = map-map table_with (λ ls. l ∷ ls) (lists_of more all_literals)
        ∙ map_same _ _ (lists_of more all_literals)
        (λ rest. ap (function_table cell) (sym (append_assoc literals (l ∷ []) rest)))

    pub next_tables : (old made : List ℕ) → made ≡ old ++ tables_before more place
        → made ++ tables_with ≡ old ++ tables_before more (place + 1)
    next_tables old made is =
        ap (λ (ts : List ℕ). ts ++ tables_with) is
        ∙ append_assoc old (tables_before more place) _
        ∙ ap (λ (ts : List ℕ). old ++ ts) (ap (λ (ts : List ℕ). tables_before more place ++ ts) (sym one_literal)
        ∙ sym (map-append table_with (flat_map (with_next more) (take place all_literals)) (with_next more l))
        ∙ ap (map table_with) (sym more_lists))

  pub all_before : (more less place : ℕ) → more ≡ suc less → literal_count allowed places ≤ place
      → tables_before less place ≡ map table_with (lists_of more all_literals)
  all_before more less place more_is past =
      let count : length all_literals ≤ place = rw count_for past in
      ap (λ (ls : List Literal). map table_with (flat_map (with_next less) ls)) (take_all place all_literals count)
      ∙ ap (λ (n : ℕ). map table_with (lists_of n all_literals)) (sym more_is)

-- ---- cell after cell
module _ (library : Library) where
  abbrev table_in : Instance → ℕ
  table_in i = function_table (cell_at library i.cell) i.literals

  abbrev pub tables_of_first : ℕ → List ℕ
  tables_of_first k = map table_in (flat_map (instances_of library.pins places) (take k (enumerate_from 0 library.cells)))

  pub next_cell : (k : ℕ) (cell : Cell) (pins : ℕ) (made : List ℕ) (allowed : Pins) → allowed ≡ library.pins
      → k < length library.cells
      → cell ≡ cell_at library k → pins ≡ length cell.pins → made ≡ tables_of_first k
      → made ++ map (λ ls. function_table cell ls) (lists_of pins (literals_for allowed places))
      ≡ tables_of_first (k + 1)
  next_cell k cell pins made allowed kind within cell_is pins_are made_is =
      ap (λ (ts : List ℕ). ts ++ map (λ ls. function_table cell ls) (lists_of pins (literals_for allowed places))) made_is
      ∙ ap (λ (ts : List ℕ). tables_of_first k ++ ts) of_cell
      ∙ sym (map-append table_in (flat_map (instances_of library.pins places) (take k (enumerate_from 0 library.cells)))
      (instances_of library.pins places (k, cell_at library k)))
      ∙ ap (map table_in) (sym more_instances)
    where
      numbered : List (ℕ × Cell)
      numbered = enumerate_from 0 library.cells

      inside : k < length numbered
      inside = rw length-enumerate_from within

      at : get_or numbered k (k, no_cell) ≡ (k, cell_at library k)
      at =
          let pair : ℕ → Cell → ℕ × Cell = λ n x. (n, x) in
          let e : 0 + k ≡ k = omega arith in
          get_or-enumerate_from 0 library.cells k (k, no_cell) within
          ∙ ap (λ (n : ℕ). pair n (cell_at library k)) e

      more_instances : flat_map (instances_of library.pins places) (take (k + 1) numbered)
          ≡ flat_map (instances_of library.pins places) (take k numbered) ++ instances_of library.pins places (k, cell_at library k)
      more_instances =
          ap (flat_map (instances_of library.pins places)) (take_more numbered k (k, no_cell) inside
          ∙ ap (λ (p : ℕ × Cell). take k numbered ++ p ∷ []) at)
          ∙ flat_map-append (instances_of library.pins places) (take k numbered) ((k, cell_at library k) ∷ [])
          ∙ ap (λ (is : List Instance). flat_map (instances_of library.pins places) (take k numbered) ++ is)
          (flat_map-cons (instances_of library.pins places) (k, cell_at library k) []
          ∙ append-nil (instances_of library.pins places (k, cell_at library k)))

      of_cell : map (λ ls. function_table cell ls) (lists_of pins (literals_for allowed places))
          ≡ map table_in (instances_of library.pins places (k, cell_at library k))
      of_cell = rw (kind, pins_are, cell_is) (sym (map-map table_in
          (λ ls. record { cell = k; literals = ls }) (lists_of (length (cell_at library k).pins) (literals_for library.pins places))))

  pub all_cells : (k : ℕ) → length library.cells ≤ k → tables_of_first k ≡ function_tables library
  all_cells k past =
      let count : length (enumerate_from 0 library.cells) ≤ k = rw length-enumerate_from past in
      ap (λ (ps : List (ℕ × Cell)). map table_in (flat_map (instances_of library.pins places) ps))
      (take_all k (enumerate_from 0 library.cells) count)

  -- ---- which tables there are
  module _ (tables : List ℕ) (are : AreFunctions library tables) where
    pub has_table : (i : Instance) → IsInstance library i → All (λ l. l.sig < places) i.literals
        → All (λ l. admits library.pins l ≡ true) i.literals → Contains tables (table_in i)
    has_table i instance placed admitted =
        (are (table_in i)).1 (contains_from_in (function_tables library) (table_in i)
        (in_map table_in i (instances places library) (listed_in places library i instance placed admitted)))

    pub instance_of_table : (t : ℕ) → Contains tables t → (i : Instance) × IsInstance library i
        × All (λ l. l.sig < places) i.literals × All (λ l. admits library.pins l ≡ true) i.literals
        × (t ≡ table_in i)
    instance_of_table t there =
        let (k, within, at) = (are t).0 there in
        let (i, i_in, is) = from_map table_in t (instances places library)
        (in_from_contains (function_tables library) t k within at) in
        let width : places ≤ code_width = omega arith in
        let (instance, placed, admitted) = from_listed places library i width i_in in
        (i, instance, placed, admitted, is)

-- ---- what a table tells
pub table_bit : (cell : Cell) (literals : List Literal) (m : ℕ) → m < table_codes
    → bit (function_table cell literals) m ≡ value_at cell literals m
table_bit cell literals m below =
    bit_of (map (value_at cell literals) (range_with_len 0 table_codes)) m
    ∙ get_or-map-range_with_len (value_at cell literals) 0 table_codes m m false
    below (omega arith)
