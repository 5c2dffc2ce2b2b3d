-- The symbols of a text, one by one.
use Rattle.std.proofs.Common.{◌≡◌, ℕ, suc, ◌+◌, ◌≤◌, ◌<◌, ◌==◌, ◌||◌, not, Bool, true, false, if◌then◌else◌, arith}
use Rattle.std.proofs.Common.{List, [], ◌∷◌, ◌++◌, length, slice_index_or, map, take, drop, get_or, count_by}
use Rattle.std.proofs.Common.{refl, sym, ap, ◌∙◌, inl, inr, append_assoc}
use Rattle.std.specs.List.{prefix_len}
use Rattle.std.proofs.lemmas.Bool.{cases_Bool, false_from_ne_true, true≢false, not-true, eqb-true}
use Rattle.std.proofs.lemmas.List.{append-nil, map-append, length-append, length-map, length-drop, drop_more}
use Rattle.std.proofs.lemmas.List.Sums.{sum_by-cons, prefix_len_stops}
use Rattle.si_verilog.specs.Symbols.{Symbol, Mark, Place, Between, Bare, Escaped, is_blank, is_bare_byte, bare_symbol}
use Rattle.si_verilog.specs.Symbols.{escaped_symbol, first_place, next_place, mark_at, symbols_at, last_symbols}
use Rattle.si_verilog.specs.Symbols.{symbols_from, symbols_of}
use Rattle.si_verilog.proofs.NameLemmas.{not_blank}
use Rattle.si_verilog_reader.specs.Placed.{Placed, on_line, line_behind, placed_from, placed_symbols}

-- ---- the symbols without their lines

symbols_alone : (n : ℕ) (xs : List Symbol) → map (λ (p : Placed). p.symbol) (map (on_line n) xs) ≡ xs
symbols_alone n [] = refl
symbols_alone n (x ∷ xs) = ap (λ (s : List Symbol). x ∷ s) (symbols_alone n xs)

from_are : (n : ℕ) (place : Place) (bs : List ℕ)
    → map (λ (p : Placed). p.symbol) (placed_from n place bs) ≡ symbols_from place bs
from_are n place [] = symbols_alone n (last_symbols place)
from_are n place (b ∷ bs) =
    map-append (λ (p : Placed). p.symbol) (map (on_line n) (symbols_at place b))
    (placed_from (line_behind n b) (next_place place b) bs)
    ∙ ap (λ (s : List Symbol). s ++ map (λ (p : Placed). p.symbol)
    (placed_from (line_behind n b) (next_place place b) bs)) (symbols_alone n (symbols_at place b))
    ∙ ap (λ (s : List Symbol). symbols_at place b ++ s) (from_are (line_behind n b) (next_place place b) bs)

-- they are the symbols of the text
pub placed_are : (text : List ℕ) → map (λ (p : Placed). p.symbol) (placed_symbols text) ≡ symbols_of text
unfolding placed_symbols symbols_of
placed_are text = from_are 1 Between text

-- ---- blanks

-- a property that blanks lack
blank_is_no : (p : ℕ → Bool) → p 32 ≡ false → p 9 ≡ false → p 10 ≡ false → p 13 ≡ false → p 12 ≡ false
    → (b : ℕ) → is_blank b ≡ true → p b ≡ false
blank_is_no p space tab feed return form b blank = elim (cases_Bool (p b)) [
  | inr lacks ↦ lacks
  | inl is ↦ absurd (true≢false (sym blank ∙ not-true (is_blank b) (not_blank p space tab feed return form b is)))
]

blank_passed : (n b : ℕ) (bs : List ℕ) → is_blank b ≡ true
    → placed_from n Between (b ∷ bs) ≡ placed_from (line_behind n b) Between bs
blank_passed n b bs blank =
    let bare = blank_is_no is_bare_byte refl refl refl refl refl b blank in
    let escape = blank_is_no (λ c. c == 92) refl refl refl refl refl b blank in
    rw (bare, blank, escape) refl

-- how many lines end
abbrev feeds : List ℕ → ℕ
feeds bs = count_by (λ b. b == 10) bs

lines_added : (n b : ℕ) (bs : List ℕ) → line_behind n b + feeds bs ≡ n + feeds (b ∷ bs)
lines_added n b bs = elim (cases_Bool (b == 10)) [
  | inl feed ↦ omega (arith, added true feed, line true feed)
  | inr other ↦ omega (arith, added false other, line false other)
]
  where
    added : (is : Bool) → (b == 10) ≡ is → feeds (b ∷ bs) ≡ (if is then 1 else 0) + feeds bs
    added is same = sum_by-cons (λ c. if c == 10 then 1 else 0) b bs
        ∙ ap (λ c. (if c then 1 else 0) + feeds bs) same

    line : (is : Bool) → (b == 10) ≡ is → line_behind n b ≡ (if is then n + 1 else n)
    line is same = ap (λ c. if c then n + 1 else n) same

-- the symbols behind the blanks are those of the text
blanks_passed : (n : ℕ) (bs : List ℕ)
    → placed_from n Between bs
    ≡ placed_from (n + feeds (take (prefix_len is_blank bs) bs)) Between (drop (prefix_len is_blank bs) bs)
blanks_passed n [] = refl
blanks_passed n (b ∷ bs) = elim (cases_Bool (is_blank b)) [
  | inl blank ↦ blank_passed n b bs blank ∙ blanks_passed (line_behind n b) bs ∙ further blank
  | inr dark ↦
      let none : 0 ≡ prefix_len is_blank (b ∷ bs) = rw dark refl in
      let line : n ≡ n + 0 = omega arith in
      ap (λ m. placed_from m Between (b ∷ bs)) line
      ∙ ap (λ k. placed_from (n + feeds (take k (b ∷ bs))) Between (drop k (b ∷ bs))) none
]
  where
    further : is_blank b ≡ true
        → placed_from (line_behind n b + feeds (take (prefix_len is_blank bs) bs)) Between
        (drop (prefix_len is_blank bs) bs)
        ≡ placed_from (n + feeds (take (prefix_len is_blank (b ∷ bs)) (b ∷ bs))) Between
        (drop (prefix_len is_blank (b ∷ bs)) (b ∷ bs))
    further blank =
        let one : 1 + prefix_len is_blank bs ≡ suc (prefix_len is_blank bs) = omega arith in
        rw (blank, one) (ap (λ m. placed_from m Between (drop (prefix_len is_blank bs) bs))
        (lines_added n b (take (prefix_len is_blank bs) bs)))

-- ---- bare words

same_line : (n b : ℕ) → (b == 10) ≡ false → line_behind n b ≡ n
same_line n b other = rw other refl

bare_is_dark : (b : ℕ) → is_bare_byte b ≡ true → is_blank b ≡ false
bare_is_dark b bare = not-true (is_blank b) (not_blank is_bare_byte refl refl refl refl refl b bare)

feed_is_blank : (b : ℕ) → is_blank b ≡ false → (b == 10) ≡ false
feed_is_blank b dark = elim (cases_Bool (b == 10)) [
  | inr other ↦ other
  | inl feed ↦ absurd (true≢false (sym (ap is_blank (eqb-true b 10 feed)) ∙ dark))
]

ends_bare : (n : ℕ) (word : List ℕ) (b : ℕ) (bs : List ℕ) → is_bare_byte b ≡ false
    → placed_from n (Bare word) (b ∷ bs) ≡ on_line n (bare_symbol word) ∷ placed_from n Between (b ∷ bs)
ends_bare n word b bs ends = rw ends refl

-- a bare word goes on up to the first byte that it can't have
bare_from : (n : ℕ) (word bs : List ℕ)
    → placed_from n (Bare word) bs
    ≡ on_line n (bare_symbol (word ++ take (prefix_len is_bare_byte bs) bs))
    ∷ placed_from n Between (drop (prefix_len is_bare_byte bs) bs)
bare_from n word [] = rw append-nil refl
bare_from n word (b ∷ bs) = elim (cases_Bool (is_bare_byte b)) [
  | inl bare ↦
      let run = prefix_len is_bare_byte bs in
      let one : 1 + run ≡ suc run = omega arith in
      let line = same_line n b (feed_is_blank b (bare_is_dark b bare)) in
      let longer : (word ++ b ∷ []) ++ take run bs ≡ word ++ b ∷ take run bs =
      append_assoc word (b ∷ []) (take run bs) in
      rw (bare, one, line) (bare_from n (word ++ b ∷ []) bs
      ∙ ap (λ w. on_line n (bare_symbol w) ∷ placed_from n Between (drop run bs)) longer)
  | inr ends ↦
      let none : 0 ≡ prefix_len is_bare_byte (b ∷ bs) = rw ends refl in
      ends_bare n word b bs ends
      ∙ ap (λ w. on_line n (bare_symbol w) ∷ placed_from n Between (b ∷ bs)) (sym (append-nil word))
      ∙ ap (λ k. on_line n (bare_symbol (word ++ take k (b ∷ bs))) ∷ placed_from n Between (drop k (b ∷ bs))) none
]

bare_here : (n b : ℕ) (bs : List ℕ) → is_bare_byte b ≡ true
    → placed_from n Between (b ∷ bs)
    ≡ on_line n (bare_symbol (take (prefix_len is_bare_byte (b ∷ bs)) (b ∷ bs)))
    ∷ placed_from n Between (drop (prefix_len is_bare_byte (b ∷ bs)) (b ∷ bs))
bare_here n b bs bare =
    let run = prefix_len is_bare_byte bs in
    let one : 1 + run ≡ suc run = omega arith in
    let line = same_line n b (feed_is_blank b (bare_is_dark b bare)) in
    rw (bare, one, line) (bare_from n (b ∷ []) bs)

-- ---- escaped names

-- the symbol of a backslash and the bytes up to the next blank, with what stands behind them
abbrev pub closed_symbol : List ℕ → List ℕ → Symbol
closed_symbol name [] = Mark 92
closed_symbol name (b ∷ bs) = escaped_symbol name

abbrev dark : ℕ → Bool
dark b = not (is_blank b)

-- it stands on the line on which it begins; the blank behind it is left
escaped_from : (n : ℕ) (name bs : List ℕ)
    → placed_from n (Escaped name) bs
    ≡ on_line n (closed_symbol (name ++ take (prefix_len dark bs) bs) (drop (prefix_len dark bs) bs))
    ∷ placed_from n Between (drop (prefix_len dark bs) bs)
escaped_from n name [] = refl
escaped_from n name (b ∷ bs) = elim (cases_Bool (is_blank b)) [
  | inl blank ↦
      let behind = sym (blank_passed n b bs blank) in
      rw (blank, append-nil) (ap (λ ps. on_line n (escaped_symbol name) ∷ ps) behind)
  | inr dark ↦
      let run = prefix_len (λ c. not (is_blank c)) bs in
      let one : 1 + run ≡ suc run = omega arith in
      let line = same_line n b (feed_is_blank b dark) in
      let longer : (name ++ b ∷ []) ++ take run bs ≡ name ++ b ∷ take run bs =
      append_assoc name (b ∷ []) (take run bs) in
      rw (dark, one, line) (escaped_from n (name ++ b ∷ []) bs
      ∙ ap (λ w. on_line n (closed_symbol w (drop run bs)) ∷ placed_from n Between (drop run bs)) longer)
]

-- ---- how many symbols there are: no more than bytes

-- a symbol that the bytes so far begin, and that isn't among those behind them
abbrev pending : Place → ℕ
pending Between = 0
pending (Bare word) = 1
pending (Escaped word) = 1

mark_few : (b : ℕ) → length (mark_at b) ≤ 1
mark_few b = elim (cases_Bool (is_bare_byte b || is_blank b || (b == 92))) [
  | inl none ↦ rw none (omega arith)
  | inr mark ↦ rw mark (omega arith)
]

one_first : (b : ℕ) → length (mark_at b) + pending (first_place b) ≤ 1
one_first b = elim (cases_Bool (is_bare_byte b)) [
  | inl bare ↦ rw bare (omega arith)
  | inr other ↦ elim (cases_Bool (b == 92)) [
    | inl escape ↦ rw (eqb-true b 92 escape) (omega arith)
    | inr plain ↦
        let between : pending (first_place b) ≡ 0 = rw (other, plain) refl in
        omega (arith, mark_few b, between)
  ]
]

one_each : (place : Place) (b : ℕ) → length (symbols_at place b) + pending (next_place place b) ≤ 1 + pending place
one_each Between b = one_first b
one_each (Bare word) b = elim (cases_Bool (is_bare_byte b)) [
  | inl bare ↦ rw bare (omega arith)
  | inr ends ↦
      let first = one_first b in
      let behind : pending (next_place (Bare word) b) ≡ pending (first_place b) = rw ends refl in
      let here : length (symbols_at (Bare word) b) ≡ 1 + length (mark_at b) = rw ends (omega arith) in
      omega (arith, first, behind, here)
]
one_each (Escaped word) b = elim (cases_Bool (is_blank b)) [
  | inl blank ↦ rw blank (omega arith)
  | inr dark ↦ rw dark (omega arith)
]

from_few : (n : ℕ) (place : Place) (bs : List ℕ) → length (placed_from n place bs) ≤ length bs + pending place
from_few n Between [] = omega arith
from_few n (Bare word) [] = omega arith
from_few n (Escaped word) [] = omega arith
from_few n place (b ∷ bs) =
    let here = map (on_line n) (symbols_at place b) in
    let rest = placed_from (line_behind n b) (next_place place b) bs in
    let parts : length (here ++ rest) ≡ length here + length rest = length-append here rest in
    let first : length here ≡ length (symbols_at place b) = length-map (symbols_at place b) (on_line n) in
    let behind = from_few (line_behind n b) (next_place place b) bs in
    omega (arith, parts, first, behind, one_each place b)

pub placed_few : (n : ℕ) (bs : List ℕ) → length (placed_from n Between bs) ≤ length bs
placed_few n bs = omega (arith, from_few n Between bs)

-- ---- what stands behind the blanks

pub behind_blanks : (n : ℕ) (bs blanks here : List ℕ) (k lines : ℕ) → k ≡ prefix_len is_blank bs → blanks ≡ take k bs
    → here ≡ drop k bs → lines ≡ feeds blanks → placed_from n Between bs ≡ placed_from (n + lines) Between here
behind_blanks n bs blanks here k lines len front back count = rw (count, front, back, len) (blanks_passed n bs)

-- no blank stands first
pub dark_first : (bs here : List ℕ) (k : ℕ) → k ≡ prefix_len is_blank bs → here ≡ drop k bs → 1 ≤ length here
    → is_blank (slice_index_or here 0 0) ≡ false
dark_first bs [] k len back some = absurd (omega (arith, some))
dark_first bs (b ∷ here) k len back some =
    let within : k < length bs = omega (arith, length-drop k bs, ap length back) in
    let inside : prefix_len is_blank bs < length bs = rw (← len) within in
    let first : b ≡ get_or bs k 0 = ap (λ l. get_or l 0 0) (back ∙ drop_more bs k 0 within) in
    rw (first, len) (prefix_len_stops is_blank bs 0 inside)

-- ---- what is taken

pub bare_taken : (n first : ℕ) (behind here rest : List ℕ) (symbol : Symbol) → here ≡ first ∷ behind
    → is_bare_byte first ≡ true → symbol ≡ bare_symbol (take (prefix_len is_bare_byte here) here)
    → rest ≡ drop (prefix_len is_bare_byte here) here
    → placed_from n Between here ≡ on_line n symbol ∷ placed_from n Between rest
bare_taken n first behind here rest symbol is bare word left = rw (word, left, is) (bare_here n first behind bare)

closed_by : (name rest : List ℕ)
    → closed_symbol name rest ≡ (if not (length rest == 0) then escaped_symbol name else Mark 92)
closed_by name [] = refl
closed_by name (b ∷ bs) =
    let some : (length (b ∷ bs) == 0) ≡ false = false_from_ne_true _ (λ none. omega (arith, eqb-true _ 0 none)) in
    ap (λ c. if not c then escaped_symbol name else Mark 92) (sym some)

pub escaped_taken : (n k : ℕ) (bs name rest : List ℕ) (symbol : Symbol) → k ≡ prefix_len dark bs → name ≡ take k bs
    → rest ≡ drop k bs → symbol ≡ (if not (length rest == 0) then escaped_symbol name else Mark 92)
    → placed_from n (Escaped []) bs ≡ on_line n symbol ∷ placed_from n Between rest
escaped_taken n k bs name rest symbol len front back is =
    let same : symbol ≡ closed_symbol name rest = is ∙ sym (closed_by name rest) in
    rw (same, front, back, len) (escaped_from n [] bs)
