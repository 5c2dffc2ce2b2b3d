-- Each part of a statement takes bytes, so that reading ends.
use Rattle.std.proofs.Common.{◌≡◌, ℕ, zero, suc, ◌+◌, ◌<◌, ◌≤◌, ◌==◌, ◌||◌, ◌&&◌, Bool, true, false, List, [], ◌∷◌}
use Rattle.std.proofs.Common.{length, take, drop, bytes_eq, codes, nat_le, Result, Ok, Err, refl, arith, inl, inr}
use Rattle.std.specs.List.{prefix_len}
use Rattle.std.proofs.lemmas.Bool.{cases_Bool, true≢false}
use Rattle.std.proofs.lemmas.List.{length-drop}
use Rattle.si_base.specs.Lines.{Line, is_blank, begins}
use Rattle.si_words.specs.Sums.{is_empty}
use Rattle.si_cell.specs.Library.{Cell}
use Rattle.si_base.specs.declared.fault.TextKind.{TextKind}
use Rattle.si_tokens.specs.declared.fault.Stop.{Stop}
use Rattle.si_tokens.specs.Unread.{◌>>=◌, Unread, Piece, size, lines_size, after_blanks, to_next_from, to_next}
use Rattle.si_tokens.specs.Unread.{word_len, word_here, word, if_there, word_at, first_of, tokens, token_at}
use Rattle.si_tokens.specs.Decimal.{is_decimal}
use Rattle.si_genlib.specs.Expression.{Tree, trees, State, Outcome, Goes, Ends, Stops, start, read, led, step, symbol}
use Rattle.si_genlib.specs.Expression.{is_name}
use Rattle.si_genlib.specs.Gate.{Gate, with_gate, with_ports}
use Rattle.si_genlib.specs.Ports.{Ports}
use Rattle.si_genlib.specs.Statements.{if_passes, quoted_len, quoted, name_here, name_at, decimal_at, out_at, equals_at}
use Rattle.si_genlib.specs.Statements.{body_at, gate_at, is_phase, phase_at, decimals_at, pin_at, Progress}
use Rattle.si_genlib.specs.Statements.{gate_statement_at, pin_statement_at, statement_at, kept_from}
use Rattle.si_genlib.specs.GenlibText.{all_kept}
use Rattle.si_tokens.proofs.SourceLemmas.{AllSmaller, all_smaller}

-- no more is left behind what is read
abbrev Shrinks : {A : Type 0} → (A → Unread) → Result A Stop → Unread → Type 0
Shrinks rest (Ok x) u = size (rest x) ≤ size u
Shrinks rest (Err stop) u = Unit {0}

then_shrinks : {A B : Type 0} (one : A → Unread) (other : B → Unread) (r : Result A Stop) (f : A → Result B Stop)
    (u : Unread)
    → Shrinks one r u → ((x : A) → Shrinks other (f x) (one x)) → Shrinks other (r >>= f) u
then_shrinks {A} {B} one other (Ok x) f u first next = from (f x) (next x)
  where
    from : (r : Result B Stop) → Shrinks other r (one x) → Shrinks other r u
    from (Ok y) less = omega (arith, less, first)
    from (Err stop) less = tt
then_shrinks one other (Err stop) f u first next = tt

-- ---- words
blanks_size : (bs : List ℕ) → length (after_blanks bs) ≤ length bs
blanks_size bs = omega (arith, length-drop (prefix_len is_blank bs) bs)

next_size : (n : ℕ) (here : List ℕ) (lines : List Line)
    → size (to_next_from n here lines) ≤ length here + lines_size lines
next_size n here [] = let less = blanks_size here in omega (arith, less)
next_size n here (line ∷ lines) = elim (cases_Bool (is_empty (after_blanks here))) [
  | inl empty ↦ let less = next_size line.0 line.1 lines in rw empty (omega (arith, less))
  | inr some ↦ let less = blanks_size here in rw some (omega (arith, less))
]

word_here_size : (u : Unread) → size (word_here u).rest ≤ size u
word_here_size u = let less = length-drop (word_len u.here) u.here in omega (arith, less)

word_size : (u : Unread) → size (word u).rest ≤ size u
unfolding word
word_size u =
    let one = word_here_size (to_next u) in
    let other = next_size u.number u.here u.lines in
    omega (arith, one, other)

taken_some : (n : ℕ) (bs : List ℕ) → is_empty (take n bs) ≡ false → length (drop n bs) < length bs
taken_some zero bs some = absurd (true≢false some)
taken_some (suc n) [] some = absurd (true≢false some)
taken_some (suc n) (b ∷ bs) some = let less = length-drop n bs in omega (arith, less)

-- a word takes some bytes
pub word_takes : (u : Unread) → is_empty (word u).bytes ≡ false → size (word u).rest < size u
unfolding word
word_takes u some =
    let less = taken_some (word_len (to_next u).here) (to_next u).here some in
    let other = next_size u.number u.here u.lines in
    omega (arith, less, other)

there_shrinks : (p : Piece) (u : Unread) → size p.rest ≤ size u → Shrinks (λ (q : Piece). q.rest) (if_there p) u
there_shrinks p u less = elim (cases_Bool (is_empty p.bytes)) [ inl none ↦ rw none tt | inr some ↦ rw some less ]

word_shrinks : (u : Unread) → Shrinks (λ (q : Piece). q.rest) (word_at u) u
unfolding word_at
word_shrinks u = there_shrinks (word u) u (word_size u)

passes_shrinks : (b : Bool) (kind : TextKind) (p : Piece) → Shrinks (λ (u : Unread). u) (if_passes b kind p) p.rest
passes_shrinks true kind p = omega arith
passes_shrinks false kind p = tt

-- ---- tokens
first_shrinks : (k : ℕ) (ps : List Piece) (u : Unread) → AllSmaller k ps → k ≤ size u
    → Shrinks (λ (q : Piece). q.rest) (first_of ps) u
first_shrinks k [] u all less = tt
first_shrinks k (p ∷ ps) u all less = omega (arith, all.0)

token_shrinks : (u : Unread) → Shrinks (λ (q : Piece). q.rest) (token_at u) u
token_shrinks u = first_shrinks (size u) (tokens u) u (all_smaller u) (omega arith)

read_shrinks : (s : State Tree) (ps : List Piece) (u : Unread) → AllSmaller (size u) ps
    → Shrinks (λ (x : Tree × Unread). x.1) (read trees s ps) u
read_shrinks s [] u all = tt
read_shrinks s (p ∷ ps) u all = by_outcome (λ t. read_shrinks t ps u all.1) (step trees s (symbol trees p.bytes))
  where
    by_outcome : ((t : State Tree) → Shrinks (λ (x : Tree × Unread). x.1) (read trees t ps) u) → (c : Outcome Tree)
        → Shrinks (λ (x : Tree × Unread). x.1) (led (λ t. read trees t ps) p c) u
    by_outcome later (Goes t) = later t
    by_outcome later (Ends x) = omega (arith, all.0)
    by_outcome later (Stops kind) = tt

-- ---- the parts of a gate
quoted_shrinks : (u : Unread) → Shrinks (λ (x : List ℕ × Unread). x.1) (quoted u) u
quoted_shrinks u = elim (cases_Bool ((quoted_len u.here == 0) || nat_le (length u.here) (quoted_len u.here))) [
  | inl bad ↦ rw bad tt
  | inr good ↦ let less = length-drop (quoted_len u.here + 1) u.here in rw good (omega (arith, less))
]

name_here_shrinks : (u : Unread) → Shrinks (λ (x : List ℕ × Unread). x.1) (name_here u) u
name_here_shrinks u = elim (cases_Bool (begins (λ b. b == 34) u.here)) [
  | inl quote ↦
      let inner : Unread = record { number = u.number; here = drop 1 u.here; lines = u.lines } in
      let less = length-drop 1 u.here in
      rw quote (weaker (quoted inner) inner u (quoted_shrinks inner) (omega (arith, less)))
  | inr plain ↦ rw plain (then_shrinks (λ (q : Piece). q.rest) (λ (x : List ℕ × Unread). x.1) (if_there (word_here u))
      (λ p. Ok (p.bytes, p.rest)) u (there_shrinks (word_here u) u (word_here_size u)) (λ p. omega arith))
]
  where
    weaker : (r : Result (List ℕ × Unread) Stop) (v w : Unread) → Shrinks (λ (x : List ℕ × Unread). x.1) r v
        → size v ≤ size w → Shrinks (λ (x : List ℕ × Unread). x.1) r w
    weaker (Ok x) v w less more = omega (arith, less, more)
    weaker (Err stop) v w less more = tt

name_shrinks : (u : Unread) → Shrinks (λ (x : List ℕ × Unread). x.1) (name_at u) u
unfolding name_at
name_shrinks u = weaker (name_here (to_next u)) (name_here_shrinks (to_next u)) (next_size u.number u.here u.lines)
  where
    weaker : (r : Result (List ℕ × Unread) Stop) → Shrinks (λ (x : List ℕ × Unread). x.1) r (to_next u)
        → size (to_next u) ≤ size u → Shrinks (λ (x : List ℕ × Unread). x.1) r u
    weaker (Ok x) less more = omega (arith, less, more)
    weaker (Err stop) less more = tt

decimal_shrinks : (u : Unread) → Shrinks (λ (v : Unread). v) (decimal_at u) u
unfolding decimal_at
decimal_shrinks u = then_shrinks (λ (q : Piece). q.rest) (λ (v : Unread). v) (word_at u) _ u (word_shrinks u)
    (λ p. passes_shrinks (is_decimal p.bytes) _ p)

equals_shrinks : (u : Unread) → Shrinks (λ (v : Unread). v) (equals_at u) u
unfolding equals_at
equals_shrinks u = then_shrinks (λ (q : Piece). q.rest) (λ (v : Unread). v) (token_at u) _ u (token_shrinks u)
    (λ p. passes_shrinks (bytes_eq (codes "=") p.bytes) _ p)

out_shrinks : (u : Unread) → Shrinks (λ (x : List ℕ × Unread). x.1) (out_at u) u
unfolding out_at
out_shrinks u = then_shrinks (λ (q : Piece). q.rest) (λ (x : List ℕ × Unread). x.1) (token_at u) _ u (token_shrinks u)
    (λ p. then_shrinks (λ (v : Unread). v) (λ (x : List ℕ × Unread). x.1) (if_passes (is_name p.bytes) _ p) _ p.rest
    (passes_shrinks (is_name p.bytes) _ p) (λ rest. omega arith))

body_shrinks : (line : ℕ) (name out : List ℕ) (u : Unread)
    → Shrinks (λ (x : Gate × Unread). x.1) (body_at line name out u) u
unfolding body_at
body_shrinks line name out u = then_shrinks (λ (x : Tree × Unread). x.1) (λ (x : Gate × Unread). x.1)
    (read trees start (tokens u)) _ u (read_shrinks start (tokens u) u (all_smaller u)) (λ x. omega arith)

gate_shrinks : (line : ℕ) (u : Unread) → Shrinks (λ (x : Gate × Unread). x.1) (gate_at line u) u
unfolding gate_at
gate_shrinks line u = then_shrinks (λ (x : List ℕ × Unread). x.1) (λ (x : Gate × Unread). x.1) (name_at u) _ u
    (name_shrinks u)
    (λ name. then_shrinks (λ (v : Unread). v) (λ (x : Gate × Unread). x.1) (decimal_at name.1) _ name.1
    (decimal_shrinks name.1)
    (λ area. then_shrinks (λ (x : List ℕ × Unread). x.1) (λ (x : Gate × Unread). x.1) (out_at area) _ area
    (out_shrinks area)
    (λ out. then_shrinks (λ (v : Unread). v) (λ (x : Gate × Unread). x.1) (equals_at out.1) _ out.1
    (equals_shrinks out.1)
    (λ body. body_shrinks line name.0 out.0 body))))

-- ---- pins
phase_shrinks : (u : Unread) → Shrinks (λ (v : Unread). v) (phase_at u) u
unfolding phase_at
phase_shrinks u = then_shrinks (λ (q : Piece). q.rest) (λ (v : Unread). v) (word_at u) _ u (word_shrinks u)
    (λ p. passes_shrinks (is_phase p.bytes) _ p)

decimals_shrink : (n : ℕ) (u : Unread) → Shrinks (λ (v : Unread). v) (decimals_at n u) u
decimals_shrink zero u = omega arith
decimals_shrink (suc n) u = then_shrinks (λ (v : Unread). v) (λ (v : Unread). v) (decimal_at u) _ u (decimal_shrinks u)
    (λ rest. decimals_shrink n rest)

pin_shrinks : (u : Unread) → Shrinks (λ (v : Unread). v) (pin_at u) u
unfolding pin_at
pin_shrinks u = then_shrinks (λ (q : Piece). q.rest) (λ (v : Unread). v) (word_at u) _ u (word_shrinks u)
    (λ p. then_shrinks (λ (v : Unread). v) (λ (v : Unread). v) (phase_at p.rest) _ p.rest (phase_shrinks p.rest)
    (λ rest. decimals_shrink 6 rest))

-- ---- statements
cells_shrink : (ports : List Ports) (r : Result (List Cell) Stop) (u : Unread)
    → Shrinks (λ (x : Progress × Unread). x.1)
    (r >>= λ cells. Ok (record { cells = cells; ports = ports; begun = true }, u)) u
cells_shrink ports (Ok cells) u = omega arith
cells_shrink ports (Err stop) u = tt

pub statement_shrinks : (old : Progress) (p : Piece) → Shrinks (λ (x : Progress × Unread). x.1)
    (statement_at old p) p.rest
unfolding statement_at gate_statement_at pin_statement_at
statement_shrinks old p = elim (cases_Bool (bytes_eq (codes "GATE") p.bytes)) [
  | inl gate ↦ rw gate (then_shrinks (λ (x : Gate × Unread). x.1) (λ (x : Progress × Unread). x.1)
      (gate_at p.line p.rest) _ p.rest
      (gate_shrinks p.line p.rest) (λ g. cells_shrink (with_ports old.ports g.0) (with_gate old.cells g.0) g.1))
  | inr other ↦ elim (cases_Bool (bytes_eq (codes "PIN") p.bytes && old.begun)) [
    | inl pin ↦ rw (other, pin) (then_shrinks (λ (v : Unread). v) (λ (x : Progress × Unread). x.1)
        (pin_at p.rest) _ p.rest
        (pin_shrinks p.rest) (λ rest. omega arith))
    | inr none ↦ rw (other, none) tt
  ]
]

-- more statements than there are bytes left change nothing
enough : (n m : ℕ) (old : Progress) (u : Unread) → size u < n → size u < m → kept_from n old u ≡ kept_from m old u
enough zero m old u one other = absurd (omega arith)
enough (suc n) zero old u one other = absurd (omega arith)
enough (suc n) (suc m) old u one other = elim (cases_Bool (is_empty (word u).bytes)) [
  | inl none ↦ rw none refl
  | inr some ↦ rw some (by_result (λ new rest less. enough n m new rest (omega (arith, word_takes u some))
      (omega (arith, word_takes u some)))
      (statement_at old (word u)) (statement_shrinks old (word u)))
]
  where
    by_result : ((new : Progress) (rest : Unread) → size rest ≤ size (word u).rest → kept_from n new rest
        ≡ kept_from m new rest)
        → (r : Result (Progress × Unread) Stop) → Shrinks (λ (x : Progress × Unread). x.1) r (word u).rest
        → (r >>= λ new. kept_from n new.0 new.1) ≡ (r >>= λ new. kept_from m new.0 new.1)
    by_result later (Ok x) less = later x.0 x.1 less
    by_result later (Err stop) less = refl

-- ---- one statement after another
pub no_statement : (old : Progress) (u : Unread) → is_empty (word u).bytes ≡ true → all_kept old u ≡ Ok old
unfolding all_kept
no_statement old u none = rw none refl

pub one_statement : (old new : Progress) (u rest : Unread) → is_empty (word u).bytes ≡ false
    → statement_at old (word u) ≡ Ok (new, rest) → (all_kept old u ≡ all_kept new rest) × (size rest < size u)
unfolding all_kept
one_statement old new u rest some is =
    let less = word_takes u some in
    let shrinks = statement_shrinks old (word u) in
    let smaller : size rest ≤ size (word u).rest = rw is at shrinks in (
      (rw (some, is) (enough (size u) (suc (size rest)) new rest (omega (arith, less, smaller)) (omega arith))),
      omega (arith, less, smaller),
    )

pub bad_statement : (old : Progress) (u : Unread) (stop : Stop) → is_empty (word u).bytes ≡ false
    → statement_at old (word u) ≡ Err stop → all_kept old u ≡ Err stop
unfolding all_kept
bad_statement old u stop some is = rw (some, is) refl
