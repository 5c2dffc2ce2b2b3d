-- Each gate that is read has a name, and few pins.
use Rattle.std.proofs.Common.{◌≡◌, ℕ, zero, suc, ◌<◌, ◌==◌, ◌||◌, false, List, [], ◌∷◌, length, drop, nat_le, Result}
use Rattle.std.proofs.Common.{Ok, Err, refl, inl, inr, arith}
use Rattle.std.proofs.lemmas.Bool.{cases_Bool, true≢false, or_parts, eqb-false, leb-false}
use Rattle.std.proofs.lemmas.List.{length-take-le}
use Rattle.si_base.specs.Lines.{begins}
use Rattle.si_words.specs.Sums.{is_empty}
use Rattle.si_base.specs.declared.fault.TextKind.TheVariants.{BadGate}
use Rattle.si_tokens.specs.declared.fault.Stop.{Stop}
use Rattle.si_tokens.specs.Unread.{◌>>=◌, Unread, Piece, to_next, word_here, tokens, first_of, token_at}
use Rattle.si_genlib.specs.Expression.{Tree, trees, start, read, is_name}
use Rattle.si_genlib.specs.Ports.{IsPortName}
use Rattle.si_genlib.specs.Statements.{if_passes, quoted_len, quoted, name_of_word, name_at, decimal_at, out_at}
use Rattle.si_genlib.specs.Statements.{equals_at, body_at, gate_at}
use Rattle.si_genlib.proofs.GateCellLemmas.{IsReadGate, Holds}
use Rattle.si_genlib.proofs.ExpressionReads.{pins_few}
use Rattle.si_genlib.proofs.PortNameLemmas.{IsWhole, AreWhole, tokens_whole, ports_named}

pub then_holds : {A B : Type 0} (P : A → Type 0) (Q : B → Type 0) (r : Result A Stop) (f : A → Result B Stop)
    → Holds P r → ((x : A) → P x → Holds Q (f x)) → Holds Q (r >>= f)
then_holds P Q (Ok x) f first next = next x first
then_holds P Q (Err stop) f first next = tt

-- nothing is known of what is read
pub anything : {A : Type 0} (r : Result A Stop) → Holds (λ x. Unit {0}) r
anything (Ok x) = tt
anything (Err stop) = tt

-- ---- names
abbrev IsNamed : List ℕ × Unread → Type 0
IsNamed x = 0 < length x.0

some_bytes : (bytes : List ℕ) → is_empty bytes ≡ false → 0 < length bytes
some_bytes [] some = absurd (true≢false some)
some_bytes (b ∷ bs) some = omega arith

quoted_named : (u : Unread) → Holds IsNamed (quoted u)
quoted_named u = elim (cases_Bool ((quoted_len u.here == 0) || nat_le (length u.here) (quoted_len u.here))) [
  | inl bad ↦ rw bad tt
  | inr good ↦ (
      let parts = or_parts (quoted_len u.here == 0) (nat_le (length u.here) (quoted_len u.here)) good in
      let some = eqb-false (quoted_len u.here) 0 parts.0 in
      let less = leb-false (length u.here) (quoted_len u.here) parts.1 in
      let all = length-take-le (quoted_len u.here) u.here (omega (arith, less)) in
      rw good (rw all (positive (quoted_len u.here) some)))
]
  where
    positive : (n : ℕ) → (n ≡ 0 → ⊥) → 0 < n
    positive zero none = absurd (none refl)
    positive (suc n) some = omega arith

word_named : (p : Piece) → Holds IsNamed (name_of_word p)
word_named p = elim (cases_Bool (is_empty p.bytes)) [
  | inl none ↦ rw none tt
  | inr some ↦ rw some (some_bytes p.bytes some)
]

name_named : (u : Unread) → Holds IsNamed (name_at u)
unfolding name_at
name_named u = elim (cases_Bool (begins (λ b. b == 34) (to_next u).here)) [
  | inl quote ↦ rw quote (quoted_named (record {
    number = (to_next u).number;
    here = drop 1 (to_next u).here;
    lines = (to_next u).lines;
  }))
  | inr plain ↦ rw plain (word_named (word_here (to_next u)))
]

-- ---- gates
-- the name of the own output has the bytes of a port's name
abbrev IsOut : List ℕ × Unread → Type 0
IsOut x = IsPortName x.0

first_is_whole : (ps : List Piece) → AreWhole ps → Holds (λ p. IsWhole p.bytes) (first_of ps)
first_is_whole [] whole = tt
first_is_whole (p ∷ ps) whole = whole.0

passed_out : (p : Piece) → IsWhole p.bytes
    → Holds IsOut (if_passes (is_name p.bytes) BadGate p >>= λ rest. Ok (p.bytes, rest))
passed_out p whole = elim (cases_Bool (is_name p.bytes)) [ inl name ↦ rw name (whole name) | inr mark ↦ rw mark tt ]

out_is_named : (u : Unread) → Holds IsOut (out_at u)
unfolding out_at
out_is_named u = then_holds {A = Piece} (λ p. IsWhole p.bytes) IsOut (token_at u) _
    (first_is_whole (tokens u) (tokens_whole u)) passed_out

body_is_read : (line : ℕ) (name out : List ℕ) (u : Unread) → 0 < length name → IsPortName out
    → Holds (λ x. IsReadGate x.0) (body_at line name out u)
unfolding body_at
body_is_read line name out u some is = then_holds {A = Tree × Unread} (λ x. Unit {0}) (λ x. IsReadGate x.0)
    (read trees start (tokens u)) _ (anything (read trees start (tokens u)))
    (λ x any. record { named = some; few = pins_few out (tokens u); ports = ports_named out u is })

pub gate_is_read : (line : ℕ) (u : Unread) → Holds (λ x. IsReadGate x.0) (gate_at line u)
unfolding gate_at
gate_is_read line u = then_holds {A = List ℕ × Unread} IsNamed (λ x. IsReadGate x.0) (name_at u) _ (name_named u)
    (λ name some. then_holds {A = Unread} (λ x. Unit {0}) (λ x. IsReadGate x.0) (decimal_at name.1) _
    (anything (decimal_at name.1))
    (λ area any. then_holds {A = List ℕ × Unread} IsOut (λ x. IsReadGate x.0) (out_at area) _
    (out_is_named area)
    (λ out is. then_holds {A = Unread} (λ x. Unit {0}) (λ x. IsReadGate x.0) (equals_at out.1) _
    (anything (equals_at out.1))
    (λ body any. body_is_read line name.0 out.0 body some is))))
