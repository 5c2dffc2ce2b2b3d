-- The names of handshakes have the forms that texts ask for.
use Rattle.std.proofs.Common.{◌≡◌, ◌≢◌, ℕ, ◌+◌, ◌-◌, ◌^◌, ◌<◌, ◌≤◌, Bool, true, List, [], ◌∷◌}
use Rattle.std.proofs.Common.{◌++◌, length, get_or, All, AllPairs, IsTrue, codes, decimal, refl, sym, ap, subst, ◌∙◌}
use Rattle.std.proofs.Common.{arith, inl, inr}
use Rattle.std.proofs.lemmas.Bool.{and_from, le-leb, ne_eqb, cases_lt}
use Rattle.std.proofs.lemmas.Fmt.{decimal_is_IsNumeral}
use Rattle.std.proofs.lemmas.Str.Parse.{digit_from_value}
use Rattle.std.specs.List.{list_all}
use Rattle.std.specs.Str.Parse.{AllDigits}
use Rattle.si_base.specs.declared.graph.Signal.{Signal}
use Rattle.si_base.specs.declared.graph.SigKind.TheVariants.{Input, Output, Inserted}
use Rattle.si_base.specs.Bytes.{digit_zero, digit_nine, dot}
use Rattle.si_base.specs.GivenGraph.{Sg}
use Rattle.si_base.specs.Words.{is_name_byte, is_signal_name, IsStateName}
use Rattle.si_base.proofs.NumberedNames.{numbers_differ, digit_is_name_byte}
use Rattle.si_sg.specs.CanonicalText.{IsWritable}
use Rattle.si_sg.specs.StateWords.{is_state_byte}
use Rattle.si_handshakes.specs.Handshakes.{numbered, IsHandshakes, max_handshakes}
use Rattle.si_handshakes.proofs.NamesNumbered.{length-numbered, name_at, both_kinds, twice_as_many}
use Rattle.si_handshakes.proofs.NamesNumbered.{input_at, output_at}
use Rattle.si_handshakes.proofs.HandshakeProper.{connected}
use Rattle.si_handshakes.proofs.HandshakeSizes.{within_limits}

-- ---- digits
digits_pass : (test : ℕ → Bool) → ((c : ℕ) → digit_zero ≤ c → c ≤ digit_nine → test c ≡ true) → (ds : List ℕ)
    → AllDigits 10 ds → list_all test ds ≡ true
digits_pass test each [] digits = refl
digits_pass test each (d ∷ ds) digits =
    let range = digit_from_value d digits.0 in
    and_from (test d) (list_all test ds) (each d range.0 range.1) (digits_pass test each ds digits.1)

decimals_pass : (test : ℕ → Bool) → ((c : ℕ) → digit_zero ≤ c → c ≤ digit_nine → test c ≡ true) → (k : ℕ) → k < 2 ^ 64
    → list_all test (decimal k) ≡ true
decimals_pass test each k small = digits_pass test each (decimal k) (decimal_is_IsNumeral k small).0.1

digit_is_state_byte : (c : ℕ) → digit_zero ≤ c → c ≤ digit_nine → is_state_byte c ≡ true
digit_is_state_byte c low high =
    let above = le-leb 33 c (omega arith) in
    let below = le-leb c 126 (omega arith) in
    let no_hash = ne_eqb c 35 (λ same. absurd (omega arith)) in
    let no_opening = ne_eqb c 123 (λ same. absurd (omega arith)) in
    let no_closing = ne_eqb c 125 (λ same. absurd (omega arith)) in
    let no_at = ne_eqb c 64 (λ same. absurd (omega arith)) in
    rw (above, below, no_hash, no_opening, no_closing, no_at) refl

-- ---- names
state_name : (k : ℕ) → k < 2 ^ 64 → IsStateName (codes "s" ++ decimal k)
state_name k small = record {
  bytes = decimals_pass is_state_byte digit_is_state_byte k small;
  some = omega arith;
  no_dot = λ rest same.
      (let s : ℕ = 115 in
      let first : s ≡ dot = ap (λ (l : List ℕ). get_or l 0 0) same in absurd (omega arith));
  not_down = λ same.
      (let s : ℕ = 115 in
      let d : ℕ = 100 in
      let first : s ≡ d = ap (λ (l : List ℕ). get_or l 0 0) same in absurd (omega arith));
}

signal_names : (n : ℕ) → n < 2 ^ 63 → All (λ x. IsTrue (is_signal_name x.name)) (both_kinds n)
signal_names n small k d within = elim (cases_lt k n) [
  | inl low ↦ rw (input_at n k d low) (decimals_pass is_name_byte digit_is_name_byte k (omega arith))
  | inr high ↦
      (let inside : k < n + n = omega (arith, twice_as_many n) in
      rw (output_at n k d high inside) (decimals_pass is_name_byte digit_is_name_byte (k - n) (omega arith)))
]

none_inserted : (n : ℕ) → All (λ x. x.kind ≢ Inserted) (both_kinds n)
none_inserted n k d within = elim (cases_lt k n) [
  | inl low ↦ rw (input_at n k d low) (λ (same : Input ≡ Inserted). cc)
  | inr high ↦
      (let inside : k < n + n = omega (arith, twice_as_many n) in
      rw (output_at n k d high inside) (λ (same : Output ≡ Inserted). cc))
]

names_apart : (stem : List ℕ) (n : ℕ) → n < 2 ^ 64 → AllPairs (λ a b. a ≢ b) (numbered stem n)
names_apart stem n small i j d before within same =
    let second : j < n = omega (arith, length-numbered stem n) in
    let equal : i ≡ j = numbers_differ stem i j (omega arith) (omega arith)
    (sym (name_at stem n i d (omega arith)) ∙ same ∙ name_at stem n j d second) in
    omega arith

state_names : (n : ℕ) → n < 2 ^ 64 → All IsStateName (numbered (codes "s") n)
state_names n small k d within =
    let inside : k < n = omega (arith, length-numbered (codes "s") n) in
    subst IsStateName (sym (name_at (codes "s") n k d inside)) (state_name k (omega arith))

pub writable : (n : ℕ) (sg : Sg) → n ≤ max_handshakes → IsHandshakes n sg → IsWritable sg
writable n sg few is =
    let limits = within_limits n sg is few in
    let most : 4 ^ n ≤ 65536 = omega (arith, limits.states, is.count) in
    record {
      graph = is.graph;
      connected = connected n sg is;
      model = rw (is.model) refl;
      signals = subst (All (λ (x : Signal). IsTrue (is_signal_name x.name))) (sym is.signals)
          (signal_names n (omega (arith, few)));
      given = subst (All (λ (x : Signal). x.kind ≢ Inserted)) (sym is.signals) (none_inserted n);
      states = subst (All IsStateName) (sym is.states) (state_names (4 ^ n) (omega (arith, most)));
      distinct = subst (AllPairs (λ (a b : List ℕ). a ≢ b)) (sym is.states)
          (names_apart (codes "s") (4 ^ n) (omega (arith, most)));
      count = ap length is.states ∙ length-numbered (codes "s") (4 ^ n) ∙ sym is.count;
      few_states = omega (arith, limits.states);
      few_edges = omega (arith, limits.arcs);
    }
