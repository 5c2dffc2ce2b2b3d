-- Cubes, read one word after another.
use Rattle.std.proofs.Common.{◌≡◌, ℕ, ◌+◌, ◌≤◌, ◌<◌, ◌&&◌, true, false, List, [], ◌∷◌, length, drop, get_or}
use Rattle.std.proofs.Common.{refl, sym, ap, ◌∙◌, arith, Bor, codes, nat_le, nat_lt, inl, inr, ◌⊎◌}
use Rattle.std.proofs.Common.{Option, Some, None, Ok, Err}
use Rattle.std.proofs.lemmas.Bool.{true≢false}
use Rattle.std.proofs.lemmas.List.Folds.{list_all-append}
use Rattle.std.proofs.lemmas.Nat.Bits.{bit_at-zero}
use Rattle.std.specs.List.{list_all}
use Rattle.std.specs.Option.{option_or}
use Rattle.si_base.specs.Bits.{bit, IsSet}
use Rattle.si_base.specs.Limits.{code_width}
use Rattle.si_base.specs.declared.fault.TextKind.{TextKind}
use Rattle.si_base.specs.declared.fault.TextKind.TheVariants.{BadLine}
use Rattle.si_base.specs.declared.ids.Literal.{Literal}
use Rattle.si_cube.specs.Literals.{literals_of, IsWithin}
use Rattle.si_words.specs.Loops.Reads.{words_now}
use Rattle.si_words.specs.Sums.{is_one}
use Rattle.si_tokens.specs.LineParts.{held, each_after}
use Rattle.si_tokens.proofs.LinePartLemmas.{with_fault, with_value}
use Rattle.si_tokens.specs.SumParts.{literal_part}
use Rattle.si_netlist_reader.specs.GateParts.{in_order, next_literal, cube_part}
use Rattle.si_netlist_reader.proofs.CubeLemmas.{none_of, pushed}

module _ (names : List (List ℕ)) (words : List (Bor (List ℕ))) where
  -- the words from the i-th on complete this cube, whose literals stand before signal `next`
  pub record InCube (i care value next : ℕ) (fault : Option TextKind) : Type 0 where
    pub read : held fault (each_after (next_literal names) (literals_of care value) (words_now (drop i words)))
        ≡ each_after (next_literal names) [] (words_now words)
    pub order : (s : ℕ) → list_all (λ (l : Literal). nat_lt l.sig s) (literals_of care value) ≡ nat_le next s
    pub below : (j : ℕ) → bit care j ≡ true → j < next
    pub within : IsWithin care value

  pub in_none : InCube 0 0 0 0 None
  in_none = record {
    read = ap (λ ls. each_after (next_literal names) ls (words_now words)) none_of;
    order = λ s. ap (list_all (λ (l : Literal). nat_lt l.sig s)) none_of ∙ grind arith;
    below = λ j on. absurd (true≢false (sym on ∙ rw (bit_at-zero j) refl));
    within = λ j on. absurd (true≢false (sym on ∙ rw (bit_at-zero j) refl));
  }

  pub one_read : is_one (codes "1") (words_now words) ≡ true
      → Some (Ok (literals_of 0 0)) ≡ cube_part names (words_now words)
  one_read one = ap (λ ls. Some (Ok ls)) none_of ∙ by_words (words_now words) one
    where
      by_words : (ws : List (List ℕ)) → is_one (codes "1") ws ≡ true → Some (Ok []) ≡ cube_part names ws
      by_words [] one = absurd (true≢false (sym one))
      by_words (w ∷ ws) one = rw one refl

  module _ (i : ℕ) (d : Bor (List ℕ)) (inside : i < length words) (care value next : ℕ) (fault : Option TextKind)
      (so_far : InCube i care value next fault) where
    abbrev word : List ℕ
    word = (get_or words i d).now

    abbrev literals : List Literal
    literals = literals_of care value

    abbrev now : Bor (List ℕ) → List ℕ
    now w = w.now

    faulty : (kind : TextKind) → next_literal names literals word ≡ Some (Err kind)
        → InCube (i + 1) care value next (option_or fault (Some kind))
    faulty kind is = record {
      read = sym (with_fault (next_literal names) now literals fault words i d inside kind is) ∙ so_far.read;
      order = so_far.order;
      below = so_far.below;
      within = so_far.within;
    }

    pub undeclared : (kind : TextKind) → literal_part names word ≡ Some (Err kind)
        → InCube (i + 1) care value next (option_or fault (Some kind))
    undeclared kind is = faulty kind (ap (in_order literals) is)

    pub disordered : (l : Literal) → literal_part names word ≡ Some (Ok l) → l.sig < next
        → InCube (i + 1) care value next (option_or fault (Some BadLine))
    disordered l is low =
        let late : nat_le next l.sig ≡ false = grind arith in
        faulty BadLine (ap (in_order literals) is ∙ rw (so_far.order l.sig, late) refl)

    pub ordered : (l : Literal) (care2 value2 next2 : ℕ) → literal_part names word ≡ Some (Ok l) → next ≤ l.sig
        → l.sig < code_width → IsSet care l.sig true care2 → IsSet value l.sig l.plain value2 → next2 ≡ l.sig + 1
        → InCube (i + 1) care2 value2 next2 fault
    ordered l care2 value2 next2 is high small s t more =
        let before : (j : ℕ) → bit care j ≡ true → j < l.sig = λ j on. omega (arith, so_far.below j on) in
        let longer = pushed l.sig care value care2 value2 l.plain small s t before in
        let in_turn : nat_le next l.sig ≡ true = grind arith in
        let one : next_literal names literals word ≡ Some (Ok l) =
        ap (in_order literals) is ∙ rw (so_far.order l.sig, in_turn) refl in
        record {
          read = ap (λ ls. held fault (each_after (next_literal names) ls (words_now (drop (i + 1) words)))) longer
              ∙ sym (with_value (next_literal names) now literals fault words i d inside l one) ∙ so_far.read;
          order = λ k. ap (list_all (λ (m : Literal). nat_lt m.sig k)) longer
              ∙ list_all-append (λ (m : Literal). nat_lt m.sig k) literals (l ∷ []) ∙ rw (so_far.order k) (later k);
          below = λ j on. elim (same_or_not j l.sig) [
            | inl e ↦ omega arith
            | inr ne ↦ (let earlier = before j (sym (s.others j ne) ∙ on) in omega arith)
          ];
          within = λ j on. elim (same_or_not j l.sig) [
            | inl e ↦ rw e s.there
            | inr ne ↦ s.others j ne ∙ so_far.within j (sym (t.others j ne) ∙ on)
          ];
        }
      where
        same_or_not : (a b : ℕ) → (a ≡ b) ⊎ (a ≡ b → ⊥)
        same_or_not a b = grind arith

        later : (k : ℕ) → (nat_le next k && (nat_lt l.sig k && true)) ≡ nat_le next2 k
        later k = grind arith
