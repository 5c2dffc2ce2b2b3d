-- The cube of an instance, built pin after pin.
use Rattle.std.proofs.Common.{◌≡◌, ℕ, zero, suc, ◌+◌, ◌-◌, ◌<◌, ◌≤◌, ◌&&◌, ◌||◌, not, Bool, true, false, List, [], ◌∷◌}
use Rattle.std.proofs.Common.{◌++◌, length, map, get_or, All, refl, sym, ap, ◌∙◌, arith, inl, inr, subst}
use Rattle.std.proofs.lemmas.Bool.{true≢false, cases_Bool}
use Rattle.std.proofs.lemmas.List.{map-append, map_push, append-nil, length-append}
use Rattle.std.proofs.Math.Seq.{get_or-append_seam}
use Rattle.std.proofs.lemmas.List.Folds.{list_any-append, list_any_none, list_any_at}
use mathlib.Core.Bool.{beq}
use Rattle.si_base.specs.Bits.{bit, IsSet}
use Rattle.si_base.specs.Limits.{code_width}
use Rattle.si_base.specs.declared.ids.Literal.{Literal}
use Rattle.si_cube.specs.Literals.{literals_from, literals_of}
use Rattle.si_cube.proofs.LiteralLemmas.{from_on}
use Rattle.si_cell.specs.Expanded.{placed}
use Rattle.si_cell.specs.Literals.{same_literal, has_literal, complement, clashes, in_literal_order}
use Rattle.si_cell.proofs.CubeLemmas.{same_self}
use Rattle.si_cell.proofs.OrderLemmas.{Makes, makes_none, makes_more, makes_in_order}

-- ---- literals of a cube, up to a signal and behind it
split : (n m i j total care value : ℕ) → total ≡ n + m → j ≡ i + n
    → literals_from total i care value ≡ literals_from n i care value ++ literals_from m j care value
split zero m i j total care value count at =
    let e : total ≡ m = omega arith in
    let f : j ≡ i = omega arith in
    rw (e, f) refl
split (suc n) m i j total care value count at =
    let e : total ≡ suc (n + m) = omega arith in
    rw e (elim (cases_Bool (bit care i)) [
      | inl on ↦ rw on (ap (λ (ls : List Literal). record { sig = i; plain = bit value i } ∷ ls) (split n m (i + 1) j
          (n + m) care value refl (omega arith)))
      | inr off ↦ rw off (split n m (i + 1) j (n + m) care value refl (omega arith))
    ])

-- the literals of the first signals, so many
abbrev pub before : ℕ → ℕ → ℕ → List Literal
before i care value = literals_from i 0 care value

next_off : (i care value : ℕ) → bit care i ≡ false → before (i + 1) care value ≡ before i care value
next_off i care value off = split i 1 0 i (i + 1) care value refl (omega arith)
    ∙ rw off (append-nil (before i care value))

next_on : (i care value : ℕ) → bit care i ≡ true → before (i + 1) care value ≡ before i care value
    ++ record { sig = i; plain = bit value i } ∷ []
next_on i care value on = split i 1 0 i (i + 1) care value refl (omega arith) ∙ rw on refl

whole_on : (i care value : ℕ) → i < code_width → bit care i ≡ true
    → literals_of care value ≡ before i care value ++ record { sig = i; plain = bit value i } ∷ literals_from
    (code_width - suc i) (i + 1) care value
unfolding literals_of
whole_on i care value within on =
    split i (suc (code_width - suc i)) 0 i code_width care value (omega arith) (omega arith) ∙ rw on refl

whole_at : (i care value : ℕ) → i ≤ code_width → All (λ (l : Literal). l.sig < i) (literals_of care value)
    → literals_of care value ≡ before i care value
unfolding literals_of
whole_at i care value within below =
    let parts = split i (code_width - i) 0 i code_width care value (omega arith) (omega arith) in
    parts ∙ no_rest (literals_from (code_width - i) i care value) (from_on (code_width - i) i care value) (subst (All
    (λ (l : Literal). l.sig < i)) parts below)
  where
    no_rest : (rest : List Literal) → All (λ (l : Literal). i ≤ l.sig) rest
        → All (λ (l : Literal). l.sig < i) (before i care value ++ rest) → before i care value
        ++ rest ≡ before i care value
    no_rest [] above low = append-nil (before i care value)
    no_rest (l ∷ ls) above low = absurd (
        let from : i ≤ l.sig = above 0 l (omega arith) in
        let to = low (length (before i care value)) l (rw length-append (omega arith)) in
        let below : l.sig < i = rw (get_or-append_seam (before i care value) l ls l) at to in
        omega (arith, from, below))

-- ---- literals of which none is the complement of another
pub no_clash : (literals : List Literal) (care value : ℕ) → Makes literals care value → clashes literals ≡ false
no_clash literals care value made = list_any_none (λ l. has_literal literals (complement l)) literals
    (λ k d inside. by_holds (get_or literals k d) (list_any_at (same_literal
    (get_or literals k d)) literals k d inside (same_self (get_or literals k d))))
  where
    by_holds : (l : Literal) → has_literal literals l ≡ true → has_literal literals (complement l) ≡ false
    by_holds l there = made.holds (complement l) ∙ turned (bit care l.sig) (bit value l.sig) l.plain (sym
        (made.holds l) ∙ there)
      where
        turned : (a b p : Bool) → (a && beq b p) ≡ true → (a && beq b (not p)) ≡ false
        turned true true true e = refl
        turned true false false e = refl
        turned true true false e = absurd (true≢false (sym e))
        turned true false true e = absurd (true≢false (sym e))
        turned false b p e = absurd (true≢false (sym e))

-- a literal whose complement stands before it
pub clash_at : (xs ys : List Literal) (m : Literal) → has_literal xs (complement m) ≡ true → clashes (xs
    ++ m ∷ ys) ≡ true
clash_at xs ys m met =
    let there : has_literal (xs ++ m ∷ ys) (complement m) ≡ true = list_any-append (same_literal (complement m)) xs
    (m ∷ ys) ∙ rw met refl in
    list_any-append (λ l. has_literal (xs ++ m ∷ ys) (complement l)) xs (m ∷ ys) ∙ or_middle _ _ _ there
  where
    or_middle : (a b c : Bool) → b ≡ true → (a || (b || c)) ≡ true
    or_middle true b c e = refl
    or_middle false b c e = rw e refl

-- ---- pin after pin, for the cube of this care and these values
module _ (at_pins : List Literal) (cube_care cube_value : ℕ) where
  abbrev lit : ℕ → Literal
  lit i = record { sig = i; plain = bit cube_value i }

  -- the literals of the first pins, so many, make this cube
  pub record InPlaced (i care value : ℕ) : Type 0 where
    pub made : Makes (map (placed at_pins) (before i cube_care cube_value)) care value

  pub none_placed : InPlaced 0 0 0
  none_placed = record { made = makes_none }

  pub passed : (i care value : ℕ) → bit cube_care i ≡ false → InPlaced i care value → InPlaced (i + 1) care value
  passed i care value off so_far = record { made = rw (next_off i cube_care cube_value off) so_far.made }

  pub placed_one : (i care value care2 value2 : ℕ) (m : Literal) → bit cube_care i ≡ true → placed at_pins (lit i) ≡ m
      → (bit care m.sig && not (beq (bit value m.sig) m.plain)) ≡ false → IsSet care m.sig true care2
      → IsSet value m.sig m.plain value2
      → InPlaced i care value → InPlaced (i + 1) care2 value2
  placed_one i care value care2 value2 m on is agree s t so_far = record {
    made = rw (next_on i cube_care cube_value on, map_push (placed at_pins) (before i cube_care cube_value) (lit i), is)
        (makes_more (map (placed at_pins) (before i cube_care cube_value)) m care value care2 value2 so_far.made
        (agrees (bit care m.sig) (bit value m.sig) m.plain agree) s t);
  }
    where
      agrees : (a b p : Bool) → (a && not (beq b p)) ≡ false → a ≡ true → b ≡ p
      agrees true true true e on = refl
      agrees true true false e on = absurd (true≢false e)
      agrees true false true e on = absurd (true≢false e)
      agrees true false false e on = refl
      agrees false b p e on = absurd (true≢false (sym on))

  pub met : (i care value : ℕ) (m : Literal) → i < code_width → bit cube_care i ≡ true → placed at_pins (lit i) ≡ m
      → (bit care m.sig && not (beq (bit value m.sig) m.plain)) ≡ true → InPlaced i care value
      → clashes (map (placed at_pins) (literals_of cube_care cube_value)) ≡ true
  met i care value m within on is meets so_far =
      let parts = ap (map (placed at_pins)) (whole_on i cube_care cube_value within on)
      ∙ map-append (placed at_pins) (before i cube_care cube_value) (lit i ∷ literals_from (code_width - suc i)
      (i + 1) cube_care cube_value) in
      rw (parts, is) (clash_at (map (placed at_pins) (before i cube_care cube_value)) _ m (so_far.made.holds
      (complement m) ∙ turned (bit care m.sig) (bit value m.sig) m.plain meets))
    where
      turned : (a b p : Bool) → (a && not (beq b p)) ≡ true → (a && beq b (not p)) ≡ true
      turned true true true e = absurd (true≢false (sym e))
      turned true true false e = refl
      turned true false true e = refl
      turned true false false e = absurd (true≢false (sym e))
      turned false b p e = absurd (true≢false (sym e))

  pub all_placed : (i care value : ℕ) → i ≤ code_width → All (λ (l : Literal). l.sig < i)
      (literals_of cube_care cube_value) → InPlaced i care value
      → (clashes (map (placed at_pins) (literals_of cube_care cube_value)) ≡ false)
      × (literals_of care value ≡ in_literal_order (map (placed at_pins) (literals_of cube_care cube_value)))
  all_placed i care value within below so_far =
      rw (whole_at i cube_care cube_value within below)
      (no_clash _ care value so_far.made, makes_in_order _ care value so_far.made)
