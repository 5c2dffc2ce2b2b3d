-- Renamed cubes: how the code makes them, and that they are cubes over the whole's signals.
use Rattle.std.proofs.Common.{◌≡◌, ℕ, zero, suc, ◌+◌, ◌-◌, ◌<◌, ◌≤◌, ◌==◌, Bool, true, false, List, [], ◌∷◌}
use Rattle.std.proofs.Common.{◌++◌, Option, Some, None, flat_map, All, slice_index, refl, sym, ap}
use Rattle.std.proofs.Common.{subst, ◌∙◌, arith, inl, inr, append-nil, eq-eqb, ne_eqb}
use Rattle.std.specs.List.{range_with_len}
use Rattle.std.proofs.lemmas.Bool.{cases_eq, true≢false}
use Rattle.std.proofs.lemmas.Grind.{flat_map-append}
use Rattle.std.proofs.lemmas.List.Elements.{All-cons, All-nil}
use Rattle.std.proofs.lemmas.List.Kept.{AllPairs-cons}
use Rattle.si_base.specs.declared.ids.Literal.{Literal}
use Rattle.si_base.specs.Bits.{bit, IsSet}
use Rattle.si_base.specs.Limits.{code_width}
use Rattle.si_base.specs.Netlist.{Sum}
use Rattle.si_base.specs.WellFormed.{IsCube, IsSum}
use Rattle.si_base.proofs.BitFacts.{bit-zero}
use Rattle.si_cube.specs.Literals.{InSignalOrder, IsWithin, literals_from, literals_of}
use Rattle.si_insert.proofs.StateCopyPlaces.{range_more}
use Rattle.si_joins.specs.Gates.{literal_at, literal_if, renamed_cube, renamed_sum}
use Rattle.si_netlist_reader.proofs.CubeLemmas.{none_of, pushed}

abbrev lit : ℕ → Bool → Literal
lit k v = record { sig = k; plain = v }

-- ---- the literal that stands at a signal, looked for from signal z on
module _ (to : List ℕ) (k : ℕ) where
  abbrev pub rest_at : (z care value : ℕ) → Option Bool
  rest_at z care value = literal_at to (literals_from (code_width - z) z care value) k

  pub rest_first : (care value : ℕ) (cube : List Literal) → literals_of care value ≡ cube
      → rest_at 0 care value ≡ literal_at to cube k
  unfolding literals_of
  rest_first care value cube view = ap (λ (ls : List Literal). literal_at to ls k) view

  -- the literals from z on are those of z and those behind it
  opened : (z care value : ℕ) (o : Option Bool) → z < code_width → rest_at z care value ≡ o
      → literal_at to (literals_from (suc (code_width - (z + 1))) z care value) k ≡ o
  opened z care value o within is =
      let more : code_width - z ≡ suc (code_width - (z + 1)) = omega arith in
      subst (λ (m : ℕ). literal_at to (literals_from m z care value) k ≡ o) more is

  pub rest_found : (z care value : ℕ) (o : Option Bool) → z < code_width → rest_at z care value ≡ o → bit care z ≡ true
      → slice_index to z ≡ k → Some (bit value z) ≡ o
  rest_found z care value o within is cares same =
      let open_is = opened z care value o within is in
      let here : (slice_index to z == k) ≡ true = eq-eqb (slice_index to z) k same in
      let first : literal_at to (literals_from (suc (code_width - (z + 1))) z care value) k ≡ Some (bit value z) =
      rw (cares, here) refl in
      sym first ∙ open_is

  pub rest_without : (z care value : ℕ) (o : Option Bool) → z < code_width → rest_at z care value ≡ o → bit care z ≡ false
      → rest_at (z + 1) care value ≡ o
  rest_without z care value o within is none =
      let first : literal_at to (literals_from (suc (code_width - (z + 1))) z care value) k ≡ rest_at (z + 1) care value =
      rw none refl in
      sym first ∙ opened z care value o within is

  pub rest_elsewhere : (z care value : ℕ) (o : Option Bool) → z < code_width → rest_at z care value ≡ o
      → bit care z ≡ true → (slice_index to z ≡ k → ⊥) → rest_at (z + 1) care value ≡ o
  rest_elsewhere z care value o within is cares other =
      let elsewhere : (slice_index to z == k) ≡ false = ne_eqb (slice_index to z) k other in
      let first : literal_at to (literals_from (suc (code_width - (z + 1))) z care value) k ≡ rest_at (z + 1) care value =
      rw (cares, elsewhere) refl in
      sym first ∙ opened z care value o within is

-- ---- the cube so far: its literals at the signals below k
module _ (to : List ℕ) (cube : List Literal) where
  abbrev at : ℕ → List Literal
  at k = literal_if k (literal_at to cube k)

  pub record IsMade (k care value : ℕ) : Type 0 where
    pub literals : literals_of care value ≡ renamed_cube to k cube
    pub below : (j : ℕ) → bit care j ≡ true → j < k
    pub within : IsWithin care value

  no_bit : (j : ℕ) → bit 0 j ≡ true → ⊥
  no_bit j on = true≢false (sym on ∙ bit-zero j)

  pub made_none : IsMade 0 0 0
  made_none = record {
    literals = none_of;
    below = λ j on. absurd (no_bit j on);
    within = λ j on. absurd (no_bit j on);
  }

  one_more : (k : ℕ) → renamed_cube to (k + 1) cube ≡ renamed_cube to k cube ++ at k
  one_more k =
      ap (flat_map at) (range_more k) ∙ flat_map-append at (range_with_len 0 k) (k ∷ [])
      ∙ ap (λ (ls : List Literal). renamed_cube to k cube ++ ls) (append-nil (at k))

  pub made_skip : (k care value : ℕ) → IsMade k care value → literal_at to cube k ≡ None → IsMade (k + 1) care value
  made_skip k care value m none =
      let more : renamed_cube to (k + 1) cube ≡ renamed_cube to k cube =
      one_more k ∙ ap (λ (o : Option Bool). renamed_cube to k cube ++ literal_if k o) none
      ∙ append-nil (renamed_cube to k cube) in
      record {
        literals = m.literals ∙ sym more;
        below = λ j on. (let small = m.below j on in omega (arith, small));
        within = m.within;
      }

  pub made_more : (k care value care2 value2 : ℕ) (v : Bool) → k < code_width → IsMade k care value
      → literal_at to cube k ≡ Some v → IsSet care k true care2 → IsSet value k v value2 → IsMade (k + 1) care2 value2
  made_more k care value care2 value2 v inside m some s t =
      let more : renamed_cube to (k + 1) cube ≡ renamed_cube to k cube ++ lit k v ∷ [] =
      one_more k ∙ ap (λ (o : Option Bool). renamed_cube to k cube ++ literal_if k o) some in
      record {
        literals = pushed k care value care2 value2 v inside s t m.below
            ∙ ap (λ (ls : List Literal). ls ++ lit k v ∷ []) m.literals ∙ sym more;
        below = λ j on. elim (cases_eq j k) [
          | inl same ↦ omega (arith, same)
          | inr other ↦ (let small = m.below j (sym (s.others j other) ∙ on) in omega (arith, small))
        ];
        within = λ j on. elim (cases_eq j k) [
          | inl same ↦ subst (λ (i : ℕ). bit care2 i ≡ true) (sym same) s.there
          | inr other ↦ s.others j other ∙ m.within j (sym (t.others j other) ∙ on)
        ];
      }

  -- ---- it is a cube
  abbrev from : (i m : ℕ) → List Literal
  from i m = flat_map at (range_with_len i m)

  all_between : (i m n : ℕ) → i + m ≤ n → All (λ l. l.sig < n) (from i m)
  all_between i zero n within = All-nil (λ (l : Literal). l.sig < n)
  all_between i (suc m) n within = by_literal (literal_at to cube i) (all_between (i + 1) m n (omega (arith, within)))
    where
      by_literal : (o : Option Bool) → All (λ l. l.sig < n) (from (i + 1) m)
          → All (λ l. l.sig < n) (literal_if i o ++ from (i + 1) m)
      by_literal None later = later
      by_literal (Some v) later = All-cons (λ (l : Literal). l.sig < n) (lit i v) (from (i + 1) m)
          (omega (arith, within)) later

  all_above : (i m : ℕ) → All (λ l. i ≤ l.sig) (from i m)
  all_above i zero = All-nil (λ (l : Literal). i ≤ l.sig)
  all_above i (suc m) = by_literal (literal_at to cube i) (λ k d inside. (let above = all_above (i + 1) m k d inside in
      omega (arith, above)))
    where
      by_literal : (o : Option Bool) → All (λ l. i ≤ l.sig) (from (i + 1) m)
          → All (λ l. i ≤ l.sig) (literal_if i o ++ from (i + 1) m)
      by_literal None later = later
      by_literal (Some v) later = All-cons (λ (l : Literal). i ≤ l.sig) (lit i v) (from (i + 1) m) (omega arith) later

  rising : (i m : ℕ) → InSignalOrder (from i m)
  rising i zero = λ j k d order within. absurd (omega arith)
  rising i (suc m) = by_literal (literal_at to cube i) (λ k d inside. (let above = all_above (i + 1) m k d inside in
      omega (arith, above))) (rising (i + 1) m)
    where
      by_literal : (o : Option Bool) → All (λ l. i < l.sig) (from (i + 1) m) → InSignalOrder (from (i + 1) m)
          → InSignalOrder (literal_if i o ++ from (i + 1) m)
      by_literal None above later = later
      by_literal (Some v) above later =
          AllPairs-cons (λ (k l : Literal). k.sig < l.sig) (lit i v) (from (i + 1) m) above later

  pub is_cube : (n : ℕ) → IsCube n (renamed_cube to n cube)
  is_cube n = record { rising = rising 0 n; there = all_between 0 n n (omega arith) }

pub is_sum : (to : List ℕ) (n : ℕ) (sum : Sum) → IsSum n (renamed_sum to n sum)
is_sum to n [] = All-nil (IsCube n)
is_sum to n (cube ∷ sum) = All-cons (IsCube n) (renamed_cube to n cube) (renamed_sum to n sum) (is_cube to cube n)
    (is_sum to n sum)
