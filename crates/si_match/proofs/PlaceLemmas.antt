-- Signals at places: what a truth table tells of instances over them.
use Rattle.std.proofs.Common.{◌≡◌, ℕ, zero, suc, ◌⊎◌, ◌+◌, ◌*◌, ◌/◌, ◌%◌, ◌<◌, ◌≤◌, ◌==◌, ◌^◌, Bool, true, false}
use Rattle.std.proofs.Common.{List, [], ◌∷◌, ◌++◌, length, map, get_or, All, Contains, if◌then◌else◌, bit_and}
use Rattle.std.proofs.Common.{refl, sym, ap, subst, ◌∙◌, arith, inl, inr, ◌||◌, not, bit_or, bit_xor, eq-eqb}
use Rattle.std.specs.Int.{bit_at}
use Rattle.std.proofs.lemmas.Bool.{cases_Bool, true≢false}
use Rattle.std.proofs.lemmas.Bool.Decides.{eqb_tells}
use Rattle.std.proofs.lemmas.List.{get_or-map, get_or_default, length-map}
use Rattle.std.proofs.lemmas.List.Elements.{All-nil, All-cons, All-head, All-tail, All-map, All-contains}
use Rattle.std.proofs.lemmas.Nat.Bits.{bit_at-lt, bit_at-suc, bit_at_lowest, bit_at_xor}
use mir.Val.{bool_byte}
use Rattle.std.proofs.Math.Nat.{mod-eq_of_lt}
use Rattle.std.proofs.Math.Pow.{pow-lt}
use Rattle.si_base.proofs.BitFacts.{below_two, bit-zero, bit-or, bit-and, flip-same, flip-other}
use Rattle.si_base.specs.Bits.{bit, flip, IsSet}
use Rattle.si_base.specs.Codes.{CodedGraph, IsCoded, code}
use Rattle.si_base.specs.Netlist.{literal_value, sum_value}
use Rattle.si_base.specs.declared.ids.Literal.{Literal}
use Rattle.si_cell.specs.Library.{Cell, Library, Instance, IsInstance, admits, cell_at, code_of, pin_values}
use Rattle.si_cell.specs.declared.pins.Pins.{Pins}
use Rattle.si_cell.specs.declared.pins.Pins.TheVariants.{Any, Plain}
use Rattle.si_cell.specs.Limits.{max_pins, table_codes}
use Rattle.si_cell.proofs.CubeLemmas.{and_first, and_second}
use Rattle.si_cell.proofs.ExpandedLemmas.{bit_of}
use Rattle.si_match.specs.Loops.Choices.{AreAmong, NoneFitsOver}
use Rattle.si_match.specs.Functions.{AreFunctions, function_table, places}
use Rattle.si_match.specs.Loops.Known.{IsFitted}
use Rattle.si_match.specs.Loops.Places.{placed_code, Agrees, Differs, AreSeen}
use Rattle.si_match.specs.declared.places.Seen.{Seen}
use Rattle.si_match.proofs.FunctionLemmas.{has_table, instance_of_table, table_bit}

-- ---- the signals at places
pub bit_placed : (signals : List ℕ) (k p : ℕ) → p < length signals
    → bit (placed_code signals k) p ≡ bit k (get_or signals p 0)
bit_placed signals k p within = bit_of (map (bit k) signals) p ∙ get_or-map (bit k) signals p 0 false within

one_le : (b : Bool) → (if b then 1 else 0) ≤ 1
one_le true = omega arith
one_le false = omega arith

pub placed_small : (signals : List ℕ) (k : ℕ) → placed_code signals k < 2 ^ length signals
placed_small [] k = omega arith
placed_small (y ∷ ys) k =
    let later = placed_small ys k in
    let double : 2 ^ suc (length ys) ≡ 2 * 2 ^ length ys = omega arith in
    omega (arith, later, double, one_le (bit k y))

-- the literal of the signal that stands at the literal's place
abbrev pub at_place : List ℕ → Literal → Literal
at_place signals l = record { sig = get_or signals l.sig 0; plain = l.plain }

-- another signal makes no difference to whether pins may have the literal
pub admitted_of : (allowed : Pins) (l : Literal) (sig : ℕ)
    → admits allowed (record { sig = sig; plain = l.plain }) ≡ admits allowed l
admitted_of Any l sig = refl
admitted_of Plain l sig = refl

values_same : (signals : List ℕ) (k : ℕ) (ls : List Literal) → All (λ (l : Literal). l.sig < length signals) ls
    → map (literal_value (placed_code signals k)) ls ≡ map (literal_value k) (map (at_place signals) ls)
values_same signals k [] small = refl
values_same signals k (l ∷ ls) small =
    let here = bit_placed signals k l.sig (All-head (λ (m : Literal). m.sig < length signals) l ls small) in
    let later = values_same signals k ls (All-tail (λ (m : Literal). m.sig < length signals) l ls small) in
    rw (here, later) refl

pub pins_same : (z k : ℕ) (chosen : List ℕ) (ls : List Literal)
    → All (λ (l : Literal). l.sig < length (z ∷ chosen)) ls
    → pin_values ls (placed_code (z ∷ chosen) k) (bit (placed_code (z ∷ chosen) k) 0)
    ≡ pin_values (map (at_place (z ∷ chosen)) ls) k (bit k z)
pins_same z k chosen ls small =
    let own = bit_placed (z ∷ chosen) k 0 (omega arith) in
    ap (λ (b : Bool). pin_values ls (placed_code (z ∷ chosen) k) b) own
    ∙ ap (λ (vs : List Bool). code_of (vs ++ bit k z ∷ [])) (values_same (z ∷ chosen) k ls small)

-- literals of signals that stand at places are those of literals of the places
pub placed_literals : (signals : List ℕ) (ls : List Literal) → AreAmong signals ls → (ps : List Literal)
    × All (λ (l : Literal). l.sig < length signals) ps × (map (at_place signals) ps ≡ ls)
placed_literals signals [] among = ([], All-nil (λ (l : Literal). l.sig < length signals), refl)
placed_literals signals (l ∷ ls) among =
    let (p, within, at) = All-head (λ (m : Literal). Contains signals m.sig) l ls among in
    let (ps, small, same) = placed_literals signals ls
    (All-tail (λ (m : Literal). Contains signals m.sig) l ls among) in
    let here : Literal = record { sig = p; plain = l.plain } in (
      here ∷ ps,
      All-cons (λ (m : Literal). m.sig < length signals) here ps within small,
      rw (same, whichever p within at)
          refl,
    )
  where
    whichever : (p : ℕ) → p < length signals → get_or signals p l.sig ≡ l.sig → get_or signals p 0 ≡ l.sig
    whichever p within at = get_or_default signals p 0 l.sig within ∙ at

-- ---- tables and instances
module _ (c : CodedGraph) (library : Library) (z : ℕ) (chosen tables : List ℕ) (is : IsCoded c)
    (z_small : z < length c.graph.signals) (small : All (λ y. y < length c.graph.signals) chosen)
    (full : length chosen ≡ max_pins) (are : AreFunctions library tables) where
  count : length (z ∷ chosen) ≡ places
  count = omega (arith, full)

  module _ (cell : Cell) (ps : List Literal) (placed : All (λ (l : Literal). l.sig < length (z ∷ chosen)) ps) where
    -- at a code the table has the value of the instance whose literals are of the signals at the places
    value_told : (k : ℕ) → bit (function_table cell ps) (placed_code (z ∷ chosen) k)
        ≡ sum_value (pin_values (map (at_place (z ∷ chosen)) ps) k (bit k z)) cell.sum
    value_told k =
        let below : placed_code (z ∷ chosen) k < table_codes =
        (let less = placed_small (z ∷ chosen) k in subst (λ n. placed_code (z ∷ chosen) k < 2 ^ n) count less) in
        table_bit cell ps (placed_code (z ∷ chosen) k) below
        ∙ ap (λ (v : ℕ). sum_value v cell.sum) (pins_same z k chosen ps placed)

  -- a table that agrees is that of a fitting instance
  pub agreeing_fits : (t : ℕ) → Contains tables t → Agrees c z chosen t → IsFitted c library z
  agreeing_fits t there agrees =
      let (i, instance, in_places, admitted, t_is) = instance_of_table library tables are t there in
      fitting i instance in_places admitted t_is
    where
      Small : Literal → Type 0
      Small l = l.sig < length c.graph.signals

      Admitted : Literal → Type 0
      Admitted l = admits library.pins l ≡ true

      all_small : All (λ y. y < length c.graph.signals) (z ∷ chosen)
      all_small = All-cons (λ (y : ℕ). y < length c.graph.signals) z chosen z_small small

      fitting : (i : Instance) → IsInstance library i → All (λ l. l.sig < places) i.literals
          → All (λ l. admits library.pins l ≡ true) i.literals
          → t ≡ function_table (cell_at library i.cell) i.literals → IsFitted c library z
      fitting i instance in_places admitted t_is = (
        record { cell = i.cell; literals = map (at_place (z ∷ chosen)) i.literals },
        record {
          instance = record {
            cell = instance.cell;
            pins = length-map i.literals (at_place (z ∷ chosen)) ∙ instance.pins;
            signals = λ k d within. (let below = signals_small k d within in
                omega (arith, below, is.graph_is.few_signals));
          };
          signals = signals_small;
          admitted = All-map Admitted (at_place (z ∷ chosen)) i.literals (λ k d within.
              admitted_of library.pins (get_or i.literals k d) _ ∙ admitted k d within);
        },
        λ s within. sym (value_told (cell_at library i.cell) i.literals placed (code c s))
            ∙ ap (λ (u : ℕ). bit u (placed_code (z ∷ chosen) (code c s))) (sym t_is) ∙ agrees s within,
      )
        where
          placed : All (λ (l : Literal). l.sig < length (z ∷ chosen)) i.literals
          placed = subst (λ n. All (λ (l : Literal). l.sig < n) i.literals) (sym count) in_places

          signals_small : All Small (map (at_place (z ∷ chosen)) i.literals)
          signals_small = All-map Small (at_place (z ∷ chosen)) i.literals
              (λ k d within. all_small (get_or i.literals k d).sig 0 (placed k d within))

  -- where each table differs, no instance over the signals fits
  pub differing_unfit : All (Differs c z chosen) tables → NoneFitsOver c library z chosen
  differing_unfit differ i over fit among =
      let (ps, placed, same) = placed_literals (z ∷ chosen) i.literals among in
      by_places ps placed same
    where
      by_places : (ps : List Literal) → All (λ (l : Literal). l.sig < length (z ∷ chosen)) ps
          → map (at_place (z ∷ chosen)) ps ≡ i.literals → ⊥
      by_places ps placed same =
          let (s, within, apart) = All-contains (Differs c z chosen) tables _ differ there in
          apart (value_told (cell_at library i.cell) ps placed (code c s)
          ∙ ap (λ (ls : List Literal). sum_value (pin_values ls (code c s) (bit (code c s) z))
          (cell_at library i.cell).sum) same ∙ fit s within)
        where
          in_places : All (λ (l : Literal). l.sig < places) ps
          in_places = subst (λ n. All (λ (l : Literal). l.sig < n) ps) count placed

          instance : IsInstance library (record { cell = i.cell; literals = ps })
          instance = record {
            cell = over.instance.cell;
            pins = sym (length-map ps (at_place (z ∷ chosen))) ∙ ap length same ∙ over.instance.pins;
            signals = λ k d within. (let below = in_places k d within in omega (arith, below));
          }

          Admitted : Literal → Type 0
          Admitted l = admits library.pins l ≡ true

          -- each is admitted, since the literal of the signal at its place is
          admitted : All Admitted ps
          admitted k d within =
              let at : get_or i.literals k (at_place (z ∷ chosen) d) ≡ at_place (z ∷ chosen) (get_or ps k d) =
              rw (← same) (get_or-map (at_place (z ∷ chosen)) ps k d (at_place (z ∷ chosen) d) within) in
              let inside : k < length i.literals = rw (← same, length-map) within in
              sym (admitted_of library.pins (get_or ps k d) _) ∙ sym (ap (admits library.pins) at)
              ∙ over.admitted k (at_place (z ∷ chosen) d) inside

          there : Contains tables (function_table (cell_at library i.cell) ps)
          there = has_table library tables are (record { cell = i.cell; literals = ps }) instance in_places
              admitted

-- ---- what was seen
-- a number that isn't 0 has a bit
first_below : (most k : ℕ) → 0 < k → k ≤ most → (m : ℕ) × (bit k m ≡ true)
first_below zero k some few = absurd (omega (arith, some, few))
first_below (suc most) k some few = elim (eqb_tells (k % 2) 1) [
  | inl odd ↦ (0, ap (λ (b : ℕ). b == 1) (bit_at_lowest k ∙ odd.1))
  | inr even ↦ (
      let not_odd = even.1 in
      let rest : k % 2 ≡ 0 = elim (below_two (k % 2) (omega arith)) [
        | inl none ↦ none
        | inr one ↦ absurd (not_odd one)
      ] in
      let half_some : 0 < k / 2 = omega (arith, some, rest) in
      let half_few : k / 2 ≤ most = omega (arith, few, some) in
      let (m, there) = first_below most (k / 2) half_some half_few in
      (suc m, ap (λ (b : ℕ). b == 1) (bit_at-suc k m) ∙ there))
]

pub first_bit : (k : ℕ) → 0 < k → (m : ℕ) × (bit k m ≡ true)
first_bit k some = first_below k k some (omega arith)

pub common_bit : (a b : ℕ) → (bit_and a b ≡ 0 → ⊥) → (m : ℕ) × (bit a m ≡ true) × (bit b m ≡ true)
common_bit a b some =
    let (m, there) = first_bit (bit_and a b) (omega (arith, some)) in
    let both = sym (bit-and a b m) ∙ there in
    (m, and_first (bit a m) (bit b m) both, and_second (bit a m) (bit b m) both)

pub bit_of_xor : (a b i : ℕ) → bit (bit_xor a b) i ≡ (if bit a i then not (bit b i) else bit b i)
bit_of_xor a b i =
    elim (below_two (bit_at a i) (bit_at-lt a i)) [
      | inl a0 ↦ elim (below_two (bit_at b i) (bit_at-lt b i)) [
        | inl b0 ↦ rw (bit_at_xor, a0, b0) refl
        | inr b1 ↦ rw (bit_at_xor, a0, b1) refl
      ]
      | inr a1 ↦ elim (below_two (bit_at b i) (bit_at-lt b i)) [
        | inl b0 ↦ rw (bit_at_xor, a1, b0) refl
        | inr b1 ↦ rw (bit_at_xor, a1, b1) refl
      ]
    ]

-- a set with a bit
power_bit : (place i : ℕ) → bit (2 ^ place) i ≡ bit (flip 0 place) i
power_bit place i = sym (bit_of_xor 0 (2 ^ place) i ∙ rw (bit-zero i) refl)

pub with_bit : (set place : ℕ) → place < table_codes → IsSet set place true (bit_or set (1 * 2 ^ place % 2 ^ 32))
with_bit set place small =
    let fits : 2 ^ place < 2 ^ 32 = pow-lt small in
    let power : 1 * 2 ^ place ≡ 2 ^ place = omega arith in
    let same : 1 * 2 ^ place % 2 ^ 32 ≡ 2 ^ place = rw power (mod-eq_of_lt fits) in
    rw same (record {
      there = bit-or set (2 ^ place) place ∙ or_one (bit set place) (bit (2 ^ place) place) own;
      others = λ k other. bit-or set (2 ^ place) k ∙ or_none (bit set k) (bit (2 ^ place) k) (none k other);
    })
  where
    own : bit (2 ^ place) place ≡ true
    own = power_bit place place ∙ flip-same 0 place ∙ ap not (bit-zero place)

    none : (k : ℕ) → (k ≡ place → ⊥) → bit (2 ^ place) k ≡ false
    none k other = power_bit place k ∙ flip-other 0 place k other ∙ bit-zero k

    or_one : (a b : Bool) → b ≡ true → (a || b) ≡ true
    or_one true b is = refl
    or_one false b is = is

    or_none : (a b : Bool) → b ≡ false → (a || b) ≡ a
    or_none true b is = refl
    or_none false b is = is

-- where a table differs from what was seen, it has 1 for 0 or 0 for 1
pub differing_bit : (on off table : ℕ)
    → (bit_and (bit_or on off) (bit_xor on table) ≡ 0 → ⊥)
    → (m : ℕ) × (((bit table m ≡ true) × (bit off m ≡ true)) ⊎ ((bit table m ≡ false) × (bit on m ≡ true)))
differing_bit on off table some =
    let (m, wanted, differs) = common_bit (bit_or on off) (bit_xor on table) some in (
      m,
      by_bits (bit on m) (bit off m) (bit table m) (sym (bit-or on off m) ∙ wanted)
          (sym (bit_of_xor on table m) ∙ differs),
    )
  where
    by_bits : (a b t : Bool) → (a || b) ≡ true → (if a then not t else t) ≡ true
        → ((t ≡ true) × (b ≡ true)) ⊎ ((t ≡ false) × (a ≡ true))
    by_bits true b true wanted differs = absurd (true≢false (sym differs))
    by_bits true b false wanted differs = inr (refl, refl)
    by_bits false b t wanted differs = inl (differs, wanted)

nonzero : (k : ℕ) → (k == 0) ≡ false → k ≡ 0 → ⊥
nonzero k e zero_it = true≢false (sym (eq-eqb k 0 zero_it) ∙ e)

pub both_bits : (on off : ℕ) → not (bit_and on off == 0) ≡ true
    → (m : ℕ) × (bit on m ≡ true) × (bit off m ≡ true)
both_bits on off some =
    common_bit on off (nonzero (bit_and on off) (not_is (bit_and on off == 0) some))
  where
    not_is : (b : Bool) → not b ≡ true → b ≡ false
    not_is true e = absurd (true≢false (sym e))
    not_is false e = refl

pub missed_bit : (on off table : ℕ) → (bit_and (bit_or on off) (bit_xor on table) == 0) ≡ false
    → (m : ℕ) × (((bit table m ≡ true) × (bit off m ≡ true)) ⊎ ((bit table m ≡ false) × (bit on m ≡ true)))
missed_bit on off table some =
    differing_bit on off table (nonzero (bit_and (bit_or on off) (bit_xor on table)) some)

module _ (c : CodedGraph) (z : ℕ) (chosen : List ℕ) where
  pub none_seen : AreSeen c z chosen (record { on = 0; off = 0 })
  none_seen = record {
    on = λ m there. absurd (true≢false (sym there ∙ bit-zero m));
    off = λ m there. absurd (true≢false (sym there ∙ bit-zero m));
  }

  module _ (seen : Seen) (are : AreSeen c z chosen seen) where
    -- a table that has 1 where 0 was seen differs, and one that has 0 where 1 was
    pub one_differs : (table m : ℕ) → bit table m ≡ true → bit seen.off m ≡ true → Differs c z chosen table
    one_differs table m has there =
        let (s, within, values, next) = are.off m there in
        (s, within, λ same. true≢false (sym has ∙ ap (bit table) (sym values) ∙ same ∙ next))

    pub zero_differs : (table m : ℕ) → bit table m ≡ false → bit seen.on m ≡ true → Differs c z chosen table
    zero_differs table m has there =
        let (s, within, values, next) = are.on m there in
        (s, within, λ same. true≢false (sym next ∙ sym same ∙ ap (bit table) values ∙ has))

    pub clash_differs : (table m : ℕ) → bit seen.on m ≡ true → bit seen.off m ≡ true → Differs c z chosen table
    clash_differs table m on off = elim (cases_Bool (bit table m)) [
      | inl has_one ↦ one_differs table m has_one off
      | inr has_zero ↦ zero_differs table m has_zero on
    ]

    pub missed_differs : (table : ℕ) → (m : ℕ) × (((bit table m ≡ true) × (bit seen.off m ≡ true))
        ⊎ ((bit table m ≡ false) × (bit seen.on m ≡ true))) → Differs c z chosen table
    missed_differs table (m, inl (has, off)) = one_differs table m has off
    missed_differs table (m, inr (has, on)) = zero_differs table m has on

pub byte_le : (b : Bool) (x : ℕ) → x ≡ bool_byte b → x ≤ 1
byte_le true x is = omega (arith, is)
byte_le false x is = omega (arith, is)

-- one more value in front of those of few places
pub small_value : (i v b : ℕ) → i ≤ max_pins → v < 2 ^ i → b ≤ 1 → b + 2 * v < table_codes
small_value zero v b few small unit = omega (arith, small, unit)
small_value (suc zero) v b few small unit = omega (arith, small, unit)
small_value (suc (suc zero)) v b few small unit = omega (arith, small, unit)
small_value (suc (suc (suc zero))) v b few small unit = omega (arith, small, unit)
small_value (suc (suc (suc (suc zero)))) v b few small unit = omega (arith, small, unit)
small_value (suc (suc (suc (suc (suc i))))) v b few small unit = absurd (omega (arith, few))
