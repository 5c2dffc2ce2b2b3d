-- Classes for which a table has the next value at each copy, and needs that they meet.
use Rattle.std.proofs.Common.{◌≡◌, ◌≢◌, ℕ, zero, suc, ◌+◌, ◌<◌, not, Bool, true, false, List, [], ◌∷◌, ◌++◌}
use Rattle.std.proofs.Common.{length, get_or, All, refl, sym, ap, ◌∙◌, arith, inl, inr}
use Rattle.std.proofs.lemmas.Bool.{cases_Bool, true≢false}
use Rattle.std.proofs.lemmas.List.Elements.{All-contains}
use mathlib.Core.Bool.{beq}
use Rattle.si_base.specs.Bits.{bit}
use Rattle.si_base.specs.Codes.{CodedGraph, IsCoded, code, next_value}
use Rattle.si_base.specs.Sets.{IsIn, is_in}
use Rattle.si_base.proofs.BitFacts.{flip-other}
use Rattle.si_base.proofs.StepCodes.{code_of_step, step_within}
use Rattle.si_cell.specs.Library.{code_of}
use Rattle.si_insert.specs.declared.partition.Class.{Class}
use Rattle.si_insert.specs.declared.partition.Class.TheVariants.{Low, Rising, High, Falling}
use Rattle.si_insert.specs.Insertion.{entry, has_copy}
use Rattle.si_insert.specs.Partition.{IsLawful, class_of}
use Rattle.si_insert.proofs.PartitionClasses.{entry_there, leaves}
use Rattle.si_match.specs.Triggers.{IsTrigger}
use Rattle.si_bounds.specs.Loops.Needs.{AsksWithin, HasSize, IsNeedOf, IsTold, SomeIsMet, Suits, is_high, is_low}
use Rattle.si_bounds.specs.Loops.Points.{IsBlind, misses, places_of, with_last}
use Rattle.si_bounds.specs.declared.needs.Need.{Need}
use Rattle.si_bounds.specs.declared.points.Places.{Places}
use Rattle.si_bounds.proofs.NeedPoints.{within_size}

-- ---- classes with a copy at one value alone
high_alone : (k : Class) → (has_copy k false ≡ true → ⊥) → is_high k ≡ true
high_alone Low none = absurd (none refl)
high_alone Rising none = absurd (none refl)
high_alone High none = refl
high_alone Falling none = absurd (none refl)

low_alone : (k : Class) → (has_copy k true ≡ true → ⊥) → is_low k ≡ true
low_alone Low none = refl
low_alone Rising none = absurd (none refl)
low_alone High none = absurd (none refl)
low_alone Falling none = absurd (none refl)

no_zero : (k : Class) → is_high k ≡ true → has_copy k false ≡ true → ⊥
no_zero Low high there = true≢false (sym high)
no_zero Rising high there = true≢false (sym high)
no_zero High high there = true≢false (sym there)
no_zero Falling high there = true≢false (sym high)

no_one : (k : Class) → is_low k ≡ true → has_copy k true ≡ true → ⊥
no_one Low low there = true≢false (sym there)
no_one Rising low there = true≢false (sym low)
no_one High low there = true≢false (sym low)
no_one Falling low there = true≢false (sym low)

-- ---- needs that classes meet
module _ (c : CodedGraph) (classes : List Class) (z : ℕ) (places : Places) (table : ℕ) where
  -- where classes meet the need of a table, it suits them
  pub met_suits : (need : Need) → IsNeedOf c z places table need
      → AsksWithin need (λ s. is_high (class_of classes s)) (λ s. is_low (class_of classes s))
      → Suits c classes z places table
  met_suits need is met s value within there = at value there
    where
      k : Class
      k = class_of classes s

      at : (value : Bool) → has_copy k value ≡ true → misses c z places table value s ≡ false
      at false there = elim (cases_Bool (is_in need.high s)) [
        | inl asked ↦ absurd (no_zero k (met.asks_high s asked) there)
        | inr free ↦ sym (is.high s within) ∙ free
      ]
      at true there = elim (cases_Bool (is_in need.low s)) [
        | inl asked ↦ absurd (no_one k (met.asks_low s asked) there)
        | inr free ↦ sym (is.low s within) ∙ free
      ]

  -- and classes that a table suits meet one of the needs that tell of it
  pub suits_meets : (needs : List Need) → All (HasSize c.graph.states) needs → IsTold c z places needs table
      → Suits c classes z places table → SomeIsMet needs classes
  suits_meets needs sizes (inl (s, within, at_zero, at_one)) suits = absurd (
      let there = entry_there (class_of classes s) in
      true≢false (sym (both (entry (class_of classes s))) ∙ suits s (entry (class_of classes s)) within there))
    where
      both : (value : Bool) → misses c z places table value s ≡ true
      both false = at_zero
      both true = at_one
  suits_meets needs sizes (inr (need, there, within)) suits = (need, there, record { asks_high = high; asks_low = low })
    where
      size : HasSize c.graph.states need
      size = All-contains (HasSize c.graph.states) needs need sizes there

      high : (s : ℕ) → IsIn need.high s → is_high (class_of classes s) ≡ true
      high s asked = high_alone (class_of classes s) (λ copy. true≢false (sym (within.asks_high s asked)
          ∙ suits s false (within_size need.high c.graph.states s size.high asked) copy))

      low : (s : ℕ) → IsIn need.low s → is_low (class_of classes s) ≡ true
      low s asked = low_alone (class_of classes s) (λ copy. true≢false (sym (within.asks_low s asked)
          ∙ suits s true (within_size need.low c.graph.states s size.low asked) copy))

-- ---- a place that the table doesn't read
-- values at the other places and at that one
module _ (table place : ℕ) (blind : IsBlind table place) where
  any_value : (before after : List Bool) → length before ≡ place → length (before ++ after) ≡ 4 → (v w : Bool)
      → bit table (code_of (before ++ v ∷ after)) ≡ bit table (code_of (before ++ w ∷ after))
  any_value before after at count true true = refl
  any_value before after at count true false = sym (blind before after at count)
  any_value before after at count false true = blind before after at count
  any_value before after at count false false = refl

-- with signals at the places, codes that agree at all of them but one place have one value of the table
module _ (table z : ℕ) (xs ys : List ℕ) (k m : ℕ) (own : bit k z ≡ bit m z) (last : Bool) where
  abbrev value_over : List ℕ → ℕ → Bool
  value_over signals code = bit table (with_last z (places_of z signals) code last)

  pub same_but_one : (q : ℕ) → q < 3 → IsBlind table (q + 1) → ((j : ℕ) → j ≢ q → bit k (get_or xs j z) ≡ bit m (get_or ys j z))
      → value_over xs k ≡ value_over ys m
  same_but_one zero low blind same =
      let second = same 1 (λ e. absurd (omega (arith, e))) in
      let third = same 2 (λ e. absurd (omega (arith, e))) in
      (λ i. bit table (code_of (own i ∷ bit k (get_or xs 0 z) ∷ second i ∷ third i ∷ last ∷ [])))
      ∙ any_value table 1 blind (bit m z ∷ []) (bit m (get_or ys 1 z) ∷ bit m (get_or ys 2 z) ∷ last ∷ []) refl refl
      (bit k (get_or xs 0 z)) (bit m (get_or ys 0 z))
  same_but_one (suc zero) low blind same =
      let first = same 0 (λ e. absurd (omega (arith, e))) in
      let third = same 2 (λ e. absurd (omega (arith, e))) in
      (λ i. bit table (code_of (own i ∷ first i ∷ bit k (get_or xs 1 z) ∷ third i ∷ last ∷ [])))
      ∙ any_value table 2 blind (bit m z ∷ bit m (get_or ys 0 z) ∷ []) (bit m (get_or ys 2 z) ∷ last ∷ []) refl refl
      (bit k (get_or xs 1 z)) (bit m (get_or ys 1 z))
  same_but_one (suc (suc zero)) low blind same =
      let first = same 0 (λ e. absurd (omega (arith, e))) in
      let second = same 1 (λ e. absurd (omega (arith, e))) in
      (λ i. bit table (code_of (own i ∷ first i ∷ second i ∷ bit k (get_or xs 2 z) ∷ last ∷ [])))
      ∙ any_value table 3 blind (bit m z ∷ bit m (get_or ys 0 z) ∷ bit m (get_or ys 1 z) ∷ []) (last ∷ []) refl refl
      (bit k (get_or xs 2 z)) (bit m (get_or ys 2 z))
  same_but_one (suc (suc (suc q))) low blind same = absurd (omega (arith, low))

-- lists that differ at one place
elsewhere : (chosen rest : List ℕ) (v w d j : ℕ) → j ≢ length chosen
    → get_or (chosen ++ v ∷ rest) j d ≡ get_or (chosen ++ w ∷ rest) j d
elsewhere [] rest v w d zero other = absurd (other refl)
elsewhere [] rest v w d (suc j) other = refl
elsewhere (u ∷ chosen) rest v w d zero other = refl
elsewhere (u ∷ chosen) rest v w d (suc j) other = elsewhere chosen rest v w d j (λ same. other (ap suc same))

pub missed_not : (a b : Bool) → not (beq a b) ≡ false → a ≡ b
missed_not true true hits = refl
missed_not true false hits = absurd (true≢false hits)
missed_not false true hits = absurd (true≢false hits)
missed_not false false hits = refl

module _ (c : CodedGraph) (classes : List Class) (z table : ℕ) where
  -- a signal at a place that isn't read may be any other one
  pub suits_any : (chosen rest : List ℕ) (y w : ℕ) → length chosen < 3 → IsBlind table (length chosen + 1)
      → Suits c classes z (places_of z (chosen ++ y ∷ rest)) table
      → Suits c classes z (places_of z (chosen ++ w ∷ rest)) table
  suits_any chosen rest y w few blind suits s value within there =
      ap (λ v. not (beq v (next_value c s z))) same ∙ suits s value within there
    where
      k : ℕ
      k = code c s

      same : bit table (with_last z (places_of z (chosen ++ w ∷ rest)) k value)
          ≡ bit table (with_last z (places_of z (chosen ++ y ∷ rest)) k value)
      same = same_but_one table z (chosen ++ w ∷ rest) (chosen ++ y ∷ rest) k k refl value (length chosen) few blind
          (λ j other. ap (bit k) (elsewhere chosen rest w y z j other))

  -- it reads the place of a trigger that stands at no other place
  module _ (is : IsCoded c) (lawful : IsLawful c.graph classes) (signals : List ℕ)
      (suits : Suits c classes z (places_of z signals) table) (i q : ℕ) (trigger : IsTrigger c z i) (low : q < 3)
      (others : (j : ℕ) → j ≢ q → get_or signals j z ≢ i) where
    pub reads_trigger : IsBlind table (q + 1) → ⊥
    reads_trigger blind = trigger.changes (sym (hits u to_within to_there) ∙ sym same ∙ hits s from_within from_there)
      where
        s : ℕ
        s = trigger.from

        u : ℕ
        u = trigger.to

        value : Bool
        value = entry (class_of classes u)

        from_within : s < c.graph.states
        from_within = (step_within c.graph s trigger.event u is.graph_is trigger.step).0

        to_within : u < c.graph.states
        to_within = (step_within c.graph s trigger.event u is.graph_is trigger.step).2

        from_there : has_copy (class_of classes s) value ≡ true
        from_there = leaves (class_of classes s) (class_of classes u) (lawful.arcs s trigger.event u trigger.step)

        to_there : has_copy (class_of classes u) value ≡ true
        to_there = entry_there (class_of classes u)

        value_at : ℕ → Bool
        value_at t = bit table (with_last z (places_of z signals) (code c t) value)

        hits : (t : ℕ) → t < c.graph.states → has_copy (class_of classes t) value ≡ true
            → value_at t ≡ next_value c t z
        hits t within there = missed_not (value_at t) (next_value c t z) (suits t value within there)

        bit_of : ℕ → ℕ → Bool
        bit_of j k = bit k j

        kept : (j : ℕ) → j ≢ i → bit (code c s) j ≡ bit (code c u) j
        kept j other = sym (ap (bit_of j) (code_of_step c s trigger.event u is trigger.step)
            ∙ flip-other (code c s) trigger.event.sig j (λ same. other (same ∙ trigger.signal)))

        same : value_at s ≡ value_at u
        same = same_but_one table z signals signals (code c s) (code c u) (kept z (λ e. trigger.other (sym e))) value q low
            blind (λ j apart. kept (get_or signals j z) (others j apart))
