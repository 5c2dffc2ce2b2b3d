-- What tables need of the states, by the points of these.
use Rattle.std.proofs.Common.{◌≡◌, ℕ, ◌⊎◌, ◌<◌, ◌≤◌, ◌&&◌, Bool, true, false, List, length, get_or}
use Rattle.std.proofs.Common.{All, Contains, refl, sym, ap, subst, ◌∙◌, arith, inl, inr}
use Rattle.std.proofs.lemmas.Bool.{cases_lt, true≢false}
use Rattle.std.proofs.lemmas.List.{get_or_default, get_or_past}
use Rattle.std.proofs.lemmas.List.Elements.{All-contains}
use Rattle.si_base.specs.Bits.{bit}
use Rattle.si_base.specs.Codes.{CodedGraph, code, next_value}
use Rattle.si_base.specs.Sets.{IsIn, is_in}
use Rattle.si_bounds.specs.Loops.Needs.{AreStatesAt, AsksWithin, IsNeedAt, IsNeedOf, IsNeedOfOne, IsTold}
use Rattle.si_bounds.specs.Loops.Needs.{NeverHas}
use Rattle.si_bounds.specs.Loops.Points.{AreMissed, ArePoints, AreSmall, Clashes, IsMissedByOne, IsMissedTold}
use Rattle.si_bounds.specs.Loops.Points.{MissesLess, misses, places_of, point_of, values_at}
use Rattle.si_bounds.specs.declared.needs.Need.{Need}
use Rattle.si_bounds.specs.declared.points.Missed.{Missed}
use Rattle.si_bounds.specs.declared.points.Places.{Places}
use Rattle.si_bounds.specs.declared.points.Points.{Points}
use Rattle.si_bounds.proofs.NeedLists.{AreAddedBefore, less_within}

-- the signals at the places are among the graph's
pub small_places : (n z : ℕ) (chosen : List ℕ) → z < n → All (λ y. y < n) chosen → AreSmall n (places_of z chosen)
small_places n z chosen z_small small = record { first = at 0; second = at 1; third = at 2 }
  where
    at : (k : ℕ) → get_or chosen k z < n
    at k = elim (cases_lt k (length chosen)) [
      | inl within ↦ small k z within
      | inr past ↦ subst (λ y. y < n) (sym (get_or_past chosen k z past)) z_small
    ]

pub smaller_places : (n m : ℕ) (places : Places) → n ≤ m → AreSmall n places → AreSmall m places
smaller_places n m places more small = record {
  first = omega (arith, small.first, more);
  second = omega (arith, small.second, more);
  third = omega (arith, small.third, more);
}

pub within_size : (states : List Bool) (count s : ℕ) → length states ≡ count → IsIn states s → s < count
within_size states count s size there = elim (cases_lt s count) [
  | inl within ↦ within
  | inr past ↦ absurd (true≢false (sym there ∙ get_or_past states s false (omega (arith, past, size))))
]

module _ (c : CodedGraph) (z : ℕ) (places : Places) (points : Points) (are : ArePoints c z places points) where
  abbrev point : ℕ → ℕ
  point = point_of c z places

  -- ---- what one table misses
  module _ (table : ℕ) (missed : Missed) (by_table : AreMissed table points.seen missed) where
    seen_there : (s : ℕ) → s < c.graph.states → bit points.seen (point s) ≡ true
    seen_there s within = (are.seen (point s)).1 (s, within, refl)

    zero_missed : (s : ℕ) → s < c.graph.states → bit missed.at_zero (point s) ≡ misses c z places table false s
    zero_missed s within =
        by_table.at_zero (values_at z places (code c s)) (next_value c s z) refl
        ∙ ap (λ b. b && misses c z places table false s) (seen_there s within)

    one_missed : (s : ℕ) → s < c.graph.states → bit missed.at_one (point s) ≡ misses c z places table true s
    one_missed s within =
        by_table.at_one (values_at z places (code c s)) (next_value c s z) refl
        ∙ ap (λ b. b && misses c z places table true s) (seen_there s within)

    -- the states whose points are in the set
    at_point : (set : ℕ) (states : List Bool) → AreStatesAt points.at.items set states → (s : ℕ) → s < c.graph.states
        → is_in states s ≡ bit set (point s)
    at_point set states at s within =
        at.each s (omega (arith, within, are.count)) ∙ ap (bit set) (are.each s within)

    inside : (set : ℕ) (states : List Bool) → AreStatesAt points.at.items set states → (s : ℕ) → IsIn states s
        → s < c.graph.states
    inside set states at s there = within_size states c.graph.states s (at.count ∙ are.count) there

    pub need_of_table : (need : Need) → IsNeedAt points.at.items missed need → IsNeedOf c z places table need
    need_of_table need is = record {
      size = record { high = is.high.count ∙ are.count; low = is.low.count ∙ are.count };
      high = λ s within. at_point missed.at_zero need.high is.high s within ∙ zero_missed s within;
      low = λ s within. at_point missed.at_one need.low is.low s within ∙ one_missed s within;
    }

    never_has : Clashes missed → NeverHas c z places table
    never_has (m, zero_misses, one_misses) =
        let (s, within, at) = (are.seen m).0 (by_table.zero_seen m zero_misses) in (
          s,
          within,
          sym (zero_missed s within) ∙ ap (bit missed.at_zero) at ∙ zero_misses,
          sym (one_missed s within) ∙ ap (bit missed.at_one) at ∙ one_misses,
        )

    -- a need at no more points asks for no more states
    asks_no_more : (less : Missed) (need : Need) → MissesLess less missed → IsNeedAt points.at.items less need
        → AsksWithin need (misses c z places table false) (misses c z places table true)
    asks_no_more less need fewer is = record {
      asks_high = λ s there. (
          let within = inside less.at_zero need.high is.high s there in
          let at_less = sym (at_point less.at_zero need.high is.high s within) ∙ there in
          sym (zero_missed s within) ∙ fewer.at_zero (point s) at_less);
      asks_low = λ s there. (
          let within = inside less.at_one need.low is.low s there in
          let at_less = sym (at_point less.at_one need.low is.low s within) ∙ there in
          sym (one_missed s within) ∙ fewer.at_one (point s) at_less);
    }

  -- ---- what all tables need
  module _ (tables : List ℕ) (least : List Missed) (before needs : List Need) (count : ℕ) (past : length least ≤ count)
      (added : AreAddedBefore points.at.items least count before needs) where
    pub told_over : ((t : ℕ) → Contains tables t → IsMissedTold t points.seen least) → All (IsTold c z places needs) tables
    told_over told k d within = by_missed (told t (k, within, get_or_default tables k t d within))
      where
        t : ℕ
        t = get_or tables k d

        by_missed : IsMissedTold t points.seen least → IsTold c z places needs t
        by_missed of_t = elim of_t.told [
          | inl clash ↦ inl (never_has t of_t.missed of_t.are clash)
          | inr (less, (j, low, at), fewer) ↦ inr (
              let (need, is, some) = added.told j less (omega (arith, low, past)) in
              let is_less = subst (λ m. IsNeedAt points.at.items m need) at is in
              less_within needs need (misses c z places t false) (misses c z places t true) some
              (asks_no_more t of_t.missed of_t.are less need fewer is_less))
        ]

    pub exact_over : AreSmall (length c.graph.signals) places → All (IsMissedByOne tables points.seen) least
        → All (λ need. Contains before need ⊎ IsNeedOfOne c z tables need) needs
    exact_over small by_one k d within = by_origin (added.no_more k d within)
      where
        need : Need
        need = get_or needs k d

        by_origin : Contains before need ⊎ ((m : Missed) × Contains least m × IsNeedAt points.at.items m need)
            → Contains before need ⊎ IsNeedOfOne c z tables need
        by_origin (inl there) = inl there
        by_origin (inr (m, there, is)) = inr (
            let (t, t_there, by_table) = All-contains (IsMissedByOne tables points.seen) least m by_one there in
            record {
              table = t;
              places = places;
              there = t_there;
              small = small;
              is = need_of_table t m by_table need is;
            })
