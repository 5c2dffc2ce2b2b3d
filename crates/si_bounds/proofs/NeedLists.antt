-- Lists of needs, one after the other.
use Rattle.std.proofs.Common.{◌≡◌, ◌≢◌, ℕ, ◌⊎◌, ◌+◌, ◌-◌, ◌<◌, ◌≤◌, Bool, true, false}
use Rattle.std.proofs.Common.{List, [], ◌∷◌, ◌++◌, length, get_or, set, All, Contains}
use Rattle.std.proofs.Common.{refl, sym, ap, subst, ◌∙◌, arith, inl, inr}
use Rattle.std.proofs.lemmas.Bool.{cases_lt}
use Rattle.std.proofs.lemmas.Bool.Decides.{eqb_tells}
use Rattle.std.proofs.lemmas.List.{get_or-set_same, get_or-set_other, get_or_default, length-set}
use Rattle.std.proofs.lemmas.List.Elements.{All-contains, All-push, Contains-append_left, Contains-push}
use Rattle.si_base.specs.Bits.{bit}
use Rattle.si_base.specs.Sets.{is_in}
use Rattle.si_insert.specs.declared.partition.Class.{Class}
use Rattle.si_insert.specs.declared.partition.Class.TheVariants.{Low, Rising, High, Falling}
use Rattle.si_insert.specs.Partition.{class_of}
use Rattle.si_bounds.specs.Loops.Needs.{AskNoMore, AsksLess, AsksWithin, SomeAskLess}
use Rattle.si_bounds.specs.Loops.Needs.{HasSize, IsNeedAt, SomeAsksWithin, is_high, is_low}
use Rattle.si_bounds.specs.Loops.Points.{IsBlind}
use Rattle.si_bounds.specs.declared.points.Missed.{Missed}
use Rattle.si_bounds.specs.declared.needs.Need.{Need}

-- ---- sets of states that are filled in one after the other
-- of the first states, so many, the set has those of the test, and it has no others
pub record AreFilledBefore (count all : ℕ) (test : ℕ → Bool) (states : List Bool) : Type 0 where
  pub size : length states ≡ all
  pub each : (s : ℕ) → s < count → is_in states s ≡ test s
  pub none : (s : ℕ) → count ≤ s → is_in states s ≡ false

module _ (all : ℕ) (test : ℕ → Bool) where
  module _ (s : ℕ) (states : List Bool) (before : AreFilledBefore s all test states) where
    pub not_filled : test s ≡ false → AreFilledBefore (s + 1) all test states
    not_filled out = record {
      size = before.size;
      each = λ t within. elim (eqb_tells t s) [
        | inl same ↦ rw same.1 (before.none s (omega arith) ∙ sym out)
        | inr other ↦ (let not_last = other.1 in before.each t (grind (arith, within, not_last)))
      ];
      none = λ t past. before.none t (omega (arith, past));
    }

    pub one_filled : s < all → test s ≡ true → AreFilledBefore (s + 1) all test (set states s true)
    one_filled inside there = record {
      size = length-set states s true ∙ before.size;
      each = λ t within. elim (eqb_tells t s) [
        | inl same ↦ rw same.1 (get_or-set_same states s true false (omega (arith, inside, before.size)) ∙ sym there)
        | inr other ↦ (
            let not_last = other.1 in
            get_or-set_other states s t true false not_last ∙ before.each t (grind (arith, within, not_last)))
      ];
      none = λ t past. (
          let other : t ≢ s = omega (arith, past) in
          get_or-set_other states s t true false other ∙ before.none t (omega (arith, past)));
    }

abbrev pub AreStatesBefore : List ℕ → ℕ → ℕ → List Bool → Type 0
AreStatesBefore points set count states = AreFilledBefore count (length points) (λ s. bit set (get_or points s 0)) states

pub record AreStableBefore (classes : List Class) (count : ℕ) (high low : List Bool) : Type 0 where
  pub high_before : AreFilledBefore count (length classes) (λ s. is_high (class_of classes s)) high
  pub low_before : AreFilledBefore count (length classes) (λ s. is_low (class_of classes s)) low

module _ (classes : List Class) where
  module _ (s : ℕ) (high low high_next low_next : List Bool) (before : AreStableBefore classes s high low)
      (inside : s < length classes) where
    pub one_high : class_of classes s ≡ High → high_next ≡ set high s true → low_next ≡ low
        → AreStableBefore classes (s + 1) high_next low_next
    one_high is filled kept = rw (filled, kept) record {
      high_before = one_filled _ _ s high before.high_before inside (ap is_high is);
      low_before = not_filled _ _ s low before.low_before (ap is_low is);
    }

    pub one_low : class_of classes s ≡ Low → high_next ≡ high → low_next ≡ set low s true
        → AreStableBefore classes (s + 1) high_next low_next
    one_low is kept filled = rw (filled, kept) record {
      high_before = not_filled _ _ s high before.high_before (ap is_high is);
      low_before = one_filled _ _ s low before.low_before inside (ap is_low is);
    }

    pub neither : (class_of classes s ≡ Rising) ⊎ (class_of classes s ≡ Falling) → high_next ≡ high → low_next ≡ low
        → AreStableBefore classes (s + 1) high_next low_next
    neither is high_kept low_kept = rw (high_kept, low_kept) record {
      high_before = not_filled _ _ s high before.high_before (of_either is_high refl refl is);
      low_before = not_filled _ _ s low before.low_before (of_either is_low refl refl is);
    }
      where
        of_either : (test : Class → Bool) → test Rising ≡ false → test Falling ≡ false
            → (class_of classes s ≡ Rising) ⊎ (class_of classes s ≡ Falling) → test (class_of classes s) ≡ false
        of_either test rising falling (inl rises) = ap test rises ∙ rising
        of_either test rising falling (inr falls) = ap test falls ∙ falling

-- ---- needs that are left
-- each of these was there, and each that isn't left asks for no less than that one
pub record AreLeft (before : List Need) (need : Need) (now : List Need) : Type 0 where
  pub others : All (λ other. Contains now other ⊎ AsksLess need other) before
  pub no_more : All (Contains before) now

pub all_left : (needs : List Need) (need : Need) → AreLeft needs need needs
all_left needs need = record {
  others = λ k d within. inl (k, within, get_or_default needs k _ d within);
  no_more = λ k d within. (k, within, get_or_default needs k _ d within);
}

module _ (before now : List Need) (need : Need) (left : AreLeft before need now) (k : ℕ) (inside : k < length now) where
  -- what holds of each that was there holds of one that is left
  pub still : (P : Need → Type 0) → All P before → (d : Need) → d ≡ get_or now k d → P d
  still P all d is =
      let (j, within, at) = left.no_more k d inside in
      subst P (sym is) (subst P at (all j (get_or now k d) within))

  module _ (next : List Need) (count : length next + 1 ≡ length now)
      (last : (d : Need) → k + 1 < length now → get_or next k d ≡ get_or now (length now - 1) d)
      (others : (j : ℕ) (d : Need) → j ≢ k → j + 1 < length now → get_or next j d ≡ get_or now j d)
      (more : (d : Need) → d ≡ get_or now k d → AsksLess need d) where
    -- the last one has taken its place
    stays_there : (other : Need) → Contains now other → Contains next other ⊎ AsksLess need other
    stays_there other (j, within, at) = elim (eqb_tells j k) [
      | inl same ↦ inr (more other (sym at ∙ ap (λ i. get_or now i other) same.1))
      | inr apart ↦ inl (elim (cases_lt (j + 1) (length now)) [
        | inl earlier ↦ (j, omega (arith, earlier, count), others j other apart.1 earlier ∙ at)
        | inr end ↦ (
            let not_there = apart.1 in
            let behind : k + 1 < length now = grind (arith, inside, within, end, not_there) in
            let place : length now - 1 ≡ j = omega (arith, within, end) in
            (k, omega (arith, behind, count), last other behind ∙ ap (λ i. get_or now i other) place ∙ at))
      ])
    ]

    pub one_gone : AreLeft before need next
    one_gone = record {
      others = λ j d within. elim (left.others j d within) [
        | inl kept ↦ stays_there (get_or before j d) kept
        | inr asks_less ↦ inr asks_less
      ];
      no_more = λ j d within. elim (eqb_tells j k) [
        | inl same ↦ (
            let behind : k + 1 < length now = omega (arith, within, count, same.1) in
            let end : length now - 1 < length now = omega (arith, inside) in
            let is = ap (λ i. get_or next i d) same.1 ∙ last d behind in
            subst (Contains before) (sym is) (left.no_more (length now - 1) d end))
        | inr apart ↦ (
            let earlier : j + 1 < length now = omega (arith, within, count) in
            let is = others j d apart.1 earlier in
            subst (Contains before) (sym is) (left.no_more j d (omega (arith, earlier))))
      ];
    }

-- what is told of an element is told of each way to read it
pub asks_that : (needs : List Need) (k : ℕ) (need one other d : Need) → k < length needs → one ≡ get_or needs k one
    → other ≡ get_or needs k other → d ≡ get_or needs k d
    → AsksWithin need (is_in one.high) (is_in other.low) → AsksLess need d
asks_that needs k need one other d inside one_is other_is d_is within =
    subst (λ x. AsksWithin need (is_in x.high) (is_in d.low)) (same one one_is)
    (subst (λ x. AsksWithin need (is_in one.high) (is_in x.low)) (same other other_is) within)
  where
    same : (x : Need) → x ≡ get_or needs k x → x ≡ d
    same x x_is = x_is ∙ get_or_default needs k x d inside ∙ sym d_is

-- ---- tables that read each of the first places
module _ (tables before now : List ℕ) (k : ℕ) (within : (t : ℕ) → Contains before t → Contains tables t)
    (others : (t : ℕ) → Contains tables t → Contains before t ⊎ ((j : ℕ) × (j < k) × IsBlind t (j + 1))) where
  pub within_too : ((t : ℕ) → Contains now t → Contains before t) → (t : ℕ) → Contains now t → Contains tables t
  within_too fewer t there = within t (fewer t there)

  pub place_read : ((t : ℕ) → Contains before t → Contains now t ⊎ IsBlind t (k + 1)) → (t : ℕ) → Contains tables t
      → Contains now t ⊎ ((j : ℕ) × (j < k + 1) × IsBlind t (j + 1))
  place_read read t there = elim (others t there) [
    | inl kept ↦ elim (read t kept) [ inl still_kept ↦ inl still_kept | inr blind ↦ inr (k, omega arith, blind) ]
    | inr (j, low, blind) ↦ inr (j, omega (arith, low), blind)
  ]

-- ---- a need that is added
asks_through : (one other : Need) (high low : ℕ → Bool) → AsksLess one other → AsksWithin other high low
    → AsksWithin one high low
asks_through one other high low less within = record {
  asks_high = λ s there. within.asks_high s (less.asks_high s there);
  asks_low = λ s there. within.asks_low s (less.asks_low s there);
}

pub asks_itself : (need : Need) → AsksLess need need
asks_itself need = record { asks_high = λ s there. there; asks_low = λ s there. there }

-- a need that asks less than one within these bounds is within them
pub less_within : (needs : List Need) (need : Need) (high low : ℕ → Bool) → SomeAskLess needs need
    → AsksWithin need high low → SomeAsksWithin needs high low
less_within needs need high low (less, there, is) within = (less, there, asks_through less need high low is within)

module _ (before left now : List Need) (need : Need) (now_is : now ≡ left ++ need ∷ [])
    (others : All (λ other. Contains left other ⊎ AsksLess need other) before)
    (no_more : All (Contains before) left) where
  pub added_there : SomeAskLess now need
  added_there = (need, subst (λ xs. Contains xs need) (sym now_is) (Contains-push left need), asks_itself need)

  pub keeps_asking : AskNoMore now before
  keeps_asking high low (other, there, within) =
      elim (All-contains (λ x. Contains left x ⊎ AsksLess need x) before other others there) [
        | inl kept ↦ (
          other,
          subst (λ xs. Contains xs other) (sym now_is) (Contains-append_left left (need ∷ []) other kept),
          within,
        )
        | inr less ↦ less_within now need high low added_there (asks_through need other high low less within)
      ]

  pub none_added : All (λ other. Contains before other ⊎ (other ≡ need)) now
  none_added = subst (All (λ other. Contains before other ⊎ (other ≡ need))) (sym now_is)
      (All-push (λ other. Contains before other ⊎ (other ≡ need)) left need (λ k d within. inl (no_more k d within))
      (inr refl))

-- ---- what tables need, one after the other
-- the needs at what the first ones miss, so many, are there or asked less by others; each other one was there before
pub record AreAddedBefore (points : List ℕ) (least : List Missed) (count : ℕ) (before now : List Need) : Type 0 where
  pub told : (k : ℕ) (d : Missed) → k < count
      → (need : Need) × IsNeedAt points (get_or least k d) need × SomeAskLess now need
  pub kept : AskNoMore now before
  pub no_more : All (λ need. Contains before need ⊎ ((m : Missed) × Contains least m × IsNeedAt points m need)) now

-- sets of the points' states
size_at : (points : List ℕ) (m : Missed) (need : Need) → IsNeedAt points m need → HasSize (length points) need
size_at points m need is = record { high = is.high.count; low = is.low.count }

module _ (points : List ℕ) (least : List Missed) (before : List Need)
    (sizes : All (HasSize (length points)) before) where
  abbrev Origin : Need → Type 0
  Origin need = Contains before need ⊎ ((m : Missed) × Contains least m × IsNeedAt points m need)

  size_of : (need : Need) → Origin need → HasSize (length points) need
  size_of need (inl there) = All-contains (HasSize (length points)) before need sizes there
  size_of need (inr (m, there, is)) = size_at points m need is

  -- those that are there have the size of one at these points
  module _ (now : List Need) (no_more : All Origin now) (slice : List ℕ) (same : slice ≡ points) (m : Missed)
      (need : Need) (is : IsNeedAt slice m need) where
    own_size : HasSize (length points) need
    own_size = size_at points m need (subst (λ ps. IsNeedAt ps m need) same is)

    pub same_high : All (λ other. length other.high ≡ length need.high) now
    same_high k d within = (size_of (get_or now k d) (no_more k d within)).high ∙ sym own_size.high

    pub same_low : All (λ other. length other.low ≡ length need.low) now
    same_low k d within = (size_of (get_or now k d) (no_more k d within)).low ∙ sym own_size.low

  pub none_added_yet : AreAddedBefore points least 0 before before
  none_added_yet = record {
    told = λ k d within. absurd (omega (arith, within));
    kept = λ high low some. some;
    no_more = λ k d within. inl (k, within, get_or_default before k _ d within);
  }

  module _ (i : ℕ) (now next : List Need) (added : AreAddedBefore points least i before now) (missed : Missed)
      (inside : i < length least) (missed_is : missed ≡ get_or least i missed) (need : Need)
      (is : IsNeedAt points missed need) where
    pub one_added : SomeAskLess next need → AskNoMore next now → All (λ other. Contains now other ⊎ (other ≡ need)) next
        → AreAddedBefore points least (i + 1) before next
    one_added there keeps no_more = record {
      told = told;
      kept = λ high low some. keeps high low (added.kept high low some);
      no_more = λ k d within. origin (get_or next k d) (no_more k d within);
    }
      where
        told : (k : ℕ) (d : Missed) → k < i + 1
            → (n : Need) × IsNeedAt points (get_or least k d) n × SomeAskLess next n
        told k d low = elim (eqb_tells k i) [
          | inl same ↦ (
            need,
            subst (λ m. IsNeedAt points m need) (missed_is ∙ get_or_default least i missed d inside
                ∙ ap (λ j. get_or least j d) (sym same.1)) is,
            there,
          )
          | inr other ↦ (
              let not_last = other.1 in
              let (n, n_is, some) = added.told k d (grind (arith, low, not_last)) in
              (n, n_is, keeps (is_in n.high) (is_in n.low) some))
        ]

        origin : (n : Need) → Contains now n ⊎ (n ≡ need) → Origin n
        origin n (inl there_now) = All-contains Origin now n added.no_more there_now
        origin n (inr same) = inr (
          missed,
          (i, inside, sym missed_is),
          subst (IsNeedAt points missed) (sym same) is,
        )
