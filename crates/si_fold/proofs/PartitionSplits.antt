-- A class is split into its marked numbers and the others.
use Rattle.std.proofs.Common.{◌≡◌, ◌≢◌, ◌↔◌, ◌⊎◌, ℕ, ◌+◌, ◌<◌, ◌≤◌, ◌^◌, List, length, get_or, set, length-set}
use Rattle.std.proofs.Common.{get_or-set_same, get_or-set_other, sym, ap, subst, ◌∙◌, arith, inl, inr}
use Rattle.std.proofs.lemmas.Bool.{cases_eq, cases_lt}
use Rattle.si_fold.specs.declared.partition.Bounds.{Bounds}
use Rattle.si_fold.specs.Loops.Partition.{Shape, no_bounds, size, class_at, place_at, number_at, bounds_at, Stands}
use Rattle.si_fold.specs.Loops.Partition.{Shows}
use Rattle.si_fold.specs.Loops.Partition.{IsBounded, IsPartition, IsMarked, SplitsClass}
use Rattle.si_fold.proofs.PartitionRoom.{room}

-- ---- the places of the class, in two parts
module _ (p : Shape) (is : IsPartition p) (k : ℕ) (below : k < p.count)
    (marked : (bounds_at p k).first < (bounds_at p k).mid) (rest : (bounds_at p k).mid < (bounds_at p k).past) where
  abbrev Halves : Bounds → Bounds → Type 0
  Halves one two = ((one.first ≡ (bounds_at p k).first) × (one.past ≡ (bounds_at p k).mid)
      × (two.first ≡ (bounds_at p k).mid) × (two.past ≡ (bounds_at p k).past))

  module _ (q : Shape) (left part : Bounds) (halves : Halves left part ⊎ Halves part left)
      (left_mid : left.mid ≡ left.first) (part_mid : part.mid ≡ part.first)
      (order_is : q.order ≡ p.order) (place_is : q.place ≡ p.place) (size_is : length q.class ≡ length p.class)
      (moved : (i : ℕ) → part.first ≤ i → i < part.past → class_at q (number_at p i) ≡ p.count)
      (stayed : (s : ℕ) → ((i : ℕ) → part.first ≤ i → i < part.past → number_at p i ≡ s → ⊥)
      → class_at q s ≡ class_at p s)
      (bounds_is : q.bounds ≡ set (set p.bounds k left) p.count part) (count_is : q.count ≡ p.count + 1) where
    -- s stands in the part that becomes a class
    abbrev InPart : ℕ → Type 0
    InPart s = (class_at p s ≡ k) × (part.first ≤ place_at p s) × (place_at p s < part.past)

    part_within : (part.first < part.past) × ((bounds_at p k).first ≤ part.first) × (part.past ≤ (bounds_at p k).past)
    part_within = elim halves [
      | inl h ↦ (omega (arith, h.2, h.3, rest), omega (arith, h.2, marked), omega (arith, h.3))
      | inr h ↦ (omega (arith, h.0, h.1, marked), omega (arith, h.0), omega (arith, h.1, rest))
    ]

    left_within : (left.first < left.past) × ((bounds_at p k).first ≤ left.first) × (left.past ≤ (bounds_at p k).past)
    left_within = elim halves [
      | inl h ↦ (omega (arith, h.0, h.1, marked), omega (arith, h.0), omega (arith, h.1, rest))
      | inr h ↦ (omega (arith, h.2, h.3, rest), omega (arith, h.2, marked), omega (arith, h.3))
    ]

    -- a place of the class is in one of the parts, and not in both
    left_or_part : (i : ℕ) → (bounds_at p k).first ≤ i → i < (bounds_at p k).past
        → ((part.first ≤ i) × (i < part.past)) ⊎ ((left.first ≤ i) × (i < left.past))
    left_or_part i low high = elim (cases_lt i (bounds_at p k).mid) [
      | inl before ↦ elim halves [
        | inl h ↦ inr (omega (arith, h.0, low), omega (arith, h.1, before))
        | inr h ↦ inl (omega (arith, h.0, low), omega (arith, h.1, before))
      ]
      | inr after ↦ elim halves [
        | inl h ↦ inl (omega (arith, h.2, after), omega (arith, h.3, high))
        | inr h ↦ inr (omega (arith, h.2, after), omega (arith, h.3, high))
      ]
    ]

    not_both : (i : ℕ) → part.first ≤ i → i < part.past → left.first ≤ i → i < left.past → ⊥
    not_both i a b c d = elim halves [
      | inl h ↦ omega (arith, h.1, h.2, a, d)
      | inr h ↦ omega (arith, h.1, h.2, b, c)
    ]

    size_same : size q ≡ size p
    size_same = size_is

    number_same : (i : ℕ) → number_at q i ≡ number_at p i
    number_same i = ap (λ (xs : List ℕ). get_or xs i 0) order_is

    place_same : (s : ℕ) → place_at q s ≡ place_at p s
    place_same s = ap (λ (xs : List ℕ). get_or xs s 0) place_is

    in_new : (s : ℕ) → s < size p → InPart s → class_at q s ≡ p.count
    in_new s within in_part =
        ap (class_at q) (sym (is.stands s within).at) ∙ moved (place_at p s) in_part.1 in_part.2

    class_same : (s : ℕ) → (InPart s → ⊥) → class_at q s ≡ class_at p s
    class_same s not_in = stayed s (λ i low high here. (
        let inside = part_within in
        let shows = is.shows k i below (omega (arith, inside.1, low)) (omega (arith, inside.2, high)) in
        let own : class_at p s ≡ k = ap (class_at p) (sym here) ∙ shows.class_is in
        let at : place_at p s ≡ i = ap (place_at p) (sym here) ∙ shows.place_is in
        not_in (own, omega (arith, at, low), omega (arith, at, high))))

    -- a number of the class stays or moves
    left_or_new : (s : ℕ) → s < size p → class_at p s ≡ k
        → InPart s ⊎ ((left.first ≤ place_at p s) × (place_at p s < left.past))
    left_or_new s within own =
        let stands = is.stands s within in
        let first = ap (λ (l : ℕ). (bounds_at p l).first) own in
        let past = ap (λ (l : ℕ). (bounds_at p l).past) own in
        let from = stands.from in
        let to = stands.below in
        elim (left_or_part (place_at p s) (omega (arith, first, from)) (omega (arith, past, to))) [
          | inl in_part ↦ inl (own, in_part.0, in_part.1)
          | inr in_left ↦ inr in_left
        ]

    in_left : (s : ℕ) → class_at p s ≡ k → left.first ≤ place_at p s → place_at p s < left.past → class_at q s ≡ k
    in_left s own low high =
        class_same s (λ in_part. not_both (place_at p s) in_part.1 in_part.2 low high) ∙ own

    -- ---- the new bounds
    room_k : k < length p.bounds
    room_k = (let few = is.few in omega (arith, below, few, is.bounds_size))

    bounds_new : bounds_at q p.count ≡ part
    bounds_new = ap (λ (xs : List Bounds). get_or xs p.count no_bounds) bounds_is
        ∙ get_or-set_same (set p.bounds k left) p.count part no_bounds
        (omega (arith, length-set p.bounds k left, is.bounds_size, room p is k below marked rest))

    bounds_left : bounds_at q k ≡ left
    bounds_left = ap (λ (xs : List Bounds). get_or xs k no_bounds) bounds_is
        ∙ get_or-set_other (set p.bounds k left) p.count k part no_bounds (omega (arith, below))
        ∙ get_or-set_same p.bounds k left no_bounds room_k

    bounds_same : (l : ℕ) → l ≢ k → l ≢ p.count → bounds_at q l ≡ bounds_at p l
    bounds_same l not_k not_new = ap (λ (xs : List Bounds). get_or xs l no_bounds) bounds_is
        ∙ get_or-set_other (set p.bounds k left) p.count l part no_bounds not_new
        ∙ get_or-set_other p.bounds k l left no_bounds not_k

    -- ---- a partition again
    stands_in : (s l : ℕ) (b : Bounds) → s < size p → class_at q s ≡ l → l < q.count → bounds_at q l ≡ b
        → b.first ≤ place_at p s → place_at p s < b.past → Stands q s
    stands_in s l b within in_l low bounds from to =
        let first = ap (λ (x : ℕ). (bounds_at q x).first) in_l ∙ ap (λ (x : Bounds). x.first) bounds in
        let past = ap (λ (x : ℕ). (bounds_at q x).past) in_l ∙ ap (λ (x : Bounds). x.past) bounds in
        let at = place_same s in
        record {
          class_within = omega (arith, in_l, low);
          from = omega (arith, first, at, from);
          below = omega (arith, past, at, to);
          at = number_same (place_at q s) ∙ ap (number_at p) at ∙ (is.stands s within).at;
        }

    each_stands : (s : ℕ) → s < size p → Stands q s
    each_stands s within =
        let stands = is.stands s within in
        let low = stands.class_within in
        elim (cases_eq (class_at p s) k) [
          | inl own ↦ elim (left_or_new s within own) [
            | inl in_part ↦ stands_in s p.count part within (in_new s within in_part) (omega (arith, count_is))
                bounds_new in_part.1 in_part.2
            | inr left_in ↦ stands_in s k left within (in_left s own left_in.0 left_in.1)
                (omega (arith, count_is, below)) bounds_left left_in.0 left_in.1
          ]
          | inr apart ↦ stands_in s (class_at p s) (bounds_at p (class_at p s)) within
              (class_same s (λ in_part. apart in_part.0)) (omega (arith, count_is, low))
              (bounds_same (class_at p s) apart (omega (arith, low))) stands.from stands.below
        ]

    shows_in : (l i : ℕ) (old : ℕ) → Shows p old i → class_at q (number_at p i) ≡ l → Shows q l i
    shows_in l i old shows in_l =
        let within = shows.within in
        let same = number_same i in
        record {
          within = omega (arith, within, same, size_same);
          class_is = ap (class_at q) same ∙ in_l;
          place_is = place_same (number_at q i) ∙ ap (place_at p) same ∙ shows.place_is;
        }

    each_shows : (l i : ℕ) → l < q.count → (bounds_at q l).first ≤ i → i < (bounds_at q l).past → Shows q l i
    each_shows l i low from to = elim (cases_eq l p.count) [
      | inl new ↦ (
          let first = ap (λ (x : ℕ). (bounds_at q x).first) new ∙ ap (λ (x : Bounds). x.first) bounds_new in
          let past = ap (λ (x : ℕ). (bounds_at q x).past) new ∙ ap (λ (x : Bounds). x.past) bounds_new in
          let inside = part_within in
          let a : part.first ≤ i = omega (arith, first, from) in
          let b : i < part.past = omega (arith, past, to) in
          shows_in l i k (is.shows k i below (omega (arith, inside.1, a)) (omega (arith, inside.2, b)))
          (moved i a b ∙ sym new))
      | inr old ↦ elim (cases_eq l k) [
        | inl own ↦ (
            let first = ap (λ (x : ℕ). (bounds_at q x).first) own ∙ ap (λ (x : Bounds). x.first) bounds_left in
            let past = ap (λ (x : ℕ). (bounds_at q x).past) own ∙ ap (λ (x : Bounds). x.past) bounds_left in
            let inside = left_within in
            let a : left.first ≤ i = omega (arith, first, from) in
            let b : i < left.past = omega (arith, past, to) in
            let shows = is.shows k i below (omega (arith, inside.1, a)) (omega (arith, inside.2, b)) in
            let at = shows.place_is in
            shows_in l i k shows
            (in_left (number_at p i) shows.class_is (omega (arith, at, a)) (omega (arith, at, b)) ∙ sym own))
        | inr apart ↦ (
            let same = bounds_same l apart old in
            let first = ap (λ (x : Bounds). x.first) same in
            let past = ap (λ (x : Bounds). x.past) same in
            let shows = is.shows l i (omega (arith, low, count_is, old)) (omega (arith, first, from))
            (omega (arith, past, to)) in
            shows_in l i l shows
            (class_same (number_at p i) (λ in_part. apart (sym shows.class_is ∙ in_part.0)) ∙ shows.class_is))
      ]
    ]

    bounded_by : (l : ℕ) (b : Bounds) → bounds_at q l ≡ b → b.first < b.past → b.first ≤ b.mid → b.mid ≤ b.past
        → b.past ≤ size p → IsBounded q l
    bounded_by l b same some from to up =
        let first = ap (λ (x : Bounds). x.first) same in
        let mid = ap (λ (x : Bounds). x.mid) same in
        let past = ap (λ (x : Bounds). x.past) same in
        record {
          some = omega (arith, first, past, some);
          from = omega (arith, first, mid, from);
          to = omega (arith, mid, past, to);
          up_to = omega (arith, past, up, size_same);
        }

    each_bounded : (l : ℕ) → l < q.count → IsBounded q l
    each_bounded l low =
        let own_up = (is.bounded k below).up_to in
        elim (cases_eq l p.count) [
          | inl new ↦ (
              let inside = part_within in
              bounded_by l part (ap (bounds_at q) new ∙ bounds_new) inside.0 (omega (arith, part_mid))
              (omega (arith, part_mid, inside.0)) (omega (arith, inside.2, own_up)))
          | inr old ↦ elim (cases_eq l k) [
            | inl own ↦ (
                let inside = left_within in
                bounded_by l left (ap (bounds_at q) own ∙ bounds_left) inside.0 (omega (arith, left_mid))
                (omega (arith, left_mid, inside.0)) (omega (arith, inside.2, own_up)))
            | inr apart ↦ (
                let b = is.bounded l (omega (arith, low, count_is, old)) in
                bounded_by l (bounds_at p l) (bounds_same l apart old) b.some b.from b.to b.up_to)
          ]
        ]

    partition : IsPartition q
    partition =
        let few = room p is k below marked rest in
        let bounds_size = ap (λ (xs : List Bounds). length xs) bounds_is
        ∙ length-set (set p.bounds k left) p.count part ∙ length-set p.bounds k left in
        record {
          order_size = ap (λ (xs : List ℕ). length xs) order_is ∙ is.order_size ∙ sym size_same;
          place_size = ap (λ (xs : List ℕ). length xs) place_is ∙ is.place_size ∙ sym size_same;
          bounds_size = bounds_size ∙ is.bounds_size ∙ sym size_same;
          few = omega (arith, few, count_is, size_same);
          small = subst (λ (n : ℕ). n < 2 ^ 32) (sym size_same) is.small;
          bounded = each_bounded;
          stands = λ s within. each_stands s (omega (arith, within, size_same));
          shows = each_shows;
        }

    -- ---- marks and classes
    mid_in : (s l : ℕ) (b : Bounds) → class_at q s ≡ l → bounds_at q l ≡ b → (bounds_at q (class_at q s)).mid ≡ b.mid
    mid_in s l b in_l bounds = ap (λ (x : ℕ). (bounds_at q x).mid) in_l ∙ ap (λ (x : Bounds). x.mid) bounds

    cleared : (s : ℕ) → s < size p → class_at p s ≡ k → IsMarked q s → ⊥
    cleared s within own is_marked =
        let at = place_same s in
        elim (left_or_new s within own) [
          | inl in_part ↦ (
              let mid = mid_in s p.count part (in_new s within in_part) bounds_new in
              omega (arith, mid, part_mid, at, is_marked, in_part.1))
          | inr left_in ↦ (
              let mid = mid_in s k left (in_left s own left_in.0 left_in.1) bounds_left in
              omega (arith, mid, left_mid, at, is_marked, left_in.0))
        ]

    kept : (s : ℕ) → s < size p → class_at p s ≢ k → IsMarked q s ↔ IsMarked p s
    kept s within apart =
        let low = (is.stands s within).class_within in
        let at = place_same s in
        let mid = mid_in s (class_at p s) (bounds_at p (class_at p s)) (class_same s (λ in_part. apart in_part.0))
        (bounds_same (class_at p s) apart (omega (arith, low))) in
        ((λ here. omega (arith, mid, at, here)), (λ here. omega (arith, mid, at, here)))

    own_cases : (s : ℕ) → s < size p → class_at p s ≡ k → (class_at q s ≡ k) ⊎ (p.count ≤ class_at q s)
    own_cases s within own = elim (left_or_new s within own) [
      | inl in_part ↦ (let new = in_new s within in_part in inr (omega (arith, new)))
      | inr left_in ↦ inl (in_left s own left_in.0 left_in.1)
    ]

    mid_own : (s : ℕ) → class_at p s ≡ k → (bounds_at p (class_at p s)).mid ≡ (bounds_at p k).mid
    mid_own s own = ap (λ (x : ℕ). (bounds_at p x).mid) own

    apart : (s t : ℕ) → s < size p → t < size p → class_at p s ≡ k → class_at p t ≡ k → class_at q s ≡ class_at q t
        → IsMarked p s → IsMarked p t
    apart s t one two own_s own_t same is_marked =
        let mid_s = mid_own s own_s in
        let mid_t = mid_own t own_t in
        elim (left_or_new s one own_s) [
          | inl in_part ↦ elim (left_or_new t two own_t) [
            | inl also ↦ elim halves [
              | inl h ↦ absurd (omega (arith, mid_s, is_marked, h.2, in_part.1))
              | inr h ↦ omega (arith, mid_t, h.1, also.2)
            ]
            | inr not_also ↦ absurd (
                let new = in_new s one in_part in
                let old = in_left t own_t not_also.0 not_also.1 in
                omega (arith, new, old, same, below))
          ]
          | inr left_in ↦ elim (left_or_new t two own_t) [
            | inl not_also ↦ absurd (
                let old = in_left s own_s left_in.0 left_in.1 in
                let new = in_new t two not_also in
                omega (arith, new, old, same, below))
            | inr also ↦ elim halves [
              | inl h ↦ omega (arith, mid_t, h.1, also.1)
              | inr h ↦ absurd (omega (arith, mid_s, is_marked, h.2, left_in.0))
            ]
          ]
        ]

    together : (s t : ℕ) → s < size p → t < size p → class_at p s ≡ k → class_at p t ≡ k
        → IsMarked p s ↔ IsMarked p t → class_at q s ≡ class_at q t
    together s t one two own_s own_t alike =
        let mid_s = mid_own s own_s in
        let mid_t = mid_own t own_t in
        elim (left_or_new s one own_s) [
          | inl in_part ↦ elim (left_or_new t two own_t) [
            | inl also ↦ in_new s one in_part ∙ sym (in_new t two also)
            | inr not_also ↦ absurd (elim halves [
              | inl h ↦ (
                  let m = alike.1 (omega (arith, mid_t, h.1, not_also.1)) in
                  omega (arith, mid_s, m, h.2, in_part.1))
              | inr h ↦ (
                  let m = alike.0 (omega (arith, mid_s, h.1, in_part.2)) in
                  omega (arith, mid_t, m, h.2, not_also.0))
            ])
          ]
          | inr left_in ↦ elim (left_or_new t two own_t) [
            | inl not_also ↦ absurd (elim halves [
              | inl h ↦ (
                  let m = alike.0 (omega (arith, mid_s, h.1, left_in.1)) in
                  omega (arith, mid_t, m, h.2, not_also.1))
              | inr h ↦ (
                  let m = alike.1 (omega (arith, mid_t, h.1, not_also.2)) in
                  omega (arith, mid_s, m, h.2, left_in.0))
            ])
            | inr also ↦ in_left s own_s left_in.0 left_in.1 ∙ sym (in_left t own_t also.0 also.1)
          ]
        ]

    pub splits_class : SplitsClass p k q
    splits_class = record {
      partition = partition;
      size_stays = size_same;
      more = omega (arith, count_is);
      others = λ s within other. class_same s (λ in_part. other in_part.0);
      own = own_cases;
      apart = apart;
      together = together;
      kept = kept;
      cleared = cleared;
    }
