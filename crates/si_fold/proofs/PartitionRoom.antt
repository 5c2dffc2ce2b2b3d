-- There are at most as many classes as numbers: one more has room where one is split.
use Rattle.std.proofs.Common.{◌≡◌, ◌≢◌, ◌⊎◌, ℕ, ◌+◌, ◌<◌, zero, suc, refl, sym, ap, ◌∙◌, arith, inl, inr}
use Rattle.std.specs.List.{range_with_len}
use Rattle.std.proofs.lemmas.Bool.{cases_lt}
use Rattle.std.proofs.lemmas.List.FromFn.{length-range_with_len}
use Rattle.si_base.proofs.OrderAscending.{In}
use Rattle.si_base.proofs.ListLemmas.{Once, at_most_related, in_range, range_bounds}
use Rattle.si_fold.specs.Loops.Partition.{Shape, size, class_at, place_at, number_at, bounds_at, Shows, IsPartition}

-- ---- there are at most as many classes as numbers
range_once : (a n : ℕ) → Once (range_with_len a n)
range_once a zero = tt
range_once a (suc n) = (
  (λ there. (let r = range_bounds (a + 1) n a there in omega (arith, r.0))),
  range_once (a + 1) n,
)

module _ (p : Shape) (is : IsPartition p) (k : ℕ) (below : k < p.count)
    (marked : (bounds_at p k).first < (bounds_at p k).mid) (rest : (bounds_at p k).mid < (bounds_at p k).past) where
  first_shows : (j : ℕ) → j < p.count → Shows p j (bounds_at p j).first
  first_shows j low = (let some = (is.bounded j low).some in is.shows j (bounds_at p j).first low (omega arith) some)

  last_shows : Shows p k (bounds_at p k).mid
  last_shows = (let from = (is.bounded k below).from in is.shows k (bounds_at p k).mid below from rest)

  -- each class has a number of its own, and one is left
  abbrev Owns : ℕ → ℕ → Type 0
  Owns j s = ((class_at p s ≡ j) × (j < p.count) × (s ≢ number_at p (bounds_at p k).mid))
      ⊎ ((j ≡ p.count) × (s ≡ number_at p (bounds_at p k).mid))

  owned : (j : ℕ) → In j (range_with_len 0 (p.count + 1))
      → (s : ℕ) × In s (range_with_len 0 (size p)) × Owns j s
  owned j there =
      let range = range_bounds 0 (p.count + 1) j there in
      elim (cases_lt j p.count) [
        | inl low ↦ (
            let shows = first_shows j low in
            let within = shows.within in
            let apart : number_at p (bounds_at p j).first ≢ number_at p (bounds_at p k).mid = λ same. (
            let one_class : j ≡ k = sym shows.class_is ∙ ap (class_at p) same ∙ last_shows.class_is in
            let one_place : (bounds_at p j).first ≡ (bounds_at p k).mid =
            sym shows.place_is ∙ ap (place_at p) same ∙ last_shows.place_is in
            let firsts = ap (λ (l : ℕ). (bounds_at p l).first) one_class in
            omega (arith, one_place, firsts, marked)) in (
              number_at p (bounds_at p j).first,
              in_range 0 (size p) (number_at p (bounds_at p j).first) (omega arith) (omega (arith, within)),
              inl (shows.class_is, low, apart),
            ))
        | inr high ↦ (
            let within = last_shows.within in (
              number_at p (bounds_at p k).mid,
              in_range 0 (size p) (number_at p (bounds_at p k).mid) (omega arith) (omega (arith, within)),
              inr (omega (arith, range.1, high), refl),
            ))
      ]

  owns_one : (j l s : ℕ) → Owns j s → Owns l s → j ≡ l
  owns_one j l s (inl a) (inl b) = sym a.0 ∙ b.0
  owns_one j l s (inl a) (inr b) = absurd (a.2 b.1)
  owns_one j l s (inr a) (inl b) = absurd (b.2 a.1)
  owns_one j l s (inr a) (inr b) = a.0 ∙ sym b.0

  pub room : p.count < size p
  room =
      let few = at_most_related Owns (range_with_len 0 (p.count + 1)) (range_with_len 0 (size p))
      (range_once 0 (p.count + 1)) owned owns_one in
      omega (arith, few, length-range_with_len 0 (p.count + 1), length-range_with_len 0 (size p))
