-- A class is split where its parts are known by equations.
use Rattle.std.proofs.Common.{◌≡◌, ◌≢◌, ◌⊎◌, ℕ, ◌+◌, ◌<◌, ◌≤◌, length, set, sym, ap, ◌∙◌, arith, inl, inr}
use Rattle.si_fold.specs.declared.partition.Bounds.{Bounds}
use Rattle.si_fold.specs.Loops.Partition.{Shape, size, class_at, number_at, bounds_at, IsPartition, SplitsClass}
use Rattle.si_fold.proofs.PartitionRoom.{room}
use Rattle.si_fold.proofs.PartitionSplits.{splits_class}

-- ---- the same where the parts are known by equations
abbrev pub low_part : Bounds → Bounds
low_part b = record { first = b.first; mid = b.first; past = b.mid }

abbrev pub high_part : Bounds → Bounds
high_part b = record { first = b.mid; mid = b.mid; past = b.past }

module _ (p : Shape) (is : IsPartition p) (k : ℕ) (below : k < p.count) (b : Bounds) (b_is : b ≡ bounds_at p k)
    (some : b.mid ≢ b.first) (not_all : b.mid ≢ b.past) where
  first_is : b.first ≡ (bounds_at p k).first
  first_is = ap (λ (x : Bounds). x.first) b_is

  mid_is : b.mid ≡ (bounds_at p k).mid
  mid_is = ap (λ (x : Bounds). x.mid) b_is

  past_is : b.past ≡ (bounds_at p k).past
  past_is = ap (λ (x : Bounds). x.past) b_is

  marked : (bounds_at p k).first < (bounds_at p k).mid
  marked = (let from = (is.bounded k below).from in omega (arith, from, first_is, mid_is, some))

  others : (bounds_at p k).mid < (bounds_at p k).past
  others = (let to = (is.bounded k below).to in omega (arith, to, past_is, mid_is, not_all))

  pub has_room : p.count < size p
  has_room = room p is k below marked others

  pub split_from : (q : Shape) (left part : Bounds)
      → (((left ≡ low_part b) × (part ≡ high_part b)) ⊎ ((left ≡ high_part b) × (part ≡ low_part b)))
      → q.order ≡ p.order → q.place ≡ p.place → length q.class ≡ length p.class
      → ((i : ℕ) → part.first ≤ i → i < part.past → class_at q (number_at p i) ≡ p.count)
      → ((s : ℕ) → ((i : ℕ) → part.first ≤ i → i < part.past → number_at p i ≡ s → ⊥) → class_at q s ≡ class_at p s)
      → q.bounds ≡ set (set p.bounds k left) p.count part → q.count ≡ p.count + 1 → SplitsClass p k q
  split_from q left part (inl both) order place size moved stayed bounds count =
      splits_class p is k below marked others q left part
      (inl (
        ap (λ (x : Bounds). x.first) both.0 ∙ first_is,
        ap (λ (x : Bounds). x.past) both.0 ∙ mid_is,
        ap (λ (x : Bounds). x.first) both.1 ∙ mid_is,
        ap (λ (x : Bounds). x.past) both.1 ∙ past_is,
      ))
      (ap (λ (x : Bounds). x.mid) both.0 ∙ sym (ap (λ (x : Bounds). x.first) both.0))
      (ap (λ (x : Bounds). x.mid) both.1 ∙ sym (ap (λ (x : Bounds). x.first) both.1))
      order place size moved stayed bounds count
  split_from q left part (inr both) order place size moved stayed bounds count =
      splits_class p is k below marked others q left part
      (inr (
        ap (λ (x : Bounds). x.first) both.1 ∙ first_is,
        ap (λ (x : Bounds). x.past) both.1 ∙ mid_is,
        ap (λ (x : Bounds). x.first) both.0 ∙ mid_is,
        ap (λ (x : Bounds). x.past) both.0 ∙ past_is,
      ))
      (ap (λ (x : Bounds). x.mid) both.0 ∙ sym (ap (λ (x : Bounds). x.first) both.0))
      (ap (λ (x : Bounds). x.mid) both.1 ∙ sym (ap (λ (x : Bounds). x.first) both.1))
      order place size moved stayed bounds count
