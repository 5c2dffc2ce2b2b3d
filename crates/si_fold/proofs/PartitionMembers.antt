-- The members of a class are the numbers at its places.
use Rattle.std.proofs.Common.{◌≡◌, ◌↔◌, ℕ, ◌+◌, ◌-◌, ◌<◌, ◌≤◌, take, drop, Contains, length-take, length-drop, List}
use Rattle.std.proofs.Common.{length, get_or, sym, ap, subst, ◌∙◌, arith}
use Rattle.std.proofs.lemmas.List.{get_or-take, get_or-drop, get_or_default}
use Rattle.si_fold.specs.declared.partition.Bounds.{Bounds}
use Rattle.si_fold.specs.Loops.Partition.{Shape, place_at, number_at, bounds_at, IsPartition, IsMember}

-- ---- the members of a class
pub members_are : (p : Shape) (k : ℕ) (b : Bounds) (items : List ℕ) → IsPartition p → k < p.count → b ≡ bounds_at p k
    → items ≡ p.order → (s : ℕ) → Contains (take (b.past - b.first) (drop b.first items)) s ↔ IsMember p k s
members_are p k b items is below b_is items_is s =
    let first : b.first ≡ (bounds_at p k).first = ap (λ (x : Bounds). x.first) b_is in
    let past : b.past ≡ (bounds_at p k).past = ap (λ (x : Bounds). x.past) b_is in
    let up = (is.bounded k below).up_to in
    let some = (is.bounded k below).some in
    let size_is = ap (λ (xs : List ℕ). length xs) items_is ∙ is.order_size in
    let long = length-take (b.past - b.first) (drop b.first items) in
    let rest = length-drop b.first items in (
      λ there. (
          let i = there.0 in
          let inside = there.1 in
          let high : i < b.past - b.first = omega (arith, long, inside) in
          let at : number_at p (b.first + i) ≡ s =
          ap (λ (xs : List ℕ). get_or xs (b.first + i) 0) (sym items_is)
          ∙ get_or_default items (b.first + i) 0 s (omega (arith, high, past, up, size_is))
          ∙ sym (get_or-drop b.first items i s)
          ∙ sym (get_or-take (b.past - b.first) (drop b.first items) i s high)
          ∙ there.2 in
          let shows = is.shows k (b.first + i) below (omega (arith, first)) (omega (arith, past, high)) in
          subst (IsMember p k) at (shows.within, shows.class_is)),
      λ member. (
          let stands = is.stands s member.0 in
          let own = member.1 in
          let own_first = ap (λ (x : ℕ). (bounds_at p x).first) own in
          let own_past = ap (λ (x : ℕ). (bounds_at p x).past) own in
          let from = stands.from in
          let to = stands.below in
          let low : b.first ≤ place_at p s = omega (arith, first, own_first, from) in
          let high : place_at p s < b.past = omega (arith, past, own_past, to) in
          let i = place_at p s - b.first in
          let back : b.first + i ≡ place_at p s = omega (arith, low) in
          let inside : i < b.past - b.first = omega (arith, low, high) in (
            i,
            omega (arith, long, rest, inside, size_is, past, up),
            get_or-take (b.past - b.first) (drop b.first items) i s inside
                ∙ get_or-drop b.first items i s
                ∙ ap (λ (n : ℕ). get_or items n s) back
                ∙ ap (λ (xs : List ℕ). get_or xs (place_at p s) s) items_is
                ∙ get_or_default p.order (place_at p s) s 0 (omega (arith, high, past, up, is.order_size))
                ∙ stands.at,
          )),
    )
