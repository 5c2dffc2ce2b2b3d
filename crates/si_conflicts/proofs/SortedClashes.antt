-- The pairs of keys that clash are as many in any order, and one pass over sorted keys counts them.
use Rattle.std.proofs.Common.{◌≡◌, ℕ, ◌+◌, ◌<◌, ◌≤◌, Bool, cond, List, [], ◌∷◌, ◌++◌, length}
use Rattle.std.proofs.Common.{map, take, get_or, count_by, sym, ap, subst, ◌∙◌, arith, refl, inr}
use Rattle.std.proofs.lemmas.List.{take_more, get_or_default, length-map, length-take-le, map-append}
use Rattle.std.proofs.lemmas.List.Elements.{All-weaker, All-push}
use Rattle.std.proofs.lemmas.List.Sorted.{sum_by-IsPermutation}
use Rattle.std.proofs.lemmas.List.Sums.{count_by-le-length}
use Rattle.std.specs.List.{sum_by}
use Rattle.std.specs.List.Sorted.{IsPermutation, IsSorted}
use Rattle.si_base.specs.Limits.{max_states}
use Rattle.si_conflicts.specs.declared.keys.Key.{Key}
use Rattle.si_conflicts.specs.declared.tally.Role.TheVariants.{Plain}
use Rattle.si_conflicts.specs.declared.tally.Tally.{Tally}
use Rattle.si_conflicts.specs.Loops.Apart.{AreUpTo, HasTally, IsTally, IsUpTo, RoleAndKey, are_apart}
use Rattle.si_conflicts.specs.Loops.Keys.{clashes, clash_count, key_cmp}
use Rattle.si_conflicts.proofs.ApartConflicts.{clashes_itself}
use Rattle.si_conflicts.proofs.ApartPairSums.{clash_pairs, pair_push, same_sum, sum_map, twice}
use Rattle.si_conflicts.proofs.CountLemmas.{clash_back}
use Rattle.si_conflicts.proofs.TallyLemmas.{key_up_to, up_to_later}

-- what a pair of keys adds to the count
abbrev weight : Key → Key → ℕ
weight x y = cond (clashes x y) 1 0

-- ---- in any order
weight_back : (x y : Key) → weight x y ≡ weight y x
weight_back x y = ap (λ b. cond b 1 0) (clash_back x y)

weight_itself : (x : Key) → weight x x ≡ 0
weight_itself x = ap (λ b. cond b 1 0) (clashes_itself x)

-- each pair is met from both of its keys
both_ways : (keys : List Key) → sum_by (λ x. sum_by (weight x) keys) keys ≡ clash_count keys + clash_count keys
both_ways keys =
    let pairs = clash_pairs keys in
    let all = twice weight weight_back weight_itself keys in
    omega (arith, pairs, all)

pub clashes_permuted : (xs ys : List Key) → IsPermutation xs ys → clash_count ys ≡ clash_count xs
clashes_permuted xs ys moved =
    let rows = same_sum (λ x. sum_by (weight x) ys) (λ x. sum_by (weight x) xs) xs
    (λ x there. sum_by-IsPermutation (weight x) xs ys moved) in
    let order = sum_by-IsPermutation (λ x. sum_by (weight x) ys) xs ys moved in
    omega (arith, rows, order, both_ways xs, both_ways ys)

-- ---- the keys before the one at i, as those of copies at which the new signal is stable
abbrev pub plain : Key → RoleAndKey
plain key = (Plain, key)

abbrev pub plain_to : List Key → ℕ → List RoleAndKey
plain_to keys i = map plain (take i keys)

plain_length : (keys : List Key) (i : ℕ) → i < length keys → length (plain_to keys i) ≡ i
plain_length keys i inside = length-map (take i keys) plain ∙ length-take-le i keys (omega arith)

pub few_clash : (keys : List Key) (i n : ℕ) (q : RoleAndKey → Bool) → n ≡ count_by q (plain_to keys i)
    → i < length keys → n ≤ i
few_clash keys i n q is inside =
    let most = count_by-le-length q (plain_to keys i) in
    let size = plain_length keys i inside in
    omega (arith, is, most, size)

pub has_plain : (keys : List Key) (i : ℕ) (key : Key) (tally : Tally) → i < length keys → length keys ≤ max_states
    → IsTally key (plain_to keys i) tally → HasTally tally
has_plain keys i key tally inside few is = record {
  key = key;
  copies = plain_to keys i;
  few = (let size = plain_length keys i inside in omega arith);
  is = is;
}

-- ---- one key more
module _ (keys : List Key) (i : ℕ) (key : Key) (inside : i < length keys) (at : key ≡ get_or keys i key) where
  taken : take (i + 1) keys ≡ take i keys ++ key ∷ []
  taken = take_more keys i key inside ∙ ap (λ x. take i keys ++ x ∷ []) (sym at)

  plain_more : plain_to keys (i + 1) ≡ plain_to keys i ++ plain key ∷ []
  plain_more = ap (map plain) taken ∙ map-append plain (take i keys) (key ∷ [])

  pub more_tallied : (tally : Tally) → IsTally key (plain_to keys i ++ plain key ∷ []) tally
      → IsTally key (plain_to keys (i + 1)) tally
  more_tallied tally is = subst (λ copies. IsTally key copies tally) (sym plain_more) is

  pub more_clashes : (total met new : ℕ) → total ≡ clash_count (take i keys)
      → met ≡ count_by (λ e. are_apart e (plain key)) (plain_to keys i) → new ≡ total + met
      → new ≡ clash_count (take (i + 1) keys)
  more_clashes total met new before met_is sum =
      let whole = ap clash_count taken in
      let pairs = clash_pairs (take i keys ++ key ∷ []) in
      let earlier = clash_pairs (take i keys) in
      let push = pair_push weight (take i keys) key in
      let row = sum_map plain (λ e. cond (are_apart e (plain key)) 1 0) (take i keys) in
      omega (arith, before, met_is, sum, whole, pairs, earlier, push, row)

  pub more_in_order : (last : Key) → AreUpTo (plain_to keys i) last → IsUpTo last key
      → AreUpTo (plain_to keys (i + 1)) key
  more_in_order last before later = subst (λ copies. AreUpTo copies key) (sym plain_more)
      (All-push (λ e. IsUpTo e.1 key) (plain_to keys i) (plain key)
      (All-weaker (λ e. IsUpTo e.1 last) (λ e. IsUpTo e.1 key) (λ e up. up_to_later e.1 last key up later)
      (plain_to keys i) before)
      (inr (refl, omega arith)))

  -- the next key isn't before
  pub next_later : IsSorted key_cmp keys → (d : Key) → i + 1 < length keys → IsUpTo key (get_or keys (i + 1) d)
  next_later sorted d within = subst (λ k. IsUpTo k (get_or keys (i + 1) d)) (sym here)
      (key_up_to (get_or keys i d) (get_or keys (i + 1) d) (sorted i d (omega arith) within))
    where
      here : key ≡ get_or keys i d
      here = at ∙ get_or_default keys i key d inside

  pub is_later : (last : Key) → ((d : Key) → i < length keys → IsUpTo last (get_or keys i d)) → IsUpTo last key
  is_later last next = subst (IsUpTo last) (sym at) (next key inside)
