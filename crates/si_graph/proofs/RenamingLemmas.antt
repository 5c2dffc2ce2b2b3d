-- The renaming of marked states, one state further.
use Rattle.std.proofs.Common.{◌≡◌, ℕ, ◌+◌, ◌<◌, Bool, ap, ◌∙◌, sym, subst, arith, List, [], ◌∷◌, ◌++◌, length, get_or}
use Rattle.std.proofs.Common.{slice_get, Some, Contains, inl, inr, zero, suc}
use Rattle.std.proofs.lemmas.Bool.{cases_eq}
use Rattle.std.proofs.lemmas.List.{length_push, get_or_push, get_or_append_left}
use Rattle.std.proofs.lemmas.List.Elements.{Contains-push, Contains-push_cases, Contains-append_left, Contains-get_or}
use Rattle.std.proofs.lemmas.List.Quantifiers.{all_pairs_push}
use Rattle.std.proofs.lemmas.Option.{slice_get-get_or}
use Rattle.si_base.specs.Sets.{IsIn}
use Rattle.si_graph.specs.Loops.Renaming.{Renames}

pub slice_get_left : {X : Type 0} (xs ys : List X) (k : ℕ) (x : X) → slice_get xs k ≡ Some x
    → slice_get (xs ++ ys) k ≡ Some x
slice_get_left [] ys k x h = cc
slice_get_left (y ∷ xs) ys zero x h = h
slice_get_left (y ∷ xs) ys (suc k) x h = slice_get_left xs ys k x h

pub slice_get_last : {X : Type 0} (xs : List X) (x : X) (n : ℕ) → n ≡ length xs → slice_get (xs ++ x ∷ []) n ≡ Some x
slice_get_last xs x n e = slice_get-get_or (xs ++ x ∷ []) n x (omega (arith, length_push xs x))
    ∙ ap Some (get_or_push xs x x n (sym e))

-- the places of the earlier states stay as one is added
place_left : (places : List ℕ) (p t : ℕ) → t < length places → get_or (places ++ p ∷ []) t 0 ≡ get_or places t 0
place_left places p t h = get_or_append_left places (p ∷ []) 0 t h

pub Renames-marked : (marks : List Bool) (s p : ℕ) (kept new_kept : List ℕ) (places new_places : List ℕ)
    → p ≡ length kept → Renames marks s kept places → IsIn marks s → new_kept ≡ kept ++ s ∷ []
    → new_places ≡ places ++ p ∷ [] → Renames marks (s + 1) new_kept new_places
Renames-marked marks s p kept new_kept places new_places ep r marked ek epl =
    rw (ek, epl) (record {
      in_order = all_pairs_push (λ x y. x < y) kept s r.in_order
          (λ k d h. ((r.members (get_or kept k d)).0 (Contains-get_or kept k d h)).0);
      members = λ t. (
        λ there. elim (Contains-push_cases kept s t there) [
          | inl old ↦ let m = (r.members t).0 old in (omega (arith, m.0), m.1)
          | inr same ↦ subst (λ u. (u < s + 1) × IsIn marks u) same (omega arith, marked)
        ],
        λ (below, is). elim (cases_eq t s) [
          | inl same ↦ subst (λ u. Contains (kept ++ s ∷ []) u) (sym same) (Contains-push kept s)
          | inr other ↦ Contains-append_left kept (s ∷ []) t ((r.members t).1 (omega arith, is))
        ],
      );
      few = omega (arith, length_push kept s, r.few);
      size = omega (arith, length_push places p, r.size);
      places_are = λ t below is. elim (cases_eq t s) [
        | inl same ↦ rw (same, get_or_push places p 0 s r.size) (slice_get_last kept s p ep)
        | inr other ↦ rw (place_left places p t (omega (arith, r.size)))
            (slice_get_left kept (s ∷ []) _ t (r.places_are t (omega arith) is))
      ];
    })

pub Renames-unmarked : (marks : List Bool) (s : ℕ) (kept : List ℕ) (places new_places : List ℕ) (p : ℕ)
    → Renames marks s kept places → (IsIn marks s → ⊥) → new_places ≡ places ++ p ∷ []
    → Renames marks (s + 1) kept new_places
Renames-unmarked marks s kept places new_places p r unmarked ep = rw ep (record {
  in_order = r.in_order;
  members = λ t. (
    λ there. let m = (r.members t).0 there in (omega (arith, m.0), m.1),
    λ (below, is). elim (cases_eq t s) [
      | inl same ↦ absurd (unmarked (subst (λ u. IsIn marks u) same is))
      | inr other ↦ (r.members t).1 (omega arith, is)
    ],
  );
  few = omega (arith, r.few);
  size = omega (arith, length_push places p, r.size);
  places_are = λ t below is. elim (cases_eq t s) [
    | inl same ↦ absurd (unmarked (subst (λ u. IsIn marks u) same is))
    | inr other ↦ rw (place_left places p t (omega (arith, r.size))) (r.places_are t (omega arith) is)
  ];
})
