-- The numbers that aren't in a list.
use Rattle.std.proofs.Common.{◌≡◌, ℕ, zero, suc, ◌+◌, ◌<◌, ◌≤◌, ◌⊎◌, List, [], ◌∷◌, ◌++◌, Bool, length}
use Rattle.std.proofs.Common.{get_or, set, All, AllPairs, Contains, map, take, refl, sym, ap, subst, ◌∙◌, arith, inl}
use Rattle.std.proofs.Common.{inr, length-set, nat_cmp, true, false}
use Rattle.std.specs.List.Sorted.{IsStrictlySortedBy}
use Rattle.std.proofs.Math.ListN.{replicate}
use Rattle.std.proofs.lemmas.Bool.{cases_eq}
use Rattle.std.proofs.lemmas.List.{length-replicate, take_more, take_all}
use Rattle.std.proofs.lemmas.List.Elements.{Contains-push, Contains-push_cases, Contains-append_left, Contains-get_or}
use Rattle.std.proofs.lemmas.List.Quantifiers.{all_pairs_push}
use Rattle.std.proofs.lemmas.Map.Keys.{sorted_from_strictly_increasing}
use Rattle.si_base.specs.Sets.{IsIn}
use Rattle.si_base.specs.Graph.{StateGraph, IsCut}
use Rattle.si_graph.proofs.ListMembers.{Contains-nil}
use Rattle.si_graph.proofs.SearchLemmas.{stays_in, in_cases, is_set, in_none}
use Rattle.si_sg.specs.Dropped.{AreUnreached}
use Rattle.si_sg.specs.Loops.Others.{IsSetOf, AreOthers, AreNamesOfOthers}

pub ascending : (xs : List ℕ) → AllPairs (λ x y. x < y) xs → IsStrictlySortedBy nat_cmp xs
ascending xs pairs = sorted_from_strictly_increasing xs (λ k within. pairs k (k + 1) 0 (omega arith) within)

-- ---- the set of a list, one state further
pub set_none : (size : ℕ) (states : List ℕ) → IsSetOf size (take 0 states) (replicate size false)
set_none size states = record {
  count = length-replicate size false;
  exactly = λ s. ((λ there. absurd (in_none size s there)), (λ there. absurd (Contains-nil s there)));
}

pub set_more : (size k s : ℕ) (states : List ℕ) (marks : List Bool) → All (λ t. t < size) states
    → k < length states → s ≡ get_or states k s → IsSetOf size (take k states) marks
    → IsSetOf size (take (k + 1) states) (set marks s true)
set_more size k s states marks all within at is = record {
  count = length-set marks s true ∙ is.count;
  exactly = λ t. (
    (λ there. subst (λ l. Contains l t) longer (elim (in_cases marks s t there) [
      | inl same ↦ subst (Contains (take k states ++ s ∷ [])) (sym same) (Contains-push (take k states) s)
      | inr old ↦ Contains-append_left (take k states) (s ∷ []) t ((is.exactly t).0 old)
    ])),
    (λ there. elim (Contains-push_cases (take k states) s t (subst (λ l. Contains l t) (sym longer) there)) [
      | inl old ↦ stays_in marks s t small ((is.exactly t).1 old)
      | inr same ↦ subst (IsIn (set marks s true)) same (is_set marks s small)
    ]),
  );
}
  where
    longer : take k states ++ s ∷ [] ≡ take (k + 1) states
    longer = ap (λ (t : ℕ). take k states ++ t ∷ []) at ∙ sym (take_more states k s within)

    below : s < size
    below = subst (λ (t : ℕ). t < size) (sym at) (all k s within)

    small : s < length marks
    small = omega (arith, below, is.count)

pub set_all : (size k : ℕ) (states : List ℕ) (marks : List Bool) → length states ≤ k
    → IsSetOf size (take k states) marks → IsSetOf size states marks
set_all size k states marks all is = subst (λ (l : List ℕ). IsSetOf size l marks) (take_all k states all) is

-- ---- the others, one number further
pub others_none : (Q : ℕ → Type 0) → AreOthers Q 0 []
others_none Q = record {
  in_order = λ i j d less within. absurd (omega arith);
  exactly = λ s. ((λ there. absurd (Contains-nil s there)), (λ is. absurd (omega (arith, is.0))));
}

pub others_more : (Q : ℕ → Type 0) (s : ℕ) (others new : List ℕ) → AreOthers Q s others → (Q s → ⊥)
    → new ≡ others ++ s ∷ [] → AreOthers Q (s + 1) new
others_more Q s others new are not pushed = rw pushed (record {
  in_order = all_pairs_push (λ x y. x < y) others s are.in_order
      (λ k d within. ((are.exactly (get_or others k d)).0 (Contains-get_or others k d within)).0);
  exactly = λ t. (
    (λ there. elim (Contains-push_cases others s t there) [
      | inl old ↦ (let is = (are.exactly t).0 old in (omega (arith, is.0), is.1))
      | inr same ↦ subst (λ u. (u < s + 1) × (Q u → ⊥)) same (omega arith, not)
    ]),
    (λ is. elim (cases_eq t s) [
      | inl same ↦ subst (Contains (others ++ s ∷ [])) (sym same) (Contains-push others s)
      | inr other ↦ Contains-append_left others (s ∷ []) t ((are.exactly t).1 (omega (arith, is.0), is.1))
    ]),
  );
})

pub others_pass : (Q : ℕ → Type 0) (s : ℕ) (others : List ℕ) → AreOthers Q s others → Q s
    → AreOthers Q (s + 1) others
others_pass Q s others are has = record {
  in_order = are.in_order;
  exactly = λ t. (
    (λ there. let is = (are.exactly t).0 there in (omega (arith, is.0), is.1)),
    (λ is. elim (cases_eq t s) [
      | inl same ↦ absurd (is.1 (subst Q (sym same) has))
      | inr other ↦ (are.exactly t).1 (omega (arith, is.0), is.1)
    ]),
  );
}

pub some_others : (Q : ℕ → Type 0) → ((s : ℕ) → Q s ⊎ (Q s → ⊥)) → (n : ℕ) → (others : List ℕ) × AreOthers Q n others
some_others Q decided zero = ([], others_none Q)
some_others Q decided (suc n) =
    let rest = some_others Q decided n in
    let next : n + 1 ≡ suc n = omega arith in
    elim (decided n) [
      | inl has ↦ (rest.0, subst (λ (k : ℕ). AreOthers Q k rest.0) next (others_pass Q n rest.0 rest.1 has))
      | inr not ↦ (
        rest.0 ++ n ∷ [],
        subst (λ (k : ℕ). AreOthers Q k (rest.0 ++ n ∷ [])) next
            (others_more Q n rest.0 (rest.0 ++ n ∷ []) rest.1 not refl),
      )
    ]

-- ---- names that aren't kept
pub names_of_others : (names found : List (List ℕ)) (kept others : List ℕ) (marks : List Bool)
    → IsSetOf (length names) kept marks → AreOthers (IsIn marks) (length marks) others
    → found ≡ map (λ s. get_or names s []) others → AreNamesOfOthers names kept found
names_of_others names found kept others marks is are named = record {
  others = others;
  in_order = ascending others are.in_order;
  exactly = λ s. (
    (λ there. let it = (are.exactly s).0 there in
        (omega (arith, it.0, is.count), λ has. it.1 ((is.exactly s).1 has))),
    (λ it. (are.exactly s).1 (omega (arith, it.0, is.count), λ marked. it.1 ((is.exactly s).0 marked))),
  );
  named = named;
}

pub others_within : (n : ℕ) (others : List ℕ) (marks : List Bool) → AreOthers (IsIn marks) (length marks) others
    → length marks ≡ n → All (λ s. s < n) others
others_within n others marks are count k d within =
    let small = ((are.exactly (get_or others k d)).0 (Contains-get_or others k d within)).0 in omega arith

-- ---- states that a cut doesn't keep
pub unreached : (g h : StateGraph) (names found : List (List ℕ)) (kept : List ℕ) → IsCut g kept h
    → g.states ≡ length names → (are : AreNamesOfOthers names kept found) → AreUnreached g are.others
unreached g h names found kept cut states are = record {
  exactly = λ s. (
    (λ there. let it = (are.exactly s).0 there in
        (omega (arith, it.0, states), λ reached. it.1 ((cut.reachable s).1 reached))),
    (λ it. (are.exactly s).1 (omega (arith, it.0, states), λ has. it.1 ((cut.reachable s).0 has))),
  );
  in_order = are.in_order;
}
