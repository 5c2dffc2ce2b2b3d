-- What a search reaches: the seeds in a set, and along arcs what is beside them in it.
use Rattle.std.proofs.Common.{◌≡◌, ℕ, ◌+◌, ◌<◌, ◌≤◌, Bool, ◌∙◌, sym, ap, subst, arith, List, [], ◌∷◌, ◌++◌}
use Rattle.std.proofs.Common.{length, get_or, Contains, inl, inr, ◌⊎◌, ◌↔◌, nat_cmp}
use Rattle.std.proofs.lemmas.Bool.{cases_eq}
use Rattle.std.proofs.lemmas.List.{get_or_default}
use Rattle.std.proofs.lemmas.List.Elements.{Contains-push, Contains-push_cases, Contains-append_left}
use Rattle.std.specs.List.Sorted.{IsStrictlySortedBy}
use Rattle.si_base.specs.Graph.{StateGraph}
use Rattle.si_graph.specs.declared.closure.Along.{Along}
use Rattle.si_graph.specs.Closure.{IsNext}
use Rattle.si_base.specs.Sets.{IsIn}
use Rattle.si_graph.specs.Loops.Reach.{Marks, MarksAll}
use Rattle.si_graph.proofs.ClosureLemmas.{along_path}
use Rattle.si_graph.proofs.SearchLemmas.{Explores, marks_both}
use Rattle.si_regions.specs.Regions.{IsSetOf}
use Rattle.si_regions.specs.Loops.Searching.{IsSeed, IsReachedIn}

-- ---- the seeds
-- the first n seeds are marked, as far as the set has them
abbrev pub AreTaken : List ℕ → List Bool → ℕ → List Bool → Type 0
AreTaken seeds within n marks = (j : ℕ) → j < n → IsIn within (get_or seeds j 0) → IsIn marks (get_or seeds j 0)

module _ (within : List Bool) (seeds : List ℕ) where
  pub seeds_more : (n s : ℕ) (marks : List Bool) (work : List ℕ) (b : List Bool) (v : List ℕ) (d : List Bool)
      (u : List ℕ)
      → n < length seeds → s ≡ get_or seeds n s
      → Marks (IsSeed within seeds) marks work b v → MarksAll (λ x. (x ≡ s) × IsIn within x) b v d u
      → Marks (IsSeed within seeds) marks work d u
  seeds_more n s marks work b v d u inside at before one =
      marks_both (IsSeed within seeds) (λ x. (x ≡ s) × IsIn within x) (IsSeed within seeds) marks work b v d u
      (λ t seed. seed) (λ t is. (subst (λ x. Contains seeds x) (sym is.0) (n, inside, sym at), is.1)) before
      one.marks_are

  pub taken_more : (n s : ℕ) (b : List Bool) (v : List ℕ) (d : List Bool) (u : List ℕ) → n < length seeds
      → s ≡ get_or seeds n s → MarksAll (λ x. (x ≡ s) × IsIn within x) b v d u → AreTaken seeds within n b
      → AreTaken seeds within (n + 1) d
  taken_more n s b v d u inside at one before j below has = elim (cases_eq j n) [
    | inl same ↦ (
        let is : get_or seeds j 0 ≡ s =
        ap (λ (k : ℕ). get_or seeds k 0) same ∙ get_or_default seeds n 0 s inside ∙ sym at in
        one.all (get_or seeds j 0) (is, has))
    | inr other ↦ one.marks_are.grows (get_or seeds j 0) (before j (omega arith) has)
  ]

  pub all_seeds : (n : ℕ) (a : List Bool) (w : List ℕ) (d : List Bool) (u : List ℕ) → length seeds ≤ n
      → Marks (IsSeed within seeds) a w d u → AreTaken seeds within n d → MarksAll (IsSeed within seeds) a w d u
  all_seeds n a w d u all marks taken = record {
    marks_are = marks;
    all = λ t seed. (
        let place = seed.0 in
        let is : get_or seeds place.0 0 ≡ t = get_or_default seeds place.0 0 t place.1 ∙ place.2 in
        subst (λ (x : ℕ). IsIn d x) is
        (taken place.0 (omega (arith, place.1)) (subst (λ (x : ℕ). IsIn within x) (sym is) seed.1)));
  }

-- ---- the search
-- each marked state is found, or waits to be followed
abbrev pub AreSplit : List Bool → List ℕ → List ℕ → Type 0
AreSplit marks found work = (t : ℕ) → IsIn marks t ↔ (Contains found t ⊎ Contains work t)

abbrev pub Searches : StateGraph → Along → List Bool → List ℕ → List Bool → List ℕ → Type 0
Searches g along within seeds marks work =
    Explores (IsNext g along within) (IsSeed within seeds) (IsReachedIn g along within seeds) marks work

pub split_more : (Q : ℕ → Type 0) (marks : List Bool) (found rest : List ℕ) (s : ℕ) (after : List Bool) (work : List ℕ)
    → Marks Q marks rest after work → AreSplit marks found (rest ++ s ∷ []) → AreSplit after (found ++ s ∷ []) work
split_more Q marks found rest s after work m split t = (
  λ i. elim (m.queued t i) [
    | inl old ↦ elim ((split t).0 old) [
      | inl there ↦ inl (Contains-append_left found (s ∷ []) t there)
      | inr waits ↦ elim (Contains-push_cases rest s t waits) [
        | inl left ↦ inr (m.waits t left)
        | inr same ↦ inl (subst (λ x. Contains (found ++ s ∷ []) x) same (Contains-push found s))
      ]
    ]
    | inr waits ↦ inr waits
  ],
  λ is. elim is [
    | inl there ↦ elim (Contains-push_cases found s t there) [
      | inl old ↦ m.grows t ((split t).1 (inl old))
      | inr same ↦ m.grows t ((split t).1 (inr (subst (λ x. Contains (rest ++ s ∷ []) x) same (Contains-push rest s))))
    ]
    | inr waits ↦ elim (m.marked t waits) [
      | inl left ↦ m.grows t ((split t).1 (inr (Contains-append_left rest (s ∷ []) t left)))
      | inr marked ↦ marked
    ]
  ],
)

-- what is found when nothing waits
pub all_found : (marks : List Bool) (found : List ℕ) → AreSplit marks found [] → (t : ℕ)
    → IsIn marks t ↔ Contains found t
all_found marks found split t = (
  λ i. elim ((split t).0 i) [ inl there ↦ there | inr none ↦ absurd (omega (arith, none.1)) ],
  λ there. (split t).1 (inl there),
)

pub search_finds : (g : StateGraph) (along : Along) (within : List Bool) (seeds : List ℕ) (marks : List Bool)
    (found list : List ℕ) → Searches g along within seeds marks [] → AreSplit marks found []
    → ((t : ℕ) → Contains list t ↔ Contains found t) → IsStrictlySortedBy nat_cmp list
    → IsSetOf (IsReachedIn g along within seeds) list
search_finds g along within seeds marks found list x split same order = record {
  in_order = order;
  exactly = λ t. (
    λ there. x.sound t ((all_found marks found split t).1 ((same t).0 there)),
    λ r. (same t).1 ((all_found marks found split t).0
        (along_path (IsNext g along within) (λ s. IsIn marks s) closed r.seed r.path t
        (x.begun r.seed r.there) r.leads)),
  );
}
  where
    closed : (s t : ℕ) → IsIn marks s → IsNext g along within s t → IsIn marks t
    closed s t here next = elim (x.closed s here) [ inl none ↦ absurd (omega (arith, none.1)) | inr done ↦ done t next ]
