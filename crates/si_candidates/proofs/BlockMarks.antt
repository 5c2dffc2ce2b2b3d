-- The set of the states of a list.
use Rattle.std.proofs.Common.{◌≡◌, ℕ, ◌+◌, ◌<◌, ◌≤◌, ◌==◌, Bool, true, false, ◌∙◌, sym, subst, arith, List, length}
use Rattle.std.proofs.Common.{get_or, set, All, Contains, ◌↔◌, eqb-true, eq-eqb}
use Rattle.std.proofs.lemmas.List.{get_or_default}
use Rattle.std.proofs.lemmas.List.Folds.{list_any_at, Any-from_list_any}
use Rattle.std.proofs.lemmas.List.FromFn.{length-map-range_with_len, get_or-map-range_with_len}
use Rattle.std.specs.List.{list_any}
use Rattle.si_base.specs.Sets.{IsIn}
use Rattle.si_graph.proofs.SearchLemmas.{in_below}
use Rattle.si_closures.proofs.SameStates.{same_states}
use Rattle.si_regions.proofs.RegionLemmas.{MadeTo, made_more}
use Rattle.si_candidates.specs.Blocks.{state_set}

pub length-marked : (states : ℕ) (set : List ℕ) → length (state_set states set) ≡ states
length-marked states set = length-map-range_with_len (λ s. list_any (λ t. t == s) set) 0 states

mark_at : (states : ℕ) (set : List ℕ) (s : ℕ) → s < states
    → get_or (state_set states set) s false ≡ list_any (λ t. t == s) set
mark_at states set s within =
    get_or-map-range_with_len (λ u. list_any (λ t. t == u) set) 0 states s s false within (omega arith)

pub marked_has : (states : ℕ) (list : List ℕ) (s : ℕ) → IsIn (state_set states list) s
    ↔ ((s < states) × Contains list s)
marked_has states list s = (
  λ there. (
      let within : s < states = omega (arith, in_below (state_set states list) s there, length-marked states list) in
      let any = Any-from_list_any (λ t. t == s) list (sym (mark_at states list s within) ∙ there) in
      (within, subst (Contains list) (eqb-true any.1 s any.4) (any.0, any.2, any.3))),
  λ (within, (k, inside, at)). mark_at states list s within
      ∙ list_any_at (λ t. t == s) list k s inside (eq-eqb (get_or list k s) s at),
)

-- ---- made state by state
-- the k-th state of the list is t
abbrev pub IsListed : List ℕ → ℕ → ℕ → Type 0
IsListed states k t = (k < length states) × (get_or states k t ≡ t)

pub listed_more : (size : ℕ) (states : List ℕ) (k s : ℕ) (marks : List Bool) → All (λ t. t < size) states
    → k < length states → s ≡ get_or states k s → MadeTo (IsListed states) size k marks
    → MadeTo (IsListed states) size (k + 1) (set marks s true)
listed_more size states k s marks below inside at made =
    made_more (IsListed states) size k s marks (subst (λ t. t < size) (sym at) (below k s inside)) (inside, sym at)
    (λ u is. sym is.1 ∙ get_or_default states k u s inside ∙ sym at) made

pub all_listed : (size : ℕ) (states : List ℕ) (k : ℕ) (marks : List Bool) → length states ≤ k
    → MadeTo (IsListed states) size k marks → All (λ t. t < size) states → marks ≡ state_set size states
all_listed size states k marks all made below =
    same_states marks (state_set size states) (made.size ∙ sym (length-marked size states))
    (λ t there. (marked_has size states t).1
    (let is = (made.exactly t).0 there in (inside t is.0 is.2, (is.0, is.2.0, is.2.1))))
    (λ t there. (made.exactly t).1
    (let is = ((marked_has size states t).0 there).1 in (is.0, omega (arith, is.1), (is.1, is.2))))
  where
    inside : (t j : ℕ) → IsListed states j t → t < size
    inside t j is = subst (λ u. u < size) is.1 (below j t is.0)
