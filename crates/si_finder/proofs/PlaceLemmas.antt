-- The states of a current graph are told apart by origin and code, and are looked up by these.
use Rattle.std.proofs.Common.{◌≡◌, ℕ, ◌<◌, ◌≤◌, ◌+◌, ◌==◌, ◌&&◌, Bool, true, false, List, [], ◌∷◌, ◌++◌, length, map}
use Rattle.std.proofs.Common.{get_or, position, slice_get, Some, Contains, refl, sym, ap, ap₂, subst, ◌∙◌, arith}
use Rattle.std.specs.List.{list_any}
use Rattle.std.proofs.lemmas.Bool.{true≢false, and_parts, eqb-true, eq-eqb, false_from_ne_true}
use Rattle.std.proofs.lemmas.List.{length-map, get_or-map, map_push}
use Rattle.std.proofs.lemmas.List.Folds.{list_any_at, Any-from_list_any}
use Rattle.std.proofs.lemmas.List.FromFn.{length-map-range_with_len, get_or-map-range_with_len, map-range_with_len_more}
use Rattle.std.proofs.lemmas.List.Quantifiers.{position-Some}
use Rattle.std.proofs.lemmas.Option.{slice_get-map, slice_get-get_or}
use Rattle.indexmap.specs.IndexSet.{insert_key}
use Rattle.si_base.specs.Bits.{bit}
use Rattle.si_base.specs.Codes.{CodedGraph}
use Rattle.si_base.specs.Limits.{max_states}
use Rattle.si_insert.specs.Lineage.{Current, Keeps}
use Rattle.si_reached.specs.declared.state.Reached.{Reached}
use Rattle.si_reached.proofs.ListLemmas.{some_at}
use Rattle.si_finder.specs.declared.places.Key.{Key}
use Rattle.si_finder.specs.Loops.Places.{key_state, stand, stands, stands_below}

-- ---- keys and what they stand for
abbrev pub same_key : Key → Key → Bool
same_key a b = (a.state == b.state) && (a.values == b.values)

same_keys : (a b : Key) → same_key a b ≡ true → key_state a ≡ key_state b
same_keys a b same =
    let parts = and_parts (a.state == b.state) (a.values == b.values) same in
    let make : ℕ → ℕ → Reached = λ s v. record { state = s; values = v } in
    ap₂ make (eqb-true a.state b.state parts.0) (eqb-true a.values b.values parts.1)

same_states : (a b : Key) → key_state a ≡ key_state b → same_key a b ≡ true
same_states a b same =
    let states = eq-eqb a.state b.state (ap (λ (x : Reached). x.state) same) in
    let values = eq-eqb a.values b.values (ap (λ (x : Reached). x.values) same) in
    ap₂ (λ (s v : Bool). s && v) states values

there_any : (ks : List Key) (k : Key) → Contains (map key_state ks) (key_state k) → list_any (same_key k) ks ≡ true
there_any ks k (i, within, at) =
    let inside : i < length ks = omega (arith, within, length-map ks key_state) in
    let d = (some_at ks i inside).0 in
    let equal = sym at ∙ get_or-map key_state ks i d (key_state k) inside in
    list_any_at (same_key k) ks i d inside (same_states k (get_or ks i d) equal)

any_there : (ks : List Key) (k : Key) → list_any (same_key k) ks ≡ true → Contains (map key_state ks) (key_state k)
any_there ks k is =
    let (i, x, within, at, same) = Any-from_list_any (same_key k) ks is in (
      i,
      omega (arith, within, length-map ks key_state),
      get_or-map key_state ks i x (key_state k) within ∙ ap key_state at ∙ sym (same_keys k x same),
    )

-- ---- looked up
module _ (ks : List Key) (key : Key) (x : Reached) (shows : key_state key ≡ x) where
  pub placed : (k : ℕ) → Some k ≡ position (same_key key) ks → slice_get (map key_state ks) k ≡ Some x
  placed k at =
      let facts = position-Some (same_key key) ks k key (sym at) in
      let is : key_state (get_or ks k key) ≡ x = sym (same_keys key (get_or ks k key) facts.1) ∙ shows in
      slice_get-map key_state ks k ∙ rw (slice_get-get_or ks k key facts.0) (ap Some is)

  pub not_placed : list_any (same_key key) ks ≡ false → Contains (map key_state ks) x → ⊥
  not_placed none there =
      true≢false (sym (there_any ks key (subst (Contains (map key_state ks)) (sym shows) there)) ∙ none)

-- ---- the states of a current graph
-- no two of them have one origin and one code
stands_once : (given : CodedGraph) (v : Current) (s : ℕ) → Keeps given v → s < v.coded.graph.states
    → Contains (stands_below v s) (stand v s) → ⊥
stands_once given v s kept within (i, below, at) =
    let less : i < s = omega (arith, below, length-map-range_with_len (stand v) 0 s) in
    let there : i < v.coded.graph.states = omega (arith, less, within) in
    let is : stand v i ≡ stand v s =
    sym (get_or-map-range_with_len (stand v) 0 s i i (stand v s) less (omega arith)) ∙ at in
    let same : i ≡ s = kept.determined i s there within (ap (λ (x : Reached). x.state) is)
    (λ a above. ap (λ (x : Reached). bit x.values a) is) in
    omega (arith, less, same)

pub next_stands : (given : CodedGraph) (v : Current) (s : ℕ) (old new : List Key) (k : Key) (x : Reached)
    → Keeps given v → s < v.coded.graph.states → key_state k ≡ x → x ≡ stand v s → new ≡ insert_key same_key old k
    → map key_state old ≡ stands_below v s → map key_state new ≡ stands_below v (s + 1)
next_stands given v s old new k x kept within shows is after before =
    let shown : key_state k ≡ stand v s = shows ∙ is in
    let none : list_any (same_key k) old ≡ false = false_from_ne_true (list_any (same_key k) old)
    (λ found. stands_once given v s kept within
    (subst (λ (y : Reached). Contains (stands_below v s) y) shown
    (subst (λ (ys : List Reached). Contains ys (key_state k)) before (any_there old k found)))) in
    ap (map key_state) (after ∙ rw none refl) ∙ map_push key_state old k
    ∙ ap₂ (λ (ys : List Reached) (y : Reached). ys ++ y ∷ []) before shown
    ∙ sym (map-range_with_len_more (stand v) 0 s s (omega arith))

pub few_places : (given : CodedGraph) (v : Current) (ks : List Key) (s : ℕ) → Keeps given v
    → s ≤ v.coded.graph.states → map key_state ks ≡ stands_below v s → length ks ≤ max_states
few_places given v ks s kept within are =
    let size : length (map key_state ks) ≡ length (stands_below v s) = ap (length {A = Reached}) are in
    let few = kept.coded.graph_is.few_states in
    omega (arith, size, length-map ks key_state, length-map-range_with_len (stand v) 0 s, few, within)

-- all of them are there
pub all_stand : (v : Current) (xs : List Reached) (s : ℕ) → v.coded.graph.states ≤ s → s ≤ v.coded.graph.states
    → xs ≡ stands_below v s → xs ≡ stands v
all_stand v xs s past within are =
    let same : s ≡ v.coded.graph.states = omega (arith, past, within) in are ∙ ap (stands_below v) same
