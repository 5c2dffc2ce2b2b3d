-- What is known of a support, as the loops find it.
use Rattle.std.proofs.Common.{◌≡◌, ◌≢◌, ℕ, ◌+◌, ◌<◌, ◌≤◌, ◌⊎◌, ◌↔◌, Bool, true, false, List, length, bit_and}
use Rattle.std.proofs.Common.{bit_or, bit_xor, get_or, All, Contains, Result, Ok, Err, [], ◌∷◌, ◌++◌, sym, ap, subst}
use Rattle.std.proofs.Common.{◌∙◌, arith, inl, inr}
use Rattle.std.proofs.lemmas.Bool.{cases_lt, true≢false}
use Rattle.std.proofs.lemmas.Bool.Decides.{eqb_tells}
use Rattle.std.proofs.lemmas.List.{get_or_default, length_push}
use Rattle.std.proofs.lemmas.List.Elements.{All-push, Contains-append_left, Contains-push}
use Rattle.std.proofs.lemmas.List.Sorted.{searched}
use Rattle.std.specs.List.Sorted.{IsBinarySearchResult, IsNonDecreasing}
use Rattle.std.specs.Ordering.{nat_cmp}
use Rattle.std.specs.Result.{is_ok}
use Rattle.si_base.specs.Bits.{bit, ones, IsSet}
use Rattle.si_base.specs.Codes.{CodedGraph, IsCoded, code, next_value}
use Rattle.si_base.specs.Graph.{IsNonInput}
use Rattle.si_base.specs.Limits.{code_width}
use Rattle.si_base.specs.Proper.{HasNoConflict}
use Rattle.si_base.specs.Sets.{IsIn}
use Rattle.si_cube.specs.Order.{HaveSame}
use Rattle.si_match.specs.Loops.Codes.{AreCodes}
use Rattle.si_match.specs.Weight.{size_from, size_of_support}
use Rattle.si_match.proofs.CodeLemmas.{apart_determines, none_at_all, none_so_far, not_found}
use Rattle.si_match.proofs.DroppingLemmas.{all_behind, same_elsewhere}
use Rattle.si_bounds.specs.declared.supports.Group.{Group}
use Rattle.si_bounds.specs.declared.supports.Groups.{Groups}
use Rattle.si_bounds.specs.declared.supports.KnownSupport.{KnownSupport}
use Rattle.si_bounds.specs.Loops.Least.{AreAllTriggers}
use Rattle.si_bounds.specs.Loops.Supports.{AreGroups, AreGroupsOfSize, AreOthers, AreStatesWith, HaveMixed, IsFurther}
use Rattle.si_bounds.specs.Loops.Supports.{IsGroup, IsKnownOfSize, IsSeparated, KnowsSupport, ShowFurther, ShowKept}
use Rattle.si_bounds.specs.Loops.Supports.{ShowSome}

-- ---- the others of a signal
module _ (support i count whole head others : ℕ) (inside : i < count) (whole_is : whole ≡ ones count)
    (head_is : head ≡ ones (i + 1)) (taken : IsSet (bit_or support (bit_xor whole head)) i false others) where
  abbrev with_later : ℕ
  with_later = bit_or support (bit_xor whole head)

  elsewhere : (j : ℕ) → (i < j → j < count → ⊥) → bit with_later j ≡ bit support j
  elsewhere = same_elsewhere support i count whole head whole_is head_is inside

  behind : (j : ℕ) → i < j → j < count → bit with_later j ≡ true
  behind = all_behind support i count whole head whole_is head_is

  by_place : (j : ℕ) → bit with_later j ≡ true → (bit support j ≡ true) ⊎ ((i < j) × (j < count))
  by_place j there = elim (cases_lt i j) [
    | inl past ↦ elim (cases_lt j count) [
      | inl below ↦ inr (past, below)
      | inr beyond ↦ inl (sym (elsewhere j (λ low high. omega (arith, high, beyond))) ∙ there)
    ]
    | inr before ↦ inl (sym (elsewhere j (λ low high. omega (arith, low, before))) ∙ there)
  ]

  of_either : (j : ℕ) → (bit support j ≡ true) ⊎ ((i < j) × (j < count)) → bit with_later j ≡ true
  of_either j (inr place) = behind j place.0 place.1
  of_either j (inl kept) = elim (cases_lt i j) [
    | inl past ↦ elim (cases_lt j count) [
      | inl below ↦ behind j past below
      | inr beyond ↦ elsewhere j (λ low high. omega (arith, high, beyond)) ∙ kept
    ]
    | inr before ↦ elsewhere j (λ low high. omega (arith, low, before)) ∙ kept
  ]

  pub others_are : AreOthers support count i others
  others_are j = (
    λ there. (let other : j ≢ i = λ same. true≢false (sym there ∙ ap (bit others) same ∙ taken.there) in
        (other, by_place j (sym (taken.others j other) ∙ there))),
    λ (other, either). taken.others j other ∙ of_either j either,
  )

-- ---- lists of codes
pub same_codes_there : (c : CodedGraph) (z : ℕ) (value : Bool) (signals : ℕ) (codes sorted : List ℕ)
    → AreCodes c z value signals codes → HaveSame sorted codes → AreCodes c z value signals sorted
same_codes_there c z value signals codes sorted are same k =
    (λ there. (are k).0 ((same k).0 there), λ state. (same k).1 ((are k).1 state))

-- ---- states with a next value and values of signals
module _ (c : CodedGraph) (z : ℕ) (value : Bool) (signals key : ℕ) where
  -- those of the first states, so many
  pub record AreFirstWith (count : ℕ) (set : List Bool) : Type 0 where
    pub size : length set ≡ c.graph.states
    pub each : (s : ℕ) → IsIn set s
        ↔ ((s < count) × (next_value c s z ≡ value) × (bit_and (code c s) signals ≡ key))

-- ---- lists
-- what holds of the first members, so many, and of the next
pub next_too : {X : Type 0} (P : X → Type 0) (xs : List X) (k : ℕ) (x : X) → k < length xs → x ≡ get_or xs k x
    → ((j : ℕ) (d : X) → j < k → P (get_or xs j d)) → P x → (j : ℕ) (d : X) → j < k + 1 → P (get_or xs j d)
next_too P xs k x inside at before here j d low = elim (eqb_tells j k) [
  | inl last ↦ subst P (at ∙ get_or_default xs k x d inside ∙ ap (λ i. get_or xs i d) (sym last.1)) here
  | inr other ↦ (let not_last = other.1 in before j d (grind (arith, low, not_last)))
]

-- ---- groups that stay mixed
module _ (high low : List Bool) (groups : Groups) (items : List Group) (same : items ≡ groups.list.items) where
  pub one_mixed : (k : ℕ) (x : Group) → k < length items → x ≡ get_or items k x → (IsSeparated high low x → ⊥)
      → HaveMixed high low groups
  one_mixed k x inside at mixed = record {
    group = x;
    listed = subst (λ xs. Contains xs x) same (k, inside, sym at);
    mixed = mixed;
  }

  pub none_mixed : (k : ℕ) → length items ≤ k → ((j : ℕ) (d : Group) → j < k → IsSeparated high low (get_or items j d))
      → HaveMixed high low groups → ⊥
  none_mixed k past separated have =
      let (j, inside, at) = subst (λ xs. Contains xs have.group) (sym same) have.listed in
      have.mixed (subst (IsSeparated high low) at (separated j have.group (omega (arith, inside, past))))

-- ---- the groups of signals
-- the groups found up to place k of the codes, and one at least where one of these is among the others
pub record AreFound (c : CodedGraph) (z signals : ℕ) (on off : List ℕ) (k : ℕ) (groups : List Group) : Type 0 where
  pub each : All (IsGroup c z signals) groups
  pub some : (0 < length groups) ⊎ ((j : ℕ) → j < k → Contains off (get_or on j 0) → ⊥)

-- what a search finds is there
found_there : (xs : List ℕ) (x : ℕ) (r : Result ℕ ℕ) → IsBinarySearchResult (λ y. nat_cmp y x) xs r
    → IsNonDecreasing xs → is_ok r ≡ true → Contains xs x
found_there xs x (Ok i) answer rising found =
    let (inside, at) = searched xs x (Ok i) answer (λ a b low high. rising a b 0 low high) in
    (i, inside, get_or_default xs i x 0 inside ∙ at)
found_there xs x (Err i) answer rising found = absurd (true≢false (sym found))

module _ (c : CodedGraph) (z signals : ℕ) (is : IsCoded c) (on off : List ℕ) (on_are : AreCodes c z true signals on)
    (off_are : AreCodes c z false signals off) (rising : IsNonDecreasing off) where
  module _ (k key : ℕ) (groups : List Group) (are : AreFound c z signals on off k groups) (inside : k < length on)
      (at : key ≡ get_or on k key) (r : Result ℕ ℕ) (answer : IsBinarySearchResult (λ y. nat_cmp y key) off r) where
    -- no group has that key
    pub key_passed : is_ok r ≡ false → AreFound c z signals on off (k + 1) groups
    key_passed missed = record {
      each = are.each;
      some = elim are.some [
        | inl some ↦ inl some
        | inr none ↦ inr (none_so_far on off k key none inside at (not_found off key r answer rising missed))
      ];
    }

    -- a group has it
    pub key_found : is_ok r ≡ true → (group : Group) → AreStatesWith c z true signals key group.ones
        → AreStatesWith c z false signals key group.zeros → (more : List Group) → more ≡ groups ++ group ∷ []
        → AreFound c z signals on off (k + 1) more
    key_found found group ones zeros more pushed = record {
      each = subst (All (IsGroup c z signals)) (sym pushed)
          (All-push (IsGroup c z signals) groups group are.each is_group);
      some = inl (omega (arith, ap length pushed, length_push groups group));
    }
      where
        with_value : (value : Bool) (codes : List ℕ) (set : List Bool) → AreCodes c z value signals codes
            → AreStatesWith c z value signals key set → Contains codes key → (s : ℕ) × IsIn set s
        with_value value codes set are_codes states there =
            let (s, within, next, values) = (are_codes key).0 there in
            (s, (states.each s).1 (omega (arith, is.count, within), next, values))

        is_group : IsGroup c z signals group
        is_group = record {
          key = key;
          ones = ones;
          zeros = zeros;
          some_one = with_value true on group.ones on_are ones (k, inside, sym at);
          some_zero = with_value false off group.zeros off_are zeros (found_there off key r answer rising found);
        }

  pub all_found : (k : ℕ) (groups : Groups) → AreFound c z signals on off k groups.list.items → length on ≤ k
      → AreGroups c z signals groups
  all_found k groups are past = record {
    each = are.each;
    some = λ needed. elim are.some [
      | inl some ↦ some
      | inr none ↦ absurd (true≢false (sym (apart_determines c z signals on off on_are off_are
          (none_at_all on off k none past)) ∙ needed))
    ];
  }

-- ---- signal after signal
module _ (c : CodedGraph) (z triggers i : ℕ) (lists : List Groups) (shown : ShowFurther c z triggers i lists) where
  pub signal_passed : (IsFurther c z triggers i → ⊥) → ShowFurther c z triggers (i + 1) lists
  signal_passed other = record {
    each = λ j low further. elim (eqb_tells j i) [
      | inl same ↦ absurd (other (subst (IsFurther c z triggers) same.1 further))
      | inr before ↦ (let not_last = before.1 in shown.each j (grind (arith, low, not_last)) further)
    ];
    no_more = shown.no_more;
  }

  pub signal_shown : IsFurther c z triggers i → (groups : Groups) → ShowKept c z i groups → (more : List Groups)
      → more ≡ lists ++ groups ∷ [] → ShowFurther c z triggers (i + 1) more
  signal_shown here groups show more pushed = record {
    each = λ j low further. elim (eqb_tells j i) [
      | inl same ↦ (
        groups,
        subst (λ xs. Contains xs groups) (sym pushed) (Contains-push lists groups),
        subst (λ k. ShowKept c z k groups) (sym same.1) show,
      )
      | inr before ↦ (
          let not_last = before.1 in
          let (others, listed, kept) = shown.each j (grind (arith, low, not_last)) further in (
            others,
            subst (λ xs. Contains xs others) (sym pushed) (Contains-append_left lists (groups ∷ []) others listed),
            kept,
          ))
    ];
    no_more = subst (All (ShowSome c z triggers)) (sym pushed)
        (All-push (ShowSome c z triggers) lists groups shown.no_more (i, here, show));
  }

-- ---- what is known
module _ (c : CodedGraph) (z triggers : ℕ) (known : KnownSupport) (untold : AreGroups c z triggers known.untold)
    (further : ShowFurther c z triggers (length c.graph.signals) known.further.items) where
  -- the sets of groups have a place for each state
  sets_of_size : (signals : ℕ) (groups : Groups) → AreGroups c z signals groups → AreGroupsOfSize c.graph.states groups
  sets_of_size signals groups are k default inside =
      let group = are.each k default inside in record { ones = group.ones.size; zeros = group.zeros.size }

  of_size : known.size ≤ code_width → known.triggers ≤ code_width → IsKnownOfSize c.graph.states known
  of_size small few = record {
    small = small;
    few = few;
    untold = sets_of_size triggers known.untold untold;
    further = λ k default inside. (
        let (i, is, show) = further.no_more k default inside in
        sets_of_size show.others (get_or known.further.items k default) show.untold);
  }

  pub all_known : IsCoded c → HasNoConflict c → IsNonInput c.graph.signals z → AreAllTriggers c z triggers
      → known.size ≡ size_of_support c z → known.triggers ≡ size_from (length c.graph.signals) 0 triggers
      → known.size ≤ code_width → known.triggers ≤ code_width → KnowsSupport c z known
  all_known coded distinct driven are size count small few = record {
    coded = coded;
    distinct = distinct;
    driven = driven;
    size = size;
    triggers = triggers;
    are_triggers = are;
    count = count;
    untold = untold;
    further = further;
    of_size = of_size small few;
  }
