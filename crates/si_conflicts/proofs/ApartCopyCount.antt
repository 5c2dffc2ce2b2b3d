-- As many pairs of copies clash as the members of chains tell.
use Rattle.std.proofs.Common.{◌≡◌, ◌≢◌, ℕ, suc, ◌+◌, ◌<◌, ◌==◌, ◌&&◌, Bool, true, false, not, cond, List, []}
use Rattle.std.proofs.Common.{◌∷◌, length, map, filter, get_or, refl, sym, ap, ap₂, subst, ◌∙◌, arith, inl, inr}
use Rattle.std.proofs.Common.{eqb-true, ne_eqb}
use Rattle.std.proofs.lemmas.Bool.{cases_Bool, cases_eq, cases_order, true≢false}
use Rattle.std.proofs.lemmas.List.Sorted.{sum_by-IsPermutation}
use Rattle.std.proofs.lemmas.List.Sums.{sum_by-cons}
use Rattle.std.specs.List.{sum_by, range_with_len}
use Rattle.si_base.specs.Bits.{bit}
use Rattle.si_base.specs.Codes.{CodedGraph, IsCoded, code}
use Rattle.si_base.proofs.OrderAscending.{In}
use Rattle.si_base.proofs.Booleans.{one_if}
use Rattle.si_base.proofs.ListLemmas.{range_bounds}
use Rattle.si_insert.specs.declared.partition.Class.{Class}
use Rattle.si_insert.specs.declared.partition.Class.TheVariants.{Low, Rising, High, Falling}
use Rattle.si_insert.specs.Partition.{class_of}
use Rattle.si_insert.specs.Insertion.{Copy, has_copy, copy_code}
use Rattle.si_insert.specs.GraphOfCopies.{copies_from, copies_of}
use Rattle.si_insert.proofs.InsertionCopies.{copy}
use Rattle.si_conflicts.specs.declared.keys.Key.{Key}
use Rattle.si_conflicts.specs.declared.members.Member.{Member}
use Rattle.si_conflicts.specs.declared.tally.Role.{Role}
use Rattle.si_conflicts.specs.declared.tally.Role.TheVariants.{Absent}
use Rattle.si_conflicts.specs.Loops.Keys.{IsKey, clashes, clash_count}
use Rattle.si_conflicts.specs.Loops.Chains.{AreRings, AreMembers, IsNextInRing, has_equal, with_equals}
use Rattle.si_conflicts.specs.Loops.Apart.{AreStaying, role_at, is_switching, are_apart, role_and_key, stable_count}
use Rattle.si_conflicts.specs.Loops.Apart.{pair_sum}
use Rattle.si_conflicts.specs.Loops.Apart.{switching_keys, switching_count}
use Rattle.si_conflicts.proofs.CountLemmas.{clash_back}
use Rattle.si_conflicts.proofs.CopyKeys.{copy_key, there_or_absent}
use Rattle.si_conflicts.proofs.KeyNumbers.{driven_within, one_key}
use Rattle.si_conflicts.proofs.ApartConflicts.{staying_key, meets, clashes_itself, meets_itself, meets_back}
use Rattle.si_conflicts.proofs.ApartConflicts.{meets_other}
use Rattle.si_conflicts.proofs.ApartConflicts.{meets_absent, meets_parts, copy_clash, copies_equal, copies_apart}
use Rattle.si_conflicts.proofs.ApartPairSums.{all_in, same_sum, sum_none, sum_two, sum_map, sum_kept, pair_same}
use Rattle.si_conflicts.proofs.ApartPairSums.{pair_two}
use Rattle.si_conflicts.proofs.ApartPairSums.{pair_map, pair_filter, twice, clash_pairs}

-- ---- a sum over copies, state by state
module _ (classes : List Class) (f : Copy → ℕ) where
  abbrev at_value : Bool → ℕ → ℕ
  at_value b s = cond (has_copy (class_of classes s) b) (f (copy s b)) 0

  abbrev at_both : ℕ → ℕ
  at_both s = at_value false s + at_value true s

  at_class : (s : ℕ) (d : Class) → class_of classes s ≡ d
      → at_both s ≡ cond (has_copy d false) (f (copy s false)) 0 + cond (has_copy d true) (f (copy s true)) 0
  at_class s d is =
      ap (λ e. cond (has_copy e false) (f (copy s false)) 0 + cond (has_copy e true) (f (copy s true)) 0) is

  abbrev Follow : ℕ → List Class → Type 0
  Follow i rest = (j : ℕ) → j < length rest → class_of classes (i + j) ≡ get_or rest j Low

  first : (d : Class) (rest : List Class) (i : ℕ) → Follow i (d ∷ rest) → class_of classes i ≡ d
  first d rest i are =
      let same : i + 0 ≡ i = omega arith in
      subst (λ k. class_of classes k ≡ d) same (are 0 (omega arith))

  later : (d : Class) (rest : List Class) (i : ℕ) → Follow i (d ∷ rest) → Follow (i + 1) rest
  later d rest i are j below =
      let same : i + suc j ≡ i + 1 + j = omega arith in
      subst (λ k. class_of classes k ≡ get_or rest j Low) same (are (suc j) (omega arith))

  -- a state with a copy at that value alone, and one with both
  one_copy : (b : Bool) (i : ℕ) (rest : List Class) → at_both i ≡ f (copy i b)
      → sum_by f (copies_from (i + 1) rest) ≡ sum_by at_both (range_with_len (i + 1) (length rest))
      → sum_by f (copy i b ∷ copies_from (i + 1) rest) ≡ sum_by at_both (i ∷ range_with_len (i + 1) (length rest))
  one_copy b i rest here tail = omega (
    arith,
    here,
    tail,
    sum_by-cons at_both i (range_with_len (i + 1) (length rest)),
    sum_by-cons f (copy i b) (copies_from (i + 1) rest),
  )

  two_copies : (i : ℕ) (rest : List Class) → at_both i ≡ f (copy i false) + f (copy i true)
      → sum_by f (copies_from (i + 1) rest) ≡ sum_by at_both (range_with_len (i + 1) (length rest))
      → sum_by f (copy i false ∷ copy i true ∷ copies_from (i + 1) rest)
      ≡ sum_by at_both (i ∷ range_with_len (i + 1) (length rest))
  two_copies i rest here tail = omega (
    arith,
    here,
    tail,
    sum_by-cons at_both i (range_with_len (i + 1) (length rest)),
    sum_by-cons f (copy i true) (copies_from (i + 1) rest),
    sum_by-cons f (copy i false) (copy i true ∷ copies_from (i + 1) rest),
  )

  pub copies_sum : (i : ℕ) (rest : List Class) → Follow i rest
      → sum_by f (copies_from i rest) ≡ sum_by at_both (range_with_len i (length rest))
  copies_sum i [] are = refl
  copies_sum i (Low ∷ rest) are =
      let here = at_class i Low (first Low rest i are) in
      one_copy false i rest (omega (arith, here)) (copies_sum (i + 1) rest (later Low rest i are))
  copies_sum i (Rising ∷ rest) are =
      two_copies i rest (at_class i Rising (first Rising rest i are))
      (copies_sum (i + 1) rest (later Rising rest i are))
  copies_sum i (High ∷ rest) are =
      let here = at_class i High (first High rest i are) in
      one_copy true i rest (omega (arith, here)) (copies_sum (i + 1) rest (later High rest i are))
  copies_sum i (Falling ∷ rest) are =
      two_copies i rest (at_class i Falling (first Falling rest i are))
      (copies_sum (i + 1) rest (later Falling rest i are))

-- ---- rings
-- a state that its ring leads to itself is alone with its code
pub alone : (c : CodedGraph) (s t : ℕ) → IsNextInRing c s s → t < c.graph.states → code c t ≡ code c s → t ≡ s
alone c s t (inl later) within same = absurd (let l = later.from in omega arith)
alone c s t (inr (none, first)) within same = elim (cases_order t s) [
  | inl equal ↦ equal
  | inr (inl before) ↦ absurd (first.none_before t (omega arith) before same)
  | inr (inr after) ↦ absurd (none t (omega arith) within same)
]

-- ---- the count
module _ (c : CodedGraph) (is : IsCoded c) (classes : List Class) (count : length classes ≡ c.graph.states)
    (own : ℕ → Key) (own_is : (s : ℕ) → IsKey c s (own s))
    (staying : ℕ → ℕ) (stay : (s : ℕ) → AreStaying c.graph classes s (staying s)) where
  abbrev last : ℕ
  last = length c.graph.signals

  abbrev states : List ℕ
  states = range_with_len 0 c.graph.states

  abbrev role : Bool → ℕ → Role
  role b s = role_at b (class_of classes s)

  abbrev meet : Bool → ℕ → ℕ → Bool
  meet b s t = meets (role b s) (own s) (staying s) (role b t) (own t) (staying t)

  abbrev both : ℕ → ℕ → ℕ
  both s t = cond (meet false s t) 1 0 + cond (meet true s t) 1 0

  abbrev key : Copy → Key
  key = copy_key c classes own staying

  abbrev pair : Copy → Copy → ℕ
  pair x y = cond (clashes (key x) (key y)) 1 0

  within : (s : ℕ) → In s states → s < c.graph.states
  within s there = let r = range_bounds 0 c.graph.states s there in omega (arith, r.1)

  own_off : (s : ℕ) → bit (own s).excited last ≡ false
  own_off s = elim (cases_Bool (bit (own s).excited last)) [
    | inl on ↦ absurd (
        let below = driven_within c.graph last (((own_is s).excited_are last).0 on).non_input in omega arith)
    | inr off ↦ off
  ]

  staying_off : (s : ℕ) → bit (staying s) last ≡ false
  staying_off s = elim (cases_Bool (bit (staying s) last)) [
    | inl on ↦ absurd (let below = driven_within c.graph last ((stay s last).0 on).non_input in omega arith)
    | inr off ↦ off
  ]

  same_codes : (s t : ℕ) → (code c s == code c t) ≡ ((own s).code == (own t).code)
  same_codes s t = ap₂ (λ a b. a == b) (sym (own_is s).code_is) (sym (own_is t).code_is)

  module _ (s t : ℕ) (s_in : s < c.graph.states) (t_in : t < c.graph.states) where
    copies_meet : (b : Bool) → has_copy (class_of classes s) b ≡ true → has_copy (class_of classes t) b ≡ true
        → clashes (key (copy s b)) (key (copy t b)) ≡ meet b s t
    copies_meet b s_there t_there = copy_clash (role b s) (role b t) (own s) (own t) (staying s) (staying t) last
        (copy_code c (copy s b) == copy_code c (copy t b)) (copies_equal c is s t s_in t_in b ∙ same_codes s t)
        (own_off s) (own_off t) (staying_off s) (staying_off t)
        (there_or_absent b (class_of classes s) s_there) (there_or_absent b (class_of classes t) t_there)

    other_value : (a b : Bool) → a ≢ b → pair (copy s a) (copy t b) ≡ 0
    other_value a b apart = ap (λ w. cond (w && not ((key (copy s a)).excited == (key (copy t b)).excited)) 1 0)
        (copies_apart c is s t s_in t_in a b apart)

    absent_or_copy : (b : Bool) (u : ℕ) → has_copy (class_of classes u) b ≡ false → role b u ≡ Absent
    absent_or_copy b u none = at b (class_of classes u) none
      where
        at : (b : Bool) (d : Class) → has_copy d b ≡ false → role_at b d ≡ Absent
        at false Low none = absurd (true≢false none)
        at false Rising none = absurd (true≢false none)
        at false High none = refl
        at false Falling none = absurd (true≢false none)
        at true Low none = refl
        at true Rising none = absurd (true≢false none)
        at true High none = absurd (true≢false none)
        at true Falling none = absurd (true≢false none)

    one_of : (b : Bool) → has_copy (class_of classes s) b ≡ true
        → at_value classes (pair (copy s b)) b t ≡ cond (meet b s t) 1 0
    one_of b there = elim (cases_Bool (has_copy (class_of classes t) b)) [
      | inl also ↦
          ap (λ w. cond w (pair (copy s b) (copy t b)) 0) also
          ∙ ap (λ w. cond w 1 0) (copies_meet b there also)
      | inr none ↦
          ap (λ w. cond w (pair (copy s b) (copy t b)) 0) none
          ∙ sym (ap (λ w. cond w 1 0) (meets_absent (role b s) (role b t) (own s) (own t) (staying s) (staying t)
          (absent_or_copy b t none)))
    ]

    none_of : (a b : Bool) → a ≢ b → at_value classes (pair (copy s a)) b t ≡ 0
    none_of a b apart = elim (cases_Bool (has_copy (class_of classes t) b)) [
      | inl also ↦ ap (λ w. cond w (pair (copy s a) (copy t b)) 0) also ∙ other_value a b apart
      | inr none ↦ ap (λ w. cond w (pair (copy s a) (copy t b)) 0) none
    ]

    row_term : (b : Bool) → has_copy (class_of classes s) b ≡ true
        → at_both classes (pair (copy s b)) t ≡ cond (meet b s t) 1 0
    row_term true there =
        let one = one_of true there in
        let other = none_of true false true≢false in
        omega arith
    row_term false there =
        let one = one_of false there in
        let other = none_of false true (λ same. true≢false (sym same)) in
        omega arith

  -- ---- the pairs of copies, state by state
  abbrev row_of : Bool → ℕ → ℕ
  row_of b s = sum_by (λ t. cond (meet b s t) 1 0) states

  copies_from_states : (f : Copy → ℕ) → sum_by f (copies_of classes) ≡ sum_by (at_both classes f) states
  copies_from_states f =
      copies_sum classes f 0 classes (λ j below. (
      let same : 0 + j ≡ j = omega arith in ap (λ k. class_of classes k) same))
      ∙ ap (λ n. sum_by (at_both classes f) (range_with_len 0 n)) count

  row_at : (s : ℕ) → s < c.graph.states → (b : Bool)
      → cond (has_copy (class_of classes s) b) (sum_by (pair (copy s b)) (copies_of classes)) 0 ≡ row_of b s
  row_at s s_in b = elim (cases_Bool (has_copy (class_of classes s) b)) [
    | inl there ↦
        ap (λ w. cond w (sum_by (pair (copy s b)) (copies_of classes)) 0) there
        ∙ copies_from_states (pair (copy s b))
        ∙ same_sum (at_both classes (pair (copy s b))) (λ t. cond (meet b s t) 1 0) states
        (λ t t_in. row_term s t s_in (within t t_in) b there)
    | inr none ↦
        ap (λ w. cond w (sum_by (pair (copy s b)) (copies_of classes)) 0) none
        ∙ sym (sum_none (λ t. cond (meet b s t) 1 0) states (λ t t_in. (
        let absent = absent_or_copy s t s_in (within t t_in) b s none in
        ap (λ w. cond w 1 0) (meets_back (role b s) (role b t) (own s) (own t) (staying s) (staying t)
        ∙ meets_absent (role b t) (role b s) (own t) (own s) (staying t) (staying s) absent))))
  ]

  all_rows : (s : ℕ) → s < c.graph.states
      → at_both classes (λ x. sum_by (pair x) (copies_of classes)) s ≡ sum_by (both s) states
  all_rows s s_in =
      let low = row_at s s_in false in
      let high = row_at s s_in true in
      let two = sum_two (λ t. cond (meet false s t) 1 0) (λ t. cond (meet true s t) 1 0) states in
      omega (arith, low, high, two)

  pub over_copies : sum_by (λ x. sum_by (pair x) (copies_of classes)) (copies_of classes)
      ≡ sum_by (λ s. sum_by (both s) states) states
  over_copies =
      copies_from_states (λ x. sum_by (pair x) (copies_of classes))
      ∙ same_sum (at_both classes (λ x. sum_by (pair x) (copies_of classes))) (λ s. sum_by (both s) states) states
      (λ s s_in. all_rows s (within s s_in))

  -- ---- only states that share their code count
  module _ (next : List ℕ) (rings : AreRings c next) (members : List Member) (are : AreMembers c next members) where
    both_other : (s t : ℕ) → (code c s ≡ code c t → ⊥) → both s t ≡ 0
    both_other s t other =
        let apart : ((own s).code == (own t).code) ≡ false =
        sym (same_codes s t) ∙ ne_eqb (code c s) (code c t) other in
        let at = λ (b : Bool). ap one_if
        (meets_other (role b s) (role b t) (own s) (own t) (staying s) (staying t) apart) in
        ap₂ (λ m n. m + n) (at false) (at true)

    both_itself : (s : ℕ) → both s s ≡ 0
    both_itself s =
        let at = λ (b : Bool). ap one_if (meets_itself (role b s) (own s) (staying s)) in
        ap₂ (λ m n. m + n) (at false) (at true)

    both_back : (s t : ℕ) → both s t ≡ both t s
    both_back s t =
        let at = λ (b : Bool). ap one_if
        (meets_back (role b s) (role b t) (own s) (own t) (staying s) (staying t)) in
        ap₂ (λ m n. m + n) (at false) (at true)

    both_alone : (s t : ℕ) → s < c.graph.states → t < c.graph.states → has_equal next s ≡ false → both s t ≡ 0
    both_alone s t s_in t_in none = elim (cases_eq t s) [
      | inl same ↦ ap (both s) same ∙ both_itself s
      | inr other ↦ both_other s t (λ codes. other (alone c s t here t_in (sym codes)))
    ]
      where
        leads_back : (b : Bool) → not b ≡ false → b ≡ true
        leads_back true is = refl
        leads_back false is = absurd (true≢false is)

        here : IsNextInRing c s s
        here = subst (λ n. IsNextInRing c s n) (eqb-true (get_or next s 0) s (leads_back (get_or next s 0 == s) none))
            (rings.each s s_in)

    abbrev shared : List ℕ
    shared = with_equals next c.graph.states

    to_members : (f : ℕ → ℕ) → ((s : ℕ) → s < c.graph.states → has_equal next s ≡ false → f s ≡ 0)
        → sum_by f states ≡ sum_by (λ m. f m.state) members
    to_members f none =
        sum_kept (has_equal next) f states (λ s s_in. none s (within s s_in))
        ∙ sym (sum_by-IsPermutation f shared (map (λ m. m.state) members) are.states)
        ∙ sum_map (λ (m : Member). m.state) f members

    member_in : (m : Member) → In m members → m.state < c.graph.states
    member_in m there = all_in (λ m. m.state < c.graph.states) members m are.within there

    abbrev weight : Member → Member → ℕ
    weight x y = both x.state y.state

    over_members : sum_by (λ s. sum_by (both s) states) states ≡ sum_by (λ x. sum_by (weight x) members) members
    over_members =
        same_sum (λ s. sum_by (both s) states) (λ s. sum_by (λ m. both s m.state) members) states
        (λ s s_in. to_members (both s)
        (λ t t_in none. both_back s t ∙ both_alone t s t_in (within s s_in) none))
        ∙ to_members (λ s. sum_by (λ m. both s m.state) members)
        (λ s s_in none. sum_none (λ m. both s m.state) members (λ m there.
        both_alone s m.state s_in (member_in m there) none))

    -- ---- the pass, and what it leaves
    member_key : (m : Member) → In m members → m.key ≡ own m.state
    member_key m there = one_key c m.state m.key (own m.state)
        (all_in (λ m. IsKey c m.state m.key) members m are.keys there) (own_is m.state)

    abbrev may_switch : Bool → Member → Bool
    may_switch b m = is_switching (role b m.state)

    abbrev switching_pair : Member → Member → ℕ
    switching_pair x y = cond (clashes (staying_key x.key (staying x.state)) (staying_key y.key (staying y.state))) 1 0

    abbrev left_over : Bool → Member → Member → ℕ
    left_over b x y = cond (may_switch b x && may_switch b y) (switching_pair x y) 0

    parts : (x y : Member) → In x members → In y members
        → weight x y ≡ stable_count classes x y + (left_over false x y + left_over true x y)
    parts x y x_in y_in =
        let low = at false in
        let high = at true in
        omega (arith, low, high)
      where
        at : (b : Bool) → cond (meet b x.state y.state) 1 0
            ≡ cond (are_apart (role_and_key classes b x) (role_and_key classes b y)) 1 0 + left_over b x y
        at b = ap₂ (λ k l. cond (meets (role b x.state) k (staying x.state) (role b y.state) l (staying y.state)) 1 0)
            (sym (member_key x x_in)) (sym (member_key y y_in))
            ∙ meets_parts (role b x.state) (role b y.state) x.key y.key (staying x.state) (staying y.state)

    left_sum : (b : Bool) → pair_sum (left_over b) members ≡ clash_count (switching_keys classes staying b members)
    left_sum b =
        sym (pair_filter (may_switch b) switching_pair members)
        ∙ sym (pair_map (λ (m : Member). staying_key m.key (staying m.state)) (λ x y. cond (clashes x y) 1 0)
        (filter (may_switch b) members))
        ∙ sym (clash_pairs (switching_keys classes staying b members))

    pub copies_clash : clash_count (map key (copies_of classes))
        ≡ pair_sum (stable_count classes) members + switching_count classes staying members
    copies_clash =
        let as_pairs = clash_pairs (map key (copies_of classes)) ∙ pair_map key (λ x y. cond (clashes x y) 1 0)
        (copies_of classes) in
        let copies_twice = twice pair (λ x y. ap (λ w. cond w 1 0) (clash_back (key x) (key y)))
        (λ x. ap (λ w. cond w 1 0) (clashes_itself (key x))) (copies_of classes) in
        let members_twice = twice weight (λ x y. both_back x.state y.state) (λ x. both_itself x.state) members in
        let split = pair_same weight (λ x y. stable_count classes x y + (left_over false x y + left_over true x y))
        members parts in
        let two = pair_two (stable_count classes) (λ x y. left_over false x y + left_over true x y) members in
        let three = pair_two (left_over false) (left_over true) members in
        let low = left_sum false in
        let high = left_sum true in
        let all = over_copies ∙ over_members in
        omega (arith, as_pairs, copies_twice, members_twice, split, two, three, low, high, all)
