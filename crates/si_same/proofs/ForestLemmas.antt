-- Classes as trees: what a root is, and what becomes of classes where a root gets a parent.
use Rattle.std.proofs.Common.{◌≡◌, ◌≢◌, ℕ, zero, suc, ◌+◌, ◌<◌, ◌≤◌, ◌^◌, ◌⊎◌, Bool, true, false}
use Rattle.std.proofs.Common.{sym, refl, ap, subst, ◌∙◌, arith, List, length, get_or, set, inl, inr, Option, Some, None}
use Rattle.std.proofs.Common.{get_or-set_same, get_or-set_other, length-set, eq-eqb, replicate, take, drop, ◌++◌, ◌-◌}
use Rattle.std.proofs.lemmas.Bool.{cases_eq, cases_lt, cases_Bool, ne_eqb}
use Rattle.std.proofs.lemmas.List.{get_or_past, take_at, get_or_default, get_or-replicate, length-replicate}
use Rattle.si_same.specs.Loops.Classes.{GoesInto, moved, count_below}
use Rattle.si_same.specs.Loops.Forest.{parent_at, or_itself, up, climb, has_none, tree_count, class_of, classes_of}
use Rattle.si_same.specs.Loops.Forest.{IsForest}

pub none_or_some : (o : Option ℕ) → (o ≡ None) ⊎ ((p : ℕ) × (o ≡ Some p))
none_or_some None = inl refl
none_or_some (Some p) = inr (p, refl)

none_not_some : (o : Option ℕ) (p : ℕ) → o ≡ None → o ≡ Some p → ⊥
none_not_some None p none some = cc
none_not_some (Some q) p none some = cc

abbrev pub IsRoot : List (Option ℕ) → ℕ → Type 0
IsRoot ps x = parent_at ps x ≡ None

-- ---- counting
pub count_same : (one other : ℕ → Bool) (n : ℕ) → ((x : ℕ) → x < n → one x ≡ other x)
    → count_below one n ≡ count_below other n
count_same one other zero same = refl
count_same one other (suc n) same =
    let rest = count_same one other n (λ x below. same x (omega arith)) in
    let last : one n ≡ other n = same n (omega arith) in
    rw (last, rest) refl

pub count_less : (one other : ℕ → Bool) (n a : ℕ) → a < n → one a ≡ true → other a ≡ false
    → ((x : ℕ) → x ≢ a → one x ≡ other x) → count_below one n ≡ suc (count_below other n)
count_less one other zero a within here there same = absurd (omega arith)
count_less one other (suc n) a within here there same = elim (cases_eq a n) [
  | inl last ↦ (
      let rest = count_same one other n (λ x below. same x (λ equal. omega arith)) in
      let yes : one n ≡ true = ap one (sym last) ∙ here in
      let no : other n ≡ false = ap other (sym last) ∙ there in
      rw (yes, no) (omega (arith, rest)))
  | inr earlier ↦ (
      let rest = count_less one other n a (omega arith) here there same in
      let last : one n ≡ other n = same n (λ equal. earlier (sym equal)) in
      rw last (omega (arith, rest)))
]

-- ---- roots
pub root_stays : (ps : List (Option ℕ)) (k x : ℕ) → IsRoot ps x → climb ps k x ≡ x
root_stays ps zero x root = refl
root_stays ps (suc k) x root =
    let here : up ps x ≡ x = ap (or_itself x) root in ap (climb ps k) here ∙ root_stays ps k x root

up_is : (ps : List (Option ℕ)) (x p : ℕ) → parent_at ps x ≡ Some p → up ps x ≡ p
up_is ps x p is = ap (or_itself x) is

pub one_root : (ps : List (Option ℕ)) (j k x : ℕ) → IsRoot ps (climb ps j x) → IsRoot ps (climb ps k x)
    → climb ps j x ≡ climb ps k x
one_root ps zero k x one other = sym (root_stays ps k x one)
one_root ps (suc j) zero x one other = root_stays ps (suc j) x other
one_root ps (suc j) (suc k) x one other = one_root ps j k (up ps x) one other

module _ (ps : List (Option ℕ)) (ranks : List ℕ) (is : IsForest ps ranks) where
  climbs : (k x : ℕ) → length ps ≤ k + get_or ranks x 0 → IsRoot ps (climb ps k x)
  climbs zero x high = elim (none_or_some (parent_at ps x)) [
    | inl root ↦ root
    | inr some ↦ absurd (omega (arith, is.rises x some.0 some.1, is.low some.0))
  ]
  climbs (suc k) x high = elim (none_or_some (parent_at ps x)) [
    | inl root ↦ subst (λ r. IsRoot ps r) (sym (root_stays ps (suc k) x root)) root
    | inr some ↦ subst (λ r. IsRoot ps (climb ps k r)) (sym (up_is ps x some.0 some.1))
        (climbs k some.0 (omega (arith, is.rises x some.0 some.1)))
  ]

  abbrev class : ℕ → ℕ
  class x = climb ps (length ps) x

  pub class_is_root : (x : ℕ) → IsRoot ps (class x)
  class_is_root x = climbs (length ps) x (omega arith)

  pub class_of_root : (x : ℕ) → IsRoot ps x → class x ≡ x
  class_of_root x root = root_stays ps (length ps) x root

  pub root_of_class : (x : ℕ) → class x ≡ x → IsRoot ps x
  root_of_class x own = subst (λ r. IsRoot ps r) own (class_is_root x)

  pub climbed_is_class : (k x r : ℕ) → climb ps k x ≡ r → IsRoot ps r → class x ≡ r
  climbed_is_class k x r climbed root =
      one_root ps (length ps) k x (class_is_root x) (subst (λ y. IsRoot ps y) (sym climbed) root) ∙ climbed

  pub class_of_parent : (x p : ℕ) → parent_at ps x ≡ Some p → class p ≡ class x
  class_of_parent x p parent =
      sym (climbed_is_class (suc (length ps)) x (class p) (ap (climb ps (length ps)) (up_is ps x p parent))
      (class_is_root p))

  -- ---- a root gets another as its parent
  module _ (low high : ℕ) (low_within : low < length ps) (high_within : high < length ps)
      (low_root : IsRoot ps low) (high_root : IsRoot ps high) (apart : low ≢ high) where
    abbrev joined : List (Option ℕ)
    joined = set ps low (Some high)

    low_new : parent_at joined low ≡ Some high
    low_new = get_or-set_same ps low (Some high) None low_within

    other_new : (x : ℕ) → x ≢ low → parent_at joined x ≡ parent_at ps x
    other_new x other = get_or-set_other ps low x (Some high) None other

    parent_new : (x p : ℕ) → parent_at joined x ≡ Some p → ((x ≡ low) × (p ≡ high)) ⊎ (parent_at ps x ≡ Some p)
    parent_new x p parent = elim (cases_eq x low) [
      | inl same ↦ inl (
        same,
        (let both : Some p ≡ Some high = sym parent ∙ ap (parent_at joined) same ∙ low_new in cc),
      )
      | inr other ↦ inr (sym (other_new x other) ∙ parent)
    ]

    pub fewer_trees : tree_count ps ≡ suc (tree_count joined)
    fewer_trees =
        let size = length-set ps low (Some high) in
        rw size (count_less (λ x. has_none (parent_at ps x)) (λ x. has_none (parent_at joined x)) (length ps) low low_within
        (ap has_none low_root) (ap has_none low_new) (λ x other. ap has_none (sym (other_new x other))))

    -- where ranks stay, but that of the higher root may be one more
    pub record AreRaised (raised : List ℕ) : Type 0 where
      pub size : length raised ≡ length ranks
      pub kept : (x : ℕ) → x ≢ high → get_or raised x 0 ≡ get_or ranks x 0
      pub no_less : get_or ranks high 0 ≤ get_or raised high 0
      pub no_more : get_or raised high 0 ≤ get_or ranks high 0 + 1
      pub higher : get_or ranks low 0 < get_or raised high 0

    pub raised_not : (raised : List ℕ) → raised ≡ ranks → get_or ranks low 0 < get_or ranks high 0 → AreRaised raised
    raised_not raised same less = record {
      size = ap length same;
      kept = λ x other. ap (λ rs. get_or rs x 0) same;
      no_less = omega (arith, ap (λ rs. get_or rs high 0) same);
      no_more = omega (arith, ap (λ rs. get_or rs high 0) same);
      higher = omega (arith, ap (λ rs. get_or rs high 0) same);
    }

    pub raised_more : (raised : List ℕ) → raised ≡ set ranks high (get_or ranks high 0 + 1)
        → get_or ranks low 0 ≡ get_or ranks high 0 → AreRaised raised
    raised_more raised is_set same =
        let here : get_or raised high 0 ≡ get_or ranks high 0 + 1 =
        ap (λ rs. get_or rs high 0) is_set
        ∙ get_or-set_same ranks high (get_or ranks high 0 + 1) 0 (omega (arith, is.size)) in
        record {
          size = ap length is_set ∙ length-set ranks high (get_or ranks high 0 + 1);
          kept = λ x other.
              ap (λ rs. get_or rs x 0) is_set ∙ get_or-set_other ranks high x (get_or ranks high 0 + 1) 0 other;
          no_less = omega (arith, here);
          no_more = omega (arith, here);
          higher = omega (arith, here, same);
        }

    pub rank_below : get_or ranks high 0 + 1 ≤ length ps
    rank_below = omega (arith, is.low high, fewer_trees)

    not_less : (raised : List ℕ) → AreRaised raised → (x : ℕ) → get_or ranks x 0 ≤ get_or raised x 0
    not_less raised r x = elim (cases_eq x high) [
      | inl same ↦ rw same r.no_less
      | inr other ↦ omega (arith, r.kept x other)
    ]

    little_more : (raised : List ℕ) → AreRaised raised → (x : ℕ) → get_or raised x 0 ≤ get_or ranks x 0 + 1
    little_more raised r x = elim (cases_eq x high) [
      | inl same ↦ rw same r.no_more
      | inr other ↦ omega (arith, r.kept x other)
    ]

    pub joined_forest : (raised : List ℕ) → AreRaised raised → IsForest joined raised
    joined_forest raised r =
        let size = length-set ps low (Some high) in
        record {
          size = r.size ∙ is.size ∙ sym size;
          small = omega (arith, size, is.small);
          within = λ x p parent. elim (parent_new x p parent) [
            | inl here ↦ omega (arith, here.1, size)
            | inr old ↦ omega (arith, is.within x p old, size)
          ];
          rises = λ x p parent. elim (parent_new x p parent) [
            | inl here ↦ rw (here.0, here.1) (rise_low raised r)
            | inr old ↦ rise raised r x p old
          ];
          low = λ x. omega (arith, size, is.low x, little_more raised r x, fewer_trees);
        }
      where
        rise_low : (raised : List ℕ) → AreRaised raised → get_or raised low 0 < get_or raised high 0
        rise_low raised r = omega (arith, r.kept low apart, r.higher)

        rise : (raised : List ℕ) → AreRaised raised → (x p : ℕ) → parent_at ps x ≡ Some p
            → get_or raised x 0 < get_or raised p 0
        rise raised r x p old =
            let not_high : x ≢ high =
            λ same. none_not_some (parent_at ps x) p (ap (parent_at ps) same ∙ high_root) old in
            omega (arith, r.kept x not_high, is.rises x p old, not_less raised r p)

    moved_low : (x : ℕ) → x ≡ low → moved low high x ≡ high
    moved_low x same = let test = eq-eqb x low same in rw test refl

    moved_other : (x : ℕ) → x ≢ low → moved low high x ≡ x
    moved_other x other = let test = ne_eqb x low other in rw test refl

    climbs_new : (k x : ℕ) → IsRoot ps (climb ps k x) → (m : ℕ) × (climb joined m x ≡ moved low high (climb ps k x))
    climbs_new zero x root = elim (cases_eq x low) [
      | inl same ↦ (1, up_is joined x high (ap (parent_at joined) same ∙ low_new) ∙ sym (moved_low x same))
      | inr other ↦ (0, sym (moved_other x other))
    ]
    climbs_new (suc k) x root = elim (cases_eq x low) [
      | inl same ↦ (
          let stays : climb ps (suc k) x ≡ x = root_stays ps (suc k) x (ap (parent_at ps) same ∙ low_root) in (
            1,
            up_is joined x high (ap (parent_at joined) same ∙ low_new) ∙ sym (ap (moved low high) stays ∙ moved_low x same),
          ))
      | inr other ↦ (
          let above = climbs_new k (up ps x) root in
          (suc above.0, ap (climb joined above.0) (ap (or_itself x) (other_new x other)) ∙ above.1))
    ]

    moved_root : (r : ℕ) → IsRoot ps r → IsRoot joined (moved low high r)
    moved_root r root = elim (cases_eq r low) [
      | inl same ↦ subst (λ y. IsRoot joined y) (sym (moved_low r same))
          (other_new high (λ equal. apart (sym equal)) ∙ high_root)
      | inr other ↦ subst (λ y. IsRoot joined y) (sym (moved_other r other)) (other_new r other ∙ root)
    ]

pub joined_classes : (ps : List (Option ℕ)) (ranks raised : List ℕ) (low high : ℕ) → IsForest ps ranks
    → low < length ps → high < length ps → IsRoot ps low → IsRoot ps high → low ≢ high
    → IsForest (set ps low (Some high)) raised
    → GoesInto (classes_of ps) low high (classes_of (set ps low (Some high)))
joined_classes ps ranks raised low high is low_within high_within low_root high_root apart forest = record {
  count_stays = length-set ps low (Some high);
  class_is = λ x. (
      let joined = set ps low (Some high) in
      let root : IsRoot ps (climb ps (length ps) x) = class_is_root ps ranks is x in
      let climbed = climbs_new ps ranks is low high low_within high_within low_root high_root apart (length ps) x root in
      let new_root = moved_root ps ranks is low high low_within high_within low_root high_root apart
      (climb ps (length ps) x) root in
      one_root joined (length joined) climbed.0 x (class_is_root joined raised forest x)
      (subst (λ y. IsRoot joined y) (sym climbed.1) new_root)
      ∙ climbed.1);
}

-- ---- as the code reads and writes them
pub root_read : (ps view read : List (Option ℕ)) (ranks : List ℕ) (a : ℕ) → IsForest ps ranks → view ≡ ps → read ≡ ps
    → class_of view a ≡ a → IsRoot read a
root_read ps view read ranks a is seen same own =
    subst (λ xs. IsRoot xs a) (sym same) (root_of_class ps ranks is a (subst (λ xs. class_of xs a ≡ a) seen own))

pub written_back : (new old : List (Option ℕ)) (size : ℕ) → length new ≡ length old → length old ≡ size
    → take size (new ++ drop (length new) old) ≡ new
written_back new old size same whole = take_at new (drop (length new) old) size (same ∙ whole)

pub joined_written : (ps view new written : List (Option ℕ)) (ranks raised : List ℕ) (low high : ℕ) → IsForest ps ranks
    → view ≡ ps → new ≡ set ps low (Some high) → written ≡ new → IsForest new raised → low < length ps
    → high < length ps → IsRoot ps low → IsRoot ps high → low ≢ high
    → GoesInto (classes_of view) low high (classes_of written)
joined_written ps view new written ranks raised low high is seen made same forest low_within high_within low_root
    high_root apart =
    let joined = set ps low (Some high) in
    let into = joined_classes ps ranks raised low high is low_within high_within low_root high_root apart
    (subst (λ xs. IsForest xs raised) made forest) in
    subst (λ xs. GoesInto (classes_of xs) low high (classes_of written)) (sym seen)
    (subst (λ xs. GoesInto (classes_of ps) low high (classes_of xs)) (sym (same ∙ made)) into)

-- ---- each number alone
abbrev nones : ℕ → List (Option ℕ)
nones n = replicate n None

nones_size : (n : ℕ) → length (nones n) ≡ n
nones_size n = length-replicate n None

abbrev zeros : ℕ → List ℕ
zeros n = replicate n 0

zeros_size : (n : ℕ) → length (zeros n) ≡ n
zeros_size n = length-replicate n 0

nones_have_none : (n x : ℕ) → parent_at (replicate n None) x ≡ None
nones_have_none n x = elim (cases_lt x n) [
  | inl within ↦ get_or-replicate n x None None within
  | inr beyond ↦ get_or_past (replicate n None) x None (omega (arith, nones_size n))
]

pub alone_forest : (n : ℕ) → n < 2 ^ 32 → IsForest (replicate n None) (replicate n 0)
alone_forest n small = record {
  size = zeros_size n ∙ sym (nones_size n);
  small = omega (arith, nones_size n);
  within = λ x p parent. absurd (none_not_some (parent_at (replicate n None) x) p (nones_have_none n x) parent);
  rises = λ x p parent. absurd (none_not_some (parent_at (replicate n None) x) p (nones_have_none n x) parent);
  low = λ x. omega (arith, no_rank x, few_trees (λ y. has_none (parent_at (nones n) y)) (length (nones n)));
}
  where
    no_rank : (x : ℕ) → get_or (zeros n) x 0 ≡ 0
    no_rank x = elim (cases_lt x n) [
      | inl within ↦ get_or-replicate n x 0 0 within
      | inr beyond ↦ get_or_past (zeros n) x 0 (omega (arith, zeros_size n))
    ]

    few_trees : (test : ℕ → Bool) (m : ℕ) → count_below test m ≤ m
    few_trees test zero = omega arith
    few_trees test (suc m) = elim (cases_Bool (test m)) [
      | inl one ↦ rw one (omega (arith, few_trees test m))
      | inr none ↦ rw none (omega (arith, few_trees test m))
    ]

pub alone_class : (n x : ℕ) → class_of (replicate n None) x ≡ x
alone_class n x = root_stays (replicate n None) (length (replicate n None)) x (nones_have_none n x)

-- ---- a climb
pub record IsClimbing (ps : List (Option ℕ)) (x at : ℕ) : Type 0 where
  pub inside : at < length ps
  pub class_is : class_of ps at ≡ class_of ps x

-- what the code reads at a place
pub read_parent : (ps : List (Option ℕ)) (at : ℕ) (read o : Option ℕ) → at < length ps → read ≡ get_or ps at read
    → read ≡ o → parent_at ps at ≡ o
read_parent ps at read o within is same = get_or_default ps at None read within ∙ sym is ∙ same

module _ (ps : List (Option ℕ)) (ranks : List ℕ) (is : IsForest ps ranks) where
  pub climbs_on : (x at p : ℕ) → parent_at ps at ≡ Some p → IsClimbing ps x at → IsClimbing ps x p
  climbs_on x at p parent climb = record {
    inside = is.within at p parent;
    class_is = class_of_parent ps ranks is at p parent ∙ climb.class_is;
  }

  pub nearer_root : (at p : ℕ) → parent_at ps at ≡ Some p
      → length ps - get_or ranks p 0 < length ps - get_or ranks at 0
  nearer_root at p parent = omega (arith, is.rises at p parent, is.low p)

  pub climb_ends : (view : List (Option ℕ)) (x at : ℕ) → view ≡ ps → parent_at ps at ≡ None → IsClimbing ps x at
      → at ≡ class_of view x
  climb_ends view x at seen root climb =
      sym (class_of_root ps ranks is at root) ∙ climb.class_is ∙ sym (ap (λ xs. class_of xs x) seen)

  pub own_class : (view : List (Option ℕ)) (at : ℕ) → view ≡ ps → parent_at ps at ≡ None → class_of view at ≡ at
  own_class view at seen root = ap (λ xs. class_of xs at) seen ∙ class_of_root ps ranks is at root

-- what holds of copies that are None holds where no copy is a number
none_alone : (R : Option ℕ → Type 0) → ((m : ℕ) → R (Some m) → ⊥) → (x : Option ℕ) → R x → x ≡ None
none_alone R no_other None is = refl
none_alone R no_other (Some m) is = absurd (no_other m is)

pub copies_of_none : {R : Option ℕ → Type 0} {Q : Type 0} → (((x : Option ℕ) → R x → x ≡ None) → Q)
    → ((m : ℕ) → R (Some m) → ⊥) → Q
copies_of_none {R} holds no_other = holds (none_alone R no_other)
