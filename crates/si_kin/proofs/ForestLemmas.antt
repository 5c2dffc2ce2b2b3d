-- Trees of states: what becomes of them where a state gets another parent.
use Rattle.std.proofs.Common.{◌≡◌, ◌≢◌, ℕ, ◌+◌, ◌<◌, ◌≤◌, ◌∙◌, List, length, get_or, set, refl, sym, ap}
use Rattle.std.proofs.Common.{subst, arith, inl, inr, get_or-set_same, get_or-set_other, length-set}
use Rattle.std.proofs.Common.{◌==◌, true, not, eq-eqb}
use Rattle.std.proofs.lemmas.Bool.{cases_eq, true≢false}
use Rattle.std.proofs.lemmas.List.{get_or_default}
use Rattle.si_base.specs.Codes.{CodedGraph}
use Rattle.si_kin.specs.Kin.{AreKin}
use Rattle.si_kin.specs.Loops.Forest.{AreJoined, AreOfKin, AreOrdered, AreSettledTo, IsLabelling}
use Rattle.si_kin.specs.Loops.Forest.{IsOnWay, IsSettledTo, Joins, KeepsLabels, parent}
use Rattle.si_kin.proofs.KinRows.{kin_back, kin_on}

-- ---- s gets the parent v
module _ (ps : List ℕ) (s v : ℕ) (within : s < length ps) where
  abbrev new : List ℕ
  new = set ps s v

  here : parent new s ≡ v
  here = get_or-set_same ps s v 0 within

  there : (t : ℕ) → t ≢ s → parent new t ≡ parent ps t
  there t other = get_or-set_other ps s t v 0 other

  still_within : (t : ℕ) → t < length new → t < length ps
  still_within t inside = omega (arith, inside, length-set ps s v)

  within_new : (t : ℕ) → t < length ps → t < length new
  within_new t inside = omega (arith, inside, length-set ps s v)

  pub order_set : AreOrdered ps → v ≤ s → AreOrdered new
  order_set order low t inside = elim (cases_eq t s) [
    | inl same ↦ (let at : parent new t ≡ v = ap (λ (x : ℕ). parent new x) same ∙ here in omega (arith, at, low, same))
    | inr other ↦ (let old = order t (still_within t inside) in omega (arith, there t other, old))
  ]

  pub kin_set : (c : CodedGraph) → AreOfKin c ps → AreKin c s v → AreOfKin c new
  kin_set c kin one t inside = elim (cases_eq t s) [
    | inl same ↦ subst (λ (x : ℕ). AreKin c x (parent new x)) (sym same)
        (subst (λ (x : ℕ). AreKin c s x) (sym here) one)
    | inr other ↦ subst (λ (x : ℕ). AreKin c t x) (sym (there t other)) (kin t (still_within t inside))
  ]

  -- a labelling of the new trees is one of the old, if it keeps the old parent of s
  labels_set : (label : ℕ → ℕ) → IsLabelling new label → label (parent ps s) ≡ label s → IsLabelling ps label
  labels_set label is own t inside = elim (cases_eq t s) [
    | inl same ↦ subst (λ (x : ℕ). label (parent ps x) ≡ label x) (sym same) own
    | inr other ↦ ap label (sym (there t other)) ∙ is t (within_new t inside)
  ]

  pub joined_set : AreJoined new s v
  joined_set label is = sym (is s (within_new s within)) ∙ ap label here

  -- where s led to itself
  pub root_labels : parent ps s ≡ s → (label : ℕ → ℕ) → IsLabelling new label → IsLabelling ps label
  root_labels root label is = labels_set label is (ap label root)

  -- where s doesn't
  pub roots_set : parent ps s ≢ s → (t : ℕ) → parent ps t ≡ t → parent new t ≡ t
  roots_set apart t root =
      there t (λ same. apart (ap (λ (x : ℕ). parent ps x) (sym same) ∙ root ∙ same)) ∙ root

-- ---- s gets the parent of its parent
module _ (ps : List ℕ) (s : ℕ) (within : s < length ps) (order : AreOrdered ps) where
  abbrev up : ℕ
  up = parent ps s

  abbrev above : ℕ
  above = parent ps up

  up_within : up < length ps
  up_within = (let low = order s within in omega (arith, low, within))

  pub above_low : above ≤ up
  above_low = order up up_within

  pub up_order : AreOrdered (set ps s above)
  up_order = (let low = order s within in let lower = above_low in
      order_set ps s above within order (omega (arith, low, lower)))

  pub up_kin : (c : CodedGraph) → AreOfKin c ps → AreKin c s above
  up_kin c kin = kin_on c s up above (kin s within) (kin up up_within)

  up_kept : (label : ℕ → ℕ) → IsLabelling (set ps s above) label → label up ≡ label s
  up_kept label is = elim (cases_eq up s) [
    | inl same ↦ ap label same
    | inr other ↦ (
        let own : label above ≡ label up =
        ap label (sym (there ps s above within up other)) ∙ is up (within_new ps s above within up up_within) in
        sym own ∙ sym (joined_set ps s above within label is))
  ]

  pub up_labels : (label : ℕ → ℕ) → IsLabelling (set ps s above) label → IsLabelling ps label
  up_labels label is = labels_set ps s above within label is (up_kept label is)

  abbrev raised : List ℕ
  raised = set ps s above

  raised_at : parent raised s ≡ above
  raised_at = here ps s above within

  settled_last : AreSettledTo ps s → parent raised (parent raised s) ≡ parent raised s
  settled_last settled = elim (cases_eq up s) [
    | inl same ↦ (
        let loops : above ≡ s = ap (λ (x : ℕ). parent ps x) same ∙ same in
        ap (λ (x : ℕ). parent raised x) (raised_at ∙ loops))
    | inr other ↦ (
        let low = order s within in
        let lower = above_low in
        let before : up < s = omega (arith, low, other) in
        let apart : above ≢ s = λ same. omega (arith, lower, before, same) in
        ap (λ (x : ℕ). parent raised x) raised_at ∙ there ps s above within above apart ∙ settled up before
        ∙ sym raised_at)
  ]

  -- where the states before s are settled, s is then, too
  pub settled_more : AreSettledTo ps s → AreSettledTo raised (s + 1)
  settled_more settled t below = elim (cases_eq t s) [
    | inl same ↦ subst (λ (x : ℕ). parent raised (parent raised x) ≡ parent raised x) (sym same) (settled_last settled)
    | inr other ↦ (
        let before : t < s = omega (arith, below, other) in
        let low = order t (omega (arith, before, within)) in
        let apart : parent ps t ≢ s = λ same. omega (arith, low, before, same) in
        ap (λ (x : ℕ). parent raised x) (there ps s above within t other)
        ∙ there ps s above within (parent ps t) apart
        ∙ settled t before ∙ sym (there ps s above within t other))
  ]

-- ---- on the way from s to the root of its tree
pub way_goes_on : (old : List ℕ) (s : ℕ) (ps : List ℕ) (at : ℕ) → IsOnWay old s ps at → parent ps at ≢ at
    → IsOnWay old s (set ps at (parent ps (parent ps at))) (parent ps (parent ps at))
way_goes_on old s ps at way apart =
    let above = parent ps (parent ps at) in
    let low = way.order at way.within in
    let lower = above_low ps at way.within way.order in
    record {
      within = omega (arith, way.within, low, lower, length-set ps at above);
      size = length-set ps at above ∙ way.size;
      order = up_order ps at way.within way.order;
      roots = λ t root. roots_set ps at above way.within apart t (way.roots t root);
      labels = λ label is. way.labels label (up_labels ps at way.within way.order label is);
      joined = λ label is. way.joined label (up_labels ps at way.within way.order label is)
          ∙ joined_set ps at above way.within label is;
      kin = λ c of_kin. (
          let so_far = way.kin c of_kin in
          let last = up_kin ps at way.within way.order c so_far.0 in
          (kin_set ps at above way.within c so_far.0 last, kin_on c s at above so_far.1 last));
    }

-- ---- two trees become one
-- the ways from s and from t have ended at roots
module _ (old : List ℕ) (s t : ℕ) (middle : List ℕ) (one : ℕ) (ps : List ℕ) (other : ℕ)
    (way : IsOnWay old s middle one) (later : IsOnWay middle t ps other) where
  labels_so_far : KeepsLabels old ps
  labels_so_far label is = way.labels label (later.labels label is)

  ends_joined : (label : ℕ → ℕ) → IsLabelling ps label → (label s ≡ label one) × (label t ≡ label other)
  ends_joined label is = (way.joined label (later.labels label is), later.joined label is)

  size_so_far : length ps ≡ length old
  size_so_far = later.size ∙ way.size

  kin_so_far : (c : CodedGraph) → AreKin c s t → AreOfKin c old → AreOfKin c ps × AreKin c one other
  kin_so_far c kin of_kin =
      let first = way.kin c of_kin in
      let second = later.kin c first.0 in
      (second.0, kin_on c one s other (kin_back c s one first.1) (kin_on c s t other kin second.1))

  pub under_one : parent ps other ≡ other → one ≤ other → Joins old s t (set ps other one)
  under_one root low = record {
    size = length-set ps other one ∙ size_so_far;
    order = order_set ps other one later.within later.order low;
    labels = λ label is. labels_so_far label (root_labels ps other one later.within root label is);
    joined = λ label is. (
        let ends = ends_joined label (root_labels ps other one later.within root label is) in
        ends.0 ∙ sym (joined_set ps other one later.within label is) ∙ sym ends.1);
    kin = λ c kin of_kin. (
        let so_far = kin_so_far c kin of_kin in
        kin_set ps other one later.within c so_far.0 (kin_back c one other so_far.1));
  }

  one_within : one < length ps
  one_within = omega (arith, way.within, later.size)

  pub under_other : parent middle one ≡ one → other ≤ one → Joins old s t (set ps one other)
  under_other root low =
      let still : parent ps one ≡ one = later.roots one root in
      record {
        size = length-set ps one other ∙ size_so_far;
        order = order_set ps one other one_within later.order low;
        labels = λ label is. labels_so_far label (root_labels ps one other one_within still label is);
        joined = λ label is. (
            let ends = ends_joined label (root_labels ps one other one_within still label is) in
            ends.0 ∙ joined_set ps one other one_within label is ∙ sym ends.1);
        kin = λ c kin of_kin. (
            let so_far = kin_so_far c kin of_kin in kin_set ps one other one_within c so_far.0 so_far.1);
      }

-- ---- the first n states are settled
pub settling_begins : (old : List ℕ) → AreOrdered old → IsSettledTo old 0 old
settling_begins old order = record {
  size = refl;
  order = order;
  settled = λ s below. absurd (omega (arith, below));
  labels = λ label is. is;
  kin = λ c kin. kin;
}

pub settling_goes_on : (old : List ℕ) (n : ℕ) (ps : List ℕ) → n < length ps → IsSettledTo old n ps
    → IsSettledTo old (n + 1) (set ps n (parent ps (parent ps n)))
settling_goes_on old n ps within so_far =
    let above = parent ps (parent ps n) in
    record {
      size = length-set ps n above ∙ so_far.size;
      order = up_order ps n within so_far.order;
      settled = settled_more ps n within so_far.order so_far.settled;
      labels = λ label is. so_far.labels label (up_labels ps n within so_far.order label is);
      kin = λ c of_kin. (
          let kin = so_far.kin c of_kin in
          kin_set ps n above within c kin (up_kin ps n within so_far.order c kin));
    }

-- ---- by the calls of the code
read : (ps : List ℕ) (i s x : ℕ) → i ≡ s → s < length ps → x ≡ get_or ps i x → x ≡ parent ps s
read ps i s x same within is =
    is ∙ ap (λ (k : ℕ). get_or ps k x) same ∙ get_or_default ps s x 0 within

pub way_on_by : (old : List ℕ) (s : ℕ) (ps : List ℕ) (at i tested up j above : ℕ) → IsOnWay old s ps at → i ≡ at
    → not (get_or ps i tested == at) ≡ true → up ≡ get_or ps i up → j ≡ up → above ≡ get_or ps j above
    → IsOnWay old s (set ps i above) above
way_on_by old s ps at i tested up j above way same_at test is_up same_up is_above =
    let up_is : up ≡ parent ps at = read ps i at up same_at way.within is_up in
    let tested_is : get_or ps i tested ≡ parent ps at =
    ap (λ (k : ℕ). get_or ps k tested) same_at ∙ get_or_default ps at tested 0 way.within in
    let apart : parent ps at ≢ at =
    λ same. true≢false (sym test ∙ ap not (eq-eqb (get_or ps i tested) at (tested_is ∙ same))) in
    let low = way.order at way.within in
    let above_is : above ≡ parent ps (parent ps at) =
    read ps j (parent ps at) above (same_up ∙ up_is) (omega (arith, low, way.within)) is_above in
    rw (same_at, above_is) (way_goes_on old s ps at way apart)

pub settled_by : (old : List ℕ) (n : ℕ) (ps : List ℕ) (up j above : ℕ) → n < length ps → IsSettledTo old n ps
    → up ≡ get_or ps n up → j ≡ up → above ≡ get_or ps j above → IsSettledTo old (n + 1) (set ps n above)
settled_by old n ps up j above within so_far is_up same_up is_above =
    let up_is : up ≡ parent ps n = read ps n n up refl within is_up in
    let low = so_far.order n within in
    let above_is : above ≡ parent ps (parent ps n) =
    read ps j (parent ps n) above (same_up ∙ up_is) (omega (arith, low, within)) is_above in
    rw above_is (settling_goes_on old n ps within so_far)
