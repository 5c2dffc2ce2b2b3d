-- A state is in a conflict just where some state of its code differs from the one that is chosen for the code.
use Rattle.std.proofs.Common.{◌≡◌, ◌≢◌, ℕ, ◌+◌, ◌<◌, ◌==◌, not, ◌↔◌, Bool, true, false}
use Rattle.std.proofs.Common.{List, [], ◌∷◌, ◌++◌, length, get_or}
use Rattle.std.proofs.Common.{set, get_or-set_same, get_or-set_other, IsTrue, eqb-true, eq-eqb}
use Rattle.std.proofs.Common.{Option, Some, unwrap_or, refl, sym, ap, subst, ◌∙◌, arith, inl, inr}
use Rattle.std.proofs.lemmas.Bool.{cases_Bool, cases_eq, cases_order, true≢false}
use Rattle.std.proofs.lemmas.List.{get_or_push, get_or_append_left}
use Rattle.si_base.specs.Codes.{CodedGraph, IsCoded, code}
use Rattle.si_conflicts.specs.declared.keys.Key.{Key}
use Rattle.si_conflicts.specs.Loops.Keys.{AreKeys, key_at}
use Rattle.si_conflicts.proofs.KeyLemmas.{apart_conflict, same_no_conflict}
use Rattle.si_pictures.specs.InConflict.{IsInConflict, AreMarks}
use Rattle.si_pictures.specs.Loops.Representatives.{AreByCode, AreRepresentatives, DiffersFrom, AreMixed}

-- ---- a list that grows
pub one_more : {A : Type 0} (xs : List A) (x d : A) (f : ℕ → A) (k : ℕ) → length xs ≡ k
    → ((s : ℕ) → s < k → get_or xs s d ≡ f s) → x ≡ f k → (s : ℕ) → s < k + 1 → get_or (xs ++ x ∷ []) s d ≡ f s
one_more xs x d f k count each is s below = elim (cases_eq s k) [
  | inl same ↦ ap (λ i. get_or (xs ++ x ∷ []) i d) (same ∙ sym count) ∙ get_or_push xs x d (length xs) refl ∙ is
      ∙ ap f (sym same)
  | inr other ↦ get_or_append_left xs (x ∷ []) d s (omega (arith, count, below, other))
      ∙ each s (omega (arith, below, other))
]

-- ---- a state of each code

pub by_code_more : (c : CodedGraph) (k : ℕ) (old new : ℕ → Option ℕ) → k < c.graph.states → AreByCode c k old
    → new (code c k) ≡ Some k → ((n : ℕ) → n ≢ code c k → new n ≡ old n) → AreByCode c (k + 1) new
by_code_more c k old new within so_far there others = record {
  of_code = λ n r is. elim (cases_eq n (code c k)) [
    | inl same ↦ (
        let r_is : r ≡ k = some_one (sym is ∙ ap new same ∙ there) in
        (subst (λ i. i < c.graph.states) (sym r_is) within, ap (code c) r_is ∙ sym same))
    | inr other ↦ so_far.of_code n r (sym (others n other) ∙ is)
  ];
  each = λ s below. elim (cases_eq (code c s) (code c k)) [
    | inl same ↦ (k, ap new same ∙ there)
    | inr other ↦ (
        let apart : s ≡ k → ⊥ = λ is. other (ap (code c) is) in
        let found = so_far.each s (omega (arith, below, apart)) in
        (found.0, others (code c s) other ∙ found.1))
  ];
}
  where
    some_one : {a b : ℕ} → Some a ≡ Some b → a ≡ b
    some_one {a} {b} same = ap (λ o. unwrap_or o 0) same

-- ---- the states that are chosen
pub chosen_is : (c : CodedGraph) (states : ℕ → Option ℕ) (k : ℕ) (found : Option ℕ) (r : ℕ)
    → AreByCode c c.graph.states states → k < c.graph.states → found ≡ states (code c k) → r ≡ unwrap_or found k
    → r ≡ unwrap_or (states (code c k)) 0
chosen_is c states k found r by_code within is given =
    let there = by_code.each k within in
    given ∙ ap (λ o. unwrap_or o k) (is ∙ there.1) ∙ sym (ap (λ o. unwrap_or o 0) there.1)

pub chosen_all : (c : CodedGraph) (states : ℕ → Option ℕ) (chosen : List ℕ) → AreByCode c c.graph.states states
    → length chosen ≡ c.graph.states
    → ((s : ℕ) → s < c.graph.states → get_or chosen s 0 ≡ unwrap_or (states (code c s)) 0)
    → AreRepresentatives c chosen
chosen_all c states chosen by_code count each = record {
  count = count;
  within = λ s below. (of s below).0;
  of_code = λ s below. (of s below).1;
  same = λ s t below also codes. each s below ∙ ap (λ k. unwrap_or (states k) 0) codes ∙ sym (each t also);
}
  where
    of : (s : ℕ) → s < c.graph.states → (get_or chosen s 0 < c.graph.states) × (code c (get_or chosen s 0) ≡ code c s)
    of s below =
        let found = by_code.each s below in
        let is : get_or chosen s 0 ≡ found.0 = each s below ∙ ap (λ o. unwrap_or o 0) found.1 in
        subst (λ r. (r < c.graph.states) × (code c r ≡ code c s)) (sym is) (by_code.of_code (code c s) found.0 found.1)

-- ---- which of them have a state that differs from them
-- some of the first k states do
abbrev pub MixedTo : List Key → List ℕ → ℕ → ℕ → Type 0
MixedTo keys chosen k r = (s : ℕ) × (s < k) × DiffersFrom keys chosen s r

pub apart_from : (a b : ℕ) (t : Bool) → t ≡ not (a == b) → t ≡ true → a ≢ b
apart_from a b t is on same = true≢false (sym on ∙ is ∙ ap not (eq-eqb a b same))

pub same_from : (a b : ℕ) (t : Bool) → t ≡ not (a == b) → t ≡ false → a ≡ b
same_from a b t is off = elim (cases_Bool (a == b)) [
  | inl same ↦ eqb-true a b same
  | inr other ↦ absurd (true≢false (sym (is ∙ ap not other) ∙ off))
]

module _ (keys : List Key) (chosen : List ℕ) (k r n : ℕ) (old : List Bool) (inside : k < length chosen)
    (at : r ≡ get_or chosen k 0) (below : r < n) (count : length old ≡ n)
    (so_far : (q : ℕ) → q < n → IsTrue (get_or old q false) ↔ MixedTo keys chosen k q) where
  later : (q : ℕ) → MixedTo keys chosen k q → MixedTo keys chosen (k + 1) q
  later q (s, less, differs) = (s, omega (arith, less), differs)

  earlier : (q : ℕ) → (DiffersFrom keys chosen k q → ⊥) → MixedTo keys chosen (k + 1) q → MixedTo keys chosen k q
  earlier q none (s, less, differs) = elim (cases_eq s k) [
    | inl same ↦ absurd (none (subst (λ i. DiffersFrom keys chosen i q) same differs))
    | inr other ↦ (s, omega (arith, less, other), differs)
  ]

  pub mixed_more : (key_at keys k).excited ≢ (key_at keys r).excited → (q : ℕ) → q < n
      → IsTrue (get_or (set old r true) q false) ↔ MixedTo keys chosen (k + 1) q
  mixed_more apart q within = elim (cases_eq q r) [
    | inl same ↦ (
      λ marked. (
        k,
        omega arith,
        subst (DiffersFrom keys chosen k) (sym same)
            (record { within = inside; chosen_is = sym at; differs = apart }),
      ),
      λ is. ap (λ i. get_or (set old r true) i false) same
          ∙ get_or-set_same old r true false (omega (arith, below, count)),
    )
    | inr other ↦ (
        let kept : get_or (set old r true) q false ≡ get_or old q false = get_or-set_other old r q true false other in
        let none : DiffersFrom keys chosen k q → ⊥ = λ differs. other (sym differs.chosen_is ∙ sym at) in (
          λ marked. later q ((so_far q within).0 (sym kept ∙ marked)),
          λ is. kept ∙ (so_far q within).1 (earlier q none is),
        ))
  ]

  pub mixed_pass : (key_at keys k).excited ≡ (key_at keys r).excited → (q : ℕ) → q < n
      → IsTrue (get_or old q false) ↔ MixedTo keys chosen (k + 1) q
  mixed_pass same q within = (
    λ marked. later q ((so_far q within).0 marked),
    λ is. (so_far q within).1 (earlier q (λ differs. differs.differs
        (same ∙ ap (λ i. (key_at keys i).excited) (at ∙ differs.chosen_is))) is),
  )

-- ---- the states in conflicts
module _ (c : CodedGraph) (keys : List Key) (coded : IsCoded c) (are : AreKeys c keys) where
  apart_in_conflict : (s t : ℕ) → s < c.graph.states → t < c.graph.states → code c s ≡ code c t
      → (key_at keys s).excited ≢ (key_at keys t).excited → IsInConflict c s
  apart_in_conflict s t below also codes apart = elim (cases_order s t) [
    | inl same ↦ absurd (apart (ap (λ i. (key_at keys i).excited) same))
    | inr (inl less) ↦ (
      t,
      inl (apart_conflict c coded.values s t (key_at keys s) (key_at keys t) (are.each s below)
          (are.each t also) less also codes apart),
    )
    | inr (inr more) ↦ (
      t,
      inr (apart_conflict c coded.values t s (key_at keys t) (key_at keys s) (are.each t also)
          (are.each s below) more below (sym codes) (λ same. apart (sym same))),
    )
  ]

  -- what a conflict of s with t says of both
  record Apart (s t : ℕ) : Type 0 where
    within : t < c.graph.states
    codes : code c s ≡ code c t
    differ : (key_at keys s).excited ≢ (key_at keys t).excited

  conflict_apart : (s : ℕ) → s < c.graph.states → (is : IsInConflict c s) → Apart s is.0
  conflict_apart s below (t, inl is) = record {
    within = is.within;
    codes = is.same_code;
    differ = λ same. same_no_conflict c coded.values s t (key_at keys s) (key_at keys t) (are.each s below)
        (are.each t is.within) same is;
  }
  conflict_apart s below (t, inr is) =
      let also : t < c.graph.states = (let order = is.order in omega (arith, order, below)) in
      record {
        within = also;
        codes = sym is.same_code;
        differ = λ same. same_no_conflict c coded.values t s (key_at keys t) (key_at keys s) (are.each t also)
            (are.each s below) (sym same) is;
      }

  module _ (chosen : List ℕ) (reps : AreRepresentatives c chosen) where
    abbrev chosen_at : ℕ → ℕ
    chosen_at s = get_or chosen s 0

    to_conflict : (s t : ℕ) → s < c.graph.states → DiffersFrom keys chosen t (chosen_at s) → IsInConflict c s
    to_conflict s t below differs =
        let r = chosen_at s in
        let also : t < c.graph.states = (let l = differs.within in let n = reps.count in omega (arith, l, n)) in
        let of_s : code c s ≡ code c r = sym (reps.of_code s below) in
        let of_t : code c r ≡ code c t = ap (code c) (sym differs.chosen_is) ∙ reps.of_code t also in
        elim (cases_eq (key_at keys s).excited (key_at keys r).excited) [
          | inl same ↦ apart_in_conflict s t below also (of_s ∙ of_t) (λ e. differs.differs (sym e ∙ same))
          | inr other ↦ apart_in_conflict s r below (reps.within s below) of_s other
        ]

    from_conflict : (s : ℕ) → s < c.graph.states → IsInConflict c s → (t : ℕ) × DiffersFrom keys chosen t (chosen_at s)
    from_conflict s below is =
        let t = is.0 in
        let apart = conflict_apart s below is in
        let size = reps.count in
        let within : s < length chosen = omega (arith, size, below) in
        let also : t < length chosen = (let l = apart.within in omega (arith, size, l)) in
        elim (cases_eq (key_at keys s).excited (key_at keys (chosen_at s)).excited) [
          | inl same ↦ (
            t,
            record {
              within = also;
              chosen_is = sym (reps.same s t below apart.within apart.codes);
              differs = λ e. apart.differ (same ∙ sym e);
            },
          )
          | inr other ↦ (s, record { within = within; chosen_is = refl; differs = other })
        ]

    pub marks_all : (mixed marks : List Bool) → AreMixed keys chosen mixed → length marks ≡ c.graph.states
        → ((s : ℕ) → s < c.graph.states → get_or marks s false ≡ get_or mixed (chosen_at s) false) → AreMarks c marks
    marks_all mixed marks mix count each = record {
      count = count;
      each = λ s below. (
          let size = reps.count in
          let inside = reps.within s below in
          let mix_at = mix.each (chosen_at s) (omega (arith, size, inside)) in (
            λ marked. (
                let found = mix_at.0 (subst IsTrue (each s below) marked) in to_conflict s found.0 below found.1),
            λ is. subst IsTrue (sym (each s below)) (mix_at.1 (from_conflict s below is)),
          ));
    }
