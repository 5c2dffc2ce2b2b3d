-- The numbered classes are the classes of alike states.
use Rattle.std.proofs.Common.{◌≡◌, ℕ, ◌+◌, ◌<◌, ◌==◌, ◌&&◌, Bool, true, List, get_or, sym, ap, ◌∙◌, arith, inl, inr}
use Rattle.std.proofs.Common.{nat_lt, lt-ltb, ltb-true, eqb-true, eq-eqb}
use Rattle.std.proofs.lemmas.Bool.{and_parts, and_from, cases_lt, cases_Bool, true≢false}
use Rattle.std.proofs.lemmas.List.Elements.{All-contains}
use Rattle.std.proofs.lemmas.Map.Keys.{sorted_from_strictly_increasing}
use Rattle.std.proofs.lemmas.Option.{slice_get_within, get_or_from_slice_get}
use Rattle.si_base.specs.declared.ids.Event.{Event}
use Rattle.si_base.specs.Bits.{flip}
use Rattle.si_base.specs.Graph.{enables}
use Rattle.si_base.specs.Codes.{CodedGraph, IsCoded, code}
use Rattle.si_base.proofs.GraphSteps.{enables-step, step_from_enables}
use Rattle.si_base.proofs.RightGateLemmas.{step_within, code_of_step}
use Rattle.si_fold.specs.declared.numbering.Key.{Key}
use Rattle.si_fold.specs.Alike.{IsBisimulation, AreAlike, IsLeastAlike}
use Rattle.si_fold.specs.Folded.{AreClasses}
use Rattle.si_fold.specs.Loops.Partition.{Shape, class_at}
use Rattle.si_fold.specs.Loops.Refined.{AreRefined}
use Rattle.si_fold.specs.Loops.Numbered.{key_of, IsFirstLike, AreNumbered}

module _ (c : CodedGraph) (is : IsCoded c) (p : Shape) (r : AreRefined c.graph p) where
  -- ---- alike just where the keys are equal
  abbrev same_key : ℕ → ℕ → Bool
  same_key s t = ((class_at p s == class_at p t) && (code c s == code c t))
      && (nat_lt s c.graph.states && nat_lt t c.graph.states)

  record HaveOneKey (s t : ℕ) : Type 0 where
    class : class_at p s ≡ class_at p t
    code_is : code c s ≡ code c t
    one_within : s < c.graph.states
    other_within : t < c.graph.states

  one_key : (s t : ℕ) → same_key s t ≡ true → HaveOneKey s t
  one_key s t same =
      let parts = and_parts _ _ same in
      let keys = and_parts _ _ parts.0 in
      let within = and_parts _ _ parts.1 in
      record {
        class = eqb-true (class_at p s) (class_at p t) keys.0;
        code_is = eqb-true (code c s) (code c t) keys.1;
        one_within = ltb-true s c.graph.states within.0;
        other_within = ltb-true t c.graph.states within.1;
      }

  key_tested : (s t : ℕ) → HaveOneKey s t → same_key s t ≡ true
  key_tested s t h = and_from _ _
      (and_from _ _ (eq-eqb (class_at p s) (class_at p t) h.class) (eq-eqb (code c s) (code c t) h.code_is))
      (and_from _ _ (lt-ltb s c.graph.states h.one_within) (lt-ltb t c.graph.states h.other_within))

  enables_too : (s t : ℕ) (e : Event) → s < c.graph.states → t < c.graph.states → class_at p s ≡ class_at p t
      → enables c.graph s e ≡ true → enables c.graph t e ≡ true
  enables_too s t e one two same enabled =
      let step = step_from_enables c.graph s e enabled in
      let other = r.steps s t e step.0 one two same step.1 in
      enables-step c.graph t e other.0 other.1

  enables_alike : (s t : ℕ) (e : Event) → s < c.graph.states → t < c.graph.states → class_at p s ≡ class_at p t
      → enables c.graph s e ≡ enables c.graph t e
  enables_alike s t e one two same = elim (cases_Bool (enables c.graph s e)) [
    | inl here ↦ here ∙ sym (enables_too s t e one two same here)
    | inr not_here ↦ elim (cases_Bool (enables c.graph t e)) [
      | inl there ↦ absurd (true≢false (sym (enables_too t s e two one (sym same) there) ∙ not_here))
      | inr not_there ↦ not_here ∙ sym not_there
    ]
  ]

  keys_are_bisimulation : IsBisimulation c same_key
  keys_are_bisimulation = record {
    codes = λ s t same. (one_key s t same).code_is;
    keeps = record {
      events = λ s t e same. (
          let h = one_key s t same in
          enables_alike s t e h.one_within h.other_within h.class);
      steps = λ s t e u v same one other. (
          let h = one_key s t same in
          let found = r.steps s t e u h.one_within h.other_within h.class one in
          let v_is : found.0 ≡ v = is.deterministic t e found.0 v found.1 other in
          key_tested u v (record {
            class = found.2 ∙ ap (class_at p) v_is;
            code_is = code_of_step c s e u is one ∙ ap (λ (k : ℕ). flip k e.sig) h.code_is
                ∙ sym (code_of_step c t e v is other);
            one_within = (step_within c.graph s e u is.graph_is one).2;
            other_within = (step_within c.graph t e v is.graph_is other).2;
          }));
    };
  }

  alike_by_key : (s t : ℕ) → s < c.graph.states → t < c.graph.states → key_of c p s ≡ key_of c p t → AreAlike c s t
  alike_by_key s t one two same = record {
    one_within = one;
    other_within = two;
    related = same_key;
    bisimulation = keys_are_bisimulation;
    holds = key_tested s t (record {
      class = ap (λ (k : Key). k.class) same;
      code_is = ap (λ (k : Key). k.code) same;
      one_within = one;
      other_within = two;
    });
  }

  key_by_alike : (s t : ℕ) → AreAlike c s t → key_of c p s ≡ key_of c p t
  key_by_alike s t a =
      let class = r.coarse a.related a.bisimulation.keeps s t a.one_within a.other_within a.holds in
      let code_is = a.bisimulation.codes s t a.holds in
      λ i. record { class = class i; code = code_is i }

  -- the first with a key is the least that is alike
  least_first : (s m : ℕ) → s < c.graph.states → IsFirstLike c p s m → IsLeastAlike c s m
  least_first s m within f =
      let up = f.within in
      record {
        alike = alike_by_key s m within (omega (arith, up, within)) (sym f.same);
        least = λ t a. elim (cases_lt t m) [
          | inl before ↦ absurd (f.first t before (sym (key_by_alike s t a)))
          | inr after ↦ after
        ];
      }

  module _ (kept class : List ℕ) (n : AreNumbered c p c.graph.states kept class) where
    pub numbered_classes : AreClasses c kept class
    numbered_classes = record {
      in_order = sorted_from_strictly_increasing kept
          (λ k within. n.in_order k (k + 1) (omega arith) within);
      members = λ m. (
        λ there. (
            let first : IsFirstLike c p m m = All-contains (λ x. IsFirstLike c p x x) kept m n.first there in
            let below : m < c.graph.states = All-contains (λ x. x < c.graph.states) kept m n.below there in
            (m, least_first m m below first)),
        λ from. (
            let s = from.0 in
            let within = from.1.alike.one_within in
            let own = n.each s within in
            let least = least_first s own.0 within own.1 in
            let up = from.1.least own.0 least.alike in
            let down = least.least m from.1.alike in
            let same : own.0 ≡ m = omega (arith, up, down) in
            let inside = slice_get_within kept (get_or class s 0) own.0 own.2 in
            let at : get_or kept (get_or class s 0) m ≡ m =
            get_or_from_slice_get kept (get_or class s 0) own.0 m own.2 ∙ same in
            (get_or class s 0, inside, at)),
      );
      count = n.count;
      each = λ s within. (
          let own = n.each s within in
          (own.0, least_first s own.0 within own.1, own.2));
    }
