-- Tests by computation, for worked examples: whether a set meets the rules.
use Rattle.std.proofs.Common.{◌≡◌, ◌≢◌, ℕ, zero, suc, ◌+◌, ◌<◌, ◌==◌, ◌&&◌, ◌||◌, not, Bool, true, false, List, []}
use Rattle.std.proofs.Common.{◌∷◌, length, Contains, IsTrue, slice_index_or, slice_get, Option, Some, None, refl, sym}
use Rattle.std.proofs.Common.{ap, subst, ◌∙◌, arith, inl, inr, eq-eqb}
use Rattle.std.proofs.lemmas.Bool.{true≢false, and_parts, cases_Bool, or_left, or_right, or_cases, and_from}
use Rattle.std.proofs.lemmas.List.Elements.{All-contains}
use Rattle.std.proofs.lemmas.List.Sums.{AllPass-from_list_all}
use mathlib.Core.Bool.{beq}
use Rattle.std.specs.List.{list_all}
use Rattle.si_base.specs.declared.ids.Event.{Event}
use Rattle.si_base.specs.declared.graph.Edge.{Edge}
use Rattle.si_base.specs.declared.graph.Signal.{Signal}
use Rattle.si_base.specs.declared.graph.SigKind.TheVariants.{Input}
use Rattle.si_base.specs.Graph.{StateGraph, arc, same_event, is_driven}
use Rattle.si_base.proofs.GraphSteps.{beq-refl, same_event-refl, same_event-true}
use Rattle.si_base.specs.Sets.{IsIn}
use Rattle.si_graph.proofs.SearchLemmas.{in_below}
use Rattle.si_insert.proofs.PartitionClasses.{yields, apply}
use Rattle.si_divisor.specs.Targets.{Settles, HaveTargets, holds}
use Rattle.si_divisor.specs.Switching.{Switches}

abbrev pub in' : List Bool → ℕ → Bool
in' set s = slice_index_or set s false

-- the property for each number below n
abbrev pub each_below : ℕ → ℕ → (ℕ → Bool) → Bool
each_below zero i p = true
each_below (suc n) i p = p i && each_below n (i + 1) p

at_below : (n i : ℕ) (p : ℕ → Bool) → each_below n i p ≡ true → (s : ℕ) → s < n → p (i + s) ≡ true
at_below zero i p h s below = absurd (omega (arith, below))
at_below (suc n) i p h zero below = let e : i + 0 ≡ i = omega arith in
    ap p e ∙ (and_parts (p i) (each_below n (i + 1) p) h).0
at_below (suc n) i p h (suc s) below =
    let e : i + suc s ≡ (i + 1) + s = omega arith in
    ap p e ∙ at_below n (i + 1) p (and_parts (p i) (each_below n (i + 1) p) h).1 s (omega (arith, below))

pub below_at : (n : ℕ) (p : ℕ → Bool) → each_below n 0 p ≡ true → (s : ℕ) → s < n → p s ≡ true
below_at n p h s below = let e : 0 + s ≡ s = omega arith in ap p (sym e) ∙ at_below n 0 p h s below

at_arc : (arcs : List Edge) (p : Edge → Bool) → list_all p arcs ≡ true → (a : Edge) → Contains arcs a → p a ≡ true
at_arc arcs p h a there = All-contains (λ x. p x ≡ true) arcs a (AllPass-from_list_all p arcs h) there

-- ---- the rules by which states settle
abbrev pub settles_test : StateGraph → (Bool → ℕ → Bool) → Bool → List Bool → Bool
settles_test g forced b set =
    each_below g.states 0 (λ s. yields (forced b s) (in' set s)) && list_all
    (λ a. yields (in' set a.from) (yields (holds forced a.to) (in' set a.to))) g.edges

pub settles_if : (g : StateGraph) (forced : Bool → ℕ → Bool) (b : Bool) (set : List Bool)
    → settles_test g forced b set ≡ true → Settles g forced b set
settles_if g forced b set h =
    let parts =
    and_parts (each_below g.states 0 (λ s. yields (forced b s) (in' set s)))
    (list_all (λ a. yields (in' set a.from) (yields (holds forced a.to) (in' set a.to))) g.edges) h in
    record {
      begins = λ s within there. apply (forced b s) (in' set s)
          (below_at g.states (λ s. yields (forced b s) (in' set s)) parts.0 s within) there;
      goes_on =
          λ s e t step from held. apply (holds forced t) (in' set t)
          (apply (in' set s) (yields (holds forced t) (in' set t))
          (at_arc g.edges (λ a. yields (in' set a.from) (yields (holds forced a.to) (in' set a.to))) parts.1
          (arc s e t) step) from) held;
    }

-- ---- the rules by which states switch
abbrev pub is_input_kind : Option Signal → Bool
is_input_kind None = false
is_input_kind (Some x) = not (is_driven x.kind)

abbrev pub is_driven_kind : Option Signal → Bool
is_driven_kind None = false
is_driven_kind (Some x) = is_driven x.kind

input_is : (x : Option Signal) (y : Signal) → x ≡ Some y → y.kind ≡ Input → is_input_kind x ≡ true
input_is x y at kind = ap is_input_kind at ∙ ap (λ k. not (is_driven k)) kind

driven_is : (x : Option Signal) (y : Signal) → x ≡ Some y → IsTrue (is_driven y.kind) → is_driven_kind x ≡ true
driven_is x y at driven = ap is_driven_kind at ∙ driven

abbrev pub entered_test : StateGraph → (ℕ → Bool) → Bool → List Bool → Edge → Bool
entered_test g target b set a = yields (beq (target a.from) (not b)) (yields (beq (target a.to) b) (in' set a.to))

abbrev pub before_test : StateGraph → (ℕ → Bool) → Bool → List Bool → Edge → Bool
before_test g target b set a = yields (in' set a.to) (yields (beq (target a.from) b) (in' set a.from))

abbrev pub input_test : StateGraph → List Bool → Edge → Bool
input_test g set a = yields (is_input_kind (slice_get g.signals a.event.sig)) (yields (in' set a.from) (in' set a.to))

-- a is s -a-> t, b is s -c-> u, d is u -a-> w
abbrev pub exit_test : StateGraph → (ℕ → Bool) → Bool → List Bool → Edge → Edge → Edge → Bool
exit_test g target v set a b d =
    yields ((a.from == b.from) &&
    ((d.from == b.to) &&
    (same_event d.event a.event &&
    (not (same_event a.event b.event) && (is_driven_kind (slice_get g.signals a.event.sig) &&
    (in' set b.to && (beq (target a.from) (not v) || (in' set a.from && in' set a.to))))))))
    (in' set d.to)

abbrev pub all_entered : StateGraph → (ℕ → Bool) → Bool → List Bool → Bool
all_entered g target b set = list_all (entered_test g target b set) g.edges

abbrev pub all_before : StateGraph → (ℕ → Bool) → Bool → List Bool → Bool
all_before g target b set = list_all (before_test g target b set) g.edges

abbrev pub all_inputs : StateGraph → List Bool → Bool
all_inputs g set = list_all (input_test g set) g.edges

abbrev pub all_exits : StateGraph → (ℕ → Bool) → Bool → List Bool → Bool
all_exits g target b set =
    list_all (λ x. list_all (λ y. list_all (exit_test g target b set x y) g.edges) g.edges) g.edges

abbrev pub switches_test : StateGraph → (ℕ → Bool) → Bool → List Bool → Bool
switches_test g target b set =
    all_entered g target b set && (all_before g target b set && (all_inputs g set && all_exits g target b set))

beq_is : (a b : Bool) → a ≡ b → beq a b ≡ true
beq_is a b h = subst (λ c. beq a c ≡ true) h (beq-refl a)

differs : (e f : Event) → e ≢ f → not (same_event e f) ≡ true
differs e f apart = elim (cases_Bool (same_event e f)) [
  | inl same ↦ absurd (apart (same_event-true e f same))
  | inr other ↦ rw other refl
]

pub switches_if : (g : StateGraph) (target : ℕ → Bool) (b : Bool) (set : List Bool)
    → switches_test g target b set ≡ true → Switches g target b set
switches_if g target b set h = record {
  entered = λ s e t step low high. (
      let k = at_arc g.edges (entered_test g target b set) entries (arc s e t) step in
      apply (beq (target t) b) (in' set t) (apply (beq (target s) (not b)) (yields (beq (target t) b) (in' set t)) k
      (beq_is (target s) (not b) low)) (beq_is (target t) b high));
  before = λ s e t step there high. (
      let k = at_arc g.edges (before_test g target b set) predecessors (arc s e t) step in
      apply (beq (target s) b) (in' set s) (apply (in' set t) (yields (beq (target s) b) (in' set s)) k there)
      (beq_is (target s) b high));
  inputs = λ s e t step input there. (
      let k = at_arc g.edges (input_test g set) by_inputs (arc s e t) step in
      apply (in' set s) (in' set t) (apply (is_input_kind (slice_get g.signals e.sig))
      (yields (in' set s) (in' set t)) k (input_is (slice_get g.signals e.sig) input.0 input.1 input.2)) there);
  exits = λ s a c t u w d in_u may. (
      let x : Edge = arc s a t in
      let y : Edge = arc s c u in
      let z : Edge = arc u a w in
      let from_first =
      at_arc g.edges (λ x. list_all (λ y. list_all (exit_test g target b set x y) g.edges) g.edges) by_exits x
      d.first in
      let with_other = at_arc g.edges (λ y. list_all (exit_test g target b set x y) g.edges) from_first y d.other in
      let then_next = at_arc g.edges (exit_test g target b set x y) with_other z d.next in
      let m : (beq (target s) (not b) || (in' set s && in' set t)) ≡ true = elim may [
        | inl low ↦ or_left (beq (target s) (not b)) (in' set s && in' set t) (beq_is (target s) (not b) low)
        | inr both ↦
            or_right (beq (target s) (not b)) (in' set s && in' set t)
            (and_from (in' set s) (in' set t) both.0 both.1)
      ] in
      let driven : is_driven_kind (slice_get g.signals a.sig) ≡ true =
      driven_is (slice_get g.signals a.sig) d.non_input.0 d.non_input.1 d.non_input.2 in
      let all : ((s == s) &&
      ((u == u) &&
      (same_event a a &&
      (not (same_event a c) && (is_driven_kind (slice_get g.signals a.sig) &&
      (in' set u && (beq (target s) (not b) || (in' set s && in' set t)))))))) ≡ true =
      and_from _ _ (eq-eqb s s refl)
      (and_from _ _ (eq-eqb u u refl)
      (and_from _ _ (same_event-refl a)
      (and_from _ _ (differs a c d.apart) (and_from _ _ driven (and_from _ _ in_u m))))) in
      apply _ (in' set w) then_next all);
}
  where
    entries : list_all (entered_test g target b set) g.edges ≡ true
    entries =
        (and_parts (all_entered g target b set)
        (all_before g target b set && (all_inputs g set && all_exits g target b set)) h).0

    other_rules : (all_before g target b set && (all_inputs g set && all_exits g target b set)) ≡ true
    other_rules =
        (and_parts (all_entered g target b set)
        (all_before g target b set && (all_inputs g set && all_exits g target b set)) h).1

    predecessors : list_all (before_test g target b set) g.edges ≡ true
    predecessors =
        (and_parts (all_before g target b set) (all_inputs g set && all_exits g target b set) other_rules).0

    last_rules : (all_inputs g set && all_exits g target b set) ≡ true
    last_rules = (and_parts (all_before g target b set) (all_inputs g set && all_exits g target b set) other_rules).1

    by_inputs : list_all (input_test g set) g.edges ≡ true
    by_inputs = (and_parts (all_inputs g set) (all_exits g target b set) last_rules).0

    by_exits : list_all (λ x. list_all (λ y. list_all (exit_test g target b set x y) g.edges) g.edges) g.edges ≡ true
    by_exits = (and_parts (all_inputs g set) (all_exits g target b set) last_rules).1

-- ---- members of a set
abbrev pub Members : (ℕ → Type 0) → ℕ → List Bool → Type 0
Members P i [] = Unit {0}
Members P i (true ∷ xs) = P i × Members P (i + 1) xs
Members P i (false ∷ xs) = Members P (i + 1) xs

at_member : (P : ℕ → Type 0) (i : ℕ) (xs : List Bool) → Members P i xs → (s : ℕ) → in' xs s ≡ true → P (i + s)
at_member P i [] all s there = absurd (true≢false (sym there))
at_member P i (true ∷ xs) all zero there = let e : i ≡ i + 0 = omega arith in subst P e all.0
at_member P i (false ∷ xs) all zero there = absurd (true≢false (sym there))
at_member P i (true ∷ xs) all (suc s) there = let e : (i + 1) + s ≡ i + suc s = omega arith in
    subst P e (at_member P (i + 1) xs all.1 s there)
at_member P i (false ∷ xs) all (suc s) there = let e : (i + 1) + s ≡ i + suc s = omega arith in
    subst P e (at_member P (i + 1) xs all s there)

pub each_member : (P : ℕ → Type 0) (xs : List Bool) → Members P 0 xs → (s : ℕ) → IsIn xs s → P s
each_member P xs all s there = let e : 0 + s ≡ s = omega arith in subst P e (at_member P 0 xs all s there)

-- ---- each of the first n numbers
abbrev pub Each : (ℕ → Type 0) → ℕ → ℕ → Type 0
Each P i zero = Unit {0}
Each P i (suc n) = P i × Each P (i + 1) n

at_each : (P : ℕ → Type 0) (i n : ℕ) → Each P i n → (s : ℕ) → s < n → P (i + s)
at_each P i zero all s below = absurd (omega (arith, below))
at_each P i (suc n) all zero below = let e : i ≡ i + 0 = omega arith in subst P e all.0
at_each P i (suc n) all (suc s) below = let e : (i + 1) + s ≡ i + suc s = omega arith in
    subst P e (at_each P (i + 1) n all.1 s (omega (arith, below)))

pub each_at : (P : ℕ → Type 0) (n : ℕ) → Each P 0 n → (s : ℕ) → s < n → P s
each_at P n all s below = let e : 0 + s ≡ s = omega arith in subst P e (at_each P 0 n all s below)

-- ---- each state settles at one value
not_both : (a b : Bool) → not (a && b) ≡ true → a ≡ true → b ≡ true → ⊥
not_both true true h p q = true≢false (sym h)
not_both true false h p q = true≢false (sym q)
not_both false b h p q = true≢false (sym p)

pub targets_if : (g : StateGraph) (ones zeros : List Bool) → length ones ≡ g.states
    → each_below g.states 0 (λ s. in' ones s || in' zeros s) ≡ true
    → each_below g.states 0 (λ s. not (in' ones s && in' zeros s)) ≡ true → HaveTargets g ones zeros
targets_if g ones zeros size some one = record {
  some = λ s u.
      elim (or_cases (in' ones s) (in' zeros s) (below_at g.states (λ s. in' ones s || in' zeros s) some s u.within))
      [ inl h ↦ u.not_one h | inr h ↦ u.not_zero h ];
  one = λ s t. (
      let within = in_below ones s t.one in
      not_both (in' ones s) (in' zeros s) (below_at g.states (λ s. not (in' ones s && in' zeros s)) one s
      (omega (arith, within, size))) t.one t.zero);
}
