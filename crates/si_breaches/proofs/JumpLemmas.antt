-- Jumps back along first paths, and what they tell of the signals that these switch.
use Rattle.std.proofs.Common.{◌≡◌, ℕ, ◌+◌, ◌^◌, ◌<◌, ◌≤◌, ◌⊎◌, not, Bool, true, false, List, [], ◌∷◌, ◌++◌, map, length}
use Rattle.std.proofs.Common.{get_or, All, Option, Some, None, refl, sym, ap, ap₂, subst, ◌∙◌, arith, inl, inr, append_assoc}
use Rattle.std.proofs.Common.{bit_xor, slice_index}
use Rattle.std.proofs.lemmas.Bool.{cases_eq}
use Rattle.std.proofs.lemmas.List.{append-nil, map-append, get_or-map, length-map, get_or_default}
use Rattle.std.proofs.lemmas.List.{length-append, get_or_append_left}
use Rattle.std.proofs.Math.Seq.{get_or-append_seam}
use Rattle.std.proofs.lemmas.Nat.{pow-add}
use Rattle.std.proofs.lemmas.Option.{same_Some}
use Rattle.si_base.specs.declared.ids.Event.{Event}
use Rattle.si_base.specs.declared.graph.Edge.{Edge}
use Rattle.si_base.specs.Bits.{bit, flip}
use Rattle.si_base.specs.Codes.{parity}
use Rattle.si_base.specs.Graph.{StateGraph, IsGraph}
use Rattle.si_base.specs.Limits.{max_states}
use Rattle.si_base.proofs.BitFacts.{flip-same, flip-other, bit-zero}
use Rattle.si_base.proofs.CodeParity.{turn}
use Rattle.si_base.proofs.StepCodes.{step_within}
use Rattle.si_graph.proofs.ValueLemmas.{bit-xor}
use Rattle.si_breaches.specs.Breaches.{AreFirstWays, is_odd}
use Rattle.si_breaches.specs.Loops.Breaches.{AreParities}
use Rattle.si_breaches.specs.Loops.Jumps.{jump_at, no_jump, IsJump, AreJumps, twice_by, doubled_of}
use Rattle.si_breaches.specs.declared.parities.Jump.{Jump}
use Rattle.si_walks.specs.Paths.{events_of}
use Rattle.si_walks.specs.Tree.{last_at, IsTree}
use Rattle.si_walks.proofs.FirstPaths.{one_way_to}

-- ---- events, one list behind the other
turn_more : (p v : Bool) → turn (not p) v ≡ not (turn p v)
turn_more true true = refl
turn_more true false = refl
turn_more false v = refl

turn_swap : (p q : Bool) → turn p q ≡ turn q p
turn_swap true true = refl
turn_swap true false = refl
turn_swap false true = refl
turn_swap false false = refl

pub odd_append : (a : ℕ) (xs ys : List Event) → is_odd a (xs ++ ys) ≡ turn (is_odd a xs) (is_odd a ys)
odd_append a [] ys = ap (λ (p : Bool). turn p (is_odd a ys)) (sym (bit-zero a))
odd_append a (e ∷ es) ys = elim (cases_eq a e.sig) [
  | inl own ↦ (
      let here : is_odd a (e ∷ (es ++ ys)) ≡ not (is_odd a (es ++ ys)) = flipped own (es ++ ys) in
      let there : is_odd a (e ∷ es) ≡ not (is_odd a es) = flipped own es in
      here ∙ ap not (odd_append a es ys) ∙ sym (turn_more (is_odd a es) (is_odd a ys))
      ∙ ap (λ (p : Bool). turn p (is_odd a ys)) (sym there))
  | inr other ↦ (
      let here : is_odd a (e ∷ (es ++ ys)) ≡ is_odd a (es ++ ys) = kept other (es ++ ys) in
      let there : is_odd a (e ∷ es) ≡ is_odd a es = kept other es in
      here ∙ odd_append a es ys ∙ ap (λ (p : Bool). turn p (is_odd a ys)) (sym there))
]
  where
    flipped : a ≡ e.sig → (fs : List Event) → is_odd a (e ∷ fs) ≡ not (is_odd a fs)
    flipped own fs = rw own (flip-same (parity fs) e.sig)

    kept : (a ≡ e.sig → ⊥) → (fs : List Event) → is_odd a (e ∷ fs) ≡ is_odd a fs
    kept other fs = flip-other (parity fs) e.sig a other

-- one event
pub odd_own : (a : ℕ) (e : Event) → a ≡ e.sig → is_odd a (e ∷ []) ≡ true
odd_own a e own = rw own (flip-same 0 e.sig) ∙ ap not (bit-zero e.sig)

pub odd_other : (a : ℕ) (e : Event) → (a ≡ e.sig → ⊥) → is_odd a (e ∷ []) ≡ false
odd_other a e other = flip-other 0 e.sig a other ∙ bit-zero a

-- ---- the jump by the last arc
module _ (g : StateGraph) (is : IsGraph g) (last : List (Option Edge)) (tree : IsTree g last) (s : ℕ)
    (within : s < g.states) where
  pub jump_none : last_at last s ≡ None → IsJump g tree.path 1 s (record { to = s; change = 0 })
  jump_none none = elim (tree.linked s within) [
    | inl (start, root) ↦ record {
      within = within;
      rest = [];
      path_is = sym (append-nil (tree.path s));
      change = λ a. refl;
      long = inl root.path_is;
    }
    | inr link ↦ absurd (let both : None ≡ Some link.arc = sym none ∙ link.at in cc)
  ]

  pub jump_some : (arc : Edge) → last_at last s ≡ Some arc
      → IsJump g tree.path 1 s (record { to = arc.from; change = flip 0 arc.event.sig })
  jump_some arc some = elim (tree.linked s within) [
    | inl (start, root) ↦ absurd (let both : None ≡ Some arc = sym root.at ∙ some in cc)
    | inr link ↦ (
        let same : link.arc ≡ arc = same_Some link.arc arc (sym link.at ∙ some) in
        subst (λ (b : Edge). IsJump g tree.path 1 s (record { to = b.from; change = flip 0 b.event.sig })) same (record {
          within = (step_within g link.arc.from link.arc.event link.arc.to is link.there).0;
          rest = link.arc ∷ [];
          path_is = link.path_is;
          change = λ a. refl;
          long = inr refl;
        }))
  ]

-- one jump more
pub jumps_more : (P : ℕ → Jump → Type 0) (old new : List Jump) (j : Jump) (k : ℕ) → length old ≡ k
    → new ≡ old ++ j ∷ [] → ((s : ℕ) → s < k → P s (jump_at old s)) → P k j → (s : ℕ) → s < k + 1
    → P s (jump_at new s)
jumps_more P old new j k size pushed each here s within = elim (cases_eq s k) [
  | inl last ↦ (
      let at : jump_at new s ≡ j = ap (λ (l : List Jump). jump_at l s) pushed
      ∙ ap (λ (i : ℕ). jump_at (old ++ j ∷ []) i) (last ∙ sym size) ∙ get_or-append_seam old j [] no_jump in
      subst (P s) (sym at) (subst (λ (i : ℕ). P i j) (sym last) here))
  | inr other ↦ (
      let small : s < k = omega arith in
      let at : jump_at new s ≡ jump_at old s = ap (λ (l : List Jump). jump_at l s) pushed
      ∙ get_or_append_left old (j ∷ []) no_jump s (omega (arith, size)) in
      subst (P s) (sym at) (each s small))
]

-- all of them
pub all_first : (g : StateGraph) (is : IsGraph g) (last : List (Option Edge)) (tree : IsTree g last)
    (jumps : List Jump) → length jumps ≡ g.states
    → ((s : ℕ) → s < g.states → IsJump g tree.path 1 s (jump_at jumps s)) → AreJumps g 1 jumps
all_first g is last tree jumps size each = record {
  size = size;
  path = tree.path;
  first = tree.first;
  short = λ s within. (let short = tree.short s within in omega (arith, short, is.few_states));
  each = each;
}

-- ---- jumps twice as long
empty_parts : (xs ys : List Edge) → xs ++ ys ≡ [] → (xs ≡ []) × (ys ≡ [])
empty_parts [] ys none = (refl, none)
empty_parts (x ∷ xs) ys none = absurd (omega (arith, ap length none))

module _ (g : StateGraph) (arcs : ℕ) (jumps : List Jump) (are : AreJumps g arcs jumps) where
  pub targets_within : All (λ (j : Jump). j.to < length jumps) jumps
  targets_within k d within =
      let at : get_or jumps k d ≡ jump_at jumps k = get_or_default jumps k d no_jump within in
      let inside = (are.each k (omega (arith, are.size))).within in
      subst (λ (j : Jump). j.to < length jumps) (sym at) (omega (arith, inside, are.size))

  twice : (s : ℕ) → s < g.states → IsJump g are.path (arcs + arcs) s (twice_by jumps (jump_at jumps s))
  twice s within =
      let j : Jump = jump_at jumps s in
      let one = are.each s within in
      let k : Jump = jump_at jumps j.to in
      let other = are.each j.to one.within in
      let whole : are.path s ≡ are.path k.to ++ (other.rest ++ one.rest) =
      one.path_is ∙ ap (λ (p : List Edge). p ++ one.rest) other.path_is
      ∙ append_assoc (are.path k.to) other.rest one.rest in
      record {
        within = other.within;
        rest = other.rest ++ one.rest;
        path_is = whole;
        change = change j k one other;
        long = long j k one other;
      }
    where
      change : (j k : Jump) (one : IsJump g are.path arcs s j) (other : IsJump g are.path arcs j.to k) (a : ℕ)
          → bit (bit_xor j.change k.change) a ≡ is_odd a (events_of (other.rest ++ one.rest))
      change j k one other a = bit-xor j.change k.change a ∙ ap₂ turn (one.change a) (other.change a)
          ∙ turn_swap (is_odd a (events_of one.rest)) (is_odd a (events_of other.rest))
          ∙ sym (odd_append a (events_of other.rest) (events_of one.rest))
          ∙ ap (is_odd a) (sym (map-append (λ (x : Edge). x.event) other.rest one.rest))

      long : (j k : Jump) (one : IsJump g are.path arcs s j) (other : IsJump g are.path arcs j.to k)
          → (are.path k.to ≡ []) ⊎ (length (other.rest ++ one.rest) ≡ arcs + arcs)
      long j k one other = elim other.long [
        | inl root ↦ inl root
        | inr far ↦ elim one.long [
          | inl root ↦ inl (empty_parts (are.path k.to) other.rest (sym other.path_is ∙ root)).0
          | inr also ↦ inr (length-append other.rest one.rest ∙ ap₂ (λ (m n : ℕ). m + n) far also)
        ]
      ]

  pub all_twice : AreJumps g (arcs + arcs) (doubled_of jumps)
  all_twice = record {
    size = length-map jumps (twice_by jumps) ∙ are.size;
    path = are.path;
    first = are.first;
    short = are.short;
    each = λ s within. subst (IsJump g are.path (arcs + arcs) s)
        (sym (get_or-map (twice_by jumps) jumps s no_jump no_jump (omega (arith, are.size)))) (twice s within);
  }

pub twice_power : (k : ℕ) → 2 ^ k + 2 ^ k ≡ 2 ^ (k + 1)
twice_power k = let more = pow-add 2 k 1 in omega (arith, more)

-- ---- what the longest jumps tell
pub parities_told : (g : StateGraph) (arcs : ℕ) (jumps : List Jump) (codes : List ℕ) → max_states ≤ arcs
    → AreJumps g arcs jumps → codes ≡ map (λ (j : Jump). j.change) jumps → AreParities g codes
parities_told g arcs jumps codes far are is = record {
  size = ap length is ∙ length-map jumps (λ (j : Jump). j.change) ∙ are.size;
  each = each;
}
  where
    each : (walk : ℕ → List Event) → AreFirstWays g walk → (s a : ℕ) → s < g.states
        → bit (slice_index codes s) a ≡ is_odd a (walk s)
    each walk ways s a within =
        let j : Jump = jump_at jumps s in
        let jump = are.each s within in
        let at : slice_index codes s ≡ j.change = ap (λ (l : List ℕ). slice_index l s) is
        ∙ get_or-map (λ (i : Jump). i.change) jumps s no_jump 0 (omega (arith, are.size)) in
        let begin : are.path j.to ≡ [] = elim jump.long [
          | inl root ↦ root
          | inr long ↦ empty_by (are.path j.to) (
              let whole = ap length jump.path_is ∙ length-append (are.path j.to) jump.rest in
              let short = are.short s within in
              omega (arith, whole, short, long))
        ] in
        let path : are.path s ≡ jump.rest = jump.path_is ∙ ap (λ (p : List Edge). p ++ jump.rest) begin in
        let way : walk s ≡ events_of (are.path s) = one_way_to g s (walk s) (events_of (are.path s))
        (ways.within s within) (record { path = are.path s; first = are.first s within; events_are = refl }) in
        ap (λ (n : ℕ). bit n a) at ∙ jump.change a
        ∙ ap (is_odd a) (ap events_of (sym path) ∙ sym way)
      where
        empty_by : (xs : List Edge) → length xs ≤ 0 → xs ≡ []
        empty_by [] none = refl
        empty_by (x ∷ xs) none = absurd (omega arith)
