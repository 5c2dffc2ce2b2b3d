-- Codes read off the arcs, and what arcs that they don't suit show.
use Rattle.std.proofs.Common.{◌≡◌, ◌≢◌, ℕ, ◌+◌, ◌/◌, ◌%◌, ◌^◌, ◌<◌, ◌≤◌, ◌⊎◌, ◌==◌, ◌||◌, ◌↔◌, Bool, true, false, not}
use Rattle.std.proofs.Common.{List, length, get_or, take, map, All, bit_xor, bit_or, refl, sym, ap, subst, ◌∙◌}
use Rattle.std.proofs.Common.{arith, inl, inr, length-take, get_or-take, slice_index}
use mathlib.Core.Bool.{beq}
use Rattle.std.specs.Int.{bit_at}
use Rattle.std.proofs.lemmas.Bool.{cases_eq, cases_lt, or_parts, or_from, true≢false}
use Rattle.std.proofs.lemmas.List.{get_or-map, take-take, take_all}
use Rattle.std.proofs.lemmas.List.Elements.{All-more, All-take, All-contains}
use Rattle.std.proofs.Math.Nat.{mod-lt}
use Rattle.std.proofs.lemmas.Nat.{pow_pos, div-add-mod'}
use Rattle.std.proofs.lemmas.Nat.Bits.{bit_at_xor, bit_at-lt, bit_at_above, bit_at_cat_low}
use Rattle.std.proofs.lemmas.Nat.Bits.{same_from_bits}
use Rattle.si_base.specs.declared.ids.Event.{Event}
use Rattle.si_base.specs.declared.graph.Edge.{Edge}
use Rattle.si_base.specs.Bits.{bit, IsSet}
use Rattle.si_base.specs.Graph.{StateGraph, Step, IsGraph, arc}
use Rattle.si_base.specs.Codes.{AreValues}
use Rattle.si_base.proofs.CodeParity.{turn, values_along, start_shown}
use Rattle.si_base.proofs.BitFacts.{bit-zero, bit-or, below_two}
use Rattle.si_graph.specs.Loops.Changes.{AreChanges}
use Rattle.si_graph.specs.Loops.Values.{IsStartCode, TellsValues, Suits, SuitAll}

-- ---- bits
xor_bits : (x y : ℕ) → x < 2 → y < 2 → ((x + y) % 2 == 1) ≡ turn (x == 1) (y == 1)
xor_bits x y lx ly = elim (below_two x lx) [
  | inl x0 ↦ elim (below_two y ly) [ inl y0 ↦ rw (x0, y0) refl | inr y1 ↦ rw (x0, y1) refl ]
  | inr x1 ↦ elim (below_two y ly) [ inl y0 ↦ rw (x1, y0) refl | inr y1 ↦ rw (x1, y1) refl ]
]

pub bit-xor : (x y a : ℕ) → bit (bit_xor x y) a ≡ turn (bit x a) (bit y a)
bit-xor x y a = rw (bit_at_xor x y a) (xor_bits (bit_at x a) (bit_at y a) (bit_at-lt x a) (bit_at-lt y a))

bit_none : (n i : ℕ) → bit n i ≡ false → bit_at n i ≡ 0
bit_none n i no_bit = elim (below_two (bit_at n i) (bit_at-lt n i)) [
  | inl is0 ↦ is0
  | inr is1 ↦ absurd (true≢false (rw is1 at no_bit))
]

-- a number with no bit from k on is below 2 ^ k
pub fits_from_bits : (n k : ℕ) → ((i : ℕ) → k ≤ i → bit n i ≡ false) → n < 2 ^ k
fits_from_bits n k none =
    let low : n % 2 ^ k < 2 ^ k = mod-lt n (pow_pos k) in
    let same : n ≡ n % 2 ^ k = same_from_bits n (n % 2 ^ k) (λ i. elim (cases_lt i k) [
      | inl below ↦ ap (λ (m : ℕ). bit_at m i) (sym (div-add-mod' n (2 ^ k)))
          ∙ bit_at_cat_low (n / 2 ^ k) k (n % 2 ^ k) i below
      | inr above ↦ bit_none n i (none i above) ∙ sym (bit_at_above (n % 2 ^ k) k i low above)
    ]) in
    let P : ℕ → Type 0 = λ m. m < 2 ^ k in
    subst P (sym same) low

-- ---- the code of the start
-- what the arcs so far have told of it
abbrev pub TellsSoFar : StateGraph → List Edge → ℕ → Type 0
TellsSoFar g arcs start = (a : ℕ) (v : ℕ → Bool) → AreValues g a v
    → (bit start a ≡ v g.start) ⊎ ((bit start a ≡ false) × All (λ x. x.event.sig ≢ a) arcs)

beq_turn : (p up : Bool) → beq p up ≡ turn p (not up)
beq_turn true true = refl
beq_turn true false = refl
beq_turn false true = refl
beq_turn false false = refl

pub start_more : (g : StateGraph) (changes : List ℕ) (arcs : List Edge) (n old new : ℕ) (x : Edge) → IsGraph g
    → AreChanges g changes → arcs ≡ g.edges → n < length arcs → x ≡ get_or arcs n x
    → IsSet old x.event.sig (beq (bit (slice_index changes x.from) x.event.sig) x.event.up) new
    → TellsSoFar g (take n arcs) old → TellsSoFar g (take (n + 1) arcs) new
start_more g changes arcs n old new x is are same within at sets before a v values = elim (cases_eq x.event.sig a) [
  | inl own ↦ (
      let step : Step g x.from x.event x.to =
      (n, omega (arith, ap length same), ap (λ (es : List Edge). get_or es n x) (sym same) ∙ sym at) in
      let A : ℕ → Type 0 = λ b. Step g x.from (record { sig = b; up = x.event.up }) x.to in
      let mine : Step g x.from (record { sig = a; up = x.event.up }) x.to = subst A own step in
      let P : Edge → Type 0 = λ y. (y.from < g.states) × (y.event.sig < length g.signals) × (y.to < g.states) in
      let from_in = (All-contains P g.edges x is.within step).0 in
      let change = are.changes_are x.from from_in in
      let shown : v g.start ≡ turn (bit (slice_index changes x.from) a) (not x.event.up) =
      rw change.change_is (start_shown g a v x.from x.to x.event.up change.events values mine change.walk) in
      let told : bit new a ≡ beq (bit (slice_index changes x.from) a) x.event.up = rw own at sets.there in
      inl (told ∙ beq_turn (bit (slice_index changes x.from) a) x.event.up ∙ sym shown))
  | inr other ↦ (
      let kept : bit new a ≡ bit old a = sets.others a (λ e. other (sym e)) in
      elim (before a v values) [
        | inl told ↦ inl (kept ∙ told)
        | inr none ↦ inr (
          kept ∙ none.0,
          All-more (λ (y : Edge). y.event.sig ≢ a) arcs n x within none.1
              (subst (λ (y : Edge). y.event.sig ≢ a) at other),
        )
      ])
]

pub start_told : (g : StateGraph) (arcs : List Edge) (n start : ℕ) → IsGraph g → arcs ≡ g.edges → length arcs ≤ n
    → TellsSoFar g (take n arcs) start → IsStartCode g start
start_told g arcs n start is same all told a v values = elim (told a v values) [
  | inl there ↦ there
  | inr none ↦ (
      let each : All (λ (x : Edge). x.event.sig ≢ a) g.edges = rw (take_all n arcs all, same) at none.1 in
      none.0 ∙ sym (values.idle (λ s e t step own. All-contains (λ (x : Edge). x.event.sig ≢ a) g.edges
      (arc s e t) each step own) g.start is.starts))
]

-- ---- all codes
pub told_values : (g : StateGraph) (changes : List ℕ) (start : ℕ) → AreChanges g changes → IsStartCode g start
    → TellsValues g (map (λ change. bit_xor change start) changes)
told_values g changes start are begins a v values s within =
    let change = are.changes_are s within in
    let at : get_or (map (λ change. bit_xor change start) changes) s 0 ≡ bit_xor (get_or changes s 0) start =
    get_or-map (λ change. bit_xor change start) changes s 0 0 (omega (arith, are.count)) in
    rw (at, bit-xor (get_or changes s 0) start a, change.change_is, begins a v values)
    (sym (values_along g a v g.start change.events s values change.walk))

-- ---- arcs that codes don't suit
own_test : (up to from : Bool) → (turn up to || beq from up) ≡ false → (from ≡ not up) × (to ≡ up)
own_test true true false h = (refl, refl)
own_test false false true h = (refl, refl)
own_test true true true h = cc
own_test true false from h = cc
own_test false true from h = cc
own_test false false false h = cc

own_back : (up to from : Bool) → from ≡ not up → to ≡ up → (turn up to || beq from up) ≡ false
own_back true to from before after = rw (before, after) refl
own_back false to from before after = rw (before, after) refl

other_test : (to from : Bool) → (turn from to || false) ≡ false → to ≡ from
other_test true true h = refl
other_test false false h = refl
other_test true false h = cc
other_test false true h = cc

other_back : (to from : Bool) → to ≡ from → (turn from to || false) ≡ false
other_back true from same = rw (← same) refl
other_back false from same = rw (← same) refl

pub mask_tells : (from to after stuck : ℕ) (e : Event) → IsSet from e.sig e.up after
    → IsSet 0 e.sig (beq (bit from e.sig) e.up) stuck → (a : ℕ)
    → (bit (bit_or (bit_xor after to) stuck) a ≡ false) ↔ Suits from to e a
mask_tells from to after stuck e sets sticks a = elim (cases_eq e.sig a) [
  | inl own ↦ (
      let t : bit after a ≡ e.up = rw own at sets.there in
      let s : bit stuck a ≡ beq (bit from a) e.up = rw own at sticks.there in
      let whole : bit (bit_or (bit_xor after to) stuck) a ≡ (turn e.up (bit to a) || beq (bit from a) e.up) =
      rw (bit-or (bit_xor after to) stuck a, bit-xor after to a, t, s) refl in (
        λ none. let r = own_test e.up (bit to a) (bit from a) (sym whole ∙ none) in
            record { before = λ _. r.0; after = λ _. r.1; kept = λ other. absurd (other own) },
        λ suits. whole ∙ own_back e.up (bit to a) (bit from a) (suits.before own) (suits.after own),
      ))
  | inr other ↦ (
      let t : bit after a ≡ bit from a = sets.others a (λ same. other (sym same)) in
      let s : bit stuck a ≡ false = sticks.others a (λ same. other (sym same)) ∙ bit-zero a in
      let whole : bit (bit_or (bit_xor after to) stuck) a ≡ (turn (bit from a) (bit to a) || false) =
      rw (bit-or (bit_xor after to) stuck a, bit-xor after to a, t, s) refl in (
        λ none. record {
          before = λ own. absurd (other own);
          after = λ own. absurd (other own);
          kept = λ _. other_test (bit to a) (bit from a) (sym whole ∙ none);
        },
        λ suits. whole ∙ other_back (bit to a) (bit from a) (suits.kept other),
      ))
]

-- one arc more
pub wrong_more : (arcs : List Edge) (codes : List ℕ) (n old w a : ℕ) (x : Edge) → n < length arcs → x ≡ get_or arcs n x
    → ((bit old a ≡ false) ↔ SuitAll (take n arcs) codes a)
    → ((bit w a ≡ false) ↔ Suits (slice_index codes x.from) (slice_index codes x.to) x.event a)
    → (bit (bit_or old w) a ≡ false) ↔ SuitAll (take (n + 1) arcs) codes a
wrong_more arcs codes n old w a x within at before here = (
  λ none.
      let parts = or_parts (bit old a) (bit w a) (sym (bit-or old w a) ∙ none) in
      All-more P arcs n x within (before.0 parts.0) (subst P at (here.0 parts.1)),
  λ all.
      let earlier : All P (take n arcs) =
      rw (take-take n (n + 1) arcs (omega arith)) at (All-take P n (take (n + 1) arcs) all) in
      let last : P (get_or (take (n + 1) arcs) n x) = all n x (rw length-take (omega arith)) in
      let mine : P x = subst P (get_or-take (n + 1) arcs n x (omega arith) ∙ sym at) last in
      bit-or old w a ∙ or_from (bit old a) (bit w a) (before.1 earlier) (here.1 mine),
)
  where
    P : Edge → Type 0
    P y = Suits (slice_index codes y.from) (slice_index codes y.to) y.event a
