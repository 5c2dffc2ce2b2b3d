-- Growth reaches the least cube that covers the component and has the third property.
use Rattle.std.proofs.Common.{◌≡◌, ℕ, zero, suc, ◌+◌, ◌<◌, ◌≤◌, Bool, true, List, [], ◌∷◌, length, filter, All}
use Rattle.std.proofs.Common.{Contains, get_or, refl, sym, ap, subst, ◌∙◌, arith, inl, inr}
use Rattle.std.proofs.lemmas.Bool.{true≢false, and_parts, cases_Bool, cases_eq}
use Rattle.std.proofs.lemmas.List.{get_or_default}
use Rattle.std.proofs.lemmas.List.Elements.{All-cons, All-filter}
use Rattle.std.specs.List.{list_all}
use mathlib.Core.Bool.{beq}
use Rattle.si_base.specs.declared.ids.Event.{Event}
use Rattle.si_base.specs.declared.ids.Literal.{Literal}
use Rattle.si_base.specs.Bits.{bit}
use Rattle.si_base.specs.Graph.{Step}
use Rattle.si_base.specs.Codes.{CodedGraph, IsCoded, code}
use Rattle.si_base.specs.Codes as codes
use Rattle.si_base.specs.Netlist.{literal_value}
use Rattle.si_cube.specs.Cubes.{Covers, IsLeastAbove}
use Rattle.si_cube.specs.Literals.{full_literals}
use Rattle.si_regions.specs.declared.regions.Region.{Region}
use Rattle.si_regions.specs.Regions.{IsRegion}
use Rattle.si_regions.proofs.RegionLemmas.{enables_within}
use Rattle.si_cover.specs.Loops.Growing.{IsGrowing, IsWider, IsDemanded}
use Rattle.si_cover.specs.Mono.{IsOf, IsFallingCover, IsLeastCube}
use Rattle.si_cube.proofs.CubeFacts.{full_bits}

-- ---- the full cube
full_of : (n i code m : ℕ) → i + n ≤ m → All (λ (l : Literal). l.sig < m) (full_literals n i code)
full_of zero i code m fits = λ k d within. absurd (omega (arith, within))
full_of (suc n) i code m fits =
    All-cons (λ (l : Literal). l.sig < m) (record { sig = i; plain = bit code i }) (full_literals n (i + 1) code)
    (omega (arith, fits)) (full_of n (i + 1) code m (omega (arith, fits)))

agree_covers : (n code k : ℕ) (cube : List Literal) → ((j : ℕ) → j < n → bit k j ≡ bit code j)
    → All (λ (l : Literal). l.sig < n) cube → Covers cube code → Covers cube k
agree_covers n code k [] same of h = refl
agree_covers n code k (l ∷ ls) same of h =
    let parts = and_parts (literal_value code l) (list_all (literal_value code) ls) h in
    let here : literal_value k l ≡ true = ap (λ b. beq b l.plain) (same l.sig (of 0 l (omega arith))) ∙ parts.0 in
    rw here (agree_covers n code k ls same (λ i d within. of (suc i) d (omega (arith, within))) parts.1)

pub growth_begins : (c : CodedGraph) (er qr : List ℕ) (s : ℕ) → Contains er s
    → IsGrowing c er qr (full_literals (length c.graph.signals) 0 (code c s))
growth_begins c er qr s there =
    let n = length c.graph.signals in
    record {
      of = full_of n 0 (code c s) n (omega arith);
      below = λ other d k h.
          let same : (j : ℕ) → j < n → bit k j ≡ bit (code c s) j =
          λ j below. full_bits n 0 (code c s) k h j (omega arith) (omega (arith, below)) in
          agree_covers n (code c s) k other same d.of (d.covers s there);
    }

-- the cube that is made of a state's code
pub first_grows : (c : CodedGraph) (er qr : List ℕ) (s n code : ℕ) (cube : List Literal) → Contains er s
    → n ≡ length c.graph.signals → code ≡ codes.code c s → cube ≡ full_literals n 0 code → IsGrowing c er qr cube
first_grows c er qr s n code cube there signals same made =
    let full : cube ≡ full_literals (length c.graph.signals) 0 (codes.code c s) =
    made ∙ ap (λ m. full_literals m 0 code) signals ∙ ap (λ k. full_literals (length c.graph.signals) 0 k) same in
    subst (λ (x : List Literal). IsGrowing c er qr x) (sym full) (growth_begins c er qr s there)

-- ---- the turns
pub widened : (cube wider : List Literal) (k l : ℕ) → k ≡ l → wider ≡ filter (literal_value k) cube
    → IsLeastAbove cube k wider → IsWider cube l wider
widened cube wider k l same literals least =
    subst (λ j. IsWider cube j wider) same (record { literals = literals; least = least })

-- a code that each falling cube covers is taken in
taken : (c : CodedGraph) (er qr : List ℕ) (cube wider : List Literal) (code : ℕ) → IsGrowing c er qr cube
    → ((other : List Literal) → IsFallingCover c er qr other → Covers other code) → IsWider cube code wider
    → IsGrowing c er qr wider
taken c er qr cube wider code g each w = record {
  of = subst (λ k. IsOf c k) (sym w.literals)
      (All-filter (literal_value code) (λ (l : Literal). l.sig < length c.graph.signals) cube g.of);
  below = λ other d. w.least.least other (record { covers = each other d; keeps = g.below other d });
}

pub growth_takes : (c : CodedGraph) (er qr : List ℕ) (cube wider : List Literal) (s : ℕ) → IsGrowing c er qr cube
    → Contains er s → IsWider cube (code c s) wider → IsGrowing c er qr wider
growth_takes c er qr cube wider s g there w =
    taken c er qr cube wider (code c s) g (λ other d. d.covers s there) w

pub growth_goes_on : (c : CodedGraph) (er qr : List ℕ) (cube wider : List Literal) (s : ℕ) (e : Event) (t : ℕ)
    → IsGrowing c er qr cube → Step c.graph s e t → Contains qr t → Covers cube (code c t)
    → IsWider cube (code c s) wider → IsGrowing c er qr wider
growth_goes_on c er qr cube wider s e t g step there covered w =
    taken c er qr cube wider (code c s) g
    (λ other d. d.never_rises s e t step there (g.below other d (code c t) covered)) w

pub growth_ends : (c : CodedGraph) (er qr : List ℕ) (cube : List Literal) → IsGrowing c er qr cube
    → ((s : ℕ) → Contains er s → Covers cube (code c s))
    → ((s : ℕ) (e : Event) (t : ℕ) → Step c.graph s e t → Contains qr t → Covers cube (code c t)
    → Covers cube (code c s))
    → IsLeastCube (IsFallingCover c er qr) cube
growth_ends c er qr cube g all none =
    record { meets = record { of = g.of; covers = all; never_rises = none }; least = g.below }

-- the states up to the i-th are covered
pub covered_more : (c : CodedGraph) (er : List ℕ) (i s : ℕ) (cube wider : List Literal)
    → ((j t : ℕ) → j < i → get_or er j t ≡ t → Covers cube (code c t)) → i < length er → s ≡ get_or er i s
    → IsWider cube (code c s) wider
    → (j t : ℕ) → j < i + 1 → get_or er j t ≡ t → Covers wider (code c t)
covered_more c er i s cube wider before within is w j t below at = elim (cases_eq j i) [
  | inl same ↦ (
      let told : t ≡ s =
      sym at ∙ ap (λ n. get_or er n t) same ∙ get_or_default er i t s within ∙ sym is in
      subst (λ n. Covers wider (code c n)) (sym told) w.least.above.covers)
  | inr other ↦ w.least.above.keeps (code c t) (before j t (omega (arith, below, other)) at)
]

pub covered_all : (c : CodedGraph) (set er : List ℕ) (i : ℕ) (cube : List Literal) → er ≡ set → length er ≤ i
    → ((j t : ℕ) → j < i → get_or er j t ≡ t → Covers cube (code c t))
    → (s : ℕ) → Contains set s → Covers cube (code c s)
covered_all c set er i cube same end all s there =
    let (k, within, at) = subst (λ (l : List ℕ). Contains l s) (sym same) there in
    all k s (omega (arith, end, within)) at

pub component_within : (c : CodedGraph) (r : Region) (s : ℕ) → IsCoded c → IsRegion c r → Contains r.er s
    → s < c.graph.states
component_within c r s coded region there =
    enables_within c.graph s r.event coded.graph_is (region.excited.members s there)

-- where no state is demanded, the third property holds
pub none_demanded : (c : CodedGraph) (qr : List ℕ) (cube : List Literal)
    → ((s : ℕ) → IsDemanded c qr cube s → ⊥) → (s : ℕ) (e : Event) (t : ℕ) → Step c.graph s e t
    → Contains qr t → Covers cube (code c t) → Covers cube (code c s)
none_demanded c qr cube none s e t step there covers =
    elim (cases_Bool (list_all (literal_value (code c s)) cube)) [
      | inl h ↦ h
      | inr h ↦ (
          let left : Covers cube (code c s) → ⊥ = λ k. true≢false (sym k ∙ h) in
          absurd (none s (record { e = e; t = t; step = step; there = there; covers = covers; left = left })))
    ]

-- ---- literals go
filter_within : (p : Literal → Bool) (xs : List Literal) → length (filter p xs) ≤ length xs
filter_within p [] = omega arith
filter_within p (x ∷ xs) =
    let k = filter_within p xs in
    elim (cases_Bool (p x)) [
      | inl here ↦ rw here (omega (arith, k))
      | inr none ↦ rw none (omega (arith, k))
    ]

filter_drops : (p : Literal → Bool) (xs : List Literal) → (list_all p xs ≡ true → ⊥)
    → length (filter p xs) < length xs
filter_drops p [] h = absurd (h refl)
filter_drops p (x ∷ xs) h = elim (cases_Bool (p x)) [
  | inl here ↦ (let k = filter_drops p xs (λ all. h (rw here all)) in rw here (omega (arith, k)))
  | inr none ↦ (let k = filter_within p xs in rw none (omega (arith, k)))
]

pub turns_drop : (cube : List Literal) (k : ℕ) → (Covers cube k → ⊥)
    → length (filter (literal_value k) cube) < length cube
turns_drop cube k h = filter_drops (literal_value k) cube h
