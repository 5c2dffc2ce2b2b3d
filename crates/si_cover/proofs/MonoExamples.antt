-- Monotonous cubes of the two-input C-element, and a component that has none.
use Rattle.std.proofs.Common.{◌≡◌, ℕ, zero, suc, ◌<◌, ◌⊎◌, ◌==◌, ◌&&◌, ◌||◌, not, Bool, true, false, List, [], ◌∷◌, All}
use Rattle.std.proofs.Common.{Contains, lit<, refl, sym, ap, ◌∙◌, arith, inl, inr, subst, eq-eqb, eqb-true, codes}
use Rattle.std.proofs.lemmas.Bool.{true≢false, and_parts, or_cases, cases_eq}
use Rattle.std.proofs.lemmas.List.Elements.{All-cons}
use mathlib.Core.Bool.{beq}
use Rattle.std.specs.List.{list_all, list_any}
use Rattle.si_base.specs.declared.ids.Event.{Event}
use Rattle.si_base.specs.declared.ids.Literal.{Literal}
use Rattle.si_base.specs.declared.graph.Edge.{Edge}
use Rattle.si_base.specs.declared.graph.SigKind.TheVariants.{Input, Output}
use Rattle.si_base.specs.Bits.{bit}
use Rattle.si_base.specs.Graph.{Step, arc, rise}
use Rattle.si_base.specs.Codes.{CodedGraph, code}
use Rattle.si_base.specs.Netlist.{literal_value}
use Rattle.si_base.proofs.OrderAscending.{In}
use Rattle.si_base.proofs.GraphSteps.{all_arcs, beq-true}
use Rattle.si_base.proofs.GivenGraphUnique.{contains_from_in, in_from_contains}
use Rattle.si_cube.specs.Cubes.{Covers}
use Rattle.si_cube.specs.Literals.{literals_of}
use Rattle.si_cube.proofs.LeastLemmas.{supercube_least}
use Rattle.si_cover.specs.Loops.Growing.{IsGrowing, IsWider, IsDemanded, Demands}
use Rattle.si_cover.specs.Mono.{CoversOutside, IsLeastCube, IsFallingCover, IsMono, IsLeastMono, ShowsNoMono}
use Rattle.si_cube.proofs.NeededLemmas.{all_in, any_in, any_from_in}
use Rattle.si_cover.proofs.Examples.{coded, plain, complemented}
use Rattle.si_cover.proofs.MonoLemmas.{falling_is_mono}
use Rattle.si_cover.proofs.GrowingLemmas.{growth_begins, growth_ends}

-- ---- tests by computation
abbrev implies : Bool → Bool → Bool
implies a b = not a || b

apply : (a b : Bool) → implies a b ≡ true → a ≡ true → b ≡ true
apply true b h k = h
apply false b h k = absurd (true≢false (sym k))

abbrev has : List ℕ → ℕ → Bool
has set s = list_any (λ t. s == t) set

has_if : (set : List ℕ) (s : ℕ) → Contains set s → has set s ≡ true
has_if set s (k, within, at) = any_from_in (λ t. s == t) set s (in_from_contains set s k within at) (eq-eqb s s refl)

in_if : (set : List ℕ) (s : ℕ) → has set s ≡ true → Contains set s
in_if set s h =
    let found = any_in (λ t. s == t) set h in
    contains_from_in set s (subst (λ t. In t set) (sym (eqb-true s found.0 found.2)) found.1)

abbrev all_below : ℕ → (ℕ → Bool) → Bool
all_below zero p = true
all_below (suc n) p = p n && all_below n p

at_below : (n : ℕ) (p : ℕ → Bool) → all_below n p ≡ true → (s : ℕ) → s < n → p s ≡ true
at_below zero p all s below = absurd (omega (arith, below))
at_below (suc n) p all s below =
    let parts = and_parts (p n) (all_below n p) all in
    elim (cases_eq s n) [
      | inl same ↦ ap p same ∙ parts.0
      | inr other ↦ at_below n p parts.1 s (omega (arith, below, other))
    ]

abbrev covered : CodedGraph → List Literal → ℕ → Bool
covered c cube s = list_all (literal_value (code c s)) cube

covers_if : (c : CodedGraph) (er : List ℕ) (cube : List Literal) → list_all (covered c cube) er ≡ true
    → (s : ℕ) → Contains er s → Covers cube (code c s)
covers_if c er cube h s (k, within, at) = all_in (covered c cube) er h s (in_from_contains er s k within at)

-- if the cube covers a state of the set, then each state that an arc leads from into it
abbrev never_rises_test : CodedGraph → List ℕ → List Literal → Edge → Bool
never_rises_test c qr cube a = implies (has qr a.to) (implies (covered c cube a.to) (covered c cube a.from))

never_rises_if : (c : CodedGraph) (qr : List ℕ) (cube : List Literal)
    → list_all (never_rises_test c qr cube) c.graph.edges ≡ true
    → (s : ℕ) (e : Event) (t : ℕ) → Step c.graph s e t → Contains qr t → Covers cube (code c t)
    → Covers cube (code c s)
never_rises_if c qr cube h s e t step there covers =
    let passes = all_arcs (never_rises_test c qr cube) c.graph s e t h step in
    apply (covered c cube t) (covered c cube s) (apply (has qr t) _ passes (has_if qr t there)) covers

-- no state but those of the two sets is covered
abbrev stays_test : CodedGraph → List ℕ → List ℕ → List Literal → ℕ → Bool
stays_test c er qr cube s = implies (covered c cube s) (has er s || has qr s)

stays_if : (c : CodedGraph) (er qr : List ℕ) (cube : List Literal)
    → all_below c.graph.states (stays_test c er qr cube) ≡ true → (s : ℕ) → CoversOutside c er qr cube s → ⊥
stays_if c er qr cube h s k =
    let passes = at_below c.graph.states (stays_test c er qr cube) h s k.within in
    elim (or_cases (has er s) (has qr s) (apply (covered c cube s) (has er s || has qr s) passes k.covers)) [
      | inl there ↦ k.not_er (in_if er s there)
      | inr there ↦ k.not_qr (in_if qr s there)
    ]

-- ---- the two-input C-element
-- of c+, excited at s3 and at rest at s4, s5 and s6, the cube is a b c'
pub mono_plus : IsLeastMono coded (3 ∷ []) (4 ∷ 5 ∷ 6 ∷ []) (plain 0 ∷ plain 1 ∷ complemented 2 ∷ [])
mono_plus =
    let er : List ℕ = 3 ∷ [] in
    let qr : List ℕ = 4 ∷ 5 ∷ 6 ∷ [] in
    let cube : List Literal = plain 0 ∷ plain 1 ∷ complemented 2 ∷ [] in
    let grows : IsGrowing coded er qr cube = growth_begins coded er qr 3 (in_if er 3 refl) in
    falling_is_mono coded er qr cube
    (growth_ends coded er qr cube grows (covers_if coded er cube refl) (never_rises_if coded qr cube refl))
    (stays_if coded er qr cube refl)

-- of c-, excited at s7 and at rest at s0, s1 and s2, it is a' b' c
pub mono_minus : IsLeastMono coded (7 ∷ []) (0 ∷ 1 ∷ 2 ∷ []) (complemented 0 ∷ complemented 1 ∷ plain 2 ∷ [])
mono_minus =
    let er : List ℕ = 7 ∷ [] in
    let qr : List ℕ = 0 ∷ 1 ∷ 2 ∷ [] in
    let cube : List Literal = complemented 0 ∷ complemented 1 ∷ plain 2 ∷ [] in
    let grows : IsGrowing coded er qr cube = growth_begins coded er qr 7 (in_if er 7 refl) in
    falling_is_mono coded er qr cube
    (growth_ends coded er qr cube grows (covers_if coded er cube refl) (never_rises_if coded qr cube refl))
    (stays_if coded er qr cube refl)

-- a b is monotonous too, and covers 111 beside 110: a larger one
pub larger_mono : IsMono coded (3 ∷ []) (4 ∷ 5 ∷ 6 ∷ []) (plain 0 ∷ plain 1 ∷ [])
larger_mono =
    let er : List ℕ = 3 ∷ [] in
    let qr : List ℕ = 4 ∷ 5 ∷ 6 ∷ [] in
    let cube : List Literal = plain 0 ∷ plain 1 ∷ [] in
    let IsOfThree : Literal → Type 0 = λ l. l.sig < 3 in
    record {
      falling = record {
        of = All-cons IsOfThree (plain 0) (plain 1 ∷ []) (omega arith)
            (All-cons IsOfThree (plain 1) [] (omega arith) (λ k d within. absurd (omega (arith, within))));
        covers = covers_if coded er cube refl;
        never_rises = never_rises_if coded qr cube refl;
      };
      stays = stays_if coded er qr cube refl;
    }

not_least : IsLeastMono coded (3 ∷ []) (4 ∷ 5 ∷ 6 ∷ []) (plain 0 ∷ plain 1 ∷ []) → ⊥
not_least least = true≢false (sym (least.least (plain 0 ∷ plain 1 ∷ complemented 2 ∷ []) mono_plus.meets 7 refl))

-- c alone covers s4, and not s3, from which c+ leads into it: s3 is demanded
demanded : IsDemanded coded (4 ∷ 5 ∷ 6 ∷ []) (plain 2 ∷ []) 3
demanded = record {
  e = rise 2;
  t = 4;
  step = contains_from_in coded.graph.edges (arc 3 (rise 2) 4) (inr (inr (inr (inr (inl refl)))));
  there = in_if (4 ∷ 5 ∷ 6 ∷ []) 4 refl;
  covers = refl;
  left = λ h. true≢false (sym h);
}

demands : Demands coded (4 ∷ 5 ∷ 6 ∷ []) (plain 2 ∷ []) (arc 3 (rise 2) 4)
demands = record { there = in_if (4 ∷ 5 ∷ 6 ∷ []) 4 refl; covers = refl; left = λ h. true≢false (sym h) }

-- a b c' grows to a b where 111 is taken in
wider : IsWider (plain 0 ∷ plain 1 ∷ complemented 2 ∷ []) 7 (plain 0 ∷ plain 1 ∷ [])
unfolding literals_of
wider = record { literals = refl; least = supercube_least 7 3 7 (lit< tt) (lit< tt) (lit< tt) }

-- ---- a sum
-- inputs a and b, output z = a + b, which rises once: s1, s2 and s3 excite it, s4, s5 and s6 are behind it
abbrev pub sum_gate : CodedGraph
sum_gate = record {
  graph = record {
    signals = record { name = codes "a"; kind = Input } ∷ record { name = codes "b"; kind = Input }
        ∷ record { name = codes "z"; kind = Output } ∷ [];
    states = 7;
    edges = arc 0 (rise 0) 1 ∷ arc 0 (rise 1) 2 ∷ arc 1 (rise 1) 3 ∷ arc 1 (rise 2) 4 ∷ arc 2 (rise 0) 3
        ∷ arc 2 (rise 2) 5 ∷ arc 3 (rise 2) 6 ∷ arc 4 (rise 1) 6 ∷ arc 5 (rise 0) 6 ∷ [];
    start = 0;
  };
  codes = 0 ∷ 1 ∷ 2 ∷ 3 ∷ 5 ∷ 6 ∷ 7 ∷ [];
}

-- a literal that is true at 100 and at 010 is z'
only_z : (sig : ℕ) (plain : Bool) → sig < 3 → literal_value 1 (record { sig = sig; plain = plain }) ≡ true
    → literal_value 2 (record { sig = sig; plain = plain }) ≡ true → (sig ≡ 2) × (plain ≡ false)
only_z zero true below h k = absurd (true≢false (sym k))
only_z zero false below h k = absurd (true≢false (sym h))
only_z (suc zero) true below h k = absurd (true≢false (sym h))
only_z (suc zero) false below h k = absurd (true≢false (sym k))
only_z (suc (suc zero)) true below h k = absurd (true≢false (sym h))
only_z (suc (suc zero)) false below h k = (refl, refl)
only_z (suc (suc (suc n))) plain below h k = absurd (omega (arith, below))

-- so a cube that covers them covers each code where z is 0
above_z : (cube : List Literal) (k : ℕ) → All (λ (l : Literal). l.sig < 3) cube → Covers cube 1 → Covers cube 2
    → bit k 2 ≡ false → Covers cube k
above_z [] k below h j low = refl
above_z (l ∷ ls) k below h j low =
    let one = and_parts (literal_value 1 l) (list_all (literal_value 1) ls) h in
    let two = and_parts (literal_value 2 l) (list_all (literal_value 2) ls) j in
    let is = only_z l.sig l.plain (below 0 l (omega arith)) one.0 two.0 in
    let here : literal_value k l ≡ true =
    ap (λ i. beq (bit k i) l.plain) is.0 ∙ ap (λ b. beq b l.plain) low ∙ ap (λ b. beq false b) is.1 in
    rw here (above_z ls k (λ i d within. below (suc i) d (omega (arith, within))) one.1 two.1 low)

falling_z : IsLeastCube (IsFallingCover sum_gate (1 ∷ 2 ∷ 3 ∷ []) (4 ∷ 5 ∷ 6 ∷ [])) (complemented 2 ∷ [])
falling_z =
    let er : List ℕ = 1 ∷ 2 ∷ 3 ∷ [] in
    let cube : List Literal = complemented 2 ∷ [] in
    record {
      meets = record {
        of = All-cons (λ (l : Literal). l.sig < 3) (complemented 2) [] (omega arith)
            (λ k d within. absurd (omega (arith, within)));
        covers = covers_if sum_gate er cube refl;
        never_rises = never_rises_if sum_gate (4 ∷ 5 ∷ 6 ∷ []) cube refl;
      };
      least = λ other d k h.
          let low : bit k 2 ≡ false = beq-true (bit k 2) false (and_parts (beq (bit k 2) false) true h).0 in
          above_z other k d.of (d.covers 1 (in_if er 1 refl)) (d.covers 2 (in_if er 2 refl)) low;
    }

-- the least cube that covers them is z', and it covers s0
pub none_z : ShowsNoMono sum_gate (1 ∷ 2 ∷ 3 ∷ []) (4 ∷ 5 ∷ 6 ∷ []) 0
none_z = (
  complemented 2 ∷ [],
  falling_z,
  record {
    holds = record {
      within = omega arith;
      covers = refl;
      not_er = λ h. true≢false (sym (has_if (1 ∷ 2 ∷ 3 ∷ []) 0 h));
      not_qr = λ h. true≢false (sym (has_if (4 ∷ 5 ∷ 6 ∷ []) 0 h));
    };
    none_before = λ y _ before. none_before_0 y before;
  },
)
  where
    none_before_0 : (y : ℕ) → (y < 0) ⊎ ((y ≡ 0) × ⊥) → ⊥
    none_before_0 y (inl below) = omega (arith, below)
    none_before_0 y (inr (same, none)) = none
