-- Each component has a least monotonous cube, or a state that shows that it has none.
use Rattle.std.proofs.Common.{◌≡◌, ◌⊎◌, ℕ, zero, suc, ◌+◌, ◌<◌, ◌≤◌, Bool, true, false, List, [], ◌∷◌, length, filter}
use Rattle.std.proofs.Common.{All, Contains, refl, sym, subst, ◌∙◌, arith, inl, inr}
use Rattle.std.specs.List.{list_all}
use Rattle.std.proofs.lemmas.Bool.{cases_Bool, cases_eq, true≢false, and_parts}
use Rattle.std.proofs.lemmas.List.Elements.{All-cons}
use Rattle.std.proofs.lemmas.List.Kept.{AllPairs-cons, AllPairs-filter}
use Rattle.si_base.specs.declared.graph.Edge.{Edge}
use Rattle.si_base.specs.declared.ids.Literal.{Literal}
use Rattle.si_base.specs.Bits.{bit}
use Rattle.si_base.specs.Graph.{arc}
use Rattle.si_base.specs.Order.{IsFirst}
use Rattle.si_base.specs.Codes.{CodedGraph, code}
use Rattle.si_base.specs.Netlist.{literal_value}
use Rattle.si_base.proofs.OrderLemmas.{in_contains}
use Rattle.si_base.proofs.OrderAscending.{In}
use Rattle.si_base.proofs.GivenGraphUnique.{contains_from_in}
use Rattle.si_base.proofs.GraphSteps.{beq-refl}
use Rattle.si_graph.proofs.ListMembers.{Contains-cons_cases, Contains-here, Contains-there, Contains-nil}
use Rattle.si_cube.specs.Cubes.{Covers, IsLeastAbove}
use Rattle.si_cube.specs.Literals.{full_literals, InSignalOrder}
use Rattle.si_checks.proofs.SearchDecisions as decide
use Rattle.si_checks.proofs.SearchDecisions.{Decided, both, same_value, some_of}
use Rattle.si_regions.proofs.SetsExist.{listed}
use Rattle.si_cover.specs.Loops.Growing.{IsGrowing, IsWider, Demands}
use Rattle.si_cover.specs.Mono.{IsFallingCover, CoversOutside, IsLeastCube, IsLeastMono}
use Rattle.si_cover.specs.Mono.{ShowsNoMono, state_place}
use Rattle.si_cube.proofs.NeededLemmas.{all_in, in_kept}
use Rattle.si_cube.proofs.LeastLemmas.{covers-filter_itself}
use Rattle.si_cover.proofs.MonoLemmas.{falling_is_mono, outside_is_none, has_literals}
use Rattle.si_cover.proofs.GrowingLemmas.{growth_begins, growth_takes, growth_goes_on, growth_ends, none_demanded}
use Rattle.si_cover.proofs.GrowingLemmas.{turns_drop}

-- ---- a wider cube
all_kept : (p q : Literal → Bool) (xs : List Literal) → list_all p xs ≡ true → list_all p (filter q xs) ≡ true
all_kept p q [] all = refl
all_kept p q (x ∷ xs) all =
    let parts = and_parts (p x) (list_all p xs) all in
    elim (cases_Bool (q x)) [
      | inl on ↦ (let here = parts.0 in rw (on, here) (all_kept p q xs parts.1))
      | inr off ↦ rw off (all_kept p q xs parts.1)
    ]

all_of : (p : Literal → Bool) (xs : List Literal) → ((l : Literal) → In l xs → p l ≡ true) → list_all p xs ≡ true
all_of p [] each = refl
all_of p (x ∷ xs) each = let here = each x (inl refl) in rw here (all_of p xs (λ l there. each l (inr there)))

-- of a cube that covers some code, the literals that are true at another make the least cube above both
wider_is : (cube : List Literal) (covered other : ℕ) → Covers cube covered
    → IsLeastAbove cube other (filter (literal_value other) cube)
wider_is cube covered other here = record {
  above = record {
    covers = covers-filter_itself (literal_value other) cube;
    keeps = λ k all. all_kept (literal_value k) (literal_value other) cube all;
  };
  least = λ larger above k covers. all_of (literal_value k) larger (λ l there.
      let among = in_contains cube l (has_literals covered larger cube above.keeps here l
      (contains_from_in larger l there)) in
      let on = all_in (literal_value other) larger above.covers l there in
      all_in (literal_value k) (filter (literal_value other) cube) covers l
      (in_kept (literal_value other) cube l among on));
}

covers_itself : (n i code : ℕ) → Covers (full_literals n i code) code
covers_itself zero i code = refl
covers_itself (suc n) i code = let here = beq-refl (bit code i) in rw here (covers_itself n (i + 1) code)

-- ---- the full cube has its literals in signal order
from_signal : (n i j code : ℕ) → i ≤ j → All (λ (l : Literal). i ≤ l.sig) (full_literals n j code)
from_signal zero i j code low = λ k d within. absurd (omega (arith, within))
from_signal (suc n) i j code low =
    All-cons (λ (l : Literal). i ≤ l.sig) (record { sig = j; plain = bit code j }) (full_literals n (j + 1) code)
    low (from_signal n i (j + 1) code (omega (arith, low)))

full_in_order : (n i code : ℕ) → InSignalOrder (full_literals n i code)
full_in_order zero i code = λ j k d before within. absurd (omega (arith, within))
full_in_order (suc n) i code =
    let l : Literal = record { sig = i; plain = bit code i } in
    let rest = from_signal n (i + 1) (i + 1) code (omega arith) in
    AllPairs-cons (λ (x y : Literal). x.sig < y.sig) l (full_literals n (i + 1) code)
    (λ k d within. (let above = rest k d within in omega (arith, above))) (full_in_order n (i + 1) code)

still_in_order : (p : Literal → Bool) (cube : List Literal) → InSignalOrder cube → InSignalOrder (filter p cube)
still_in_order p cube order = AllPairs-filter (λ (x y : Literal). x.sig < y.sig) p cube order

-- ---- growth
module _ (c : CodedGraph) (er qr : List ℕ) (first : ℕ) (in_er : Contains er first) where
  -- a cube between two turns, which covers the component
  record Grown : Type 0 where
    cube : List Literal
    in_order : InSignalOrder cube
    grows : IsGrowing c er qr cube
    covers : (s : ℕ) → Contains er s → Covers cube (code c s)

  -- the same for some of the states alone
  record Begun (states : List ℕ) : Type 0 where
    cube : List Literal
    in_order : InSignalOrder cube
    grows : IsGrowing c er qr cube
    begins : Covers cube (code c first)
    covers : (s : ℕ) → Contains states s → Covers cube (code c s)

  widened : (cube : List Literal) (s : ℕ) → Covers cube (code c first)
      → IsWider cube (code c s) (filter (literal_value (code c s)) cube)
  widened cube s begins = record { literals = refl; least = wider_is cube (code c first) (code c s) begins }

  begun : (states : List ℕ) → ((s : ℕ) → Contains states s → Contains er s) → Begun states
  begun [] within = record {
    cube = full_literals (length c.graph.signals) 0 (code c first);
    in_order = full_in_order (length c.graph.signals) 0 (code c first);
    grows = growth_begins c er qr first in_er;
    begins = covers_itself (length c.graph.signals) 0 (code c first);
    covers = λ s there. absurd (Contains-nil s there);
  }
  begun (s ∷ states) within =
      let rest = begun states (λ t there. within t (Contains-there s states t there)) in
      let wider = filter (literal_value (code c s)) rest.cube in
      let w = widened rest.cube s rest.begins in
      record {
        cube = wider;
        in_order = still_in_order (literal_value (code c s)) rest.cube rest.in_order;
        grows = growth_takes c er qr rest.cube wider s rest.grows (within s (Contains-here s states)) w;
        begins = w.least.above.keeps (code c first) rest.begins;
        covers = λ t there. elim (Contains-cons_cases s states t there) [
          | inl same ↦ subst (λ u. Covers wider (code c u)) same w.least.above.covers
          | inr later ↦ w.least.above.keeps (code c t) (rest.covers t later)
        ];
      }

  demands_or_not : (cube : List Literal) (a : Edge) → Decided (Demands c qr cube a)
  demands_or_not cube a = elim (both (listed qr a.to) (both
      (same_value (list_all (literal_value (code c a.to)) cube) true)
      (same_value (list_all (literal_value (code c a.from)) cube) false))) [
        | inl is ↦ inl (record { there = is.0; covers = is.1.0; left = λ held. true≢false (sym held ∙ is.1.1) })
        | inr none ↦ inr (λ d. none (d.there, (d.covers, not_true _ d.left)))
      ]
    where
      not_true : (b : Bool) → (b ≡ true → ⊥) → b ≡ false
      not_true true off = absurd (off refl)
      not_true false off = refl

  -- it is the least cube, or there is a turn that drops a literal
  turn : (g : Grown)
      → IsLeastCube (IsFallingCover c er qr) g.cube ⊎ ((next : Grown) × (length next.cube < length g.cube))
  turn g = elim (some_of (Demands c qr g.cube) (demands_or_not g.cube) c.graph.edges) [
    | inr none ↦ inl (growth_ends c er qr g.cube g.grows g.covers (none_demanded c qr g.cube (λ s d. none (
      arc s d.e d.t,
      d.step,
      record { there = d.there; covers = d.covers; left = d.left },
    ))))
    | inl (a, there, d) ↦ (
        let wider = filter (literal_value (code c a.from)) g.cube in
        let w = widened g.cube a.from (g.covers first in_er) in
        inr (
          record {
            cube = wider;
            in_order = still_in_order (literal_value (code c a.from)) g.cube g.in_order;
            grows = growth_goes_on c er qr g.cube wider a.from a.event a.to g.grows there d.there d.covers w;
            covers = λ s held. w.least.above.keeps (code c s) (g.covers s held);
          },
          turns_drop g.cube (code c a.from) d.left,
        ))
  ]

  -- the least falling cube, with its literals in signal order
  abbrev LeastFalling : Type 0
  LeastFalling = (cube : List Literal) × IsLeastCube (IsFallingCover c er qr) cube × InSignalOrder cube

  -- so many turns are enough
  ends : (turns : ℕ) (g : Grown) → length g.cube ≤ turns → LeastFalling
  ends zero g few = elim (turn g) [
    | inl least ↦ (g.cube, least, g.in_order)
    | inr (next, fewer) ↦ absurd (omega (arith, few, fewer))
  ]
  ends (suc turns) g few = elim (turn g) [
    | inl least ↦ (g.cube, least, g.in_order)
    | inr (next, fewer) ↦ ends turns next (omega (arith, few, fewer))
  ]

  some_falling : LeastFalling
  some_falling =
      let b = begun er (λ s there. there) in
      ends (length b.cube) (record { cube = b.cube; in_order = b.in_order; grows = b.grows; covers = b.covers })
      (omega arith)

  -- ---- states that are covered outside
  outside_or_not : (cube : List Literal) (s : ℕ) → s < c.graph.states → Decided (CoversOutside c er qr cube s)
  outside_or_not cube s within = elim (both (same_value (list_all (literal_value (code c s)) cube) true)
      (both (decide.not (listed er s)) (decide.not (listed qr s)))) [
        | inl is ↦ inl (record { within = within; covers = is.0; not_er = is.1.0; not_qr = is.1.1 })
        | inr none ↦ inr (λ k. none (k.covers, (k.not_er, k.not_qr)))
      ]

  -- none of the first n states is covered outside, or there is a first that does
  first_outside : (cube : List Literal) (n : ℕ) → n ≤ c.graph.states
      → ((s : ℕ) → s < n → CoversOutside c er qr cube s → ⊥)
      ⊎ ((s : ℕ) × IsFirst state_place (CoversOutside c er qr cube) s)
  first_outside cube zero within = inl (λ s below k. omega (arith, below))
  first_outside cube (suc n) within = elim (first_outside cube n (omega (arith, within))) [
    | inr found ↦ inr found
    | inl none ↦ elim (outside_or_not cube n (omega (arith, within))) [
      | inl here ↦ inr (
        n,
        record {
          holds = here;
          none_before = λ s k before. elim before [
            | inl below ↦ none s below k
            | inr tied ↦ absurd tied.1
          ];
        },
      )
      | inr not_here ↦ inl (λ s below k. elim (cases_eq s n) [
        | inl same ↦ not_here (subst (CoversOutside c er qr cube) same k)
        | inr other ↦ none s (omega (arith, below, other)) k
      ])
    ]
  ]

  pub mono_or_none : ((cube : List Literal) × IsLeastMono c er qr cube × InSignalOrder cube)
      ⊎ ((s : ℕ) × ShowsNoMono c er qr s)
  mono_or_none =
      let (cube, least, order) = some_falling in
      elim (first_outside cube c.graph.states (omega arith)) [
        | inl none ↦ inl (cube, falling_is_mono c er qr cube least (λ s k. none s k.within k), order)
        | inr (s, is) ↦ inr (s, (cube, least, is))
      ]

  pub least_or_none : Decided ((cube : List Literal) × IsLeastMono c er qr cube)
  least_or_none = elim mono_or_none [
    | inl (cube, least, order) ↦ inl (cube, least)
    | inr (s, shows) ↦ inr (λ (other, m). outside_is_none c er qr s other shows m.meets)
  ]
