-- Regions at work: an input pulses twice, and an output switches after each pulse. Each of the two components of `a+`
-- is one state, and as `a` falls at once nothing rests after it.
use Rattle.std.proofs.Common.{◌≡◌, ℕ, ◌==◌, ◌&&◌, ◌||◌, not, Bool, true, List, [], ◌∷◌, Contains, refl, sym, subst, ◌∙◌}
use Rattle.std.proofs.Common.{lit<, eqb-true, arith, inl, inr}
use Rattle.std.proofs.lemmas.Bool.{or_cases, true≢false}
use Rattle.std.specs.List.Sorted.{IsStrictlySortedBy}
use Rattle.std.specs.Ordering.{nat_cmp}
use Rattle.si_base.specs.declared.ids.Event.{Event}
use Rattle.si_base.specs.declared.graph.Edge.{Edge}
use Rattle.si_base.specs.declared.graph.SigKind.TheVariants.{Input, Output}
use Rattle.si_base.specs.Graph.{Step, arc, rise, fall, enables, same_event}
use Rattle.si_base.specs.Codes.{CodedGraph}
use Rattle.si_base.proofs.GraphSteps.{all_arcs}
use Rattle.si_regions.specs.declared.regions.Region.{Region}
use Rattle.si_regions.specs.Connected.{Adjoins, IsComponent}
use Rattle.si_regions.specs.Regions.{Enables, IsSetOf, IsEntered, IsQuiet, WalkThrough, IsReachedThrough, IsRegion}
use Rattle.si_regions.specs.Regions.{IsRegionComponent, component_of, opposite, region_place}
use Rattle.si_regions.proofs.StateLists.{contains_only, only_in}

abbrev pulses : CodedGraph
pulses = record {
  graph = record {
    signals = record { name = []; kind = Input } ∷ record { name = 122 ∷ []; kind = Output } ∷ [];
    states = 6;
    edges = arc 0 (rise 0) 1 ∷ arc 1 (fall 0) 2 ∷ arc 2 (rise 1) 3 ∷ arc 3 (rise 0) 4 ∷ arc 4 (fall 0) 5
        ∷ arc 5 (fall 1) 0 ∷ [];
    start = 0;
  };
  codes = 0 ∷ 1 ∷ 0 ∷ 2 ∷ 3 ∷ 2 ∷ [];
}

abbrev first : Region
first = record { event = rise 0; er = 0 ∷ []; sr = 1 ∷ []; qr = [] }

place : region_place first ≡ 0 ∷ 0 ∷ []
place = refl

falls_back : opposite (rise 0) ≡ fall 0
falls_back = refl

-- `a` is 1 at s1, and about to fall again
not_quiet : IsQuiet pulses (rise 0) 1 → ⊥
not_quiet quiet = true≢false quiet.stays

one_in_order : (s : ℕ) → IsStrictlySortedBy nat_cmp (s ∷ [])
unfolding IsStrictlySortedBy
one_in_order s = (tt, tt)

-- ---- the component of s0: no state beside it enables `a+`
not_both : (b : Bool) → b ≡ true → not b ≡ true → ⊥
not_both b on off = true≢false (sym (subst (λ c. not c ≡ true) on off))

abbrev leaves : Edge → Bool
leaves a = not (a.from == 0) || not (enables pulses.graph a.to (rise 0))

abbrev comes : Edge → Bool
comes a = not (a.to == 0) || not (enables pulses.graph a.from (rise 0))

alone : (t : ℕ) → Adjoins pulses.graph 0 t → Enables pulses.graph (rise 0) t → ⊥
alone t (inl (e, step)) on = elim (or_cases _ _ (all_arcs leaves pulses.graph 0 e t refl step)) [
  | inl other ↦ true≢false (sym other)
  | inr off ↦ not_both (enables pulses.graph t (rise 0)) on off
]
alone t (inr (e, step)) on = elim (or_cases _ _ (all_arcs comes pulses.graph t e 0 refl step)) [
  | inl other ↦ true≢false (sym other)
  | inr off ↦ not_both (enables pulses.graph t (rise 0)) on off
]

excited : IsComponent pulses.graph (Enables pulses.graph (rise 0)) (0 ∷ [])
excited = record {
  in_order = one_in_order 0;
  some = (0, contains_only 0);
  members = λ s there. subst (Enables pulses.graph (rise 0)) (sym (only_in 0 s there)) refl;
  connected = λ s t one other.
      record { begins = one; path = []; leads = only_in 0 s one ∙ sym (only_in 0 t other) };
  maximal = λ s t there beside on.
      absurd (alone t (subst (λ v. Adjoins pulses.graph v t) (only_in 0 s there) beside) on);
}

-- ---- `a+` leads from it to s1 alone
abbrev enters : Edge → Bool
enters a = not ((a.from == 0) && same_event a.event (rise 0)) || (a.to == 1)

switched : IsSetOf (IsEntered pulses.graph (0 ∷ []) (rise 0)) (1 ∷ [])
switched = record {
  in_order = one_in_order 1;
  exactly = λ t. (
    λ there. subst (IsEntered pulses.graph (0 ∷ []) (rise 0)) (sym (only_in 1 t there))
        (0, contains_only 0, (0, lit< tt, refl)),
    λ entered. (
        let step : Step pulses.graph 0 (rise 0) t =
        subst (λ v. Step pulses.graph v (rise 0) t) (only_in 0 entered.0 entered.1) entered.2 in
        elim (or_cases _ _ (all_arcs enters pulses.graph 0 (rise 0) t refl step)) [
          | inl other ↦ absurd (true≢false (sym other))
          | inr is ↦ subst (λ v. Contains (1 ∷ []) v) (sym (eqb-true t 1 is)) (contains_only 1)
        ]),
  );
}

-- ---- and nothing rests after it
begins_quiet : (s : ℕ) (es : List Event) (t : ℕ) → WalkThrough pulses.graph (IsQuiet pulses (rise 0)) s es t
    → IsQuiet pulses (rise 0) s
begins_quiet s [] t walk = walk.0
begins_quiet s (e ∷ es) t walk = walk.0

none_in_order : IsStrictlySortedBy nat_cmp []
unfolding IsStrictlySortedBy
none_in_order = tt

quiescent : IsSetOf (IsReachedThrough pulses.graph (IsQuiet pulses (rise 0)) (1 ∷ [])) []
quiescent = record {
  in_order = none_in_order;
  exactly = λ t. (
    λ there. absurd (omega (arith, there.1)),
    λ r. absurd (not_quiet
        (subst (IsQuiet pulses (rise 0)) (only_in 1 r.begin r.there) (begins_quiet r.begin r.events t r.walk))),
  );
}

is_region : IsRegion pulses first
is_region = record { excited = excited; switched = switched; quiescent = quiescent }

-- ---- the region without its quiescent part
only_excited_and_entered : component_of first ≡ record { event = rise 0; er = 0 ∷ []; sr = 1 ∷ [] }
only_excited_and_entered = refl

is_component : IsRegionComponent pulses (record { event = rise 0; er = 0 ∷ []; sr = 1 ∷ [] })
is_component = (first, is_region, refl)
