-- Parts work together, or something stands against it.
use Rattle.std.proofs.Common.{◌≡◌, ℕ, zero, suc, ◌<◌, ◌≤◌, ◌+◌, ◌*◌, ◌⊎◌, List, length, slice_get, Some}
use Rattle.std.proofs.Common.{All, AllPairs, Contains, refl, sym, ap, subst, ◌∙◌, arith, inl, inr, IsTrue, slice_index}
use Rattle.std.proofs.lemmas.Bool.{true≢false, cases_Bool, cases_lt}
use Rattle.std.proofs.lemmas.List.{length-map}
use Rattle.std.proofs.lemmas.Option.{slice_get_within}
use Rattle.si_base.specs.declared.ids.Event.{Event}
use Rattle.si_base.specs.declared.graph.Signal.{Signal}
use Rattle.si_base.specs.Codes.{CodedGraph, IsCoded}
use Rattle.si_base.specs.Graph.{enables, event_place, is_driven, name_of}
use Rattle.si_base.specs.Limits.{max_signals}
use Rattle.si_compose.specs.Joined.{Drives, IsSame}
use Rattle.si_compose.specs.Composed.{own_event}
use Rattle.si_compose.proofs.SameSignals.{has_or_not, one_own, some_same}
use Rattle.si_composing.specs.JoinedSignals.{graph_of, joined_names, joined_signals, part}
use Rattle.si_composing.specs.declared.clash.Clash.TheVariants.{Driven, Private, Starts}
use Rattle.si_composing.proofs.Composing.{distinct_at, few_states}
use Rattle.si_composing.proofs.Decisions.{Decided, event_of}
use Rattle.si_composing.proofs.SomeAnswer.{all_or_many}
use Rattle.si_composing.proofs.SomeClash.{first_clash}
use Rattle.si_composing.proofs.SystemLemmas.{some_at}
use Rattle.si_composing.proofs.TupleLemmas.{distinct_place, there_is}
use Rattle.si_groups.specs.Groups.{AreFew, AreFree, AreFreeAt, AreWidened, IsBetween, IsRefusedBy, group_of, members}
use Rattle.si_groups.specs.Groups.{share, widened}
use Rattle.si_groups.specs.Loops.Between.{IsFirstEvent, IsFirstTuple, IsGroup, NoneBetweenBelow}
use Rattle.si_groups.specs.Loops.Settle.{IsTold, StopsPart}
use Rattle.si_groups.specs.Together.{AreFreeBelow, CanBeJoined, IsFirstMisfit, IsFreeWith, IsInterference}
use Rattle.si_groups.specs.Together.{IsLookedAt, ShowsIn, ShowsMisfit, StopsPair, WorkTogether}
use Rattle.si_groups.specs.declared.between.FirstEvent.{FirstEvent}
use Rattle.si_groups.specs.declared.misfit.Interference.{Interference}
use Rattle.si_groups.specs.declared.misfit.Misfit.{Misfit}
use Rattle.si_groups.specs.declared.misfit.Misfit.TheVariants as misfit
use Rattle.si_groups.proofs.AloneJoined.{members_coded}
use Rattle.si_groups.proofs.BetweenLemmas.{first_where_some, free_where_none, none_between_all, none_between_more}
use Rattle.si_groups.proofs.BetweenLemmas.{order_apart, tuple_passes}
use Rattle.si_groups.proofs.GroupLemmas.{both_there, group_is}
use Rattle.si_groups.proofs.SettleLemmas.{widened_more}

-- ---- whether an event is refused
module _ (those : List CodedGraph) (coded : All IsCoded those) (group : List ℕ)
    (in_order : AllPairs (λ x y. x < y) group) (many : length group ≡ length those) where
  abbrev whole : List Signal
  whole = joined_signals those

  -- part i drives the event and enables it
  abbrev DrivesAt : List ℕ → Event → ℕ → Type 0
  DrivesAt xs e i = (z : ℕ) × Drives whole e.sig (graph_of those i).signals z
      × IsTrue (enables (graph_of those i) (slice_index xs i) (own_event e z))

  -- part i has the signal and doesn't enable the event
  abbrev RefusesAt : List ℕ → Event → ℕ → Type 0
  RefusesAt xs e i = (z : ℕ) × IsSame whole e.sig (graph_of those i).signals z
      × (IsTrue (enables (graph_of those i) (slice_index xs i) (own_event e z)) → ⊥)

  drives_or_not : (xs : List ℕ) (e : Event) (i : ℕ) → i < length those → Decided (DrivesAt xs e i)
  drives_or_not xs e i less = elim (has_or_not whole e.sig (graph_of those i).signals) [
    | inr none ↦ inr (λ d. none d.0 d.1.0)
    | inl has ↦ elim (cases_Bool (is_driven has.1.own.kind)) [
      | inr input ↦ inr (λ d. true≢false (sym d.1.1 ∙ ap (λ (x : Signal). is_driven x.kind) (own d has) ∙ input))
      | inl driven ↦ elim (cases_Bool (enables (graph_of those i) (slice_index xs i) (own_event e has.0))) [
        | inl does ↦ inl (has.0, (has.1, driven), does)
        | inr fails ↦ inr (λ d. true≢false (sym d.2
            ∙ ap (λ (z : ℕ). enables (graph_of those i) (slice_index xs i) (own_event e z)) (place d has) ∙ fails))
      ]
    ]
  ]
    where
      place : (d : DrivesAt xs e i) → (has : (z : ℕ) × IsSame whole e.sig (graph_of those i).signals z) → d.0 ≡ has.0
      place d has = one_own whole (graph_of those i).signals e.sig d.0 has.0 (distinct_at those coded i less) d.1.0 has.1

      own : (d : DrivesAt xs e i) → (has : (z : ℕ) × IsSame whole e.sig (graph_of those i).signals z)
          → d.1.0.own ≡ has.1.own
      own d has = some_same d.1.0.own has.1.own (sym d.1.0.own_is
          ∙ ap (slice_get (graph_of those i).signals) (place d has) ∙ has.1.own_is)

  refuses_or_not : (xs : List ℕ) (e : Event) (i : ℕ) → i < length those → Decided (RefusesAt xs e i)
  refuses_or_not xs e i less = elim (has_or_not whole e.sig (graph_of those i).signals) [
    | inr none ↦ inr (λ r. none r.0 r.1)
    | inl has ↦ elim (cases_Bool (enables (graph_of those i) (slice_index xs i) (own_event e has.0))) [
      | inl does ↦ inr (λ r. r.2 (subst (λ (z : ℕ). IsTrue (enables (graph_of those i) (slice_index xs i) (own_event e z)))
          (one_own whole (graph_of those i).signals e.sig has.0 r.0 (distinct_at those coded i less) has.1 r.1) does))
      | inr fails ↦ inl (has.0, has.1, λ does. true≢false (sym does ∙ fails))
    ]
  ]

  refused_or_not : (i j a b : ℕ) → slice_get group a ≡ Some i → slice_get group b ≡ Some j → (xs : List ℕ) (e : Event)
      → Decided (IsRefusedBy those group i j xs e)
  refused_or_not i j a b at_a at_b xs e =
      let in_a : a < length those = (let w = slice_get_within group a i at_a in omega (arith, w, many)) in
      let in_b : b < length those = (let w = slice_get_within group b j at_b in omega (arith, w, many)) in
      elim (drives_or_not xs e a in_a) [
        | inr none ↦ inr (λ r. none (subst (DrivesAt xs e)
            (distinct_place group i r.0.driving a (order_apart group in_order) r.1 at_a)
            (r.0.driver, r.0.drives, r.0.enabled)))
        | inl one ↦ elim (refuses_or_not xs e b in_b) [
          | inr none ↦ inr (λ r. none (subst (RefusesAt xs e)
              (distinct_place group j r.0.refusing b (order_apart group in_order) r.2 at_b)
              (r.0.other, r.0.has, r.0.refused)))
          | inl other ↦ inl (
            record {
              driving = a;
              driving_within = in_a;
              driver = one.0;
              drives = one.1;
              enabled = one.2;
              refusing = b;
              refusing_within = in_b;
              other = other.0;
              has = other.1;
              refused = other.2;
            },
            at_a,
            at_b,
          )
        ]
      ]

  module _ (i j a b : ℕ) (at_a : slice_get group a ≡ Some i) (at_b : slice_get group b ≡ Some j) where
    between_or_not : (xs : List ℕ) (e : Event) → Decided (IsBetween those group i j xs e)
    between_or_not xs e = elim (refused_or_not i j a b at_a at_b xs e) [
      | inl one ↦ inl (inl one)
      | inr not_one ↦ elim (refused_or_not j i b a at_b at_a xs e) [
        | inl other ↦ inl (inr other)
        | inr not_other ↦ inr (λ r. elim r [ inl one ↦ not_one one | inr other ↦ not_other other ])
      ]
    ]

    first_from : (xs : List ℕ) (p : ℕ) → ((e : Event) × IsFirstEvent those group i j xs (Some e))
        ⊎ ((d : Event) → IsBetween those group i j xs d → event_place d < p → ⊥)
    first_from xs zero = inr (λ d refused less. omega (arith, less))
    first_from xs (suc p) = elim (first_from xs p) [
      | inl found ↦ inl found
      | inr none ↦ (
          let e = event_of those coded p in
          elim (between_or_not xs e.0) [
            | inl refused ↦ inl (e.0, (refused, λ d other less. none d other (omega (arith, less, e.1))))
            | inr fails ↦ inr (λ d refused less.
                none_between_more those group i j xs p e.0 e.1 fails none d refused (omega (arith, less)))
          ])
    ]

    first_tuple : (tuples : List (List ℕ)) (n : ℕ) → n ≤ length tuples
        → ((first : FirstEvent) × IsFirstTuple those group i j tuples (Some first))
        ⊎ NoneBetweenBelow those group i j tuples n
    first_tuple tuples zero most = inr (λ k ys less. absurd (omega (arith, less)))
    first_tuple tuples (suc n) most = elim (first_tuple tuples n (omega (arith, most))) [
      | inl found ↦ inl found
      | inr none ↦ (
          let x = some_at tuples n (omega (arith, most)) in
          let next : n + 1 ≡ suc n = omega arith in
          elim (first_from x.0 (2 * length whole)) [
            | inl found ↦ inl (record { place = n; event = found.0 }, (x.0, x.1, found.1, none))
            | inr fails ↦ inr (subst (NoneBetweenBelow those group i j tuples) next
                (tuple_passes those group i j tuples n x.0 x.1
                (none_between_all those group i j x.0 (2 * length whole) (omega arith) fails) none))
          ])
    ]

    told_of : (xs : List ℕ) (e : Event) → IsBetween those group i j xs e
        → (driver : ℕ) × (refuser : ℕ) × IsTold those group i j xs e driver refuser
    told_of xs e (inl r) = (i, j, (r, inl (refl, refl)))
    told_of xs e (inr r) = (j, i, (r, inr (refl, refl)))

-- ---- what comes of a group
module _ (parts : List CodedGraph) (coded : All IsCoded parts) where
  -- it is free, or too large, or the two interfere
  abbrev Asked : List ℕ → ℕ → ℕ → Type 0
  Asked group i j = (AreFew (members parts group) × AreFree (members parts group) group i j)
      ⊎ (((x : Interference) × AreFew (members parts group) × IsInterference parts group i j x)
      ⊎ ((e : Misfit) × (e ≡ misfit.NoMemory → ⊥) × ShowsIn parts group i j e))

  asked : (group : List ℕ) (i j : ℕ) → IsGroup parts group → Contains group i → Contains group j → Asked group i j
  asked group i j is in_i in_j =
      let those = members parts group in
      let a = there_is group i in_i in
      let b = there_is group j in_j in
      elim (cases_lt max_signals (length (joined_names those))) [
        | inl more ↦ inr (inr (misfit.TooMany (length (joined_names those)), λ same. cc, (refl, more)))
        | inr few ↦ elim (all_or_many those (members_coded parts group is coded)) [
          | inr many ↦ inr (inr (misfit.States, λ same. cc, (few, many)))
          | inl found ↦ (
              let are_few : AreFew those =
              record { signals = few; states = few_states those found.0 found.1 } in
              elim (first_tuple those (members_coded parts group is coded) group is.in_order
              (sym (length-map group (part parts))) i j a.0 b.0 a.2 b.2 found.0 (length found.0) (omega arith)) [
                | inr none ↦ inl (are_few, free_where_none those group i j found.0 found.1 none)
                | inl first ↦ (
                    let told = told_of those (members_coded parts group is coded) group is.in_order
                    (sym (length-map group (part parts))) i j a.0 b.0 a.2 b.2 first.1.0 first.0.event first.1.2.0 in
                    inr (inl (
                      record {
                        group = group;
                        at = first.1.0;
                        name = name_of (joined_signals those) first.0.event.sig;
                        up = first.0.event.up;
                        driver = told.0;
                        refuser = told.1;
                      },
                      are_few,
                      record {
                        group_is = refl;
                        event = first.0.event;
                        first = first_where_some those group i j found.0 found.1 first.0.place first.1.0
                            first.0.event told.0 told.1 first.1.1 first.1.2 first.1.3 told.2;
                        named = refl;
                        rises = refl;
                      },
                    )))
              ])
        ]
      ]

  -- ---- what comes of two parts
  module _ (i j : ℕ) (looked : IsLookedAt parts i j) (within : j < length parts) where
    abbrev Settled : Type 0
    Settled = ((n : ℕ) × AreFreeAt parts i j n)
        ⊎ ((e : Misfit) × (e ≡ misfit.NoMemory → ⊥) × StopsPair parts i j e)

    stops_by : (n : ℕ) → AreWidened parts i j n → (e : Misfit) → (e ≡ misfit.NoMemory → ⊥)
        → ShowsIn parts (group_of parts i j n) i j e → StopsPair parts i j e
    stops_by n before misfit.NoMemory is x = absurd (is refl)
    stops_by n before (misfit.Signal clash name) is x = (n, before, x)
    stops_by n before (misfit.TooMany count) is x = (n, before, x)
    stops_by n before misfit.States is x = (n, before, x)
    stops_by n before (misfit.Interferes y) is x = (n, before, x)

    settle : (fuel n : ℕ) → n + fuel ≡ length parts → n + 2 ≤ length (group_of parts i j n) → AreWidened parts i j n
        → Settled
    settle zero n sum long before =
        let few = (group_is parts i j looked.0 within n).few in
        absurd (omega (arith, sum, long, few))
    settle (suc fuel) n sum long before =
        let group = group_of parts i j n in
        let there = both_there parts i j looked.0 within looked.1 n in
        elim (asked group i j (group_is parts i j looked.0 within n) there.0 there.1) [
          | inl free ↦ inl (n, record { widened_before = before; few = free.0; free = free.1 })
          | inr (inr large) ↦ inr (large.0, large.1, stops_by n before large.0 large.1 large.2)
          | inr (inl found) ↦ elim (cases_lt (length group) (length (widened parts group))) [
            | inr widest ↦ inr (
              misfit.Interferes found.0,
              λ same. cc,
              (
                n,
                before,
                (found.1, found.2, λ grows. (let more = grows in omega (arith, more, widest))),
              ),
            )
            | inl grows ↦ (
                let more = widened_more parts i j n group (widened parts group) found.0 refl before
                (found.1, found.2) refl grows in
                let next : n + 1 ≡ suc n = omega arith in
                settle fuel (suc n) (omega (arith, sum)) (omega (arith, long, grows))
                (subst (AreWidened parts i j) next more.1))
          ]
        ]

    settled : Settled
    settled = settle (length parts) 0 (omega arith) (omega arith) (λ m less. absurd (omega (arith, less)))

  -- ---- what comes of all pairs
  looked_or_not : (i j : ℕ) → Decided (IsLookedAt parts i j)
  looked_or_not i j = elim (cases_lt i j) [
    | inr past ↦ inr (λ looked. (let less = looked.0 in omega (arith, past, less)))
    | inl less ↦ elim (cases_Bool (share (part parts i) (part parts j))) [
      | inl shares ↦ inl (less, shares)
      | inr apart ↦ inr (λ looked. true≢false (sym looked.1 ∙ apart))
    ]
  ]

  abbrev Misfits : (Misfit → Type 0) → Type 0
  Misfits P = (e : Misfit) × (e ≡ misfit.NoMemory → ⊥) × P e

  with_others : (i j : ℕ) → j ≤ length parts
      → ((total : ℕ) × IsFreeWith parts i j total) ⊎ Misfits (StopsPart parts i)
  with_others i zero most = inl (0, refl)
  with_others i (suc j) most = elim (with_others i j (omega (arith, most))) [
    | inr found ↦ inr found
    | inl free ↦ elim (looked_or_not i j) [
      | inr passed ↦ inl (free.0, (free.0, free.1, inr (passed, refl)))
      | inl looked ↦ elim (settled i j looked (omega (arith, most))) [
        | inl at ↦ inl (free.0 + suc at.0, (free.0, free.1, inl (looked, (at.0, at.1, refl))))
        | inr stops ↦ inr (
          stops.0,
          stops.1,
          record {
            j = j;
            within = omega (arith, most);
            looked_at = looked;
            groups = free.0;
            free_with = free.1;
            stops = stops.2;
          },
        )
      ]
    ]
  ]

  all_pairs : (i : ℕ) → i ≤ length parts
      → ((total : ℕ) × AreFreeBelow parts i total) ⊎ Misfits (IsFirstMisfit parts)
  all_pairs zero most = inl (0, refl)
  all_pairs (suc i) most = elim (all_pairs i (omega (arith, most))) [
    | inr found ↦ inr found
    | inl free ↦ elim (with_others i (length parts) (omega arith)) [
      | inl own ↦ inl (free.0 + own.0, (free.0, free.1, (own.0, own.1, refl)))
      | inr stops ↦ inr (
        stops.0,
        stops.1,
        record {
          i = i;
          j = stops.2.j;
          within = stops.2.within;
          looked_at = stops.2.looked_at;
          groups = free.0;
          free_below = free.1;
          own_groups = stops.2.groups;
          free_with = stops.2.free_with;
          stops = stops.2.stops;
        },
      )
    ]
  ]

  shows_pair : CanBeJoined parts → (e : Misfit) → (e ≡ misfit.NoMemory → ⊥) → IsFirstMisfit parts e
      → ShowsMisfit parts e
  shows_pair joined misfit.NoMemory is x = absurd (is refl)
  shows_pair joined (misfit.Signal clash name) is x = absurd x.stops.2
  shows_pair joined (misfit.TooMany count) is x = (joined, x)
  shows_pair joined misfit.States is x = (joined, x)
  shows_pair joined (misfit.Interferes y) is x = (joined, x)

pub work_or_misfit : (parts : List CodedGraph) → All IsCoded parts
    → ((signals : ℕ) × (groups : ℕ) × WorkTogether parts signals groups)
    ⊎ ((e : Misfit) × (e ≡ misfit.NoMemory → ⊥) × ShowsMisfit parts e)
work_or_misfit parts coded = elim (first_clash parts (distinct_at parts coded) Driven) [
  | inl clash ↦ inr (misfit.Signal Driven clash.0, λ same. cc, clash.1)
  | inr driven ↦ elim (first_clash parts (distinct_at parts coded) Private) [
    | inl clash ↦ inr (misfit.Signal Private clash.0, λ same. cc, (driven, clash.1))
    | inr private ↦ elim (first_clash parts (distinct_at parts coded) Starts) [
      | inl clash ↦ inr (misfit.Signal Starts clash.0, λ same. cc, (driven, private, clash.1))
      | inr starts ↦ (
          let joined : CanBeJoined parts = record { driven = driven; private = private; starts = starts } in
          elim (all_pairs parts coded (length parts) (omega arith)) [
            | inl free ↦ inl (
              length (joined_names parts),
              free.0,
              record { joined = joined; signals_are = refl; free = free.1 },
            )
            | inr found ↦ inr (found.0, found.1, shows_pair parts coded joined found.0 found.1 found.2)
          ])
    ]
  ]
]
