-- Intervals that are asked for: by words and events, answered one after another.
use Rattle.std.proofs.Common.{◌≡◌, ◌≢◌, ℕ, ◌+◌, ◌*◌, ◌%◌, ◌^◌, ◌<◌, ◌≤◌, ◌==◌, ◌∙◌, Bool, true, List, [], ◌∷◌, ◌++◌}
use Rattle.std.proofs.Common.{length, get_or, set, take, drop, refl, sym, ap, ap₂, subst, arith, inl, inr, ◌⊎◌, ◌↔◌}
use Rattle.std.proofs.Common.{All, Contains, suc, append_assoc, bit_or, get_or-set_same, get_or-set_other}
use Rattle.std.proofs.lemmas.Bool.{cases_eq}
use Rattle.std.proofs.lemmas.List.{append-nil, take-append-le, take_more, take_all, map-append, length-map}
use Rattle.std.proofs.lemmas.List.{get_or_default}
use Rattle.std.proofs.lemmas.Nat.Bits.{bit_at_set_same, bit_at_set_other}
use Rattle.std.proofs.Math.Seq.{take-add}
use Rattle.std.specs.Int.{w128}
use Rattle.si_base.specs.declared.ids.Event.{Event}
use Rattle.si_base.specs.Bits.{bit}
use Rattle.si_base.specs.Graph.{StateGraph, IsGraph}
use Rattle.si_closures.specs.Loops.WordSearch.{column, HasBit}
use Rattle.si_closures.specs.Loops.Words.{IsEventAt}
use Rattle.si_closures.proofs.SameStates.{same_states}
use Rattle.si_closures.proofs.WordBits.{in_or}
use Rattle.si_closures.proofs.WordSearchLemmas.{in_column}
use Rattle.si_regions.specs.declared.regions.Component.{Component}
use Rattle.si_candidates.specs.Interval.{IsInterval}
use Rattle.si_candidates.specs.Loops.Asked.{Ask, asks_from, asks_of, asked_on, asked_for, AreReady, AreIntervalsOf}
use Rattle.si_candidates.specs.Loops.Adding.{with_blocks, AddsAsked, AddsFirst, AddsIntervals}
use Rattle.si_candidates.specs.Blocks.{state_set, max_blocks, AreIntervalsFrom, AreIntervals}
use Rattle.si_candidates.proofs.BlockLists.{with_blocks-append, full_blocks}
use Rattle.si_candidates.proofs.IntervalsExist.{some_interval}
use Rattle.si_candidates.proofs.BlockMarks.{marked_has, length-marked}

-- ---- a run of bits
-- the bits from the first one to the one before k
abbrev pub IsRun : ℕ → ℕ → ℕ → Type 0
IsRun first k bits = (j : ℕ) → j < 128 → (bit bits j ≡ true) ↔ ((first ≤ j) × (j < k))

pub longer_run : (first k bits : ℕ) → first ≤ k → k < 128 → IsRun first k bits
    → IsRun first (k + 1) (bit_or bits (1 * 2 ^ k % 2 ^ 128))
longer_run first k bits from small before j few = elim (cases_eq j k) [
  | inl same ↦ (
    λ has. (omega (arith, from, same), omega (arith, same)),
    λ both. ap (bit (bit_or bits (1 * 2 ^ k % 2 ^ 128))) same ∙ ap (λ b. b == 1) (bit_at_set_same w128 bits k small),
  )
  | inr other ↦ (
    λ has. (let both = (before j few).0 (sym (kept other) ∙ has) in (both.0, omega (arith, both.1))),
    λ both. kept other ∙ (before j few).1 (both.0, omega (arith, both.1, other)),
  )
]
  where
    kept : j ≢ k → bit (bit_or bits (1 * 2 ^ k % 2 ^ 128)) j ≡ bit bits j
    kept other = ap (λ b. b == 1) (bit_at_set_other w128 bits k small j other)

-- ---- bits for states
-- one of the first n states of the list is s
abbrev pub IsAmong : List ℕ → ℕ → ℕ → Type 0
IsAmong states n s = (j : ℕ) × (j < n) × (j < length states) × (get_or states j s ≡ s)

-- the first n states of the list have got the bits
abbrev pub AreGiven : List ℕ → List ℕ → ℕ → ℕ → List ℕ → Type 0
AreGiven old states bits n words =
    (k s : ℕ) → HasBit words k s ↔ (HasBit old k s ⊎ ((bit bits k ≡ true) × IsAmong states n s))

module _ (old states words : List ℕ) (bits n x w : ℕ) (inside : n < length states) (at : x ≡ get_or states n x)
    (within : x < length words) (is : w ≡ get_or words x 0) where
  abbrev given_words : List ℕ
  given_words = set words x (bit_or w bits)

  at_state : (k s : ℕ) → s ≡ x → bit (get_or given_words s 0) k ≡ bit (bit_or w bits) k
  at_state k s same = ap (λ t. bit (get_or given_words t 0) k) same
      ∙ ap (λ v. bit v k) (get_or-set_same words x (bit_or w bits) 0 within)

  elsewhere : (k s : ℕ) → s ≢ x → bit (get_or given_words s 0) k ≡ bit (get_or words s 0) k
  elsewhere k s other = ap (λ v. bit v k) (get_or-set_other words x s (bit_or w bits) 0 other)

  was : (k s : ℕ) → s ≡ x → bit w k ≡ bit (get_or words s 0) k
  was k s same = ap (λ v. bit v k) is ∙ ap (λ t. bit (get_or words t 0) k) (sym same)

  now_among : (s : ℕ) → s ≡ x → IsAmong states (n + 1) s
  now_among s same = (n, omega arith, inside, get_or_default states n s x inside ∙ sym at ∙ sym same)

  still_among : (s : ℕ) → IsAmong states n s → IsAmong states (n + 1) s
  still_among s (j, early, there, is_s) = (j, omega (arith, early), there, is_s)

  among_before : (s : ℕ) → s ≢ x → IsAmong states (n + 1) s → IsAmong states n s
  among_before s other (j, early, there, is_s) = elim (cases_eq j n) [
    | inl same ↦ absurd (other
        (sym is_s ∙ ap (λ i. get_or states i s) same ∙ get_or_default states n s x inside ∙ sym at))
    | inr later ↦ (j, omega (arith, early, later), there, is_s)
  ]

  pub one_given : AreGiven old states bits n words → AreGiven old states bits (n + 1) given_words
  one_given before k s = elim (cases_eq s x) [
    | inl same ↦ (
      λ has. elim ((in_or w bits k).0 (sym (at_state k s same) ∙ has)) [
        | inl had ↦ old_or_new s k ((before k s).0 (sym (was k s same) ∙ had))
        | inr new ↦ inr (new, now_among s same)
      ],
      λ given. at_state k s same ∙ (in_or w bits k).1 (elim given [
        | inl first ↦ inl (was k s same ∙ (before k s).1 (inl first))
        | inr (new, among) ↦ inr new
      ]),
    )
    | inr other ↦ (
      λ has. old_or_new s k ((before k s).0 (sym (elsewhere k s other) ∙ has)),
      λ given. elsewhere k s other ∙ (before k s).1 (elim given [
        | inl first ↦ inl first
        | inr (new, among) ↦ inr (new, among_before s other among)
      ]),
    )
  ]
    where
      old_or_new : (s k : ℕ) → HasBit old k s ⊎ ((bit bits k ≡ true) × IsAmong states n s)
          → HasBit old k s ⊎ ((bit bits k ≡ true) × IsAmong states (n + 1) s)
      old_or_new s k (inl first) = inl first
      old_or_new s k (inr (new, among)) = inr (new, still_among s among)

-- ---- what words and events ask for
asked-append : (k : ℕ) (words : List ℕ) (xs ys : List Event)
    → asked_on k words (xs ++ ys) ≡ asked_on k words xs ++ asked_on (k + length xs) words ys
asked-append k words [] ys = ap (λ j. asked_on j words ys) (let e : k ≡ k + 0 = omega arith in e)
asked-append k words (x ∷ xs) ys = ap (λ asks. record { from = column k words; stop = x } ∷ asks)
    (asked-append (k + 1) words xs ys
    ∙ ap (λ j. asked_on (k + 1) words xs ++ asked_on j words ys)
    (let e : (k + 1) + length xs ≡ k + length (x ∷ xs) = omega arith in e))

same_asked : (k : ℕ) (old new : List ℕ) (stops : List Event)
    → ((j : ℕ) → k ≤ j → j < k + length stops → column j new ≡ column j old)
    → asked_on k new stops ≡ asked_on k old stops
same_asked k old new [] same = refl
same_asked k old new (x ∷ stops) same = ap₂ (λ (a : Ask) (asks : List Ask). a ∷ asks)
    (ap (λ (set : List Bool). record { from = set; stop = x }) (same k (omega arith) (omega arith)))
    (same_asked (k + 1) old new stops (λ j from below. same j (omega (arith, from)) (omega (arith, below))))

asked_from : (k : ℕ) (words : List ℕ) (from : List Bool) (stops : List Event)
    → ((j : ℕ) → k ≤ j → j < k + length stops → column j words ≡ from) → asked_on k words stops ≡ asks_from from stops
asked_from k words from [] same = refl
asked_from k words from (x ∷ stops) same = ap₂ (λ (a : Ask) (asks : List Ask). a ∷ asks)
    (ap (λ (set : List Bool). record { from = set; stop = x }) (same k (omega arith) (omega arith)))
    (asked_from (k + 1) words from stops (λ j at below. same j (omega (arith, at)) (omega (arith, below))))

-- some states have got the bits of more events
module _ (old new from : List ℕ) (stops more : List Event) (bits : ℕ) (ready : AreReady (length old) old stops)
    (room : length stops + length more ≤ 128) (size : length new ≡ length old)
    (run : (k : ℕ) → k < 128 → (bit bits k ≡ true) ↔ ((length stops ≤ k) × (k < length stops + length more)))
    (each : (k s : ℕ) → HasBit new k s ↔ (HasBit old k s ⊎ ((bit bits k ≡ true) × Contains from s)))
    (below : All (λ s. s < length old) from) where
  columns : length new ≡ length old → (k : ℕ) → length (column k new) ≡ length (column k old)
  columns same k = length-map new (λ (w : ℕ). bit w k) ∙ same ∙ sym (length-map old (λ (w : ℕ). bit w k))

  old_column : (k : ℕ) → k < length stops → column k new ≡ column k old
  old_column k early = same_states (column k new) (column k old) (columns size k)
      (λ s there. (in_column k old s).1 (elim ((each k s).0 ((in_column k new s).0 there)) [
        | inl has ↦ has
        | inr (late, there) ↦ absurd
            (let both = (run k (omega (arith, early, room))).0 late in omega (arith, both.0, early))
      ]))
      (λ s there. (in_column k new s).1 ((each k s).1 (inl ((in_column k old s).0 there))))

  new_column : (k : ℕ) → length stops ≤ k → k < length stops + length more → column k new ≡ state_set (length old) from
  new_column k late within =
      let few : k < 128 = omega (arith, within, room) in
      same_states (column k new) (state_set (length old) from)
      (length-map new (λ (w : ℕ). bit w k) ∙ size ∙ sym (length-marked (length old) from))
      (λ s there. elim ((each k s).0 ((in_column k new s).0 there)) [
        | inl has ↦ absurd (ready.free k s late few has)
        | inr (_, listed) ↦ (marked_has (length old) from s).1 (listed_below s listed, listed)
      ])
      (λ s there. (in_column k new s).1 ((each k s).1 (inr (
        (run k few).1 (late, within),
        ((marked_has (length old) from s).0 there).1,
      ))))
    where
      listed_below : (s : ℕ) → Contains from s → s < length old
      listed_below s (j, inside, at) = subst (λ t. t < length old) at (below j s inside)

  pub asked_more : asked_for new (stops ++ more) ≡ asked_for old stops ++ asks_from (state_set (length old) from) more
  asked_more = asked-append 0 new stops more ∙ ap₂ (λ (xs ys : List Ask). xs ++ ys)
      (same_asked 0 old new stops (λ j _ early. old_column j (omega (arith, early))))
      (asked_from (0 + length stops) new (state_set (length old) from) more
      (λ j late within. new_column j (omega (arith, late)) (omega (arith, within))))

-- ---- their intervals
are_append : (g : StateGraph) (xs ys : List Ask) (here rest : List (List Bool)) → AreIntervalsOf g xs here
    → AreIntervalsOf g ys rest → AreIntervalsOf g (xs ++ ys) (here ++ rest)
are_append g [] ys [] rest a b = b
are_append g [] ys (x ∷ here) rest a b = absurd a
are_append g (e ∷ xs) ys [] rest a b = absurd a
are_append g (e ∷ xs) ys (x ∷ here) rest (is, more) b = (is, are_append g xs ys here rest more b)

-- those of the one list of asks, and those of the other
pub record AreSplit (g : StateGraph) (xs ys : List Ask) (sets : List (List Bool)) : Type 0 where
  pub here : List (List Bool)
  pub rest : List (List Bool)
  pub parts : sets ≡ here ++ rest
  pub here_are : AreIntervalsOf g xs here
  pub rest_are : AreIntervalsOf g ys rest

are_split : (g : StateGraph) (xs ys : List Ask) (sets : List (List Bool)) → AreIntervalsOf g (xs ++ ys) sets
    → AreSplit g xs ys sets
are_split g [] ys sets are = record { here = []; rest = sets; parts = refl; here_are = tt; rest_are = are }
are_split g (x ∷ xs) ys [] are = absurd are
are_split g (x ∷ xs) ys (set ∷ sets) (is, are) =
    let more = are_split g xs ys sets are in
    record {
      here = set ∷ more.here;
      rest = more.rest;
      parts = ap (λ zs. set ∷ zs) more.parts;
      here_are = (is, more.here_are);
      rest_are = more.rest_are;
    }

are_from : (g : StateGraph) (from : List Bool) (stops : List Event) (sets : List (List Bool))
    → AreIntervalsOf g (asks_from from stops) sets → AreIntervalsFrom g from stops sets
are_from g from [] [] are = tt
are_from g from [] (x ∷ sets) are = absurd are
are_from g from (stop ∷ stops) [] are = absurd are
are_from g from (stop ∷ stops) (x ∷ sets) (is, are) = (is, are_from g from stops sets are)

are_each : (g : StateGraph) (stops : List Event) (components : List Component) (sets : List (List Bool))
    → AreIntervalsOf g (asks_of g.states stops components) sets → AreIntervals g stops components sets
are_each g stops [] [] are = refl
are_each g stops [] (x ∷ sets) are = absurd are
are_each g stops (r ∷ components) sets are =
    let later = asks_of g.states stops components in
    let split = are_split g (asks_from (state_set g.states r.sr) stops) later sets are in (
      split.here,
      split.rest,
      split.parts,
      are_from g (state_set g.states r.sr) stops split.here split.here_are,
      are_each g stops components split.rest split.rest_are,
    )

some_asked : (g : StateGraph) (k : ℕ) (words : List ℕ) (stops : List Event) → IsGraph g → length words ≡ g.states
    → (sets : List (List Bool)) × AreIntervalsOf g (asked_on k words stops) sets
some_asked g k words [] is size = ([], tt)
some_asked g k words (stop ∷ stops) is size =
    let here = some_interval g stop is (column k words) (length-map words (λ (w : ℕ). bit w k) ∙ size) in
    let rest = some_asked g (k + 1) words stops is size in
    (here.0 ∷ rest.0, (here.1, rest.1))

-- ---- the list of blocks grows by them
module _ (g : StateGraph) where
  adds_none : (found : List (List Bool)) → AddsAsked g [] found found
  adds_none found = record { sets = []; are = tt; added = refl }

  adds_both : (xs ys : List Ask) (old mid new : List (List Bool)) → AddsAsked g xs old mid → AddsAsked g ys mid new
      → AddsAsked g (xs ++ ys) old new
  adds_both xs ys old mid new a b = record {
    sets = a.sets ++ b.sets;
    are = are_append g xs ys a.sets b.sets a.are b.are;
    added = b.added ∙ ap (λ zs. with_blocks zs b.sets) a.added ∙ sym (with_blocks-append old a.sets b.sets);
  }

  -- enough sets stand
  pub adds_full : (words : List ℕ) (stops : List Event) (found : List (List Bool)) → IsGraph g
      → length words ≡ g.states → max_blocks ≤ length found → AddsAsked g (asked_for words stops) found found
  adds_full words stops found is size full =
      let sets = some_asked g 0 words stops is size in
      record { sets = sets.0; are = sets.1; added = sym (full_blocks found full sets.0) }

  -- each set is the interval that is asked for by the bit of its place, from bit k on
  intervals_asked : (k : ℕ) (seeds : List ℕ) (stops : List Event) (sets : List (List Bool))
      → length sets ≡ length stops
      → ((j : ℕ) (stop : Event) → IsEventAt stops j stop
      → IsInterval g (column (k + j) seeds) stop (get_or sets j []))
      → AreIntervalsOf g (asked_on k seeds stops) sets
  intervals_asked k seeds [] [] same each = tt
  intervals_asked k seeds [] (set ∷ sets) same each = absurd (omega (arith, same))
  intervals_asked k seeds (stop ∷ stops) [] same each = absurd (omega (arith, same))
  intervals_asked k seeds (stop ∷ stops) (set ∷ sets) same each =
      let here : k + 0 ≡ k = omega arith in (
        subst (λ n. IsInterval g (column n seeds) stop set) here
            (each 0 stop (record { inside = omega arith; same = refl })),
        intervals_asked (k + 1) seeds stops sets (omega (arith, same)) (λ j s at.
            later j s (each (suc j) s (record { inside = omega (arith, at.inside); same = at.same }))),
      )
    where
      later : (j : ℕ) (s : Event) → IsInterval g (column (k + suc j) seeds) s (get_or sets j [])
          → IsInterval g (column (k + 1 + j) seeds) s (get_or sets j [])
      later j s is =
          let next : k + suc j ≡ k + 1 + j = omega arith in
          subst (λ n. IsInterval g (column n seeds) s (get_or sets j [])) next is

  pub asked_added : (seeds words : List ℕ) (stops : List Event) (sets old new : List (List Bool))
      → length sets ≡ length stops
      → ((k : ℕ) → k < length stops → get_or sets k [] ≡ column k words)
      → ((k : ℕ) (stop : Event) → IsEventAt stops k stop → IsInterval g (column k seeds) stop (column k words))
      → new ≡ with_blocks old sets → AddsAsked g (asked_for seeds stops) old new
  asked_added seeds words stops sets old new same columns intervals added = record {
    sets = sets;
    are = intervals_asked 0 seeds stops sets same (λ k stop at.
        let first : k ≡ 0 + k = omega arith in
        subst (λ n. IsInterval g (column n seeds) stop (get_or sets k [])) first
        (subst (λ set. IsInterval g (column k seeds) stop set) (sym (columns k at.inside)) (intervals k stop at)));
    added = added;
  }

  -- ---- the first ones of them, while the others wait
  pub more_wait : (asks waited waiting : List Ask) (found : List (List Bool)) → waiting ≡ waited ++ asks
      → AddsFirst g asks waited found waiting found
  more_wait asks waited waiting found is = record { first = []; parts = sym is; adds = adds_none found }

  pub first_both : (xs ys a b c : List Ask) (old mid new : List (List Bool)) → AddsFirst g xs a old b mid
      → AddsFirst g ys b mid c new → AddsFirst g (xs ++ ys) a old c new
  first_both xs ys a b c old mid new one other = record {
    first = one.first ++ other.first;
    parts = sym (append_assoc a xs ys) ∙ ap (λ zs. zs ++ ys) one.parts ∙ append_assoc one.first b ys
        ∙ ap (λ zs. one.first ++ zs) other.parts ∙ sym (append_assoc one.first other.first c);
    adds = adds_both one.first other.first old mid new one.adds other.adds;
  }

  -- events after those at the front
  pub next_wait : (from : List Bool) (stops : List Event) (n m : ℕ) (a b waiting : List Ask)
      (old mid new : List (List Bool)) → AddsFirst g (asks_from from (take n stops)) a old b mid
      → AddsFirst g [] b mid waiting new
      → (c : List Ask) → c ≡ waiting ++ asks_from from (take m (drop n stops))
      → AddsFirst g (asks_from from (take (n + m) stops)) a old c new
  next_wait from stops n m a b waiting old mid new before room c is =
      subst (λ asks. AddsFirst g asks a old c new) (sym whole)
      (first_both here more a waiting c old new new
      (subst (λ asks. AddsFirst g asks a old waiting new) (append-nil here)
      (first_both here [] a b waiting old mid new before room)) (more_wait more waiting c new is))
    where
      here : List Ask
      here = asks_from from (take n stops)

      more : List Ask
      more = asks_from from (take m (drop n stops))

      whole : asks_from from (take (n + m) stops) ≡ here ++ more
      whole = ap (asks_from from) (take-add n m stops)
          ∙ map-append (λ (stop : Event). record { from = from; stop = stop }) (take n stops) (take m (drop n stops))

  -- ---- component after component
  asks-append : (stops : List Event) (xs ys : List Component)
      → asks_of g.states stops (xs ++ ys) ≡ asks_of g.states stops xs ++ asks_of g.states stops ys
  asks-append stops [] ys = refl
  asks-append stops (r ∷ xs) ys =
      ap (λ asks. asks_from (state_set g.states r.sr) stops ++ asks) (asks-append stops xs ys)
      ∙ sym (append_assoc (asks_from (state_set g.states r.sr) stops) (asks_of g.states stops xs)
      (asks_of g.states stops ys))

  pub component_more : (stops : List Event) (components : List Component) (k : ℕ) (r : Component) (from : List ℕ)
      (events : List Event) (a b c : List Ask) (old mid new : List (List Bool)) → k < length components
      → r ≡ get_or components k r → from ≡ r.sr → events ≡ stops
      → AddsFirst g (asks_of g.states stops (take k components)) a old b mid
      → AddsFirst g (asks_from (state_set g.states from) events) b mid c new
      → AddsFirst g (asks_of g.states stops (take (k + 1) components)) a old c new
  component_more stops components k r from events a b c old mid new inside at states same before one =
      subst (λ asks. AddsFirst g asks a old c new) (sym whole)
      (first_both (asks_of g.states stops (take k components)) (asks_from (state_set g.states from) events) a b c
      old mid new before one)
    where
      here : asks_from (state_set g.states r.sr) stops ≡ asks_from (state_set g.states from) events
      here = ap₂ (λ (xs : List ℕ) (es : List Event). asks_from (state_set g.states xs) es) (sym states) (sym same)

      whole : asks_of g.states stops (take (k + 1) components)
          ≡ asks_of g.states stops (take k components) ++ asks_from (state_set g.states from) events
      whole = ap (asks_of g.states stops) (take_more components k r inside
          ∙ ap (λ q. take k components ++ q ∷ []) (sym at))
          ∙ asks-append stops (take k components) (r ∷ [])
          ∙ ap (λ asks. asks_of g.states stops (take k components) ++ asks)
          (append-nil (asks_from (state_set g.states r.sr) stops) ∙ here)

  -- those that wait at the end are added, too
  pub adds_each : (stops : List Event) (components : List Component) (k : ℕ) (waited waiting : List Ask)
      (old mid new : List (List Bool)) → length components ≤ k → waited ≡ []
      → AddsFirst g (asks_of g.states stops (take k components)) waited old waiting mid → AddsAsked g waiting mid new
      → AddsIntervals g stops components old new
  adds_each stops components k waited waiting old mid new all none before last =
      let both = adds_both before.first waiting old mid new before.adds last in
      let parts : before.first ++ waiting ≡ asks_of g.states stops components =
      sym before.parts ∙ ap (λ asks. asks ++ asks_of g.states stops (take k components)) none
      ∙ ap (asks_of g.states stops) (take_all k components all) in
      record {
        sets = both.sets;
        are = are_each g stops components both.sets (subst (λ asks. AreIntervalsOf g asks both.sets) parts both.are);
        added = both.added;
      }

-- ---- a list that was lent whole
pub written_back : {X : Type 0} (size : ℕ) (new old : List X) → length new ≡ size → length old ≡ size
    → take size (new ++ drop (length new) old) ≡ new
written_back size new old full same =
    take-append-le size new (drop (length new) old) (omega arith) ∙ take_all size new (omega arith)
