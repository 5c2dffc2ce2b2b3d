-- The search for switching states from turn to turn, one set beside another.
use Rattle.std.proofs.Common.{◌≡◌, ℕ, ◌⊎◌, ◌-◌, ◌^◌, ◌<◌, ◌≤◌, Bool, true, false, List, [], ◌∷◌, length, get_or, set}
use Rattle.std.proofs.Common.{refl, sym, ap, subst, ◌∙◌, arith, inl, inr, bit_and, length-set, replicate}
use Rattle.std.proofs.lemmas.Bool.{cases_eq, cases_lt, cases_Bool, true≢false}
use Rattle.std.proofs.lemmas.List.{length-map, length-replicate, get_or-replicate, get_or_past}
use Rattle.std.proofs.lemmas.Nat.{and_le_l}
use Rattle.si_base.specs.Bits.{bit}
use Rattle.si_base.specs.Graph.{StateGraph}
use Rattle.si_base.specs.Sets.{IsIn}
use Rattle.si_graph.proofs.SearchLemmas.{in_below}
use Rattle.si_closures.specs.Loops.WordSearch.{column, HasBit, HasNone, Spreads, SpreadsAll}
use Rattle.si_closures.specs.Loops.Words.{HasAll}
use Rattle.si_closures.proofs.WordBits.{in_and, in_less, no_bit_of_none}
use Rattle.si_closures.proofs.WordSearchLemmas.{in_column, column-at, others_wait}
use Rattle.si_divisor.specs.declared.switching.Switched.{Switched}
use Rattle.si_divisor.specs.Loops.SwitchRules.{AllIn, Among, SwitchRule, FollowsByRule, OmitsState, IsCrossed}
use Rattle.si_divisor.specs.Loops.ManySwitching.{AreSwitched, BelongsTo}
use Rattle.si_divisor.specs.Switching.{Switches}
use Rattle.si_divisor.specs.Targets.{IsLeast, target}
use Rattle.si_divisor.proofs.SwitchRuleLemmas.{first_rule, fires_at, least_switches}
use Rattle.si_divisor.proofs.SwitchTurns.{crossed_belongs}

-- ---- states that wait
abbrev pub SomeWaits : List Bool → List ℕ → Type 0
SomeWaits work [] = ⊥
SomeWaits work (p ∷ ps) = IsIn work p ⊎ SomeWaits work ps

some_wait_on : (work after : List Bool) → ((t : ℕ) → IsIn work t → IsIn after t) → (ps : List ℕ) → SomeWaits work ps
    → SomeWaits after ps
some_wait_on work after on [] some = some
some_wait_on work after on (p ∷ ps) (inl here) = inl (on p here)
some_wait_on work after on (p ∷ ps) (inr later) = inr (some_wait_on work after on ps later)

-- of those that wait x is taken
without_one : (work : List Bool) (x : ℕ) (ps : List ℕ) → SomeWaits work ps
    → SomeWaits (set work x false) ps ⊎ Among x ps
without_one work x [] some = absurd some
without_one work x (p ∷ ps) (inl here) = elim (cases_eq p x) [
  | inl same ↦ inr (inl same)
  | inr other ↦ inl (inl (others_wait work x p other here))
]
without_one work x (p ∷ ps) (inr later) = elim (without_one work x ps later) [
  | inl left ↦ inl (inr left)
  | inr among ↦ inr (inr among)
]

none_wait : (work : List Bool) → HasNone work → (ps : List ℕ) → SomeWaits work ps → ⊥
none_wait work none [] some = some
none_wait work none (p ∷ ps) (inl here) = none p here
none_wait work none (p ∷ ps) (inr later) = none_wait work none ps later

one_of_all : (marks : List Bool) (x : ℕ) (ps : List ℕ) → Among x ps → AllIn marks ps → IsIn marks x
one_of_all marks x [] among all = absurd among
one_of_all marks x (p ∷ ps) (inl same) (here, rest) = subst (IsIn marks) same here
one_of_all marks x (p ∷ ps) (inr among) (here, rest) = one_of_all marks x ps among rest

-- ---- between two turns
-- the words and those that wait, and the sets that are kept
pub record AreSearched (g : StateGraph) (highs : List ℕ) (given : ℕ) (within words : List ℕ) (work : List Bool)
    (kept : ℕ) : Type 0 where
  pub size : length words ≡ g.states
  pub waiting : length work ≡ g.states
  pub sound : (k t : ℕ) → HasBit words k t → BelongsTo g highs k t
  pub closed : (k : ℕ) → bit kept k ≡ true → (ps : List ℕ) (t : ℕ) → SwitchRule g (column k highs) ps t
      → AllIn (column k words) ps → HasBit words k t ⊎ SomeWaits work ps
  pub inside : (k t : ℕ) → bit kept k ≡ true → HasBit words k t → IsIn (column k within) t ⊎ IsIn work t
  pub given_too : (k : ℕ) → bit kept k ≡ true → bit given k ≡ true
  pub dropped : (k : ℕ) → k < 128 → bit given k ≡ true
      → (bit kept k ≡ true) ⊎ OmitsState g (column k highs) (column k within)

in_words : (words : List ℕ) (k s : ℕ) → HasBit words k s → s < length words
in_words words k s has =
    let below = in_below (column k words) s ((in_column k words s).1 has) in
    omega (arith, below, length-map words (λ (w : ℕ). bit w k))

abbrev no_words : ℕ → List ℕ
no_words n = replicate n 0

no_bits : (n k s : ℕ) → HasBit (no_words n) k s → ⊥
no_bits n k s has = no_bit_of_none (get_or (no_words n) s 0) k (zero_at (cases_lt s n)) has
  where
    zero_at : (s < n) ⊎ (n ≤ s) → get_or (no_words n) s 0 ≡ 0
    zero_at (inl below) = get_or-replicate n s 0 0 below
    zero_at (inr past) = get_or_past (no_words n) s 0 (let none : ℕ = 0 in omega (arith, length-replicate n none, past))

outside : (within : List ℕ) (k s : ℕ) → bit (get_or within s 0) k ≡ false → get_or (column k within) s false ≡ false
outside within k s out = column-at k within s ∙ out

pub have_at : (words : List ℕ) (kept x v w : ℕ) → v ≡ get_or words x 0 → (k : ℕ)
    → bit (bit_and (bit_and kept v) w) k ≡ true → HasBit words k x
have_at words kept x v w is k has =
    let both = (in_and kept v k).0 ((in_and (bit_and kept v) w k).0 has).0 in ap (λ (u : ℕ). bit u k) (sym is) ∙ both.1

module _ (g : StateGraph) (highs : List ℕ) (given : ℕ) (within : List ℕ) where
  -- after the states that are entered from a low one
  module _ (n : ℕ) (old_words : List ℕ) (old_work : List Bool) (words : List ℕ) (work : List Bool) (kept : ℕ)
      (count : n ≡ g.states) (empty : old_words ≡ replicate n 0) (idle : old_work ≡ replicate n false)
      (m : SpreadsAll (λ k t. (bit given k ≡ true) × IsCrossed g (column k highs) t) old_words old_work words work)
      (given_too : (k : ℕ) → bit kept k ≡ true → bit given k ≡ true)
      (others : (k : ℕ) → k < 128 → bit given k ≡ true → (bit kept k ≡ true) ⊎ ((s : ℕ) × HasBit words k s
      × (bit (get_or within s 0) k ≡ false))) where
    none_yet : (k t : ℕ) → HasBit old_words k t → ⊥
    none_yet k t has = no_bits n k t (subst (λ (ws : List ℕ). HasBit ws k t) empty has)

    first_size : length words ≡ g.states
    first_size = m.spreads.size ∙ ap length empty ∙ length-replicate n 0 ∙ count

    first_belong : (k t : ℕ) → HasBit words k t → BelongsTo g highs k t
    first_belong k t has = elim (m.spreads.sound k t has) [
      | inl old ↦ absurd (none_yet k t old)
      | inr new ↦ crossed_belongs g (column k highs) t new.1
    ]

    first_wait : (k t : ℕ) → HasBit words k t → IsIn work t
    first_wait k t has = elim (m.spreads.queued k t has) [
      | inl old ↦ absurd (none_yet k t old)
      | inr waits ↦ waits
    ]

    first_closed : (k : ℕ) → bit given k ≡ true → (ps : List ℕ) (t : ℕ) → SwitchRule g (column k highs) ps t
        → AllIn (column k words) ps → HasBit words k t ⊎ SomeWaits work ps
    first_closed k is [] t rule all = inl (m.all k t (is, first_rule g (column k highs) t rule))
    first_closed k is (p ∷ ps) t rule all = inr (inl (first_wait k p ((in_column k words p).0 all.0)))

    pub search_begins : AreSearched g highs given within words work kept
    search_begins = record {
      size = first_size;
      waiting = m.spreads.work_size ∙ ap length idle ∙ length-replicate n false ∙ count;
      sound = first_belong;
      closed = λ k is ps t rule all. first_closed k (given_too k is) ps t rule all;
      inside = λ k t is has. inr (first_wait k t has);
      given_too = given_too;
      dropped = λ k few is. elim (others k few is) [
        | inl stays ↦ inl stays
        | inr (s, has, out) ↦ inr (
          s,
          let below = in_words words k s has in omega (arith, below, first_size),
          first_belong k s has,
          outside within k s out,
        )
      ];
    }

  -- a turn at x, of which v is the word, and w that of the sets within
  module _ (words : List ℕ) (work : List Bool) (kept x v w : ℕ) (kept_fits : kept < 2 ^ 128) (w_fits : w < 2 ^ 128)
      (v_is : v ≡ get_or words x 0) (w_is : w ≡ get_or within x 0)
      (before : AreSearched g highs given within words work kept) (waits : IsIn work x) where
    abbrev pub sets_at : ℕ
    sets_at = bit_and kept v

    abbrev pub inside_at : ℕ
    inside_at = bit_and sets_at w

    abbrev pub strays_at : ℕ
    strays_at = bit_and sets_at (2 ^ 128 - 1 - w)

    abbrev pub kept_on : ℕ
    kept_on = bit_and kept (2 ^ 128 - 1 - strays_at)

    sets_fit : sets_at < 2 ^ 128
    sets_fit = omega (arith, and_le_l kept v, kept_fits)

    strays_fit : strays_at < 2 ^ 128
    strays_fit = omega (arith, and_le_l sets_at (2 ^ 128 - 1 - w), sets_fit)

    still_kept : (k : ℕ) → bit kept_on k ≡ true → bit kept k ≡ true
    still_kept k is = ((in_less kept strays_at k kept_fits strays_fit).0 is).0

    -- a set that is kept and has x has it within
    kept_inside : (k : ℕ) → bit kept_on k ≡ true → HasBit words k x → bit inside_at k ≡ true
    kept_inside k is has = elim (cases_Bool (bit w k)) [
      | inl there ↦ (in_and sets_at w k).1 (has_it, there)
      | inr out ↦ absurd (true≢false (sym ((in_less sets_at w k sets_fit w_fits).1 (has_it, out)) ∙ no_stray))
    ]
      where
        has_it : bit sets_at k ≡ true
        has_it = (in_and kept v k).1 (still_kept k is, ap (λ (u : ℕ). bit u k) v_is ∙ has)

        no_stray : bit strays_at k ≡ false
        no_stray = ((in_less kept strays_at k kept_fits strays_fit).0 is).1

    dropped_at : (k : ℕ) → bit kept k ≡ true
        → (bit kept_on k ≡ true) ⊎ (HasBit words k x × (bit (get_or within x 0) k ≡ false))
    dropped_at k is = elim (cases_Bool (bit strays_at k)) [
      | inl stray ↦ (
          let parts = (in_less sets_at w k sets_fit w_fits).0 stray in
          let has = (in_and kept v k).0 parts.0 in
          inr (ap (λ (u : ℕ). bit u k) (sym v_is) ∙ has.1, ap (λ (u : ℕ). bit u k) (sym w_is) ∙ parts.1))
      | inr none ↦ inl ((in_less kept strays_at k kept_fits strays_fit).1 (is, none))
    ]

    module _ (after : List ℕ) (new_work : List Bool)
        (m : Spreads (BelongsTo g highs) words (set work x false) after new_work)
        (done : (k t : ℕ) → bit inside_at k ≡ true → FollowsByRule g (column k highs) (column k words) x t
        → HasBit after k t) where
      all_or_some : (k : ℕ) (ps : List ℕ) → AllIn (column k after) ps
          → AllIn (column k words) ps ⊎ SomeWaits new_work ps
      all_or_some k [] all = inl tt
      all_or_some k (p ∷ ps) (here, rest) = elim (m.queued k p ((in_column k after p).0 here)) [
        | inl old ↦ elim (all_or_some k ps rest) [
          | inl olds ↦ inl ((in_column k words p).1 old, olds)
          | inr some ↦ inr (inr some)
        ]
        | inr waiting ↦ inr (inl waiting)
      ]

      on_closed : (k : ℕ) → bit kept_on k ≡ true → (ps : List ℕ) (t : ℕ) → SwitchRule g (column k highs) ps t
          → AllIn (column k words) ps → HasBit after k t ⊎ SomeWaits new_work ps
      on_closed k is ps t rule all = elim (before.closed k (still_kept k is) ps t rule all) [
        | inl there ↦ inl (m.grows k t there)
        | inr some ↦ elim (without_one work x ps some) [
          | inl left ↦ inr (some_wait_on (set work x false) new_work m.waits ps left)
          | inr among ↦ (
              let has = (in_column k words x).0 (one_of_all (column k words) x ps among all) in
              inl (done k t (kept_inside k is has)
              (fires_at g (column k highs) (column k words) x ps t rule among all)))
        ]
      ]

      on_inside : (k t : ℕ) → bit kept_on k ≡ true → HasBit words k t → IsIn (column k within) t ⊎ IsIn new_work t
      on_inside k t is has = elim (cases_eq t x) [
        | inl same ↦ inl (subst (IsIn (column k within)) (sym same) ((in_column k within x).1
            (ap (λ (u : ℕ). bit u k) (sym w_is) ∙ ((in_and sets_at w k).0 (kept_inside k is
            (subst (HasBit words k) same has))).1)))
        | inr other ↦ elim (before.inside k t (still_kept k is) has) [
          | inl there ↦ inl there
          | inr waiting ↦ inr (m.waits t (others_wait work x t other waiting))
        ]
      ]

      pub search_goes_on : AreSearched g highs given within after new_work kept_on
      search_goes_on = record {
        size = m.size ∙ before.size;
        waiting = m.work_size ∙ length-set work x false ∙ before.waiting;
        sound = λ k t has. elim (m.sound k t has) [ inl old ↦ before.sound k t old | inr belongs ↦ belongs ];
        closed = λ k is ps t rule all. elim (all_or_some k ps all) [
          | inl olds ↦ on_closed k is ps t rule olds
          | inr some ↦ inr some
        ];
        inside = λ k t is has. elim (m.queued k t has) [
          | inl old ↦ on_inside k t is old
          | inr waiting ↦ inr waiting
        ];
        given_too = λ k is. before.given_too k (still_kept k is);
        dropped = λ k few is. elim (before.dropped k few is) [
          | inl stays ↦ elim (dropped_at k stays) [
            | inl still ↦ inl still
            | inr (has, out) ↦ inr (
              x,
              let below = in_words words k x has in omega (arith, below, before.size),
              before.sound k x has,
              outside within k x out,
            )
          ]
          | inr omits ↦ inr omits
        ];
      }

  pub search_ends : (found : Switched) (work : List Bool)
      → AreSearched g highs given within found.words.items work found.kept → HasNone work
      → AreSwitched g highs given within found
  search_ends found work x none = record {
    size = x.size;
    given_too = x.given_too;
    least = λ k is. least_switches g (column k highs) (column k found.words.items)
        (length-map found.words.items (λ (u : ℕ). bit u k) ∙ x.size)
        (λ t there. x.sound k t ((in_column k found.words.items t).0 there))
        (λ ps t rule all. (in_column k found.words.items t).1 (elim (x.closed k is ps t rule all) [
          | inl there ↦ there
          | inr some ↦ absurd (none_wait work none ps some)
        ]));
    inside = λ k is t there. elim (x.inside k t is ((in_column k found.words.items t).0 there)) [
      | inl inside ↦ inside
      | inr waits ↦ absurd (none t waits)
    ];
    dropped = λ k few is out. elim (x.dropped k few is) [
      | inl stays ↦ absurd (true≢false (sym stays ∙ out))
      | inr omits ↦ omits
    ];
  }

-- ---- one set alone, of which all states are within
pub whole_alone : (g : StateGraph) (high : List Bool) (highs within : List ℕ) (found : Switched)
    → column 0 highs ≡ high → HasAll g.states within → AreSwitched g highs 1 within found
    → IsLeast g.states (Switches g (target high) true) (column 0 found.words.items)
whole_alone g high highs within found same all are = subst At same (elim (cases_Bool (bit found.kept 0)) [
  | inl kept ↦ are.least 0 kept
  | inr out ↦ (
      let (s, below, belongs, omitted) = are.dropped 0 (omega arith) refl out in
      absurd (true≢false (sym (all.each 0 s (omega arith) below) ∙ sym (column-at 0 within s) ∙ omitted)))
])
  where
    At : List Bool → Type 0
    At set = IsLeast g.states (Switches g (target set) true) (column 0 found.words.items)
