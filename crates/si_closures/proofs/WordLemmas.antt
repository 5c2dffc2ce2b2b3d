-- Words for states or events: what their bits say, one set beside another.
use Rattle.std.proofs.Common.{◌≡◌, ◌≢◌, ℕ, ◌+◌, ◌-◌, ◌*◌, ◌%◌, ◌^◌, ◌<◌, ◌≤◌, ◌==◌, Bool, true, false}
use Rattle.std.proofs.Common.{◌∙◌, sym, refl, ap, ap₂, subst, arith, List, length, get_or}
use Rattle.std.proofs.Common.{set, replicate, inl, inr, ◌⊎◌, ◌↔◌, get_or-set_same, get_or-set_other, length-set}
use Rattle.std.proofs.Common.{bit_and}
use Rattle.std.proofs.lemmas.Bool.{cases_eq, cases_Bool, true≢false}
use Rattle.std.proofs.lemmas.List.{get_or_default, ext_get_or, length-replicate, get_or-replicate}
use Rattle.std.proofs.lemmas.List.{length-map}
use Rattle.std.proofs.lemmas.Nat.Bits.{bit_at_ones, bit_at_clear_same, bit_at_clear_other}
use Rattle.std.specs.Int.{w128}
use Rattle.si_base.specs.declared.ids.Event.{Event}
use Rattle.si_base.specs.Bits.{bit}
use Rattle.si_base.specs.Graph.{event_place}
use Rattle.si_graph.proofs.OrderLemmas.{event_from_place}
use Rattle.si_closures.specs.Loops.WordSearch.{column, HasBit, Passes}
use Rattle.si_closures.specs.Loops.Words.{HasAll, IsEventAt}
use Rattle.si_closures.proofs.WordSearchLemmas.{in_column, column-at}

-- ---- each bit
pub full_bit : (k : ℕ) → k < 128 → bit (2 ^ 128 - 1) k ≡ true
full_bit k few = ap (λ b. b == 1) (bit_at_ones 128 k few)

full_at : (n k s : ℕ) → k < 128 → s < n → HasBit (replicate n (2 ^ 128 - 1)) k s
full_at n k s few inside =
    ap (λ w. bit w k) (get_or-replicate n s (2 ^ 128 - 1) 0 inside) ∙ full_bit k few

pub has_all : (n : ℕ) → HasAll n (replicate n (2 ^ 128 - 1))
has_all n = record { size = length-replicate n (2 ^ 128 - 1); each = full_at n }

-- ---- events that don't pass
-- of the first n stops, that of the set k is at the place p
pub record IsBarred (stops : List Event) (n k p : ℕ) : Type 0 where
  pub stop : Event
  pub early : k < n
  pub at : IsEventAt stops k stop
  pub place : event_place stop ≡ p

-- a word for each of so many events, and the bits are those that the first n stops leave
pub record AreLeft (events : ℕ) (stops : List Event) (n : ℕ) (words : List ℕ) : Type 0 where
  pub size : length words ≡ events
  pub left : (k p : ℕ) → k < 128 → p < events → (IsBarred stops n k p → ⊥) → HasBit words k p
  pub barred : (k p : ℕ) → HasBit words k p → IsBarred stops n k p → ⊥

pub none_barred : (events : ℕ) (stops : List Event) → AreLeft events stops 0 (replicate events (2 ^ 128 - 1))
none_barred events stops = record {
  size = length-replicate events (2 ^ 128 - 1);
  left = λ k p few inside free. full_at events k p few inside;
  barred = λ k p has b. absurd (let early = b.early in omega (arith, early));
}

module _ (stops : List Event) (n : ℕ) (x : Event) (inside : n < length stops) (at : x ≡ get_or stops n x)
    (few : n < 128) where
  one_event : (e : Event) → get_or stops n e ≡ e → e ≡ x
  one_event e same = sym same ∙ get_or_default stops n e x inside ∙ sym at

  now_barred : IsBarred stops (n + 1) n (event_place x)
  now_barred = record { stop = x; early = omega arith; at = record { inside = inside; same = sym at }; place = refl }

  still_barred : (k p : ℕ) → IsBarred stops n k p → IsBarred stops (n + 1) k p
  still_barred k p b = record {
    stop = b.stop;
    early = (let early = b.early in omega (arith, early));
    at = b.at;
    place = b.place;
  }

  -- the set n apart, a set has no more stops than before
  barred_before : (k p : ℕ) → (k ≢ n) ⊎ (p ≢ event_place x) → IsBarred stops (n + 1) k p → IsBarred stops n k p
  barred_before k p apart b = elim (cases_eq k n) [
    | inl same ↦ (
        let is : b.stop ≡ x = one_event b.stop (subst (λ j. get_or stops j b.stop ≡ b.stop) same b.at.same) in
        let there : p ≡ event_place x = sym b.place ∙ ap event_place is in
        absurd (elim apart [ inl other ↦ other same | inr elsewhere ↦ elsewhere there ]))
    | inr other ↦ record {
      stop = b.stop;
      early = (let early = b.early in omega (arith, early, other));
      at = b.at;
      place = b.place;
    }
  ]

  module _ (events w : ℕ) (words : List ℕ) (before : AreLeft events stops n words)
      (within : event_place x < length words) (is : w ≡ get_or words (event_place x) 0) where
    abbrev cleared : ℕ
    cleared = bit_and w (2 ^ 128 - 1 - 1 * 2 ^ n % 2 ^ 128)

    abbrev after : List ℕ
    after = set words (event_place x) cleared

    here : get_or after (event_place x) 0 ≡ cleared
    here = get_or-set_same words (event_place x) cleared 0 within

    gone : bit cleared n ≡ false
    gone = ap (λ b. b == 1) (bit_at_clear_same w128 w n few)

    kept : (k : ℕ) → k < 128 → k ≢ n → bit cleared k ≡ bit (get_or words (event_place x) 0) k
    kept k small other = ap (λ b. b == 1) (bit_at_clear_other w128 w n few k small other) ∙ ap (λ v. bit v k) is

    -- a bit of the new words is that of the old ones, but for the set n at the stop
    same_bit : (k p : ℕ) → k < 128 → (k ≢ n) ⊎ (p ≢ event_place x)
        → bit (get_or after p 0) k ≡ bit (get_or words p 0) k
    same_bit k p small apart = elim (cases_eq p (event_place x)) [
      | inl same ↦ ap (λ q. bit (get_or after q 0) k) same ∙ ap (λ v. bit v k) here
          ∙ kept k small (not_both same) ∙ ap (λ q. bit (get_or words q 0) k) (sym same)
      | inr elsewhere ↦ ap (λ v. bit v k) (get_or-set_other words (event_place x) p cleared 0 elsewhere)
    ]
      where
        not_both : p ≡ event_place x → k ≡ n → ⊥
        not_both same equal = elim apart [ inl other ↦ other equal | inr elsewhere ↦ elsewhere same ]

    cleared_at : (k p : ℕ) → k ≡ n → p ≡ event_place x → HasBit after k p → ⊥
    cleared_at k p equal same has =
        true≢false (sym has ∙ ap₂ (λ (j q : ℕ). bit (get_or after q 0) j) equal same ∙ ap (λ v. bit v n) here ∙ gone)

    from_old : (k p : ℕ) → k < 128 → p < events → (k ≢ n) ⊎ (p ≢ event_place x)
        → (IsBarred stops (n + 1) k p → ⊥) → HasBit after k p
    from_old k p small below apart free =
        same_bit k p small apart ∙ before.left k p small below (λ b. free (still_barred k p b))

    apart_or_there : (k p : ℕ) → ((k ≢ n) ⊎ (p ≢ event_place x)) ⊎ ((k ≡ n) × (p ≡ event_place x))
    apart_or_there k p = elim (cases_eq k n) [
      | inl equal ↦ elim (cases_eq p (event_place x))
          [ inl same ↦ inr (equal, same) | inr elsewhere ↦ inl (inr elsewhere) ]
      | inr other ↦ inl (inl other)
    ]

    pub one_barred : AreLeft events stops (n + 1) after
    one_barred = record {
      size = length-set words (event_place x) cleared ∙ before.size;
      left = λ k p small below free. elim (apart_or_there k p) [
        | inl apart ↦ from_old k p small below apart free
        | inr (equal, same) ↦ absurd (free
            (subst (λ j. IsBarred stops (n + 1) j p) (sym equal)
            (subst (λ q. IsBarred stops (n + 1) n q) (sym same) now_barred)))
      ];
      barred = λ k p has b. elim (apart_or_there k p) [
        | inl apart ↦ before.barred k p
            (sym (same_bit k p (let early = b.early in omega (arith, early, few)) apart) ∙ has)
            (barred_before k p apart b)
        | inr (equal, same) ↦ cleared_at k p equal same has
      ];
    }

pub place_below : (e : Event) (signals : ℕ) → e.sig < signals → event_place e < 2 * signals
place_below e signals below = elim (cases_Bool e.up) [
  | inl up ↦ rw up (omega (arith, below))
  | inr down ↦ rw down (omega (arith, below))
]

module _ (signals n : ℕ) (stops : List Event) (words : List ℕ) (are : AreLeft (2 * signals) stops n words)
    (all : length stops ≤ n) (few : length stops ≤ 128) where
  pub passes_others : (k : ℕ) (stop e : Event) → IsEventAt stops k stop → e.sig < signals
      → Passes words k e ↔ (e ≢ stop)
  passes_others k stop e at below = (
    λ passes same. are.barred k (event_place e) ((in_column k words (event_place e)).0 passes) (record {
      stop = stop;
      early = (let inside = at.inside in omega (arith, inside, all));
      at = at;
      place = ap event_place (sym same);
    }),
    λ other. (in_column k words (event_place e)).1 (are.left k (event_place e)
        (let inside = at.inside in omega (arith, inside, few)) (place_below e signals below)
        (λ b. other (sym (event_from_place b.stop e b.place) ∙ stop_is b.stop b.at))),
  )
    where
      stop_is : (s : Event) → IsEventAt stops k s → s ≡ stop
      stop_is s there = sym there.same ∙ get_or_default stops k s stop at.inside ∙ at.same

-- ---- one set of the words
-- the flags of the first n states are told, and no other is set
pub record AreTold (words : List ℕ) (k n : ℕ) (marks : List Bool) : Type 0 where
  pub size : length marks ≡ length words
  pub told : (s : ℕ) → s < n → get_or marks s false ≡ bit (get_or words s 0) k
  pub later : (s : ℕ) → n ≤ s → get_or marks s false ≡ false

module _ (words : List ℕ) (k n : ℕ) (marks : List Bool) (before : AreTold words k n marks) where
  pub all_told : length words ≤ n → marks ≡ column k words
  all_told all = ext_get_or false marks (column k words) (before.size ∙ sym (length-map words (λ (w : ℕ). bit w k)))
      (λ s inside. before.told s (omega (arith, inside, before.size, all)) ∙ sym (column-at k words s))
