-- Where the states of a circuit show a signal about to switch, and that this is where it switches.
use Rattle.std.proofs.Common.{◌≡◌, ◌≢◌, ℕ, ◌<◌, ◌≤◌, ◌+◌, ◌⊎◌, ◌==◌, ◌&&◌, not, Bool, true, false, List, length}
use Rattle.std.proofs.Common.{set, replicate, slice_get, Some, option_map, Contains, AllPairs}
use Rattle.std.proofs.Common.{refl, sym, ap, ap₂, subst, ◌∙◌, arith, inl, inr, if◌then◌else◌, bit_and}
use Rattle.std.proofs.lemmas.Bool.{cases_lt, cases_order}
use Rattle.std.proofs.lemmas.List.{length-map, length-replicate, length-set}
use Rattle.std.proofs.lemmas.List.FromFn.{length-map-range_with_len, get_or-map-range_with_len}
use Rattle.std.proofs.lemmas.Nat.Bits.{bit_at_ones, bit_at_ones_above}
use Rattle.std.proofs.lemmas.Option.{same_Some, slice_get-map, slice_get-get_or, slice_get_within}
use Rattle.std.proofs.lemmas.Option.{get_or_from_slice_get}
use mathlib.Core.Bool.{beq}
use Rattle.si_base.specs.Bits.{bit, ones}
use Rattle.si_base.specs.Codes.{CodedGraph, code, IsCoded}
use Rattle.si_base.specs.Graph.{StateGraph, IsNonInput}
use Rattle.si_base.specs.Netlist.{Netlist, IsExcited, gate_value}
use Rattle.si_base.specs.Sets.{IsIn}
use Rattle.si_base.specs.System.{State}
use Rattle.si_base.proofs.BitFacts.{beq_false, bit-and, same_codes}
use Rattle.si_base.proofs.Booleans.{not_itself}
use Rattle.si_base.proofs.StepCodes.{code_fits, no_bit}
use Rattle.si_graph.proofs.SearchLemmas.{stays_in, in_cases, is_set, in_none}
use Rattle.si_insert.specs.Lineage.{Current, Keeps, origin}
use Rattle.si_found.specs.Found.{StandsOver, Switches}
use Rattle.si_certified.specs.Sets.{AreSwitchSets}
use Rattle.si_reached.specs.Laws.{AreTold}
use Rattle.si_reached.specs.Reached.{beside, states}
use Rattle.si_reached.specs.declared.state.Reached.{Reached}
use Rattle.si_reached.proofs.ListLemmas.{there_is, is_there, some_at}
use Rattle.si_finder.specs.Loops.Places.{stand, stands}
use Rattle.si_finder.specs.Loops.Turns.{seen, TurnsAt, TurnsBelow, MarksTurns, AreTurnsBelow, AreTurnSets}

-- ---- one state of the circuit
other_value : (a b : Bool) → (a ≡ b → ⊥) → b ≡ not a
other_value true true apart = absurd (apart refl)
other_value true false apart = refl
other_value false true apart = refl
other_value false false apart = absurd (apart refl)

pub turns_there : (n : Netlist) (places : List Reached) (z : ℕ) (x y : Reached) (up old : Bool) (s : ℕ)
    → IsNonInput n.signals z → up ≡ gate_value n z x.values → old ≡ bit x.values z → beq up old ≡ false
    → y ≡ seen z x → slice_get places s ≡ Some y → TurnsAt n places z x s up
turns_there n places z x y up old s gate gate_is old_is differs is at =
    let apart = beq_false up old differs in
    record {
      place = at ∙ ap Some is;
      old = sym old_is ∙ other_value up old apart;
      excited = record { gate = gate; differs = λ same. apart (gate_is ∙ same ∙ sym old_is) };
    }

pub no_place : (n : Netlist) (places : List Reached) (z : ℕ) (x y : Reached) → y ≡ seen z x
    → (Contains places y → ⊥) → (s : ℕ) (up : Bool) → TurnsAt n places z x s up → ⊥
no_place n places z x y is absent s up turns = absent (is_there places y s (turns.place ∙ ap Some (sym is)))

-- ---- one state after another
module _ (n : Netlist) (places : List Reached) (z : ℕ) (xs : List Reached) where
  none_marked : (states : ℕ) (up : Bool) (marks : List Bool) → length places ≡ states → marks ≡ replicate states false
      → MarksTurns n places z xs 0 up marks
  none_marked states up marks count is = record {
    size = ap (length {A = Bool}) is ∙ length-replicate states false ∙ sym count;
    just = λ s. (
      (λ there. absurd (in_none states s (subst (λ (m : List Bool). IsIn m s) is there))),
      (λ turns. absurd (omega (arith, turns.below))),
    );
  }

  pub none_yet : (states : ℕ) (plus minus : List Bool) → length places ≡ states → plus ≡ replicate states false
      → minus ≡ replicate states false → AreTurnsBelow n places z xs 0 plus minus
  none_yet states plus minus count plus_is minus_is = record {
    rises = none_marked states true plus count plus_is;
    falls = none_marked states false minus count minus_is;
  }

  -- what a state shows is shown among any states that it is one of
  among : (k m s : ℕ) (up : Bool) (shown : TurnsBelow n places z xs k s up) → shown.at < m
      → TurnsBelow n places z xs m s up
  among k m s up shown less =
      record { at = shown.at; state = shown.state; below = less; there = shown.there; turns = shown.turns }

  later : (k s : ℕ) (up : Bool) → TurnsBelow n places z xs k s up → TurnsBelow n places z xs (k + 1) s up
  later k s up shown = among k (k + 1) s up shown (omega (arith, shown.below))

  same_at : (k : ℕ) (x y : Reached) → slice_get xs k ≡ Some x → slice_get xs k ≡ Some y → x ≡ y
  same_at k x y one other = same_Some x y (sym one ∙ other)

  -- it is shown before, or by the last of the states
  earlier : (k s : ℕ) (x : Reached) (up : Bool) → slice_get xs k ≡ Some x → TurnsBelow n places z xs (k + 1) s up
      → TurnsBelow n places z xs k s up ⊎ TurnsAt n places z x s up
  earlier k s x up there turns = elim (cases_lt turns.at k) [
    | inl less ↦ inl (among (k + 1) k s up turns less)
    | inr past ↦ (
        let here : turns.at ≡ k = omega (arith, past, turns.below) in
        let also : slice_get xs k ≡ Some turns.state =
        subst (λ (i : ℕ). slice_get xs i ≡ Some turns.state) here turns.there in
        let same : turns.state ≡ x = same_at k turns.state x also there in
        inr (subst (λ (y : Reached). TurnsAt n places z y s up) same turns.turns))
  ]

  unmarked : (k : ℕ) (x : Reached) (up : Bool) (marks : List Bool) → slice_get xs k ≡ Some x
      → ((s : ℕ) → TurnsAt n places z x s up → ⊥) → MarksTurns n places z xs k up marks
      → MarksTurns n places z xs (k + 1) up marks
  unmarked k x up marks there none are = record {
    size = are.size;
    just = λ s. (
      (λ is. later k s up ((are.just s).0 is)),
      (λ turns. elim (earlier k s x up there turns) [
        | inl before ↦ (are.just s).1 before
        | inr last ↦ absurd (none s last)
      ]),
    );
  }

  module _ (once : AllPairs (λ x y. x ≢ y) places) where
    one_place : (s t : ℕ) (y : Reached) → slice_get places s ≡ Some y → slice_get places t ≡ Some y → s ≡ t
    one_place s t y at_s at_t =
        let s_in = slice_get_within places s y at_s in
        let t_in = slice_get_within places t y at_t in
        let same = get_or_from_slice_get places s y y at_s ∙ sym (get_or_from_slice_get places t y y at_t) in
        elim (cases_order s t) [
          | inl equal ↦ equal
          | inr (inl less) ↦ absurd (once s t y less t_in same)
          | inr (inr more) ↦ absurd (once t s y more s_in (sym same))
        ]

    marked : (k : ℕ) (x : Reached) (t : ℕ) (up : Bool) (marks : List Bool) → slice_get xs k ≡ Some x
        → TurnsAt n places z x t up → MarksTurns n places z xs k up marks
        → MarksTurns n places z xs (k + 1) up (set marks t true)
    marked k x t up marks there turns before =
        let t_in = slice_get_within places t (seen z x) turns.place in
        let inside : t < length marks = omega (arith, t_in, before.size) in
        record {
          size = length-set marks t true ∙ before.size;
          just = λ s. (
            (λ is. elim (in_cases marks t s is) [
              | inl here ↦ record {
                at = k;
                state = x;
                below = omega arith;
                there = there;
                turns = subst (λ (i : ℕ). TurnsAt n places z x i up) (sym here) turns;
              }
              | inr earlier_in ↦ later k s up ((before.just s).0 earlier_in)
            ]),
            (λ shown. elim (earlier k s x up there shown) [
              | inl below ↦ stays_in marks t s inside ((before.just s).1 below)
              | inr last ↦ subst (λ (i : ℕ). IsIn (set marks t true) i)
                  (one_place t s (seen z x) turns.place last.place) (is_set marks t inside)
            ]),
          );
        }

    other_way : (x : Reached) (s t : ℕ) (up : Bool) → TurnsAt n places z x t up → TurnsAt n places z x s (not up) → ⊥
    other_way x s t up one other = not_itself (not up) (sym one.old ∙ other.old)

    pub next_turns : (k : ℕ) (x : Reached) (t : ℕ) (up : Bool) (plus minus rises falls : List Bool)
        → slice_get xs k ≡ Some x → TurnsAt n places z x t up
        → rises ≡ (if up then set plus t true else plus) → falls ≡ (if up then minus else set minus t true)
        → AreTurnsBelow n places z xs k plus minus → AreTurnsBelow n places z xs (k + 1) rises falls
    next_turns k x t true plus minus rises falls there turns rises_are falls_are before = record {
      rises = subst (λ (m : List Bool). MarksTurns n places z xs (k + 1) true m) (sym rises_are)
          (marked k x t true plus there turns before.rises);
      falls = subst (λ (m : List Bool). MarksTurns n places z xs (k + 1) false m) (sym falls_are)
          (unmarked k x false minus there (λ s. other_way x s t true turns) before.falls);
    }
    next_turns k x t false plus minus rises falls there turns rises_are falls_are before = record {
      rises = subst (λ (m : List Bool). MarksTurns n places z xs (k + 1) true m) (sym rises_are)
          (unmarked k x true plus there (λ s. other_way x s t false turns) before.rises);
      falls = subst (λ (m : List Bool). MarksTurns n places z xs (k + 1) false m) (sym falls_are)
          (marked k x t false minus there turns before.falls);
    }

  pub no_turn : (k : ℕ) (x : Reached) (plus minus : List Bool) → slice_get xs k ≡ Some x
      → ((s : ℕ) (up : Bool) → TurnsAt n places z x s up → ⊥) → AreTurnsBelow n places z xs k plus minus
      → AreTurnsBelow n places z xs (k + 1) plus minus
  no_turn k x plus minus there none before = record {
    rises = unmarked k x true plus there (λ s. none s true) before.rises;
    falls = unmarked k x false minus there (λ s. none s false) before.falls;
  }

  all_marked : (k : ℕ) (up : Bool) (marks : List Bool) → length xs ≤ k → MarksTurns n places z xs k up marks
      → MarksTurns n places z xs (length xs) up marks
  all_marked k up marks past are = record {
    size = are.size;
    just = λ s. (
      (λ is.
          let shown = (are.just s).0 is in
          among k (length xs) s up shown (slice_get_within xs shown.at shown.state shown.there)),
      (λ shown. (are.just s).1 (among (length xs) k s up shown (omega (arith, past, shown.below)))),
    );
  }

  pub all_turns : (k : ℕ) (plus minus : List Bool) → length xs ≤ k → AreTurnsBelow n places z xs k plus minus
      → AreTurnSets n places z xs plus minus
  all_turns k plus minus past are = record {
    rises = all_marked k true plus past are.rises;
    falls = all_marked k false minus past are.falls;
  }

-- ---- what is seen of the signals of a current graph
and_true : (b : Bool) → (b && true) ≡ b
and_true true = refl
and_true false = refl

and_false : (b : Bool) → (b && false) ≡ false
and_false true = refl
and_false false = refl

seen_low : (values z i : ℕ) → i < z → bit (bit_and values (ones z)) i ≡ bit values i
seen_low values z i low =
    let one : bit (ones z) i ≡ true = ap (λ (b : ℕ). b == 1) (bit_at_ones z i low) in
    bit-and values (ones z) i ∙ ap (λ (b : Bool). bit values i && b) one ∙ and_true (bit values i)

seen_high : (values z i : ℕ) → z ≤ i → bit (bit_and values (ones z)) i ≡ false
seen_high values z i high =
    let none : bit (ones z) i ≡ false = ap (λ (b : ℕ). b == 1) (bit_at_ones_above z i high) in
    bit-and values (ones z) i ∙ ap (λ (b : Bool). bit values i && b) none ∙ and_false (bit values i)

-- ---- over which states they stand
module _ (v : Current) (is : IsCoded v.coded) where
  abbrev count : ℕ
  count = length v.coded.graph.signals

  stand_at : (s : ℕ) → s < v.coded.graph.states → slice_get (stands v) s ≡ Some (stand v s)
  stand_at s within =
      let inside : s < length (stands v) =
      omega (arith, within, length-map-range_with_len (stand v) 0 v.coded.graph.states) in
      slice_get-get_or (stands v) s (stand v s) inside
      ∙ ap Some (get_or-map-range_with_len (stand v) 0 v.coded.graph.states s s (stand v s) within (omega arith))

  within_stands : (s : ℕ) (y : Reached) → slice_get (stands v) s ≡ Some y → s < v.coded.graph.states
  within_stands s y at = (let small = slice_get_within (stands v) s y at in
      omega (arith, small, length-map-range_with_len (stand v) 0 v.coded.graph.states))

  over_it : (x : Reached) (s : ℕ) → slice_get (stands v) s ≡ Some (seen count x) → StandsOver v (beside x) s
  over_it x s at =
      let there = within_stands s (seen count x) at in
      let same : stand v s ≡ seen count x = same_Some (stand v s) (seen count x) (sym (stand_at s there) ∙ at) in
      record {
        there = there;
        place = ap (λ (y : Reached). Some y.state) (sym same);
        values = λ i small. sym (seen_low x.values count i small)
            ∙ ap (λ (y : Reached). bit y.values i) (sym same);
      }

  place_of : (x : Reached) (s : ℕ) → StandsOver v (beside x) s → slice_get (stands v) s ≡ Some (seen count x)
  place_of x s over =
      let k = code v.coded s in
      let make : ℕ → ℕ → Reached = λ a b. record { state = a; values = b } in
      let origins : origin v s ≡ x.state = same_Some (origin v s) x.state (sym over.place) in
      let codes : k ≡ bit_and x.values (ones count) =
      same_codes k (bit_and x.values (ones count)) (λ i. elim (cases_lt i count) [
        | inl low ↦ sym (over.values i low) ∙ sym (seen_low x.values count i low)
        | inr high ↦ no_bit k count i (code_fits v.coded s is over.there) high ∙ sym (seen_high x.values count i high)
      ]) in
      stand_at s over.there ∙ ap Some (ap₂ make origins codes)

pub stands_apart : (given : CodedGraph) (v : Current) → Keeps given v → AllPairs (λ x y. x ≢ y) (stands v)
stands_apart given v kept i j d less within equal =
    let size = length-map-range_with_len (stand v) 0 v.coded.graph.states in
    let j_in : j < v.coded.graph.states = omega (arith, within, size) in
    let i_in : i < v.coded.graph.states = omega (arith, less, j_in) in
    let same : stand v i ≡ stand v j =
    sym (get_or-map-range_with_len (stand v) 0 v.coded.graph.states i i d i_in (omega arith)) ∙ equal
    ∙ get_or-map-range_with_len (stand v) 0 v.coded.graph.states j j d j_in (omega arith) in
    let one : i ≡ j = kept.determined i j i_in j_in (ap (λ (y : Reached). y.state) same)
    (λ a above. ap (λ (y : Reached). bit y.values a) same) in
    omega (arith, less, one)

pub stands_count : (v : Current) → length (stands v) ≡ v.coded.graph.states
stands_count v = length-map-range_with_len (stand v) 0 v.coded.graph.states

-- ---- the sets
module _ (g : StateGraph) (n : Netlist) (v : Current) (xs : List Reached) (told : AreTold g n xs)
    (is : IsCoded v.coded) where
  switches : (s : ℕ) (up : Bool) → TurnsBelow n (stands v) (length v.coded.graph.signals) xs (length xs) s up
      → Switches g n v s up
  switches s up shown =
      let x = shown.state in
      let there : Contains (states xs) (beside x) =
      is_there (states xs) (beside x) shown.at
      (slice_get-map beside xs shown.at ∙ ap (option_map beside) shown.there) in
      record {
        state = beside x;
        reached = (told.each (beside x)).1 there;
        over = over_it v is x s shown.turns.place;
        old = shown.turns.old;
        excited = shown.turns.excited;
      }

  turns : (s : ℕ) (up : Bool) → Switches g n v s up
      → TurnsBelow n (stands v) (length v.coded.graph.signals) xs (length xs) s up
  turns s up sw =
      let found = there_is (states xs) sw.state ((told.each sw.state).0 sw.reached) in
      let size : length (states xs) ≡ length xs = length-map xs beside in
      let small = slice_get_within (states xs) found.0 sw.state found.1 in
      let at = some_at xs found.0 (omega (arith, small, size)) in
      let same : sw.state ≡ beside at.0 =
      same_Some sw.state (beside at.0) (sym found.1 ∙ slice_get-map beside xs found.0 ∙ ap (option_map beside) at.1) in
      let Over : State → Type 0 = λ x. StandsOver v x s in
      let Old : State → Type 0 = λ x. bit x.values (length v.coded.graph.signals) ≡ not up in
      let Excited : State → Type 0 = λ x. IsExcited n x.values (length v.coded.graph.signals) in
      record {
        at = found.0;
        state = at.0;
        below = omega (arith, small, size);
        there = at.1;
        turns = record {
          place = place_of v is at.0 s (subst Over same sw.over);
          old = subst Old same sw.old;
          excited = subst Excited same sw.excited;
        };
      }

  are_switch_sets : (plus minus : List Bool)
      → AreTurnSets n (stands v) (length v.coded.graph.signals) xs plus minus → AreSwitchSets g n v plus minus
  are_switch_sets plus minus are = record {
    plus_size = are.rises.size ∙ stands_count v;
    minus_size = are.falls.size ∙ stands_count v;
    plus_is = λ s small. (
      (λ there. switches s true ((are.rises.just s).0 there)),
      (λ sw. (are.rises.just s).1 (turns s true sw)),
    );
    minus_is = λ s small. (
      (λ there. switches s false ((are.falls.just s).0 there)),
      (λ sw. (are.falls.just s).1 (turns s false sw)),
    );
  }

  pub turn_sets_switch : (places : List Reached) (z : ℕ) (plus minus : List Bool) → places ≡ stands v
      → z ≡ length v.coded.graph.signals → AreTurnSets n places z xs plus minus → AreSwitchSets g n v plus minus
  turn_sets_switch places z plus minus places_are next are =
      let Sets : List Reached → ℕ → Type 0 = λ ys k. AreTurnSets n ys k xs plus minus in
      are_switch_sets plus minus (subst (λ (k : ℕ). Sets (stands v) k) next
      (subst (λ (ys : List Reached). Sets ys z) places_are are))
