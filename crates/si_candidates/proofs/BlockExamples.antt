-- An interval and the blocks of a small graph: the input `a` switches twice, and the output `z` once in between.
use Rattle.std.proofs.Common.{◌≡◌, ◌≢◌, ℕ, zero, suc, ◌+◌, ◌<◌, ◌≤◌, ◌==◌, ◌||◌, ◌&&◌, ◌↔◌, ◌∙◌, Bool, true, false, not}
use Rattle.std.proofs.Common.{List, [], ◌∷◌, ◌++◌, length, map, get_or, refl, sym, ap, subst, lit<, inl, inr, arith}
use Rattle.std.proofs.Common.{eqb-true}
use Rattle.std.proofs.lemmas.Bool.{or_cases, true≢false, cases_Bool}
use Rattle.std.proofs.lemmas.Nat.Bits.{bit_at-pow_other}
use Rattle.si_base.specs.declared.ids.Event.{Event}
use Rattle.si_base.specs.declared.graph.Edge.{Edge}
use Rattle.si_base.specs.declared.graph.SigKind.TheVariants.{Input, Output}
use Rattle.si_base.specs.Bits.{bit}
use Rattle.si_base.specs.Graph.{StateGraph, Step, arc, rise, fall, same_event, IsNonInput}
use Rattle.si_base.specs.Sets.{IsIn}
use Rattle.si_base.proofs.GraphSteps.{all_arcs, same_event-true}
use Rattle.si_base.proofs.BitFacts.{bit-zero}
use Rattle.si_graph.proofs.ListMembers.{Contains-cons_cases}
use Rattle.si_closures.specs.Loops.WordSearch.{column, HasBit}
use Rattle.si_closures.proofs.SignalKinds.{input_is_no_other, apart_events}
use Rattle.si_closures.proofs.WordSearchLemmas.{in_column}
use Rattle.si_regions.specs.declared.regions.Component.{Component}
use Rattle.si_regions.proofs.StateLists.{only_in}
use Rattle.si_insert.specs.Accepted.{IsInput}
use Rattle.si_candidates.specs.Interval.{IsReachedBefore, IsInterval}
use Rattle.si_candidates.specs.Loops.Asked.{asked_for, asks_from, asks_of, AreIntervalsOf}
use Rattle.si_candidates.specs.Loops.Adding.{AddsFirst}
use Rattle.si_candidates.specs.Blocks.{state_set, driven_events, blocks_of, block_at}
use Rattle.si_candidates.specs.Blocking.{MaySwitch}
use Rattle.si_candidates.specs.Loops.ManySets.{AreAllTold, AreToldBelow, ArePacked}
use Rattle.si_candidates.proofs.BlockMarks.{marked_has}

abbrev pulses : StateGraph
pulses = record {
  signals = record { name = []; kind = Input } ∷ record { name = 122 ∷ []; kind = Output } ∷ [];
  states = 6;
  edges = arc 0 (rise 0) 1 ∷ arc 1 (fall 0) 2 ∷ arc 2 (rise 1) 3 ∷ arc 3 (rise 0) 4 ∷ arc 4 (fall 0) 5
      ∷ arc 5 (fall 1) 0 ∷ [];
  start = 0;
}

driven : driven_events 0 pulses.signals ≡ rise 1 ∷ fall 1 ∷ []
driven = refl

-- ---- from s1 up to `z+` there are s1 and s2
abbrev from : List Bool
from = state_set 6 (1 ∷ [])

abbrev set : List Bool
set = state_set 6 (1 ∷ 2 ∷ [])

-- an arc out of the set is by `z+`
abbrev stays : Edge → Bool
stays a = not (get_or set a.from false) || (same_event a.event (rise 1) || get_or set a.to false)

not_both : (b : Bool) → b ≡ true → not b ≡ true → ⊥
not_both b on off = true≢false (sym (subst (λ c. not c ≡ true) on off))

closed : (s : ℕ) (e : Event) (t : ℕ) → IsIn set s → Step pulses s e t → e ≢ rise 1 → IsIn set t
closed s e t there step apart = elim (or_cases _ _ (all_arcs stays pulses s e t refl step)) [
  | inl outside ↦ absurd (not_both (get_or set s false) there outside)
  | inr rest ↦ elim (or_cases _ _ rest) [
    | inl stops ↦ absurd (apart (same_event-true e (rise 1) stops))
    | inr stays_in ↦ stays_in
  ]
]

falls_before : fall 0 ≢ rise 1
falls_before same = true≢false (sym (ap (λ (e : Event). e.up) same))

reached_first : IsReachedBefore pulses (rise 1) from 1
reached_first = record { begin = 1; there = refl; events = []; walk = refl }

reached_next : IsReachedBefore pulses (rise 1) from 2
reached_next = record {
  begin = 1;
  there = refl;
  events = fall 0 ∷ [];
  walk = (2, falls_before, (1, lit< tt, refl), refl);
}

is_interval : IsInterval pulses from (rise 1) set
is_interval = record {
  size = refl;
  has = λ s there. subst (IsIn set) (sym (only_in 1 s ((marked_has 6 (1 ∷ []) s).0 there).1)) refl;
  closed = closed;
  reached = λ t there. elim (Contains-cons_cases 1 (2 ∷ []) t ((marked_has 6 (1 ∷ 2 ∷ []) t).0 there).1) [
    | inl same ↦ subst (IsReachedBefore pulses (rise 1) from) same reached_first
    | inr later ↦ subst (IsReachedBefore pulses (rise 1) from) (sym (only_in 2 t later)) reached_next
  ];
}

-- ---- the blocks, of the regions and the intervals
abbrev component : Event → ℕ → ℕ → Component
component e s t = record { event = e; er = s ∷ []; sr = t ∷ [] }

abbrev components : List Component
components = component (rise 0) 0 1 ∷ component (rise 0) 3 4 ∷ component (fall 0) 1 2 ∷ component (fall 0) 4 5
    ∷ component (rise 1) 2 3 ∷ component (fall 1) 5 0 ∷ []

-- from each switching region up to `z+`, and up to `z-`
abbrev intervals : List (List ℕ)
intervals = (1 ∷ 2 ∷ []) ∷ (1 ∷ 2 ∷ 3 ∷ 4 ∷ 5 ∷ [])
    ∷ (0 ∷ 1 ∷ 2 ∷ 4 ∷ 5 ∷ []) ∷ (4 ∷ 5 ∷ [])
    ∷ (2 ∷ []) ∷ (2 ∷ 3 ∷ 4 ∷ 5 ∷ [])
    ∷ (0 ∷ 1 ∷ 2 ∷ 5 ∷ []) ∷ (5 ∷ [])
    ∷ (0 ∷ 1 ∷ 2 ∷ 3 ∷ 4 ∷ 5 ∷ []) ∷ (3 ∷ 4 ∷ 5 ∷ [])
    ∷ (0 ∷ 1 ∷ 2 ∷ []) ∷ (0 ∷ 1 ∷ 2 ∷ 3 ∷ 4 ∷ 5 ∷ [])
    ∷ []

-- the switching regions stand already, and so do three of the intervals
fifteen : blocks_of 6 components (map (state_set 6) intervals) ≡ map (state_set 6)
    ((0 ∷ []) ∷ (3 ∷ []) ∷ (1 ∷ []) ∷ (4 ∷ []) ∷ (2 ∷ []) ∷ (5 ∷ []) ∷ (1 ∷ 2 ∷ []) ∷ (1 ∷ 2 ∷ 3 ∷ 4 ∷ 5 ∷ [])
    ∷ (0 ∷ 1 ∷ 2 ∷ 4 ∷ 5 ∷ []) ∷ (4 ∷ 5 ∷ []) ∷ (2 ∷ 3 ∷ 4 ∷ 5 ∷ []) ∷ (0 ∷ 1 ∷ 2 ∷ 5 ∷ [])
    ∷ (0 ∷ 1 ∷ 2 ∷ 3 ∷ 4 ∷ 5 ∷ []) ∷ (3 ∷ 4 ∷ 5 ∷ []) ∷ (0 ∷ 1 ∷ 2 ∷ []) ∷ [])
fifteen = refl

-- ---- what is asked for: from s1 up to `z+` and up to `z-`, from s2 up to `z+`
abbrev seeds : List ℕ
seeds = 0 ∷ 3 ∷ 4 ∷ 0 ∷ 0 ∷ 0 ∷ []

three_asked : asked_for seeds (rise 1 ∷ fall 1 ∷ rise 1 ∷ [])
    ≡ asks_from from (rise 1 ∷ fall 1 ∷ []) ++ asks_from (state_set 6 (2 ∷ [])) (rise 1 ∷ [])
three_asked = refl

of_two_components : asks_of 6 (rise 1 ∷ []) (component (rise 0) 0 1 ∷ component (fall 0) 1 2 ∷ [])
    ≡ asks_from from (rise 1 ∷ []) ++ asks_from (state_set 6 (2 ∷ [])) (rise 1 ∷ [])
of_two_components = refl

first_answered : AreIntervalsOf pulses (asks_from from (rise 1 ∷ [])) (set ∷ [])
first_answered = (is_interval, tt)

-- the first of two is added, the other one waits
one_of_two : AddsFirst pulses (asks_from from (fall 1 ∷ [])) (asks_from from (rise 1 ∷ [])) []
    (asks_from from (fall 1 ∷ [])) (set ∷ [])
one_of_two = record {
  first = asks_from from (rise 1 ∷ []);
  parts = refl;
  adds = record { sets = set ∷ []; are = first_answered; added = refl };
}

-- ---- two sets as bits of words: s1 and s2, where a new signal may switch, and s0, out of which the input leads
abbrev start : List Bool
start = state_set 6 (0 ∷ [])

abbrev two : List (List Bool)
two = set ∷ start ∷ []

abbrev words : List ℕ
words = 2 ∷ 1 ∷ 1 ∷ 0 ∷ 0 ∷ 0 ∷ []

first_set : column 0 words ≡ set
first_set = refl

next_set : column 1 words ≡ start
next_set = refl

no_third : (k s : ℕ) → 2 ≤ k → HasBit words k s → ⊥
no_third k zero late has =
    true≢false (sym has ∙ ap (λ b. b == 1) (bit_at-pow_other 1 k (λ same. absurd (omega (arith, same, late)))))
no_third k (suc zero) late has =
    true≢false (sym has ∙ ap (λ b. b == 1) (bit_at-pow_other 0 k (λ same. absurd (omega (arith, same, late)))))
no_third k (suc (suc zero)) late has =
    true≢false (sym has ∙ ap (λ b. b == 1) (bit_at-pow_other 0 k (λ same. absurd (omega (arith, same, late)))))
no_third k (suc (suc (suc zero))) late has = true≢false (sym has ∙ bit-zero k)
no_third k (suc (suc (suc (suc zero)))) late has = true≢false (sym has ∙ bit-zero k)
no_third k (suc (suc (suc (suc (suc s))))) late has = true≢false (sym has ∙ none s)
  where
    none : (t : ℕ) → bit (get_or (0 ∷ []) t 0) k ≡ false
    none zero = bit-zero k
    none (suc t) = bit-zero k

packed : ArePacked 6 two 0 128 words
packed = record { size = refl; each = each }
  where
    each : (k s : ℕ) → k < 128
        → HasBit words k s ↔ ((k < 128) × (0 + k < length two) × IsIn (block_at two (0 + k)) s)
    each zero s few = (
      λ has. (few, omega arith, (in_column 0 words s).1 has),
      λ both. (in_column 0 words s).0 both.2,
    )
    each (suc zero) s few = (
      λ has. (few, omega arith, (in_column 1 words s).1 has),
      λ both. (in_column 1 words s).0 both.2,
    )
    each (suc (suc k)) s few = (
      λ has. absurd (no_third (suc (suc k)) s (omega arith) has),
      λ both. absurd (omega (arith, both.1)),
    )

driven_z : IsNonInput pulses.signals 1
driven_z = (record { name = 122 ∷ []; kind = Output }, refl, refl)

input_a : IsInput pulses.signals 0
input_a = (record { name = []; kind = Input }, refl, refl)

-- only the arc out of s2 is by `z+`, and it leads to s3 alone
from_second : (s : ℕ) (t : ℕ) → Step pulses s (rise 1) t → s ≡ 2
from_second s t step =
    eqb-true s 2 (all_arcs (λ a. not (same_event a.event (rise 1)) || a.from == 2) pulses s (rise 1) t refl step)

not_round : (s : ℕ) (e : Event) (t : ℕ) → Step pulses s e t → s ≡ 2 → t ≡ 2 → ⊥
not_round s e t step from_there to_there =
    not_both (s == 2 && t == 2) (rw (from_there, to_there) refl)
    (all_arcs (λ a. not (a.from == 2 && a.to == 2)) pulses s e t refl step)

out_by_rise : (u : ℕ) (e : Event) (w : ℕ) → IsIn set u → (IsIn set w → ⊥) → Step pulses u e w → e ≡ rise 1
out_by_rise u e w here out step = elim (cases_Bool (same_event e (rise 1))) [
  | inl same ↦ same_event-true e (rise 1) same
  | inr other ↦ absurd (out (closed u e w here step (apart_events e (rise 1) (sym other))))
]

may_switch : MaySwitch pulses (IsIn set)
may_switch = record {
  inputs = λ s e t input step here. closed s e t here step (λ same.
      input_is_no_other pulses.signals 1 (subst (λ (x : Event). IsInput pulses.signals x.sig) same input) driven_z);
  exits = λ s lost by t u w d here out. (
      let is = out_by_rise u lost w here out d.next in
      let before = from_second s t (subst (λ x. Step pulses s x t) is d.first) in
      let after = from_second u w (subst (λ x. Step pulses u x w) is d.next) in
      absurd (not_round s by u d.other before after));
}

may_not : MaySwitch pulses (IsIn start) → ⊥
may_not may = true≢false (sym (may.inputs 0 (rise 0) 1 input_a (0, lit< tt, refl) refl))

told : AreAllTold pulses two (true ∷ false ∷ [])
told = record { count = refl; each = each }
  where
    each : AreToldBelow pulses two (true ∷ false ∷ [])
    each zero below = (λ _. may_switch, λ _. refl)
    each (suc zero) below = (λ said. absurd (true≢false (sym said)), λ may. absurd (may_not may))
    each (suc (suc k)) below = absurd (omega arith)
