-- The next hidden signal has sets of states where it switches, and classes by which it is inserted or an obstacle.
use Rattle.std.proofs.Common.{◌≡◌, ℕ, ◌<◌, not, Bool, true, false, List, length, slice_get, Some}
use Rattle.std.proofs.Common.{◌↔◌, map, get_or, refl, sym, ap, ap₂, ◌∙◌, arith, inl, inr}
use Rattle.std.specs.List.{range_with_len}
use Rattle.std.proofs.lemmas.Bool.{cases_eq, true≢false}
use Rattle.std.proofs.lemmas.List.FromFn.{length-map-range_with_len, get_or-map-range_with_len}
use Rattle.std.proofs.lemmas.Option.{none-some, same_Some, slice_get_cases, slice_get_within}
use Rattle.si_base.specs.Bits.{bit}
use Rattle.si_base.specs.Codes.{CodedGraph, IsCoded}
use Rattle.si_base.specs.Graph.{StateGraph}
use Rattle.si_base.specs.Netlist.{Netlist, IsExcited, gate_value}
use Rattle.si_base.specs.Proper.{IsProper}
use Rattle.si_base.specs.Sets.{IsIn}
use Rattle.si_graph.proofs.SearchLemmas.{in_below}
use Rattle.si_checks.proofs.SearchDecisions as decide
use Rattle.si_checks.proofs.SearchDecisions.{Decided, both, driven, same_value, some_of}
use Rattle.si_insert.specs.declared.partition.Class.{Class}
use Rattle.si_insert.specs.Lineage.{Current}
use Rattle.si_candidates.specs.Parts.{AreClasses, HasBothLevels}
use Rattle.si_candidates.proofs.BlockDecisions.{member}
use Rattle.si_candidates.proofs.ClassesExist.{classes_or_torn, drawn_or_not}
use Rattle.si_candidates.proofs.PartLaws.{classes_lawful}
use Rattle.si_audit.proofs.FaultReasonExists.{accepted_or_reason}
use Rattle.si_audit.proofs.LastBuilt.{at_first_signal}
use Rattle.si_certified.specs.Sets.{AreSwitchSets}
use Rattle.si_reached.specs.Laws.{AreTold}
use Rattle.si_reached.specs.declared.state.Reached.{Reached}
use Rattle.si_reached.proofs.ListLemmas.{there_is, is_there}
use Rattle.si_finder.specs.declared.next.Next.{Next}
use Rattle.si_finder.specs.declared.next.Next.TheVariants.{Found, Stopped}
use Rattle.si_finder.specs.declared.not_found.Obstacle.TheVariants.{NeverUp, NeverDown, Both, Classes, Refused}
use Rattle.si_finder.specs.Loops.Next.{IsDecided, IsNextFor}
use Rattle.si_finder.specs.Loops.Places.{stands}
use Rattle.si_finder.specs.Loops.Turns.{seen, TurnsAt, TurnsBelow, MarksTurns}
use Rattle.si_finder.specs.NotFound.{SwitchesBothWays}
use Rattle.si_finder.proofs.Firsts.{first_number}
use Rattle.si_finder.proofs.StepLemmas.{decided_next}
use Rattle.si_finder.proofs.TurnLemmas.{stands_count, turn_sets_switch}

-- ---- a set of numbers that can be decided
holds : {P : Type 0} → Decided P → Bool
holds (inl is) = true
holds (inr none) = false

holds_true : {P : Type 0} (d : Decided P) → (holds d ≡ true) ↔ P
unfolding holds
holds_true (inl is) = ((λ same. is), (λ here. refl))
holds_true (inr none) = ((λ same. absurd (true≢false (sym same))), (λ here. absurd (none here)))

module _ (count : ℕ) (P : ℕ → Type 0) (decided : (s : ℕ) → Decided (P s)) (inside : (s : ℕ) → P s → s < count) where
  abbrev has : ℕ → Bool
  has s = holds (decided s)

  abbrev set_of : List Bool
  set_of = map has (range_with_len 0 count)

  set_size : length set_of ≡ count
  set_size = length-map-range_with_len has 0 count

  set_at : (s : ℕ) → s < count → get_or set_of s false ≡ has s
  set_at s within = get_or-map-range_with_len has 0 count s s false within (omega arith)

  set_just : (s : ℕ) → IsIn set_of s ↔ P s
  set_just s = (
    (λ is.
        let small = in_below set_of s is in
        let within : s < count = omega (arith, small, set_size) in
        (holds_true (decided s)).0 (sym (set_at s within) ∙ is)),
    (λ is. set_at s (inside s is) ∙ (holds_true (decided s)).1 is),
  )

-- ---- whether a state shows the signal about to switch
same_or_not : (x y : Reached) → Decided (x ≡ y)
same_or_not x y = elim (both (cases_eq x.state y.state) (cases_eq x.values y.values)) [
  | inl same ↦ (let make : ℕ → ℕ → Reached = λ s v. record { state = s; values = v } in inl (ap₂ make same.0 same.1))
  | inr apart ↦ inr (λ same. apart (ap (λ (w : Reached). w.state) same, ap (λ (w : Reached). w.values) same))
]

at_or_not : (places : List Reached) (s : ℕ) (x : Reached) → Decided (slice_get places s ≡ Some x)
at_or_not places s x = elim (slice_get_cases places s).1 [
  | inr past ↦ inr (λ at. none-some x (sym past.1 ∙ at))
  | inl there ↦ elim (same_or_not there.0 x) [
    | inl same ↦ inl (there.2 ∙ ap Some same)
    | inr apart ↦ inr (λ at. apart (same_Some there.0 x (sym there.2 ∙ at)))
  ]
]

excited_or_not : (n : Netlist) (values z : ℕ) → Decided (IsExcited n values z)
excited_or_not n values z =
    elim (both (driven n.signals z) (decide.not (same_value (gate_value n z values) (bit values z)))) [
      | inl is ↦ inl (record { gate = is.0; differs = is.1 })
      | inr none ↦ inr (λ is. none (is.gate, is.differs))
    ]

module _ (n : Netlist) (places : List Reached) (z : ℕ) (xs : List Reached) (s : ℕ) (up : Bool) where
  turns_or_not : (x : Reached) → Decided (TurnsAt n places z x s up)
  turns_or_not x =
      elim (both (at_or_not places s (seen z x))
      (both (same_value (bit x.values z) (not up)) (excited_or_not n x.values z))) [
        | inl is ↦ inl (record { place = is.0; old = is.1.0; excited = is.1.1 })
        | inr none ↦ inr (λ turns. none (turns.place, (turns.old, turns.excited)))
      ]

  shown_or_not : Decided (TurnsBelow n places z xs (length xs) s up)
  shown_or_not = elim (some_of (λ x. TurnsAt n places z x s up) turns_or_not xs) [
    | inl (x, there, turns) ↦ (
        let at = there_is xs x there in
        inl (record {
          at = at.0;
          state = x;
          below = slice_get_within xs at.0 x at.1;
          there = at.1;
          turns = turns;
        }))
    | inr none ↦ inr (λ shown. none (shown.state, is_there xs shown.state shown.at shown.there, shown.turns))
  ]

-- ---- the two sets
module _ (g : StateGraph) (n : Netlist) (v : Current) (xs : List Reached) (told : AreTold g n xs)
    (is : IsCoded v.coded) where
  abbrev next_signal : ℕ
  next_signal = length v.coded.graph.signals

  abbrev Shown : Bool → ℕ → Type 0
  Shown up s = TurnsBelow n (stands v) next_signal xs (length xs) s up

  shown_within : (up : Bool) (s : ℕ) → Shown up s → s < v.coded.graph.states
  shown_within up s shown =
      let small =
      slice_get_within (stands v) s (seen next_signal shown.state) shown.turns.place in
      omega (arith, small, stands_count v)

  abbrev shown_set : Bool → List Bool
  shown_set up =
      set_of v.coded.graph.states (Shown up) (λ s. shown_or_not n (stands v) next_signal xs s up) (shown_within up)

  marked : (up : Bool) → MarksTurns n (stands v) next_signal xs (length xs) up (shown_set up)
  marked up =
      let decided : (s : ℕ) → Decided (Shown up s) = λ s. shown_or_not n (stands v) next_signal xs s up in
      record {
        size = set_size v.coded.graph.states (Shown up) decided (shown_within up) ∙ sym (stands_count v);
        just = set_just v.coded.graph.states (Shown up) decided (shown_within up);
      }

  pub some_sets : (plus minus : List Bool) × AreSwitchSets g n v plus minus
  some_sets = (
    shown_set true,
    shown_set false,
    turn_sets_switch g n v xs told is (stands v) next_signal (shown_set true) (shown_set false) refl refl
        (record { rises = marked true; falls = marked false }),
  )

-- ---- classes, or an obstacle
module _ (d : CodedGraph) (plus minus : List Bool) (is : IsCoded d) (proper : IsProper d.graph)
    (plus_size : length plus ≡ d.graph.states) (minus_size : length minus ≡ d.graph.states) where
  abbrev Decision : Type 0
  Decision = (next : Next) × IsDecided d.graph plus minus next

  judged : SwitchesBothWays plus minus → (classes : List Class) → AreClasses d.graph plus minus classes → Decision
  judged switches classes are =
      let r = switches.rises in
      let f = switches.falls in
      let r_in : r.0 < d.graph.states = (let b = in_below plus r.0 r.1 in omega (arith, b, plus_size)) in
      let f_in : f.0 < d.graph.states = (let b = in_below minus f.0 f.1 in omega (arith, b, minus_size)) in
      let lawful = classes_lawful d.graph plus minus classes r.0 f.0 is.graph_is are r.1 r_in f.1 f_in in
      elim (accepted_or_reason d classes is proper lawful) [
        | inl accepted ↦ (Found classes, (are, accepted))
        | inr why ↦ (Stopped (Refused why.0), (switches, (classes, are, why.1)))
      ]

  torn_or_not : (s : ℕ) → Decided (HasBothLevels d.graph plus minus s)
  torn_or_not s =
      elim (both (drawn_or_not d.graph plus minus plus minus s) (drawn_or_not d.graph plus minus minus plus s)) [
        | inl levels ↦ inl (record { high = levels.0; low = levels.1 })
        | inr none ↦ inr (λ torn. none (torn.high, torn.low))
      ]

  parted : SwitchesBothWays plus minus → Decision
  parted switches =
      elim (first_number (HasBothLevels d.graph plus minus) torn_or_not d.graph.states
      (λ s torn. torn.high.part.begins.within)) [
        | inl torn ↦ (
          Stopped (Classes torn.0),
          (switches, at_first_signal (HasBothLevels d.graph plus minus) torn.0 torn.1.holds torn.1.first),
        )
        | inr none ↦ elim (classes_or_torn d.graph plus minus switches.rises.0 switches.falls.0 is.graph_is is.connected
            plus_size minus_size switches.apart switches.rises.1 switches.falls.1) [
              | inl classes ↦ judged switches classes.0 classes.1
              | inr torn ↦ absurd (none torn.0 torn.1)
            ]
      ]

  abbrev InBoth : ℕ → Type 0
  InBoth s = IsIn plus s × IsIn minus s

  pub some_decision : Decision
  some_decision = elim (first_number (IsIn plus) (member plus) (length plus) (in_below plus)) [
    | inr never ↦ (Stopped NeverUp, never)
    | inl r ↦ elim (first_number (IsIn minus) (member minus) (length minus) (in_below minus)) [
      | inr never ↦ (Stopped NeverDown, ((r.0, r.1.holds), never))
      | inl f ↦ elim (first_number InBoth (λ s. both (member plus s) (member minus s)) (length plus)
          (λ s there. in_below plus s there.0)) [
            | inl s ↦ (
              Stopped (Both s.0),
              ((r.0, r.1.holds), (f.0, f.1.holds), at_first_signal InBoth s.0 s.1.holds s.1.first),
            )
            | inr apart ↦ parted (record {
              rises = (r.0, r.1.holds);
              falls = (f.0, f.1.holds);
              apart = λ s rises falls. apart s (rises, falls);
            })
          ]
    ]
  ]

pub some_next : (g : StateGraph) (n : Netlist) (v : Current) (xs : List Reached) → AreTold g n xs → IsCoded v.coded
    → IsProper v.coded.graph → (next : Next) × IsNextFor g n v next
some_next g n v xs told is proper =
    let sets = some_sets g n v xs told is in
    let decision = some_decision v.coded sets.0 sets.1 is proper sets.2.plus_size sets.2.minus_size in
    (decision.0, decided_next g n v sets.0 sets.1 v.coded decision.0 sets.2 refl decision.1)
