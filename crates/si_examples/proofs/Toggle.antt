-- A gate of constant value 0 beside a graph in which its signal falls and rises: verdicts at work.
use Rattle.std.proofs.Common.{◌≡◌, ℕ, zero, suc, List, [], ◌∷◌, Some, None, refl, true, codes, lit<, nat_le, leb-true}
use Rattle.std.proofs.Common.{◌==◌, ◌&&◌, ◌||◌, not}
use Rattle.si_base.specs.declared.graph.Signal.{Signal}
use Rattle.si_base.specs.declared.graph.SigKind.TheVariants.{Output}
use Rattle.si_base.specs.declared.fault.TextKind.TheVariants.{BadEvent, Toggle, Undeclared}
use Rattle.si_base.specs.Graph.{StateGraph, Step, arc, rise, fall, same_event}
use Rattle.si_base.specs.Netlist.{SumGate, Netlist}
use Rattle.si_base.specs.System.{State, Fires}
use Rattle.si_base.proofs.GraphSteps.{all_arcs}
use Rattle.si_words.specs.Events.{event_fault, event_of}
use Rattle.si_system.specs.Outcome.{IsOutcome}
use Rattle.si_system.specs.Verdict.{IsVerdict, Loses}
use Rattle.si_system.specs.declared.replay.Outcome.TheVariants as outcome
use Rattle.si_system.specs.declared.verdict.Verdict.TheVariants.{Done, Blocked}

abbrev signals : List Signal
signals = record { name = codes "a"; kind = Output } ∷ []

abbrev toggle : StateGraph
toggle = record { signals = signals; states = 2; edges = arc 0 (fall 0) 1 ∷ arc 1 (rise 0) 0 ∷ []; start = 0 }

abbrev constant : Netlist
constant = record { model = codes "a"; signals = signals; start = 1; inserts = []; gates = SumGate [] ∷ [] }

abbrev at_code : ℕ → ℕ → State
at_code values s = record { values = values; place = Some s }

falls : Fires toggle constant (at_code 1 0) (fall 0) (at_code 0 1)
falls = record {
  at = 0;
  not_astray = refl;
  signal = record { name = codes "a"; kind = Output };
  named = refl;
  old_value = refl;
  new_values = refl;
  may = (
    record {
      gate = (record { name = codes "a"; kind = Output }, refl, refl);
      differs = λ same. cc;
    },
    record { step = (0, lit< tt, refl); least = λ u step. leb-true 1 u (one_target u step) },
  );
}
  where
    one_target : (u : ℕ) → Step toggle 0 (fall 0) u → nat_le 1 u ≡ true
    one_target u step = all_arcs (λ a. not ((a.from == 0) && same_event a.event (fall 0)) || nat_le 1 a.to)
        toggle 0 (fall 0) u refl step

no_other : (z : ℕ) → Loses constant 1 0 0 z → ⊥
no_other zero loses = loses.other refl
no_other (suc z) loses = (let none = loses.was_excited.gate.1 in cc)

-- `a-` is done at the start
fall_done : IsVerdict toggle constant (at_code 1 0) (fall 0) Done (at_code 0 1)
fall_done = (falls, refl, no_other)

-- `a+` is blocked there: `a` has the value 1 already
rise_blocked : IsVerdict toggle constant (at_code 1 0) (rise 0) Blocked (at_code 1 0)
rise_blocked = ((λ step. let old = step.1.old_value in cc), refl)

-- the schedule `a-` ends with the value 0 at the second state
one_fall : IsOutcome toggle constant (at_code 1 0) (fall 0 ∷ []) (outcome.Done 0 1)
one_fall = (at_code 0 1, (at_code 0 1, fall_done, refl), refl, refl)

-- ---- words of a schedule
abbrev names : List (List ℕ)
names = codes "a" ∷ codes "b" ∷ []

plain_event : event_fault names (codes "a+") ≡ None
plain_event = refl

numbered_event : event_of names (codes "b-/12") ≡ fall 1
numbered_event = refl

toggled : event_fault names (codes "a~") ≡ Some Toggle
toggled = refl

starred : event_fault names (codes "a*") ≡ Some BadEvent
starred = refl

unknown : event_fault names (codes "d+") ≡ Some Undeclared
unknown = refl
