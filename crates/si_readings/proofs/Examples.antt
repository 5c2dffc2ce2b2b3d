-- A breach by its names, and the texts of a replay: the definitions at work.
use Rattle.std.proofs.Common.{◌≡◌, ℕ, List, [], ◌∷◌, Some, None, refl, true, false, codes}
use Rattle.si_base.specs.Codes.{IsConsistent, IsDeterministic}
use Rattle.si_base.specs.Graph.{StateGraph, names_in}
use Rattle.si_base.specs.Order.{IsFirst}
use Rattle.si_base.specs.Proper.{IsCommutative, Loss, Loses, loss_place}
use Rattle.si_base.specs.declared.graph.Signal.{Signal}
use Rattle.si_base.specs.declared.graph.SigKind.TheVariants.{Input, Output}
use Rattle.si_base.specs.declared.fault.TextKind.TheVariants.{NoEnd, Toggle, Undeclared}
use Rattle.si_netlist_reader.specs.NetlistFault.{netlist_fault}
use Rattle.si_netlist_reader.specs.NetlistValue.{netlist_of}
use Rattle.si_checks.specs.Laws.{HasLoss}
use Rattle.si_refusals.specs.declared.breach.NamedBreach.{NamedBreach}
use Rattle.si_refusals.specs.declared.breach.NamedBreach.TheVariants.{Nonpersistent}
use Rattle.si_refusals.specs.Ending.{Answered, line_of}
use Rattle.si_refusals.specs.Refusal.{TextRefused, Improper}
use Rattle.si_readings.specs.Checks.{breach_name}
use Rattle.si_system.specs.ScheduleText.{schedule_fault, schedule_of}

abbrev two_signals : List Signal
two_signals = record { name = codes "b"; kind = Input } ∷ record { name = codes "z"; kind = Output } ∷ []

-- ---- a breach by its names
-- at `s0` the event `b+` disables the event `z+`
abbrev loss : Loss
loss = record { s = 0; lost = record { sig = 1; up = true }; by = record { sig = 0; up = true } }

abbrev three_states : StateGraph
three_states = record {
  signals = two_signals;
  states = 3;
  edges = record { from = 0; event = record { sig = 0; up = true }; to = 1 }
      ∷ record { from = 0; event = record { sig = 1; up = true }; to = 2 }
      ∷ [];
  start = 0;
}

abbrev shown_loss : NamedBreach
shown_loss = Nonpersistent (codes "s0") (codes "z+") (codes "b+")

loss_name : (d : IsDeterministic three_states) (v : IsConsistent three_states) (q : IsCommutative three_states)
    (first : IsFirst loss_place (Loses three_states) loss)
    → breach_name (codes "s0" ∷ codes "s1" ∷ codes "s2" ∷ []) (HasLoss d v q loss first) ≡ Some shown_loss
loss_name d v q first = refl

loss_line : line_of (Answered (TextRefused (Improper shown_loss))) ≡ codes "nonpersistent s0 z+ b+\n"
loss_line = refl

-- ---- the texts of a replay
abbrev element : List ℕ
element =
    codes ".model c2\n.inputs a b\n.outputs c\n.internal\n.inserted\n.start 000\n.gates\nc sum a b + b c + a c\n.end\n"

cut_short : netlist_fault (codes ".model c2\n.inputs a b\n") ≡ Some (3, NoEnd)
unfolding netlist_fault
cut_short = refl

element_good : netlist_fault element ≡ None
unfolding netlist_fault
element_good = refl

element_names : names_in (netlist_of element).signals ≡ codes "a" ∷ codes "b" ∷ codes "c" ∷ []
unfolding netlist_of
element_names = refl

toggle_fault : schedule_fault (names_in (netlist_of element).signals) (codes "a+ b+\n\nc~") ≡ Some (3, Toggle)
unfolding netlist_of
toggle_fault = refl

undeclared_fault : schedule_fault (names_in (netlist_of element).signals) (codes "a+ d-/2") ≡ Some (1, Undeclared)
unfolding netlist_of
undeclared_fault = refl

two_events : schedule_of (names_in (netlist_of element).signals) (codes "a+ # first\nc-/2")
    ≡ record { sig = 0; up = true } ∷ record { sig = 2; up = false } ∷ []
unfolding netlist_of
two_events = refl
