-- The summary of a graph, the end of a replay, what is read of a graph: the definitions at work.
use Rattle.std.proofs.Common.{◌≡◌, ℕ, List, [], ◌∷◌, ◌++◌, refl, ap, codes, append_assoc, Some, true, false}
use Rattle.std.specs.Prelude.{decimal}
use Rattle.si_base.specs.Codes.{CodedGraph, IsConsistent, IsDeterministic}
use Rattle.si_base.specs.Graph.{StateGraph}
use Rattle.si_base.specs.Order.{IsFirst}
use Rattle.si_base.specs.Proper.{Fork, Forks, fork_place, IsFirstWithoutValues}
use Rattle.si_checks.specs.Laws.{HasFork, HasNoValues}
use Rattle.si_base.specs.declared.graph.Signal.{Signal}
use Rattle.si_base.specs.declared.graph.SigKind.TheVariants.{Input, Output}
use Rattle.si_pictures.specs.declared.seen.Breach.TheVariants.{Inconsistent, Noncommutative}
use Rattle.si_readings.specs.SeenGraph.{breach_of}
use Rattle.si_reports.specs.Replayed.{replay_text, shown_signal}
use Rattle.si_reports.specs.Reports.{summary}
use Rattle.si_system.specs.declared.verdict.Verdict.TheVariants.{Lost, Blocked}

abbrev pub two_signals : List Signal
two_signals = record { name = codes "b"; kind = Input } ∷ record { name = codes "z"; kind = Output } ∷ []

-- ---- the summary of a graph
abbrev pub two_states : CodedGraph
two_states = record {
  graph = record {
    signals = two_signals;
    states = 2;
    edges = record { from = 0; event = record { sig = 0; up = false }; to = 1 } ∷ [];
    start = 0;
  };
  codes = 1 ∷ 0 ∷ [];
}

pub three_ends : (a b c x y z end : List ℕ)
    → x ++ ((a ++ 10 ∷ []) ++ (y ++ ((b ++ 10 ∷ []) ++ (z ++ ((c ++ 10 ∷ []) ++ end)))))
    ≡ x ++ (a ++ 10 ∷ (y ++ (b ++ 10 ∷ (z ++ (c ++ 10 ∷ end)))))
three_ends a b c x y z end = simp append_assoc

summary_text : summary two_states
    ≡ codes "proper\nsignals " ++ (decimal 2 ++ (codes "\nstates " ++ (decimal 2 ++ (codes "\narcs "
    ++ (decimal 1 ++ codes "\nstart 10\n")))))
summary_text =
    three_ends (decimal 2) (decimal 2) (decimal 1) (codes "proper\nsignals ") (codes "states ") (codes "arcs ")
    (codes "start 10\n")

-- ---- the end of a replay
-- the signal of a lost excitation is shown, and else the event's
lost_shown : shown_signal (record { sig = 1; up = true }) (Lost 2) ≡ 2
lost_shown = refl

blocked_shown : shown_signal (record { sig = 1; up = true }) Blocked ≡ 1
blocked_shown = refl

abbrev pub signals : List Signal
signals = record { name = codes "a"; kind = Input } ∷ record { name = codes "c"; kind = Output } ∷ []

end_text : replay_text 19 signals 2 (codes "s7") ≡ codes "done " ++ decimal 19 ++ codes "\nvalues 01\nstate s7\n"
end_text = ap (λ (t : List ℕ). codes "done " ++ t) (append_assoc (decimal 19) (10 ∷ []) (codes "values 01\nstate s7\n"))

no_signal_text : replay_text 0 [] 0 (codes "s0") ≡ codes "done " ++ decimal 0 ++ codes "\nvalues\nstate s0\n"
no_signal_text =
    ap (λ (t : List ℕ). codes "done " ++ t) (append_assoc (decimal 0) (10 ∷ []) (codes "values\nstate s0\n"))

-- ---- what is read of a graph
-- a breach is shown by its states and events: of two orders the state and the two events
no_values : (g : StateGraph) (deterministic : IsDeterministic g) (first : IsFirstWithoutValues g 1)
    → breach_of (HasNoValues deterministic 1 first) ≡ Some (Inconsistent 1)
no_values g deterministic first = refl

two_orders : (g : StateGraph) (deterministic : IsDeterministic g) (consistent : IsConsistent g) (b : Fork)
    (first : IsFirst fork_place (Forks g) b)
    → breach_of (HasFork deterministic consistent b first) ≡ Some (Noncommutative b.s b.a b.c)
two_orders g deterministic consistent b first = refl
