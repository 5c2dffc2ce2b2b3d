-- A wave shows the run of its schedule.
use Rattle.std.proofs.Common.{ℕ, zero, suc, ◌≤◌, List, [], ◌∷◌, length, take, Ok, refl, subst₂, arith}
use Rattle.si_base.specs.declared.ids.Event.{Event}
use Rattle.si_base.specs.Graph.{StateGraph}
use Rattle.si_base.specs.Netlist.{Netlist}
use Rattle.si_base.specs.System.{Runs, State, start}
use Rattle.si_system.specs.Outcome.{Passes as PassesAll}
use Rattle.si_reports.specs.Meaning.{replay}
use Rattle.si_reports.specs.Replayed.{IsReplay}
use Rattle.si_reports.specs.WaveLaws.{ShowsReplay, ShowsRun}
use Rattle.si_reports.specs.declared.replay_kind.ReplayReport.TheVariants.{Wave}
use Rattle.si_readings.proofs.ReadingLemmas.{replay_readings_are}
use Rattle.si_readings.proofs.StageLemmas.{passed}
use Rattle.si_wave.proofs.ReadingLemmas.{shows_runs}

-- events whose verdicts are done are a run, and so are the first of them
run_until : (g : StateGraph) (n : Netlist) (x : State) (es : List Event) (y : State) → PassesAll g n x es y
    → (time : ℕ) → time ≤ length es → (z : State) × Runs g n x (take time es) z
run_until g n x es y passes zero within = (x, refl)
run_until g n x [] y passes (suc time) within = absurd (omega (arith, within))
run_until g n x (e ∷ es) y passes (suc time) within =
    let later = run_until g n passes.0 es y passes.2 time (omega (arith, within)) in
    (later.0, (passes.0, passes.1.0, later.1))

shows_run : (graph : StateGraph) (states : List (List ℕ)) (net : Netlist) (events : List Event) (output : List ℕ)
    → IsReplay Wave graph states net events output → ShowsRun graph net events output
shows_run graph states net events output is = record {
  output_is = is.output_is;
  shows = λ time within.
      let run = run_until graph net (start graph net) events is.outcome_is.0 is.outcome_is.1 time within in
      (run.0, run.1, shows_runs net events graph time run.0 within run.1);
}

pub shows_replay : (g n s a b c output : List ℕ) → replay Wave g a n b s c (Ok output) → ShowsReplay a b c output
shows_replay g n s a b c output told =
    let first = passed _ _ output told in
    let second = passed _ _ output first.2 in
    let third = passed _ _ output second.2 in
    let readings = first.0 in
    let are = replay_readings_are g a n b s c readings first.1 in
    let run = shows_run readings.given.graph readings.given.states readings.netlist readings.events output third.2 in
    record {
      given = readings.given;
      is_given = are.given;
      no_fault = are.no_fault;
      sound = are.sound;
      run = subst₂ (λ (m : Netlist) (es : List Event). ShowsRun readings.given.graph m es output) are.netlist are.events
          run;
    }
