-- (command) What a text gives beside the states that it drops, and what `lint` tells of it.
use Rattle.std.specs.Prelude.{ℕ, List, Ok, Err}
use Rattle.si_base.specs.GivenGraph.{Sg}
use Rattle.si_base.specs.Graph.{StateGraph}
use Rattle.si_breaches.specs.BreachText.{IsBreachText}
use Rattle.si_lint.specs.LintText.{IsLintText}
use Rattle.si_pictures.specs.declared.seen.Seen.{Seen}
use Rattle.si_pictures.specs.declared.seen.Seen.TheVariants.{Proper, Coded, Uncoded}
use Rattle.si_readings.specs.Readings.{TellsFault}
use Rattle.si_readings.specs.SeenGraph.{IsSeen}
use Rattle.si_refusals.specs.Refusal.{TextRefusal}
use Rattle.si_refusals.specs.Stages.{Stage, ◌>>=◌, shows}
use Rattle.si_sg.specs.Dropped.{IsDroppedBy}
use Rattle.si_sg.specs.GivenGraph.{IsGivenBy, sg_now}
use Rattle.si_sg.specs.GraphText.{graph_fault}
use Rattle.si_sg.specs.declared.read.Whole.{Whole as WholeRead}

-- the graph that a text gives, and the names of the states that it hasn't
pub record Whole : Type 0 where
  pub given : Sg
  pub dropped : List (List ℕ)

abbrev pub whole_now : WholeRead → Whole
whole_now w = record { given = sg_now w.sg; dropped = w.dropped }

-- where the text has no fault, else its first fault
abbrev pub whole_in : (file text : List ℕ) → Stage TextRefusal Whole
whole_in file text (Ok whole) =
    IsGivenBy text whole.given × IsDroppedBy text whole.dropped
whole_in file text (Err refusal) = TellsFault file (graph_fault text) refusal

-- what is told of a graph as it was read, with these names of its states and of those that were
-- dropped: of a proper graph what is worth a second look, and of any other all its breaches
abbrev pub IsTold : (states dropped : List (List ℕ)) → Seen → List ℕ → Type 0
IsTold states dropped (Proper coded) text = IsLintText coded states dropped text
IsTold states dropped (Coded coded breach) text = IsBreachText coded.graph states dropped text
IsTold states dropped (Uncoded graph breach) text = IsBreachText graph states dropped text

abbrev pub told : (states dropped : List (List ℕ)) → StateGraph → Stage TextRefusal (List ℕ)
told states dropped graph = do
  seen ← shows (IsSeen graph)
  shows (IsTold states dropped seen)
