use Rattle.std.proofs.Common.{◌≡◌, drop}
use Rattle.std.specs.List.{list_all}
use Rattle.si_words.specs.Names.{stands_in}
use Rattle.si_equations.specs.Equations.{driven}
use Rattle.si_equations_reader.specs.Held.{progress_now}
use Rattle.si_equations_reader.proofs.progress.Progress.has_all_outputs.Given as goal

abbrev pub invariant-loop-k : goal.invariant-loop-k
invariant-loop-k l = list_all (stands_in (driven (progress_now l.self))) (drop l.k l.self.outputs)
    ≡ list_all (stands_in (driven (progress_now l.self))) l.self.outputs
