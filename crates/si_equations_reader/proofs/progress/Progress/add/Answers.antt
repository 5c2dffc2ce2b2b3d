use Rattle.std.proofs.Common.{List, ℕ, ap, sym, ◌∙◌}
use Rattle.si_words.specs.Names.{stands_in}
use Rattle.si_equations.specs.Equations.{driven}
use Rattle.si_equations_reader.specs.Held.{progress_now}
use Rattle.si_equations_reader.proofs.ProgressLemmas.{internal_new}
use Rattle.si_equations_reader.proofs.progress.Progress.add.Goals as goal

pub push-requires-clause-new : goal.push-requires-clause-new
push-requires-clause-new c =
    ap (λ (names : List (List ℕ)). stands_in names c.args.name.now) c.requires.counted
    ∙ (internal_new c.args.self.now.inputs c.args.self.now.outputs (driven (progress_now c.args.self.now))
    c.args.name.now c.requires.fine (sym c.has.ensures ∙ c.if-not-has.true)).new
