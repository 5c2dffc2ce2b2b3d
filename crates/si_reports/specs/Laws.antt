-- (law) What laws say of replays over texts.
use Rattle.std.specs.Prelude.{ℕ, ◌⊎◌, List, Ok, Err}
use Rattle.si_refusals.specs.Refusal.{TextRefusal, Differs}
use Rattle.si_refusals.specs.Stages.{Stage}
use Rattle.si_system.specs.declared.verdict.Verdict.{Verdict}

-- the stage gives an output, or shows the first event of a replay whose verdict isn't `Done`
abbrev pub EndsOrDiffers : Stage TextRefusal (List ℕ) → Type 0
EndsOrDiffers stage = ((output : List ℕ) × stage (Ok output))
    ⊎ ((step : ℕ) × (signal : List ℕ) × (verdict : Verdict)
    × stage (Err (Differs step signal verdict)))
