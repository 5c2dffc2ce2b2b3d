-- What was found, and what holds of what is printed.
use Rattle.std.specs.Prelude.{ℕ, ◌<◌}
use Rattle.si_conflicts.specs.Conflicts.{pairs_of}
use Rattle.si_lint.specs.declared.findings.Found.{Found}
use Rattle.si_lint.specs.Findings.{Findings}

-- the code's findings
abbrev pub findings_of : Found → Findings
findings_of f = record {
  unused = f.unused.items;
  dead = f.dead.items;
  one_way = f.one_way.items;
  choices = f.choices.items;
  disablings = f.disablings.items;
  same_codes = pairs_of f.same_codes.items;
  merged = pairs_of f.merged.items;
  unresolvable = pairs_of f.unresolvable.items;
}

-- the states of a pair are among so many
abbrev pub PairIsWithin : ℕ → ℕ × ℕ → Type 0
PairIsWithin states pair = (pair.0 < states) × (pair.1 < states)
