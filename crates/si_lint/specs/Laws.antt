-- (law) The laws of the report of a graph, one word each.
use Rattle.std.specs.Prelude.{◌≡◌, ℕ, List}
use Rattle.si_base.specs.Codes.{CodedGraph, IsCoded}
use Rattle.si_lint.specs.LintText.{IsLintText}

-- a graph with names for its states has one such text at most
abbrev pub LintTextsAreUnique : Type 0
LintTextsAreUnique = (c : CodedGraph) (states dropped : List (List ℕ)) (x y : List ℕ) → IsCoded c
    → IsLintText c states dropped x → IsLintText c states dropped y → x ≡ y

-- and has one
abbrev pub LintTextsExist : Type 0
LintTextsExist = (c : CodedGraph) (states dropped : List (List ℕ)) → IsCoded c
    → (text : List ℕ) × IsLintText c states dropped text
