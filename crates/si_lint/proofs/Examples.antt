-- What is told of the C-element without its last arc, beside a state that isn't reached, as a text.
use Rattle.std.proofs.Common.{◌≡◌, ℕ, ◌==◌, List, [], ◌∷◌, cond, refl, codes, lit<}
use Rattle.std.proofs.lemmas.Fmt.{decimal_digit}
use Rattle.si_base.specs.declared.ids.Event.{Event}
use Rattle.si_base.specs.declared.graph.Signal.{Signal}
use Rattle.si_base.specs.declared.graph.SigKind.TheVariants.{Input, Output}
use Rattle.si_base.specs.Graph.{arc, rise, fall}
use Rattle.si_lint.specs.Findings.{Findings}
use Rattle.si_lint.specs.LintText.{lint_text}

abbrev signals : List Signal
signals = record { name = codes "a"; kind = Input } ∷ record { name = codes "b"; kind = Input }
    ∷ record { name = codes "c"; kind = Output } ∷ []

abbrev names : List (List ℕ)
names = codes "s0" ∷ codes "s1" ∷ codes "s2" ∷ codes "s3" ∷ codes "s4" ∷ codes "s5" ∷ codes "s6" ∷ codes "s7" ∷ []

-- to the state without arcs, and to the start
abbrev walk : ℕ → List Event
walk s = cond (s == 7) (rise 0 ∷ rise 1 ∷ rise 2 ∷ fall 0 ∷ fall 1 ∷ []) []

abbrev findings : Findings
findings = record {
  unused = [];
  dead = 7 ∷ [];
  one_way = arc 0 (rise 0) 1 ∷ arc 0 (rise 1) 2 ∷ [];
  choices = [];
  disablings = [];
  same_codes = [];
  merged = [];
  unresolvable = [];
}

told : lint_text signals names (codes "s8" ∷ []) walk findings
    ≡ codes "told 4\ndropped s8\ndead s7 a+ b+ c+ a- b-\noneway s0 a+ s1\noneway s0 b+ s2\n"
unfolding lint_text
told = rw (decimal_digit 4 (lit< tt)) refl
