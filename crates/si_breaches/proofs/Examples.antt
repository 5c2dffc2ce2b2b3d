-- The text of a breach of each kind.
use Rattle.std.proofs.Common.{◌≡◌, ℕ, ◌==◌, List, [], ◌∷◌, ◌++◌, cond, refl, codes, lit<, true, false}
use Rattle.std.proofs.lemmas.Fmt.{decimal_digit}
use Rattle.si_base.specs.declared.ids.Event.{Event}
use Rattle.si_base.specs.declared.graph.Signal.{Signal}
use Rattle.si_base.specs.declared.graph.SigKind.TheVariants.{Input, Output}
use Rattle.si_base.specs.Graph.{arc, rise, fall}
use Rattle.si_breaches.specs.Breaches.{Breaches, by_arc, is_odd}
use Rattle.si_breaches.specs.BreachText.{breach_text}
use Rattle.si_breaches.specs.declared.clashes.Clash.TheVariants.{Torn}

abbrev signals : List Signal
signals = record { name = codes "a"; kind = Input } ∷ record { name = codes "b"; kind = Input }
    ∷ record { name = codes "c"; kind = Output } ∷ []

abbrev names : List (List ℕ)
names = codes "s0" ∷ codes "s1" ∷ codes "s2" ∷ codes "s3" ∷ codes "s4" ∷ codes "s5" ∷ codes "s6" ∷ codes "s7" ∷ []

-- to the state without arcs, and to the start
abbrev walk : ℕ → List Event
walk s = cond (s == 7) (rise 0 ∷ rise 1 ∷ rise 2 ∷ fall 0 ∷ fall 1 ∷ []) []

-- b is switched on the way to s7, and once more by an arc back to the start
abbrev breaches : Breaches
breaches = record {
  splits = record { s = 0; e = rise 0; t = 1; u = 2 } ∷ [];
  clashes = record { sig = 1; clash = Torn (arc 7 (rise 1) 0) } ∷ [];
  forks = record { s = 0; a = rise 0; c = rise 1; w = 3; w2 = 4 } ∷ [];
  losses = record { s = 7; lost = rise 2; by = rise 0 } ∷ [];
}

abbrev first_lines : List ℕ
first_lines = codes "told 6\ndropped s8\nnondeterministic s0 a+ s1 s2\ninconsistent b s0 a+ b+ c+ a- b- b+\n"

abbrev last_lines : List ℕ
last_lines = codes "inconsistent b s0\nnoncommutative s0 a+ b+ s3 s4\nnonpersistent s7 c+ a+ a+ b+ c+ a- b-\n"

told_breaches : breach_text signals names (codes "s8" ∷ []) walk breaches ≡ first_lines ++ last_lines
unfolding breach_text
told_breaches = rw (decimal_digit 6 (lit< tt)) refl

-- that b has two values at s0 shows in these walks
torn : (is_odd 1 (by_arc walk (arc 7 (rise 1) 0)) ≡ true) × (is_odd 1 (walk 0) ≡ false)
torn = (refl, refl)
