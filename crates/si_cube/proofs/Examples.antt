-- The codes of the two-input C-element: the rule at work.
use Rattle.std.proofs.Common.{◌≡◌, ℕ, true, List, [], ◌∷◌, refl}
use Rattle.si_base.specs.declared.ids.Literal.{Literal}
use Rattle.si_cube.specs.Rule.{chosen, grown}

plain : ℕ → Literal
plain a = record { sig = a; plain = true }

required : List ℕ
required = 3 ∷ 7 ∷ 6 ∷ 5 ∷ []

forbidden : List ℕ
forbidden = 0 ∷ 1 ∷ 2 ∷ 4 ∷ []

-- the full cube a b c' of 110 loses c' alone: without a or b it would cover 010 or 100
first_cube : grown 3 forbidden 3 ≡ plain 0 ∷ plain 1 ∷ []
unfolding plain forbidden
first_cube = refl

-- a b + b c + a c: 111 is covered by a b
majority : chosen 3 (record { required = required; forbidden = forbidden }) ≡ (plain 0 ∷ plain 1 ∷ [])
    ∷ (plain 1 ∷ plain 2 ∷ []) ∷ (plain 0 ∷ plain 2 ∷ []) ∷ []
unfolding plain required forbidden
majority = refl
