-- Small expressions over three signals, multiplied out.
use Rattle.std.proofs.Common.{◌≡◌, ℕ, true, false, List, [], ◌∷◌, Some, None, codes, refl, replicate}
use Rattle.si_base.specs.declared.ids.Literal.{Literal}
use Rattle.si_genlib.specs.Expression.{Tree, Pin, Constant, Not, And, Or}
use Rattle.si_from_equations.specs.Sums.{product, sum_of, times}

abbrev names : List (List ℕ)
names = codes "a" ∷ codes "b" ∷ codes "c" ∷ []

abbrev a : Tree
a = Pin (codes "a")

abbrev b : Tree
b = Pin (codes "b")

abbrev c : Tree
c = Pin (codes "[c]")

abbrev plain : ℕ → Literal
plain s = record { sig = s; plain = true }

abbrev complemented : ℕ → Literal
complemented s = record { sig = s; plain = false }

-- the literals stand in signal order, whichever cube they come from
in_signal_order : product (plain 2 ∷ []) (plain 0 ∷ complemented 1 ∷ [])
    ≡ Some (plain 0 ∷ complemented 1 ∷ plain 2 ∷ [])
in_signal_order = refl

-- `(a + b) c` is `a c + b c`
both_with_c : sum_of names (And (Or a b) c)
    ≡ Some ((plain 0 ∷ plain 2 ∷ []) ∷ (plain 1 ∷ plain 2 ∷ []) ∷ [])
both_with_c = refl

-- `(a b + c)'` is `a' c' + b' c'`
complement_by_factors : sum_of names (Not (Or (And a b) c))
    ≡ Some ((complemented 0 ∷ complemented 2 ∷ []) ∷ (complemented 1 ∷ complemented 2 ∷ []) ∷ [])
complement_by_factors = refl

-- `a a'` is 0
contradiction : sum_of names (And a (Not a)) ≡ Some []
contradiction = refl

-- `a + CONST1` has a cube without literals, behind that of `a`
or_one : sum_of names (Or a (Constant true)) ≡ Some ((plain 0 ∷ []) ∷ [] ∷ [])
or_one = refl

-- a name that no signal has is 0
no_signal : sum_of names (Or (Pin (codes "d")) b) ≡ Some ((plain 1 ∷ []) ∷ [])
no_signal = refl

-- 33 cubes with 32 cubes are more than 1,024 pairs
too_many_pairs : times (Some (replicate 33 [])) (Some (replicate 32 [])) ≡ None
too_many_pairs = refl
