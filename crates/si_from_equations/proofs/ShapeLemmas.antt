-- The sum of products of an expression has cubes in signal order, of signals that are there.
use Rattle.std.proofs.Common.{◌≡◌, ℕ, ◌<◌, Bool, true, false, List, length, Option, Some, None, position, bytes_eq}
use Rattle.std.proofs.Common.{[], refl, sym, subst, arith}
use Rattle.std.proofs.lemmas.List.Quantifiers.{position-Some}
use Rattle.si_genlib.specs.Expression.{Tree, Pin, Constant, Not, And, Or, value_of}
use Rattle.si_equations.specs.Names.{bare}
use Rattle.si_from_equations.specs.Sums.{TwoSums, constant_sums, signal_sums, sums}
use Rattle.si_from_equations.specs.SumLaws.{SumsAreWellFormed}
use Rattle.si_from_equations.proofs.SumShapes.{SumRises, plus_rises, times_rises, is_sum}

record BothRise (signals : ℕ) (two : TwoSums) : Type 0 where
  pub plain : SumRises signals two.plain
  pub complement : SumRises signals two.complement

of_constant : (signals : ℕ) (value : Bool) → BothRise signals (constant_sums value)
of_constant signals true = record { plain = (tt, tt); complement = tt }
of_constant signals false = record { plain = tt; complement = (tt, tt) }

-- the place of a name is one of the list
place_within : (names : List (List ℕ)) (name : List ℕ) (s : ℕ) → Some s ≡ position (λ n. bytes_eq name n) names
    → s < length names
place_within names name s at = (position-Some (λ n. bytes_eq name n) names s [] (sym at)).0

of_name : (names : List (List ℕ)) (name : List ℕ) (place : Option ℕ)
    → place ≡ position (λ n. bytes_eq name n) names → BothRise (length names) (signal_sums place)
of_name names name None at = of_constant (length names) false
of_name names name (Some s) at =
    let below = place_within names name s at in
    record {
      plain = ((omega arith, below, tt), tt);
      complement = ((omega arith, below, tt), tt);
    }

of_tree : (names : List (List ℕ)) (tree : Tree) → BothRise (length names) (value_of (sums names) tree)
of_tree names (Pin name) = of_name names (bare name) _ refl
of_tree names (Constant value) = of_constant (length names) value
of_tree names (Not tree) =
    let two = of_tree names tree in
    record { plain = two.complement; complement = two.plain }
of_tree names (And left right) =
    let x = of_tree names left in
    let y = of_tree names right in
    record {
      plain = times_rises (length names) _ _ x.plain y.plain;
      complement = plus_rises (length names) _ _ x.complement y.complement;
    }
of_tree names (Or left right) =
    let x = of_tree names left in
    let y = of_tree names right in
    record {
      plain = plus_rises (length names) _ _ x.plain y.plain;
      complement = times_rises (length names) _ _ x.complement y.complement;
    }

pub sums_well_formed : SumsAreWellFormed
sums_well_formed names tree sum there = is_sum (length names) sum (subst (SumRises (length names)) there
    (of_tree names tree).plain)
