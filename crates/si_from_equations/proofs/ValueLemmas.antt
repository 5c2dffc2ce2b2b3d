-- The sum of products of an expression has its value.
use Rattle.std.proofs.Common.{◌≡◌, ℕ, ◌&&◌, ◌||◌, not, Bool, true, false, List, Option, Some, None, position, bytes_eq}
use Rattle.std.proofs.Common.{refl, subst, ◌∙◌}
use mathlib.Core.Bool.{beq}
use Rattle.si_base.specs.Bits.{bit}
use Rattle.si_base.specs.Netlist.{Sum, sum_value}
use Rattle.si_genlib.specs.Expression.{Tree, Pin, Constant, Not, And, Or, value_of}
use Rattle.si_equations.specs.Names.{bare, named_value}
use Rattle.si_equations.specs.Equations.{expression_value}
use Rattle.si_equations_reader.proofs.NamedValueLemmas.{named_there, named_none}
use Rattle.si_from_equations.specs.Sums.{TwoSums, literal_sum, constant_sums, signal_sums, sums}
use Rattle.si_from_equations.specs.SumLaws.{SumsHaveTheirValues}
use Rattle.si_from_equations.proofs.SumValues.{Has, plus_has, times_has}

-- the sum has this value, and that of the complement the other
record HaveValue (values : ℕ) (two : TwoSums) (value : Bool) : Type 0 where
  pub plain : Has values two.plain value
  pub complement : Has values two.complement (not value)

module _ (values : ℕ) where
  literal_value_is : (s : ℕ) (plain : Bool) → sum_value values (literal_sum s plain) ≡ beq (bit values s) plain
  literal_value_is s plain = by_value (beq (bit values s) plain)
    where
      by_value : (b : Bool) → ((b && true) || false) ≡ b
      by_value true = refl
      by_value false = refl

  of_constant : (value : Bool) → HaveValue values (constant_sums value) value
  of_constant true = record { plain = refl; complement = refl }
  of_constant false = record { plain = refl; complement = refl }

  of_literals : (s : ℕ) → HaveValue values (signal_sums (Some s)) (bit values s)
  of_literals s = record {
    plain = literal_value_is s true ∙ plainly (bit values s);
    complement = literal_value_is s false ∙ turned (bit values s);
  }
    where
      plainly : (b : Bool) → beq b true ≡ b
      plainly true = refl
      plainly false = refl

      turned : (b : Bool) → beq b false ≡ not b
      turned true = refl
      turned false = refl

  of_name : (names : List (List ℕ)) (name : List ℕ) (place : Option ℕ)
      → place ≡ position (λ n. bytes_eq name n) names
      → HaveValue values (signal_sums place) (named_value names values name)
  of_name names name None at = subst (HaveValue values (constant_sums false)) (named_none names values name at)
      (of_constant false)
  of_name names name (Some s) at = subst (HaveValue values (signal_sums (Some s))) (named_there names values name s at)
      (of_literals s)

  of_tree : (names : List (List ℕ)) (tree : Tree)
      → HaveValue values (value_of (sums names) tree) (expression_value names values tree)
  of_tree names (Pin name) = of_name names (bare name) _ refl
  of_tree names (Constant value) = of_constant value
  of_tree names (Not tree) =
      let two = of_tree names tree in
      record {
        plain = two.complement;
        complement = subst (Has values (value_of (sums names) tree).plain)
            (twice (expression_value names values tree)) two.plain;
      }
    where
      twice : (b : Bool) → b ≡ not (not b)
      twice true = refl
      twice false = refl
  of_tree names (And left right) =
      let x = of_tree names left in
      let y = of_tree names right in
      record {
        plain = times_has values _ _ _ _ x.plain y.plain;
        complement = subst (Has values _)
            (complement_of (expression_value names values left) (expression_value names values right))
            (plus_has values _ _ _ _ x.complement y.complement);
      }
    where
      complement_of : (a b : Bool) → (not a || not b) ≡ not (a && b)
      complement_of true b = refl
      complement_of false b = refl
  of_tree names (Or left right) =
      let x = of_tree names left in
      let y = of_tree names right in
      record {
        plain = plus_has values _ _ _ _ x.plain y.plain;
        complement = subst (Has values _)
            (complement_of (expression_value names values left) (expression_value names values right))
            (times_has values _ _ _ _ x.complement y.complement);
      }
    where
      complement_of : (a b : Bool) → (not a && not b) ≡ not (a || b)
      complement_of true b = refl
      complement_of false b = refl

pub sums_have_values : SumsHaveTheirValues
sums_have_values names tree sum there values = subst (λ (some : Option Sum). Has values some
    (expression_value names values tree)) there (of_tree values names tree).plain
