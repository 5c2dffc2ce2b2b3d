-- (field) The sum of products of an expression, multiplied out in the order in which it is written.
use Rattle.std.specs.Prelude.{ℕ, ◌+◌, ◌*◌, ◌==◌, Bool, true, false, List, [], ◌∷◌, ◌++◌, length}
use Rattle.std.specs.Prelude.{nat_lt, nat_le, bytes_eq, if◌then◌else◌, position, flat_map}
use Rattle.std.specs.Prelude.{filter_map, Option, Some, None, option_map, option_and_then}
use mathlib.Core.Bool.{beq}
use Rattle.si_base.specs.declared.ids.Literal.{Literal}
use Rattle.si_base.specs.Netlist.{Sum}
use Rattle.si_genlib.specs.Expression.{Operations, Tree, value_of}
use Rattle.si_equations.specs.Names.{bare}
use Rattle.si_from_equations.specs.Limits.{max_cubes, max_pairs}

-- ---- cubes

-- the cube with one literal more, which stands in signal order, each signal once; none where the
-- cube has the complement of the literal
abbrev pub with_literal : Literal → List Literal → Option (List Literal)
with_literal l [] = Some (l ∷ [])
with_literal l (m ∷ cube) =
    if nat_lt l.sig m.sig then Some (l ∷ m ∷ cube)
    else if l.sig == m.sig then (if beq l.plain m.plain then Some (m ∷ cube) else None)
    else option_map (λ literals. m ∷ literals) (with_literal l cube)

-- the literals of both; none where they contradict each other
abbrev pub product : List Literal → List Literal → Option (List Literal)
product [] cube = Some cube
product (l ∷ literals) cube = option_and_then (with_literal l) (product literals cube)

-- ---- sums

-- the sum that has no cube
abbrev pub zero_sum : Sum
zero_sum = []

-- the sum of the cube that has no literal
abbrev pub one_sum : Sum
one_sum = [] ∷ []

abbrev pub literal_sum : ℕ → Bool → Sum
literal_sum s plain = (record { sig = s; plain = plain } ∷ []) ∷ []

-- each cube of the one with each of the other
abbrev pub products : Sum → Sum → Sum
products left right = flat_map (λ cube. filter_map (product cube) right) left

-- a sum is missing where multiplying out comes to too much
abbrev pub plus : Option Sum → Option Sum → Option Sum
plus (Some left) (Some right) =
    if nat_le (length left + length right) max_cubes then Some (left ++ right) else None
plus _ _ = None

abbrev pub times : Option Sum → Option Sum → Option Sum
times (Some left) (Some right) =
    if nat_le (length left * length right) max_pairs then Some (products left right) else None
times _ _ = None

-- ---- expressions

-- the sum of an expression, and that of its complement
pub record TwoSums : Type 0 where
  pub plain : Option Sum
  pub complement : Option Sum

abbrev pub constant_sums : Bool → TwoSums
constant_sums true = record { plain = Some one_sum; complement = Some zero_sum }
constant_sums false = record { plain = Some zero_sum; complement = Some one_sum }

-- a name that no signal has is the constant 0
abbrev pub signal_sums : Option ℕ → TwoSums
signal_sums None = constant_sums false
signal_sums (Some s) =
    record { plain = Some (literal_sum s true); complement = Some (literal_sum s false) }

-- both exchanged
abbrev pub complement_sums : TwoSums → TwoSums
complement_sums x = record { plain = x.complement; complement = x.plain }

-- the complement of `x y` is `x' + y'`
abbrev pub both_sums : TwoSums → TwoSums → TwoSums
both_sums x y = record {
  plain = times x.plain y.plain;
  complement = plus x.complement y.complement;
}

-- the complement of `x + y` is `x' y'`
abbrev pub either_sums : TwoSums → TwoSums → TwoSums
either_sums x y = record {
  plain = plus x.plain y.plain;
  complement = times x.complement y.complement;
}

abbrev pub sums : List (List ℕ) → Operations TwoSums
sums names = record {
  pin = λ name. signal_sums (position (λ n. bytes_eq (bare name) n) names);
  constant = constant_sums;
  complement = complement_sums;
  both = both_sums;
  either = either_sums;
}

-- the sum of products of an expression over the signals with these names
abbrev pub sum_of : List (List ℕ) → Tree → Option Sum
sum_of names tree = (value_of (sums names) tree).plain
