-- The two-input C-element computes one function whichever of its pins has which signal.
use Rattle.std.proofs.Common.{◌≡◌, ℕ, zero, suc, Bool, true, false, List, [], ◌∷◌, refl, codes, arith}
use Rattle.std.proofs.lemmas.List.Sorted.{IsPermutation-refl, IsPermutation-swap}
use Rattle.std.specs.List.Sorted.{IsNonDecreasing}
use mathlib.Core.Bool.{beq}
use Rattle.si_base.specs.Bits.{bit}
use Rattle.si_base.specs.Netlist.{Sum, sum_value}
use Rattle.si_base.specs.declared.ids.Literal.{Literal}
use Rattle.si_cell.specs.Library.{Cell, Library, Instance, code_of}
use Rattle.si_cell.specs.declared.pins.Pins.TheVariants.{Any}
use Rattle.si_divisor.specs.declared.function.Function.{Function}
use Rattle.si_divisor.specs.Functions.{IsFunction}

abbrev plain : ℕ → Literal
plain a = record { sig = a; plain = true }

-- pins 0 and 1, and the output behind them
abbrev c2 : Sum
c2 = (plain 0 ∷ plain 1 ∷ []) ∷ (plain 0 ∷ plain 2 ∷ []) ∷ (plain 1 ∷ plain 2 ∷ []) ∷ []

abbrev cell : Cell
cell = record { name = codes "C2"; pins = codes "a" ∷ codes "b" ∷ []; sum = c2 }

abbrev library : Library
library = record { name = codes "one"; cells = cell ∷ []; pins = Any }

abbrev instance_of : List Literal → Instance
instance_of literals = record { cell = 0; literals = literals }

-- it is 1 where two of the signals 0 and 1 and the output are, or all: at 3, 5, 6 and 7
abbrev majority : Function
majority = record { signals = record { items = 0 ∷ 1 ∷ [] }; table = 232 }

in_order : IsNonDecreasing (0 ∷ 1 ∷ [])
in_order zero j d earlier within = omega arith
in_order (suc i) zero d earlier within = omega (arith, earlier)
in_order (suc zero) (suc zero) d earlier within = omega arith
in_order (suc zero) (suc (suc j)) d earlier within = omega (arith, within)
in_order (suc (suc i)) (suc j) d earlier within = omega (arith, earlier, within)

at_values : (a b q : Bool)
    → bit 232 (code_of (a ∷ b ∷ q ∷ [])) ≡ sum_value (code_of (beq a true ∷ beq b true ∷ q ∷ [])) c2
at_values true true true = refl
at_values true true false = refl
at_values true false true = refl
at_values true false false = refl
at_values false true true = refl
at_values false true false = refl
at_values false false true = refl
at_values false false false = refl

at_swapped : (a b q : Bool)
    → bit 232 (code_of (a ∷ b ∷ q ∷ [])) ≡ sum_value (code_of (beq b true ∷ beq a true ∷ q ∷ [])) c2
at_swapped true true true = refl
at_swapped true true false = refl
at_swapped true false true = refl
at_swapped true false false = refl
at_swapped false true true = refl
at_swapped false true false = refl
at_swapped false false true = refl
at_swapped false false false = refl

by_signal_order : IsFunction library (instance_of (plain 0 ∷ plain 1 ∷ [])) majority
by_signal_order = record {
  same = IsPermutation-refl (0 ∷ 1 ∷ []);
  in_order = in_order;
  table = record { value = λ code q. at_values (bit code 0) (bit code 1) q; no_more = omega arith };
}

the_other_way_round : IsFunction library (instance_of (plain 1 ∷ plain 0 ∷ [])) majority
the_other_way_round = record {
  same = IsPermutation-swap (1 ∷ 0 ∷ []) (0 ∷ 1 ∷ []) 0 1 (omega arith) (omega arith) refl;
  in_order = in_order;
  table = record { value = λ code q. at_swapped (bit code 0) (bit code 1) q; no_more = omega arith };
}
