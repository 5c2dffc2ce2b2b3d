-- The bits of a truth table.
use Rattle.std.proofs.Common.{◌≡◌, ℕ, ◌<◌, ◌/◌, ◌^◌, ◌==◌, bit_and, map, false, ap, ◌∙◌, arith}
use Rattle.std.specs.List.{range_with_len}
use Rattle.std.proofs.lemmas.List.FromFn.{get_or-map-range_with_len}
use Rattle.std.proofs.lemmas.Nat.Bits.{shr_and_one}
use Rattle.si_base.specs.Bits.{bit}
use Rattle.si_base.specs.Netlist.{Sum, sum_value}
use Rattle.si_cell.specs.Library.{table_of}
use Rattle.si_cell.specs.Limits.{table_codes}
use Rattle.si_cell.proofs.ExpandedLemmas.{bit_of}

table_bit : (sum : Sum) (code : ℕ) → code < table_codes → bit (table_of sum) code ≡ sum_value code sum
table_bit sum code below = bit_of (map (λ k. sum_value k sum) (range_with_len 0 table_codes)) code
    ∙ get_or-map-range_with_len (λ k. sum_value k sum) 0 table_codes code code false below (omega arith)

-- what the table of a sum tells at a code
pub told : (table code : ℕ) (sum : Sum) → table ≡ table_of sum → code < table_codes
    → (bit_and (table / 2 ^ code) 1 == 1) ≡ sum_value code sum
told table code sum is below = ap (λ (b : ℕ). b == 1) (shr_and_one table code)
    ∙ ap (λ (t : ℕ). bit t code) is ∙ table_bit sum code below
