use Rattle.std.proofs.Common.{◌≡◌, ℕ, ◌-◌, ◌∙◌, ap, arith, map}
use Rattle.std.specs.List.{range_with_len}
use Rattle.si_base.specs.Netlist.{sum_value}
use Rattle.si_cell.specs.Library.{code_of}
use Rattle.si_cell.specs.Limits.{table_codes}
use Rattle.si_cell.proofs.cell.table_of.Goals as goal

pub returns : goal.returns
returns c =
    let at_end : c.loop-k.k ≡ table_codes = omega (arith, c.loop-k-test.false, c.loop-k.auto.k-end) in
    c.loop-k.invariant.value
    ∙ ap (λ (k : ℕ). code_of (map (λ code. sum_value code c.args.sum.now) (range_with_len (table_codes - k) k))) at_end
