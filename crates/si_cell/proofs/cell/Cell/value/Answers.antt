use Rattle.std.proofs.Common.{◌≡◌, ℕ, ◌<◌, ap, ◌∙◌, arith}
use Rattle.si_base.specs.Netlist.{Sum, sum_value}
use Rattle.si_cell.specs.Library.{Cell}
use Rattle.si_cell.specs.Limits.{table_codes}
use Rattle.si_cell.proofs.TableLemmas.{told}
use Rattle.si_cell.proofs.cell.Cell.value.Goals as goal

pub returns-then-code-from : goal.returns-then-code-from
returns-then-code-from c =
    let sum_is : c.self.inside.sum ≡ c.args.self.now.sum = ap (λ (x : Cell). x.sum) c.self.view_is in
    let code_is : c.code.inside.0 ≡ c.args.code = c.code.view_is in
    let below : c.code.inside.0 < table_codes = omega (arith, c.if-code-from.true, c.from.ensures) in
    told c.self.inside.table c.code.inside.0 c.self.inside.sum c.self.invariant below
    ∙ ap (λ (sum : Sum). sum_value c.code.inside.0 sum) sum_is
    ∙ ap (λ (k : ℕ). sum_value k c.args.self.now.sum) code_is
