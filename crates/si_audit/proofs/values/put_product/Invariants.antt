use Rattle.std.proofs.Common.{◌≡◌, ℕ, ◌/◌, ◌<◌, ◌&&◌, length}
use Rattle.std.specs.List.{list_all}
use Rattle.si_base.specs.Netlist.{literal_value}
use Rattle.si_base.specs.Sets.{flag}
use Rattle.si_audit.specs.Loops.Columns.{HasCode}
use Rattle.si_audit.proofs.ColumnLemmas.{rest_value}
use Rattle.si_audit.proofs.values.put_product.Given as goal

abbrev pub invariant-loop-z : goal.invariant-loop-z
invariant-loop-z l = (length l.product ≡ length l.initial.product)
    × ((s k : ℕ) → s / 64 < length l.initial.product → HasCode l.columns s k
    → (flag l.product s && rest_value k l.z l.cube-inside.care l.cube-inside.value) ≡ list_all (literal_value k) l.cube)
