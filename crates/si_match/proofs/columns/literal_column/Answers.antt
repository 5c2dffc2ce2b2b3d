use Rattle.std.proofs.Common.{◌<◌, ◌^◌, ◌∙◌, Bool, ap, sym, false, rules}
use mathlib.Core.Bool.{beq}
use Rattle.si_base.specs.Bits.{bit}
use Rattle.si_base.proofs.Booleans.{equals_true}
use Rattle.si_match.proofs.ColumnLemmas.{other_bit}
use Rattle.si_match.proofs.columns.literal_column.Goals as goal

pub returns-then-literal : goal.returns-then-literal
returns-then-literal c m below =
    let at_place = bit m c.args.literal.sig in
    c.place_column-column.ensures m below ∙ equals_true at_place ∙ ap (beq at_place) (sym c.if-literal.true)

pub returns-else-literal : goal.returns-else-literal
returns-else-literal c m below =
    let column = c.place_column-column.result in
    let small : column < 2 ^ 32 = search rules in
    other_bit column m small below ∙ ap (λ (v : Bool). beq v false) (c.place_column-column.ensures m below)
    ∙ ap (beq (bit m c.args.literal.sig)) (sym c.if-literal.false)
