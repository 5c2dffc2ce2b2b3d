use Rattle.std.proofs.Common.{◌&&◌, Bool, sym, ap, ◌∙◌}
use Rattle.std.specs.List.{list_all}
use Rattle.si_base.specs.Netlist.{literal_value}
use Rattle.si_settled.proofs.CubeLemmas.{both_hold, is_known}
use Rattle.si_settled.proofs.shown.is_true.Goals as goal

pub returns-then-is_known : goal.returns-then-is_known
returns-then-is_known c =
    let holds = literal_value c.args.start in
    let cube = c.args.cube.now in
    c.covers.ensures ∙ ap (λ (b : Bool). b && list_all holds cube) (sym c.if-is_known.true ∙ c.is_known.ensures)
    ∙ both_hold (is_known c.args.known) holds cube

pub returns-else-is_known : goal.returns-else-is_known
returns-else-is_known c =
    let holds = literal_value c.args.start in
    let cube = c.args.cube.now in
    c.if-is_known.false ∙ ap (λ (b : Bool). b && list_all holds cube) (sym c.if-is_known.false ∙ c.is_known.ensures)
    ∙ both_hold (is_known c.args.known) holds cube
