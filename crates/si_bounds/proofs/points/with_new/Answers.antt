use Rattle.std.proofs.Common.{◌∙◌, ◌++◌, ◌∷◌, [], Bool, sym, ap}
use Rattle.si_base.specs.Bits.{bit}
use Rattle.si_cell.specs.Library.{code_of}
use Rattle.si_bounds.proofs.PointLemmas.{with_one, with_zero}
use Rattle.si_bounds.proofs.points.with_new.Goals as goal

pub returns-then-new : goal.returns-then-new
returns-then-new c = λ values last four. with_one c.args.table values four last
    ∙ ap (λ (v : Bool). bit c.args.table (code_of (values ++ v ∷ []))) (sym c.if-new.true)

pub returns-else-new : goal.returns-else-new
returns-else-new c = λ values last four. with_zero c.args.table values four last
    ∙ ap (λ (v : Bool). bit c.args.table (code_of (values ++ v ∷ []))) (sym c.if-new.false)
