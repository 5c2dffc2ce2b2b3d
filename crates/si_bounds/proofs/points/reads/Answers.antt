use Rattle.std.proofs.Common.{◌≡◌, arith, refl, sym, subst}
use Rattle.si_bounds.specs.Loops.Points.{IsBlind}
use Rattle.si_bounds.proofs.PointLemmas.{is_blind, without_first, without_second, without_third}
use Rattle.si_bounds.proofs.points.reads.Goals as goal

pub returns-in-1 : goal.returns-in-1
returns-in-1 c = λ same. subst (IsBlind c.args.table) (sym c.in-1.is)
    (is_blind c.args.table 1 2 858993459 refl without_first (c.changes.ensures same))

pub returns-in-2 : goal.returns-in-2
returns-in-2 c = λ same. subst (IsBlind c.args.table) (sym c.in-2.is)
    (is_blind c.args.table 2 4 252645135 refl without_second (c.changes-in-2.ensures same))

pub returns-in_default : goal.returns-in_default
returns-in_default c = λ same. (
    let third : 3 ≡ c.args.place = omega arith in
    subst (IsBlind c.args.table) third
    (is_blind c.args.table 3 8 16711935 refl without_third (c.changes-in_default.ensures same)))
