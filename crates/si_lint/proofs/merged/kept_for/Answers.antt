use Rattle.std.proofs.Common.{arith}
use Rattle.si_lint.proofs.MergedLemmas.{kept_is}
use Rattle.si_lint.proofs.merged.kept_for.Goals as goal

pub state_at-place-requires : goal.state_at-place-requires
state_at-place-requires c = omega (arith, c.requires.state, c.requires.classes.count)

pub state_at-requires : goal.state_at-requires
state_at-requires c =
    rw c.state_at-place.ensures
    (kept_is c.args.coded.now c.args.kept.now c.args.class.now c.args.s c.requires.classes c.requires.state).0

pub returns : goal.returns
returns c =
    rw (c.state_at.ensures, c.state_at-place.ensures)
    (kept_is c.args.coded.now c.args.kept.now c.args.class.now c.args.s c.requires.classes c.requires.state).1
