use Rattle.std.proofs.Common.{◌≤◌, ◌^◌, arith}
use Rattle.std.proofs.lemmas.Nat.{pow-add}
use Rattle.std.proofs.Math.Pow.{pow_mono}
use Rattle.si_divisor.proofs.function.code_count.Goals as goal

pub returns-clause-is : goal.returns-clause-is
returns-clause-is c =
    let twice = pow-add 2 c.args.signals 1 in
    let small : 2 ^ c.args.signals ≤ 16 = pow_mono c.requires in
    omega (arith, twice, small)

pub returns-clause-few : goal.returns-clause-few
returns-clause-few c =
    let small : 2 ^ c.args.signals ≤ 16 = pow_mono c.requires in
    omega (arith, small)
