use Rattle.std.proofs.Common.{◌+◌, ◌*◌, ◌/◌, ◌%◌, ◌^◌, ◌<◌, length, arith}
use Rattle.si_closures.specs.Loops.Turned.{row}
use Rattle.si_closures.proofs.TurnedLemmas.{IsPicked, exchanged, written}
use Rattle.si_closures.proofs.turned.exchange_in_rows.Goals as goal

pub returns-clause-pair : goal.returns-clause-pair
returns-clause-pair c =
    let rows = c.args.rows.now in
    let i = c.args.i in
    let width = c.args.width in
    let low = c.args.low in
    let above = c.pick.result in
    let below = c.pick-2.result in
    let inside : i + width < length rows = omega (arith, c.requires.size, c.requires.inside) in
    let upper : IsPicked low (row rows i) (row rows (i + width) * 2 ^ width % 2 ^ 128) above =
    record { here = c.pick.ensures.here; elsewhere = c.pick.ensures.elsewhere } in
    let lower : IsPicked low (row rows i / 2 ^ width) (row rows (i + width)) below =
    record { here = c.pick-2.ensures.here; elsewhere = c.pick-2.ensures.elsewhere } in
    written width low rows i above below inside c.requires.apart
    (exchanged width low (row rows i) (row rows (i + width)) above below upper lower)
