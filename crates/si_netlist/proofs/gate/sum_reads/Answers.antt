use Rattle.std.proofs.Common.{◌≡◌, ◌<◌, ◌^◌, arith}
use Rattle.si_base.specs.Limits.{code_width}
use Rattle.si_netlist.proofs.ReadLemmas.{reads_more}
use Rattle.si_netlist.proofs.gate.sum_reads.Goals as goal

pub loop-cube-preserved : goal.loop-cube-preserved
loop-cube-preserved c x =
    let same : c.cube-inside.inside.0.0.0 ≡ c.cube.inside.care = cc in
    let fits : c.cube-inside.inside.0.0.0 < 2 ^ code_width = omega arith in
    let small : c.cube.inside.care < 2 ^ code_width = omega arith in
    rw same (reads_more c.cubes-cube-items.result.now c.loop-cube.cube-index c.loop-cube.signals c.cube.inside.care
    c.cube.inside.value x c.cube-item.result (omega arith) c.cube-item.is c.cube.view_is small
    (c.loop-cube.invariant x))
