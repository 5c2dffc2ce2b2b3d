use Rattle.std.proofs.Common.{◌+◌, arith, sym, subst}
use Rattle.si_conflicts.specs.Loops.Links.{IsFirstOfCode}
use Rattle.si_conflicts.proofs.links.clash_after.Goals as goal

pub returns : goal.returns
returns c =
    let d = c.args.coded.now in
    let p = c.args.p in
    let q = c.args.q in
    let is = c.requires.conflict in
    let first = rw (sym c.link.ensures) at (c.requires.equals.links q is.within) in
    let of_p = subst (λ k. IsFirstOfCode d (q + 1) k c.link.result) (sym is.same_code) first in
    c.first_clash.ensures (q + 1) (omega (arith, is.order)) of_p
