use Rattle.std.proofs.Common.{ap, arith}
use Rattle.si_candidates.specs.declared.tree.Link.{Link}
use Rattle.si_candidates.proofs.SideWords.{side_bit}
use Rattle.si_candidates.proofs.sides.side_behind.Goals as goal

pub returns : goal.returns
returns c k few =
    let from_is = ap (λ (l : Link). l.from) c.link.view_is in
    let to_is = ap (λ (l : Link). l.to) c.link.view_is in
    side_bit c.args.words.now c.args.sides.now c.args.link.now _ _ k from_is to_is few
    (λ s. omega (arith, c.type_inv.words s))
