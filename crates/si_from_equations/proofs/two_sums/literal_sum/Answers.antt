use Rattle.si_base.specs.Limits.{code_width}
use Rattle.std.proofs.lemmas.Nat.{one_shl}
use Rattle.si_from_equations.proofs.ProductLemmas.{plain_cube, complemented_cube}
use Rattle.si_from_equations.proofs.two_sums.literal_sum.Goals as goal
use Rattle.si_from_equations.proofs.two_sums.literal_sum.Goals.{then-plain, else-plain}

pub returns : goal.returns
returns c =
    let shifted = one_shl c.args.s code_width c.requires in
    let pushed = rw (c.s.view_is, shifted, c.new-sum.ensures.items) at c.in_ok-push.ensures.items in
    elim c.if-plain.branch [
      | then-plain w ↦
          (let value = rw (c.s.view_is, shifted) at w.value-is in
          rw w.if-plain.true (rw (value, plain_cube c.args.s c.requires) at pushed))
      | else-plain w ↦
          rw w.if-plain.false (rw (w.value-is, complemented_cube c.args.s c.requires) at pushed)
    ]
