use Rattle.std.proofs.Common.{length, sym, ap, subst, arith}
use Rattle.si_base.proofs.SetsAsWords.{Shows, shows, same_size, disjoint_seen}
use Rattle.si_base.proofs.sets.StateSet.is_disjoint.Goals as goal

pub are_apart-requires : goal.are_apart-requires
are_apart-requires c =
    let shown = shows c.self.inside.states _ _ c.args.self.now c.deref.ensures.value c.self.view_is
    c.self.invariant.none in
    let other = shows c.other.inside.states _ _ c.args.other.now c.deref-2.ensures.value c.other.view_is
    c.other.invariant.none in
    omega (
      arith,
      ap length c.deref.ensures.value,
      ap length c.deref-2.ensures.value,
      c.self.invariant.size,
      c.other.invariant.size,
      same_size _ _ _ _ _ _ shown other c.requires,
    )

pub returns : goal.returns
returns c =
    let shown = shows c.self.inside.states _ _ c.args.self.now c.deref.ensures.value c.self.view_is
    c.self.invariant.none in
    let other = shows c.other.inside.states _ _ c.args.other.now c.deref-2.ensures.value c.other.view_is
    c.other.invariant.none in
    let same = same_size _ _ _ _ _ _ shown other c.requires in
    disjoint_seen c.self.inside.states _ c.deref-2.result.now _ c.args.other.now c.are_apart.result shown
    (subst (λ k. Shows k c.deref-2.result.now c.args.other.now) (sym same) other) c.are_apart.ensures
