use Rattle.std.proofs.Common.{◌≡◌, ◌∙◌, sym, subst, arith}
use Rattle.si_resolve.specs.Loops.Progress.{IsSearching}
use Rattle.si_resolve.proofs.SearchLemmas.{end_row, none_by_later, not_usable, skip_row}
use Rattle.si_resolve.proofs.search.Search.try_row.Goals as goal

pub returns-then-not-is_usable-clause-after : goal.returns-then-not-is_usable-clause-after
returns-then-not-is_usable-clause-after c =
    let d = c.args.graph.now in
    let list = c.args.list.now in
    let r = c.requires in
    skip_row d list.blocks.items c.args.j c.args.self.now r.before
    (none_by_later d list.blocks.items c.args.j r.list.coded r.list.proper
    (not_usable d.graph list.blocks.items list.usable.items c.args.j r.list.usable r.within
    (sym c.is_usable.ensures ∙ c.if-not-is_usable.true)))

pub returns-clause-after : goal.returns-clause-after
returns-clause-after c =
    let d = c.args.graph.now in
    let blocks = c.args.list.now.blocks.items in
    let all : c.loop-i.i ≡ c.args.j = omega (arith, c.loop-i-test.false, c.loop-i.auto.i-end) in
    end_row d blocks c.args.j c.loop-i.self
    (subst (λ k. IsSearching d blocks c.args.j k c.loop-i.self) all c.loop-i.invariant.searching)
