use Rattle.std.proofs.Common.{refl, subst, sym, arith}
use Rattle.si_candidates.specs.Blocks.{block_at}
use Rattle.si_resolve.specs.Loops.Progress.{LeavesBelow, LeavesNoneBelow, bar_of}
use Rattle.si_resolve.proofs.SearchLemmas.{candidate_accepted, candidate_choice, choice_at, keep, none_by_left}
use Rattle.si_resolve.proofs.SearchLemmas.{none_is, skip, some_is}
use Rattle.si_resolve.proofs.search.Search.try_candidate.Goals as goal

pub shares_crowd-requires-clause-i_within : goal.shares_crowd-requires-clause-i_within
shares_crowd-requires-clause-i_within c = omega (arith, c.requires.order, c.requires.within)

pub returns-then-shares_crowd-clause-after : goal.returns-then-shares_crowd-clause-after
returns-then-shares_crowd-clause-after c =
    skip c.args.graph.now c.args.list.now.blocks.items c.args.j c.args.i c.args.self.now
    c.requires.before (c.shares_crowd.ensures c.if-shares_crowd.true)

pub returns-then-not-may_be_better-clause-after : goal.returns-then-not-may_be_better-clause-after
returns-then-not-may_be_better-clause-after c =
    skip c.args.graph.now c.args.list.now.blocks.items c.args.j c.args.i c.args.self.now
    c.requires.before (c.may_be_better.ensures.otherwise c.if-not-may_be_better.true)

pub may_part-requires-clause-i_within : goal.may_part-requires-clause-i_within
may_part-requires-clause-i_within c = omega (arith, c.requires.order, c.requires.within)

pub may_part-requires-clause-first : goal.may_part-requires-clause-first
may_part-requires-clause-first c = c.may_be_better.ensures.first c.if-not-may_be_better.false

pub returns-then-not-may_part-clause-after : goal.returns-then-not-may_part-clause-after
returns-then-not-may_part-clause-after c =
    skip c.args.graph.now c.args.list.now.blocks.items c.args.j c.args.i c.args.self.now
    c.requires.before (c.may_part.ensures c.if-not-may_part.true)

pub returns-in-Some-clause-after : goal.returns-in-Some-clause-after
returns-in-Some-clause-after c =
    let d = c.args.graph.now in
    let blocks = c.args.list.now.blocks.items in
    let i = c.args.i in
    let j = c.args.j in
    let r = c.requires in
    let low = bar_of c.args.self.now in
    let found = c.in-Some.found in
    let test = c.if-not-may_be_better.false in
    let may = c.may_be_better.ensures.both test in
    let left : LeavesBelow d (block_at blocks i) (block_at blocks j) low found =
    some_is _ c.in_ok-left.left found c.in-Some.is c.in_ok-left.ensures.below in
    let accepted = candidate_accepted d blocks i j r.list.coded r.list.proper r.list.few_signals r.list.are
    r.order r.within (c.may_be_better.ensures.first test) r.usable may in
    keep d blocks j i c.found_below.new.self (choice_at i j found) r.list.coded c.found_below.ensures.after
    (candidate_choice d blocks i j low found r.order r.within may.disjoint accepted left) refl refl
    (omega (arith, left.fewer, c.found_below.ensures.bar))

pub returns-in_default-clause-after : goal.returns-in_default-clause-after
returns-in_default-clause-after c =
    let d = c.args.graph.now in
    let blocks = c.args.list.now.blocks.items in
    let i = c.args.i in
    let j = c.args.j in
    let none : LeavesNoneBelow d (block_at blocks i) (block_at blocks j) (bar_of c.args.self.now) =
    none_is c.in_ok-left.left c.in_default.is c.in_ok-left.ensures.none in
    skip d blocks j i c.found_below.new.self c.found_below.ensures.after
    (none_by_left d blocks i j _ (subst (LeavesNoneBelow d (block_at blocks i) (block_at blocks j))
    (sym c.found_below.ensures.bar) none))
