use Rattle.std.proofs.Common.{◌<◌, ◌∙◌, length, sym, arith}
use Rattle.si_candidates.specs.Blocks.{block_at}
use Rattle.si_resolve.proofs.SearchLemmas.{block_size, none_by_both, none_by_first, none_by_zero, not_both, not_usable}
use Rattle.si_resolve.proofs.search.Search.may_be_better.Goals.{then-bar-gt0, else-bar-gt0}
use Rattle.si_resolve.proofs.search.Search.may_be_better.Goals as goal

pub may_be_accepted-requires-clause-plus_size : goal.may_be_accepted-requires-clause-plus_size
may_be_accepted-requires-clause-plus_size c =
    let r = c.requires in
    let within : c.args.i < length c.args.list.now.blocks.items = omega (arith, r.order, r.within) in
    block_size c.args.graph.now c.args.list.now.blocks.items c.args.i _ r.list.are within c.block.ensures

pub may_be_accepted-requires-clause-minus_size : goal.may_be_accepted-requires-clause-minus_size
may_be_accepted-requires-clause-minus_size c =
    let r = c.requires in
    block_size c.args.graph.now c.args.list.now.blocks.items c.args.j _ r.list.are r.within
    c.block-then-is_usable.ensures

pub returns-then-is_usable-clause-otherwise : goal.returns-then-is_usable-clause-otherwise
returns-then-is_usable-clause-otherwise c =
    let d = c.args.graph.now in
    let blocks = c.args.list.now.blocks.items in
    λ refused. none_by_both d blocks c.args.i c.args.j _ c.requires.list.are
    (not_both d.graph c.block.result.now (block_at blocks c.args.i) c.block-then-is_usable.result.now
    (block_at blocks c.args.j) c.may_be_accepted.result c.block.ensures c.block-then-is_usable.ensures
    c.may_be_accepted.ensures refused)

pub returns-else-is_usable-clause-otherwise : goal.returns-else-is_usable-clause-otherwise
returns-else-is_usable-clause-otherwise c =
    let d = c.args.graph.now in
    let list = c.args.list.now in
    let r = c.requires in
    let within : c.args.i < length list.blocks.items = omega (arith, r.order, r.within) in
    λ refused. elim c.if-bar-gt0.branch [
      | then-bar-gt0 w ↦ none_by_first d list.blocks.items c.args.i c.args.j _ r.list.coded r.list.proper
          (not_usable d.graph list.blocks.items list.usable.items c.args.i r.list.usable within
          (sym w.is_usable.ensures ∙ (sym w.value-is ∙ refused)))
      | else-bar-gt0 w ↦ none_by_zero d list.blocks.items c.args.i c.args.j _
          (omega (arith, c.bar.ensures, w.if-bar-gt0.false))
    ]
