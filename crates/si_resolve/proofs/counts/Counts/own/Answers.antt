use Rattle.std.proofs.Common.{◌∙◌, refl, subst}
use Rattle.si_conflicts.specs.Loops.Own.{HasOwnConflicts}
use Rattle.si_candidates.specs.Blocks.{block_at}
use Rattle.si_resolve.specs.Loops.Counting.{IsOwn}
use Rattle.si_resolve.proofs.CountingLemmas.{counts_more}
use Rattle.si_resolve.proofs.SearchLemmas.{block_size}
use Rattle.si_resolve.proofs.counts.Counts.own.Goals as goal

pub own_conflicts-requires-clause-size : goal.own_conflicts-requires-clause-size
own_conflicts-requires-clause-size c =
    block_size c.args.graph.now c.args.list.now.blocks.items c.args.k _ c.requires.list.are c.requires.within
    (c.set.ensures ∙ c.block.ensures)

pub returns-clause-own : goal.returns-clause-own
returns-clause-own c =
    let d = c.args.graph.now in
    let members = c.args.self.now.chains.members in
    record {
      own = subst (λ set. HasOwnConflicts d.graph members set c.in_ok-own.own) (c.set.ensures ∙ c.block.ensures)
          c.in_ok-own.ensures.own;
      few = c.in_ok-own.ensures.few;
    }

pub returns-clause-after : goal.returns-clause-after
returns-clause-after c =
    let d = c.args.graph.now in
    let members = c.args.self.now.chains.members in
    let blocks = c.args.list.now.blocks.items in
    let own : IsOwn d members (block_at blocks c.args.k) c.in_ok-own.own = record {
      own = subst (λ set. HasOwnConflicts d.graph members set c.in_ok-own.own) (c.set.ensures ∙ c.block.ensures)
          c.in_ok-own.ensures.own;
      few = c.in_ok-own.ensures.few;
    } in
    counts_more d blocks c.args.self.now _ c.args.k c.in_ok-own.own c.requires.before c.requires.within own
    c.own_conflicts.ensures.chains refl
