use Rattle.std.proofs.Common.{sym}
use Rattle.si_same.proofs.ForestLemmas.{read_parent, climbs_on, nearer_root, climb_ends, own_class}
use Rattle.si_same.proofs.ties.Ties.class.Goals as goal

pub loop-parent-preserved : goal.loop-parent-preserved
loop-parent-preserved c =
    let ps = c.self.inside.parents.items in
    let at = c.loop-parent.at in
    let parent = read_parent ps at _ _ c.loop-parent.invariant.inside c.index.ensures c.in-Some.is in
    climbs_on ps c.self.inside.ranks.items c.self.invariant c.args.x at c.in-Some.parent parent c.loop-parent.invariant

pub loop-parent-smaller : goal.loop-parent-smaller
loop-parent-smaller c =
    let ps = c.self.inside.parents.items in
    let at = c.loop-parent.at in
    let parent = read_parent ps at _ _ c.loop-parent.invariant.inside c.index.ensures c.in-Some.is in
    nearer_root ps c.self.inside.ranks.items c.self.invariant at c.in-Some.parent parent

pub returns-clause-class : goal.returns-clause-class
returns-clause-class c =
    let ps = c.self.inside.parents.items in
    let at = c.loop-parent.at in
    let root = read_parent ps at _ _ c.loop-parent.invariant.inside c.index.ensures c.in_default.is in
    climb_ends ps c.self.inside.ranks.items c.self.invariant c.args.self.now c.args.x at (sym c.self.view_is) root
    c.loop-parent.invariant

pub returns-clause-own : goal.returns-clause-own
returns-clause-own c =
    let ps = c.self.inside.parents.items in
    let at = c.loop-parent.at in
    let root = read_parent ps at _ _ c.loop-parent.invariant.inside c.index.ensures c.in_default.is in
    own_class ps c.self.inside.ranks.items c.self.invariant c.args.self.now at (sym c.self.view_is) root
