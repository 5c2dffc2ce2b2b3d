use Rattle.std.proofs.Common.{arith}
use Rattle.si_netlist.proofs.PieceLemmas.{place_within, name_read}
use Rattle.si_netlist.proofs.name_list.NameList.get.Goals as goal

pub begin-requires : goal.begin-requires
begin-requires c =
    rw c.deref-2.ensures.value (place_within c.self.inside.bytes.items _ _ c.args.k c.self.view_is c.requires)

pub index-requires : goal.index-requires
index-requires c =
    let within = place_within c.self.inside.bytes.items _ _ c.args.k c.self.view_is c.requires in
    omega (arith, within, c.self.inside.ends.ok)

pub slice_bounds-result-count : goal.slice_bounds-result-count
slice_bounds-result-count c =
    let begin = rw c.deref-2.ensures.value at c.begin.ensures in
    let name = name_read _ _ _ c.args.k _ _ c.self.invariant c.self.view_is c.requires begin c.index.ensures in
    name.forward

pub slice_bounds-result-start : goal.slice_bounds-result-start
slice_bounds-result-start c =
    let begin = rw c.deref-2.ensures.value at c.begin.ensures in
    let name = name_read _ _ _ c.args.k _ _ c.self.invariant c.self.view_is c.requires begin c.index.ensures in
    name.forward

pub slice_bounds-result-end : goal.slice_bounds-result-end
slice_bounds-result-end c =
    let begin = rw c.deref-2.ensures.value at c.begin.ensures in
    let name = name_read _ _ _ c.args.k _ _ c.self.invariant c.self.view_is c.requires begin c.index.ensures in
    rw c.deref.ensures.value name.within

pub returns : goal.returns
returns c =
    let begin = rw c.deref-2.ensures.value at c.begin.ensures in
    let name = name_read _ _ _ c.args.k _ _ c.self.invariant c.self.view_is c.requires begin c.index.ensures in
    rw c.deref.ensures.value name.name
