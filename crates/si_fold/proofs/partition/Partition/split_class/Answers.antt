use Rattle.std.proofs.Common.{arith, inl, inr}
use Rattle.si_fold.specs.Loops.Partition.{shape}
use Rattle.si_fold.proofs.PartitionSplitParts.{has_room, split_from}
use Rattle.si_fold.proofs.partition.Partition.split_class.Goals as goal

pub take_out-requires-clause-room : goal.take_out-requires-clause-room
take_out-requires-clause-room c =
    let is = c.requires.partition in
    let room = has_room (shape c.args.self.now) is c.args.class c.requires.class c.bounds-bounds.result
    c.bounds-bounds.ensures c.if-bounds.false c.if-bounds-2.false in
    omega (arith, room, is.bounds_size)

pub take_out-requires-clause-small : goal.take_out-requires-clause-small
take_out-requires-clause-small c =
    let is = c.requires.partition in
    let room = has_room (shape c.args.self.now) is c.args.class c.requires.class c.bounds-bounds.result
    c.bounds-bounds.ensures c.if-bounds.false c.if-bounds-2.false in
    omega (arith, room, is.small)

pub take_out-requires-else-bounds-3-clause-room : goal.take_out-requires-else-bounds-3-clause-room
take_out-requires-else-bounds-3-clause-room c =
    let is = c.requires.partition in
    let room = has_room (shape c.args.self.now) is c.args.class c.requires.class c.bounds-bounds.result
    c.bounds-bounds.ensures c.if-bounds.false c.if-bounds-2.false in
    omega (arith, room, is.bounds_size)

pub take_out-requires-else-bounds-3-clause-small : goal.take_out-requires-else-bounds-3-clause-small
take_out-requires-else-bounds-3-clause-small c =
    let is = c.requires.partition in
    let room = has_room (shape c.args.self.now) is c.args.class c.requires.class c.bounds-bounds.result
    c.bounds-bounds.ensures c.if-bounds.false c.if-bounds-2.false in
    omega (arith, room, is.small)

pub returns-then-bounds-3 : goal.returns-then-bounds-3
returns-then-bounds-3 c =
    let e = c.take_out.ensures in
    split_from (shape c.args.self.now) c.requires.partition c.args.class c.requires.class c.bounds-bounds.result
    c.bounds-bounds.ensures c.if-bounds.false c.if-bounds-2.false (shape c.take_out.new.self) c.unmarked-others.result
    c.unmarked-marked.result (inr (c.unmarked-others.ensures, c.unmarked-marked.ensures)) e.order e.place e.size e.moved
    e.stayed e.bounds e.count

pub returns-else-bounds-3 : goal.returns-else-bounds-3
returns-else-bounds-3 c =
    let e = c.take_out-else-bounds-3.ensures in
    split_from (shape c.args.self.now) c.requires.partition c.args.class c.requires.class c.bounds-bounds.result
    c.bounds-bounds.ensures c.if-bounds.false c.if-bounds-2.false (shape c.take_out-else-bounds-3.new.self)
    c.unmarked-marked.result c.unmarked-others.result (inl (c.unmarked-marked.ensures, c.unmarked-others.ensures))
    e.order e.place e.size e.moved e.stayed e.bounds e.count
