use Rattle.si_fold.specs.Loops.Partition.{shape}
use Rattle.si_fold.proofs.PartitionMembers.{members_are}
use Rattle.si_fold.proofs.partition.Partition.members.Goals as goal

pub returns : goal.returns
returns c = members_are (shape c.args.self.now) c.args.class c.bounds-bounds.result c.deref.result.now
    c.requires.partition c.requires.class c.bounds-bounds.ensures c.deref.ensures.value
