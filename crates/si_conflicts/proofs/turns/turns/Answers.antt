use Rattle.si_conflicts.proofs.TurnLemmas.{last_more, turns_more}
use Rattle.si_conflicts.proofs.turns.turns.Goals as goal

pub loop-member-preserved : goal.loop-member-preserved
loop-member-preserved c =
    let ms = c.args.members.now in
    let i = c.loop-member.member-index in
    let m = c.member-item.result in
    let inside = c.loop-member-test.true in
    let at = c.member-item.is in
    record {
      turns = rw c.in_ok-push.ensures.items (turns_more ms i m inside at c.loop-member.last _ _
          c.loop-member.invariant.turns c.loop-member.invariant.last c.between.ensures);
      last = last_more ms i m inside at;
    }
