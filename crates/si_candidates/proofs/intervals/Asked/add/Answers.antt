use Rattle.std.proofs.Common.{◌≡◌, ◌∙◌, length, ap, arith}
use Rattle.si_candidates.proofs.AskLemmas.{asked_more, written_back}
use Rattle.si_candidates.proofs.intervals.Asked.add.Goals as goal

pub returns-clause-asks : goal.returns-clause-asks
returns-clause-asks c =
    let size = c.args.self.now.seeds.len in
    let old = c.args.self.now.seeds.items in
    let new = c.give.new.words in
    let full : length old ≡ size = omega (arith, c.args.self.now.seeds.ok) in
    let same : length new ≡ length old = c.give.ensures.size ∙ ap length c.as_mut_slice.ensures.value in
    let count : c.len.result ≡ length c.args.self.now.stops.items =
    omega (arith, c.len.ensures, c.args.self.now.stops.ok) in
    let run = rw count at c.bits_from-bits.ensures in
    let each = rw c.as_mut_slice.ensures.value at c.give.ensures.each in
    rw (written_back size new old (same ∙ full) full, c.in_ok-extend_from_slice.ensures.items)
    (asked_more old new c.args.from.now c.args.self.now.stops.items c.args.stops.now c.bits_from-bits.result
    c.requires.ready c.requires.room same run each c.requires.from)
