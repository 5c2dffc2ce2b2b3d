use Rattle.std.proofs.Common.{◌≡◌, length, arith}
use Rattle.si_candidates.proofs.AskLemmas.{adds_full, asked_added}
use Rattle.si_candidates.proofs.blocks.add_asked.Goals as goal

pub returns-then-len-ge-MAX_BLOCKS : goal.returns-then-len-ge-MAX_BLOCKS
returns-then-len-ge-MAX_BLOCKS c = adds_full c.args.graph.now.graph c.args.asked.now.seeds.items
    c.args.asked.now.stops.items c.args.found.now.items c.requires.graph c.requires.size
    (omega (arith, c.args.found.now.ok, c.if-len-ge-MAX_BLOCKS.true, c.len.ensures))

pub returns : goal.returns
returns c =
    let stops = c.args.asked.now.stops.items in
    let sets = c.in_ok-sets.sets.items in
    let count : length sets ≡ length stops =
    omega (arith, c.in_ok-sets.ensures.count, c.len-2.ensures, c.args.asked.now.stops.ok) in
    asked_added c.args.graph.now.graph c.args.asked.now.seeds.items c.in_ok-words.words.items stops sets
    c.args.found.now.items c.add_sets.new.found.items count
    (λ k inside. (rw c.deref.ensures.value at c.in_ok-sets.ensures.each) k
    (omega (arith, inside, count, c.in_ok-sets.ensures.count)))
    c.in_ok-words.ensures.intervals c.in_ok-add_sets.ensures
