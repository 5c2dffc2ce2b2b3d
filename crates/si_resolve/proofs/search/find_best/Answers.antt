use Rattle.std.proofs.Common.{◌≡◌, length, subst, arith}
use Rattle.si_resolve.specs.Loops.Progress.{IsSearching}
use Rattle.si_resolve.proofs.SearchLemmas.{found_none, found_some}
use Rattle.si_resolve.proofs.search.find_best.Goals as goal

pub loop-j-init : goal.loop-j-init
loop-j-init c = record {
  searching = c.new-search.ensures.starts c.args.graph.now c.args.list.now.blocks.items
      (c.in_ok-counts.ensures c.args.graph.now c.requires.chains c.args.list.now.blocks.items
      (omega (arith, c.len.ensures)));
  given = c.new-search.ensures.given;
}

pub returns-in-None : goal.returns-in-None
returns-in-None c =
    let d = c.args.graph.now in
    let blocks = c.args.list.now.blocks.items in
    let so = c.loop-j.invariant in
    let all : c.loop-j.j ≡ length blocks =
    omega (arith, c.loop-j-test.false, c.loop-j.auto.j-end, c.len-j-end.ensures) in
    found_none d blocks c.args.conflicts c.loop-j.search c.requires.list.are c.requires.counted so.given
    (subst (λ k. IsSearching d blocks k 0 c.loop-j.search) all so.searching) c.in-None.is

pub returns : goal.returns
returns c =
    let d = c.args.graph.now in
    let blocks = c.args.list.now.blocks.items in
    let so = c.loop-j.invariant in
    let all : c.loop-j.j ≡ length blocks =
    omega (arith, c.loop-j-test.false, c.loop-j.auto.j-end, c.len-j-end.ensures) in
    found_some d blocks c.args.conflicts c.loop-j.search c.requires.list.are c.requires.counted so.given
    (subst (λ k. IsSearching d blocks k 0 c.loop-j.search) all so.searching) c.in-Some.found c.in-Some.is
