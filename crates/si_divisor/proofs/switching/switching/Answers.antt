use Rattle.std.proofs.Common.{◌∙◌, false, ap, get_or, length, length-set}
use Rattle.si_divisor.proofs.SwitchLoops.{search_begins, search_goes_on, search_ends, have_at}
use Rattle.si_divisor.proofs.switching.switching.Goals as goal

pub loop-x-init : goal.loop-x-init
loop-x-init c =
    search_begins c.args.graph.now c.args.highs.now c.args.given c.args.within.now c.states.result
    c.in_ok-work.work.words c.in_ok-work.work.work c.cross.new.work.words c.cross.new.work.work
    c.those_inside-kept.result c.states.ensures c.in_ok-work.ensures.words c.in_ok-work.ensures.work c.cross.ensures
    c.those_inside-kept.ensures.given (rw c.words.ensures at c.those_inside-kept.ensures.others)

pub follow-requires : goal.follow-requires
follow-requires c = record {
  graph = c.requires.graph;
  deterministic = c.requires.deterministic;
  count = c.requires.highs;
  size = record {
    words = ap length c.next_work.ensures.words ∙ c.loop-x.invariant.size;
    waiting = ap length c.in-Some.ensures.work.1 ∙ length-set c.loop-x.work.work c.in-Some.x false
        ∙ c.loop-x.invariant.waiting;
  };
  have = have_at c.next_work.new.self.words c.loop-x.kept c.in-Some.x c.sets_of.result _ c.sets_of.ensures;
  belong = λ k t has. c.loop-x.invariant.sound k t (rw c.next_work.ensures.words at has);
}

pub loop-x-preserved : goal.loop-x-preserved
loop-x-preserved c =
    let g = c.args.graph.now in
    let within = c.args.within.now in
    let words = c.loop-x.work.words in
    let work = c.loop-x.work.work in
    let x = c.in-Some.x in
    let word = c.sets_of.result in
    let waits = c.in-Some.ensures.work.0 in
    let is = rw c.next_work.ensures.words at c.sets_of.ensures in
    let grows = rw (c.next_work.ensures.words, c.in-Some.ensures.work.1) at c.follow.ensures.grows in
    let done = rw c.next_work.ensures.words at c.follow.ensures.done in
    search_goes_on g c.args.highs.now c.args.given within words work c.loop-x.kept x word _ c.loop-x.auto.kept-fits.fits
    (c.type_inv.within c.x.inside.0).fits is (ap (λ s. get_or within s 0) c.x.view_is) c.loop-x.invariant waits
    c.follow.new.work.words c.follow.new.work.work grows done

pub returns : goal.returns
returns c =
    search_ends c.args.graph.now c.args.highs.now c.args.given c.args.within.now _ c.loop-x.work.work
    (rw (c.into_words.ensures, c.next_work.ensures.words) c.loop-x.invariant) c.in_default.ensures.work
