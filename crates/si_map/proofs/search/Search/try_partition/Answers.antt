use Rattle.std.proofs.lemmas.Result.{on_ok_weaker}
use Rattle.si_insert.proofs.AcceptedByTests.{rejected_is_not}
use Rattle.si_map.proofs.SearchLemmas.{refused, known, kept_tried, kept_best}
use Rattle.si_map.proofs.search.Search.try_partition.Goals as goal

pub returns-in-Err : goal.returns-in-Err
returns-in-Err c =
    let are = rw c.classes.ensures at c.in_ok-words.ensures in
    let never = rejected_is_not c.args.graph.now c.args.partition c.in-Err._refused.1
    c.requires.ready.coded c.requires.ready.proper c.requires.lawful c.in-Err.ensures.fault in
    let kept = refused c.args.graph.now c.args.library.now c.args.self.now c.requires.ready c.args.partition
    c.in_ok-words.words c.keep_tried.new.self are never in
    on_ok_weaker c.keep_tried.result kept c.keep_tried.ensures

pub returns-then-has_tried : goal.returns-then-has_tried
returns-then-has_tried c =
    let are = rw c.classes.ensures at c.in_ok-words.ensures in
    known c.args.graph.now c.args.library.now c.args.self.now c.requires.ready c.args.partition c.in_ok-words.words
    are (c.has_tried.ensures c.if-has_tried.true)

pub returns-in_default : goal.returns-in_default
returns-in_default c =
    let are = rw c.classes.ensures at c.in_ok-words.ensures in
    let kept = kept_tried c.args.graph.now c.args.library.now c.args.self.now c.requires.ready c.args.partition
    c.in-Ok.accepted c.in_ok-words.words c.weight_left.new.self c.keep_tried-in_default.new.self c.in_ok-left.left are
    c.in-Ok.ensures.same c.in_ok-left.ensures.same c.in_default.is c.in_ok-left.ensures.none in
    on_ok_weaker c.keep_tried-in_default.result kept c.keep_tried-in_default.ensures

pub returns : goal.returns
returns c =
    kept_best c.args.graph.now c.args.library.now c.args.self.now c.requires.ready c.args.partition c.in-Ok.accepted
    c.weight_left.new.self c.in_ok-left.left c.in-Some.weight c.in-Ok.ensures.same c.in_ok-left.ensures.same
    c.in-Some.is c.in-Ok.ensures.accepted c.in_ok-left.ensures.below
