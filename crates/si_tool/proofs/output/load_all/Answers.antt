use Rattle.std.proofs.Common.{◌≡◌, [], ◌∷◌, length, arith}
use Rattle.std.proofs.lemmas.List.{length-map, map-append}
use Rattle.std.proofs.Math.Seq.{take-length}
use Rattle.si_words.specs.Loops.Reads.{words_now}
use Rattle.si_tool.specs.Loads.{loads}
use Rattle.si_commands.specs.Loops.Reads.{texts_now}
use Rattle.si_tool.proofs.OutputCalls.{next_loaded, stops_there, first_loaded, first_unread, all_are, stops_loading}
use Rattle.si_commands.proofs.ReadsLemmas.{cut_at, one_more_name}
use Rattle.si_tool.proofs.output.load_all.Goals as goal

pub returns-in_err-text-clause-err : goal.returns-in_err-text-clause-err
returns-in_err-text-clause-err g c =
    let content = g.H.Shelf.content in
    let faults = g.H.Shelf.faults in
    let names = words_now c.args.files.now in
    let cut = cut_at c.args.files.now c.loop-file.file-index c.loop-file-test.true in
    let stage = loads (content c.args.shelf.now) (faults c.args.shelf.now) (faults c.load.new.shelf) names in
    stops_loading stage c.from_residual.result _ c.from_residual.ensures.1
    (stops_there content faults g.H.Shelf.loads names c.loop-file.file-index c.args.shelf.now c.loop-file.shelf
    c.load.new.shelf (texts_now c.loop-file.texts.items) _ _ _ cut c.loop-file.invariant c.in_err-text.ensures.err)

pub returns-in_err-text-clause-loaded : goal.returns-in_err-text-clause-loaded
returns-in_err-text-clause-loaded g c =
    let cut = cut_at c.args.files.now c.loop-file.file-index c.loop-file-test.true in
    first_unread g.H.Shelf.content g.H.Shelf.faults g.H.Shelf.loads (words_now c.args.files.now)
    c.loop-file.file-index c.args.shelf.now c.loop-file.shelf c.load.new.shelf _ _ _ cut c.loop-file.invariant
    c.in_err-text.ensures.unread

pub returns-in_default-clause-loaded : goal.returns-in_default-clause-loaded
returns-in_default-clause-loaded g c =
    let cut = cut_at c.args.files.now c.loop-file.file-index c.loop-file-test.true in
    first_loaded g.H.Shelf.content g.H.Shelf.faults g.H.Shelf.loads (words_now c.args.files.now)
    c.loop-file.file-index c.args.shelf.now c.loop-file.shelf c.load.new.shelf _ _ _ _ cut c.loop-file.invariant
    c.in_ok-text.ensures.loaded

pub loop-file-preserved : goal.loop-file-preserved
loop-file-preserved g c =
    let more = one_more_name c.args.files.now c.loop-file.file-index c.loop-file-test.true in
    let next = next_loaded g.H.Shelf.content g.H.Shelf.faults g.H.Shelf.loads (words_now c.args.files.now)
    c.loop-file.file-index c.args.shelf.now c.loop-file.shelf c.load.new.shelf (texts_now c.loop-file.texts.items) _
    c.in_ok-text.text.items more c.loop-file.invariant c.in_ok-text.ensures.ok c.in_ok-text.ensures.stay
    c.load.ensures.same c.in_ok-text.ensures.loaded in
    rw (c.in-Ok.ensures.items, map-append (λ text. text.items) c.loop-file.texts.items (c.in_ok-text.text ∷ [])) next

pub returns-clause-ok : goal.returns-clause-ok
returns-clause-ok g c =
    let many = length-map c.args.files.now (λ name. name.now) in
    let end : c.loop-file.file-index ≡ length (words_now c.args.files.now) =
    omega (arith, many, c.loop-file-test.false, c.loop-file.auto.file-index-end) in
    all_are g.H.Shelf.content g.H.Shelf.faults g.H.Shelf.loads (words_now c.args.files.now) c.loop-file.file-index
    c.args.shelf.now c.loop-file.shelf (texts_now c.loop-file.texts.items)
    (rw end (take-length (words_now c.args.files.now))) c.loop-file.invariant
