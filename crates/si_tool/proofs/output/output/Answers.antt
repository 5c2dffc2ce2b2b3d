use Rattle.std.proofs.Common.{◌≡◌, ◌∙◌, length, sym}
use Rattle.std.proofs.lemmas.List.{length-map}
use Rattle.si_words.specs.Loops.Reads.{words_now}
use Rattle.si_tool.specs.Loads.{loads}
use Rattle.si_commands.specs.Loops.Reads.{request_of, texts_now}
use Rattle.si_tool.proofs.LoadLemmas.{loads_as_many}
use Rattle.si_tool.proofs.OutputCalls.{not_loaded, stops_command, came_ok, came_err}
use Rattle.si_tool.proofs.output.output.Goals as goal

pub returns-in_err-texts-clause-err : goal.returns-in_err-texts-clause-err
returns-in_err-texts-clause-err g c =
    let loading = loads (g.H.Shelf.content c.args.shelf.now) (g.H.Shelf.faults c.args.shelf.now)
    (g.H.Shelf.faults c.load_all.new.shelf) in
    let asked = request_of c.args.command.now in
    stops_command loading asked c.from_residual.result _ c.from_residual.ensures.1
    (not_loaded loading asked _ (rw c.deref.ensures.value at c.in_err-texts.ensures.err))

pub output_of_texts-requires : goal.output_of_texts-requires
output_of_texts-requires g c =
    let content = g.H.Shelf.content c.args.shelf.now in
    let before = g.H.Shelf.faults c.args.shelf.now in
    let now = g.H.Shelf.faults c.load_all.new.shelf in
    let files = c.deref.result.now in
    let texts = c.in_ok-texts.texts.items in
    let each = loads_as_many content before now (words_now files) (texts_now texts) c.in_ok-texts.ensures.ok in
    let as_many : length texts ≡ length files =
    sym (length-map texts (λ text. text.items)) ∙ each ∙ length-map files (λ name. name.now) in
    record {
      given = rw (c.deref-2.ensures.value, c.deref-3.ensures.value) c.requires;
      texts = rw (c.deref-2.ensures.value, c.deref-4.ensures.value) (rw c.deref.ensures.value at as_many);
    }

pub returns-clause-ok : goal.returns-clause-ok
returns-clause-ok g c =
    let loading = loads (g.H.Shelf.content c.args.shelf.now) (g.H.Shelf.faults c.args.shelf.now)
    (g.H.Shelf.faults c.load_all.new.shelf) in
    let asked = request_of c.args.command.now in
    came_ok loading asked (texts_now c.in_ok-texts.texts.items) c.output_of_texts.result
    (rw c.deref.ensures.value at c.in_ok-texts.ensures.ok)
    (rw (c.deref-2.ensures.value, c.deref-3.ensures.value, c.deref-4.ensures.value) at c.output_of_texts.ensures.ok)

pub returns-clause-err : goal.returns-clause-err
returns-clause-err g c =
    let loading = loads (g.H.Shelf.content c.args.shelf.now) (g.H.Shelf.faults c.args.shelf.now)
    (g.H.Shelf.faults c.load_all.new.shelf) in
    let asked = request_of c.args.command.now in
    came_err loading asked (texts_now c.in_ok-texts.texts.items) c.output_of_texts.result
    (rw c.deref.ensures.value at c.in_ok-texts.ensures.ok)
    (rw (c.deref-2.ensures.value, c.deref-3.ensures.value, c.deref-4.ensures.value) at c.output_of_texts.ensures.err)
