use Rattle.std.proofs.Common.{◌≡◌, sym, ◌∙◌, ◌≤◌, ◌%◌, length, arith, string_bytes}
use Rattle.std.proofs.lemmas.List.{length-map}
use Rattle.si_words.specs.Loops.Reads.{words_now}
use Rattle.si_commands.specs.Form.{words_of}
use Rattle.si_commands.proofs.TailLemmas.{files_left, no_words, nothing_left, options_left, pairs_left}
use Rattle.si_commands.proofs.form.with_tail.Goals as goal
use Rattle.si_commands.proofs.form.with_tail.Goals.{in-Nothing+else-not-is_empty}
use Rattle.si_commands.proofs.form.with_tail.Goals.{in-MoreFiles+else-left-most+in_ok-add_words-in-MoreFiles}
use Rattle.si_commands.proofs.form.with_tail.Goals.{in-MorePairs+else-left-most-2+else-left-ne0+in_ok-add_words-in-MorePairs}
use Rattle.si_commands.proofs.form.with_tail.Goals.{in-Options+else-not-are_some+in_ok-add_words-in-Options}

pub returns : goal.returns
returns c =
    let left = words_of c.args.left.now in
    let files = words_now c.args.given.files.items in
    let choices = words_now c.args.given.choices.items in
    elim c.match-tail.branch [
      | in-Nothing+else-not-is_empty w ↦
          rw (w.in-Nothing.is, w.files-is, w.choices-is)
          (nothing_left left files choices (no_words c.args.left.now (sym w.if-not-is_empty.false ∙ w.is_empty.ensures)))
      | in-MoreFiles+else-left-most+in_ok-add_words-in-MoreFiles w ↦
          let few : length left ≤ w.in-MoreFiles.most =
          omega (arith, w.if-left-most.false, length-map c.args.left.now (λ word. string_bytes word)) in
          rw (w.in-MoreFiles.is, w.files-is, w.choices-is)
          (files_left w.in-MoreFiles.most left files choices _ few w.in_ok-add_words-in-MoreFiles.ensures)
      | in-MorePairs+else-left-most-2+else-left-ne0+in_ok-add_words-in-MorePairs w ↦
          let many = length-map c.args.left.now (λ word. string_bytes word) in
          let few : length left ≤ w.in-MorePairs.most = omega (arith, w.if-left-most-2.false, many) in
          let even : length left % 2 ≡ 0 = rw many w.if-left-ne0.false in
          rw (w.in-MorePairs.is, w.files-is, w.choices-is)
          (pairs_left w.in-MorePairs.most left files choices _ few even w.in_ok-add_words-in-MorePairs.ensures)
      | in-Options+else-not-are_some+in_ok-add_words-in-Options w ↦
          rw (w.in-Options.is, w.files-is, w.choices-is)
          (options_left _ left files choices _ (sym w.are_some.ensures ∙ w.if-not-are_some.false)
          w.in_ok-add_words-in-Options.ensures)
    ]
