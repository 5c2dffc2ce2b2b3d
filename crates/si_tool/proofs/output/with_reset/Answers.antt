use Rattle.std.proofs.Common.{length}
use Rattle.si_words.specs.Loops.Reads.{words_now}
use Rattle.si_commands.specs.Command.{form_of}
use Rattle.si_commands.specs.declared.task.Task.TheVariants.{ResettableStructure}
use Rattle.si_commands.proofs.CommandTasks.{some_reset, two_files_reset}
use Rattle.si_commands.proofs.FormLemmas.{counted_choices, counted_files}
use Rattle.si_commands.proofs.ReadsLemmas.{read_name, read_two}
use Rattle.si_tool.proofs.output.with_reset.Goals as goal

pub returns-clause-ok : goal.returns-clause-ok
returns-clause-ok c =
    let form = form_of (ResettableStructure c.args.kind) in
    let files = c.args.files.now in
    let choices = c.args.choices.now in
    let many = counted_files form files (words_now choices) c.requires.given in
    let chosen = counted_choices form (words_now files) choices c.requires.given in
    let are = read_two files c.args.texts.now _ _ _ _ (two_files_reset c.args.kind (length files) many)
    c.requires.texts c.index-texts-0.is c.index-texts-1.is c.deref.ensures.value c.deref-2.ensures.value in
    let named = read_name choices (some_reset c.args.kind (length choices) chosen) in
    rw (are.0, are.1, named)
    (rw (c.library_format-format.ensures, c.complements.ensures) at c.resettable_structure.ensures.ok)

pub returns-clause-err : goal.returns-clause-err
returns-clause-err c =
    let form = form_of (ResettableStructure c.args.kind) in
    let files = c.args.files.now in
    let choices = c.args.choices.now in
    let many = counted_files form files (words_now choices) c.requires.given in
    let chosen = counted_choices form (words_now files) choices c.requires.given in
    let are = read_two files c.args.texts.now _ _ _ _ (two_files_reset c.args.kind (length files) many)
    c.requires.texts c.index-texts-0.is c.index-texts-1.is c.deref.ensures.value c.deref-2.ensures.value in
    let named = read_name choices (some_reset c.args.kind (length choices) chosen) in
    rw (are.0, are.1, named)
    (rw (c.library_format-format.ensures, c.complements.ensures) at c.resettable_structure.ensures.err)
