use Rattle.std.proofs.Common.{length, arith}
use Rattle.si_words.specs.Loops.Reads.{words_now}
use Rattle.si_commands.specs.Command.{form_of}
use Rattle.si_commands.proofs.ReadsLemmas.{read_choice, read_one, read_two, read_three}
use Rattle.si_commands.proofs.CommandTasks.{few_together, no_options, two_files, two_files_placed, two_files_timed}
use Rattle.si_commands.proofs.FormLemmas.{counted_choices, counted_files}
use Rattle.si_tool.proofs.output.output_of_texts.Goals as goal

pub about-requires : goal.about-requires
about-requires c =
    let many = counted_choices (form_of c.args.task) (words_now c.args.files.now) c.args.choices.now c.requires.given in
    no_options c.in-About.topic (length c.args.choices.now) (rw c.in-About.is at many)

pub returns-in-Tell-clause-ok : goal.returns-in-Tell-clause-ok
returns-in-Tell-clause-ok c =
    let many = counted_files (form_of c.args.task) c.args.files.now (words_now c.args.choices.now) c.requires.given in
    let are = read_one c.args.files.now c.args.texts.now _ _ (rw c.in-Tell.is at many) c.requires.texts
    c.index-texts-0.is c.deref.ensures.value in
    rw (c.in-Tell.is, are.0, are.1) c.report.ensures.ok

pub returns-in-Tell-clause-err : goal.returns-in-Tell-clause-err
returns-in-Tell-clause-err c =
    let many = counted_files (form_of c.args.task) c.args.files.now (words_now c.args.choices.now) c.requires.given in
    let are = read_one c.args.files.now c.args.texts.now _ _ (rw c.in-Tell.is at many) c.requires.texts
    c.index-texts-0.is c.deref.ensures.value in
    rw (c.in-Tell.is, are.0, are.1) c.report.ensures.err

pub returns-in-Synth-clause-ok : goal.returns-in-Synth-clause-ok
returns-in-Synth-clause-ok c =
    let many = counted_files (form_of c.args.task) c.args.files.now (words_now c.args.choices.now) c.requires.given in
    let are = read_one c.args.files.now c.args.texts.now _ _ (rw c.in-Synth.is at many) c.requires.texts
    c.index-texts-0-in-Synth.is c.deref-in-Synth.ensures.value in
    rw (c.in-Synth.is, are.0, are.1) c.synth.ensures.ok

pub returns-in-Synth-clause-err : goal.returns-in-Synth-clause-err
returns-in-Synth-clause-err c =
    let many = counted_files (form_of c.args.task) c.args.files.now (words_now c.args.choices.now) c.requires.given in
    let are = read_one c.args.files.now c.args.texts.now _ _ (rw c.in-Synth.is at many) c.requires.texts
    c.index-texts-0-in-Synth.is c.deref-in-Synth.ensures.value in
    rw (c.in-Synth.is, are.0, are.1) c.synth.ensures.err

pub returns-in-Suggest-clause-ok : goal.returns-in-Suggest-clause-ok
returns-in-Suggest-clause-ok c =
    let many = counted_files (form_of c.args.task) c.args.files.now (words_now c.args.choices.now) c.requires.given in
    let are = read_one c.args.files.now c.args.texts.now _ _ (rw c.in-Suggest.is at many) c.requires.texts
    c.index-texts-0-in-Suggest.is c.deref-in-Suggest.ensures.value in
    rw (c.in-Suggest.is, are.0, are.1) c.suggest_text.ensures.ok

pub returns-in-Suggest-clause-err : goal.returns-in-Suggest-clause-err
returns-in-Suggest-clause-err c =
    let many = counted_files (form_of c.args.task) c.args.files.now (words_now c.args.choices.now) c.requires.given in
    let are = read_one c.args.files.now c.args.texts.now _ _ (rw c.in-Suggest.is at many) c.requires.texts
    c.index-texts-0-in-Suggest.is c.deref-in-Suggest.ensures.value in
    rw (c.in-Suggest.is, are.0, are.1) c.suggest_text.ensures.err

pub returns-in-Verilog-clause-ok : goal.returns-in-Verilog-clause-ok
returns-in-Verilog-clause-ok c =
    let many = counted_files (form_of c.args.task) c.args.files.now (words_now c.args.choices.now) c.requires.given in
    let are = read_one c.args.files.now c.args.texts.now _ _ (rw c.in-Verilog.is at many) c.requires.texts
    c.index-texts-0-in-Verilog.is c.deref-in-Verilog.ensures.value in
    rw (c.in-Verilog.is, are.0, are.1) c.verilog.ensures.ok

pub returns-in-Verilog-clause-err : goal.returns-in-Verilog-clause-err
returns-in-Verilog-clause-err c =
    let many = counted_files (form_of c.args.task) c.args.files.now (words_now c.args.choices.now) c.requires.given in
    let are = read_one c.args.files.now c.args.texts.now _ _ (rw c.in-Verilog.is at many) c.requires.texts
    c.index-texts-0-in-Verilog.is c.deref-in-Verilog.ensures.value in
    rw (c.in-Verilog.is, are.0, are.1) c.verilog.ensures.err

pub returns-in-Equations-clause-ok : goal.returns-in-Equations-clause-ok
returns-in-Equations-clause-ok c =
    let many = counted_files (form_of c.args.task) c.args.files.now (words_now c.args.choices.now) c.requires.given in
    let are = read_one c.args.files.now c.args.texts.now _ _ (rw c.in-Equations.is at many) c.requires.texts
    c.index-texts-0-in-Equations.is c.deref-in-Equations.ensures.value in
    rw (c.in-Equations.is, are.0, are.1) c.equations.ensures.ok

pub returns-in-Equations-clause-err : goal.returns-in-Equations-clause-err
returns-in-Equations-clause-err c =
    let many = counted_files (form_of c.args.task) c.args.files.now (words_now c.args.choices.now) c.requires.given in
    let are = read_one c.args.files.now c.args.texts.now _ _ (rw c.in-Equations.is at many) c.requires.texts
    c.index-texts-0-in-Equations.is c.deref-in-Equations.ensures.value in
    rw (c.in-Equations.is, are.0, are.1) c.equations.ensures.err

pub returns-in-TellNetlist-clause-ok : goal.returns-in-TellNetlist-clause-ok
returns-in-TellNetlist-clause-ok c =
    let many = counted_files (form_of c.args.task) c.args.files.now (words_now c.args.choices.now) c.requires.given in
    let are = read_one c.args.files.now c.args.texts.now _ _ (rw c.in-TellNetlist.is at many) c.requires.texts
    c.index-texts-0-in-TellNetlist.is c.deref-in-TellNetlist.ensures.value in
    rw (c.in-TellNetlist.is, are.0, are.1) c.netlist_report.ensures.ok

pub returns-in-TellNetlist-clause-err : goal.returns-in-TellNetlist-clause-err
returns-in-TellNetlist-clause-err c =
    let many = counted_files (form_of c.args.task) c.args.files.now (words_now c.args.choices.now) c.requires.given in
    let are = read_one c.args.files.now c.args.texts.now _ _ (rw c.in-TellNetlist.is at many) c.requires.texts
    c.index-texts-0-in-TellNetlist.is c.deref-in-TellNetlist.ensures.value in
    rw (c.in-TellNetlist.is, are.0, are.1) c.netlist_report.ensures.err

pub returns-in-FromGenlib-clause-ok : goal.returns-in-FromGenlib-clause-ok
returns-in-FromGenlib-clause-ok c =
    let many = counted_files (form_of c.args.task) c.args.files.now (words_now c.args.choices.now) c.requires.given in
    let are = read_one c.args.files.now c.args.texts.now _ _ (rw c.in-FromGenlib.is at many)
    c.requires.texts c.index-texts-0-in-FromGenlib.is c.deref-in-FromGenlib.ensures.value in
    rw (c.in-FromGenlib.is, are.0, are.1) c.genlib.ensures.ok

pub returns-in-FromGenlib-clause-err : goal.returns-in-FromGenlib-clause-err
returns-in-FromGenlib-clause-err c =
    let many = counted_files (form_of c.args.task) c.args.files.now (words_now c.args.choices.now) c.requires.given in
    let are = read_one c.args.files.now c.args.texts.now _ _ (rw c.in-FromGenlib.is at many)
    c.requires.texts c.index-texts-0-in-FromGenlib.is c.deref-in-FromGenlib.ensures.value in
    rw (c.in-FromGenlib.is, are.0, are.1) c.genlib.ensures.err

pub returns-in-Map-clause-ok : goal.returns-in-Map-clause-ok
returns-in-Map-clause-ok c =
    let many = counted_files (form_of c.args.task) c.args.files.now (words_now c.args.choices.now) c.requires.given in
    let counted = rw c.in-Map.is at many in
    let are = read_two c.args.files.now c.args.texts.now _ _ _ _ (two_files c.in-Map.kind _ counted)
    c.requires.texts c.index-texts-0-in-Map.is c.index-texts-1.is c.deref-in-Map.ensures.value
    c.deref-in-Map-2.ensures.value in
    rw (c.in-Map.is, are.0, are.1) (rw c.library_format-format.ensures at c.mapped.ensures.ok)

pub returns-in-Map-clause-err : goal.returns-in-Map-clause-err
returns-in-Map-clause-err c =
    let many = counted_files (form_of c.args.task) c.args.files.now (words_now c.args.choices.now) c.requires.given in
    let counted = rw c.in-Map.is at many in
    let are = read_two c.args.files.now c.args.texts.now _ _ _ _ (two_files c.in-Map.kind _ counted)
    c.requires.texts c.index-texts-0-in-Map.is c.index-texts-1.is c.deref-in-Map.ensures.value
    c.deref-in-Map-2.ensures.value in
    rw (c.in-Map.is, are.0, are.1) (rw c.library_format-format.ensures at c.mapped.ensures.err)

pub returns-in-Structure-clause-ok : goal.returns-in-Structure-clause-ok
returns-in-Structure-clause-ok c =
    let many = counted_files (form_of c.args.task) c.args.files.now (words_now c.args.choices.now) c.requires.given in
    let counted = rw c.in-Structure.is at many in
    let are = read_two c.args.files.now c.args.texts.now _ _ _ _ (two_files_placed c.in-Structure.kind _ counted)
    c.requires.texts c.index-texts-0-in-Structure.is c.index-texts-1-in-Structure.is c.deref-in-Structure.ensures.value
    c.deref-in-Structure-2.ensures.value in
    rw (c.in-Structure.is, are.0, are.1)
    (rw (c.library_format-format-in-Structure.ensures, c.complements.ensures) at c.structure.ensures.ok)

pub returns-in-Structure-clause-err : goal.returns-in-Structure-clause-err
returns-in-Structure-clause-err c =
    let many = counted_files (form_of c.args.task) c.args.files.now (words_now c.args.choices.now) c.requires.given in
    let counted = rw c.in-Structure.is at many in
    let are = read_two c.args.files.now c.args.texts.now _ _ _ _ (two_files_placed c.in-Structure.kind _ counted)
    c.requires.texts c.index-texts-0-in-Structure.is c.index-texts-1-in-Structure.is c.deref-in-Structure.ensures.value
    c.deref-in-Structure-2.ensures.value in
    rw (c.in-Structure.is, are.0, are.1)
    (rw (c.library_format-format-in-Structure.ensures, c.complements.ensures) at c.structure.ensures.err)

pub returns-in-Replay-clause-ok : goal.returns-in-Replay-clause-ok
returns-in-Replay-clause-ok c =
    let many = counted_files (form_of c.args.task) c.args.files.now (words_now c.args.choices.now) c.requires.given in
    let are = read_three c.args.files.now c.args.texts.now _ _ _ _ _ _ (rw c.in-Replay.is at many)
    c.requires.texts c.index-texts-0-in-Replay.is c.index-texts-1-in-Replay.is c.index-texts-2.is
    c.deref-in-Replay.ensures.value c.deref-in-Replay-2.ensures.value c.deref-in-Replay-3.ensures.value in
    rw (c.in-Replay.is, are.0, are.1) c.replay_texts.ensures.ok

pub returns-in-Replay-clause-err : goal.returns-in-Replay-clause-err
returns-in-Replay-clause-err c =
    let many = counted_files (form_of c.args.task) c.args.files.now (words_now c.args.choices.now) c.requires.given in
    let are = read_three c.args.files.now c.args.texts.now _ _ _ _ _ _ (rw c.in-Replay.is at many)
    c.requires.texts c.index-texts-0-in-Replay.is c.index-texts-1-in-Replay.is c.index-texts-2.is
    c.deref-in-Replay.ensures.value c.deref-in-Replay-2.ensures.value c.deref-in-Replay-3.ensures.value in
    rw (c.in-Replay.is, are.0, are.1) c.replay_texts.ensures.err

pub returns-in-Audit-clause-ok : goal.returns-in-Audit-clause-ok
returns-in-Audit-clause-ok c =
    let many = counted_files (form_of c.args.task) c.args.files.now (words_now c.args.choices.now) c.requires.given in
    let are = read_two c.args.files.now c.args.texts.now _ _ _ _ (rw c.in-Audit.is at many)
    c.requires.texts c.index-texts-0-in-Audit.is c.index-texts-1-in-Audit.is c.deref-in-Audit.ensures.value
    c.deref-in-Audit-2.ensures.value in
    rw (c.in-Audit.is, are.0, are.1) c.audit_texts.ensures.ok

pub returns-in-Audit-clause-err : goal.returns-in-Audit-clause-err
returns-in-Audit-clause-err c =
    let many = counted_files (form_of c.args.task) c.args.files.now (words_now c.args.choices.now) c.requires.given in
    let are = read_two c.args.files.now c.args.texts.now _ _ _ _ (rw c.in-Audit.is at many)
    c.requires.texts c.index-texts-0-in-Audit.is c.index-texts-1-in-Audit.is c.deref-in-Audit.ensures.value
    c.deref-in-Audit-2.ensures.value in
    rw (c.in-Audit.is, are.0, are.1) c.audit_texts.ensures.err

pub returns-in-Resolve-clause-ok : goal.returns-in-Resolve-clause-ok
returns-in-Resolve-clause-ok c =
    let many = counted_files (form_of c.args.task) c.args.files.now (words_now c.args.choices.now) c.requires.given in
    let are = read_one c.args.files.now c.args.texts.now _ _ (rw c.in-Resolve.is at many) c.requires.texts
    c.index-texts-0-in-Resolve.is c.deref-in-Resolve.ensures.value in
    rw (c.in-Resolve.is, are.0, are.1) c.resolved.ensures.ok

pub returns-in-Resolve-clause-err : goal.returns-in-Resolve-clause-err
returns-in-Resolve-clause-err c =
    let many = counted_files (form_of c.args.task) c.args.files.now (words_now c.args.choices.now) c.requires.given in
    let are = read_one c.args.files.now c.args.texts.now _ _ (rw c.in-Resolve.is at many) c.requires.texts
    c.index-texts-0-in-Resolve.is c.deref-in-Resolve.ensures.value in
    rw (c.in-Resolve.is, are.0, are.1) c.resolved.ensures.err

pub returns-in-Insert-clause-ok : goal.returns-in-Insert-clause-ok
returns-in-Insert-clause-ok c =
    let many = counted_files (form_of c.args.task) c.args.files.now (words_now c.args.choices.now) c.requires.given in
    let are = read_two c.args.files.now c.args.texts.now _ _ _ _ (rw c.in-Insert.is at many)
    c.requires.texts c.index-texts-0-in-Insert.is c.index-texts-1-in-Insert.is c.deref-in-Insert.ensures.value
    c.deref-in-Insert-2.ensures.value in
    rw (c.in-Insert.is, are.0, are.1) c.insert.ensures.ok

pub returns-in-Insert-clause-err : goal.returns-in-Insert-clause-err
returns-in-Insert-clause-err c =
    let many = counted_files (form_of c.args.task) c.args.files.now (words_now c.args.choices.now) c.requires.given in
    let are = read_two c.args.files.now c.args.texts.now _ _ _ _ (rw c.in-Insert.is at many)
    c.requires.texts c.index-texts-0-in-Insert.is c.index-texts-1-in-Insert.is c.deref-in-Insert.ensures.value
    c.deref-in-Insert-2.ensures.value in
    rw (c.in-Insert.is, are.0, are.1) c.insert.ensures.err

pub returns-in-Same-clause-ok : goal.returns-in-Same-clause-ok
returns-in-Same-clause-ok c =
    let many = counted_files (form_of c.args.task) c.args.files.now (words_now c.args.choices.now) c.requires.given in
    let are = read_two c.args.files.now c.args.texts.now _ _ _ _ (rw c.in-Same.is at many)
    c.requires.texts c.index-texts-0-in-Same.is c.index-texts-1-in-Same.is c.deref-in-Same.ensures.value
    c.deref-in-Same-2.ensures.value in
    rw (c.in-Same.is, are.0, are.1) c.same.ensures.ok

pub returns-in-Same-clause-err : goal.returns-in-Same-clause-err
returns-in-Same-clause-err c =
    let many = counted_files (form_of c.args.task) c.args.files.now (words_now c.args.choices.now) c.requires.given in
    let are = read_two c.args.files.now c.args.texts.now _ _ _ _ (rw c.in-Same.is at many)
    c.requires.texts c.index-texts-0-in-Same.is c.index-texts-1-in-Same.is c.deref-in-Same.ensures.value
    c.deref-in-Same-2.ensures.value in
    rw (c.in-Same.is, are.0, are.1) c.same.ensures.err

pub together-requires-clause-few : goal.together-requires-clause-few
together-requires-clause-few c =
    let many = counted_files (form_of c.args.task) c.args.files.now (words_now c.args.choices.now) c.requires.given in
    few_together c.in-Together.what (length c.args.files.now) (rw c.in-Together.is at many)

pub returns-in-Together-clause-ok : goal.returns-in-Together-clause-ok
returns-in-Together-clause-ok c = rw c.in-Together.is c.together.ensures.ok

pub returns-in-Together-clause-err : goal.returns-in-Together-clause-err
returns-in-Together-clause-err c = rw c.in-Together.is c.together.ensures.err

pub returns-in-Resettable-clause-ok : goal.returns-in-Resettable-clause-ok
returns-in-Resettable-clause-ok c =
    let many = counted_files (form_of c.args.task) c.args.files.now (words_now c.args.choices.now) c.requires.given in
    let are = read_one c.args.files.now c.args.texts.now _ _ (rw c.in-Resettable.is at many) c.requires.texts
    c.index-texts-0-in-Resettable.is c.deref-in-Resettable.ensures.value in
    let few = counted_choices (form_of c.args.task) (words_now c.args.files.now) c.args.choices.now c.requires.given in
    let name = read_choice c.args.choices.now (rw c.in-Resettable.is at few) in
    rw (c.in-Resettable.is, are.0, are.1, name) c.resettable.ensures.ok

pub returns-in-Resettable-clause-err : goal.returns-in-Resettable-clause-err
returns-in-Resettable-clause-err c =
    let many = counted_files (form_of c.args.task) c.args.files.now (words_now c.args.choices.now) c.requires.given in
    let are = read_one c.args.files.now c.args.texts.now _ _ (rw c.in-Resettable.is at many) c.requires.texts
    c.index-texts-0-in-Resettable.is c.deref-in-Resettable.ensures.value in
    let few = counted_choices (form_of c.args.task) (words_now c.args.files.now) c.args.choices.now c.requires.given in
    let name = read_choice c.args.choices.now (rw c.in-Resettable.is at few) in
    rw (c.in-Resettable.is, are.0, are.1, name) c.resettable.ensures.err

pub returns-in-Timing-clause-ok : goal.returns-in-Timing-clause-ok
returns-in-Timing-clause-ok c =
    let many = counted_files (form_of c.args.task) c.args.files.now (words_now c.args.choices.now) c.requires.given in
    let counted = rw c.in-Timing.is at many in
    let are = read_two c.args.files.now c.args.texts.now _ _ _ _ (two_files_timed c.in-Timing.kind _ counted)
    c.requires.texts c.index-texts-0-in-Timing.is c.index-texts-1-in-Timing.is c.deref-in-Timing.ensures.value
    c.deref-in-Timing-2.ensures.value in
    rw (c.in-Timing.is, are.0, are.1) (rw c.library_format-format-in-Timing.ensures at c.timing.ensures.ok)

pub returns-in-Timing-clause-err : goal.returns-in-Timing-clause-err
returns-in-Timing-clause-err c =
    let many = counted_files (form_of c.args.task) c.args.files.now (words_now c.args.choices.now) c.requires.given in
    let counted = rw c.in-Timing.is at many in
    let are = read_two c.args.files.now c.args.texts.now _ _ _ _ (two_files_timed c.in-Timing.kind _ counted)
    c.requires.texts c.index-texts-0-in-Timing.is c.index-texts-1-in-Timing.is c.deref-in-Timing.ensures.value
    c.deref-in-Timing-2.ensures.value in
    rw (c.in-Timing.is, are.0, are.1) (rw c.library_format-format-in-Timing.ensures at c.timing.ensures.err)

pub returns-in-Certify-clause-ok : goal.returns-in-Certify-clause-ok
returns-in-Certify-clause-ok c =
    let many = counted_files (form_of c.args.task) c.args.files.now (words_now c.args.choices.now) c.requires.given in
    let are = read_two c.args.files.now c.args.texts.now _ _ _ _ (rw c.in-Certify.is at many)
    c.requires.texts c.index-texts-0-in-Certify.is c.index-texts-1-in-Certify.is c.deref-in-Certify.ensures.value
    c.deref-in-Certify-2.ensures.value in
    rw (c.in-Certify.is, are.0, are.1) c.certify_texts.ensures.ok

pub returns-in-Certify-clause-err : goal.returns-in-Certify-clause-err
returns-in-Certify-clause-err c =
    let many = counted_files (form_of c.args.task) c.args.files.now (words_now c.args.choices.now) c.requires.given in
    let are = read_two c.args.files.now c.args.texts.now _ _ _ _ (rw c.in-Certify.is at many)
    c.requires.texts c.index-texts-0-in-Certify.is c.index-texts-1-in-Certify.is c.deref-in-Certify.ensures.value
    c.deref-in-Certify-2.ensures.value in
    rw (c.in-Certify.is, are.0, are.1) c.certify_texts.ensures.err

pub returns-in-CertifyEquations-clause-ok : goal.returns-in-CertifyEquations-clause-ok
returns-in-CertifyEquations-clause-ok c =
    let many = counted_files (form_of c.args.task) c.args.files.now (words_now c.args.choices.now) c.requires.given in
    let are = read_two c.args.files.now c.args.texts.now _ _ _ _ (rw c.in-CertifyEquations.is at many)
    c.requires.texts c.index-texts-0-in-CertifyEquations.is c.index-texts-1-in-CertifyEquations.is
    c.deref-in-CertifyEquations.ensures.value
    c.deref-in-CertifyEquations-2.ensures.value in
    rw (c.in-CertifyEquations.is, are.0, are.1) c.certify_equations.ensures.ok

pub returns-in-CertifyEquations-clause-err : goal.returns-in-CertifyEquations-clause-err
returns-in-CertifyEquations-clause-err c =
    let many = counted_files (form_of c.args.task) c.args.files.now (words_now c.args.choices.now) c.requires.given in
    let are = read_two c.args.files.now c.args.texts.now _ _ _ _ (rw c.in-CertifyEquations.is at many)
    c.requires.texts c.index-texts-0-in-CertifyEquations.is c.index-texts-1-in-CertifyEquations.is
    c.deref-in-CertifyEquations.ensures.value
    c.deref-in-CertifyEquations-2.ensures.value in
    rw (c.in-CertifyEquations.is, are.0, are.1) c.certify_equations.ensures.err

pub returns-in-CertifyModules-clause-ok : goal.returns-in-CertifyModules-clause-ok
returns-in-CertifyModules-clause-ok c =
    let many = counted_files (form_of c.args.task) c.args.files.now (words_now c.args.choices.now) c.requires.given in
    let are = read_two c.args.files.now c.args.texts.now _ _ _ _ (rw c.in-CertifyModules.is at many)
    c.requires.texts c.index-texts-0-in-CertifyModules.is c.index-texts-1-in-CertifyModules.is
    c.deref-in-CertifyModules.ensures.value
    c.deref-in-CertifyModules-2.ensures.value in
    rw (c.in-CertifyModules.is, are.0, are.1) c.certify_equations-in-CertifyModules.ensures.ok

pub returns-in-CertifyModules-clause-err : goal.returns-in-CertifyModules-clause-err
returns-in-CertifyModules-clause-err c =
    let many = counted_files (form_of c.args.task) c.args.files.now (words_now c.args.choices.now) c.requires.given in
    let are = read_two c.args.files.now c.args.texts.now _ _ _ _ (rw c.in-CertifyModules.is at many)
    c.requires.texts c.index-texts-0-in-CertifyModules.is c.index-texts-1-in-CertifyModules.is
    c.deref-in-CertifyModules.ensures.value
    c.deref-in-CertifyModules-2.ensures.value in
    rw (c.in-CertifyModules.is, are.0, are.1) c.certify_equations-in-CertifyModules.ensures.err

pub returns-in-InsertGate-clause-ok : goal.returns-in-InsertGate-clause-ok
returns-in-InsertGate-clause-ok c =
    let many = counted_files (form_of c.args.task) c.args.files.now (words_now c.args.choices.now) c.requires.given in
    let are = read_two c.args.files.now c.args.texts.now _ _ _ _ (rw c.in-InsertGate.is at many)
    c.requires.texts c.index-texts-0-in-InsertGate.is c.index-texts-1-in-InsertGate.is c.deref-in-InsertGate.ensures.value
    c.deref-in-InsertGate-2.ensures.value in
    rw (c.in-InsertGate.is, are.0, are.1) c.insert_by_hand.ensures.ok

pub returns-in-InsertGate-clause-err : goal.returns-in-InsertGate-clause-err
returns-in-InsertGate-clause-err c =
    let many = counted_files (form_of c.args.task) c.args.files.now (words_now c.args.choices.now) c.requires.given in
    let are = read_two c.args.files.now c.args.texts.now _ _ _ _ (rw c.in-InsertGate.is at many)
    c.requires.texts c.index-texts-0-in-InsertGate.is c.index-texts-1-in-InsertGate.is c.deref-in-InsertGate.ensures.value
    c.deref-in-InsertGate-2.ensures.value in
    rw (c.in-InsertGate.is, are.0, are.1) c.insert_by_hand.ensures.err
