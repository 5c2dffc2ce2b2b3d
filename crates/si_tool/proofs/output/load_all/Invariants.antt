use Rattle.si_words.specs.Loops.Reads.{words_now}
use Rattle.si_commands.specs.Loops.Reads.{texts_now}
use Rattle.si_tool.proofs.OutputCalls.{IsLoadedTo}
use Rattle.si_tool.proofs.output.load_all.Given as goal

-- the files so far were loaded
abbrev pub invariant-loop-file : goal.invariant-loop-file
invariant-loop-file g l = IsLoadedTo g.H.Shelf.content g.H.Shelf.faults g.H.Shelf.loads (words_now l.files)
    l.file-index l.initial.shelf l.shelf (texts_now l.texts.items)
