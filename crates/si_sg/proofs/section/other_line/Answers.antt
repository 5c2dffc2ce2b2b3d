use Rattle.std.proofs.Common.{◌≡◌, ◌∷◌, false, sym, ◌∙◌, inl, inr}
use Rattle.std.proofs.lemmas.Bool.{cases_Bool, true≢false}
use Rattle.si_base.specs.Lines.{has_bad_byte}
use Rattle.si_sg.specs.GraphText as text
use Rattle.si_sg.proofs.section.other_line.Goals as goal

pub returns-in-Some-next_word-clause-fault : goal.returns-in-Some-next_word-clause-fault
returns-in-Some-next_word-clause-fault c =
    let clean : has_bad_byte c.args.bytes.now ≡ false =
    elim (cases_Bool (has_bad_byte c.args.bytes.now)) [
      | inl bad ↦ absurd (true≢false (c.in-Some.ensures.bad.1 bad))
      | inr good ↦ good
    ] in
    let read : text.words c.args.bytes.now ≡ c.in-Some-next_word.first.now ∷ c.next_word.new.self =
    sym c.in-Some.ensures.words ∙ c.in-Some-next_word.ensures in
    rw (clean, read) c.section_words.ensures.fault
