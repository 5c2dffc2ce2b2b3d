use Rattle.std.proofs.Common.{◌≡◌, List, [], ◌∷◌, ℕ, true, false, sym, ◌∙◌, refl}
use Rattle.si_base.specs.Lines.{words_in}
use Rattle.si_sg.specs.StateWords.{is_state_word, is_none}
use Rattle.si_sg.proofs.KnownArcLemmas.{clean_line, state_is_word}
use Rattle.si_sg.proofs.NameLemmas.{stands_at, word_there}
use Rattle.si_sg.proofs.known_arcs.known_arc.Goals as goal

none_left : (words : List (List ℕ)) → is_none words ≡ true → words ≡ []
none_left [] none = refl
none_left (w ∷ words) none = cc

-- the words of the line
three : (c : goal.After-sig)
    → words_in false c.args.line.now
    ≡ c.in_ok-source.source.now ∷ c.in_ok-event.event.now ∷ c.in_ok-target.target.now ∷ []
three c =
    let none : c.next_word-3.new.self ≡ [] =
    none_left c.next_word-3.new.self (sym c.is_none.ensures ∙ c.if-not-is_none.false) in
    rw (← c.of_bytes-words.ensures, c.in_ok-source.ensures, c.in_ok-event.ensures, c.in_ok-target.ensures, none) refl

source : (c : goal.After-sig) → is_state_word c.in_ok-source.source.now ≡ true
source c = word_there c.args.section.now.states c.in_ok-source.source.now c.in_ok-from.from c.requires.states
    c.in_ok-from.ensures.placed

target : (c : goal.After-sig) → is_state_word c.in_ok-target.target.now ≡ true
target c = word_there c.args.section.now.states c.in_ok-target.target.now c.in_ok-to.to c.requires.states
    c.in_ok-to.ensures.placed

pub returns : goal.returns
returns c =
    let states = c.args.section.now.states in
    let clean = clean_line c.args.line.now _ (three c) (
      state_is_word c.in_ok-source.source.now (source c),
      (c.in_ok-sig.ensures.clean, (state_is_word c.in_ok-target.target.now (target c), tt)),
    ) in
    record {
      source = c.in_ok-source.source.now;
      event = c.in_ok-event.event.now;
      target = c.in_ok-target.target.now;
      clean = clean.0;
      words_are = clean.1;
      from = stands_at states c.in_ok-source.source.now c.in_ok-from.from c.in_ok-from.ensures.distinct
          c.in_ok-from.ensures.placed;
      from_state = source c;
      spelled = rw c.sig.view_is c.in_ok-sig.ensures;
      to = stands_at states c.in_ok-target.target.now c.in_ok-to.to c.in_ok-to.ensures.distinct
          c.in_ok-to.ensures.placed;
      to_state = target c;
    }
