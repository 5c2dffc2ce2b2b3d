use Rattle.std.proofs.Common.{◌≡◌, ◌+◌, ◌<◌, ◌∙◌, [], ◌∷◌, length, refl, sym, ap, arith, string_bytes}
use Rattle.std.proofs.lemmas.List.{length-map, map-append}
use Rattle.si_base.specs.Words.{is_signal_name}
use Rattle.si_words.specs.Loops.Reads.{words_now}
use Rattle.si_commands.specs.Form.{words_of}
use Rattle.si_commands.specs.Loops.Reads.{slots_now, slot_now}
use Rattle.si_commands.proofs.FormLemmas.{too_few_words, none_filled, other_word, word_filled}
use Rattle.si_commands.proofs.FormLemmas.{file_filled, lone_filled, library_filled, choice_filled, name_filled}
use Rattle.si_commands.proofs.FormLemmas.{true_not_false, word_same, word_other}
use Rattle.si_commands.proofs.FormLemmas.{is_a_library, not_a_library}
use Rattle.si_commands.proofs.FormLemmas.{slot_at, word_at, words_differ, words_same}
use Rattle.si_commands.proofs.form.placed_in.Goals.{in-Word+else-ne, in-File+in_ok-push-in-File}
use Rattle.si_commands.proofs.form.placed_in.Goals.{in-OneOf+else-not-is_listed+in_ok-push-in-OneOf}
use Rattle.si_commands.proofs.form.placed_in.Goals.{in-LoneFile+else-eq+in_ok-push-in-LoneFile}
use Rattle.si_commands.proofs.form.placed_in.Goals.{in-LibraryFile+else-is_kept+in_ok-push-in-LibraryFile}
use Rattle.si_commands.proofs.form.placed_in.Goals.{in-Name+else-not-is_signal_name+in_ok-push-in-Name}
use Rattle.si_commands.proofs.form.placed_in.Goals as goal

pub returns-then-words-places-clause-filled : goal.returns-then-words-places-clause-filled
returns-then-words-places-clause-filled c = λ tail files choices.
    let places = c.args.places.now in
    let words = c.args.words.now in
    too_few_words (slots_now places) tail (words_of words) files choices
    (omega (arith, c.if-words-places.true, length-map places slot_now, length-map words (λ w. string_bytes w)))

pub loop-place-init : goal.loop-place-init
loop-place-init c = rw (c.new-files.ensures.items, c.new-choices.ensures.items)
    (λ tail. none_filled (slots_now c.args.places.now) tail (words_of c.args.words.now))

pub returns-then-ne-clause-filled : goal.returns-then-ne-clause-filled
returns-then-ne-clause-filled c = λ tail.
    let below : c.loop-place.place < length c.args.words.now =
    omega (arith, c.loop-place-test.true, c.if-words-places.false) in
    let slot = slot_at c.args.places.now c.loop-place.place _ _ c.loop-place-test.true c.in-Word.is in
    let word = word_at c.args.words.now c.loop-place.place c.index-words-place.result c.as_str-word.result.now
    below c.index-words-place.is c.as_str-word.ensures.value in
    other_word _ _ tail _ _ _ _ _ _ _ (c.loop-place.invariant tail) slot word
    (words_differ _ _ _ c.ne.ensures c.if-ne.true)

pub returns-then-eq-clause-filled : goal.returns-then-eq-clause-filled
returns-then-eq-clause-filled c = λ tail.
    let below : c.loop-place.place < length c.args.words.now =
    omega (arith, c.loop-place-test.true, c.if-words-places.false) in
    let slot = slot_at c.args.places.now c.loop-place.place _ _ c.loop-place-test.true c.in-LoneFile.is in
    let word = word_at c.args.words.now c.loop-place.place c.index-words-place.result c.as_str-word.result.now
    below c.index-words-place.is c.as_str-word.ensures.value in
    other_word _ _ tail _ _ _ _ _ _ _ (c.loop-place.invariant tail) slot word
    (λ stands. stands (word_same _ _ _ c.eq.ensures c.if-eq.true))

pub returns-then-is_kept-clause-filled : goal.returns-then-is_kept-clause-filled
returns-then-is_kept-clause-filled c = λ tail.
    let below : c.loop-place.place < length c.args.words.now =
    omega (arith, c.loop-place-test.true, c.if-words-places.false) in
    let slot = slot_at c.args.places.now c.loop-place.place _ _ c.loop-place-test.true c.in-LibraryFile.is in
    let word = word_at c.args.words.now c.loop-place.place c.index-words-place.result c.as_str-word.result.now
    below c.index-words-place.is c.as_str-word.ensures.value in
    other_word _ _ tail _ _ _ _ _ _ _ (c.loop-place.invariant tail) slot word
    (not_a_library c.as_str-word.result.now c.args.words.now (c.loop-place.place + 1) (words_now c.in-LibraryFile.kept.now)
    (c.is_kept.ensures.kept c.if-is_kept.true))

pub returns-then-not-is_listed-clause-filled : goal.returns-then-not-is_listed-clause-filled
returns-then-not-is_listed-clause-filled c = λ tail.
    let below : c.loop-place.place < length c.args.words.now =
    omega (arith, c.loop-place-test.true, c.if-words-places.false) in
    let slot = slot_at c.args.places.now c.loop-place.place _ _ c.loop-place-test.true c.in-OneOf.is in
    let word = word_at c.args.words.now c.loop-place.place c.index-words-place.result c.as_str-word.result.now
    below c.index-words-place.is c.as_str-word.ensures.value in
    other_word _ _ tail _ _ _ _ _ _ _ (c.loop-place.invariant tail) slot word
    (λ stands. true_not_false (sym stands ∙ sym c.is_listed.ensures ∙ c.if-not-is_listed.true))

pub returns-then-not-is_signal_name-clause-filled : goal.returns-then-not-is_signal_name-clause-filled
returns-then-not-is_signal_name-clause-filled c = λ tail.
    let below : c.loop-place.place < length c.args.words.now =
    omega (arith, c.loop-place-test.true, c.if-words-places.false) in
    let slot = slot_at c.args.places.now c.loop-place.place _ _ c.loop-place-test.true c.in-Name.is in
    let word = word_at c.args.words.now c.loop-place.place c.index-words-place.result c.as_str-word.result.now
    below c.index-words-place.is c.as_str-word.ensures.value in
    other_word _ _ tail _ _ _ _ _ _ _ (c.loop-place.invariant tail) slot word
    (λ named. true_not_false (sym named ∙ ap is_signal_name (sym c.as_bytes.ensures.value)
    ∙ sym c.is_signal_name.ensures ∙ c.if-not-is_signal_name.true))

pub loop-place-preserved : goal.loop-place-preserved
loop-place-preserved c = λ tail.
    let below : c.loop-place.place < length c.args.words.now =
    omega (arith, c.loop-place-test.true, c.if-words-places.false) in
    let word = word_at c.args.words.now c.loop-place.place c.index-words-place.result c.as_str-word.result.now
    below c.index-words-place.is c.as_str-word.ensures.value in
    elim c.match-slot.branch [
      | in-Word+else-ne w ↦
          let slot = slot_at c.args.places.now c.loop-place.place _ _ c.loop-place-test.true w.in-Word.is in
          rw (w.files-is, w.choices-is) (word_filled _ _ tail _ _ _ _ _ _ (c.loop-place.invariant tail) _ slot word refl refl
          (words_same _ _ _ w.ne.ensures w.if-ne.false))
      | in-File+in_ok-push-in-File w ↦
          let slot = slot_at c.args.places.now c.loop-place.place _ _ c.loop-place-test.true w.in-File.is in
          let filled = file_filled _ _ tail _ _ _ _ _ _ (c.loop-place.invariant tail) _ slot word refl refl in
          let pushed = w.in_ok-push-in-File.ensures.items in
          rw (
            w.files-is,
            w.choices-is,
            pushed,
            map-append (λ name. name.now) c.loop-place.files.items (c.as_str-word.result ∷ []),
          ) filled
      | in-LoneFile+else-eq+in_ok-push-in-LoneFile w ↦
          let slot = slot_at c.args.places.now c.loop-place.place _ _ c.loop-place-test.true w.in-LoneFile.is in
          let filled = lone_filled _ _ tail _ _ _ _ _ _ (c.loop-place.invariant tail) _ slot word refl refl
          (word_other _ _ _ w.eq.ensures w.if-eq.false) in
          let pushed = w.in_ok-push-in-LoneFile.ensures.items in
          rw (
            w.files-is,
            w.choices-is,
            pushed,
            map-append (λ name. name.now) c.loop-place.files.items (c.as_str-word.result ∷ []),
          ) filled
      | in-LibraryFile+else-is_kept+in_ok-push-in-LibraryFile w ↦
          let slot = slot_at c.args.places.now c.loop-place.place _ _ c.loop-place-test.true w.in-LibraryFile.is in
          let filled = library_filled _ _ tail _ _ _ _ _ _ (c.loop-place.invariant tail) _ _ slot word refl refl
          (is_a_library c.as_str-word.result.now c.args.words.now (c.loop-place.place + 1)
          (words_now w.in-LibraryFile.kept.now) (w.is_kept.ensures.other w.if-is_kept.false)) in
          let pushed = w.in_ok-push-in-LibraryFile.ensures.items in
          rw (
            w.files-is,
            w.choices-is,
            pushed,
            map-append (λ name. name.now) c.loop-place.files.items (c.as_str-word.result ∷ []),
          ) filled
      | in-OneOf+else-not-is_listed+in_ok-push-in-OneOf w ↦
          let slot = slot_at c.args.places.now c.loop-place.place _ _ c.loop-place-test.true w.in-OneOf.is in
          let stands = sym w.is_listed.ensures ∙ w.if-not-is_listed.false in
          let filled = choice_filled _ _ tail _ _ _ _ _ _ (c.loop-place.invariant tail) _ _ slot word refl refl stands in
          let pushed = w.in_ok-push-in-OneOf.ensures.items in
          rw (
            w.files-is,
            w.choices-is,
            pushed,
            map-append (λ name. name.now) c.loop-place.choices.items (c.as_str-word.result ∷ []),
          ) filled
      | in-Name+else-not-is_signal_name+in_ok-push-in-Name w ↦
          let slot = slot_at c.args.places.now c.loop-place.place _ _ c.loop-place-test.true w.in-Name.is in
          let named = ap is_signal_name (sym w.as_bytes.ensures.value) ∙ sym w.is_signal_name.ensures
          ∙ w.if-not-is_signal_name.false in
          let filled = name_filled _ _ tail _ _ _ _ _ _ (c.loop-place.invariant tail) _ slot word refl refl named in
          let pushed = w.in_ok-push-in-Name.ensures.items in
          rw (
            w.files-is,
            w.choices-is,
            pushed,
            map-append (λ name. name.now) c.loop-place.choices.items (c.as_str-word.result ∷ []),
          ) filled
    ]

pub returns-clause-filled : goal.returns-clause-filled
returns-clause-filled c = λ tail.
    let all : c.loop-place.place ≡ length c.args.places.now =
    omega (arith, c.loop-place-test.false, c.loop-place.auto.place-end) in
    rw (sym all) (c.loop-place.invariant tail)
