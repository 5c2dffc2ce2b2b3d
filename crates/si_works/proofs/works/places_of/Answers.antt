use Rattle.std.proofs.Common.{ℕ, suc, ◌+◌, ◌≡◌, List, ◌∷◌, [], ◌++◌, ◌∙◌, ap, ap₂, take, arith, sym, subst, ◌<◌, length, get_or}
use Rattle.std.specs.Borrow.{Bor}
use Rattle.std.proofs.lemmas.List.{length-map}
use Rattle.si_sg.specs.CanonicalText.{state_at}
use Rattle.si_words.specs.Loops.Reads.{words_now}
use Rattle.si_works.specs.Loops.Parts.{part_now, parts_now}
use Rattle.si_works.specs.Works as meaning
use Rattle.si_works.proofs.EachLemmas.{taken_all}
use Rattle.si_works.proofs.ShownLemmas.{file_is, place_at, places_many, places_more, states_are}
use Rattle.si_works.proofs.works.places_of.Goals as goal

abbrev no_file : Bor (List ℕ)
no_file = record { ref_ptr = (0, 0); now = [] }

pub bounds-files-i : goal.bounds-files-i
bounds-files-i c =
    let place = place_at (parts_now c.args.parts.now) c.args.group.now c.args.at.now c.loop-k.k c.requires.placed
    c.loop-k-test.true in
    omega (arith, place.0, c.requires.files, length-map c.args.parts.now part_now)

pub bounds-parts-i : goal.bounds-parts-i
bounds-parts-i c =
    let place = place_at (parts_now c.args.parts.now) c.args.group.now c.args.at.now c.loop-k.k c.requires.placed
    c.loop-k-test.true in
    omega (arith, place.0, length-map c.args.parts.now part_now)

pub bounds-at-k : goal.bounds-at-k
bounds-at-k c = (place_at (parts_now c.args.parts.now) c.args.group.now c.args.at.now c.loop-k.k c.requires.placed
    c.loop-k-test.true).1

pub name_at-requires : goal.name_at-requires
name_at-requires c =
    let i = get_or c.args.group.now c.loop-k.k 0 in
    let parts = c.args.parts.now in
    let place = place_at (parts_now parts) c.args.group.now c.args.at.now c.loop-k.k c.requires.placed
    c.loop-k-test.true in
    let below : i < length parts = omega (arith, place.0, length-map parts part_now) in
    let names = states_are parts i c.index-parts-i.result below c.index-parts-i.is in
    subst (λ (ns : List (List ℕ)). get_or c.args.at.now c.loop-k.k 0 < length ns)
    (names ∙ ap (λ p. p.given.states) c.index-parts-i.is) place.2

pub loop-k-preserved : goal.loop-k-preserved
loop-k-preserved c =
    let k = c.loop-k.k in
    let files = c.args.files.now in
    let parts = c.args.parts.now in
    let group = c.args.group.now in
    let at = c.args.at.now in
    let i = get_or group k 0 in
    let place = place_at (parts_now parts) group at k c.requires.placed c.loop-k-test.true in
    let below : i < length parts = omega (arith, place.0, length-map parts part_now) in
    let file = c.as_bytes.ensures.value ∙ file_is files i no_file
    (omega (arith, below, c.requires.files)) in
    let names = states_are parts i c.index-parts-i.result below c.index-parts-i.is in
    let name = c.name_at.ensures
    ∙ ap (λ (ns : List (List ℕ)). state_at ns (get_or at k 0)) (ap (λ p. p.given.states) (sym c.index-parts-i.is) ∙ sym names) in
    let next : suc k ≡ k + 1 = omega arith in
    c.in_ok-push-2.ensures.added
    ∙ ap (λ (ns : List (List ℕ)). ns ++ c.name_at.result.now ∷ []) (c.in_ok-push.ensures.added
    ∙ ap₂ (λ (ns : List (List ℕ)) (w : List ℕ). ns ++ w ∷ []) c.loop-k.invariant file)
    ∙ ap (λ (w : List ℕ). (meaning.places_of (words_now files) (parts_now parts) (take k group) (take k at)
    ++ meaning.file_of (words_now files) i ∷ []) ++ w ∷ []) name
    ∙ sym (places_more (words_now files) (parts_now parts) group at k c.loop-k-test.true place.1)
    ∙ ap (λ (n : ℕ). meaning.places_of (words_now files) (parts_now parts) (take n group) (take n at)) next

pub returns : goal.returns
returns c =
    let many = places_many (parts_now c.args.parts.now) c.args.group.now c.args.at.now c.requires.placed in
    c.loop-k.invariant
    ∙ ap₂ (λ (g a : List ℕ). meaning.places_of (words_now c.args.files.now) (parts_now c.args.parts.now) g a)
    (taken_all c.args.group.now c.loop-k.k (omega (arith, c.loop-k-test.false, c.loop-k.auto.k-end)))
    (taken_all c.args.at.now c.loop-k.k (omega (arith, many, c.loop-k-test.false, c.loop-k.auto.k-end)))
