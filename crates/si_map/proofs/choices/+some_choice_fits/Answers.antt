use Rattle.std.proofs.Common.{◌≡◌, ◌≢◌, ℕ, ◌+◌, ◌-◌, ◌<◌, ◌++◌, ◌∙◌, [], ◌∷◌, List, All, length, refl, sym, ap, subst}
use Rattle.std.proofs.Common.{arith, rules, false}
use Rattle.std.proofs.lemmas.List.{length_push}
use Rattle.std.proofs.lemmas.List.Elements.{All-push}
use Rattle.si_base.specs.Bits.{bit}
use Rattle.si_cell.specs.Limits.{max_pins}
use Rattle.si_match.specs.Loops.Choices.{AreOwed, NoneFitsOver}
use Rattle.si_match.specs.Loops.Places.{Agrees, Differs}
use Rattle.si_match.specs.Weight.{size_from}
use Rattle.si_match.proofs.ChoiceLemmas.{all_passed, chosen_again, none_left, one_passed, owed_next, owed_unfit}
use Rattle.si_match.proofs.PlaceLemmas.{agreeing_fits, differing_unfit}
use Rattle.si_map.proofs.choices.+some_choice_fits.Goals as goal

pub returns-then-most-more-clause-none : goal.returns-then-most-more-clause-none
returns-then-most-more-clause-none t c = λ _ rest size up. (
    let n = length c.args.coded.now.graph.signals in
    let count : length c.signals-count.result.now ≡ n = search rules in
    let size_is = c.size-most.ensures.size ∙ ap (λ (k : ℕ). size_from k 0 c.args.missing) count in
    owed_unfit c.args.coded.now c.args.library.now c.args.z n c.args.more rest c.args.chosen.now.items c.args.missing
    size c.requires.missing (omega (arith, size_is, c.if-most-more.true)))

pub returns-then-more-eq0-clause-fits : goal.returns-then-more-eq0-clause-fits
returns-then-more-eq0-clause-fits t c = λ found. (
    let (table, there, agrees) = c.some_table_agrees.ensures.some found in
    let full : length c.args.chosen.now.items ≡ max_pins = omega (arith, c.requires.pins, c.if-more-eq0.true) in
    agreeing_fits c.args.coded.now c.args.library.now c.args.z c.args.chosen.now.items c.tables-tables.result.now
    c.requires.coded c.requires.signal c.requires.signals full c.tables-tables.ensures.tables table there
    (subst (λ (ys : List ℕ). Agrees c.args.coded.now c.args.z ys table) c.as_slice.ensures.value agrees))

pub returns-then-more-eq0-clause-none : goal.returns-then-more-eq0-clause-none
returns-then-more-eq0-clause-none t c = λ none rest size up. (
    let full : length c.args.chosen.now.items ≡ max_pins = omega (arith, c.requires.pins, c.if-more-eq0.true) in
    none_left c.args.coded.now c.args.library.now c.args.z c.args.chosen.now.items rest
    (omega (arith, size, c.if-more-eq0.true))
    (differing_unfit c.args.coded.now c.args.library.now c.args.z c.args.chosen.now.items c.tables-tables.result.now
    c.requires.coded c.requires.signal c.requires.signals full c.tables-tables.ensures.tables
    (subst (λ (ys : List ℕ). All (Differs c.args.coded.now c.args.z ys) c.tables-tables.result.now)
    c.as_slice.ensures.value (c.some_table_agrees.ensures.none none))))

pub loop-y-preserved-then-not-get : goal.loop-y-preserved-then-not-get
loop-y-preserved-then-not-get t c =
    let coded = c.args.coded.now in
    let library = c.args.library.now in
    let z = c.args.z in
    let chosen = c.args.chosen.now.items in
    let n = length coded.graph.signals in
    let count : length c.signals-count.result.now ≡ n = search rules in
    let size_is = c.size-most.ensures.size ∙ ap (λ (k : ℕ). size_from k 0 c.args.missing) count in
    let clear : bit c.args.missing c.loop-y.y ≡ false = sym c.get.ensures ∙ c.if-not-get.true in
    let still = owed_next coded library z chosen c.loop-y.y c.args.missing c.args.missing clear (λ i other. refl)
    c.requires.missing in
    let fewer : c.args.more - 1 < size_from n 0 c.args.missing =
    omega (arith, size_is, c.if-only_missing.true, c.if-more-eq0.false) in
    record {
      none = one_passed coded library z n c.args.first (c.args.more - 1) c.loop-y.y chosen c.loop-y.invariant.none
          (λ xs size up. owed_unfit coded library z n (c.args.more - 1) xs (chosen ++ c.loop-y.y ∷ []) c.args.missing
          size still fewer);
      kept = c.loop-y.invariant.kept;
      within = c.loop-y.invariant.within;
    }

pub some_choice_fits-requires : goal.some_choice_fits-requires
some_choice_fits-requires t c =
    let coded = c.args.coded.now in
    let chosen = c.args.chosen.now.items in
    let count : length c.signals-count.result.now ≡ length coded.graph.signals = search rules in
    let pushed : c.push.new.self.items ≡ chosen ++ c.loop-y.y ∷ [] =
    c.push.ensures.items ∙ ap (λ (ys : List ℕ). ys ++ c.loop-y.y ∷ []) c.loop-y.invariant.kept in
    let longer = ap (λ (ys : List ℕ). length ys) pushed ∙ length_push chosen c.loop-y.y in
    let within : c.loop-y.y < length coded.graph.signals = omega (arith, c.loop-y-test.true, count) in
    let some : c.args.more ≢ 0 = c.if-more-eq0.false in
    let missing = subst (λ (ys : List ℕ). AreOwed coded c.args.library.now c.args.z ys c.set-still.result) (sym pushed)
    (owed_next coded c.args.library.now c.args.z chosen c.loop-y.y c.args.missing c.set-still.result
    c.set-still.ensures.there c.set-still.ensures.others c.requires.missing) in
    let signals = subst (λ (ys : List ℕ). All (λ y. y < length coded.graph.signals) ys) (sym pushed)
    (All-push (λ (y : ℕ). y < length coded.graph.signals) chosen c.loop-y.y c.requires.signals within) in
    let pins : length c.push.new.self.items + (c.args.more - 1) ≡ max_pins =
    omega (arith, longer, c.requires.pins, some) in (
      omega (arith, some, c.decreases),
      (
        c.requires.coded,
        (
          c.requires.signal,
          (
            c.requires.width,
            (c.loop-y.invariant.within, (missing, (pins, signals))),
          ),
        ),
      ),
    )

pub loop-y-preserved : goal.loop-y-preserved
loop-y-preserved t c =
    let coded = c.args.coded.now in
    let library = c.args.library.now in
    let z = c.args.z in
    let chosen = c.args.chosen.now.items in
    let pushed : c.push.new.self.items ≡ chosen ++ c.loop-y.y ∷ [] =
    c.push.ensures.items ∙ ap (λ (ys : List ℕ). ys ++ c.loop-y.y ∷ []) c.loop-y.invariant.kept in
    record {
      none = one_passed coded library z (length coded.graph.signals) c.args.first (c.args.more - 1) c.loop-y.y chosen
          c.loop-y.invariant.none
          (λ xs size up. subst (λ (ys : List ℕ). NoneFitsOver coded library z (ys ++ xs)) pushed
          (c.some_choice_fits.ensures.none c.if-some_choice_fits.false xs size up));
      kept = chosen_again chosen c.some_choice_fits.new.chosen.items c.pop.new.self.items c.loop-y.y
          (c.some_choice_fits.ensures.kept c.if-some_choice_fits.false ∙ pushed) c.pop.ensures.rest;
      within = c.some_choice_fits.ensures.witnesses;
    }

pub returns-clause-none : goal.returns-clause-none
returns-clause-none t c = λ _ rest size up. (
    let n = length c.args.coded.now.graph.signals in
    let count : length c.signals-count.result.now ≡ n = search rules in
    all_passed c.args.coded.now c.args.library.now c.args.z n c.args.first (c.args.more - 1) c.loop-y.y
    c.args.chosen.now.items (omega (arith, c.loop-y-test.false, count)) c.loop-y.invariant.none rest
    (omega (arith, size, c.if-more-eq0.false)) up)
