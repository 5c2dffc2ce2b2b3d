use Rattle.std.proofs.Common.{◌≡◌, ◌≢◌, ◌↔◌, ℕ, ◌+◌, ◌-◌, ◌<◌, ◌++◌, ◌∙◌, [], ◌∷◌, List, All, Contains, length}
use Rattle.std.proofs.Common.{sym, ap, ap₂, subst, arith, rules, true}
use Rattle.std.proofs.lemmas.Bool.{true≢false}
use Rattle.std.proofs.lemmas.List.{length_push}
use Rattle.std.proofs.lemmas.List.Elements.{All-push}
use Rattle.si_base.specs.Bits.{bit}
use Rattle.si_cell.specs.Limits.{max_pins}
use Rattle.si_match.specs.Loops.Apart.{NoneFitsWith}
use Rattle.si_match.specs.Loops.Choices.{AreOwed}
use Rattle.si_match.proofs.ApartLemmas.{all_read_next, all_tried, any_order, none_by_now}
use Rattle.si_match.proofs.ChoiceLemmas.{chosen_again, owed_next}
use Rattle.si_map.proofs.choices.+some_reading_fits.Goals as goal

-- ---- no signal may be chosen any more
pub returns-then-more-eq0-clause-none : goal.returns-then-more-eq0-clause-none
returns-then-more-eq0-clause-none t c = λ unfit.
    any_order c.args.coded.now c.args.library.now c.args.z c.args.more c.args.chosen.now.items
    (c.some_choice_fits.ensures.none unfit)

-- ---- nothing has to be told apart
pub returns-in_default-clause-none : goal.returns-in_default-clause-none
returns-in_default-clause-none t c = λ unfit.
    any_order c.args.coded.now c.args.library.now c.args.z c.args.more c.args.chosen.now.items
    (c.some_choice_fits-in_default.ensures.none unfit)

-- ---- one signal after another
pub loop-y-preserved-then-not-get : goal.loop-y-preserved-then-not-get
loop-y-preserved-then-not-get t c = record {
  none = none_by_now c.args.coded.now c.args.library.now c.args.z c.in-Some.differing c.args.chosen.now.items
      (c.args.more - 1) c.loop-y.y c.loop-y.invariant.none
      (λ set. absurd (true≢false (sym set ∙ sym c.get.ensures ∙ c.if-not-get.true)));
  kept = c.loop-y.invariant.kept;
  within = c.loop-y.invariant.within;
}

pub some_reading_fits-requires : goal.some_reading_fits-requires
some_reading_fits-requires t c =
    let coded = c.args.coded.now in
    let library = c.args.library.now in
    let z = c.args.z in
    let chosen = c.args.chosen.now.items in
    let y = c.loop-y.y in
    let count : length c.signals-y-end.result.now ≡ length coded.graph.signals = search rules in
    let pushed : c.push.new.self.items ≡ chosen ++ y ∷ [] = c.push.ensures.items
    ∙ ap₂ (λ (ys : List ℕ) (x : ℕ). ys ++ x ∷ []) c.loop-y.invariant.kept c.signal.view_is in
    let longer = ap (λ (ys : List ℕ). length ys) pushed ∙ length_push chosen y in
    let within : y < length coded.graph.signals = omega (arith, c.loop-y-test.true, count) in
    let some : c.args.more ≢ 0 = c.if-more-eq0.false in
    let Small : ℕ → Type 0 = λ x. x < length coded.graph.signals in
    let missing = subst (λ (ys : List ℕ). AreOwed coded library z ys c.set-still.result) (sym pushed)
    (owed_next coded library z chosen y c.args.missing c.set-still.result c.set-still.ensures.there
    c.set-still.ensures.others c.requires.missing) in
    let signals = subst (All Small) (sym pushed) (All-push Small chosen y c.requires.signals within) in
    let read = subst (λ (ys : List ℕ). (x : ℕ) → Contains (z ∷ ys) x ↔ (bit c.set-also.result x ≡ true)) (sym pushed)
    (all_read_next z y c.args.read c.set-also.result chosen c.set-also.ensures c.requires.read) in
    let pins : length c.push.new.self.items + (c.args.more - 1) ≡ max_pins =
    omega (arith, longer, c.requires.pins, some) in
    let less : c.args.more - 1 < t = omega (arith, some, c.decreases) in
    let within_states = c.loop-y.invariant.within in (
      less,
      (c.requires.coded, (c.requires.signal, (c.requires.width, (within_states, (missing, (pins, (signals, read))))))),
    )

pub loop-y-preserved : goal.loop-y-preserved
loop-y-preserved t c =
    let coded = c.args.coded.now in
    let library = c.args.library.now in
    let z = c.args.z in
    let chosen = c.args.chosen.now.items in
    let more = c.args.more - 1 in
    let pushed : c.push.new.self.items ≡ chosen ++ c.loop-y.y ∷ [] = c.push.ensures.items
    ∙ ap₂ (λ (ys : List ℕ) (x : ℕ). ys ++ x ∷ []) c.loop-y.invariant.kept c.signal.view_is in
    let unfit = c.if-some_reading_fits.false in
    record {
      none = none_by_now coded library z c.in-Some.differing chosen more c.loop-y.y c.loop-y.invariant.none
          (λ _. subst (λ (ys : List ℕ). NoneFitsWith coded library z ys more) pushed
          (c.some_reading_fits.ensures.none unfit));
      kept = chosen_again chosen c.some_reading_fits.new.chosen.items c.pop.new.self.items c.loop-y.y
          (c.some_reading_fits.ensures.kept unfit ∙ pushed) c.pop.ensures.rest;
      within = c.some_reading_fits.ensures.witnesses;
    }

pub returns-clause-none : goal.returns-clause-none
returns-clause-none t c = λ _.
    (let coded = c.args.coded.now in
    let library = c.args.library.now in
    let z = c.args.z in
    let chosen = c.args.chosen.now.items in
    let count : length c.signals-y-end.result.now ≡ length coded.graph.signals = search rules in
    let all : c.args.more - 1 + 1 ≡ c.args.more = omega (arith, c.if-more-eq0.false) in
    subst (NoneFitsWith coded library z chosen) all
    (all_tried coded library z c.args.read c.in-Some.differing chosen c.in-Some.ensures.apart (λ y there. (c.requires.read y).0 there)
    (c.args.more - 1) c.loop-y.y (omega (arith, c.loop-y-test.false, count)) c.loop-y.invariant.none))

pub told_apart-requires-clause-read : goal.told_apart-requires-clause-read
told_apart-requires-clause-read t c =
    subst (λ (ys : List ℕ). (x : ℕ) → Contains (c.args.z ∷ ys) x ↔ (bit c.args.read x ≡ true))
    (sym c.as_slice.ensures.value) c.requires.read
