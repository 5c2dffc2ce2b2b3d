use Rattle.std.proofs.Common.{◌≡◌, ℕ, ◌<◌, ◌+◌, ◌++◌, ◌-◌, ◌∙◌, ap, arith, false, length, rules, refl}
use Rattle.std.proofs.Common.{subst, sym, List, [], ◌∷◌}
use Rattle.std.proofs.lemmas.List.{length_push}
use Rattle.std.proofs.lemmas.List.Elements.{All-push}
use Rattle.si_base.specs.Bits.{bit}
use Rattle.si_base.specs.declared.ids.Literal.{Literal}
use Rattle.si_match.specs.Weight.{size_from}
use Rattle.si_match.proofs.TriggerLemmas.{missing_next, missing_now}
use Rattle.si_match.proofs.SearchLemmas.{within_width, refuted_now, starts, found_now, none_now, done_now, popped}
use Rattle.si_match.specs.Loops.Search.{literal_at}
use Rattle.si_match.proofs.SearchLemmas.{counted, all_counted, place_small}
use Rattle.si_match.proofs.search.+complete.Goals as goal

pub returns-then-most-more-clause-none : goal.returns-then-most-more-clause-none
returns-then-most-more-clause-none t c = λ _. (
    let count : length c.signals-count.result.now ≡ length c.args.coded.now.graph.signals = search rules in
    let Size : ℕ → Type 0 = λ n. c.size-most.result ≡ size_from n 0 c.args.missing in
    missing_now c.args.allowed c.args.coded.now c.args.z c.args.cell.now c.args.literals.now.items c.args.more c.args.missing
    c.size-most.result c.requires.missing c.requires.pins c.requires.signals (subst Size count c.size-most.ensures.size)
    c.if-most-more.true)

pub returns-then-is_refuted-clause-none : goal.returns-then-is_refuted-clause-none
returns-then-is_refuted-clause-none t c = λ _. (
    refuted_now c.args.allowed c.args.coded.now c.args.z c.args.cell.now c.args.literals.now.items c.as_slice.result.now c.args.more
    c.as_slice.ensures.value
    c.requires.pins (c.is_refuted.ensures c.if-is_refuted.true))

pub is_refuted-requires-clause-signals : goal.is_refuted-requires-clause-signals
is_refuted-requires-clause-signals t c = within_width (length c.args.coded.now.graph.signals)
    c.args.literals.now.items c.as_slice.result.now c.as_slice.ensures.value c.requires.width c.requires.signals

pub fits-requires-clause-signals : goal.fits-requires-clause-signals
fits-requires-clause-signals t c = within_width (length c.args.coded.now.graph.signals) c.args.literals.now.items
    c.as_slice-then-more-eq0.result.now c.as_slice-then-more-eq0.ensures.value c.requires.width c.requires.signals

pub loop-place-init : goal.loop-place-init
loop-place-init t c = record {
  told = starts c.args.allowed c.args.coded.now c.args.z c.args.cell.now c.args.literals.now.items c.args.more c.if-more-eq0.false;
  kept = search rules;
  within = c.requires.witnesses;
}

pub loop-place-preserved-then-not-get : goal.loop-place-preserved-then-not-get
loop-place-preserved-then-not-get t c =
    let coded = c.args.coded.now in
    let literals = c.args.literals.now.items in
    let l : Literal = literal_at c.args.allowed c.loop-place.place in
    let count : length c.signals-count.result.now ≡ length coded.graph.signals = search rules in
    let within = counted c.args.allowed (length c.signals-count.result.now) (length coded.graph.signals)
    c.literal_count-places.result c.loop-place.place count c.literal_count-places.ensures c.loop-place-test.true in
    let Size : ℕ → Type 0 = λ n. c.size-most.result ≡ size_from n 0 c.args.missing in
    let clear : bit c.args.missing l.sig ≡ false =
    ap (bit c.args.missing) (sym c.signal_at-sig.ensures.signal) ∙ sym c.get.ensures ∙ c.if-not-get.true in
    let still = missing_next coded c.args.z c.args.cell.now literals l c.args.missing c.args.missing clear
    (λ i other. refl) c.requires.missing in
    let fewer : c.args.more - 1 < c.size-most.result = omega (arith, c.if-only_missing.true, c.if-more-eq0.false) in
    let pins : length (literals ++ l ∷ []) + (c.args.more - 1) ≡ length c.args.cell.now.pins =
    rw length_push (omega (arith, c.requires.pins, c.if-more-eq0.false)) in
    let place = place_small c.args.allowed (length coded.graph.signals) c.loop-place.place within in
    let signals = All-push (λ (m : Literal). m.sig < length coded.graph.signals) literals l c.requires.signals place in
    let none = missing_now c.args.allowed coded c.args.z c.args.cell.now (literals ++ l ∷ []) (c.args.more - 1)
    c.args.missing c.size-most.result still pins signals (subst Size count c.size-most.ensures.size) fewer in
    record {
      told = none_now c.args.allowed coded c.args.z c.args.cell.now literals (c.args.more - 1) c.loop-place.place
          l (literals ++ l ∷ []) within refl refl _ c.loop-place.invariant.told none;
      kept = c.loop-place.invariant.kept;
      within = c.loop-place.invariant.within;
    }

pub returns-then-complete-clause-found : goal.returns-then-complete-clause-found
returns-then-complete-clause-found t c =
    let pushed : c.push.new.self.items ≡ c.args.literals.now.items ++ c.literal_at.result ∷ [] =
    c.push.ensures.items ∙ ap (λ (ls : List Literal). ls ++ c.literal_at.result ∷ []) c.loop-place.invariant.kept in
    let count : length c.signals-count.result.now ≡ length c.args.coded.now.graph.signals = search rules in
    let within = counted c.args.allowed (length c.signals-count.result.now) (length c.args.coded.now.graph.signals)
    c.literal_count-places.result c.loop-place.place count c.literal_count-places.ensures c.loop-place-test.true in
    λ _. found_now c.args.allowed c.args.coded.now c.args.z c.args.cell.now c.args.literals.now.items
    (c.args.more - 1) c.loop-place.place c.literal_at.result c.push.new.self.items within
    c.literal_at.ensures.literal pushed _ _ c.loop-place.invariant.told
    (c.complete.ensures.found c.if-complete.true)

pub loop-place-preserved : goal.loop-place-preserved
loop-place-preserved t c =
    let pushed : c.push.new.self.items ≡ c.args.literals.now.items ++ c.literal_at.result ∷ [] =
    c.push.ensures.items ∙ ap (λ (ls : List Literal). ls ++ c.literal_at.result ∷ []) c.loop-place.invariant.kept in
    let count : length c.signals-count.result.now ≡ length c.args.coded.now.graph.signals = search rules in
    let within = counted c.args.allowed (length c.signals-count.result.now) (length c.args.coded.now.graph.signals)
    c.literal_count-places.result c.loop-place.place count c.literal_count-places.ensures c.loop-place-test.true in
    record {
      told = none_now c.args.allowed c.args.coded.now c.args.z c.args.cell.now c.args.literals.now.items
          (c.args.more - 1) c.loop-place.place c.literal_at.result c.push.new.self.items within
          c.literal_at.ensures.literal pushed
          _ c.loop-place.invariant.told (c.complete.ensures.none c.if-complete.false);
      kept = popped c.args.literals.now.items c.complete.new.literals.items c.pop.new.self.items c.literal_at.result
          (c.complete.ensures.kept c.if-complete.false ∙ pushed) c.pop.ensures.rest;
      within = c.complete.ensures.witnesses;
    }

pub returns-clause-none : goal.returns-clause-none
returns-clause-none t c =
    let count : length c.signals-count.result.now ≡ length c.args.coded.now.graph.signals = search rules in
    let past = all_counted c.args.allowed (length c.signals-count.result.now) (length c.args.coded.now.graph.signals)
    c.literal_count-places.result c.loop-place.place count c.literal_count-places.ensures c.loop-place-test.false in
    λ _. done_now c.args.allowed c.args.coded.now c.args.z c.args.cell.now c.args.literals.now.items
    (c.args.more - 1) c.loop-place.place _ past c.loop-place.invariant.told
