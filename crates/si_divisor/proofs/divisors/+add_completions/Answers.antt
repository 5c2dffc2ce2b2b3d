use Rattle.std.proofs.Common.{◌≡◌, ◌≢◌, ◌++◌, ◌+◌, ◌-◌, ◌<◌, ◌∙◌, take, sym, ap, subst, arith, List, [], ◌∷◌, rules}
use Rattle.std.proofs.Common.{refl, length}
use Rattle.std.proofs.lemmas.Bool.{true≢false}
use Rattle.std.proofs.lemmas.List.{length_push}
use Rattle.si_base.specs.declared.ids.Literal.{Literal}
use Rattle.si_match.proofs.SearchLemmas.{popped}
use Rattle.si_divisor.specs.Divisors.{are_apart, max_divisors}
use Rattle.si_divisor.specs.Loops.Completions.{completions}
use Rattle.si_divisor.proofs.CompletionLemmas.{AreOther, apart_on, stays_full, starts_with, stays_few, puts_it}
use Rattle.si_divisor.proofs.CompletionLemmas.{pins_done, pin_put, pin_passed}
use Rattle.si_divisor.proofs.divisors.+add_completions.Goals as goal
use Rattle.si_divisor.proofs.divisors.+add_completions.Goals.{then-is_apart+in_ok-add_completions, else-is_apart}

pub returns-then-len-eq-MAX_DIVISORS-clause-found : goal.returns-then-len-eq-MAX_DIVISORS-clause-found
returns-then-len-eq-MAX_DIVISORS-clause-found t c =
    stays_full max_divisors c.args.found.now.items _ (search rules)

pub returns-then-more-eq0-clause-found : goal.returns-then-more-eq0-clause-found
returns-then-more-eq0-clause-found t c =
    let copied : c.copy_of-literals.result.items ≡ c.args.literals.now.items =
    c.copy_of-literals.ensures ∙ c.as_slice.ensures.value in
    let room : length c.args.found.now.items ≡ max_divisors → ⊥ = λ full. (let none = c.if-len-eq-MAX_DIVISORS.false in
    omega (arith, full, c.len.ensures, none)) in
    let put = puts_it c.args.pins.now c.args.cell c.args.literals.now.items c.args.found.now.items
    c.copy_of-literals.result.items c.push.new.self.items copied c.requires.apart c.requires.few room
    c.in_ok-push.ensures.items in
    subst (λ n. c.push.new.self.items ≡ take max_divisors (c.args.found.now.items
    ++ completions c.args.pins.now c.args.cell c.args.literals.now.items n)) (sym c.if-more-eq0.true) put

pub loop-pin-init : goal.loop-pin-init
loop-pin-init t c = record {
  found = starts_with max_divisors c.args.found.now.items c.requires.few;
  few = c.requires.few;
  kept = refl;
}

pub add_completions-requires : goal.add_completions-requires
add_completions-requires t c =
    let others : AreOther c.pin-item.result.sig c.args.literals.now.items =
    subst (λ (ls : List Literal). AreOther c.pin-item.result.sig ls)
    (c.as_slice-in-loop-pin.ensures.value ∙ c.loop-pin.invariant.kept) (c.is_apart.ensures.0 c.if-is_apart.true) in
    let pushed : c.push-then-is_apart.new.self.items ≡ c.args.literals.now.items ++ c.pin-item.result ∷ [] =
    c.push-then-is_apart.ensures.items
    ∙ ap (λ (ls : List Literal). ls ++ c.pin-item.result ∷ []) c.loop-pin.invariant.kept in
    let more : length c.push-then-is_apart.new.self.items ≡ length c.args.literals.now.items + 1 =
    ap length pushed ∙ length_push c.args.literals.now.items c.pin-item.result in
    let some : c.args.more ≢ 0 = c.if-more-eq0.false in (
      omega (arith, some, c.decreases),
      (
        omega (arith, more, some, c.requires.room),
        (
          ap are_apart pushed ∙ apart_on c.args.literals.now.items c.pin-item.result c.requires.apart others,
          c.loop-pin.invariant.few,
        ),
      ),
    )

pub loop-pin-preserved : goal.loop-pin-preserved
loop-pin-preserved t c =
    let inside : c.loop-pin.pin-index < length c.args.pins.now = search rules in
    let pushed_is : (pushed : List Literal) → pushed ≡ c.loop-pin.literals.items ++ c.pin-item.result ∷ []
    → pushed ≡ c.args.literals.now.items ++ c.pin-item.result ∷ [] = λ pushed e. e
    ∙ ap (λ (ls : List Literal). ls ++ c.pin-item.result ∷ []) c.loop-pin.invariant.kept in
    elim c.if-is_apart.branch [
      | then-is_apart+in_ok-add_completions w ↦ (
          let pushed = pushed_is w.push-then-is_apart.new.self.items w.push-then-is_apart.ensures.items in
          let here = pin_put c.args.pins.now c.args.cell c.args.literals.now.items c.args.found.now.items
          (c.args.more - 1) c.loop-pin.pin-index c.pin-item.result inside c.pin-item.is c.loop-pin.found.items
          c.loop-pin.invariant.found w.push-then-is_apart.new.self.items w.add_completions.new.found.items pushed
          w.in_ok-add_completions.ensures.found in
          let found : c.if-is_apart.found.items ≡ w.add_completions.new.found.items = search rules in
          record {
            found = found ∙ here;
            few = stays_few max_divisors c.if-is_apart.found.items _ (found ∙ here);
            kept = ap (λ v. v.items) w.literals-is
                ∙ popped c.args.literals.now.items w.add_completions.new.literals.items w.pop.new.self.items
                c.pin-item.result (w.in_ok-add_completions.ensures.kept ∙ pushed) w.pop.ensures.rest;
          })
      | else-is_apart w ↦ (
          let clash : AreOther c.pin-item.result.sig c.args.literals.now.items → ⊥ = λ all. (
          let held = subst (λ (ls : List Literal). AreOther c.pin-item.result.sig ls)
          (sym (c.as_slice-in-loop-pin.ensures.value ∙ c.loop-pin.invariant.kept)) all in
          true≢false (sym (c.is_apart.ensures.1 held) ∙ w.if-is_apart.false)) in
          let here = pin_passed c.args.pins.now c.args.cell c.args.literals.now.items c.args.found.now.items
          (c.args.more - 1) c.loop-pin.pin-index c.pin-item.result inside c.pin-item.is c.loop-pin.found.items
          c.loop-pin.invariant.found clash in
          let found : c.if-is_apart.found.items ≡ c.loop-pin.found.items = search rules in
          record {
            found = found ∙ here;
            few = stays_few max_divisors c.if-is_apart.found.items _ (found ∙ here);
            kept = ap (λ v. v.items) w.literals-is ∙ c.loop-pin.invariant.kept;
          })
    ]

pub returns-clause-found : goal.returns-clause-found
returns-clause-found t c =
    pins_done c.args.pins.now c.args.cell c.args.literals.now.items c.args.found.now.items c.args.more
    c.loop-pin.pin-index c.loop-pin.found.items c.if-more-eq0.false (search rules) c.loop-pin.invariant.found
