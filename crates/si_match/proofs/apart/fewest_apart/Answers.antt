use Rattle.std.proofs.Common.{◌≤◌, ◌+◌, ℕ, All, Contains, arith, get_or, length, subst, take, true, false}
use Rattle.std.proofs.lemmas.List.{take_all}
use Rattle.std.proofs.lemmas.List.Elements.{All-contains_itself, All-more}
use Rattle.si_match.specs.Loops.Apart.{AreApart, AreCodesAmong, DifferAtRead, IsUnreadFromOne}
use Rattle.si_match.proofs.ApartLemmas.{codes_alike, codes_apart, if_none_so, if_none_then, of_one}
use Rattle.si_match.proofs.apart.fewest_apart.Goals as goal

pub loop-one-init : goal.loop-one-init
loop-one-init c = record { apart = tt; none = λ k d below. absurd (omega (arith, below)) }

pub loop-one-preserved : goal.loop-one-preserved
loop-one-preserved c =
    let coded = c.args.coded.now in
    let z = c.args.z in
    let read = c.args.read in
    let states = c.args.states.now in
    let on = c.as_slice-one-items.result.now in
    let off = c.as_slice-off.result.now in
    let k = c.loop-one.one-index in
    let one = get_or on k 0 in
    let from_one = c.fewest_from-fewest.ensures in
    let result = c.fewest_from-fewest.result in
    let before = c.loop-one.fewest in
    let on_are : AreCodesAmong coded z true states on =
    rw c.as_slice-one-items.ensures.value c.codes_among-codes.ensures.on in
    let off_are : AreCodesAmong coded z false states off =
    rw c.as_slice-off.ensures.value c.codes_among-codes.ensures.off in
    let there : Contains on one = All-contains_itself on k 0 c.loop-one-test.true in
    let Told : ℕ → Type 0 = λ a. All (DifferAtRead read a) off in
    record {
      apart = of_one (AreApart coded z read) (IsUnreadFromOne read one off) result before from_one.some
          c.loop-one.invariant.apart
          (λ d unread. codes_apart coded z read states on off on_are off_are c.requires.states one d there unread);
      none = if_none_then (All Told (take k on)) (Told one) (All Told (take (k + 1) on)) result before
          from_one.before from_one.none c.loop-one.invariant.none
          (λ p q. All-more Told on k 0 c.loop-one-test.true p q);
    }

pub returns-clause-none : goal.returns-clause-none
returns-clause-none c =
    let coded = c.args.coded.now in
    let z = c.args.z in
    let states = c.args.states.now in
    let on = c.as_slice-one-items.result.now in
    let off = c.as_slice-off.result.now in
    let k = c.loop-one.one-index in
    let past : length on ≤ k = omega (arith, c.loop-one-test.false) in
    let on_are : AreCodesAmong coded z true states on =
    rw c.as_slice-one-items.ensures.value c.codes_among-codes.ensures.on in
    let off_are : AreCodesAmong coded z false states off =
    rw c.as_slice-off.ensures.value c.codes_among-codes.ensures.off in
    let Told : ℕ → Type 0 = λ a. All (DifferAtRead c.args.read a) off in
    if_none_so (All Told (take k on)) _ c.loop-one.fewest c.loop-one.invariant.none
    (λ all. codes_alike coded z c.args.read states on off on_are off_are (subst (All Told) (take_all k on past) all))
