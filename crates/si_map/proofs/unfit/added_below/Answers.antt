use Rattle.std.proofs.Common.{◌≡◌, ◌∙◌, ℕ, sym, ap, arith, rules, length}
use Rattle.std.proofs.lemmas.Option.{slice_get_within}
use Rattle.si_match.specs.Weight.{size_from}
use Rattle.si_match.proofs.UnfitLemmas.{triggers_le, unfit_adds}
use Rattle.si_map.proofs.unfit.added_below.Goals as goal

pub returns-then-size-bar-clause-none : goal.returns-then-size-bar-clause-none
returns-then-size-bar-clause-none c =
    let coded = c.args.coded.now in
    let adds = unfit_adds coded c.args.library.now c.args.z (sym c.in-Some.ensures.unfit) in
    let at_least = triggers_le coded c.requires.coded c.args.z c.in-Some.triggers c.in-Some.ensures.some in
    let count : length c.signals-count.result.now ≡ length coded.graph.signals = search rules in
    let of_triggers = c.size.ensures.size ∙ ap (λ (n : ℕ). size_from n 0 c.in-Some.triggers) count in
    omega (arith, adds, at_least, of_triggers, c.if-size-bar.true)

pub support_from-requires-clause-signal : goal.support_from-requires-clause-signal
support_from-requires-clause-signal c =
    let (x, at, driven) = c.requires.driven in
    slice_get_within c.args.coded.now.graph.signals c.args.z x at
