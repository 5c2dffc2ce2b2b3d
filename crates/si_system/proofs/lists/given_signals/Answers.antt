use Rattle.std.proofs.Common.{rules, ◌≡◌, take, ◌∙◌, ap, sym, ℕ}
use Rattle.std.specs.List.{count_by}
use Rattle.std.proofs.lemmas.List.Sums.{length-filter}
use Rattle.si_system.proofs.GivenLemmas.{is_given, given_in_front}
use Rattle.si_system.proofs.lists.given_signals.Goals as goal

pub returns : goal.returns
returns c =
    let counted : c.count-count.result ≡ count_by is_given c.args.signals.now = search rules in
    c.split_at.ensures.front
    ∙ ap (λ (n : ℕ). take n c.args.signals.now) (counted ∙ sym (length-filter is_given c.args.signals.now))
    ∙ given_in_front c.args.signals.now c.requires
