use Rattle.si_resolve.proofs.CountingLemmas.{copies_of_none, counts_start}
use Rattle.si_resolve.proofs.counts.Counts.new.Goals as goal

pub returns : goal.returns
returns c = λ d chains_are list size. counts_start d list _ c.args.blocks chains_are
    (copies_of_none c.in_ok-own.ensures.items_if_clones_equal (λ m other. absurd other)) size
