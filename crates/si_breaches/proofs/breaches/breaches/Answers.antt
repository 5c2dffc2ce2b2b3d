use Rattle.si_breaches.proofs.breaches.breaches.Goals as goal

pub returns : goal.returns
returns c = λ walk ways.
    record {
      splits = c.in_ok-splits.ensures;
      clashes = c.in_ok-clashes.ensures walk ways;
      forks = c.in_ok-forks.ensures;
      losses = c.in_ok-losses.ensures;
    }
