use Rattle.std.proofs.Common.{◌≡◌, ◌<◌, ◌+◌, ◌⊎◌, ℕ, Contains, List, arith, subst}
use Rattle.si_bounds.specs.Loops.Points.{IsBlind}
use Rattle.si_bounds.proofs.NeedLists.{place_read, within_too}
use Rattle.si_bounds.proofs.needs.reading_all.Goals as goal

pub loop-k-preserved : goal.loop-k-preserved
loop-k-preserved c =
    let tables = c.args.tables.now in
    let read = c.loop-k.read.items in
    let now = c.in_ok-read-2.read.items in
    record {
      within = within_too tables read now c.loop-k.k c.loop-k.invariant.within c.loop-k.invariant.others
          (subst (λ (xs : List ℕ). (t : ℕ) → Contains now t → Contains xs t) c.deref.ensures.value
          c.in_ok-read-2.ensures.within);
      others = place_read tables read now c.loop-k.k c.loop-k.invariant.within c.loop-k.invariant.others
          (subst (λ (xs : List ℕ). (t : ℕ) → Contains xs t → Contains now t ⊎ IsBlind t (c.loop-k.k + 1))
          c.deref.ensures.value c.in_ok-read-2.ensures.others);
    }

pub returns-clause-others : goal.returns-clause-others
returns-clause-others c =
    let all : c.loop-k.k ≡ c.args.places = omega arith in
    subst (λ (n : ℕ). (t : ℕ) → Contains c.args.tables.now t
    → Contains c.loop-k.read.items t ⊎ ((j : ℕ) × (j < n) × IsBlind t (j + 1))) all c.loop-k.invariant.others
