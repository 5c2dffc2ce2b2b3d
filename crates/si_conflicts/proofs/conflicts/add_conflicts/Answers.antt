use Rattle.std.proofs.Common.{◌≡◌, ℕ, ◌+◌, arith, ap, inl, inr, List, [], ◌∷◌, ◌++◌, length}
use Rattle.std.proofs.lemmas.List.{length-map, map-append, length_push}
use Rattle.si_base.specs.Proper.{IsConflict}
use Rattle.si_conflicts.specs.declared.conflicts.Pair.{Pair}
use Rattle.si_conflicts.specs.Conflicts.{pairs_of}
use Rattle.si_conflicts.specs.Loops.Links.{IsFirstClash}
use Rattle.si_conflicts.specs.Loops.Search.{AreBelow}
use Rattle.si_conflicts.proofs.SearchLemmas.{at_first, walk_starts, walk_goes_on, below_take, below_row, first_full}
use Rattle.si_conflicts.proofs.conflicts.add_conflicts.Goals as goal

abbrev pair_of : Pair → ℕ × ℕ
pair_of x = (x.p, x.q)

pushed : (xs : List Pair) (p q : ℕ)
    → pairs_of (xs ++ record { p = p; q = q } ∷ []) ≡ pairs_of xs ++ (p, q) ∷ []
pushed xs p q = map-append pair_of xs (record { p = p; q = q } ∷ [])

same_length : (xs : List Pair) → length (pairs_of xs) ≡ length xs
same_length xs = length-map xs pair_of

pub loop-at-init : goal.loop-at-init
loop-at-init c =
    let d = c.args.graph.now in
    let p = c.args.p in
    let o = c.link-at.result in
    let first : IsFirstClash d p (p + 1) o = rw c.link-at.ensures (c.requires.clashes.links p c.requires.state) in
    record {
      below = walk_starts d p (pairs_of c.args.pairs.now.items) o c.requires.state first c.requires.before;
      at = at_first d p (p + 1) o first;
      few = c.requires.few;
    }

pub returns-then-len-limit : goal.returns-then-len-limit
returns-then-len-limit c =
    let d = c.args.graph.now in
    let p = c.args.p in
    let q = c.in-Some.q in
    let xs = c.loop-at.pairs.items in
    let here : AreBelow d p q (pairs_of xs) = rw c.in-Some.is at c.loop-at.invariant.below in
    let is : IsConflict d (p, q) = rw c.in-Some.is at c.loop-at.invariant.at in
    let new : c.push.new.self.items ≡ xs ++ record { p = p; q = q } ∷ [] = c.in_ok-push.ensures.items in
    let size : length (pairs_of xs ++ (p, q) ∷ []) ≡ c.args.limit =
    omega (
      arith,
      length_push (pairs_of xs) (p, q),
      same_length xs,
      c.loop-at.invariant.few,
      c.if-len-limit.true,
      c.len.ensures,
      ap length new,
      length_push xs (record { p = p; q = q }),
    ) in
    let full = first_full d p (q + 1) c.args.limit (pairs_of xs ++ (p, q) ∷ []) size
    (below_take d p q (pairs_of xs) is here) in
    record { after = rw (new, pushed xs p q) (inr (full, size)) }

pub loop-at-preserved : goal.loop-at-preserved
loop-at-preserved c =
    let d = c.args.graph.now in
    let p = c.args.p in
    let q = c.in-Some.q in
    let o = c.clash_after-at.result in
    let xs = c.loop-at.pairs.items in
    let here : AreBelow d p q (pairs_of xs) = rw c.in-Some.is at c.loop-at.invariant.below in
    let is : IsConflict d (p, q) = rw c.in-Some.is at c.loop-at.invariant.at in
    record {
      below = rw (c.in_ok-push.ensures.items, pushed xs p q)
          (walk_goes_on d p q (pairs_of xs) o is c.clash_after-at.ensures here);
      at = at_first d p (q + 1) o c.clash_after-at.ensures;
      few = omega (arith, c.if-len-limit.false, c.len.ensures);
    }

pub returns : goal.returns
returns c =
    let d = c.args.graph.now in
    let xs = c.loop-at.pairs.items in
    let here : AreBelow d c.args.p d.graph.states (pairs_of xs) = rw c.in_default.is at c.loop-at.invariant.below in
    record {
      after = inl (below_row d c.args.p (pairs_of xs) here, omega (arith, same_length xs, c.loop-at.invariant.few));
    }
