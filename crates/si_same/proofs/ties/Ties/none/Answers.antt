use Rattle.si_same.proofs.ForestLemmas.{alone_forest, alone_class, copies_of_none}
use Rattle.si_same.proofs.ties.Ties.none.Goals as goal

pub invariant_of-result : goal.invariant_of-result
invariant_of-result c =
    let nones = copies_of_none c.in_ok-vec.ensures.items_if_clones_equal (λ m other. absurd other) in
    let zeros = c.in_ok-vec-2.ensures.items_if_clones_equal (λ x is. is) in
    rw (nones, zeros) (alone_forest c.args.count c.ranges.count.fits)

pub returns-clause-own : goal.returns-clause-own
returns-clause-own c = λ x. (
    let nones = copies_of_none c.in_ok-vec.ensures.items_if_clones_equal (λ m other. absurd other) in
    rw nones (alone_class c.args.count x))
