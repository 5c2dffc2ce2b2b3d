use Rattle.std.proofs.Common.{◌≡◌, ℕ, ◌<◌, List, length, get_or, All, ◌∙◌, ap, refl, sym, subst, arith}
use Rattle.std.proofs.lemmas.List.{take_all}
use Rattle.std.specs.List.{flat_map}
use Rattle.si_insert.specs.declared.partition.Class.{Class}
use Rattle.si_insert.specs.Insertion.{Copy}
use Rattle.si_insert.specs.GraphOfCopies.{copies_of, edges_from, new_edges}
use Rattle.si_insert.proofs.StateCopyPlaces.{copies_within}
use Rattle.si_insert.proofs.apply.edges_of.Goals as goal

within : (classes : List Class) (copies : List Copy) (i : ℕ) (x : Copy) → copies ≡ copies_of classes
    → i < length copies → x ≡ get_or copies i x → x.state < length classes
within classes copies i x are below item =
    let P : List Copy → Type 0 = λ xs. All (λ y. y.state < length classes) xs in
    let Q : Copy → Type 0 = λ y. y.state < length classes in
    subst Q (sym item) (subst P (sym are) (copies_within classes (length classes) refl) i x below)

pub add_copied-requires-clause-within : goal.add_copied-requires-clause-within
add_copied-requires-clause-within c =
    within c.args.classes.now c.args.copies.now c.loop-x.x-index c.x-item.result c.requires.copies c.loop-x-test.true
    c.x-item.is

pub add_switch-requires-clause-within : goal.add_switch-requires-clause-within
add_switch-requires-clause-within c =
    within c.args.classes.now c.args.copies.now c.loop-x.x-index c.x-item.result c.requires.copies c.loop-x-test.true
    c.x-item.is

pub returns : goal.returns
returns c =
    let f = edges_from c.args.graph.now c.args.classes.now in
    record {
      all = c.loop-x.invariant
          ∙ ap (flat_map f) (take_all c.loop-x.x-index c.args.copies.now (omega (arith, c.loop-x-test.false)))
          ∙ ap (flat_map f) c.requires.copies;
    }
