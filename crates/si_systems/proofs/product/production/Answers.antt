use Rattle.si_composing.proofs.TupleLemmas.{ordered_distinct}
use Rattle.si_systems.specs.Loops.Parts.{sgs_now}
use Rattle.si_systems.proofs.ProductParts.{all_are_deterministic, product_tuples}
use Rattle.si_systems.proofs.product.production.Goals as goal

pub product-requires-clause-deterministic : goal.product-requires-clause-deterministic
product-requires-clause-deterministic c =
    all_are_deterministic (sgs_now c.args.given.now) c.args.parts.now c.requires.parts

pub text_of-requires-clause-tuples : goal.text_of-requires-clause-tuples
text_of-requires-clause-tuples c =
    product_tuples (sgs_now c.args.given.now) c.args.parts.now c.in-Ok.composed.tuples.items c.in-Ok.composed.graph
    c.requires.given c.requires.parts c.in-Ok.ensures.product

pub text_of-requires-clause-distinct : goal.text_of-requires-clause-distinct
text_of-requires-clause-distinct c =
    ordered_distinct c.in-Ok.composed.tuples.items c.in-Ok.ensures.product.reached.in_order

pub text_of-requires-clause-count : goal.text_of-requires-clause-count
text_of-requires-clause-count c = c.in-Ok.ensures.product.made.states
