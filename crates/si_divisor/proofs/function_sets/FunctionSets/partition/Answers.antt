use Rattle.std.proofs.Common.{◌∙◌, ℕ, get_or, None, Some, sym, subst}
use Rattle.si_base.specs.Codes.{IsCoded}
use Rattle.si_divisor.specs.Functions.{function_value}
use Rattle.si_divisor.specs.Loops.ManyFunctions.{AreClassesAt}
use Rattle.si_divisor.specs.Targets.{forced_by}
use Rattle.si_divisor.proofs.ManyFunctionLemmas.{no_function}
use Rattle.si_divisor.proofs.PartitionLemmas.{lawful}
use Rattle.si_divisor.proofs.SameFunction.{answers_alike}
use Rattle.si_divisor.proofs.function_sets.FunctionSets.partition.Goals as goal

pub classes_at-requires-clause-minus : goal.classes_at-requires-clause-minus
classes_at-requires-clause-minus c =
    let at = c.requires.sets.each c.args.k no_function c.requires.place in
    at.minus_size ∙ sym at.plus_size

pub classes_at-requires-clause-ones : goal.classes_at-requires-clause-ones
classes_at-requires-clause-ones c =
    let at = c.requires.sets.each c.args.k no_function c.requires.place in
    at.ones_size ∙ sym at.plus_size

pub returns-then-not-has_bit : goal.returns-then-not-has_bit
returns-then-not-has_bit c d value same_value =
    let f = get_or c.args.self.now.functions.items c.args.k d in
    let coded = subst IsCoded c.coded.ensures.same c.graph-given.ensures.coded in
    answers_alike c.args.graph.now f value None coded.graph_is same_value
    ((c.requires.sets.each c.args.k d c.requires.place).none (sym c.has_bit.ensures ∙ c.if-not-has_bit.true))

pub known-requires : goal.known-requires
known-requires c =
    let k = c.args.k in
    let f = get_or c.args.self.now.functions.items k no_function in
    let at = c.requires.sets.each k no_function c.requires.place in
    let coded = subst IsCoded c.coded.ensures.same c.graph-given.ensures.coded in
    let list = c.in_ok-classes.classes.items in
    let classes = subst (λ (n : ℕ). AreClassesAt n k c.args.self.now list) at.plus_size c.in_ok-classes.ensures in
    let partition = at.some (sym c.has_bit.ensures ∙ c.if-not-has_bit.false) list classes in
    lawful c.args.graph.now.graph (forced_by (function_value f) c.args.graph.now) list coded.graph_is partition

pub returns : goal.returns
returns c d value same_value =
    let k = c.args.k in
    let f = get_or c.args.self.now.functions.items k d in
    let at = c.requires.sets.each k d c.requires.place in
    let coded = subst IsCoded c.coded.ensures.same c.graph-given.ensures.coded in
    let list = c.in_ok-classes.classes.items in
    let classes = subst (λ (n : ℕ). AreClassesAt n k c.args.self.now list) at.plus_size c.in_ok-classes.ensures in
    let partition = at.some (sym c.has_bit.ensures ∙ c.if-not-has_bit.false) list classes in
    let lawful_too =
    lawful c.args.graph.now.graph (forced_by (function_value f) c.args.graph.now) list coded.graph_is partition in
    rw c.known.ensures
    (answers_alike c.args.graph.now f value (Some list) coded.graph_is same_value (partition, lawful_too))
