use Rattle.std.proofs.Common.{◌≡◌, ◌∙◌, ap, length, arith, Option, ℕ, subst, unwrap_or}
use Rattle.std.specs.BTreeMap.{get}
use Rattle.si_base.specs.Graph.{StateGraph}
use Rattle.si_fold.specs.declared.numbering.Key.{Key}
use Rattle.si_fold.specs.Loops.Partition.{shape}
use Rattle.si_fold.specs.Loops.Numbered.{AreNumbered, key_cmp, key_of}
use Rattle.si_fold.proofs.NumberedClasses.{numbered_classes}
use Rattle.si_fold.proofs.NumberLemmas.{one_more_placed}
use Rattle.si_fold.proofs.numbering.numbered.Goals as goal

pub loop-k-preserved : goal.loop-k-preserved
loop-k-preserved c =
    let d = c.args.coded.now in
    let p = shape c.args.states.now in
    let k = c.loop-k.k in
    let key : Key = record { class = c.class.result; code = c.code.result } in
    let class = c.class.ensures in
    let code = c.code.ensures in
    let key_is : key ≡ key_of d p k = λ i. record { class = class i; code = code i } in
    let old : Key → Option ℕ = λ q. get key_cmp c.loop-k.places q in
    let new : Key → Option ℕ = λ q. get key_cmp c.place_of.new.places q in
    let size : c.len.result ≡ length c.loop-k.kept.items = omega (arith, c.len.ensures, c.loop-k.kept.ok) in
    one_more_placed d p k c.in_ok-place.place key c.loop-k.kept.items c.loop-k.class.items c.keep_if_new.new.kept.items
    c.push.new.self.items old new c.loop-k.invariant key_is
    (c.in_ok-place.ensures.found ∙ ap (unwrap_or (old key)) size) c.in_ok-place.ensures.there
    c.in_ok-place.ensures.others c.in_ok-keep_if_new.ensures.new c.in_ok-keep_if_new.ensures.old
    c.in_ok-push.ensures.items

pub returns-clause-classes : goal.returns-clause-classes
returns-clause-classes c =
    let coded = c.args.coded.now in
    let given = c.graph-graph.ensures in
    let kept = c.loop-k.kept.items in
    let class = c.loop-k.class.items in
    let last : c.loop-k.k ≡ c.states-k-end.result = omega arith in
    let all = last ∙ c.states-k-end.ensures ∙ ap (λ (g : StateGraph). g.states) given.same in
    let numbered = subst (λ (n : ℕ). AreNumbered coded (shape c.args.states.now) n kept class) all
    c.loop-k.invariant.numbered in
    numbered_classes coded given.coded (shape c.args.states.now) c.requires kept class numbered
