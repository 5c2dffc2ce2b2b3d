use Rattle.std.proofs.Common.{◌≡◌, ℕ, ◌∙◌, List, [], ◌∷◌, ◌++◌, sym, ap, ap₂, arith}
use Rattle.std.proofs.lemmas.List.FromFn.{map-range_with_len_more}
use Rattle.si_base.specs.Sets.{is_in}
use Rattle.si_insert.specs.declared.partition.Class.{Class}
use Rattle.si_candidates.specs.Loops.Sides.{class_by}
use Rattle.si_candidates.proofs.classes.class_list.Goals as goal

pub loop-k-preserved : goal.loop-k-preserved
loop-k-preserved c =
    let plus = c.args.plus.now in
    let minus = c.args.minus.now in
    let high = c.args.high.now in
    let k = c.loop-k.k in
    let told : ℕ → Class = λ s. class_by (is_in plus s) (is_in minus s) (is_in high s) in
    let one : c.class_by.result ≡ told k = c.class_by.ensures
    ∙ ap₂ (λ a b. class_by a b c.has-in-loop-k-2.result) c.has.ensures c.has-in-loop-k.ensures
    ∙ ap (class_by (is_in plus k) (is_in minus k)) c.has-in-loop-k-2.ensures in
    record {
      told = c.in_ok-push.ensures.items
          ∙ ap₂ (λ (list : List Class) (class : Class). list ++ class ∷ []) c.loop-k.invariant.told one
          ∙ sym (map-range_with_len_more told 0 k k (omega arith));
      most = omega (arith, c.loop-k-test.true, c.size-k-end.ensures);
    }
