use Rattle.std.proofs.Common.{◌+◌, ◌∙◌, Bool, List, ℕ, bytes_eq, map, sym, ap, subst, arith}
use Rattle.std.specs.List.{list_any, range_with_len}
use Rattle.si_base.specs.Codes.{CodedGraph}
use Rattle.si_base.specs.Graph.{StateGraph}
use Rattle.si_joins.specs.Lifted.{own_word}
use Rattle.si_joins.proofs.SetLemmas.{IsFilledTo, filled_add, filled_all, filled_skip, known_is, unknown_is}
use Rattle.si_joins.proofs.sets.lifted_set.Goals as goal
use Rattle.si_joins.proofs.sets.lifted_set.Goals.{then-inside, else-inside}

pub loop-s-preserved : goal.loop-s-preserved
loop-s-preserved c =
    let words = c.args.words.now in
    let word : ℕ → List ℕ = λ t. own_word c.args.view.now c.args.lineage.now t in
    let f : ℕ → Bool = λ t. list_any (bytes_eq (word t)) words in
    let size = c.states-size.result in
    let s = c.loop-s.s in
    let known = c.in_ok-known.known in
    elim c.if-inside.branch [
      | then-inside w ↦ subst (IsFilledTo f size (s + 1)) (sym (w.set-is ∙ w.add.ensures))
          (filled_add f size s c.loop-s.set c.loop-s-test.true c.loop-s.invariant
          (known_is known words c.in_ok-known.ensures (word s) c.in_ok-inside.inside c.in_ok-inside.ensures
          w.if-inside.true))
      | else-inside w ↦ subst (IsFilledTo f size (s + 1)) (sym w.set-is)
          (filled_skip f size s c.loop-s.set c.loop-s-test.true c.loop-s.invariant
          (unknown_is known words c.in_ok-known.ensures (word s) c.in_ok-inside.inside c.in_ok-inside.ensures
          w.if-inside.false))
    ]

pub returns : goal.returns
returns c =
    let words = c.args.words.now in
    let f : ℕ → Bool = λ t. list_any (bytes_eq (own_word c.args.view.now c.args.lineage.now t)) words in
    let size_is = c.states-size.ensures ∙ ap (λ (g : StateGraph). g.states) (c.graph.ensures.same
    ∙ ap (λ (d : CodedGraph). d.graph) (c.coded.ensures.same ∙ c.current.ensures.same)) in
    filled_all f c.states-size.result c.loop-s.s c.loop-s.set (omega (arith, c.loop-s-test.false)) c.loop-s.invariant
    ∙ ap (λ (n : ℕ). map f (range_with_len 0 n)) size_is
