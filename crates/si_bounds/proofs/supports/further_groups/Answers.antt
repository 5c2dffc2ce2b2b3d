use Rattle.std.proofs.Common.{◌≡◌, ◌∙◌, ℕ, ap, arith, length, subst, sym}
use Rattle.std.proofs.lemmas.Bool.{true≢false}
use Rattle.si_base.specs.Bits.{bit}
use Rattle.si_base.specs.Graph.{StateGraph}
use Rattle.si_match.specs.Support.{support_of}
use Rattle.si_bounds.specs.Loops.Supports.{AreOthers, ShowFurther}
use Rattle.si_bounds.proofs.SupportsLemmas.{signal_passed, signal_shown}
use Rattle.si_bounds.proofs.supports.further_groups.Goals as goal
use Rattle.si_bounds.proofs.supports.further_groups.Goals.{then-not-get-via-then-not-get}
use Rattle.si_bounds.proofs.supports.further_groups.Goals.{then-not-get-via-else-not-get+then-get}

pub loop-i-preserved-then-not-get : goal.loop-i-preserved-then-not-get
loop-i-preserved-then-not-get c =
    let i = c.loop-i.i in
    signal_passed c.args.coded.now c.args.z c.args.triggers i c.loop-i.further.items c.loop-i.invariant
    (λ further. elim c.then-not-get.branch [
      | then-not-get-via-then-not-get w ↦ true≢false (sym further.in_support
          ∙ ap (λ (set : ℕ). bit set i) (sym c.requires.support) ∙ sym c.get.ensures ∙ w.if-not-get.true)
      | then-not-get-via-else-not-get+then-get w ↦ true≢false (sym w.if-get.true ∙ w.get-else-not-get.ensures
          ∙ further.no_trigger)
    ])

pub loop-i-preserved : goal.loop-i-preserved
loop-i-preserved c =
    let d = c.args.coded.now in
    let i = c.loop-i.i in
    let count : length c.signals-count.result.now ≡ length d.graph.signals =
    ap length (c.signals-count.ensures ∙ ap (λ (g : StateGraph). g.signals) c.graph.ensures.same) in
    let others = subst (λ (s : ℕ). AreOthers s (length c.signals-count.result.now) i c.others.result)
    c.requires.support c.others.ensures in
    signal_shown d c.args.z c.args.triggers i c.loop-i.further.items c.loop-i.invariant (record {
      in_support = ap (λ (set : ℕ). bit set i) (sym c.requires.support) ∙ sym c.get.ensures ∙ c.if-not-get.false;
      no_trigger = sym c.get-else-not-get.ensures ∙ c.if-get.false;
    }) c.in_ok-of.field-0 (record {
      others = c.others.result;
      are_others = subst (λ (n : ℕ). AreOthers (support_of d c.args.z) n i c.others.result) count others;
      untold = c.in_ok-of.ensures;
    }) c.push.new.self.items c.in_ok-push.ensures.items

pub returns : goal.returns
returns c =
    let all : c.loop-i.i ≡ length c.args.coded.now.graph.signals = omega (
      arith,
      c.loop-i-test.false,
      c.loop-i.auto.i-end,
      ap length (c.signals-count.ensures ∙ ap (λ (g : StateGraph). g.signals) c.graph.ensures.same),
    ) in
    subst (λ (n : ℕ). ShowFurther c.args.coded.now c.args.z c.args.triggers n c.loop-i.further.items) all
    c.loop-i.invariant
