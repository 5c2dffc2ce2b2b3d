use Rattle.std.proofs.Common.{ℕ, ◌∙◌, All, sym, subst}
use Rattle.std.proofs.lemmas.Bool.{true≢false}
use Rattle.std.proofs.lemmas.List.{take_all}
use Rattle.std.proofs.lemmas.List.Elements.{All-more}
use Rattle.si_base.specs.Graph.{IsNonInput}
use Rattle.si_settled.specs.Loops.Known.{IsShownBy}
use Rattle.si_settled.proofs.known.next_shown.Goals as goal

pub is_shown-requires : goal.is_shown-requires
is_shown-requires c = subst (IsNonInput c.args.netlist.now.signals) (sym c.index-signals-k.is)
    (c.requires c.loop-k.k c.index-signals-k.result c.loop-k-test.true)

pub loop-k-preserved : goal.loop-k-preserved
loop-k-preserved c =
    let NotShown : ℕ → Type 0 = λ z. IsShownBy c.args.netlist.now c.args.known z → ⊥ in
    let here : NotShown c.index-signals-k.result =
    λ shown. true≢false (sym shown ∙ sym c.is_shown.ensures ∙ c.if-is_shown.false) in
    All-more NotShown c.args.signals.now c.loop-k.k c.index-signals-k.result c.loop-k-test.true c.loop-k.invariant
    (subst NotShown c.index-signals-k.is here)

pub returns : goal.returns
returns c =
    let NotShown : ℕ → Type 0 = λ z. IsShownBy c.args.netlist.now c.args.known z → ⊥ in
    subst (All NotShown) (take_all c.loop-k.k c.args.signals.now c.loop-k-test.false) c.loop-k.invariant
