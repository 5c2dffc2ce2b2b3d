use Rattle.std.proofs.Common.{◌≡◌, ◌<◌, ◌∙◌, ℕ, List, All, ap, arith, get_or, length, subst, sym}
use Rattle.std.proofs.lemmas.List.Edits.{length-remove}
use Rattle.si_base.specs.Graph.{IsNonInput}
use Rattle.si_base.specs.Limits.{max_signals}
use Rattle.si_base.specs.Netlist.{Netlist}
use Rattle.si_settled.specs.Loops.Known.{IsShownBy}
use Rattle.si_settled.proofs.CodeLemmas.{all_stay, any_other}
use Rattle.si_settled.proofs.ForcedLemmas.{going_first, going_last, going_more}
use Rattle.si_settled.proofs.known.known_in_the_end.Goals as goal

-- the gate at the place is shown
abbrev Found : Netlist → ℕ → ℕ → List ℕ → Type 0
Found n known k left = (k < length left) × IsShownBy n known (get_or left k 0)

pub loop-k-init : goal.loop-k-init
loop-k-init c = record {
  gates = λ i d within. (c.in_ok-left.ensures.gates i d within).0;
  narrow = λ i d within. (c.in_ok-left.ensures.gates i d within).1;
  going = λ signals marks. going_first c.args.netlist.now signals c.in_ok-left.left.items c.args.held
      c.in_ok-left.ensures.signals marks;
}

pub next_shown-requires : goal.next_shown-requires
next_shown-requires c = subst (All (IsNonInput c.args.netlist.now.signals)) (sym c.as_slice.ensures.value)
    c.loop-k.invariant.gates

pub set-known-requires : goal.set-known-requires
set-known-requires c =
    let found = subst (Found c.args.netlist.now c.loop-k.known c.in-Some.k) c.as_slice.ensures.value c.in-Some.ensures in
    subst (λ (x : ℕ). x < max_signals) (sym c.remove.ensures.value)
    (c.loop-k.invariant.narrow c.in-Some.k c.remove.result found.0)

pub loop-k-preserved : goal.loop-k-preserved
loop-k-preserved c =
    let n = c.args.netlist.now in
    let left = c.loop-k.left.items in
    let k = c.in-Some.k in
    let z = c.remove.result in
    let found = subst (Found n c.loop-k.known k) c.as_slice.ensures.value c.in-Some.ensures in
    let is : z ≡ get_or left k 0 = c.remove.ensures.value ∙ any_other left k z 0 found.0 in
    let shown = subst (IsShownBy n c.loop-k.known) (sym is) found.1 in
    record {
      gates = subst (All (IsNonInput n.signals)) (sym c.remove.ensures.items)
          (all_stay (IsNonInput n.signals) left k found.0 c.loop-k.invariant.gates);
      narrow = subst (All (λ (x : ℕ). x < max_signals)) (sym c.remove.ensures.items)
          (all_stay (λ (x : ℕ). x < max_signals) left k found.0 c.loop-k.invariant.narrow);
      going = λ signals marks. going_more n signals left c.loop-k.known k z c.set-known.result c.remove.new.self.items
          found.0 c.loop-k.invariant.gates shown is c.set-known.ensures c.remove.ensures.items
          (c.loop-k.invariant.going signals marks);
    }

pub loop-k-smaller : goal.loop-k-smaller
loop-k-smaller c =
    let left = c.loop-k.left.items in
    let found = subst (Found c.args.netlist.now c.loop-k.known c.in-Some.k) c.as_slice.ensures.value c.in-Some.ensures in
    let fewer : length c.remove.new.self.items ≡ _ = ap length c.remove.ensures.items in
    omega (arith, fewer, length-remove left c.in-Some.k found.0)

pub returns : goal.returns
returns c signals marks =
    let n = c.args.netlist.now in
    let none = subst (All (λ (z : ℕ). IsShownBy n c.loop-k.known z → ⊥)) c.as_slice.ensures.value c.in_default.ensures in
    going_last n signals c.loop-k.left.items c.loop-k.known none (c.loop-k.invariant.going signals marks)
