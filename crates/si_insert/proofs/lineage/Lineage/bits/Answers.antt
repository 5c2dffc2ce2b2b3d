use Rattle.std.proofs.Common.{◌≡◌, ℕ, ◌+◌, ◌<◌, List, length, sym, ap, subst, subst₂, ◌∙◌}
use Rattle.si_base.specs.declared.graph.Signal.{Signal}
use Rattle.si_base.specs.Bits.{bit}
use Rattle.si_base.specs.Graph.{StateGraph}
use Rattle.si_base.specs.Codes.{CodedGraph, code}
use Rattle.si_insert.specs.Lineage.{History}
use Rattle.si_insert.proofs.LineageGrowth.{code_small, few_now}
use Rattle.si_insert.proofs.lineage.Lineage.bits.Goals as goal

pub from_bit-requires-clause-fits : goal.from_bit-requires-clause-fits
from_bit-requires-clause-fits c =
    let P : CodedGraph → Type 0 = λ k. c.args.p < k.graph.states in
    let now : c.coded-current.result.now ≡ c.args.self.now.current.coded =
    c.coded-current.ensures.same ∙ ap (λ (l : History). l.current.coded) c.self.view_is in
    code_small c.coded-current.result.now c.graph-2.result.now c.signals-now.result.now c.code.result c.args.p
    c.graph-2.ensures.coded c.graph-2.ensures.same c.signals-now.ensures c.code.ensures
    (subst P (sym now) c.requires)

pub from_bit-requires-clause-few : goal.from_bit-requires-clause-few
from_bit-requires-clause-few c =
    few_now c.coded-current.result.now c.graph-2.result.now c.signals-now.result.now
    c.graph-2.ensures.coded c.graph-2.ensures.same c.signals-now.ensures

pub returns : goal.returns
returns c k =
    let now : c.coded-current.result.now ≡ c.args.self.now.current.coded =
    c.coded-current.ensures.same ∙ ap (λ (l : History). l.current.coded) c.self.view_is in
    let value : c.code.result ≡ code c.args.self.now.current.coded c.args.p =
    c.code.ensures ∙ ap (λ (d : CodedGraph). code d c.args.p) now in
    let given : c.coded.result.now ≡ c.args.self.now.given =
    c.coded.ensures.same ∙ ap (λ (l : History). l.given) c.self.view_is in
    let names : c.signals-given.result.now ≡ c.args.self.now.given.graph.signals =
    c.signals-given.ensures ∙ ap (λ (g : StateGraph). g.signals) c.graph.ensures.same
    ∙ ap (λ (d : CodedGraph). d.graph.signals) given in
    let P : ℕ → List Signal → Type 0 = λ v xs. bit c.from_bit.result k ≡ bit v (length xs + k) in
    subst₂ P value names (c.from_bit.ensures k)
