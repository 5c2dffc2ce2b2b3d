use Rattle.std.proofs.Common.{map, bit_xor, sym, subst, ◌∙◌, ap, List, ℕ}
use Rattle.std.proofs.lemmas.Result.{IfOk-weaker}
use Rattle.si_graph.specs.Loops.Values.{TellsValues}
use Rattle.si_graph.proofs.ValueLemmas.{told_values}
use Rattle.si_graph.proofs.values.told_codes.Goals as goal

pub returns-clause-tells : goal.returns-clause-tells
returns-clause-tells c =
    let start : ℕ = c.start_code-start.result in
    let told = told_values c.args.graph.now c.in_ok-changes.changes.items start c.in_ok-changes.ensures
    c.start_code-start.ensures in
    let whole = ap (map (λ (change : ℕ). bit_xor change start)) c.as_slice-2.ensures.value in
    IfOk-weaker c.shifted.result _ _
    (λ codes same. subst (λ (ks : List ℕ). TellsValues c.args.graph.now ks) (sym (same ∙ whole)) told)
    c.shifted.ensures
