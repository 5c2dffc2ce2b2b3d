use Rattle.std.proofs.Common.{◌≡◌, ◌∙◌, Err, ap, arith}
use Rattle.si_base.specs.Codes.{CodedGraph}
use Rattle.si_base.specs.Graph.{StateGraph}
use Rattle.si_inserted.proofs.NameLemmas.{fewer, one_more}
use Rattle.si_inserted.proofs.names.current_names.Goals as goal

pub unreachable-requires : goal.unreachable-requires
unreachable-requires c =
    let l = c.args.lineage.now in
    let graph = c.graph.ensures.same
    ∙ ap (λ (k : CodedGraph). k.graph) (c.coded.ensures.same ∙ c.current.ensures.same) in
    let size : c.states-size.result ≡ l.current.coded.graph.states =
    c.states-size.ensures ∙ ap (λ (g : StateGraph). g.states) graph in
    let full = c.in-Err-Full.ensures.full.0 (ap Err c.in-Err-Full.field-0-is) in
    let most = full.1 in
    fewer c.args.states.now l c.loop-s.s c.loop-s.names c.loop-s.invariant
    (omega (arith, c.loop-s-test.true, size)) (omega (arith, most, size))

pub loop-s-preserved : goal.loop-s-preserved
loop-s-preserved c =
    let l = c.args.lineage.now in
    let graph = c.graph.ensures.same
    ∙ ap (λ (k : CodedGraph). k.graph) (c.coded.ensures.same ∙ c.current.ensures.same) in
    let size : c.states-size.result ≡ l.current.coded.graph.states =
    c.states-size.ensures ∙ ap (λ (g : StateGraph). g.states) graph in
    one_more c.args.states.now l c.requires c.trace-trace.ensures.made c.len-count.ensures.distinct c.loop-s.s
    c.as_slice.result.now c.loop-s.names c.add.new.self (omega (arith, c.loop-s-test.true, size))
    c.loop-s.invariant (c.as_slice.ensures.value ∙ c.in_ok-name.ensures) c.in-Ok.ensures.new
