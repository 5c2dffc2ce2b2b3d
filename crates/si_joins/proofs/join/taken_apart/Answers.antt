use Rattle.std.proofs.Common.{◌≡◌, ◌∙◌, List, [], ◌∷◌, ◌++◌, map, refl, sym, ap}
use Rattle.std.proofs.lemmas.Iterator.Adapters.{YieldsList-from_vec}
use Rattle.std.proofs.lemmas.Iterator.Consumers.{YieldsList-end}
use Rattle.std.proofs.lemmas.List.{map-append, map-id}
use Rattle.si_base.specs.Codes.{CodedGraph}
use Rattle.si_base.specs.GivenGraph.{Sg}
use Rattle.si_base.specs.Netlist.{Netlist}
use Rattle.si_sg.specs.GivenGraph.{sg_now}
use Rattle.si_sg.specs.declared.read.Sg.{Sg as SgRead}
use Rattle.si_works.specs.declared.audited.AuditedPart.{AuditedPart as PartMade}
use Rattle.si_works.specs.Loops.Parts.{part_now}
use Rattle.si_joins.proofs.join.taken_apart.Goals as goal

-- ---- the parts of parts
graphs_seen : (ps : List PartMade) → map sg_now (map (λ p. p.given) ps) ≡ map (λ p. p.given) (map part_now ps)
graphs_seen [] = refl
graphs_seen (p ∷ ps) = ap (λ (gs : List Sg). sg_now p.given ∷ gs) (graphs_seen ps)

codes_seen : (ps : List PartMade) → map (λ p. p.part) ps ≡ map (λ p. p.coded) (map part_now ps)
codes_seen [] = refl
codes_seen (p ∷ ps) = ap (λ (cs : List CodedGraph). p.part ∷ cs) (codes_seen ps)

netlists_seen : (ps : List PartMade) → map (λ p. p.netlist) ps ≡ map (λ p. p.netlist) (map part_now ps)
netlists_seen [] = refl
netlists_seen (p ∷ ps) = ap (λ (ns : List Netlist). p.netlist ∷ ns) (netlists_seen ps)

pub loop-part-preserved : goal.loop-part-preserved
loop-part-preserved c =
    let p : PartMade = c.in-Some.part in
    let old : List PartMade = c.loop-part.yielded in (
      c.in_ok-push.ensures.items ∙ ap (λ (gs : List SgRead). gs ++ p.given ∷ []) c.loop-part.invariant.0
          ∙ sym (map-append (λ (q : PartMade). q.given) old (p ∷ [])),
      (
        c.in_ok-push-2.ensures.items ∙ ap (λ (cs : List CodedGraph). cs ++ p.part ∷ []) c.loop-part.invariant.1.0
            ∙ sym (map-append (λ (q : PartMade). q.part) old (p ∷ [])),
        c.in_ok-push-3.ensures.items ∙ ap (λ (ns : List Netlist). ns ++ p.netlist ∷ []) c.loop-part.invariant.1.1
            ∙ sym (map-append (λ (q : PartMade). q.netlist) old (p ∷ [])),
      ),
    )

pub returns-clause-given : goal.returns-clause-given
returns-clause-given c =
    let gives = c.into_iter-part-iterator.ensures.into_iter_gives in
    let chain = YieldsList-from_vec {s = c.into_iter-part-iterator.result} _ gives.0 (gives.1 ∙ c.args.parts.ok.0) in
    let all = YieldsList-end chain c.loop-part.yielded _ c.loop-part.yielded_by _ c.next.new.self c.in-None.is
    c.next.ensures.steps in
    let yields = sym (map-id c.loop-part.yielded) ∙ all.0 in
    ap (map sg_now) (c.loop-part.invariant.0 ∙ ap (map (λ (p : PartMade). p.given)) yields)
    ∙ graphs_seen c.args.parts.items

pub returns-clause-coded : goal.returns-clause-coded
returns-clause-coded c =
    let gives = c.into_iter-part-iterator.ensures.into_iter_gives in
    let chain = YieldsList-from_vec {s = c.into_iter-part-iterator.result} _ gives.0 (gives.1 ∙ c.args.parts.ok.0) in
    let all = YieldsList-end chain c.loop-part.yielded _ c.loop-part.yielded_by _ c.next.new.self c.in-None.is
    c.next.ensures.steps in
    let yields = sym (map-id c.loop-part.yielded) ∙ all.0 in
    c.loop-part.invariant.1.0 ∙ ap (map (λ (p : PartMade). p.part)) yields ∙ codes_seen c.args.parts.items

pub returns-clause-netlists : goal.returns-clause-netlists
returns-clause-netlists c =
    let gives = c.into_iter-part-iterator.ensures.into_iter_gives in
    let chain = YieldsList-from_vec {s = c.into_iter-part-iterator.result} _ gives.0 (gives.1 ∙ c.args.parts.ok.0) in
    let all = YieldsList-end chain c.loop-part.yielded _ c.loop-part.yielded_by _ c.next.new.self c.in-None.is
    c.next.ensures.steps in
    let yields = sym (map-id c.loop-part.yielded) ∙ all.0 in
    c.loop-part.invariant.1.1 ∙ ap (map (λ (p : PartMade). p.netlist)) yields ∙ netlists_seen c.args.parts.items
