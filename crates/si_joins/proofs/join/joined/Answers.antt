use Rattle.std.proofs.Common.{◌≡◌, ◌<◌, ◌==◌, ◌∙◌, ℕ, List, Ok, length, sym, subst, arith, eq-eqb, false}
use Rattle.std.proofs.lemmas.Bool.{true≢false}
use Rattle.std.proofs.lemmas.List.{length-map}
use Rattle.std.proofs.lemmas.Result.{IfOk-weaker}
use Rattle.si_base.specs.Graph.{StateGraph}
use Rattle.si_joins.specs.Join.{joined, joined_over}
use Rattle.si_joins.proofs.PartFacts.{all_shown, whole_named, whole_writable}
use Rattle.si_readings.specs.Checks.{IsNamed, IsSound, proper}
use Rattle.si_readings.proofs.ReadingRefusals.{err_map, stops}
use Rattle.si_readings.proofs.StageLemmas.{stop_first, stop_next}
use Rattle.si_refusals.specs.Ending.{MayStop, ending_of}
use Rattle.si_refusals.specs.Stages.{Passes}
use Rattle.si_sg.specs.GivenGraph.{sg_now}
use Rattle.si_systems.specs.Loops.Composed.{composed_now}
use Rattle.si_systems.specs.Loops.Parts.{sgs_now}
use Rattle.si_systems.proofs.PartLemmas.{as_many}
use Rattle.si_joins.proofs.join.joined.Goals as goal

-- ---- where a stage refuses
pub returns-in_err-whole-clause-err : goal.returns-in_err-whole-clause-err
returns-in_err-whole-clause-err c =
    stops (joined (sgs_now c.args.given.now) c.args.coded.now c.args.netlists.now) c.from_residual.result _
    c.from_residual.ensures.1 (stop_first _ _ _ c.in_err-whole.ensures.err)

pub proper_of-requires : goal.proper_of-requires
proper_of-requires c =
    let whole = composed_now c.in_ok-whole.whole in
    subst (λ (g : StateGraph). IsNamed g whole.sg.states) (sym c.in_ok-graph.ensures)
    (whole_named (sgs_now c.args.given.now) c.args.coded.now whole c.in_ok-whole.ensures.ok)

pub returns-in_err-proper-clause-err : goal.returns-in_err-proper-clause-err
returns-in_err-proper-clause-err c =
    let whole = composed_now c.in_ok-whole.whole in
    let may = subst (λ (g : StateGraph). MayStop (proper g whole.sg.states) (ending_of c.in_err-proper.field-0.0))
    c.in_ok-graph.ensures c.in_err-proper.ensures.err in
    stops (joined (sgs_now c.args.given.now) c.args.coded.now c.args.netlists.now)
    c.from_residual-in_err-proper.result _ c.from_residual-in_err-proper.ensures.1
    (stop_next _ _ whole _ c.in_ok-whole.ensures.ok (stop_first _ _ _ may))

-- ---- what the last call asks for
some_given : (n : ℕ) → (n == 0) ≡ false → 0 < n
some_given n is = not_none n (λ none. true≢false (sym (eq-eqb n 0 none) ∙ is))
  where
    not_none : (m : ℕ) → (m ≡ 0 → ⊥) → 0 < m
    not_none m other = omega (arith, other)

pub joined_over-requires-clause-writable : goal.joined_over-requires-clause-writable
joined_over-requires-clause-writable c =
    let given = c.args.given.now in
    let some = some_given (length given) (sym c.is_empty.ensures ∙ c.if-is_empty.false) in
    whole_writable (sgs_now given) c.args.coded.now c.requires.given c.requires.sound
    (omega (arith, some, length-map given sg_now)) (composed_now c.in_ok-whole.whole) c.in_ok-whole.ensures.ok

pub joined_over-requires-clause-sound : goal.joined_over-requires-clause-sound
joined_over-requires-clause-sound c =
    subst (λ (g : StateGraph). IsSound g c.in_ok-proper.proper) c.in_ok-graph.ensures c.in_ok-proper.ensures.ok

pub joined_over-requires-clause-tuples : goal.joined_over-requires-clause-tuples
joined_over-requires-clause-tuples c = sym c.in_ok-whole.ensures.ok.0.states

pub joined_over-requires-clause-shown : goal.joined_over-requires-clause-shown
joined_over-requires-clause-shown c =
    all_shown (sgs_now c.args.given.now) c.args.coded.now c.requires.given c.requires.sound
    (composed_now c.in_ok-whole.whole) c.in_ok-whole.ensures.ok

pub joined_over-requires-clause-few : goal.joined_over-requires-clause-few
joined_over-requires-clause-few c =
    let given = c.args.given.now in
    let same = as_many (sgs_now given) c.args.coded.now c.requires.sound in
    omega (arith, same, length-map given sg_now, c.requires.many, c.requires.few)

-- ---- the netlist
pub returns-clause-ok : goal.returns-clause-ok
returns-clause-ok c =
    let given = sgs_now c.args.given.now in
    let netlists = c.args.netlists.now in
    let whole = composed_now c.in_ok-whole.whole in
    let coded = c.in_ok-proper.proper in
    let sound = subst (λ (g : StateGraph). IsSound g coded) c.in_ok-graph.ensures c.in_ok-proper.ensures.ok in
    IfOk-weaker c.joined_over.result (λ (text : List ℕ). joined_over given netlists whole coded (Ok text))
    (λ (text : List ℕ). joined given c.args.coded.now netlists (Ok text))
    (λ text told. Passes whole c.in_ok-whole.ensures.ok (Passes coded sound told)) c.joined_over.ensures.ok

pub returns-clause-err : goal.returns-clause-err
returns-clause-err c =
    let given = sgs_now c.args.given.now in
    let netlists = c.args.netlists.now in
    let whole = composed_now c.in_ok-whole.whole in
    let coded = c.in_ok-proper.proper in
    let sound = subst (λ (g : StateGraph). IsSound g coded) c.in_ok-graph.ensures c.in_ok-proper.ensures.ok in
    err_map c.joined_over.result (MayStop (joined_over given netlists whole coded))
    (MayStop (joined given c.args.coded.now netlists))
    (λ e may. stop_next _ _ whole e c.in_ok-whole.ensures.ok (stop_next _ _ coded e sound may))
    c.joined_over.ensures.err
