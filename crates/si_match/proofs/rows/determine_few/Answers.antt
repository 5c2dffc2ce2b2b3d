use Rattle.std.proofs.Common.{◌≡◌, ◌∙◌, ◌<◌, ◌≤◌, ℕ, not, Bool, Some, All, List, length, refl, sym, ap, subst}
use Rattle.std.proofs.Common.{rules, arith}
use Rattle.si_base.specs.Codes.{code}
use Rattle.si_base.specs.Limits.{code_width}
use Rattle.si_match.specs.Loops.Rows.{AreSignals}
use Rattle.si_match.proofs.RowLemmas.{all_filled, filled_too, placed_at, row_differs, row_equal}
use Rattle.si_match.proofs.RowLemmas.{row_read, row_unequal, signals_below}
use Rattle.si_match.proofs.rows.determine_few.Goals as goal

pub values_at-values-requires-clause-signals : goal.values_at-values-requires-clause-signals
values_at-values-requires-clause-signals c =
    let wide : length c.args.coded.now.graph.signals ≤ code_width = search rules in
    let count : length c.signals.result.now ≡ length c.args.coded.now.graph.signals = search rules in
    subst (λ (ys : List ℕ). All (λ y. y < code_width) ys) (sym c.as_slice.ensures.value)
    (signals_below c.args.set (length c.signals.result.now) code_width c.signals_of-signals.result.items
    c.signals_of-signals.ensures.signals (omega (arith, wide, count)))

pub returns-then-eq : goal.returns-then-eq
returns-then-eq c =
    let coded = c.args.coded.now in
    let signals = c.signals_of-signals.result.items in
    let s = c.loop-s.s in
    let row = c.values_at-values.result in
    let rows = c.loop-s.rows.items in
    let count : length c.signals.result.now ≡ length coded.graph.signals = search rules in
    let within : s < length coded.codes = search rules in
    let are = subst (λ (n : ℕ). AreSignals c.args.set n signals) count c.signals_of-signals.ensures.signals in
    let at = placed_at c.as_slice.result.now signals c.code.result (code coded s) row c.as_slice.ensures.value
    c.code.ensures c.values_at-values.ensures.value in
    let seen = row_read coded c.args.z signals s row rows c.loop-s.invariant at c.index.result.now c.index.ensures in
    let other = row_equal c.index.result.now (not c.next_value-next.result) (sym c.eq.ensures ∙ c.if-eq.true) in
    sym (row_differs coded c.args.z signals s row rows c.loop-s.invariant at c.args.set are c.graph.ensures.coded within
    (seen ∙ other ∙ ap (λ (v : Bool). Some (not v)) c.next_value-next.ensures))

pub loop-s-preserved : goal.loop-s-preserved
loop-s-preserved c =
    let coded = c.args.coded.now in
    let signals = c.signals_of-signals.result.items in
    let s = c.loop-s.s in
    let row = c.values_at-values.result in
    let rows = c.loop-s.rows.items in
    let at = placed_at c.as_slice.result.now signals c.code.result (code coded s) row c.as_slice.ensures.value
    c.code.ensures c.values_at-values.ensures.value in
    let seen = row_read coded c.args.z signals s row rows c.loop-s.invariant at c.index.result.now c.index.ensures in
    let no_other = row_unequal c.index.result.now (not c.next_value-next.result) (sym c.eq.ensures ∙ c.if-eq.false) in
    filled_too coded c.args.z signals s row rows c.loop-s.invariant at c.next_value-next.result _
    c.next_value-next.ensures (λ same. no_other (sym seen ∙ same)) refl

pub returns : goal.returns
returns c =
    let coded = c.args.coded.now in
    let signals = c.signals_of-signals.result.items in
    let count : length c.signals.result.now ≡ length coded.graph.signals = search rules in
    let past : length coded.codes ≤ c.loop-s.s = search rules in
    let are = subst (λ (n : ℕ). AreSignals c.args.set n signals) count c.signals_of-signals.ensures.signals in
    sym (all_filled coded c.args.z c.args.set signals c.loop-s.s c.loop-s.rows.items are past c.loop-s.invariant)
