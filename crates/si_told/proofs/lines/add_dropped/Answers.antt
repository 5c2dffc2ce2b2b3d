use Rattle.std.proofs.Common.{sym, arith, length, inl, inr}
use Rattle.std.proofs.lemmas.Bool.{cases_lt}
use Rattle.std.proofs.lemmas.Option.{get_or_from_slice_get, slice_get_within}
use Rattle.si_told.specs.ToldLines.{dropped_line, max_told}
use Rattle.si_told.proofs.LineLemmas.{lines_none, lines_more, lines_to}
use Rattle.si_told.proofs.lines.add_dropped.Goals as goal

pub loop-k-init : goal.loop-k-init
loop-k-init c = lines_none dropped_line c.args.dropped.now c.args.text.now

pub loop-k-preserved : goal.loop-k-preserved
loop-k-preserved c =
    lines_more dropped_line c.args.dropped.now c.loop-k.k c.get.result.now c.args.text.now c.loop-k.text _
    (slice_get_within c.args.dropped.now c.loop-k.k c.get.result.now c.get.ensures)
    (sym (get_or_from_slice_get c.args.dropped.now c.loop-k.k c.get.result.now c.get.result.now c.get.ensures))
    c.loop-k.invariant c.in_ok-add_line.ensures

pub returns : goal.returns
returns c =
    let names = c.args.dropped.now in
    let end = c.min-k-end.ensures in
    let count = c.len.ensures.len in
    let k_end = c.loop-k.auto.k-end in
    let past = c.loop-k-test.false in
    lines_to dropped_line names c.loop-k.k c.args.text.now c.loop-k.text (elim (cases_lt max_told (length names)) [
      | inl more ↦ inr (omega arith)
      | inr few ↦ inl (omega arith, few)
    ]) c.loop-k.invariant
