use Rattle.std.proofs.Common.{◌∙◌, ap₂, sym, ℕ, List, [], ◌∷◌}
use Rattle.std.proofs.lemmas.Result.{err_from_is_err_and}
use Rattle.si_netlist_reader.proofs.ReaderLemmas.{failed}
use Rattle.si_words.specs.Rows.{Left, fault_of}
use Rattle.si_by_hand.specs.GateText.{gate_of_line, line_fault}
use Rattle.si_by_hand.proofs.GateLineLemmas.{new_read, taken_fault, taken_first}
use Rattle.si_by_hand.specs.Loops.Handed.{new_gate_now}
use Rattle.si_by_hand.proofs.gate_text.read_gate_text.Goals as goal

pub returns-in_err-made-clause-gives : goal.returns-in_err-made-clause-gives
returns-in_err-made-clause-gives c =
    let p = err_from_is_err_and c.from_residual-in_err-made.result c.from_residual-in_err-made.ensures.1 in
    let fault : List (List ℕ) → Left → _ = λ ns l. fault_of (line_fault ns ∷ []) l in
    failed new_gate_now c.from_residual-in_err-made.result _ _ _ _ _ p.1 p.2
    (ap₂ fault (sym c.in_ok-names.ensures) (sym c.new-rows.ensures)) (c.in_err-made.ensures.err [])

pub returns-clause-new : goal.returns-clause-new
returns-clause-new c =
    let names = c.in_ok-names.names in
    let text = c.args.text.now in
    let takes = c.in_ok-made.ensures.ok in
    let none = taken_fault (line_fault names) (gate_of_line names) text _ _ _ c.new-rows.ensures takes in
    new_read c.args.signals.now names text (new_gate_now c.in_ok-made.made) c.in_ok-names.ensures
    (none ∙ c.in_ok-finish.ensures.ok)
    (taken_first (line_fault names) (gate_of_line names) text _ _ _ c.new-rows.ensures takes)
