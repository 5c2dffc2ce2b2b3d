use Rattle.std.proofs.Common.{◌≡◌, ℕ, Option, Some, None, Result, Err, ◌≤◌, length, refl, sym, subst, ◌∙◌}
use Rattle.si_tokens.specs.declared.fault.ReadFault.{ReadFault}
use Rattle.si_tokens.specs.declared.fault.Stop.{Stop}
use Rattle.si_tokens.specs.declared.fault.Stop.TheVariants.{Fault}
use Rattle.si_base.specs.declared.fault.LineFault.{LineFault}
use Rattle.si_base.specs.declared.fault.LineFault.TheVariants as line_faults
use Rattle.si_base.specs.declared.fault.TextKind.{TextKind}
use Rattle.si_cell.specs.Limits.{max_pins}
use Rattle.si_genlib.specs.Gate.{Pins}
use Rattle.si_tokens.specs.Unread.{tokens}
use Rattle.si_genlib.specs.Expression.{State, Outcome, Goes, Ends, Stops}
use Rattle.si_tokens.specs.Loops.Parts.{left, piece, Shows}
use Rattle.si_genlib.specs.Loops.Held.{pins_now, state_now, LeadsOn, StopsWith, ToldAt}
use Rattle.si_tokens.proofs.SourceLemmas.{token_smaller}
use Rattle.si_genlib.proofs.ExpressionReads.{Taken, goes_on, ends_there, stops_there, pins_few}
use Rattle.si_genlib.proofs.gate.read_expression.Goals as goal

goes_so : (o : Option ℕ) (t : State ℕ) (c : Outcome ℕ) → o ≡ None → LeadsOn o t c → c ≡ Goes t
goes_so None t c is on = on
goes_so (Some x) t c is on = absurd cc

ends_so : (o : Option ℕ) (t : State ℕ) (c : Outcome ℕ) (x : ℕ) → o ≡ Some x → LeadsOn o t c → c ≡ Ends x
ends_so None t c x is on = absurd cc
ends_so (Some y) t c x is on = cc

stops_so : {Y : Type 0} (e : LineFault) (line : ℕ) (f : ReadFault) (c : Outcome ℕ) (r : Result Y Stop)
    → StopsWith e c → ToldAt e line f
    → ((kind : TextKind) → c ≡ Stops kind → r ≡ Err (Fault line kind)) → Shows f r
stops_so line_faults.NoMemory line f c r on told next = rw told tt
stops_so (line_faults.Kind kind) line f c r on told next = rw told (next kind on)

pub loop-token-smaller : goal.loop-token-smaller
loop-token-smaller c = token_smaller (left c.loop-token.source) (piece c.in-Some.token (left c.next_token.new.self))
    (tokens (left c.next_token.new.self)) c.in-Some.ensures

pub loop-token-preserved : goal.loop-token-preserved
loop-token-preserved c =
    let taken : Taken c.args.out.now (pins_now c.loop-token.pins) (pins_now c.symbol_of.new.pins)
    (tokens (left c.loop-token.source))
    (tokens (left c.next_token.new.self)) (piece c.in-Some.token
    (left c.next_token.new.self)) c.in_ok-symbol.symbol = record {
      first = c.in-Some.ensures;
      pins_are = c.in_ok-symbol.ensures.pins;
      symbol_is = c.in_ok-symbol.ensures.symbol;
      lawful = c.loop-token.invariant.lawful;
    } in
    let on = goes_so c.in-Ok-None.field-0 (state_now c.step.new.self) _ c.in-Ok-None.field-0-is c.in-Ok-None.ensures in
    let next = goes_on _ _ _ _ _ _ _ taken _ _
    (state_now c.step.new.self) _ on c.loop-token.invariant.pins c.loop-token.invariant.read in
    record { pins = next.0; read = next.1; lawful = next.2 }

pub returns-in-Ok-Some-clause-table : goal.returns-in-Ok-Some-clause-table
returns-in-Ok-Some-clause-table c =
    let taken : Taken c.args.out.now (pins_now c.loop-token.pins) (pins_now c.symbol_of.new.pins)
    (tokens (left c.loop-token.source))
    (tokens (left c.next_token.new.self)) (piece c.in-Some.token
    (left c.next_token.new.self)) c.in_ok-symbol.symbol = record {
      first = c.in-Some.ensures;
      pins_are = c.in_ok-symbol.ensures.pins;
      symbol_is = c.in_ok-symbol.ensures.symbol;
      lawful = c.loop-token.invariant.lawful;
    } in
    let on = ends_so c.in-Ok-Some.field-0
    (state_now c.step.new.self) _ c.in-Ok-Some.table c.in-Ok-Some.field-0-is c.in-Ok-Some.ensures in
    let last = ends_there _ _ _ _ _ _ _ taken _ _ c.in-Ok-Some.table _ on c.loop-token.invariant.pins
    c.loop-token.invariant.read in
    last.0 ∙ (rw c.in-Ok-Some.table-is refl)

pub returns-in-Ok-Some-clause-pins : goal.returns-in-Ok-Some-clause-pins
returns-in-Ok-Some-clause-pins c =
    let taken : Taken c.args.out.now (pins_now c.loop-token.pins) (pins_now c.symbol_of.new.pins)
    (tokens (left c.loop-token.source))
    (tokens (left c.next_token.new.self)) (piece c.in-Some.token
    (left c.next_token.new.self)) c.in_ok-symbol.symbol = record {
      first = c.in-Some.ensures;
      pins_are = c.in_ok-symbol.ensures.pins;
      symbol_is = c.in_ok-symbol.ensures.symbol;
      lawful = c.loop-token.invariant.lawful;
    } in
    let on = ends_so c.in-Ok-Some.field-0
    (state_now c.step.new.self) _ c.in-Ok-Some.table c.in-Ok-Some.field-0-is c.in-Ok-Some.ensures in
    (ends_there _ _ _ _ _ _ _ taken _ _ c.in-Ok-Some.table _ on c.loop-token.invariant.pins
    c.loop-token.invariant.read).1

pub returns-in-Err-clause-table : goal.returns-in-Err-clause-table
returns-in-Err-clause-table c =
    let taken : Taken c.args.out.now (pins_now c.loop-token.pins) (pins_now c.symbol_of.new.pins)
    (tokens (left c.loop-token.source))
    (tokens (left c.next_token.new.self)) (piece c.in-Some.token
    (left c.next_token.new.self)) c.in_ok-symbol.symbol = record {
      first = c.in-Some.ensures;
      pins_are = c.in_ok-symbol.ensures.pins;
      symbol_is = c.in_ok-symbol.ensures.symbol;
      lawful = c.loop-token.invariant.lawful;
    } in
    stops_so c.in-Err.fault c.in-Some.token.line c.at_line.result _ _ c.in-Err.ensures c.at_line.ensures
    (λ kind on. stops_there _ _ _ _ _ _ _ taken _ _ kind _ on c.loop-token.invariant.pins c.loop-token.invariant.read)

pub returns-in-Ok-Some-clause-few : goal.returns-in-Ok-Some-clause-few
returns-in-Ok-Some-clause-few c = subst (λ (p : Pins). length p.names ≤ max_pins)
    (sym (returns-in-Ok-Some-clause-pins c))
    (pins_few c.args.out.now (tokens (left c.args.source.now)))
