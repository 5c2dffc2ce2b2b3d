-- What readers hold and answer, as the definitions see it.
use Rattle.std.specs.Prelude.{◌≡◌, ℕ, reverse, Option, Some, None, Result, Ok, Err}
use Rattle.si_words.specs.Loops.Reads.{words_now}
use Rattle.si_tokens.specs.declared.fault.ReadFault.{ReadFault}
use Rattle.si_tokens.specs.declared.fault.ReadFault.TheVariants as faults
use Rattle.si_tokens.specs.declared.fault.Stop.TheVariants as stops
use Rattle.si_base.specs.declared.fault.LineFault.{LineFault}
use Rattle.si_base.specs.declared.fault.LineFault.TheVariants as line_faults
use Rattle.si_genlib.specs.declared.expression.Reading.{Reading}
use Rattle.si_genlib.specs.declared.pins.PinList.{PinList}
use Rattle.si_genlib.specs.Expression.{State, Outcome, Goes, Ends, Stops}
use Rattle.si_genlib.specs.Gate.{Pins}
use Rattle.si_genlib.specs.Statements.{Progress}
use Rattle.si_genlib.specs.declared.statements.Progress.{Progress as ProgressHeld}
use Rattle.si_genlib.specs.Loops.Tables.{TabledGate}
use Rattle.si_genlib.specs.declared.gate.Gate.{Gate as GateHeld}

-- ---- values

-- the operators that aren't finished stand the last last
abbrev pub state_now : Reading → State ℕ
state_now r = record {
  operand = r.operand;
  unfinished = reverse r.unfinished.items;
  terms = r.terms;
  factors = r.factors;
}

abbrev pub pins_now : PinList → Pins
pins_now p = record { names = words_now p.names.items; more = p.more; own = p.own }

abbrev pub gate_now : GateHeld → TabledGate
gate_now g = record {
  line = g.line;
  name = g.name.now;
  out = g.out.now;
  pins = pins_now g.pins;
  table = g.table;
}

abbrev pub progress_now : ProgressHeld → Progress
progress_now p = record { cells = p.cells.items; ports = p.ports.items; begun = p.begun }

-- ---- answers

abbrev pub StopsWith : LineFault → Outcome ℕ → Type 0
StopsWith line_faults.NoMemory outcome = Unit {0}
StopsWith (line_faults.Kind kind) outcome = outcome ≡ Stops kind

abbrev pub LeadsOn : Option ℕ → State ℕ → Outcome ℕ → Type 0
LeadsOn None new outcome = outcome ≡ Goes new
LeadsOn (Some x) new outcome = outcome ≡ Ends x

-- a token's fault, with its line
abbrev pub ToldAt : LineFault → ℕ → ReadFault → Type 0
ToldAt line_faults.NoMemory line fault = fault ≡ faults.NoMemory
ToldAt (line_faults.Kind kind) line fault = fault ≡ faults.Stop (stops.Fault line kind)

-- the symbol leads to the new state or to the value of the expression, or it stops there
abbrev pub Steps : Result (Option ℕ) LineFault → State ℕ → Outcome ℕ → Type 0
Steps (Ok o) new outcome = LeadsOn o new outcome
Steps (Err e) new outcome = StopsWith e outcome
