-- A C-element settles by itself; a latch doesn't; and a gate may switch round and round before another settles.
use Rattle.std.proofs.Common.{◌≡◌, ℕ, true, false, [], ◌∷◌, refl, sym, arith, Some}
use Rattle.std.proofs.lemmas.Bool.{true≢false}
use Rattle.si_base.specs.declared.ids.Literal.{Literal}
use Rattle.si_base.specs.declared.graph.Signal.{Signal}
use Rattle.si_base.specs.declared.graph.SigKind.{SigKind}
use Rattle.si_base.specs.declared.graph.SigKind.TheVariants.{Input, Output}
use Rattle.si_base.specs.Netlist.{Netlist, SumGate, IsExcited}
use Rattle.si_settled.specs.Settling.{IsShown, Runs, is_among, shows_if_there}

abbrev plain : ℕ → Literal
plain a = record { sig = a; plain = true }

abbrev other : ℕ → Literal
other a = record { sig = a; plain = false }

abbrev signal : ℕ → SigKind → Signal
signal name kind = record { name = name ∷ []; kind = kind }

-- c = a b + a c + b c, with a and b as inputs, all at 0
abbrev c_element : Netlist
c_element = record {
  model = [];
  signals = signal 97 Input ∷ signal 98 Input ∷ signal 99 Output ∷ [];
  start = 0;
  inserts = [];
  gates = SumGate ((plain 0 ∷ plain 1 ∷ []) ∷ (plain 0 ∷ plain 2 ∷ []) ∷ (plain 1 ∷ plain 2 ∷ []) ∷ []) ∷ [];
}

-- with its inputs at 0 the C-element is shown
c_is_shown : IsShown c_element (0 ∷ 1 ∷ []) 2
c_is_shown = refl

-- with one of them alone it isn't
c_is_not : shows_if_there (is_among (0 ∷ [])) 0 (Some (SumGate ((plain 0 ∷ plain 1 ∷ []) ∷ (plain 0 ∷ plain 2 ∷ []) ∷ (plain 1 ∷ plain 2 ∷ []) ∷ []))) false ≡ false
c_is_not = refl

-- x = x' y' and y = 1, without inputs: y settles, and then x; but while y hasn't switched yet x goes round and round
abbrev restless : Netlist
restless = record {
  model = [];
  signals = signal 120 Output ∷ signal 121 Output ∷ [];
  start = 2;
  inserts = [];
  gates = SumGate ((other 0 ∷ other 1 ∷ []) ∷ []) ∷ SumGate ([] ∷ []) ∷ [];
}

y_is_shown : IsShown restless [] 1
y_is_shown = refl

x_is_shown : IsShown restless (1 ∷ []) 0
x_is_shown = refl

excited_low : IsExcited restless 0 0
excited_low = record { gate = (signal 120 Output, refl, refl); differs = λ same. true≢false same }

excited_high : IsExcited restless 1 0
excited_high = record { gate = (signal 120 Output, refl, refl); differs = λ same. true≢false (sym same) }

-- the schedule x+ x- leads back to where it begins: no bound holds of all schedules
round_and_round : Runs restless [] 0 (0 ∷ 0 ∷ []) 0
round_and_round = (
  1,
  record { free = λ h. omega (arith, h.1); excited = excited_low; new_values = refl },
  (0, record { free = λ h. omega (arith, h.1); excited = excited_high; new_values = refl }, refl),
)
