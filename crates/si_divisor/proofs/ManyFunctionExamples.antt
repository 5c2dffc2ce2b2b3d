-- Two functions at once: the majority of the signals 0 and 1 and the own output, and the signal 0 alone.
use Rattle.std.proofs.Common.{◌≡◌, ℕ, zero, suc, Bool, true, false, [], ◌∷◌, refl, sym, ◌∙◌, arith}
use Rattle.si_base.specs.Bits.{bit}
use Rattle.si_base.specs.Codes.{CodedGraph}
use Rattle.si_base.proofs.Booleans.{equals_true}
use Rattle.si_cell.specs.Library.{code_of}
use Rattle.si_divisor.specs.declared.function.Function.{Function}
use Rattle.si_divisor.specs.Functions.{Computes, function_value}
use Rattle.si_divisor.specs.Loops.Columns.{TellsStates}
use Rattle.si_divisor.specs.Loops.ManyFunctions.{AreOpposed, TellsForced}

abbrev majority : Function
majority = record { signals = record { items = 0 ∷ 1 ∷ [] }; table = 232 }

abbrev alone : Function
alone = record { signals = record { items = 0 ∷ [] }; table = 10 }

at_values : (a q : Bool) → bit 10 (code_of (a ∷ q ∷ [])) ≡ a
at_values true true = refl
at_values true false = refl
at_values false true = refl
at_values false false = refl

is_signal : Computes alone (λ code q. bit code 0)
is_signal code q = at_values (bit code 0) q

-- of states at once, it forces 1 where the word of the signal 0 has them
forced_there : (word : ℕ) → TellsStates alone true (word ∷ []) word
forced_there word i code few has =
    has 0 (omega arith) ∙ sym (at_values (bit code 0) false) ∙ equals_true (function_value alone code false)

-- one state, where the signal 0 is 1 and the signal 1 is 0
abbrev one_state : CodedGraph
one_state = record {
  graph = record { signals = []; states = 1; edges = []; start = 0 };
  codes = 1 ∷ [];
}

-- the majority isn't forced to 1 there, the signal 0 is
told : TellsForced one_state (majority ∷ alone ∷ []) true 0 2
told zero d inside = refl
told (suc zero) d inside = refl
told (suc (suc k)) d inside = absurd (omega (arith, inside))

-- the first state is in the one set, the second in the other
opposed : AreOpposed 2 (true ∷ false ∷ []) (false ∷ true ∷ [])
opposed zero early = refl
opposed (suc zero) early = refl
opposed (suc (suc s)) early = absurd (omega (arith, early))
