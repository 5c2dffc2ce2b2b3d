-- The literals of a netlist: the definition at work.
use Rattle.std.proofs.Common.{◌≡◌, ℕ, Bool, [], ◌∷◌, refl, true, false, codes}
use Rattle.si_base.specs.Netlist.{Netlist, SumGate, Gc}
use Rattle.si_base.specs.declared.ids.Literal.{Literal}
use Rattle.si_exercise.specs.Exercise.{literals_of}

abbrev literal : ℕ → Bool → Literal
literal sig plain = record { sig = sig; plain = plain }

-- `z = a b + c'` has three literals, and the generalised C-element with set `a b` and reset `a' b'` four
abbrev two_gates : Netlist
two_gates = record {
  model = codes "m";
  signals = [];
  start = 0;
  inserts = [];
  gates = SumGate ((literal 0 true ∷ literal 1 true ∷ []) ∷ (literal 2 false ∷ []) ∷ [])
      ∷ Gc ((literal 0 true ∷ literal 1 true ∷ []) ∷ []) ((literal 0 false ∷ literal 1 false ∷ []) ∷ [])
      ∷ [];
}

seven_literals : literals_of two_gates ≡ 7
seven_literals = refl
