-- Candidates at work: two outputs, one late, where a part has both levels, and an output that follows pulses of an
-- input, where there are classes.
use Rattle.std.proofs.Common.{◌≡◌, ℕ, zero, suc, ◌<◌, Bool, true, false, List, [], ◌∷◌, refl, arith, inl, inr}
use Rattle.si_base.specs.declared.graph.SigKind.TheVariants.{Input, Output}
use Rattle.si_base.specs.Graph.{StateGraph, arc, rise, fall}
use Rattle.si_insert.specs.declared.partition.Class.{Class}
use Rattle.si_insert.specs.declared.partition.Class.TheVariants.{Low, Rising, High, Falling}
use Rattle.si_insert.specs.Partition.{class_of}
use Rattle.si_insert.proofs.PartitionClasses.{same_classes}
use Rattle.si_candidates.specs.Parts.{IsOther, IsHigh, IsLow, AreClasses, HasBothLevels}
use Rattle.si_candidates.proofs.PartLaws.{torn_have_none}

-- ---- y and z rise in any order, then y falls, then z; the new signal is to rise in s1 and to fall in s4
abbrev lagging : StateGraph
lagging = record {
  signals = record { name = 121 ∷ []; kind = Output } ∷ record { name = 122 ∷ []; kind = Output } ∷ [];
  states = 5;
  edges = arc 0 (rise 0) 1 ∷ arc 0 (rise 1) 2 ∷ arc 1 (rise 1) 3 ∷ arc 2 (rise 0) 3 ∷ arc 3 (fall 0) 4
      ∷ arc 4 (fall 1) 0 ∷ [];
  start = 0;
}

abbrev in_s1 : List Bool
in_s1 = false ∷ true ∷ false ∷ false ∷ false ∷ []

abbrev in_s4 : List Bool
in_s4 = false ∷ false ∷ false ∷ false ∷ true ∷ []

out : {b : Bool} → b ≡ false → b ≡ true → ⊥
out low high = cc

other_0 : IsOther lagging in_s1 in_s4 0
other_0 = record { within = omega arith; not_plus = out refl; not_minus = out refl }

other_2 : IsOther lagging in_s1 in_s4 2
other_2 = record { within = omega arith; not_plus = out refl; not_minus = out refl }

other_3 : IsOther lagging in_s1 in_s4 3
other_3 = record { within = omega arith; not_plus = out refl; not_minus = out refl }

-- s3 is in the part of s0, by s2, and is entered from s1; s0 is entered from s4
torn : HasBothLevels lagging in_s1 in_s4 0
torn = record {
  high = record {
    at = 3;
    part = record {
      begins = other_0;
      path = 2 ∷ 3 ∷ [];
      leads = (inl (rise 1, (1, omega arith, refl)), other_2, (inl (rise 0, (3, omega arith, refl)), other_3, refl));
    };
    by = inl (1, rise 1, refl, (2, omega arith, refl));
  };
  low = record {
    at = 0;
    part = record { begins = other_0; path = []; leads = refl };
    by = inl (4, fall 1, refl, (5, omega arith, refl));
  };
}

none : (classes : List Class) → AreClasses lagging in_s1 in_s4 classes → ⊥
none classes are = torn_have_none lagging in_s1 in_s4 classes 0 are torn

-- ---- an input pulses twice, and an output switches after each pulse: the new signal is to rise after the first pulse,
-- in s2, and to fall after the second one, in s5
abbrev pulses : StateGraph
pulses = record {
  signals = record { name = 97 ∷ []; kind = Input } ∷ record { name = 122 ∷ []; kind = Output } ∷ [];
  states = 6;
  edges = arc 0 (rise 0) 1 ∷ arc 1 (fall 0) 2 ∷ arc 2 (rise 1) 3 ∷ arc 3 (rise 0) 4 ∷ arc 4 (fall 0) 5
      ∷ arc 5 (fall 1) 0 ∷ [];
  start = 0;
}

abbrev in_s2 : List Bool
in_s2 = false ∷ false ∷ true ∷ false ∷ false ∷ false ∷ []

abbrev in_s5 : List Bool
in_s5 = false ∷ false ∷ false ∷ false ∷ false ∷ true ∷ []

high_3 : IsHigh pulses in_s2 in_s5 3
high_3 = record {
  at = 3;
  part = record {
    begins = record { within = omega arith; not_plus = out refl; not_minus = out refl };
    path = [];
    leads = refl;
  };
  by = inl (2, rise 1, refl, (2, omega arith, refl));
}

high_4 : IsHigh pulses in_s2 in_s5 4
high_4 = record {
  at = 4;
  part = record {
    begins = record { within = omega arith; not_plus = out refl; not_minus = out refl };
    path = [];
    leads = refl;
  };
  by = inr (5, fall 0, refl, (4, omega arith, refl));
}

low_0 : IsLow pulses in_s2 in_s5 0
low_0 = record {
  at = 0;
  part = record {
    begins = record { within = omega arith; not_plus = out refl; not_minus = out refl };
    path = [];
    leads = refl;
  };
  by = inl (5, fall 1, refl, (5, omega arith, refl));
}

low_1 : IsLow pulses in_s2 in_s5 1
low_1 = record {
  at = 1;
  part = record {
    begins = record { within = omega arith; not_plus = out refl; not_minus = out refl };
    path = [];
    leads = refl;
  };
  by = inr (2, fall 0, refl, (1, omega arith, refl));
}

abbrev halves : List Class
halves = Low ∷ Low ∷ Rising ∷ High ∷ High ∷ Falling ∷ []

-- they have no other classes
these : (classes : List Class) → AreClasses pulses in_s2 in_s5 classes → classes ≡ halves
these classes are = same_classes classes halves are.count (λ s below. each s (omega (arith, below, are.count)))
  where
    each : (s : ℕ) → s < 6 → class_of classes s ≡ class_of halves s
    each zero below = (are.low 0 below).1 low_0
    each (suc zero) below = (are.low 1 below).1 low_1
    each (suc (suc zero)) below = (are.rising 2 below).1 refl
    each (suc (suc (suc zero))) below = (are.high 3 below).1 high_3
    each (suc (suc (suc (suc zero)))) below = (are.high 4 below).1 high_4
    each (suc (suc (suc (suc (suc zero))))) below = (are.falling 5 below).1 refl
    each (suc (suc (suc (suc (suc (suc s)))))) below = absurd (omega arith)
