-- A pulse of `a` may come before `o` rises, and which output follows depends on it: no input walk joins
-- the two states of the conflict, and still no insertions resolve it.
use Rattle.std.proofs.Common.{[], ◌∷◌, refl, codes, lit<}
use Rattle.si_base.specs.declared.graph.Signal.{Signal}
use Rattle.si_base.specs.declared.graph.SigKind.TheVariants.{Input, Output}
use Rattle.si_base.specs.Graph.{StateGraph, arc, rise, fall}
use Rattle.si_base.specs.Codes.{CodedGraph}
use Rattle.si_base.specs.Proper.{IsConflict}
use Rattle.si_walks.specs.Twins.{OfFirst, OfBoth, IsTwinConflict}

abbrev a : Signal
a = record { name = codes "a"; kind = Input }

abbrev o : Signal
o = record { name = codes "o"; kind = Output }

abbrev y : Signal
y = record { name = codes "y"; kind = Output }

abbrev late_pulse : StateGraph
late_pulse = record {
  signals = a ∷ o ∷ record { name = codes "z"; kind = Output } ∷ y ∷ [];
  states = 10;
  edges =
      arc 0 (rise 0) 1 ∷ arc 0 (rise 1) 6 ∷ arc 1 (fall 0) 2 ∷ arc 1 (rise 1) 9 ∷ arc 2 (rise 1) 3 ∷ arc 3 (rise 3) 4
      ∷ arc 4 (fall 1) 5 ∷ arc 5 (fall 3) 0 ∷ arc 6 (rise 2) 7 ∷ arc 7 (fall 1) 8 ∷ arc 8 (fall 2) 0 ∷ arc 9 (fall 0) 3
      ∷ [];
  start = 0;
}

abbrev coded_pulse : CodedGraph
coded_pulse = record { graph = late_pulse; codes = 0 ∷ 1 ∷ 0 ∷ 2 ∷ 10 ∷ 8 ∷ 2 ∷ 6 ∷ 4 ∷ 3 ∷ [] }

-- s3 enables y+, and s6 doesn't
conflict : IsConflict coded_pulse (3, 6)
conflict = record {
  order = lit< tt;
  within = lit< tt;
  same_code = refl;
  event = rise 3;
  non_input = (y, refl, refl);
  differ = λ same. cc;
}

-- the pulse leads from s0 to s2, of one code; then o rises at both
stays : IsTwinConflict coded_pulse (3, 6)
stays = record {
  conflict = conflict;
  twins = record {
    source = 0;
    within = lit< tt;
    moves = OfFirst (rise 0) ∷ OfFirst (fall 0) ∷ OfBoth (rise 1) ∷ [];
    lead = (
      1,
      (a, refl, refl),
      (0, lit< tt, refl),
      (
        2,
        (a, refl, refl),
        (2, lit< tt, refl),
        (3, 6, refl, (o, refl, refl), (4, lit< tt, refl), (1, lit< tt, refl), (refl, refl)),
      ),
    );
  };
}
