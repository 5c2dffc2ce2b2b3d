-- A train of pulses: each second pulse of the input switches the output.
use Rattle.std.proofs.Common.{◌≡◌, List, [], ◌∷◌, refl, codes, lit<, inl}
use Rattle.si_base.specs.declared.graph.Signal.{Signal}
use Rattle.si_base.specs.declared.graph.SigKind.TheVariants.{Input, Output}
use Rattle.si_base.specs.Graph.{StateGraph, arc, rise, fall}
use Rattle.si_base.specs.Codes.{CodedGraph}
use Rattle.si_base.specs.Proper.{IsConflict}
use Rattle.si_walks.specs.Paths.{path_place}
use Rattle.si_walks.specs.Walks.{InputsLead}
use Rattle.si_walks.specs.Joined.{IsJoinedConflict}
use Rattle.si_walks.proofs.Joined.{walk_joins}

abbrev pub signals : List Signal
signals = record { name = codes "a"; kind = Input } ∷ record { name = codes "z"; kind = Output } ∷ []

-- a 0, z 1
abbrev pub pulse_train : StateGraph
pulse_train = record {
  signals = signals;
  states = 6;
  edges =
      arc 0 (rise 0) 1 ∷ arc 1 (fall 0) 2 ∷ arc 2 (rise 1) 3 ∷ arc 3 (rise 0) 4 ∷ arc 4 (fall 0) 5 ∷ arc 5 (fall 1) 0
      ∷ [];
  start = 0;
}

abbrev pub coded_train : CodedGraph
coded_train = record { graph = pulse_train; codes = 0 ∷ 1 ∷ 0 ∷ 2 ∷ 3 ∷ 2 ∷ [] }

-- s2 enables z+, and s0 doesn't
conflict : IsConflict coded_train (0, 2)
conflict = record {
  order = lit< tt;
  within = lit< tt;
  same_code = refl;
  event = rise 1;
  non_input = (record { name = codes "z"; kind = Output }, refl, refl);
  differ = λ same. cc;
}

-- `a+` and `a-` lead from s0 to s2
joined : InputsLead pulse_train 0 2
joined =
    let input : Signal = record { name = codes "a"; kind = Input } in (
      rise 0 ∷ fall 0 ∷ [],
      (1, (input, refl, refl), (0, lit< tt, refl), (2, (input, refl, refl), (1, lit< tt, refl), refl)),
    )

-- so it stays unresolved
stays : IsJoinedConflict coded_train (0, 2)
stays = walk_joins coded_train (0, 2) conflict (inl joined)

-- ---- the place of the path along `a+` and `a-`: two arcs, each with its event and its target
place : path_place (arc 0 (rise 0) 1 ∷ arc 1 (fall 0) 2 ∷ []) ≡ 2 ∷ 0 ∷ 1 ∷ 1 ∷ 2 ∷ []
place = refl

-- ---- two inputs pulse in turn, by choice, and each has an answer of its own
abbrev choice_signals : List Signal
choice_signals = record { name = codes "a"; kind = Input } ∷ record { name = codes "b"; kind = Input } ∷ record {
  name = codes "y";
  kind = Output;
} ∷ record { name = codes "z"; kind = Output } ∷ []

-- a 0, b 1, y 2, z 3: after a pulse of a comes y+, after one of b comes z+
abbrev choice : StateGraph
choice = record {
  signals = choice_signals;
  states = 7;
  edges =
      arc 0 (rise 0) 1 ∷ arc 0 (rise 1) 3 ∷ arc 1 (fall 0) 2 ∷ arc 2 (rise 2) 5 ∷ arc 3 (fall 1) 4 ∷ arc 4 (rise 3) 6
      ∷ arc 5 (fall 2) 0 ∷ arc 6 (fall 3) 0 ∷ [];
  start = 0;
}

abbrev coded_choice : CodedGraph
coded_choice = record { graph = choice; codes = 0 ∷ 1 ∷ 0 ∷ 2 ∷ 0 ∷ 4 ∷ 8 ∷ [] }

-- s2 and s4 are a conflict, and no input event leaves either: input events join them from s0
joined_from_another : IsJoinedConflict coded_choice (2, 4)
joined_from_another =
    let a : Signal = record { name = codes "a"; kind = Input } in
    let b : Signal = record { name = codes "b"; kind = Input } in
    record {
      conflict = record {
        order = lit< tt;
        within = lit< tt;
        same_code = refl;
        event = rise 2;
        non_input = (record { name = codes "y"; kind = Output }, refl, refl);
        differ = λ same. cc;
      };
      source = 0;
      to_first = (
        rise 0 ∷ fall 0 ∷ [],
        (1, (a, refl, refl), (0, lit< tt, refl), (2, (a, refl, refl), (2, lit< tt, refl), refl)),
      );
      to_second = (
        rise 1 ∷ fall 1 ∷ [],
        (3, (b, refl, refl), (1, lit< tt, refl), (4, (b, refl, refl), (4, lit< tt, refl), refl)),
      );
    }
