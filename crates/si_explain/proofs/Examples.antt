-- The explained conflict of a train of pulses, as a text, and one of kin.
use Rattle.std.proofs.Common.{◌≡◌, ℕ, List, [], ◌∷◌, ◌++◌, Some, None, true, false, refl, codes, lit<, inl, inr}
use Rattle.std.proofs.lemmas.Fmt.{decimal_digit}
use Rattle.si_base.specs.declared.graph.Signal.{Signal}
use Rattle.si_base.specs.declared.graph.SigKind.TheVariants.{Input, Output}
use Rattle.si_base.specs.Codes.{CodedGraph}
use Rattle.si_base.specs.Graph.{StateGraph, arc, fall, rise}
use Rattle.si_base.specs.Proper.{IsConflict}
use Rattle.si_kin.specs.Kin.{AreNext, IsKinConflict}
use Rattle.si_walks.proofs.Examples.{coded_train}
use Rattle.si_explain.specs.ExplainText.{Explained, explain_text, tells_kin, tells_twins, twin_meaning}
use Rattle.si_explain.specs.ExplainText.{unresolvable_lines}

abbrev names : List (List ℕ)
names = codes "s0" ∷ codes "s1" ∷ codes "s2" ∷ codes "s3" ∷ codes "s4" ∷ codes "s5" ∷ []

-- the start and the state after a pulse, which inputs alone lead to from the start
abbrev explained : Explained
explained = record {
  pair = (0, 2);
  to_first = [];
  to_second = rise 0 ∷ fall 0 ∷ [];
  source = Some (record { state = 0; first = []; second = rise 0 ∷ fall 0 ∷ [] });
  twins = true;
  kin = true;
}

told : explain_text coded_train names 1 (explained ∷ [])
    ≡ codes "conflicts 1\nconflict s0 s2\ncode 00\nenables s0 a+\nenables s2 z+\nwalk s0\nwalk s2 a+ a-\n"
    ++ codes "inputs s0 s0\ninputs s0 s2 a+ a-\n"
    ++ codes "unresolvable s0 s2 # inputs alone lead to both states, so no inserted signals tell them apart\n"
unfolding explain_text
told = rw (decimal_digit 1 (lit< tt)) refl

none : explain_text coded_train names 0 [] ≡ codes "conflicts 0\n"
unfolding explain_text
none = rw (decimal_digit 0 (lit< tt)) refl

-- two states that no inputs join, but that are twins
twins_alone : unresolvable_lines names (3, 5) twin_meaning (tells_twins None true)
    ≡ (codes "unresolvable" ∷ codes "s3" ∷ codes "s5" ∷ twin_meaning ∷ []) ∷ []
twins_alone = refl

-- ---- kin that are no twins, and to which inputs alone lead from no state
-- behind x- and then y- the output x may rise before a+, behind y- and then x- only after it
abbrev a : Signal
a = record { name = codes "a"; kind = Input }

abbrev b : Signal
b = record { name = codes "b"; kind = Input }

abbrev x : Signal
x = record { name = codes "x"; kind = Output }

abbrev y : Signal
y = record { name = codes "y"; kind = Output }

abbrev early_output : StateGraph
early_output = record {
  signals = a ∷ b ∷ x ∷ y ∷ [];
  states = 12;
  edges =
      arc 0 (rise 0) 2 ∷ arc 0 (rise 2) 1 ∷ arc 1 (rise 0) 3 ∷ arc 2 (rise 2) 3 ∷ arc 3 (rise 3) 4 ∷ arc 4 (fall 0) 5
      ∷ arc 4 (rise 1) 7 ∷ arc 5 (fall 2) 6 ∷ arc 6 (fall 3) 0 ∷ arc 7 (fall 3) 8 ∷ arc 8 (fall 2) 9
      ∷ arc 9 (fall 0) 10
      ∷ arc 10 (fall 1) 11 ∷ arc 11 (rise 0) 2 ∷ [];
  start = 0;
}

abbrev coded_output : CodedGraph
coded_output = record {
  graph = early_output;
  codes = 0 ∷ 4 ∷ 1 ∷ 5 ∷ 13 ∷ 12 ∷ 8 ∷ 15 ∷ 7 ∷ 3 ∷ 2 ∷ 0 ∷ [];
}

-- s0 enables x+, and s11 doesn't
conflict : IsConflict coded_output (0, 11)
conflict = record {
  order = lit< tt;
  within = lit< tt;
  same_code = refl;
  event = rise 2;
  non_input = (x, refl, refl);
  differ = λ same. cc;
}

to_2 : AreNext coded_output 0 2
to_2 = (rise 0, (a, refl, refl), inl (0, lit< tt, refl))

to_11 : AreNext coded_output 2 11
to_11 = (rise 0, (a, refl, refl), inr (13, lit< tt, refl))

stays : IsKinConflict coded_output (0, 11)
stays = record { conflict = conflict; kin = (2 ∷ 11 ∷ [], (to_2, (to_11, refl))) }

abbrev output_names : List (List ℕ)
output_names = codes "s0" ∷ codes "s1" ∷ codes "s2" ∷ codes "s3" ∷ codes "s4" ∷ codes "s5" ∷ codes "s6" ∷ codes "s7"
    ∷ codes "s8" ∷ codes "s9" ∷ codes "s10" ∷ codes "s11" ∷ []

abbrev explained_kin : Explained
explained_kin = record {
  pair = (0, 11);
  to_first = [];
  to_second = rise 0 ∷ rise 2 ∷ rise 3 ∷ rise 1 ∷ fall 3 ∷ fall 2 ∷ fall 0 ∷ fall 1 ∷ [];
  source = None;
  twins = false;
  kin = true;
}

told_kin : explain_text coded_output output_names 1 (explained_kin ∷ [])
    ≡ codes "conflicts 1\nconflict s0 s11\ncode 0000\nenables s0 a+ x+\nenables s11 a+\nwalk s0\n"
    ++ codes "walk s11 a+ x+ y+ b+ y- x- a- b-\n"
    ++ codes "unresolvable s0 s11 # inputs join them, some backwards, "
    ++ codes "so no signals that delay no input tell them apart\n"
unfolding explain_text
told_kin = rw (decimal_digit 1 (lit< tt)) refl

-- beside twins kin aren't told
twins_first : tells_kin None true true ≡ false
twins_first = refl
