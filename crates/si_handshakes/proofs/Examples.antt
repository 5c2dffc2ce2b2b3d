-- One handshake, and a state of two, worked.
use Rattle.std.proofs.Common.{◌≡◌, ◌≢◌, ℕ, zero, suc, ◌≤◌, ◌∙◌, true, false, [], ◌∷◌, codes, AllPairs, refl, sym, subst}
use Rattle.std.proofs.Common.{arith, lit<, map}
use Rattle.std.specs.List.{range_with_len}
use Rattle.std.specs.List.Sorted.{IsStrictlySortedBy}
use Rattle.std.proofs.lemmas.Fmt.{decimal_digit}
use Rattle.si_base.specs.declared.graph.Signal.{Signal}
use Rattle.si_base.specs.declared.graph.SigKind.TheVariants.{Input, Output}
use Rattle.si_base.specs.EdgeOrder.{edge_cmp}
use Rattle.si_base.specs.Graph.{arc, rise, fall, kind_place}
use Rattle.si_base.specs.GivenGraph.{Sg}
use Rattle.si_handshakes.specs.Handshakes.{phase, request, acknowledgement, GoesOn, IsHandshakes}
use Rattle.si_handshakes.proofs.NamesNumbered.{both_kinds, kinds_in_order, names_differ}
use Rattle.si_handshakes.proofs.ArcsMade.{made, made_steps, all_steps}
use Rattle.si_handshakes.proofs.DigitLemmas.{later}

-- the arcs of one handshake, of which signal 0 is the request and signal 1 the acknowledgement
one : made 1 4 ≡ arc 0 (rise 0) 1 ∷ arc 1 (rise 1) 2 ∷ arc 2 (fall 0) 3 ∷ arc 3 (fall 1) 0 ∷ []
one = refl

-- the values of request and acknowledgement at its states: 00, 10, 11, 01
requests : map request (range_with_len 0 4) ≡ false ∷ true ∷ true ∷ false ∷ []
requests = refl

acknowledgements : map acknowledgement (range_with_len 0 4) ≡ false ∷ false ∷ true ∷ true ∷ []
acknowledgements = refl

-- at the state 6 of two handshakes, which is 1 * 4 + 2, handshake 0 is in phase 2 and handshake 1 in phase 1
first : phase 6 0 ≡ 2
first = refl

second : phase 6 1 ≡ 1
second = refl

-- from there the fall of the request of handshake 0 leads to 7, and the rise of the acknowledgement of 1 to 10
request_falls : GoesOn 2 6 (fall 0) 7
request_falls = record { handshake = 0; within = lit< tt; event = refl; next = refl; others = others }
  where
    others : (k : ℕ) → k ≢ 0 → phase 7 k ≡ phase 6 k
    others zero other = absurd (other refl)
    others (suc k) other = later 7 k ∙ sym (later 6 k)

acknowledgement_rises : GoesOn 2 6 (rise 3) 10
acknowledgement_rises = record { handshake = 1; within = lit< tt; event = refl; next = refl; others = others }
  where
    others : (k : ℕ) → k ≢ 1 → phase 10 k ≡ phase 6 k
    others zero other = refl
    others (suc zero) other = absurd (other refl)
    others (suc (suc k)) other =
        later 10 (suc k) ∙ later 2 k ∙ sym (later 1 k) ∙ sym (later 6 (suc k))

-- ---- the graph of one handshake, whole
abbrev handshake : Sg
handshake = record {
  model = codes "exercise";
  graph = record {
    signals = record { name = codes "r0"; kind = Input } ∷ record { name = codes "a0"; kind = Output } ∷ [];
    states = 4;
    edges = arc 0 (rise 0) 1 ∷ arc 1 (rise 1) 2 ∷ arc 2 (fall 0) 3 ∷ arc 3 (fall 1) 0 ∷ [];
    start = 0;
  };
  states = codes "s0" ∷ codes "s1" ∷ codes "s2" ∷ codes "s3" ∷ [];
}

its_signals : handshake.graph.signals ≡ both_kinds 1
its_signals = rw (decimal_digit 0 (lit< tt)) refl

in_order : IsStrictlySortedBy edge_cmp handshake.graph.edges
unfolding IsStrictlySortedBy
in_order = ((refl, (refl, (refl, tt))), ((refl, (refl, tt)), ((refl, tt), (tt, tt))))

it_is : IsHandshakes 1 handshake
it_is = record {
  model = refl;
  graph = record {
    few_states = omega arith;
    few_signals = omega arith;
    few_edges = omega arith;
    within = λ k d inside. (let step = all_steps 1 k d inside in (step.from, step.sig, step.to));
    starts = omega arith;
    kinds = subst (AllPairs (λ (x y : Signal). kind_place x.kind ≤ kind_place y.kind)) (sym its_signals)
        (kinds_in_order 1);
    names = subst (AllPairs (λ (x y : Signal). x.name ≢ y.name)) (sym its_signals) (names_differ 1 (omega arith));
    ordered = in_order;
  };
  signals = its_signals;
  count = refl;
  start = refl;
  steps = made_steps 1;
  states = rw (
    decimal_digit 0 (lit< tt),
    decimal_digit 1 (lit< tt),
    decimal_digit 2 (lit< tt),
    decimal_digit 3 (lit< tt),
  ) refl;
}
