-- The two-input C-element: the definitions at work.
use Rattle.std.proofs.Common.{◌≡◌, ℕ, ◌==◌, ◌&&◌, ◌||◌, not, Bool, true, false, List, [], ◌∷◌, refl, Some, None, codes}
use Rattle.std.proofs.Common.{◌++◌, nat_le, lit<, leb-true, sym, eqb-true, inl, inr}
use Rattle.si_base.specs.declared.ids.Event.{Event}
use Rattle.si_base.specs.declared.ids.Literal.{Literal}
use Rattle.si_base.specs.declared.graph.Signal.{Signal}
use Rattle.si_base.specs.declared.graph.SigKind.TheVariants.{Input, Output}
use Rattle.si_base.specs.Bits.{bit, ones}
use Rattle.si_base.specs.Bytes.{line_feed, space, first_visible, hash, apostrophe, plus, minus, dot, slash, digit_zero}
use Rattle.si_base.specs.Bytes.{digit_one, digit_nine, less_sign, greater_sign, at_sign, first_capital, last_capital}
use Rattle.si_base.specs.Bytes.{opening_bracket, closing_bracket, underscore, first_small, last_small, opening_brace}
use Rattle.si_base.specs.Bytes.{closing_brace, tilde}
use Rattle.si_base.specs.Graph.{StateGraph, Step, IsReachable, arc, rise, fall, enables, same_event}
use Rattle.si_base.specs.Codes.{CodedGraph, code, next_value, AreValues, parity}
use Rattle.si_base.specs.Proper.{IsConflict}
use Rattle.si_base.specs.Netlist.{Sum, SumGate, Netlist, gate_value}
use Rattle.si_base.specs.System.{State, Fires}
use Rattle.si_base.specs.Behaviour.{IsBisimilar}
use Rattle.si_base.specs.NetlistText.{Version1, netlist_text, netlist_text_in}
use mathlib.Core.Bool.{beq}
use Rattle.std.proofs.lemmas.Bool.{and_parts, or_cases}
use Rattle.si_base.proofs.GraphSteps.{all_arcs, beq-true}

abbrev signals : List Signal
signals = record { name = codes "a"; kind = Input } ∷ record { name = codes "b"; kind = Input }
    ∷ record { name = codes "c"; kind = Output } ∷ []

abbrev c_element : StateGraph
c_element = record {
  signals = signals;
  states = 8;
  edges = arc 0 (rise 0) 1 ∷ arc 0 (rise 1) 2 ∷ arc 1 (rise 1) 3 ∷ arc 2 (rise 0) 3 ∷ arc 3 (rise 2) 4
      ∷ arc 4 (fall 0) 5 ∷ arc 4 (fall 1) 6 ∷ arc 5 (fall 1) 7 ∷ arc 6 (fall 0) 7 ∷ arc 7 (fall 2) 0 ∷ [];
  start = 0;
}

abbrev pub coded : CodedGraph
coded = record { graph = c_element; codes = 0 ∷ 1 ∷ 2 ∷ 3 ∷ 7 ∷ 6 ∷ 5 ∷ 4 ∷ [] }

abbrev plain : ℕ → Literal
plain a = record { sig = a; plain = true }

abbrev net : Sum → Netlist
net sum = record { model = codes "c2"; signals = signals; start = 0; inserts = []; gates = SumGate sum ∷ [] }

-- a b + b c + a c
abbrev majority : Netlist
majority = net ((plain 0 ∷ plain 1 ∷ []) ∷ (plain 1 ∷ plain 2 ∷ []) ∷ (plain 0 ∷ plain 2 ∷ []) ∷ [])

-- the gate c is a alone
abbrev wrong : Netlist
wrong = net ((plain 0 ∷ []) ∷ [])

-- s3 has the code 110
s3_code : (bit (code coded 3) 0 ≡ true) × (bit (code coded 3) 1 ≡ true) × (bit (code coded 3) 2 ≡ false)
s3_code = (refl, refl, refl)

-- the next value of c at s3 is 1, and so is the gate's value
s3_next : next_value coded 3 2 ≡ true
s3_next = refl

s3_gate : gate_value majority 2 3 ≡ true
s3_gate = refl

-- the wrong gate has the value 1 at 100
s1_wrong : gate_value wrong 2 1 ≡ true
s1_wrong = refl

-- the arc s3 c+ s4
s3_step : Step c_element 3 (rise 2) 4
s3_step = (4, lit< tt, refl)

s3_enables : enables c_element 3 (rise 2) ≡ true
s3_enables = refl

not-true : (b : Bool) → not b ≡ true → b ≡ false
not-true true h = cc
not-true false h = refl

abbrev at_code : ℕ → ℕ → State
at_code values s = record { values = values; place = Some s }

true≢false' : true ≡ false → ⊥
true≢false' h = cc

-- c+ is a step at 110 and s3, and leads to 111 and s4
c_rises : Fires c_element majority (at_code 3 3) (rise 2) (at_code 7 4)
c_rises = record {
  at = 3;
  not_astray = refl;
  signal = record { name = codes "c"; kind = Output };
  named = refl;
  old_value = refl;
  new_values = refl;
  may = (
    record { gate = (record { name = codes "c"; kind = Output }, refl, refl); differs = true≢false' },
    record
        { step = s3_step; least = λ u step. leb-true 4 u (one_target u step) },
  );
}
  where
    one_target : (u : ℕ) → Step c_element 3 (rise 2) u → nat_le 4 u ≡ true
    one_target u step = all_arcs (λ a. not ((a.from == 3) && same_event a.event (rise 2)) || nat_le 4 a.to) c_element 3
        (rise 2) u refl step

-- the wrong gate leads astray at s1
astray : Fires c_element wrong (at_code 1 1) (rise 2) (record { values = 5; place = None })
astray = record {
  at = 1;
  not_astray = refl;
  signal = record { name = codes "c"; kind = Output };
  named = refl;
  old_value = refl;
  new_values = refl;
  may = (
    record { gate = (record { name = codes "c"; kind = Output }, refl, refl); differs = true≢false' },
    λ enabled. true≢false' (sym enabled),
  );
}

a_rises : Fires c_element wrong (at_code 0 0) (rise 0) (at_code 1 1)
a_rises = record {
  at = 0;
  not_astray = refl;
  signal = record { name = codes "a"; kind = Input };
  named = refl;
  old_value = refl;
  new_values = refl;
  may = (refl, record { step = (0, lit< tt, refl); least = λ u step. leb-true 1 u (one_target u step) });
}
  where
    one_target : (u : ℕ) → Step c_element 0 (rise 0) u → nat_le 1 u ≡ true
    one_target u step = all_arcs (λ a. not ((a.from == 0) && same_event a.event (rise 0)) || nat_le 1 a.to) c_element 0
        (rise 0) u refl step

-- so the wrong netlist isn't bisimilar to the graph
wrong_refuted : IsBisimilar c_element wrong → ⊥
wrong_refuted is =
    absurd
    (true≢false'
    (sym (is.never_astray (record { values = 5; place = None })
    (rise 0 ∷ rise 2 ∷ [], (at_code 1 1, a_rises, ((record { values = 5; place = None }), astray, refl))))))

-- ---- a walk, values, a conflict
-- a+, b+ and c+ lead from the start to s4
s4_reachable : IsReachable c_element 4
s4_reachable =
    (rise 0 ∷ rise 1 ∷ rise 2 ∷ [], (1, (0, lit< tt, refl), (3, (2, lit< tt, refl), (4, (4, lit< tt, refl), refl))))

-- the value of a in the codes suits the arcs
a_values : AreValues c_element 0 (λ s. bit (code coded s) 0)
a_values = record {
  rises = λ s t step. (
      let both =
      and_parts _ _
      (all_arcs (λ x. not (same_event x.event (rise 0))
      || (not (bit (code coded x.from) 0) && bit (code coded x.to) 0)) c_element s (rise 0) t refl step) in
      (not-true _ both.0, both.1));
  falls = λ s t step. (
      let both =
      and_parts _ _
      (all_arcs (λ x. not (same_event x.event (fall 0))
      || (bit (code coded x.from) 0 && not (bit (code coded x.to) 0))) c_element s (fall 0) t refl step) in
      (both.0, not-true _ both.1));
  keeps = λ s t e other step. kept e (bit (code coded s) 0) (bit (code coded t) 0) other
      (all_arcs (λ x. (x.event.sig == 0) || beq (bit (code coded x.to) 0) (bit (code coded x.from) 0)) c_element s e t
      refl step);
  idle = λ idle s within. absurd (idle 0 (rise 0) 1 (0, lit< tt, refl) refl);
}
  where
    kept : (e : Event) (v w : Bool) → (e.sig ≡ 0 → ⊥) → ((e.sig == 0) || beq w v) ≡ true → w ≡ v
    kept e v w other h = elim (or_cases (e.sig == 0) (beq w v) h)
        [ inl same ↦ absurd (other (eqb-true _ _ same)) | inr equal ↦ beq-true w v equal ]

-- two pulses of a, and z rises after the first alone: s0 and s2 have the code 00, and s2 alone enables z+
abbrev pulses : CodedGraph
pulses = record {
  graph = record {
    signals = record { name = codes "a"; kind = Input } ∷ record { name = codes "z"; kind = Output } ∷ [];
    states = 6;
    edges = arc 0 (rise 0) 1 ∷ arc 1 (fall 0) 2 ∷ arc 2 (rise 1) 3 ∷ arc 3 (rise 0) 4 ∷ arc 4 (fall 0) 5
        ∷ arc 5 (fall 1) 0 ∷ [];
    start = 0;
  };
  codes = 0 ∷ 1 ∷ 0 ∷ 2 ∷ 3 ∷ 2 ∷ [];
}

pulses_conflict : IsConflict pulses (0, 2)
pulses_conflict = record {
  order = lit< tt;
  within = lit< tt;
  same_code = refl;
  event = rise 1;
  non_input = (record { name = codes "z"; kind = Output }, refl, refl);
  differ = λ h. true≢false' (sym h);
}

-- ---- bytes and codes
bytes_by_name : (space ∷ hash ∷ apostrophe ∷ plus ∷ minus ∷ dot ∷ slash ∷ at_sign ∷ underscore ∷ []) ≡ codes " #'+-./@_"
bytes_by_name = refl

bounds_by_name : (first_visible ∷ digit_zero ∷ digit_one ∷ digit_nine ∷ first_capital ∷ last_capital ∷ first_small
    ∷ last_small ∷ tilde ∷ []) ≡ codes "!019AZaz~"
bounds_by_name = refl

pairs_by_name : (less_sign ∷ greater_sign ∷ opening_bracket ∷ closing_bracket ∷ opening_brace ∷ closing_brace
    ∷ line_feed ∷ []) ≡ codes "<>[]{}\n"
pairs_by_name = refl

three_ones : ones 3 ≡ 7
three_ones = refl

-- a+ b+ a- changes the value of b alone
b_changes : parity (rise 0 ∷ rise 1 ∷ fall 0 ∷ []) ≡ 2
b_changes = refl

-- ---- the text of the netlist
majority_text : netlist_text majority
    ≡ codes ".version 2\n.model c2\n.inputs a b\n.outputs c\n.internal\n.inserted\n.start 000\n"
    ++ codes ".gates\nc sum a b + b c + a c\n.end\n"
unfolding netlist_text
majority_text = refl

majority_in_version_1 : netlist_text_in Version1 majority
    ≡ codes
    ".model c2\n.inputs a b\n.outputs c\n.internal\n.inserted\n.start 000\n.gates\nc sum a b + b c + a c\n.end\n"
majority_in_version_1 = refl
