-- Worked examples: an output that follows an input, with a right gate and a wrong one.
use Rattle.std.proofs.Common.{◌≡◌, ℕ, zero, suc, ◌<◌, true, false, List, [], ◌∷◌, codes, refl, sym, subst, arith}
use Rattle.std.proofs.lemmas.Bool.{true≢false}
use Rattle.si_base.specs.declared.graph.Signal.{Signal}
use Rattle.si_base.specs.declared.graph.SigKind.TheVariants.{Input, Output, Inserted}
use Rattle.si_base.specs.Codes.{CodedGraph, code, next_value}
use Rattle.si_base.specs.Graph.{IsNonInput, arc, rise, fall, is_driven}
use Rattle.si_base.specs.Netlist.{Gate, Netlist, SumGate, gate_value}
use Rattle.si_base.specs.RightGates.{GivesNextValues}
use Rattle.si_base.specs.Sets.{flag}
use Rattle.si_insert.specs.declared.accept.Rejected.TheVariants.{DelaysInput, TooLarge}
use Rattle.si_insert.specs.Lineage.{given_current, given_history}
use Rattle.si_circuit.specs.Spelling.{current_word}
use Rattle.si_audit.specs.declared.fault.AuditFault.TheVariants.{Refused, Start}
use Rattle.si_audit.specs.Audit.{Certifies}
use Rattle.si_audit.specs.Loops.Columns.{DifferFirstAt, column, is_value, words_for}
use Rattle.si_audit.specs.Faults.{IsWrong, StartsOtherwise, refused_word}
use Rattle.si_audit.specs.Named.{AreWordsOf, states_in}
use Rattle.si_audit.specs.Loops.FaultSignals.{TellsOf}
use Rattle.si_audit.specs.Loops.Within.{IsWithin, TellsRefusal}

abbrev a : Signal
a = record { name = codes "a"; kind = Input }

abbrev c : Signal
c = record { name = codes "c"; kind = Output }

-- c rises once a has, and falls once a has
abbrev follower : CodedGraph
follower = record {
  graph = record {
    signals = a ∷ c ∷ [];
    states = 4;
    edges = arc 0 (rise 0) 1 ∷ arc 1 (rise 1) 2 ∷ arc 2 (fall 0) 3 ∷ arc 3 (fall 1) 0 ∷ [];
    start = 0;
  };
  codes = 0 ∷ 1 ∷ 3 ∷ 2 ∷ [];
}

abbrev names : List (List ℕ)
names = codes "s0" ∷ codes "s1" ∷ codes "s2" ∷ codes "s3" ∷ []

-- a netlist with that gate for c
abbrev with_gate : Gate → Netlist
with_gate gate = record {
  model = codes "follower";
  signals = a ∷ c ∷ [];
  start = 0;
  inserts = [];
  gates = gate ∷ [];
}

-- ---- the gate `c sum a` is right
abbrev wire : Netlist
wire = with_gate (SumGate ((record { sig = 0; plain = true } ∷ []) ∷ []))

only_c : (z : ℕ) → IsNonInput (a ∷ c ∷ []) z → z ≡ 1
only_c zero there =
    let same : a ≡ there.0 = (let is = there.1 in cc) in
    let P : Signal → Type 0 = λ x. is_driven x.kind ≡ true in
    let driven : false ≡ true = subst P (sym same) there.2 in
    absurd (true≢false (sym driven))
only_c (suc zero) there = refl
only_c (suc (suc z)) there = (let none = there.1 in cc)

at_c : (s : ℕ) → s < 4 → gate_value wire 1 (code follower s) ≡ next_value follower s 1
at_c zero within = refl
at_c (suc zero) within = refl
at_c (suc (suc zero)) within = refl
at_c (suc (suc (suc zero))) within = refl
at_c (suc (suc (suc (suc s)))) within = absurd (omega arith)

wire_gives : GivesNextValues follower wire
wire_gives = record { gates = λ s z within there. rw (only_c z there) (at_c s within) }

wire_is_certified : Certifies names follower wire (given_history follower)
wire_is_certified = record {
  taken = refl;
  built = record { signals = refl; start = refl; gives = wire_gives };
}

-- ---- the gate `c sum c` isn't, first at s1
abbrev keeper : Netlist
keeper = with_gate (SumGate ((record { sig = 1; plain = true } ∷ []) ∷ []))

keeper_is_wrong : IsWrong follower keeper (record { sig = 1; state = 1 })
keeper_is_wrong = record {
  gate = (c, refl, refl);
  within = omega arith;
  differs = λ (same : false ≡ true). true≢false (sym same);
}

-- ---- columns, 64 states to a word: those of a, of c, and of the values of `c sum c`
abbrev columns : List (List ℕ)
columns = (6 ∷ []) ∷ (12 ∷ []) ∷ []

two_words : words_for 65 ≡ 2
two_words = refl

a_at_s2 : flag (column columns 0) 2 ≡ true
a_at_s2 = refl

a_at_s3 : flag (column columns 0) 3 ≡ false
a_at_s3 = refl

is_low : is_value false (flag (column columns 0) 3) ≡ true
is_low = refl

keeper_differs : DifferFirstAt 4 (flag (column columns 1)) (λ s. next_value follower s 1) 1
keeper_differs = record {
  within = omega arith;
  differ = λ (same : false ≡ true). true≢false (sym same);
  before = at_s0;
}
  where
    at_s0 : (s : ℕ) → s < 1 → flag (column columns 1) s ≡ next_value follower s 1
    at_s0 zero within = refl
    at_s0 (suc s) within = absurd (omega arith)

-- ---- words
second_and_fourth : states_in (false ∷ true ∷ false ∷ true ∷ []) ≡ 1 ∷ 3 ∷ []
second_and_fourth = refl

words_of_two : AreWordsOf names (given_history follower) (codes "s1" ∷ codes "s3" ∷ [])
    (false ∷ true ∷ false ∷ true ∷ [])
unfolding current_word
words_of_two = record { size = refl; words_are = refl }

delayed_word : refused_word names (given_history follower) (DelaysInput 2 (fall 0)) ≡ codes "s2"
unfolding current_word
delayed_word = refl

no_word : refused_word names (given_history follower) (TooLarge 300000) ≡ []
no_word = refl

-- ---- the start
abbrev raised : Netlist
raised = record {
  model = codes "follower";
  signals = a ∷ c ∷ record { name = codes "csc0"; kind = Inserted } ∷ [];
  start = 4;
  inserts = [];
  gates = [];
}

csc0_starts_otherwise : StartsOtherwise follower (given_current follower) raised 2
csc0_starts_otherwise = record {
  inserted = omega arith;
  there = omega arith;
  differs = λ (same : true ≡ false). true≢false same;
}

-- ---- what is told
start_is_told : TellsOf raised.signals (Start 2)
start_is_told = omega arith

state_is_within : IsWithin follower.graph (DelaysInput 2 (fall 0))
state_is_within = omega arith

refusal_is_told : TellsRefusal (codes "s2") (DelaysInput 2 (fall 0)) 1
    (Refused 1 (codes "s2") (DelaysInput 2 (fall 0)))
refusal_is_told = (refl, refl, refl)
