-- The netlist of the chosen gates is a netlist, and how a loop over the signals makes it.
use Rattle.std.proofs.Common.{◌≡◌, ◌≢◌, ℕ, suc, ◌+◌, ◌<◌, ◌==◌, ◌&&◌, not, Bool, true, false, List, [], ◌∷◌, ◌++◌}
use Rattle.std.proofs.Common.{length, get_or, drop, drop-cons, add-one, append_assoc, filter, slice_get, Some, All}
use Rattle.std.proofs.Common.{IsTrue, refl, sym, ap, subst, ◌∙◌, arith, inl, inr}
use Rattle.std.specs.List.{list_all, AllByRecursion}
use Rattle.std.proofs.lemmas.Bool.{cases_Bool, false_from_ne_true, false≢true, and_parts}
use Rattle.std.proofs.lemmas.Option.{get_or_from_slice_get, slice_get_cases}
use Rattle.std.proofs.lemmas.List.Elements.{All-nil, All-cons, recursion_from_All}
use Rattle.si_base.specs.declared.graph.Signal.{Signal}
use Rattle.si_base.specs.declared.graph.SigKind.{SigKind}
use Rattle.si_base.specs.declared.graph.SigKind.TheVariants.{Input, Output, Internal, Inserted}
use Rattle.si_base.specs.Bytes.{first_visible, hash, opening_brace, closing_brace, tilde}
use Rattle.si_base.specs.Codes.{CodedGraph, IsCoded, code}
use Rattle.si_base.specs.Graph.{StateGraph, is_driven, IsNonInput}
use Rattle.si_base.specs.Netlist.{Gate, Insertion, Netlist}
use Rattle.si_base.specs.NetlistText.{same_kind, names_of}
use Rattle.si_base.specs.System.{is_inserted}
use Rattle.si_base.specs.WellFormed.{IsWord, IsGate, IsInsertion, IsNetlist}
use Rattle.si_base.specs.Words.{is_between, is_word_byte, is_model_name}
use Rattle.si_base.proofs.StepCodes.{code_fits}
use Rattle.si_cover.specs.declared.kind.SumKind.TheVariants.{Next, Set, Reset}
use Rattle.si_cover.proofs.DemandLemmas.{chosen_sum_is_sum}
use Rattle.si_circuit.specs.declared.style.Style.{Style}
use Rattle.si_circuit.specs.declared.style.Style.TheVariants.{Complex, GeneralisedC}
use Rattle.si_circuit.specs.Gates.{gate_of, gates_from, netlist_of}
use Rattle.si_circuit.specs.Spelled.{AreSpelled, AreInserted}

-- ---- the name of the model
shown : (b : ℕ) → is_word_byte b ≡ true → is_between first_visible tilde b ≡ true
shown b is =
    let visible : Bool = is_between first_visible tilde b in
    let no_comment : Bool = visible && not (b == hash) in
    let not_open : Bool = no_comment && not (b == opening_brace) in
    let open_part = (and_parts not_open (not (b == closing_brace)) is).0 in
    let comment_part = (and_parts no_comment (not (b == opening_brace)) open_part).0 in
    (and_parts visible (not (b == hash)) comment_part).0

all_shown : (bs : List ℕ) → list_all is_word_byte bs ≡ true → list_all (is_between first_visible tilde) bs ≡ true
all_shown [] are = refl
all_shown (b ∷ bs) are =
    let parts = and_parts (is_word_byte b) (list_all is_word_byte bs) are in
    rw (shown b parts.0, all_shown bs parts.1) refl

model_is_word : (model : List ℕ) → is_model_name model ≡ true → IsWord model
model_is_word [] is = absurd (false≢true is)
model_is_word (b ∷ bs) is = record { some = omega arith; bytes = all_shown (b ∷ bs) is }

no_brace : (model : List ℕ) (b : ℕ) → is_model_name model ≡ true → is_model_name (b ∷ []) ≡ false → model ≢ b ∷ []
no_brace model b is brace same = let now = rw same at is in false≢true (sym brace ∙ now)

-- ---- insertions where no signal is inserted
not_inserted : (kind : SigKind) → is_inserted kind ≡ false → same_kind Inserted kind ≡ false
not_inserted Input none = refl
not_inserted Output none = refl
not_inserted Internal none = refl
not_inserted Inserted none = absurd (false≢true (sym none))

none_named : (signals : List Signal) → AllByRecursion (λ x. is_inserted x.kind ≡ false) signals
    → names_of Inserted signals ≡ []
none_named [] none = refl
none_named (x ∷ xs) none = rw (not_inserted x.kind none.0) (none_named xs none.1)

pub nothing_inserted : (signals : List Signal) → All (λ x. is_inserted x.kind ≡ false) signals → AreInserted [] signals
nothing_inserted signals none = record {
  names = sym (none_named signals (recursion_from_All (λ (x : Signal). is_inserted x.kind ≡ false) signals none));
  each = All-nil IsInsertion;
}

-- ---- a netlist with such gates is a netlist
gate_is_gate : (style : Style) (c : CodedGraph) (z : ℕ) → IsGate (length c.graph.signals) (gate_of style c z)
gate_is_gate Complex c z = chosen_sum_is_sum Next c z
gate_is_gate GeneralisedC c z = (chosen_sum_is_sum Set c z, chosen_sum_is_sum Reset c z)

all_are_gates : (gate : ℕ → Gate) (n i : ℕ) (xs : List Signal) → ((z : ℕ) → IsNonInput xs z → IsGate n (gate (i + z)))
    → All (IsGate n) (gates_from gate i xs)
all_are_gates gate n i [] are = All-nil (IsGate n)
all_are_gates gate n i (x ∷ xs) are =
    let next : (z : ℕ) → i + suc z ≡ i + 1 + z = λ z. omega arith in
    let rest : All (IsGate n) (gates_from gate (i + 1) xs) = all_are_gates gate n (i + 1) xs
    (λ z driven. subst (λ (k : ℕ). IsGate n (gate k)) (next z) (are (suc z) driven)) in
    let first : i + 0 ≡ i = omega arith in
    elim (cases_Bool (is_driven x.kind)) [
      | inl driven ↦ rw driven (All-cons (IsGate n) (gate i) (gates_from gate (i + 1) xs)
          (subst (λ (k : ℕ). IsGate n (gate k)) first (are 0 (x, refl, driven))) rest)
      | inr input ↦ rw input rest
    ]

as_many_gates : (gate : ℕ → Gate) (i : ℕ) (xs : List Signal)
    → length (gates_from gate i xs) ≡ length (filter (λ x. is_driven x.kind) xs)
as_many_gates gate i [] = refl
as_many_gates gate i (x ∷ xs) = elim (cases_Bool (is_driven x.kind)) [
  | inl driven ↦ rw driven (ap suc (as_many_gates gate (i + 1) xs))
  | inr input ↦ rw input (as_many_gates gate (i + 1) xs)
]

pub is_netlist : (gate : ℕ → Gate) (model : List ℕ) (inserts : List Insertion) (c : CodedGraph) → IsCoded c
    → AreSpelled model c.graph.signals → AreInserted inserts c.graph.signals
    → ((z : ℕ) → IsNonInput c.graph.signals z → IsGate (length c.graph.signals) (gate z))
    → IsNetlist (netlist_of gate model inserts c)
unfolding netlist_of
is_netlist gate model inserts c coded spelled inserted are = record {
  model = model_is_word model spelled.model_name;
  no_brace = (
    no_brace model opening_brace spelled.model_name refl,
    no_brace model closing_brace spelled.model_name
        refl,
  );
  names = spelled.names;
  distinct = coded.graph_is.names;
  kinds = coded.graph_is.kinds;
  few = coded.graph_is.few_signals;
  start = code_fits c c.graph.start coded coded.graph_is.starts;
  insert_names = inserted.names;
  inserts = inserted.each;
  gate_count = as_many_gates gate 0 c.graph.signals;
  gates = all_are_gates gate (length c.graph.signals) 0 c.graph.signals
      (λ z driven. (let at : z ≡ 0 + z = omega arith in
      subst (λ (k : ℕ). IsGate (length c.graph.signals) (gate k)) at (are z driven)));
}

pub chosen_is_netlist : (style : Style) (c : CodedGraph) (model : List ℕ) (inserts : List Insertion) → IsCoded c
    → AreSpelled model c.graph.signals → AreInserted inserts c.graph.signals
    → IsNetlist (netlist_of (gate_of style c) model inserts c)
chosen_is_netlist style c model inserts coded spelled inserted =
    is_netlist (gate_of style c) model inserts c coded spelled inserted (λ z driven. gate_is_gate style c z)

-- ---- one gate after another, as a loop over the signals makes them
gates_at : (gate : ℕ → Gate) (xs : List Signal) (i : ℕ) (x : Signal) → i < length xs → slice_get xs i ≡ Some x
    → gates_from gate i (drop i xs) ≡ gates_from gate i (x ∷ drop (i + 1) xs)
gates_at gate xs i x within at =
    let is : get_or xs i x ≡ x = get_or_from_slice_get xs i x x at in
    rw (add-one, drop-cons xs i x, is) (rw add-one refl)

pub gates_skip : (gate : ℕ → Gate) (xs : List Signal) (i : ℕ) → i < length xs → (IsNonInput xs i → IsTrue false)
    → gates_from gate (i + 1) (drop (i + 1) xs) ≡ gates_from gate i (drop i xs)
gates_skip gate xs i within input = elim (slice_get_cases xs i).1 [
  | inl there ↦ (let none = false_from_ne_true (is_driven there.0.kind)
      (λ driven. false≢true (input (there.0, there.2, driven))) in
      rw (gates_at gate xs i there.0 within there.2) (rw none refl))
  | inr past ↦ absurd (omega (arith, past.0))
]

pub gates_more : (gate : ℕ → Gate) (xs : List Signal) (i : ℕ) (gates : List Gate) → i < length xs → IsNonInput xs i
    → (gates ++ gate i ∷ []) ++ gates_from gate (i + 1) (drop (i + 1) xs) ≡ gates ++ gates_from gate i (drop i xs)
gates_more gate xs i gates within driven =
    rw (gates_at gate xs i driven.0 within driven.1)
    (rw driven.2 (append_assoc gates (gate i ∷ []) (gates_from gate (i + 1) (drop (i + 1) xs))))

-- the netlist of these parts
abbrev pub of_parts : List ℕ → List Signal → ℕ → List Insertion → List Gate → Netlist
of_parts model signals start inserts gates = record {
  model = model;
  signals = signals;
  start = start;
  inserts = inserts;
  gates = gates;
}

-- by what the calls answer one after another
pub made : (gate : CodedGraph → ℕ → Gate) (model : List ℕ) (c coded : CodedGraph) (graph : StateGraph)
    (signals : List Signal) (s start : ℕ) (inserts : List Insertion) (gates : List Gate)
    → coded ≡ c → graph ≡ coded.graph → signals ≡ graph.signals → s ≡ graph.start → start ≡ code coded s
    → gates ≡ gates_from (gate c) 0 c.graph.signals
    → of_parts model signals start inserts gates ≡ netlist_of (gate c) model inserts c
unfolding netlist_of
made gate model c coded graph signals s start inserts gates coded_is graph_is signals_are s_is start_is gates_are =
    rw (signals_are, start_is, s_is, gates_are, graph_is, coded_is) refl
