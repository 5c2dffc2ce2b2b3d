-- The gates that are chosen where inserted signals become internal ones.
use Rattle.std.proofs.Common.{◌≡◌, ℕ, ◌+◌, Bool, List, [], ◌∷◌, ◌++◌, map, if◌then◌else◌, refl, ap, ap₂}
use Rattle.std.proofs.lemmas.List.{length-map}
use Rattle.si_base.specs.declared.graph.Signal.{Signal}
use Rattle.si_base.specs.Codes.{CodedGraph, code}
use Rattle.si_base.specs.Graph.{is_driven}
use Rattle.si_base.specs.Netlist.{Gate, Gc, Insertion, Netlist, Sum, SumGate}
use Rattle.si_circuit.specs.Gates.{chosen_netlist, gate_of, gates_from, netlist_of}
use Rattle.si_circuit.specs.declared.style.Style.{Style}
use Rattle.si_circuit.specs.declared.style.Style.TheVariants.{Complex, GeneralisedC}
use Rattle.si_cover.specs.Demands.{chosen_sum, demand}
use Rattle.si_cover.specs.declared.kind.SumKind.{SumKind}
use Rattle.si_cover.specs.declared.kind.SumKind.TheVariants.{Next, Set, Reset}
use Rattle.si_cube.specs.Rule.{chosen}
use Rattle.si_inserted.specs.Current.{given_signal, internal_coded, internal_netlist}
use Rattle.si_inserted.proofs.InternalGraphLemmas.{same_drive}

same_sum : (kind : SumKind) (c : CodedGraph) (z : ℕ) → demand kind (internal_coded c) z ≡ demand kind c z
    → chosen_sum kind (internal_coded c) z ≡ chosen_sum kind c z
unfolding chosen_sum
same_sum kind c z same = ap₂ chosen (length-map c.graph.signals given_signal) same

pub same_gate : (style : Style) (c : CodedGraph) (z : ℕ) → gate_of style (internal_coded c) z ≡ gate_of style c z
same_gate Complex c z = ap (λ (sum : Sum). SumGate sum) (same_sum Next c z refl)
same_gate GeneralisedC c z =
    ap₂ (λ (set reset : Sum). Gc set reset) (same_sum Set c z refl) (same_sum Reset c z refl)

-- one gate for each signal that is driven, before and after
same_gates : (one other : ℕ → Gate) → ((z : ℕ) → one z ≡ other z) → (i : ℕ) (xs : List Signal)
    → gates_from one i (map given_signal xs) ≡ gates_from other i xs
same_gates one other same i [] = refl
same_gates one other same i (x ∷ xs) =
    let here : (if is_driven (given_signal x).kind then one i ∷ [] else [])
    ≡ (if is_driven x.kind then other i ∷ [] else []) =
    ap₂ (λ (driven : Bool) (gate : Gate). if driven then gate ∷ [] else []) (same_drive x.kind) (same i) in
    ap₂ (λ (gates rest : List Gate). gates ++ rest) here (same_gates one other same (i + 1) xs)

pub same_netlist : (style : Style) (model : List ℕ) (inserts : List Insertion) (c : CodedGraph)
    → chosen_netlist style model (internal_coded c)
    ≡ internal_netlist (netlist_of (gate_of style c) model inserts c)
unfolding netlist_of
same_netlist style model inserts c =
    let over : List Gate → Netlist = λ gates. record {
      model = model;
      signals = map given_signal c.graph.signals;
      start = code c c.graph.start;
      inserts = [];
      gates = gates;
    } in
    ap over (same_gates (gate_of style (internal_coded c)) (gate_of style c) (same_gate style c) 0 c.graph.signals)
