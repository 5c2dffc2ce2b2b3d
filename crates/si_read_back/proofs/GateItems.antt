-- The gates of a netlist by plain literals, as items of its controller.
use Rattle.std.proofs.Common.{◌≡◌, ℕ, zero, suc, ◌<◌, true, false, List, [], ◌∷◌, ◌++◌, length, map}
use Rattle.std.proofs.Common.{flat_map, slice_get, Some, refl, sym, ap, subst, ◌∙◌, arith, inl, inr}
use Rattle.std.specs.Prelude.{IsTrue, option_map, unwrap_or}
use Rattle.std.specs.List.{AllByRecursion, list_any, zip}
use Rattle.std.proofs.lemmas.Bool.{cases_Bool, or_left, true≢false}
use Rattle.std.proofs.lemmas.Grind.{flat_map-append}
use Rattle.std.proofs.lemmas.Option.{get_or_from_slice_get, slice_get_within}
use Rattle.si_base.specs.declared.graph.Signal.{Signal}
use Rattle.si_base.specs.declared.ids.Literal.{Literal}
use Rattle.si_base.specs.Graph.{IsNonInput, is_driven, names_in}
use Rattle.si_base.specs.Limits.{code_width}
use Rattle.si_base.specs.Netlist.{Cell as CellGate, Gate, Netlist, gate_place}
use Rattle.si_base.specs.NetlistText.{name_of}
use Rattle.si_base.specs.WellFormed.{IsGate, IsNetlist}
use Rattle.si_netlist.proofs.GateLemmas.{within_signals}
use Rattle.si_words.proofs.NameWords.{same_bytes}
use Rattle.si_genlib.specs.Ports.{PortedLibrary}
use Rattle.si_equations.proofs.NetlistLemmas.{netlist_named}
use Rattle.si_equations.proofs.NewLemmas.{AreGood}
use Rattle.si_verilog.specs.Symbols.{Symbol}
use Rattle.si_verilog.proofs.NameLemmas.{signal_is_writable}
use Rattle.si_verilog.proofs.NetlistLemmas.{netlist_named as netlist_writes}
use Rattle.si_verilog_reader.specs.Modules.{Cell}
use Rattle.si_structure.specs.Laws.{IsPorted}
use Rattle.si_structure.specs.Parts.{Placement, placement_symbols}
use Rattle.si_structure.specs.Refusals.{IsStructured}
use Rattle.si_structure.specs.StructureText.{GateInstances, PortedCell, cell_instances, driven_gates}
use Rattle.si_structure.specs.StructureText.{gate_instances, in_order, inverted_net, inverted_pins, inverter_if_any}
use Rattle.si_structure.specs.StructureText.{added_wires, inverter_of, is_of, is_used, ported_cells, used_cells}
use Rattle.si_structure.specs.declared.complements.Complements.TheVariants.{Refused}
use Rattle.si_structure.proofs.CellLemmas.{IsPortedCell}
use Rattle.si_structure.proofs.LookupLemmas.{cells_are, inverter_is, kept_found}
use Rattle.si_structure.proofs.PlacementLemmas.{all_flat, driven, instances_one, pins_one, weaker}
use Rattle.si_structure.proofs.ReadingLemmas.{CanPlace}
use Rattle.si_structure.proofs.StructureLemmas.{IsGoodAt, all_filtered, gate_is_used, good_at, instances_can}
use Rattle.si_read_back.proofs.CellSpelling.{SpelledCell, cell_spelled}
use Rattle.si_read_back.proofs.CellsReading.{AreSpelled, IsFound, all_made, made_found}
use Rattle.si_read_back.proofs.GateInstances.{IsSignal, gate_item, is_item, is_signal, no_pins}
use Rattle.si_read_back.proofs.ItemLemmas.{IsItem, Item, item_symbols}

-- ---- the gates, each with its signal

driven_place : (x : Signal) (xs : List Signal) (z : ℕ) → is_driven x.kind ≡ true
    → gate_place (x ∷ xs) (suc z) ≡ suc (gate_place xs z)
driven_place x xs z is = rw is (omega arith)

input_place : (x : Signal) (xs : List Signal) (z : ℕ) → is_driven x.kind ≡ false
    → gate_place (x ∷ xs) (suc z) ≡ gate_place xs z
input_place x xs z is = rw is (omega arith)

driven_count : (x : Signal) (xs : List Signal) (gates : ℕ) → is_driven x.kind ≡ true
    → gates ≡ length (driven (x ∷ xs)) → gates ≡ suc (length (driven xs))
driven_count x xs gates is count = rw is at count

input_count : (x : Signal) (xs : List Signal) (gates : ℕ) → is_driven x.kind ≡ false
    → gates ≡ length (driven (x ∷ xs)) → gates ≡ length (driven xs)
input_count x xs gates is count = rw is at count

-- what holds of each non-input and its gate holds of all of them
pairs_all : (P : Signal × Gate → Type 0) (xs : List Signal) (gates : List Gate) → length gates ≡ length (driven xs)
    → ((z : ℕ) (x : Signal) (g : Gate) → slice_get xs z ≡ Some x → is_driven x.kind ≡ true
    → slice_get gates (gate_place xs z) ≡ Some g → P (x, g)) → AllByRecursion P (driven_gates xs gates)
pairs_all P [] gates count each = tt
pairs_all P (x ∷ xs) [] count each = elim (cases_Bool (is_driven x.kind)) [
  | inl is ↦ rw is tt
  | inr input ↦ rw input (pairs_all P xs [] (input_count x xs 0 input count)
      (λ z y g at is there. each (suc z) y g at is (ap (slice_get []) (input_place x xs z input) ∙ there)))
]
pairs_all P (x ∷ xs) (g ∷ gs) count each = elim (cases_Bool (is_driven x.kind)) [
  | inl is ↦ (
      let some = driven_count x xs (length (g ∷ gs)) is count in
      let left : length gs ≡ length (driven xs) = omega arith in
      rw is (
        each 0 x g refl is refl,
        pairs_all P xs gs left (λ z y h at is_one there. each (suc z) y h at is_one
            (ap (slice_get (g ∷ gs)) (driven_place x xs z is) ∙ there)),
      ))
  | inr input ↦ rw input (pairs_all P xs (g ∷ gs) (input_count x xs (length (g ∷ gs)) input count)
      (λ z y h at is there. each (suc z) y h at is (ap (slice_get (g ∷ gs)) (input_place x xs z input) ∙ there)))
]

zip_names : (xs : List Signal) (gates : List Gate) → length gates ≡ length xs
    → map (λ (p : Signal × Gate). p.0.name) (zip xs gates) ≡ names_in xs
zip_names [] gates same = refl
zip_names (x ∷ xs) [] same = absurd (omega (arith, same))
zip_names (x ∷ xs) (g ∷ gs) same =
    let rest : length gs ≡ length xs = omega (arith, same) in
    ap (λ (l : List (List ℕ)). x.name ∷ l) (zip_names xs gs rest)

gate_is : (n : Netlist) → IsNetlist n → (place : ℕ) (g : Gate) → slice_get n.gates place ≡ Some g
    → IsGate (length n.signals) g
gate_is n is place g there = subst (IsGate (length n.signals)) (get_or_from_slice_get n.gates place g g there)
    (is.gates place g (slice_get_within n.gates place g there))

module _ (ported : PortedLibrary) (n : Netlist) (good : IsPorted ported) (is : IsNetlist n)
    (structured : IsStructured ported Refused n) (good_names : AreGood (names_in n.signals)) where
  abbrev library : List PortedCell
  library = ported_cells ported

  abbrev pub used : List PortedCell
  used = used_cells ported n

  pub spelled : AreSpelled used
  spelled = weaker IsPortedCell SpelledCell (λ c h. cell_spelled c h) used
      (all_filtered IsPortedCell (λ c. is_used library n c.cell) library (cells_are ported good))

  abbrev pub cells : List Cell
  cells = all_made used spelled

  -- a signal with its gate, which is an instance of a cell whose module is read
  pub record GoodPair (p : Signal × Gate) : Type 0 where
    pub place : ℕ
    pub within : place < length n.signals
    pub named : p.0.name ≡ name_of n.signals place
    pub gate : IsGoodAt ported Refused (length n.signals) place p.1
    pub found : IsFound cells gate.is.cell.cell.name gate.is.cell
    pub plain : AllByRecursion (λ l. IsTrue l.plain) gate.is.literals

  good_pair : (z : ℕ) (x : Signal) (g : Gate) → slice_get n.signals z ≡ Some x → is_driven x.kind ≡ true
      → slice_get n.gates (gate_place n.signals z) ≡ Some g → GoodPair (x, g)
  good_pair z x g at is_one there =
      let place = gate_place n.signals z in
      let non_input : IsNonInput n.signals z = (x, at, is_one) in
      let within = within_signals n.signals z non_input in
      let few = is.few in
      let small : z < code_width = omega arith in
      let here = good_at ported Refused (length n.signals) z g good small (gate_is n is place g there)
      (structured.placed z g (record { driven = non_input; there = there })) in
      let c = here.is.cell in
      let cell_gate : slice_get n.gates place ≡ Some (CellGate c.cell.name here.is.literals here.is.sum) =
      there ∙ ap (λ (k : Gate). Some k) here.is.same in
      let asked : is_used library n c.cell ≡ true = or_left (list_any (is_of c.cell) n.gates) _
      (gate_is_used n.gates (is_of c.cell) place (CellGate c.cell.name here.is.literals here.is.sum) cell_gate
      (same_bytes c.cell.name)) in
      record {
        place = z;
        within = within;
        named = sym (ap (λ o. unwrap_or (option_map (λ (s : Signal). s.name) o) []) at);
        gate = here;
        found = made_found used spelled c.cell.name c
            (kept_found (λ d. is_used library n d.cell) library c.cell.name c here.is.found asked);
        plain = elim here.is.plain [
          | inl inverted ↦ absurd (true≢false (sym inverted))
          | inr all ↦ all
        ];
      }

  abbrev pub pairs : List (Signal × Gate)
  pairs = driven_gates n.signals n.gates

  abbrev pub ArePairs : List (Signal × Gate) → Type 0
  ArePairs ps = AllByRecursion GoodPair ps

  pub all_pairs : ArePairs pairs
  all_pairs = pairs_all GoodPair n.signals n.gates is.gate_count good_pair

  pub own : (p : Signal × Gate) → GoodPair p → IsSignal n.signals p.0.name
  own p h = subst (IsSignal n.signals) (sym h.named) (is_signal n.signals (netlist_named n is) h.place h.within)

  abbrev pub item_of : (p : Signal × Gate) → GoodPair p → Item
  item_of p h = gate_item n (netlist_named n is) good_names cells h.gate.is.cell h.found p.0.name (own p h)
      h.gate.is.literals h.gate.is.pins h.plain h.gate.is.within

  abbrev pub items : (ps : List (Signal × Gate)) → ArePairs ps → List Item
  items [] all = []
  items (p ∷ ps) all = item_of p all.0 ∷ items ps all.1

  all_items : (ps : List (Signal × Gate)) (all : ArePairs ps)
      → AllByRecursion (IsItem cells (names_in n.signals)) (items ps all)
  all_items [] all = tt
  all_items (p ∷ ps) all = (
    is_item n (netlist_named n is) good_names cells all.0.gate.is.cell all.0.found p.0.name (own p all.0)
        all.0.gate.is.literals all.0.gate.is.pins all.0.plain all.0.gate.is.within,
    all_items ps all.1,
  )

  same_names : (ps : List (Signal × Gate)) (all : ArePairs ps)
      → map (λ (q : Item). q.name) (items ps all) ≡ map (λ (p : Signal × Gate). p.0.name) ps
  same_names [] all = refl
  same_names (p ∷ ps) all = ap (λ (l : List (List ℕ)). p.0.name ∷ l) (same_names ps all.1)

  pub item_names : map (λ (q : Item). q.name) (items pairs all_pairs) ≡ names_in (driven n.signals)
  item_names = same_names pairs all_pairs ∙ zip_names (driven n.signals) n.gates is.gate_count

  -- the item of a pair at its place
  pub record IsAt (list : List Item) (k : ℕ) (p : Signal × Gate) : Type 0 where
    pub pair : GoodPair p
    pub there : slice_get list k ≡ Some (item_of p pair)

  item_there : (ps : List (Signal × Gate)) (all : ArePairs ps) (k : ℕ) (p : Signal × Gate)
      → slice_get ps k ≡ Some p → IsAt (items ps all) k p
  item_there [] all k p at = absurd cc
  item_there (q ∷ ps) all zero p at =
      let same : q ≡ p = cc in
      subst (λ (r : Signal × Gate). IsAt (items (q ∷ ps) all) 0 r) same (record { pair = all.0; there = refl })
  item_there (q ∷ ps) all (suc k) p at =
      let later = item_there ps all.1 k p at in
      record { pair = later.pair; there = later.there }

  -- ---- the instances in the text

  abbrev pub instances_of : Signal × Gate → List GateInstances
  instances_of p = gate_instances library n.signals [] p.0.name p.1

  abbrev pub placements : List (Signal × Gate) → List Placement
  placements ps = flat_map in_order (flat_map instances_of ps)

  one_instance : (p : Signal × Gate) (h : GoodPair p)
      → instances_of p ≡ cell_instances library n.signals [] p.0.name h.gate.is.cell h.gate.is.literals ∷ []
  one_instance p h = instances_one library n.signals [] p.0.name p.1 h.gate.is.cell h.gate.is.literals h.gate.is.sum
      h.gate.is.same h.gate.is.found

  one_placement : (p : Signal × Gate) (h : GoodPair p)
      → flat_map in_order (instances_of p) ≡ (item_of p h).placement ∷ []
  one_placement p h =
      let c = h.gate.is.cell in
      ap (flat_map in_order) (one_instance p h)
      ∙ ap (λ (xs : List (List ℕ × Literal)). (flat_map
      (λ q. inverter_if_any (inverter_of library) p.0.name q.0 (name_of n.signals q.1.sig)) xs
      ++ (item_of p h).placement ∷ []) ++ []) (no_pins c.ports.pins h.gate.is.literals h.plain)

  symbols_are : (ps : List (Signal × Gate)) (all : ArePairs ps)
      → flat_map placement_symbols (placements ps) ≡ flat_map item_symbols (items ps all)
  symbols_are [] all = refl
  symbols_are (p ∷ ps) all =
      let rest = placements ps in
      ap (flat_map placement_symbols) (flat_map-append in_order (instances_of p) (flat_map instances_of ps))
      ∙ ap (λ (l : List Placement). flat_map placement_symbols (l ++ rest)) (one_placement p all.0)
      ∙ ap (λ (l : List Symbol). item_symbols (item_of p all.0) ++ l) (symbols_are ps all.1)

  abbrev CanAll : GateInstances → Type 0
  CanAll i = AllByRecursion CanPlace (in_order i)

  can_each : (p : Signal × Gate) → GoodPair p → AllByRecursion CanAll (instances_of p)
  can_each p h = subst (AllByRecursion CanAll) (sym (one_instance p h)) (
    instances_can n.signals (netlist_writes n is) p.0.name (signal_is_writable p.0.name (own p h).0) library
        (inverter_is ported good) [] h.gate.is.cell h.gate.is.good h.gate.is.literals h.gate.is.within,
    tt,
  )

  pub all_can : AllByRecursion CanPlace (placements pairs)
  all_can = all_flat CanPlace in_order (flat_map instances_of pairs)
      (all_flat CanAll instances_of pairs
      (weaker GoodPair (λ (p : Signal × Gate). AllByRecursion CanAll (instances_of p)) can_each pairs all_pairs))

  -- no gate has an inverter
  no_nets : (ps : List (Signal × Gate)) → ArePairs ps
      → flat_map (λ (p : Signal × Gate). map (inverted_net p.0.name) (inverted_pins library p.1)) ps ≡ []
  no_nets [] all = refl
  no_nets (p ∷ ps) all =
      let h = all.0 in
      let c = h.gate.is.cell in
      let own_pins = pins_one library p.1 c h.gate.is.literals h.gate.is.sum h.gate.is.same h.gate.is.found
      ∙ ap (λ (xs : List (List ℕ × Literal)). map (λ q. q.0) xs) (no_pins c.ports.pins h.gate.is.literals h.plain) in
      let later = no_nets ps all.1 in
      λ i. map (inverted_net p.0.name) (own_pins i) ++ later i

  -- ---- all gates of the netlist

  abbrev pub gate_items : List Item
  gate_items = items pairs all_pairs

  abbrev pub gate_placements : List Placement
  gate_placements = placements pairs

  pub gate_symbols : flat_map placement_symbols gate_placements ≡ flat_map item_symbols gate_items
  gate_symbols = symbols_are pairs all_pairs

  pub gates_are_items : AllByRecursion (IsItem cells (names_in n.signals)) gate_items
  gates_are_items = all_items pairs all_pairs

  pub gate_there : (k : ℕ) (p : Signal × Gate) → slice_get pairs k ≡ Some p → IsAt gate_items k p
  gate_there k p at = item_there pairs all_pairs k p at

  pub no_wires : added_wires library n [] ≡ []
  no_wires = no_nets pairs all_pairs
