-- The whole text: its modules are told apart, and are those of the netlist over the library.
use Rattle.std.proofs.Common.{◌≡◌, ◌≢◌, ℕ, suc, ◌<◌, ◌&&◌, Bool, true, false, List, [], ◌∷◌, ◌++◌, length, map, filter}
use Rattle.std.proofs.Common.{flat_map, slice_get, Option, Some, AllPairs, bytes_eq, codes, get_or, refl, sym, ap}
use Rattle.std.proofs.Common.{subst, ◌∙◌, append_assoc, arith, inl, inr}
use Rattle.std.specs.Prelude.{IsTrue, unwrap_or, option_map}
use Rattle.std.specs.List.{AllByRecursion, list_any}
use Rattle.std.proofs.lemmas.Bool.{and_from, cases_Bool, or_left, or_right, true≢false}
use Rattle.std.proofs.lemmas.List.{append-nil, map-append}
use Rattle.std.proofs.lemmas.List.Elements.{recursion_from_All, All-from_recursion}
use Rattle.std.proofs.lemmas.List.Kept.{AllPairs-cons, AllPairs-filter}
use Rattle.std.proofs.lemmas.List.Quantifiers.{all_pairs_push}
use Rattle.std.proofs.lemmas.Option.{get_or_from_slice_get, slice_get_within, slice_get-get_or}
use Rattle.std.proofs.lemmas.Slice.Eq.{bytes_eq-Decides}
use Rattle.si_base.specs.declared.ids.Literal.{Literal}
use Rattle.si_base.specs.declared.graph.Signal.{Signal}
use Rattle.si_base.specs.Graph.{is_driven, IsNonInput}
use Rattle.si_base.specs.Limits.{code_width}
use Rattle.si_base.specs.Netlist.{Gate, SumGate, Cell as CellGate, Netlist, gate_place, value_if_there, sum_value}
use Rattle.si_base.specs.Netlist.{literal_value}
use Rattle.si_base.specs.NetlistText.{name_of}
use Rattle.si_base.specs.WellFormed.{IsNetlist, IsGate}
use Rattle.si_base.specs.Words.{is_signal_name}
use Rattle.si_netlist.proofs.GateLemmas.{gate_place-lt, within_signals}
use Rattle.si_cell.specs.Library.{Cell, code_of}
use Rattle.si_genlib.specs.Ports.{IsPortName, Ports, PortedLibrary}
use Rattle.si_verilog.specs.Declared.{port_name, declared_names}
use Rattle.si_verilog.specs.Symbols.{Symbol, symbols_of}
use Rattle.si_verilog.specs.Grammar.{Module, module_symbols}
use Rattle.si_verilog.specs.ModuleText.{ports_of, verilog_text, wire_line, wires_of}
use Rattle.si_verilog.proofs.DeclaredLemmas.{all_declared}
use Rattle.si_verilog.proofs.NameLemmas.{IsWritable, word_is_writable}
use Rattle.si_verilog.proofs.SymbolLemmas.{Reads, both_read}
use Rattle.si_verilog.proofs.MeaningLemmas.{AreNamed}
use Rattle.si_verilog.proofs.NetlistLemmas.{Writable, all_append, netlist_named, netlist_there, netlist_writable}
use Rattle.si_resettable.specs.Forcing.{Forcing, IsResetOf}
use Rattle.si_structure.specs.Laws.{IsPorted}
use Rattle.si_structure.specs.Parts.{Connection, Part, SpellPart, SpellParts, no_part, part}
use Rattle.si_structure.specs.Parts.{placement_symbols}
use Rattle.si_structure.specs.Meaning.{AreInvertersPlaced, AreOfCells, AreOfNetlist, IsController, IsGatePlaced, IsNet}
use Rattle.si_structure.specs.Meaning.{IsSettled, MeansStructure, alone}
use Rattle.si_structure.specs.Refusals.{IsStructured, inverts}
use Rattle.si_structure.specs.StructureText.{GateInstances, PortedCell, cell_instances, cell_named, cell_netlist}
use Rattle.si_structure.specs.StructureText.{complemented}
use Rattle.si_structure.specs.StructureText.{connected, controller_text, driven_gates, gate_instances, has_complemented}
use Rattle.si_structure.specs.StructureText.{has_name_of, in_order, instance_name, instances_from, inverted_net}
use Rattle.si_structure.specs.StructureText.{inverted_nets, inverted_pins, inverter_of, inverters_placed}
use Rattle.si_structure.specs.StructureText.{is_complemented, is_inverter, is_of, is_used, own_connections, pin_nets}
use Rattle.si_structure.specs.StructureText.{added_wires, driven_net, forced_by, free_nets, head_text, placement_line}
use Rattle.si_structure.specs.StructureText.{ported_cells, reset_lines, reset_ports, structure_text, used_cells}
use Rattle.si_structure.specs.StructureText.{with_ports}
use Rattle.si_structure.specs.Loops.Deciding.{ported_at}
use Rattle.si_structure.specs.declared.complements.Complements.{Complements}
use Rattle.si_structure.specs.declared.complements.Complements.TheVariants.{Refused, Inverted}
use Rattle.si_structure.proofs.OneMeaning.{one_meaning}
use Rattle.si_structure.proofs.ResetLemmas.{Added, added, free_apart, free_from_inverters, from_both, names_from_free}
use Rattle.si_structure.proofs.NameLemmas.{HasNameBytes, signal_bytes}
use Rattle.si_structure.proofs.ReadingLemmas.{CanPlace, framed_with, placements_read, wider_part_read}
use Rattle.si_structure.proofs.ModuleLemmas.{IsReadable, is_of_netlist as spelled_is, spelled}
use Rattle.si_structure.proofs.CellLemmas.{Apart, IsPortedCell, apart_append, apart_from, apart_front, drives_own}
use Rattle.si_structure.proofs.CellLemmas.{pins_are}
use Rattle.si_structure.proofs.ValueLemmas.{instance_value, inverts_from}
use Rattle.si_structure.proofs.LookupLemmas.{cell_is, cells_are, inverter_at, inverter_is, kept_found, named_at}
use Rattle.si_structure.proofs.LookupLemmas.{ported_distinct, some_inverter}
use Rattle.si_structure.proofs.PlacementLemmas.{IsThere, all_flat, all_gates, driven, driven_at, instances_one}
use Rattle.si_structure.proofs.PlacementLemmas.{module_found, one_at, ones_counted, pins_one, weaker, zip_all, zip_at}
use Rattle.si_structure.proofs.PlacementLemmas.{zip_count}
use Rattle.si_structure.proofs.InverterLemmas.{AreAtPins, HasInverter, cell_assign, drives_net, instance_is}
use Rattle.si_structure.proofs.InverterLemmas.{none_complemented, pin_values, with_inverter, without_inverter}
use Rattle.si_structure.proofs.DistinctLemmas.{AreOwnPins, HaveOwnPins, all_nets_apart, no_signals, own_pins}
use Rattle.si_structure.proofs.DistinctLemmas.{owners_apart, pairs_apart, signals_apart}
use Rattle.si_structure.proofs.StructureLemmas.{CellsSpelled, IsGood, IsGoodAt, all_filtered, at_pins, cells_spelled}
use Rattle.si_structure.proofs.StructureLemmas.{gate_is_used, good_at, instances_can, name_is_there, names_mapped}
use Rattle.si_structure.proofs.StructureLemmas.{net_lengths, own_nets_are, pin_nets_are, wires_can}

-- ---- the names of the modules

abbrev TellApart : Part → Part → Type 0
TellApart p q = p.body.name ≢ q.body.name

others : (name : List ℕ) (cells : List PortedCell) (modules : List Module) → AreOfCells cells modules
    → AllByRecursion (λ c. name ≢ c.cell.name) cells → AllByRecursion (λ p. name ≢ p.body.name) (map alone modules)
others name [] [] are apart = tt
others name [] (m ∷ ms) are apart = absurd are
others name (c ∷ cs) [] are apart = absurd are
others name (c ∷ cs) (m ∷ ms) are apart =
    (λ same. apart.0 (same ∙ are.0.named), others name cs ms are.1 apart.1)

apart_modules : (cells : List PortedCell) (modules : List Module) → AreOfCells cells modules
    → AllPairs (λ (x : PortedCell) (y : PortedCell). x.cell.name ≢ y.cell.name) cells
    → AllPairs TellApart (map alone modules)
apart_modules [] [] are pairs = λ i j d before within. absurd (omega arith)
apart_modules [] (m ∷ ms) are pairs = absurd are
apart_modules (c ∷ cs) [] are pairs = absurd are
apart_modules (c ∷ cs) (m ∷ ms) are pairs =
    let rest : AllByRecursion (λ d. c.cell.name ≢ d.cell.name) cs =
    recursion_from_All (λ (d : PortedCell). c.cell.name ≢ d.cell.name) cs
    (λ k d within. pairs 0 (suc k) d (omega arith) (omega arith)) in
    let mine : AllByRecursion (λ d. m.name ≢ d.cell.name) cs =
    subst (λ (name : List ℕ). AllByRecursion (λ d. name ≢ d.cell.name) cs) (sym are.0.named) rest in
    AllPairs-cons TellApart (alone m) (map alone ms)
    (All-from_recursion (TellApart (alone m)) (map alone ms) (others m.name cs ms are.1 mine))
    (apart_modules cs ms are.1 (λ i j d before within. pairs (suc i) (suc j) d (omega arith) (omega arith)))

no_model : (used : Cell → Bool) (model : List ℕ) (cells : List Cell) (ports : List Ports)
    → list_any (λ c. used c && bytes_eq c.name model) cells ≡ false
    → AllByRecursion (λ (c : PortedCell). c.cell.name ≢ model) (filter (λ c. used c.cell) (with_ports cells ports))
no_model used model [] ports none = tt
no_model used model (c ∷ cs) [] none = tt
no_model used model (c ∷ cs) (p ∷ ps) none = elim (cases_Bool (used c)) [
  | inl is ↦ elim (cases_Bool (bytes_eq c.name model)) [
    | inl same ↦ absurd (true≢false (rw (is, same) at none))
    | inr other ↦ rw is (
      λ same. true≢false (sym ((bytes_eq-Decides c.name model).1 same) ∙ other),
      no_model used model cs ps (rw (is, other) at none),
    )
  ]
  | inr unused ↦ rw unused (no_model used model cs ps (rw unused at none))
]

lasts : (name : List ℕ) (cells : List PortedCell) (modules : List Module) → AreOfCells cells modules
    → AllByRecursion (λ c. c.cell.name ≢ name) cells → AllByRecursion (λ p. p.body.name ≢ name) (map alone modules)
lasts name [] [] are apart = tt
lasts name [] (m ∷ ms) are apart = absurd are
lasts name (c ∷ cs) [] are apart = absurd are
lasts name (c ∷ cs) (m ∷ ms) are apart =
    (λ same. apart.0 (sym are.0.named ∙ same), lasts name cs ms are.1 apart.1)

-- ---- the netlist

gate_is : (n : Netlist) → IsNetlist n → (place : ℕ) (g : Gate) → slice_get n.gates place ≡ Some g
    → IsGate (length n.signals) g
gate_is n is place g there = subst (IsGate (length n.signals)) (get_or_from_slice_get n.gates place g g there)
    (is.gates place g (slice_get_within n.gates place g there))

symbols_none : symbols_of [] ≡ []
unfolding symbols_of
symbols_none = refl

own_name : (c : Cell) → bytes_eq c.name c.name ≡ true
own_name c = (bytes_eq-Decides c.name c.name).1 refl

plain_none : (literals : List Literal) → AllByRecursion (λ l. IsTrue l.plain) literals
    → list_any is_complemented literals ≡ false
plain_none [] all = refl
plain_none (l ∷ ls) all = let first = all.0 in rw first (plain_none ls all.1)

some_inverts : (complements : Complements) (cells : List Cell) → inverts complements cells ≡ true
    → list_any is_inverter cells ≡ true
some_inverts Refused cells is = absurd (true≢false (sym is))
some_inverts Inverted cells is = is

-- the names of a netlist's signals are those that its module declares
declared_signals : (n : Netlist) → IsNetlist n
    → map port_name (ports_of n.signals) ++ wires_of n.signals ≡ map (λ (x : Signal). x.name) n.signals
declared_signals n is =
    let readable : IsReadable n = record {
      model = word_is_writable n.model is.model;
      writable = netlist_writable n is;
      named = netlist_named n is;
      count = is.gate_count;
      there = netlist_there n is;
    } in
    let m = spelled n readable in
    let of = spelled_is n readable in
    let ports = of.ports in
    let wires = of.wires in
    (λ i. map port_name (sym ports i) ++ sym wires i) ∙ all_declared n m is of

bytes_of : (xs : List Signal) → AllByRecursion (λ x. IsTrue (is_signal_name x.name)) xs
    → AllByRecursion (λ x. HasNameBytes x.name) xs
bytes_of [] names = tt
bytes_of (x ∷ xs) names = (signal_bytes x.name names.0, bytes_of xs names.1)

names_bytes : (xs : List Signal) → AllByRecursion (λ x. HasNameBytes x.name) xs
    → AllByRecursion HasNameBytes (map (λ (x : Signal). x.name) xs)
names_bytes [] all = tt
names_bytes (x ∷ xs) all = (all.0, names_bytes xs all.1)

four_parts : (a b c d : List (List ℕ)) → (a ++ (b ++ c)) ++ d ≡ (a ++ b) ++ (c ++ d)
four_parts a b c d = simp append_assoc

module _ (ported : PortedLibrary) (complements : Complements) (n : Netlist) (reset : Option Forcing)
    (good : IsPorted ported) (is : IsNetlist n) (structured : IsStructured ported complements n)
    (fits : IsResetOf n reset) where
  abbrev cells : List PortedCell
  cells = ported_cells ported

  abbrev forced : List ℕ
  forced = forced_by reset

  abbrev pairs : List (Signal × Gate)
  pairs = driven_gates n.signals n.gates

  abbrev Good : Gate → Type 0
  Good g = IsGood ported complements (length n.signals) g

  named : AreNamed n.signals
  named = netlist_named n is

  good_here : (z : ℕ) (g : Gate) → IsNonInput n.signals z → slice_get n.gates (gate_place n.signals z) ≡ Some g
      → IsGoodAt ported complements (length n.signals) z g
  good_here z g non_input there =
      let within = within_signals n.signals z non_input in
      let few = is.few in
      let small : z < code_width = omega arith in
      good_at ported complements (length n.signals) z g good small (gate_is n is (gate_place n.signals z) g there)
      (structured.placed z g (record { driven = non_input; there = there }))

  all_good : AllByRecursion Good n.gates
  all_good = all_gates Good n.signals n.gates is.gate_count
      (λ z g non_input there. let here = good_here z g non_input there in here.is)

  pairs_good : AllByRecursion (λ p. Writable p.0 × Good p.1) pairs
  pairs_good = zip_all Writable Good (driven n.signals) n.gates
      (all_filtered Writable (λ (x : Signal). is_driven x.kind) n.signals (netlist_writable n is)) all_good

  abbrev instances : List GateInstances
  instances = instances_from cells n.signals forced n.signals n.gates

  one_of : (name : List ℕ) (g : Gate) → (h : Good g)
      → gate_instances cells n.signals forced name g ≡ cell_instances cells n.signals forced name h.cell h.literals ∷ []
  one_of name g h = instances_one cells n.signals forced name g h.cell h.literals h.sum h.same h.found

  one_each : AllByRecursion (λ (p : Signal × Gate). (i : GateInstances)
      × (gate_instances cells n.signals forced p.0.name p.1 ≡ i ∷ [])) pairs
  one_each = weaker (λ (p : Signal × Gate). Writable p.0 × Good p.1)
      (λ (p : Signal × Gate). (i : GateInstances) × (gate_instances cells n.signals forced p.0.name p.1 ≡ i ∷ []))
      (λ p h. (cell_instances cells n.signals forced p.0.name h.1.cell h.1.literals, one_of p.0.name p.1 h.1)) pairs
      pairs_good

  counted : length instances ≡ length (driven n.signals)
  counted = ones_counted (λ (p : Signal × Gate). gate_instances cells n.signals forced p.0.name p.1) pairs one_each
      ∙ zip_count (driven n.signals) n.gates is.gate_count

  -- ---- what is written can be read

  abbrev CanAll : GateInstances → Type 0
  CanAll i = AllByRecursion CanPlace (in_order i)

  all_can : AllByRecursion CanPlace (flat_map in_order instances)
  all_can = all_flat CanPlace in_order instances
      (all_flat CanAll (λ (p : Signal × Gate). gate_instances cells n.signals forced p.0.name p.1) pairs
      (weaker (λ (p : Signal × Gate). Writable p.0 × Good p.1)
      (λ (p : Signal × Gate). AllByRecursion CanAll (gate_instances cells n.signals forced p.0.name p.1))
      (λ p h. subst (AllByRecursion CanAll) (sym (one_of p.0.name p.1 h.1)) (
        instances_can n.signals named p.0.name h.0 cells (inverter_is ported good) forced h.1.cell h.1.good
            h.1.literals h.1.within,
        tt,
      )) pairs pairs_good))

  pins_of : (g : Gate) → (h : Good g)
      → inverted_pins cells g ≡ map (λ p. p.0) (complemented h.cell.ports.pins h.literals)
  pins_of g h = pins_one cells g h.cell h.literals h.sum h.same h.found

  wires_writable : AllByRecursion IsWritable (inverted_nets cells n.signals n.gates)
  wires_writable = all_flat IsWritable
      (λ (p : Signal × Gate). map (inverted_net p.0.name) (inverted_pins cells p.1)) pairs
      (weaker (λ (p : Signal × Gate). Writable p.0 × Good p.1)
      (λ (p : Signal × Gate). AllByRecursion IsWritable (map (inverted_net p.0.name) (inverted_pins cells p.1)))
      (λ p h.
      let pins = h.1.cell.ports.pins in
      subst (λ (ps : List (List ℕ)). AllByRecursion IsWritable (map (inverted_net p.0.name) ps))
      (sym (pins_of p.1 h.1))
      (wires_can n.signals named p.0.name h.0 (map (λ q. q.0) (complemented pins h.1.literals))
      (names_mapped (length n.signals) (complemented pins h.1.literals)
      (at_pins pins h.1.literals (length n.signals) (pins_are h.1.cell h.1.good) h.1.within)))) pairs pairs_good)

  cells_spelt : CellsSpelled (used_cells ported n)
  cells_spelt = cells_spelled (used_cells ported n)
      (all_filtered IsPortedCell (λ c. is_used cells n c.cell) cells (cells_are ported good))

  -- ---- the controller

  with_reset : Added n reset
  with_reset = added n reset is fits

  abbrev wires : List (List ℕ)
  wires = added_wires cells n forced

  abbrev controller : Part
  controller = record {
    body = framed_with n.model (reset_ports reset) n.signals wires with_reset.assigns;
    placements = flat_map in_order instances;
  }

  abbrev body_symbols : List Symbol
  body_symbols = with_reset.symbols ++ flat_map placement_symbols (flat_map in_order instances)

  abbrev controller_symbols : List Symbol
  controller_symbols = module_symbols controller.body body_symbols

  all_wires_writable : AllByRecursion IsWritable wires
  all_wires_writable = all_append IsWritable (free_nets n.signals forced) (inverted_nets cells n.signals n.gates)
      with_reset.writable wires_writable

  controller_read : Reads (controller_text ported n reset) controller_symbols
  controller_read =
      let placements = flat_map in_order instances in
      let lines = flat_map placement_line placements in
      let head = head_text n.model (reset_ports reset) n.signals ++ flat_map wire_line wires in
      λ rest.
      ap (λ (t : List ℕ). symbols_of ((t ++ codes "endmodule\n") ++ rest))
      (append_assoc head (reset_lines n reset) lines)
      ∙ wider_part_read n.model (reset_ports reset) n.signals wires (word_is_writable n.model is.model) with_reset.ports
      (netlist_writable n is) all_wires_writable (reset_lines n reset ++ lines) body_symbols with_reset.assigns
      (both_read (reset_lines n reset) lines with_reset.symbols (flat_map placement_symbols placements) with_reset.reads
      (placements_read placements all_can)) rest

  controller_part : SpellPart controller_symbols controller
  controller_part = record { assigns = with_reset.symbols; spell = with_reset.spell; whole = refl }

  signal_names_bytes : AllByRecursion (λ x. HasNameBytes x.name) n.signals
  signal_names_bytes =
      bytes_of n.signals (recursion_from_All (λ (x : Signal). IsTrue (is_signal_name x.name)) n.signals is.names)

  pairs_own : HaveOwnPins (inverted_pins cells) pairs
  pairs_own = weaker (λ (p : Signal × Gate). HasNameBytes p.0.name × Good p.1)
      (λ (p : Signal × Gate). HasNameBytes p.0.name × AreOwnPins (inverted_pins cells p.1))
      (λ p h.
      let ports = h.1.cell.ports in (
        h.0,
        subst AreOwnPins (sym (pins_of p.1 h.1)) (own_pins ports.pins h.1.literals (record {
          names = pins_are h.1.cell h.1.good;
          apart = apart_front ports.pins ports.output
              (apart_from (ports.pins ++ ports.output ∷ []) h.1.good.ports.distinct);
        })),
      )) pairs
      (zip_all (λ (x : Signal). HasNameBytes x.name) Good (driven n.signals) n.gates
      (all_filtered (λ (x : Signal). HasNameBytes x.name) (λ (x : Signal). is_driven x.kind) n.signals
      signal_names_bytes) all_good)

  distinct : AllPairs (λ x y. x ≢ y) (declared_names controller.body)
  distinct =
      let names = map (λ (x : Signal). x.name) n.signals in
      let front = map port_name (reset_ports reset) in
      let own_ports = map port_name (ports_of n.signals) in
      let free = free_nets n.signals forced in
      let nets = inverted_nets cells n.signals n.gates in
      let bytes : AllByRecursion HasNameBytes (front ++ names) =
      all_append HasNameBytes front names with_reset.port_bytes (names_bytes n.signals signal_names_bytes) in
      let added_apart : Apart (free ++ nets) = apart_append free nets
      (free_apart n.signals forced with_reset.bytes with_reset.forced)
      (all_nets_apart (inverted_pins cells) pairs pairs_own
      (owners_apart n.signals n.gates (signals_apart n.signals is.distinct)))
      (free_from_inverters n.signals forced with_reset.bytes (inverted_pins cells) pairs pairs_own) in
      let all : Apart ((front ++ names) ++ (free ++ nets)) =
      apart_append (front ++ names) (free ++ nets) with_reset.apart added_apart
      (from_both (front ++ names) free nets (names_from_free n.signals (front ++ names) bytes forced)
      (no_signals (inverted_pins cells) (front ++ names) bytes pairs)) in
      let same : (front ++ names) ++ (free ++ nets) ≡ declared_names controller.body =
      ap (λ (ms : List (List ℕ)). (front ++ ms) ++ (free ++ nets)) (sym (declared_signals n is))
      ∙ four_parts front own_ports (wires_of n.signals) (free ++ nets)
      ∙ ap (λ (ms : List (List ℕ)). ms ++ (wires_of n.signals ++ (free ++ nets)))
      (sym (map-append port_name (reset_ports reset) (ports_of n.signals))) in
      subst (AllPairs (λ x y. x ≢ y)) same (pairs_apart ((front ++ names) ++ (free ++ nets)) all)

  abbrev parts : List Part
  parts = map alone cells_spelt.modules ++ controller ∷ []

  used_there : (c : PortedCell) → is_used cells n c.cell ≡ true → cell_named cells c.cell.name ≡ Some c
      → IsThere parts c.cell.name c
  used_there c used found = module_found (used_cells ported n) cells_spelt.modules (controller ∷ []) cells_spelt.of
      c.cell.name c (kept_found (λ d. is_used cells n d.cell) cells c.cell.name c found used)

  gate_there : (z : ℕ) → IsNonInput n.signals z
      → (g : Gate) × (slice_get n.gates (gate_place n.signals z) ≡ Some g)
  gate_there z non_input =
      let before = gate_place-lt n.signals z non_input in
      let count = is.gate_count in
      let within : gate_place n.signals z < length n.gates = omega arith in (
        get_or n.gates (gate_place n.signals z) (SumGate []),
        slice_get-get_or n.gates (gate_place n.signals z) (SumGate []) within,
      )

  -- where a gate has a complemented literal, there is an inverter
  inverter_there : (place : ℕ) (g : Gate) → slice_get n.gates place ≡ Some g → has_complemented g ≡ true
      → list_any is_inverter ported.library.cells ≡ true
      → (c : PortedCell) × (inverter_of cells ≡ Some c) × HasInverter parts c
  inverter_there place g there some any =
      let first = some_inverter ported.library.cells any in
      let k = first.0 in
      let within = first.1.within in
      let c = ported_at ported k in
      let here = inverter_at ported good k first.1 in
      let called : has_name_of c.cell (inverter_of cells) ≡ true = ap (has_name_of c.cell) here ∙ own_name c.cell in
      let used : is_used cells n c.cell ≡ true = or_right (list_any (is_of c.cell) n.gates) _
      (and_from _ _ called (gate_is_used n.gates has_complemented place g there some)) in (
        c,
        here,
        record {
          good = cell_is ported good k within;
          inverts = inverts_from c.cell first.1.is;
          there = used_there c used (named_at ported good k within);
        },
      )

  inverters_at : (place : ℕ) (g : Gate) → slice_get n.gates place ≡ Some g → (h : Good g) → (name : List ℕ)
      → AreAtPins n parts name (complemented h.cell.ports.pins h.literals)
      (inverters_placed (inverter_of cells) n.signals name h.cell.ports.pins h.literals)
  inverters_at place g there h name = elim (cases_Bool (list_any is_complemented h.literals)) [
    | inl some ↦ elim h.plain [
      | inl inverted ↦ (
          let marked : has_complemented g ≡ true = ap has_complemented h.same ∙ some in
          let found = inverter_there place g there marked (some_inverts complements ported.library.cells inverted) in
          with_inverter n parts name (inverter_of cells) found.0 found.1 found.2 xs signals)
      | inr all ↦ absurd (true≢false (sym some ∙ plain_none h.literals all))
    ]
    | inr none ↦ without_inverter n parts name (inverter_of cells) xs
        (none_complemented h.cell.ports.pins h.literals none)
  ]
    where
      xs : List (List ℕ × Literal)
      xs = complemented h.cell.ports.pins h.literals

      signals : AllByRecursion (λ (p : List ℕ × Literal). p.1.sig < length n.signals) xs
      signals = weaker (λ (p : List ℕ × Literal). IsPortName p.0 × (p.1.sig < length n.signals))
          (λ (p : List ℕ × Literal). p.1.sig < length n.signals) (λ p both. both.1) xs
          (at_pins h.cell.ports.pins h.literals (length n.signals) (pins_are h.cell h.good) h.within)

  gate_placed : (z : ℕ) → IsNonInput n.signals z → IsGatePlaced ported n forced parts instances z
  gate_placed z non_input =
      let x : Signal = non_input.0 in
      let place = gate_place n.signals z in
      let gate = gate_there z non_input in
      let g : Gate = gate.0 in
      let found : IsGoodAt ported complements (length n.signals) z g = good_here z g non_input gate.1 in
      let h : Good g = found.is in
      let c : PortedCell = h.cell in
      let pins = c.ports.pins in
      let name = name_of n.signals z in
      let ns = pin_nets n.signals name pins h.literals in
      let name_is : name ≡ x.name =
      ap (λ o. unwrap_or (option_map (λ (s : Signal). s.name) o) []) non_input.1 in
      let within = within_signals n.signals z non_input in
      let gate_is_cell : slice_get n.gates place ≡ Some (CellGate c.cell.name h.literals h.sum) =
      gate.1 ∙ ap (λ (k : Gate). Some k) h.same in
      let used : is_used cells n c.cell ≡ true = or_left (list_any (is_of c.cell) n.gates) _
      (gate_is_used n.gates (is_of c.cell) place (CellGate c.cell.name h.literals h.sum) gate_is_cell
      (own_name c.cell)) in
      let there = used_there c used h.found in
      let at : AreAtPins n parts name (complemented pins h.literals)
      (inverters_placed (inverter_of cells) n.signals name pins h.literals) = inverters_at place g gate.1 h name in
      let are_pins = pins_of g h in
      let lengths = net_lengths n.signals name pins h.literals h.pins in
      let net = driven_net n.signals forced name in
      let connections : List Connection = connected pins ns ++ own_connections c name net in
      record {
        gate = g;
        has = gate.1;
        placed = cell_instances cells n.signals forced name c h.literals;
        there = one_at (λ (p : Signal × Gate). gate_instances cells n.signals forced p.0.name p.1) pairs one_each place
            (x, g) (cell_instances cells n.signals forced name c h.literals)
            (zip_at (driven n.signals) n.gates place x g (driven_at n.signals z x non_input.1 non_input.2) gate.1)
            (ap (λ (m : List ℕ). gate_instances cells n.signals forced m g) (sym name_is) ∙ one_of name g h);
        inverters = subst (λ (ps : List (List ℕ)). AreInvertersPlaced n parts name ps
            (inverters_placed (inverter_of cells) n.signals name pins h.literals)) (sym are_pins) at.placed;
        named = refl;
        assign = cell_assign parts c there;
        instance = instance_is parts c there (instance_name name) ns name net lengths;
        drives = drives_net c (instance_name name) ns name net;
        nets = All-from_recursion (IsNet n.signals name net (inverted_pins cells g)) connections
            (subst (λ (ps : List (List ℕ)). AllByRecursion (IsNet n.signals name net ps) connections) (sym are_pins)
            (all_append (IsNet n.signals name net (map (λ p. p.0) (complemented pins h.literals))) (connected pins ns)
            (own_connections c name net) (pin_nets_are n.signals name net pins h.literals h.within)
            (own_nets_are n.signals name net c (map (λ p. p.0) (complemented pins h.literals))
            (name_is_there n.signals z within))));
        value = λ values nets have settled.
            instance_value c h.good there.of (drives_own c there.of there.is) nets ns name net lengths
            ∙ ap (λ (bs : List Bool). sum_value (code_of (bs ++ nets name ∷ [])) c.cell.sum)
            (pin_values n parts name values nets have pins h.literals h.pins h.within
            (at.inverted nets (recursion_from_All (IsSettled parts nets)
            (inverters_placed (inverter_of cells) n.signals name pins h.literals) settled)))
            ∙ ap (λ (q : Bool). sum_value (code_of (map (literal_value values) h.literals ++ q ∷ [])) c.cell.sum)
            (have z within)
            ∙ sym (found.value values)
            ∙ sym (ap (λ o. value_if_there o z values) gate_is_cell);
      }

  is_controller : IsController ported n reset parts controller
  is_controller = record {
    named = refl;
    ports = refl;
    wires = refl;
    distinct = distinct;
    assigns = with_reset.are;
    instances = instances;
    placed = refl;
    count = counted;
    gates = gate_placed;
  }

  apart_parts : AllPairs TellApart parts
  apart_parts = all_pairs_push TellApart (map alone cells_spelt.modules) controller
      (apart_modules (used_cells ported n) cells_spelt.modules cells_spelt.of
      (AllPairs-filter (λ (x : PortedCell) (y : PortedCell). x.cell.name ≢ y.cell.name)
      (λ c. is_used cells n c.cell) cells (ported_distinct ported good)))
      (All-from_recursion (λ (p : Part). p.body.name ≢ n.model) (map alone cells_spelt.modules)
      (lasts n.model (used_cells ported n) cells_spelt.modules cells_spelt.of
      (no_model (is_used cells n) n.model ported.library.cells ported.ports structured.model)))

  is_of_netlist : AreOfNetlist ported n reset parts
  is_of_netlist = record {
    cells = cells_spelt.modules;
    controller = controller;
    whole = refl;
    of_cells = cells_spelt.of;
    of_netlist = is_controller;
    distinct = apart_parts;
  }

  whole_read : symbols_of (structure_text ported n reset) ≡ cells_spelt.symbols ++ (controller_symbols ++ [])
  unfolding structure_text
  whole_read =
      let front = flat_map (λ c. verilog_text (cell_netlist c)) (used_cells ported n) in
      let back = controller_text ported n reset in
      let read = both_read front back cells_spelt.symbols controller_symbols cells_spelt.reads controller_read in
      ap symbols_of (sym (append-nil (front ++ back))) ∙ read []
      ∙ ap (λ (u : List Symbol). (cells_spelt.symbols ++ controller_symbols) ++ u) symbols_none
      ∙ append_assoc cells_spelt.symbols controller_symbols []

  pub text_means : MeansStructure (structure_text ported n reset) ported n reset
  text_means = (
    parts,
    subst (λ (s : List Symbol). SpellParts s parts) (sym whole_read)
        (cells_spelt.spell (controller_symbols ++ []) (controller ∷ []) (part controller_part no_part)),
    is_of_netlist,
  )

-- and any modules that it is the text of are those
pub text_means_only : (ported : PortedLibrary) (complements : Complements) (n : Netlist) (reset : Option Forcing)
    (parts : List Part) → IsPorted ported → IsNetlist n → IsStructured ported complements n → IsResetOf n reset
    → SpellParts (symbols_of (structure_text ported n reset)) parts → AreOfNetlist ported n reset parts
text_means_only ported complements n reset parts good is structured fits spelt =
    let means = text_means ported complements n reset good is structured fits in
    subst (AreOfNetlist ported n reset)
    (one_meaning (symbols_of (structure_text ported n reset)) means.0 parts means.1 spelt) means.2
