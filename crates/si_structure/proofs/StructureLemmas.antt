-- What the text of a netlist over a library is made of.
use Rattle.std.proofs.Common.{◌≡◌, ◌⊎◌, ℕ, zero, suc, ◌<◌, Bool, true, false, List, [], ◌∷◌, ◌++◌, length, map, filter}
use Rattle.std.proofs.Common.{bytes_eq, flat_map, slice_get, Option, Some, None, Contains, if◌then◌else◌, refl, sym, ap}
use Rattle.std.proofs.Common.{subst, ◌∙◌, append_assoc, arith, inl, inr}
use Rattle.std.specs.Prelude.{IsTrue}
use Rattle.std.specs.List.{AllByRecursion, list_any}
use Rattle.std.proofs.lemmas.Bool.{cases_Bool}
use Rattle.std.proofs.lemmas.List.Elements.{recursion_from_All}
use Rattle.si_base.specs.declared.ids.Literal.{Literal}
use Rattle.si_base.specs.declared.graph.Signal.{Signal}
use Rattle.si_base.specs.Bits.{bit}
use Rattle.si_base.specs.Limits.{code_width}
use Rattle.si_base.specs.Netlist.{Gate, Cell as CellGate, Sum}
use Rattle.si_base.specs.Netlist.{literal_value, sum_value}
use Rattle.si_base.specs.NetlistText.{name_of}
use Rattle.si_base.specs.WellFormed.{IsGate}
use Rattle.si_cell.specs.Expanded.{expanded}
use Rattle.si_cell.specs.Library.{code_of}
use Rattle.si_cell.proofs.ExpandedLemmas.{expanded_value}
use Rattle.si_genlib.specs.Ports.{IsPortName, PortedLibrary}
use Rattle.si_verilog.specs.Symbols.{Symbol}
use Rattle.si_verilog.specs.Grammar.{Module}
use Rattle.si_verilog.specs.ModuleText.{verilog_text}
use Rattle.si_verilog.proofs.NameLemmas.{IsWritable, signal_is_writable}
use Rattle.si_verilog.proofs.SymbolLemmas.{Reads, both_read}
use Rattle.si_verilog.proofs.MeaningLemmas.{AreNamed}
use Rattle.si_verilog.proofs.NetlistLemmas.{all_append}
use Rattle.si_structure.specs.Laws.{IsPorted}
use Rattle.si_structure.specs.Parts.{Connection, Part, SpellParts, part}
use Rattle.si_structure.specs.Meaning.{AreOfCells, IsNet, alone}
use Rattle.si_structure.specs.Refusals.{IsPlacedGate, inverts}
use Rattle.si_structure.specs.StructureText.{PortedCell, cell_instances, cell_named, cell_netlist, complemented}
use Rattle.si_structure.specs.StructureText.{connected, driven_net, feedback, free_net, in_order, instance_name}
use Rattle.si_structure.specs.StructureText.{inverted_net, inverter_if_any, inverter_name, inverter_of}
use Rattle.si_structure.specs.StructureText.{is_complemented, own_connections, pin_nets, placed}
use Rattle.si_structure.specs.StructureText.{ported_cells, reads_own}
use Rattle.si_structure.specs.Loops.Deciding.{ported_at}
use Rattle.si_structure.specs.declared.complements.Complements.{Complements}
use Rattle.si_structure.proofs.NameLemmas.{feedback_writable, free_writable, instance_writable, inverter_writable}
use Rattle.si_structure.proofs.NameLemmas.{net_writable, port_writable}
use Rattle.si_structure.proofs.ReadingLemmas.{CanConnect, CanPlace}
use Rattle.si_structure.proofs.ModuleLemmas.{spelled, spelled_symbols, text_read, is_part, is_of_netlist}
use Rattle.si_structure.proofs.CellLemmas.{IsPortedCell, cell_readable, output_is, pins_are}
use Rattle.si_structure.proofs.InverterLemmas.{other_net, other_pins, plain_net, plain_pins}
use Rattle.si_structure.proofs.LookupLemmas.{IsCellIfAny, cell_is, named_at}
use Rattle.si_structure.proofs.PlacementLemmas.{zip_all}

-- ---- the modules of cells

pub record CellsSpelled (cells : List PortedCell) : Type 0 where
  pub modules : List Module
  pub symbols : List Symbol
  pub of : AreOfCells cells modules
  pub spell : (rest : List Symbol) (parts : List Part) → SpellParts rest parts
      → SpellParts (symbols ++ rest) (map alone modules ++ parts)
  pub reads : Reads (flat_map (λ c. verilog_text (cell_netlist c)) cells) symbols

pub cells_spelled : (cells : List PortedCell) → AllByRecursion IsPortedCell cells → CellsSpelled cells
cells_spelled [] all = record {
  modules = [];
  symbols = [];
  of = tt;
  spell = λ rest parts spelt. spelt;
  reads = λ rest. refl;
}
cells_spelled (c ∷ cs) all =
    let n = cell_netlist c in
    let r = cell_readable c all.0 in
    let later = cells_spelled cs all.1 in
    record {
      modules = spelled n r ∷ later.modules;
      symbols = spelled_symbols n r ++ later.symbols;
      of = (is_of_netlist n r, later.of);
      spell = λ rest parts spelt. subst
          (λ (xs : List Symbol). SpellParts xs (alone (spelled n r) ∷ (map alone later.modules ++ parts)))
          (sym (append_assoc (spelled_symbols n r) later.symbols rest))
          (part (is_part n r) (later.spell rest parts spelt));
      reads = both_read (verilog_text n) (flat_map (λ d. verilog_text (cell_netlist d)) cs) (spelled_symbols n r)
          later.symbols (text_read n r) later.reads;
    }

pub all_filtered : {A : Type 0} (P : A → Type 0) (p : A → Bool) (xs : List A) → AllByRecursion P xs
    → AllByRecursion P (filter p xs)
all_filtered P p [] all = tt
all_filtered P p (c ∷ cs) all = elim (cases_Bool (p c)) [
  | inl is ↦ rw is (all.0, all_filtered P p cs all.1)
  | inr other ↦ rw other (all_filtered P p cs all.1)
]

-- ---- what each gate has

-- a gate that is an instance, with what its text needs
pub record IsGood (ported : PortedLibrary) (complements : Complements) (count : ℕ) (g : Gate) : Type 0 where
  pub cell : PortedCell
  pub literals : List Literal
  pub sum : Sum
  pub same : g ≡ CellGate cell.cell.name literals sum
  pub found : cell_named (ported_cells ported) cell.cell.name ≡ Some cell
  pub good : IsPortedCell cell
  pub pins : length literals ≡ length cell.ports.pins
  pub within : AllByRecursion (λ l. l.sig < count) literals
  pub plain : IsTrue (inverts complements ported.library.cells) ⊎ AllByRecursion (λ l. IsTrue l.plain) literals

-- and the value of its sum is that of the cell's, where the own output has the value of the signal
pub record IsGoodAt (ported : PortedLibrary) (complements : Complements) (count z : ℕ) (g : Gate) : Type 0 where
  pub is : IsGood ported complements count g
  pub value : (values : ℕ) → sum_value values is.sum
      ≡ sum_value (code_of (map (literal_value values) is.literals ++ bit values z ∷ [])) is.cell.cell.sum

pub good_at : (ported : PortedLibrary) (complements : Complements) (count z : ℕ) (g : Gate) → IsPorted ported
    → z < code_width → IsGate count g → IsPlacedGate ported.library complements z g
    → IsGoodAt ported complements count z g
good_at ported complements count z g good small is placed_gate =
    let i = placed_gate.instance in
    let gate = subst (IsGate count) placed_gate.is.same is in
    let cell = cell_is ported good i.cell placed_gate.is.instance.cell in
    record {
      is = record {
        cell = ported_at ported i.cell;
        literals = i.literals;
        sum = expanded ported.library i z;
        same = placed_gate.is.same;
        found = named_at ported good i.cell placed_gate.is.instance.cell;
        good = cell;
        pins = placed_gate.is.instance.pins ∙ sym cell.ports.count;
        within = recursion_from_All (λ (l : Literal). l.sig < count) i.literals gate.2;
        plain = elim placed_gate.plain [
          | inl inverted ↦ inl inverted
          | inr all ↦ inr (recursion_from_All (λ (l : Literal). IsTrue l.plain) i.literals all)
        ];
      };
      value = λ values. expanded_value ported.library i z good.library placed_gate.is.instance small values;
    }

-- ---- pins with complemented literals

pub at_pins : (pins : List (List ℕ)) (literals : List Literal) (count : ℕ) → AllByRecursion IsPortName pins
    → AllByRecursion (λ l. l.sig < count) literals
    → AllByRecursion (λ (p : List ℕ × Literal). IsPortName p.0 × (p.1.sig < count)) (complemented pins literals)
at_pins pins literals count names within =
    all_filtered (λ (p : List ℕ × Literal). IsPortName p.0 × (p.1.sig < count)) (λ p. is_complemented p.1) _
    (zip_all IsPortName (λ (l : Literal). l.sig < count) pins literals names within)

pub names_mapped : (count : ℕ) (xs : List (List ℕ × Literal))
    → AllByRecursion (λ p. IsPortName p.0 × (p.1.sig < count)) xs → AllByRecursion IsPortName (map (λ p. p.0) xs)
names_mapped count [] all = tt
names_mapped count (x ∷ xs) all = (all.0.0, names_mapped count xs all.1)

-- ---- names of instances and nets that can be written

connected_can : (pins ns : List (List ℕ)) → AllByRecursion IsPortName pins → AllByRecursion IsWritable ns
    → AllByRecursion CanConnect (connected pins ns)
connected_can [] ns names writable = tt
connected_can (p ∷ ps) [] names writable = tt
connected_can (p ∷ ps) (n ∷ ns) names writable =
    (record { port = port_writable p names.0; net = writable.0 }, connected_can ps ns names.1 writable.1)

own_can : (c : PortedCell) → IsPortedCell c → (read driven : List ℕ) → IsWritable read → IsWritable driven
    → AllByRecursion CanConnect (own_connections c read driven)
own_can c is read driven one other = by (reads_own c.cell)
  where
    output : IsPortName c.ports.output
    output = output_is c is

    by : (reads : Bool) → AllByRecursion CanConnect
        ((if reads then record { port = feedback c.ports; net = read } ∷ [] else [])
        ++ record { port = c.ports.output; net = driven } ∷ [])
    by true = (
      record { port = feedback_writable c.ports output; net = one },
      (record { port = port_writable c.ports.output output; net = other }, tt),
    )
    by false = (record { port = port_writable c.ports.output output; net = other }, tt)

placed_can : (instance : List ℕ) → IsWritable instance → (c : PortedCell) → IsPortedCell c → (ns : List (List ℕ))
    → AllByRecursion IsWritable ns → (read driven : List ℕ) → IsWritable read → IsWritable driven
    → CanPlace (placed instance c ns read driven)
placed_can instance writable c is ns nets read driven one other = record {
  cell = signal_is_writable c.cell.name is.cell.name;
  name = writable;
  connections = all_append CanConnect (connected c.ports.pins ns) (own_connections c read driven)
      (connected_can c.ports.pins ns (pins_are c is) nets) (own_can c is read driven one other);
}

module _ (signals : List Signal) (are : AreNamed signals) (name : List ℕ) (writable : IsWritable name) where
  nets_writable : (pins : List (List ℕ)) (literals : List Literal) → AllByRecursion IsPortName pins
      → AllByRecursion (λ l. l.sig < length signals) literals
      → AllByRecursion IsWritable (pin_nets signals name pins literals)
  nets_writable [] literals names within = tt
  nets_writable (p ∷ ps) [] names within = tt
  nets_writable (p ∷ ps) (l ∷ ls) names within = (by l.plain, nets_writable ps ls names.1 within.1)
    where
      by : (plain : Bool) → IsWritable (if plain then name_of signals l.sig else inverted_net name p)
      by true = are.writable l.sig within.0
      by false = net_writable name p writable names.0

  inverters_can : (o : Option PortedCell) → IsCellIfAny o → (xs : List (List ℕ × Literal))
      → AllByRecursion (λ p. IsPortName p.0 × (p.1.sig < length signals)) xs
      → AllByRecursion CanPlace (flat_map (λ p. inverter_if_any o name p.0 (name_of signals p.1.sig)) xs)
  inverters_can None is [] all = tt
  inverters_can None is (x ∷ xs) all = inverters_can None is xs all.1
  inverters_can (Some c) is [] all = tt
  inverters_can (Some c) is (x ∷ xs) all =
      let net = inverted_net name x.0 in
      let net_can = net_writable name x.0 writable all.0.0 in (
        placed_can (inverter_name name x.0) (inverter_writable name x.0 writable all.0.0) c is
            (name_of signals x.1.sig ∷ []) (are.writable x.1.sig all.0.1, tt) net net net_can net_can,
        inverters_can (Some c) is xs all.1,
      )

  driven_can : (forced : List ℕ) → IsWritable (driven_net signals forced name)
  driven_can forced = by (list_any (λ z. bytes_eq (name_of signals z) name) forced)
    where
      by : (is_forced : Bool) → IsWritable (if is_forced then free_net name else name)
      by true = free_writable name writable
      by false = writable

  pub instances_can : (cells : List PortedCell) → IsCellIfAny (inverter_of cells) → (forced : List ℕ)
      → (c : PortedCell) → IsPortedCell c → (literals : List Literal)
      → AllByRecursion (λ l. l.sig < length signals) literals
      → AllByRecursion CanPlace (in_order (cell_instances cells signals forced name c literals))
  instances_can cells inverter forced c is literals within =
      let pins = c.ports.pins in
      let names = pins_are c is in
      let i = cell_instances cells signals forced name c literals in
      all_append CanPlace i.inverters (i.gate ∷ [])
      (inverters_can (inverter_of cells) inverter (complemented pins literals)
      (at_pins pins literals (length signals) names within)) (
        placed_can (instance_name name) (instance_writable name writable) c is (pin_nets signals name pins literals)
            (nets_writable pins literals names within) name (driven_net signals forced name) writable
            (driven_can forced),
        tt,
      )

  pub wires_can : (pins : List (List ℕ)) → AllByRecursion IsPortName pins
      → AllByRecursion IsWritable (map (inverted_net name) pins)
  wires_can [] names = tt
  wires_can (p ∷ ps) names = (net_writable name p writable names.0, wires_can ps names.1)

-- ---- nets of an instance

pub name_is_there : (signals : List Signal) (z : ℕ) → z < length signals
    → Contains (map (λ (x : Signal). x.name) signals) (name_of signals z)
name_is_there [] z there = absurd (omega arith)
name_is_there (x ∷ xs) zero there = (0, omega arith, refl)
name_is_there (x ∷ xs) (suc z) there =
    let later = name_is_there xs z (omega arith) in
    let inside = later.1 in
    (suc later.0, omega arith, later.2)

pub net_lengths : (signals : List Signal) (name : List ℕ) (pins : List (List ℕ)) (literals : List Literal)
    → length literals ≡ length pins → length (pin_nets signals name pins literals) ≡ length pins
net_lengths signals name [] [] same = refl
net_lengths signals name [] (l ∷ ls) same = absurd (omega arith)
net_lengths signals name (p ∷ ps) [] same = absurd (omega arith)
net_lengths signals name (p ∷ ps) (l ∷ ls) same =
    let rest : length ls ≡ length ps = omega arith in
    ap suc (net_lengths signals name ps ls rest)

module _ (signals : List Signal) (name driven : List ℕ) where
  one_more : (pins : List (List ℕ)) (p : List ℕ) (cs : List Connection)
      → AllByRecursion (IsNet signals name driven pins) cs → AllByRecursion (IsNet signals name driven (p ∷ pins)) cs
  one_more pins p [] all = tt
  one_more pins p (c ∷ cs) all = (
    elim all.0 [
      | inl signal ↦ inl signal
      | inr (inl inverted) ↦ (
          let there = inverted.0 in
          let inside = there.1 in
          inr (inl ((suc there.0, omega arith, there.2), inverted.1)))
      | inr (inr own) ↦ inr (inr own)
    ],
    one_more pins p cs all.1,
  )

  pub pin_nets_are : (pins : List (List ℕ)) (literals : List Literal)
      → AllByRecursion (λ l. l.sig < length signals) literals
      → AllByRecursion (IsNet signals name driven (map (λ p. p.0) (complemented pins literals)))
      (connected pins (pin_nets signals name pins literals))
  pin_nets_are [] literals within = tt
  pin_nets_are (p ∷ ps) [] within = tt
  pin_nets_are (p ∷ ps) (l ∷ ls) within =
      let later = pin_nets_are ps ls within.1 in
      elim (cases_Bool l.plain) [
        | inl plain ↦ at_pins_of (connected (p ∷ ps) (pin_nets signals name (p ∷ ps) (l ∷ ls)))
            (sym (plain_pins p l ps ls plain)) (
              inl (subst (Contains (map (λ (x : Signal). x.name) signals)) (sym (plain_net signals name p l plain))
                  (name_is_there signals l.sig within.0)),
              later,
            )
        | inr other ↦ at_pins_of (connected (p ∷ ps) (pin_nets signals name (p ∷ ps) (l ∷ ls)))
            (sym (other_pins p l ps ls other)) (
              inr (inl ((0, omega arith, refl), other_net signals name p l other)),
              one_more (map (λ q. q.0) (complemented ps ls)) p (connected ps (pin_nets signals name ps ls)) later,
            )
      ]
    where
      at_pins_of : (cs : List Connection) {xs ys : List (List ℕ × Literal)} → xs ≡ ys
          → AllByRecursion (IsNet signals name driven (map (λ q. q.0) xs)) cs
          → AllByRecursion (IsNet signals name driven (map (λ q. q.0) ys)) cs
      at_pins_of cs same are =
          subst (λ (zs : List (List ℕ × Literal)). AllByRecursion (IsNet signals name driven (map (λ q. q.0) zs)) cs)
          same are

  pub own_nets_are : (c : PortedCell) (pins : List (List ℕ)) → Contains (map (λ (x : Signal). x.name) signals) name
      → AllByRecursion (IsNet signals name driven pins) (own_connections c name driven)
  own_nets_are c pins there = by (reads_own c.cell)
    where
      by : (reads : Bool) → AllByRecursion (IsNet signals name driven pins)
          ((if reads then record { port = feedback c.ports; net = name } ∷ [] else [])
          ++ record { port = c.ports.output; net = driven } ∷ [])
      by true = (inl there, (inr (inr refl), tt))
      by false = (inr (inr refl), tt)

-- ---- gates among those of a netlist

pub gate_is_used : (gates : List Gate) (p : Gate → Bool) (place : ℕ) (g : Gate) → slice_get gates place ≡ Some g
    → p g ≡ true → list_any p gates ≡ true
gate_is_used [] p place g there is = cc
gate_is_used (h ∷ hs) p zero g there is =
    let same : h ≡ g = cc in
    let here : p h ≡ true = ap p same ∙ is in
    rw here refl
gate_is_used (h ∷ hs) p (suc place) g there is = elim (cases_Bool (p h)) [
  | inl first ↦ rw first refl
  | inr other ↦ rw other (gate_is_used hs p place g there is)
]
