-- The instance of a gate by plain literals: it can be read, and its expression has the value of the gate.
use Rattle.std.proofs.Common.{◌≡◌, ℕ, ◌<◌, ◌==◌, not, Bool, true, false, List, [], ◌∷◌, ◌++◌, length, map}
use Rattle.std.proofs.Common.{if◌then◌else◌, refl, sym, ap, subst, ◌∙◌, append_assoc, arith, length-append}
use Rattle.std.specs.Prelude.{IsTrue}
use Rattle.std.specs.List.{AllByRecursion, list_any}
use Rattle.std.proofs.lemmas.Bool.Decides.{Decides-eqb}
use Rattle.std.proofs.lemmas.List.{length-map, map-append}
use Rattle.si_base.specs.declared.ids.Literal.{Literal}
use Rattle.si_base.specs.declared.graph.Signal.{Signal}
use Rattle.si_base.specs.Bits.{bit}
use Rattle.si_base.specs.Graph.{names_in}
use Rattle.si_base.specs.Netlist.{Netlist, literal_value, sum_value}
use Rattle.si_base.specs.NetlistText.{name_of}
use Rattle.si_base.specs.Words.{is_signal_name}
use Rattle.si_cell.specs.Library.{code_of}
use Rattle.si_words.specs.Names.{stands_in}
use Rattle.si_genlib.specs.Expression.{value_of}
use Rattle.si_equations.specs.Equations.{expression_value}
use Rattle.si_equations.specs.Names.{bare, named_value}
use Rattle.si_equations.proofs.MeaningLemmas.{AreNamed}
use Rattle.si_equations.proofs.NameLemmas.{plain_token}
use Rattle.si_equations.proofs.NewLemmas.{AreGood, AreNew, all_stand, new_parts}
use Rattle.si_verilog.specs.Declared.{port_name}
use Rattle.si_verilog.specs.Grammar.{InputPort, Module}
use Rattle.si_verilog.proofs.NetlistLemmas.{all_append}
use Rattle.si_verilog_reader.specs.Modules.{Cell, Connection, connected as joined, net_of}
use Rattle.si_verilog_reader.proofs.ExpressionLemmas.{tree_as}
use Rattle.si_structure.specs.Meaning.{HaveValues}
use Rattle.si_structure.specs.Parts.{Connection as Wired}
use Rattle.si_structure.specs.StructureText.{PortedCell, cell_inputs, complemented, connected, feedback, instance_name}
use Rattle.si_structure.specs.StructureText.{inverted_net, is_complemented, own_connections, pin_nets, placed}
use Rattle.si_structure.specs.StructureText.{reads_own}
use Rattle.si_structure.proofs.CellLemmas.{DrivesOwn, IsPortedCell}
use Rattle.si_structure.proofs.InverterLemmas.{none_complemented, pin_values, plain_net}
use Rattle.si_structure.proofs.StructureLemmas.{net_lengths}
use Rattle.si_structure.proofs.ValueLemmas.{instance_value, ports_are}
use Rattle.si_read_back.proofs.CellReading.{made}
use Rattle.si_read_back.proofs.CellSpelling.{SpelledCell}
use Rattle.si_read_back.proofs.CellsReading.{IsFound}
use Rattle.si_read_back.proofs.ConnectionLemmas.{CanBeRead, can_be_read, read_as}
use Rattle.si_read_back.proofs.InstanceValues.{StandNets, at_nets, last_net, tree_known, tree_valued}
use Rattle.si_read_back.proofs.ItemLemmas.{IsItem, Item}
use Rattle.si_read_back.proofs.NewNames.{ports_new}

-- ---- the module of the cell alone

named_back : (names : List (List ℕ)) → map port_name (map InputPort names) ≡ names
named_back [] = refl
named_back (n ∷ names) = ap (λ (l : List (List ℕ)). n ∷ l) (named_back names)

abbrev own_module : (c : PortedCell) → SpelledCell c → Module
own_module c s = record {
  name = c.cell.name;
  ports = map InputPort (cell_inputs c ++ c.ports.output ∷ []);
  wires = [];
  assigns = record { name = c.ports.output; tree = s.tree } ∷ [];
}

abbrev drives_own : (c : PortedCell) (s : SpelledCell c) → DrivesOwn c (own_module c s)
drives_own c s = record {
  tree = s.tree;
  assigned = refl;
  value = s.value;
  ports = named_back (cell_inputs c ++ c.ports.output ∷ []);
}

-- ---- the net at its output

connected_ports : (pins ns : List (List ℕ)) → length ns ≡ length pins
    → map (λ (d : Wired). d.port) (connected pins ns) ≡ pins
connected_ports [] [] same = refl
connected_ports [] (n ∷ ns) same = absurd (omega (arith, same))
connected_ports (p ∷ ps) [] same = absurd (omega (arith, same))
connected_ports (p ∷ ps) (n ∷ ns) same =
    let rest : length ns ≡ length ps = omega (arith, same) in
    ap (λ (names : List (List ℕ)). p ∷ names) (connected_ports ps ns rest)

abbrev own_front : PortedCell → List ℕ → List Wired
own_front c read = if reads_own c.cell then record { port = feedback c.ports; net = read } ∷ [] else []

front_ports : (c : PortedCell) (ns : List (List ℕ)) (read : List ℕ) → length ns ≡ length c.ports.pins
    → map (λ (d : Wired). d.port) (connected c.ports.pins ns ++ own_front c read) ≡ cell_inputs c
front_ports c ns read same =
    map-append (λ (d : Wired). d.port) (connected c.ports.pins ns) (own_front c read)
    ∙ ap (λ (names : List (List ℕ)). names ++ map (λ (d : Wired). d.port) (own_front c read))
    (connected_ports c.ports.pins ns same) ∙ by (reads_own c.cell)
  where
    by : (reads : Bool) → c.ports.pins ++ map (λ (d : Wired). d.port)
        (if reads then record { port = feedback c.ports; net = read } ∷ [] else [])
        ≡ c.ports.pins ++ (if reads then feedback c.ports ∷ [] else [])
    by true = refl
    by false = refl

output_net : (c : PortedCell) → IsPortedCell c → (ns : List (List ℕ)) (read driven : List ℕ)
    → length ns ≡ length c.ports.pins
    → net_of (read_as (connected c.ports.pins ns ++ own_connections c read driven)) c.ports.output ≡ driven
output_net c is ns read driven same =
    let last = c.ports.output in
    let front = connected c.ports.pins ns ++ own_front c read in
    let ends : List Wired = record { port = last; net = driven } ∷ [] in
    let fresh = (new_parts [] (cell_inputs c) (last ∷ []) (ports_new c is)).1.0 in
    let none = ap (λ (l : List (List ℕ)). stands_in l last) (front_ports c ns read same) ∙ fresh in
    ap (λ (cs : List Wired). net_of (read_as cs) last)
    (sym (append_assoc (connected c.ports.pins ns) (own_front c read) ends))
    ∙ last_net front last driven none

-- ---- plain literals

plain_none : (literals : List Literal) → AllByRecursion (λ l. IsTrue l.plain) literals
    → list_any is_complemented literals ≡ false
plain_none [] all = refl
plain_none (l ∷ ls) all = let first = all.0 in rw first (plain_none ls all.1)

pub no_pins : (pins : List (List ℕ)) (literals : List Literal) → AllByRecursion (λ l. IsTrue l.plain) literals
    → complemented pins literals ≡ []
no_pins pins literals plain = none_complemented pins literals (plain_none literals plain)

all_none : {A : Type 0} (P : A → Type 0) (xs : List A) → xs ≡ [] → AllByRecursion P xs
all_none {A} P xs none = subst (λ (l : List A). AllByRecursion P l) (sym none) tt

-- what holds of the connections holds by their ports
by_ports : (P : List ℕ → Type 0) (cs : List Wired) → AllByRecursion P (map (λ (d : Wired). d.port) cs)
    → AllByRecursion (λ d. P d.port) cs
by_ports P [] all = tt
by_ports P (c ∷ cs) all = (all.0, by_ports P cs all.1)

weaker : {A : Type 0} (P Q : A → Type 0) → ((x : A) → P x → Q x) → (xs : List A) → AllByRecursion P xs
    → AllByRecursion Q xs
weaker P Q next [] all = tt
weaker P Q next (x ∷ xs) all = (next x all.0, weaker P Q next xs all.1)

-- ---- nets that are signals

abbrev pub IsSignal : List Signal → List ℕ → Type 0
IsSignal signals net = (is_signal_name net ≡ true) × (stands_in (names_in signals) (bare net) ≡ true)

pub is_signal : (signals : List Signal) → AreNamed signals → (z : ℕ) → z < length signals
    → IsSignal signals (name_of signals z)
is_signal signals are z there =
    let good = are.good z there in (
      good,
      ap (stands_in (names_in signals)) (plain_token (name_of signals z) good).bare_is ∙ are.stands z there,
    )

abbrev AllSignals : List Signal → List Wired → Type 0
AllSignals signals cs = AllByRecursion (λ c. IsSignal signals c.net) cs

pins_signals : (signals : List Signal) → AreNamed signals → (name : List ℕ) (pins : List (List ℕ))
    (literals : List Literal) → AllByRecursion (λ l. IsTrue l.plain) literals
    → AllByRecursion (λ l. l.sig < length signals) literals
    → AllSignals signals (connected pins (pin_nets signals name pins literals))
pins_signals signals are name [] literals plain within = tt
pins_signals signals are name (p ∷ ps) [] plain within = tt
pins_signals signals are name (p ∷ ps) (l ∷ ls) plain within = (
  subst (IsSignal signals) (sym (plain_net signals name p l plain.0)) (is_signal signals are l.sig within.0),
  pins_signals signals are name ps ls plain.1 within.1,
)

own_signals : (signals : List Signal) (c : PortedCell) (name : List ℕ) → IsSignal signals name
    → AllSignals signals (own_connections c name name)
own_signals signals c name is = by (reads_own c.cell)
  where
    by : (reads : Bool) → AllSignals signals
        ((if reads then record { port = feedback c.ports; net = name } ∷ [] else [])
        ++ record { port = c.ports.output; net = name } ∷ [])
    by true = (is, (is, tt))
    by false = (is, tt)

-- ---- the instance

module _ (n : Netlist) (are : AreNamed n.signals) (good : AreGood (names_in n.signals)) (cells : List Cell)
    (c : PortedCell) (found : IsFound cells c.cell.name c) (name : List ℕ) (own : IsSignal n.signals name)
    (literals : List Literal) (count : length literals ≡ length c.ports.pins)
    (plain : AllByRecursion (λ l. IsTrue l.plain) literals)
    (within : AllByRecursion (λ l. l.sig < length n.signals) literals) where
  abbrev names : List (List ℕ)
  names = names_in n.signals

  abbrev pins : List (List ℕ)
  pins = c.ports.pins

  abbrev ports : List (List ℕ)
  ports = cell_inputs c ++ c.ports.output ∷ []

  abbrev nets : List (List ℕ)
  nets = pin_nets n.signals name pins literals

  abbrev connections : List Wired
  connections = connected pins nets ++ own_connections c name name

  abbrev pub gate_item : Item
  gate_item = record {
    name = name;
    tree = value_of (joined (read_as connections)) (tree_as found.spelled.tree);
    placement = placed (instance_name name) c nets name name;
  }

  lengths : length nets ≡ length pins
  lengths = net_lengths n.signals name pins literals count

  same_ports : map (λ (d : Wired). d.port) connections ≡ ports
  same_ports = ports_are c nets name name lengths

  all_signals : AllSignals n.signals connections
  all_signals = all_append (λ (d : Wired). IsSignal n.signals d.net) (connected pins nets)
      (own_connections c name name) (pins_signals n.signals are name pins literals plain within)
      (own_signals n.signals c name own)

  standing : StandNets names connections
  standing = weaker (λ (d : Wired). IsSignal n.signals d.net) (λ (d : Wired). stands_in names (bare d.net) ≡ true)
      (λ d is. is.1) connections all_signals

  can : CanBeRead ports [] connections
  can = can_be_read ports [] connections
      (by_ports (λ p. stands_in ports p ≡ true) connections
      (subst (AllByRecursion (λ p. stands_in ports p ≡ true)) (sym same_ports) (all_stand [] ports)))
      (subst (AreNew []) (sym same_ports) (ports_new c found.spelled.good))
      (weaker (λ (d : Wired). IsSignal n.signals d.net) (λ (d : Wired). is_signal_name d.net ≡ true)
      (λ d is. is.0) connections all_signals)

  counted : (length (read_as connections) == length ports) ≡ true
  counted =
      let read = length-map {B = Connection} connections (λ (d : Wired). record { port = d.port; net = d.net }) in
      let listed = length-map connections (λ (d : Wired). d.port) in
      let same = ap (λ (l : List (List ℕ)). length l) same_ports in
      (Decides-eqb (length (read_as connections)) (length ports)).1 (omega (arith, read, listed, same))

  some : 0 < length connections
  some =
      let last : List Wired = record { port = c.ports.output; net = name } ∷ [] in
      omega (
        arith,
        length-append (connected pins nets) (own_connections c name name),
        length-append (own_front c name) last,
      )

  pub is_item : IsItem cells names gate_item
  is_item = record {
    cell = made c found.spelled;
    found = found.is;
    can = can;
    count = counted;
    some = some;
    net = output_net c found.spelled.good nets name name lengths;
    tree = refl;
    knows = tree_known names connections ports same_ports standing found.spelled.tree found.spelled.named;
  }

  have_values : (v : ℕ) → HaveValues n.signals v (at_nets names v)
  have_values v x there =
      ap (named_value names v) (plain_token (name_of n.signals x) (are.good x there)).bare_is ∙ are.valued v x there

  -- its value, where its own output is signal z
  pub item_value : (v z : ℕ) → z < length n.signals → name ≡ name_of n.signals z
      → expression_value names v gate_item.tree
      ≡ sum_value (code_of (map (literal_value v) literals ++ bit v z ∷ [])) c.cell.sum
  item_value v z there same =
      let s = found.spelled in
      let values = at_nets names v in
      let inverted = all_none (λ (p : List ℕ × Literal). values (inverted_net name p.0)
      ≡ not (values (name_of n.signals p.1.sig))) (complemented pins literals) (no_pins pins literals plain) in
      tree_valued names good v connections s.tree
      ∙ instance_value c s.good (own_module c s) (drives_own c s) values nets name name lengths
      ∙ ap (λ (bs : List Bool). sum_value (code_of (bs ++ values name ∷ [])) c.cell.sum)
      (pin_values n [] name v values (have_values v) pins literals count within inverted)
      ∙ ap (λ (q : Bool). sum_value (code_of (map (literal_value v) literals ++ q ∷ [])) c.cell.sum)
      (ap values same ∙ have_values v z there)
