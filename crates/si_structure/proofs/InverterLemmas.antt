-- Inverters at pins: what they are, and the values that they give to pins.
use Rattle.std.proofs.Common.{◌≡◌, ℕ, ◌<◌, not, Bool, true, false, List, [], ◌∷◌, ◌++◌, length, map, flat_map}
use Rattle.std.proofs.Common.{Option, Some, Contains, if◌then◌else◌, refl, sym, ap, subst, ◌∙◌, arith, inl, inr}
use Rattle.std.specs.List.{AllByRecursion, list_any}
use Rattle.std.proofs.lemmas.Bool.{cases_Bool, or_parts}
use Rattle.std.proofs.lemmas.List.Elements.{Contains-append_right}
use mathlib.Core.Bool.{beq}
use Rattle.si_base.specs.declared.ids.Literal.{Literal}
use Rattle.si_base.specs.declared.graph.Signal.{Signal}
use Rattle.si_base.specs.Bits.{bit}
use Rattle.si_base.specs.Netlist.{Netlist, literal_value}
use Rattle.si_base.specs.NetlistText.{name_of}
use Rattle.si_verilog.specs.Grammar.{Assign}
use Rattle.si_structure.specs.Parts.{Connection, Placement, Part}
use Rattle.si_structure.specs.Meaning.{AreInvertersPlaced, HaveValues, IsInstanceOf, IsInverterPlaced, IsSettled}
use Rattle.si_structure.specs.StructureText.{PortedCell, complemented, connected, feedback, inverted_net}
use Rattle.si_structure.specs.StructureText.{inverter_if_any}
use Rattle.si_structure.specs.StructureText.{inverter_name, inverter_placed, is_complemented, own_connections}
use Rattle.si_structure.specs.StructureText.{pin_net, pin_nets, placed, reads_own}
use Rattle.si_structure.proofs.CellLemmas.{IsPortedCell, drives_own}
use Rattle.si_structure.proofs.ValueLemmas.{Inverts, instance_value, inverter_value, ports_are}
use Rattle.si_structure.proofs.PlacementLemmas.{IsThere}

-- ---- instances of a cell whose module is in the text

-- the assign of that module
abbrev pub cell_assign : (parts : List Part) (c : PortedCell) → IsThere parts c.cell.name c → Assign
cell_assign parts c there = record { name = c.ports.output; tree = (drives_own c there.of there.is).tree }

pub instance_is : (parts : List Part) (c : PortedCell) (there : IsThere parts c.cell.name c) (instance : List ℕ)
    (ns : List (List ℕ)) (read driven : List ℕ) → length ns ≡ length c.ports.pins
    → IsInstanceOf parts (placed instance c ns read driven) (cell_assign parts c there)
instance_is parts c there instance ns read driven same =
    let drives = drives_own c there.of there.is in
    record {
      cell = there.of;
      found = there.found;
      assigned = drives.assigned;
      ports = ports_are c ns read driven same ∙ sym drives.ports;
    }

pub last_own : (c : PortedCell) (read driven : List ℕ)
    → Contains {X = Connection} (own_connections c read driven) (record { port = c.ports.output; net = driven })
last_own c read driven = by (reads_own c.cell)
  where
    by : (reads : Bool) → Contains {X = Connection}
        ((if reads then record { port = feedback c.ports; net = read } ∷ [] else [])
        ++ record { port = c.ports.output; net = driven } ∷ []) (record { port = c.ports.output; net = driven })
    by true = (1, omega arith, refl)
    by false = (0, omega arith, refl)

pub drives_net : (c : PortedCell) (instance : List ℕ) (ns : List (List ℕ)) (read driven : List ℕ)
    → Contains {X = Connection} (placed instance c ns read driven).connections
    (record { port = c.ports.output; net = driven })
drives_net c instance ns read driven = Contains-append_right (connected c.ports.pins ns)
    (own_connections c read driven) (record { port = c.ports.output; net = driven }) (last_own c read driven)

-- ---- pins with plain literals, and with complemented ones

pub plain_net : (signals : List Signal) (name p : List ℕ) (l : Literal) → l.plain ≡ true
    → pin_net signals name p l ≡ name_of signals l.sig
plain_net signals name p l plain = rw plain refl

pub other_net : (signals : List Signal) (name p : List ℕ) (l : Literal) → l.plain ≡ false
    → pin_net signals name p l ≡ inverted_net name p
other_net signals name p l other = rw other refl

pub plain_pins : (p : List ℕ) (l : Literal) (ps : List (List ℕ)) (ls : List Literal) → l.plain ≡ true
    → complemented (p ∷ ps) (l ∷ ls) ≡ complemented ps ls
plain_pins p l ps ls plain = rw plain refl

pub other_pins : (p : List ℕ) (l : Literal) (ps : List (List ℕ)) (ls : List Literal) → l.plain ≡ false
    → complemented (p ∷ ps) (l ∷ ls) ≡ (p, l) ∷ complemented ps ls
other_pins p l ps ls other = rw other refl

-- ---- inverters whose module is in the text

pub record HasInverter (parts : List Part) (c : PortedCell) : Type 0 where
  pub good : IsPortedCell c
  pub inverts : Inverts c.cell
  pub there : IsThere parts c.cell.name c

abbrev first_pin : List (List ℕ) → List ℕ
first_pin [] = []
first_pin (p ∷ ps) = p

one_connected : (pins : List (List ℕ)) (source : List ℕ) → length pins ≡ 1
    → connected pins (source ∷ []) ≡ record { port = first_pin pins; net = source } ∷ []
one_connected [] source one = absurd (omega arith)
one_connected (p ∷ []) source one = refl
one_connected (p ∷ q ∷ ps) source one = absurd (omega arith)

own_alone : (c : PortedCell) (read driven : List ℕ) → reads_own c.cell ≡ false
    → own_connections c read driven ≡ record { port = c.ports.output; net = driven } ∷ []
own_alone c read driven alone = rw alone refl

module _ (n : Netlist) (parts : List Part) (name : List ℕ) where
  -- the net of the inverter at each of these pins has the other value than the signal of its literal
  abbrev pub AreInverted : (List ℕ → Bool) → List (List ℕ × Literal) → Type 0
  AreInverted nets xs =
      AllByRecursion (λ p. nets (inverted_net name p.0) ≡ not (nets (name_of n.signals p.1.sig))) xs

  abbrev pub all_inverters : Option PortedCell → List (List ℕ × Literal) → List Placement
  all_inverters o xs = flat_map (λ p. inverter_if_any o name p.0 (name_of n.signals p.1.sig)) xs

  abbrev pub AreSignals : List (List ℕ × Literal) → Type 0
  AreSignals xs = AllByRecursion (λ p. p.1.sig < length n.signals) xs

  -- what is claimed of the inverters at these pins
  pub record AreAtPins (xs : List (List ℕ × Literal)) (inverters : List Placement) : Type 0 where
    pub placed : AreInvertersPlaced n parts name (map (λ p. p.0) xs) inverters
    pub inverted : (nets : List ℕ → Bool) → AllByRecursion (IsSettled parts nets) inverters → AreInverted nets xs

  module _ (c : PortedCell) (has : HasInverter parts c) where
    one_pin : length c.ports.pins ≡ 1
    one_pin = has.good.ports.count ∙ has.inverts.one

    one_net : (source : List ℕ) → length (source ∷ []) ≡ length c.ports.pins
    one_net source = sym one_pin

    inverter_is : (pin : List ℕ) (x : ℕ) → x < length n.signals
        → IsInverterPlaced n parts name pin (inverter_placed c name pin (name_of n.signals x))
    inverter_is pin x within =
        let source = name_of n.signals x in
        let net = inverted_net name pin in
        let pins = one_connected c.ports.pins source one_pin in
        let own = own_alone c net net has.inverts.alone in
        record {
          named = refl;
          assign = cell_assign parts c has.there;
          instance = instance_is parts c has.there (inverter_name name pin) (source ∷ []) net net (one_net source);
          port = first_pin c.ports.pins;
          source = x;
          is_signal = within;
          connections = λ i. pins i ++ own i;
        }

    settled_value : (pin source : List ℕ) (nets : List ℕ → Bool)
        → IsSettled parts nets (inverter_placed c name pin source)
        → nets (inverted_net name pin) ≡ not (nets source)
    settled_value pin source nets settled =
        let net = inverted_net name pin in
        let instance = instance_is parts c has.there (inverter_name name pin) (source ∷ []) net net (one_net source) in
        settled.driven (cell_assign parts c has.there) net instance
        (drives_net c (inverter_name name pin) (source ∷ []) net net)
        ∙ instance_value c has.good has.there.of (drives_own c has.there.of has.there.is) nets (source ∷ []) net net
        (one_net source)
        ∙ inverter_value c.cell has.good.cell has.inverts (nets source) (nets net)

    all_placed : (xs : List (List ℕ × Literal)) → AreSignals xs
        → AreInvertersPlaced n parts name (map (λ p. p.0) xs) (all_inverters (Some c) xs)
    all_placed [] all = tt
    all_placed (x ∷ xs) all = (inverter_is x.0 x.1.sig all.0, all_placed xs all.1)

    all_settled : (nets : List ℕ → Bool) (xs : List (List ℕ × Literal))
        → AllByRecursion (IsSettled parts nets) (all_inverters (Some c) xs) → AreInverted nets xs
    all_settled nets [] settled = tt
    all_settled nets (x ∷ xs) settled =
        (settled_value x.0 (name_of n.signals x.1.sig) nets settled.0, all_settled nets xs settled.1)

    some_at_pins : (xs : List (List ℕ × Literal)) → AreSignals xs → AreAtPins xs (all_inverters (Some c) xs)
    some_at_pins xs all = record {
      placed = all_placed xs all;
      inverted = λ nets settled. all_settled nets xs settled;
    }

  -- there are inverters
  pub with_inverter : (o : Option PortedCell) (c : PortedCell) → o ≡ Some c → HasInverter parts c
      → (xs : List (List ℕ × Literal)) → AreSignals xs → AreAtPins xs (all_inverters o xs)
  with_inverter o c is has xs all =
      subst (λ (p : Option PortedCell). AreAtPins xs (all_inverters p xs)) (sym is) (some_at_pins c has xs all)

  -- or none is wanted
  pub without_inverter : (o : Option PortedCell) (xs : List (List ℕ × Literal)) → xs ≡ []
      → AreAtPins xs (all_inverters o xs)
  without_inverter o xs none = subst (λ (ys : List (List ℕ × Literal)). AreAtPins ys (all_inverters o ys)) (sym none)
      (record { placed = tt; inverted = λ nets settled. tt })

  -- ---- the values of the pins

  plain_value : (b p : Bool) → p ≡ true → b ≡ beq b p
  plain_value true true is = refl
  plain_value false true is = refl
  plain_value b false is = cc

  complement_value : (b p : Bool) → p ≡ false → not b ≡ beq b p
  complement_value true false is = refl
  complement_value false false is = refl
  complement_value b true is = cc

  rest_inverted : (nets : List ℕ → Bool) (p : List ℕ) (l : Literal) (ps : List (List ℕ)) (ls : List Literal)
      → AreInverted nets (complemented (p ∷ ps) (l ∷ ls)) → AreInverted nets (complemented ps ls)
  rest_inverted nets p l ps ls inverted = elim (cases_Bool l.plain) [
    | inl plain ↦ subst (AreInverted nets) (plain_pins p l ps ls plain) inverted
    | inr other ↦ (let both = subst (AreInverted nets) (other_pins p l ps ls other) inverted in both.1)
  ]

  first_inverted : (nets : List ℕ → Bool) (p : List ℕ) (l : Literal) (ps : List (List ℕ)) (ls : List Literal)
      → AreInverted nets (complemented (p ∷ ps) (l ∷ ls)) → l.plain ≡ false
      → nets (inverted_net name p) ≡ not (nets (name_of n.signals l.sig))
  first_inverted nets p l ps ls inverted other =
      let both = subst (AreInverted nets) (other_pins p l ps ls other) inverted in
      both.0

  module _ (values : ℕ) (nets : List ℕ → Bool) (have : HaveValues n.signals values nets) where
    pin_value : (p : List ℕ) (l : Literal) → l.sig < length n.signals
        → (l.plain ≡ false → nets (inverted_net name p) ≡ not (nets (name_of n.signals l.sig)))
        → nets (pin_net n.signals name p l) ≡ literal_value values l
    pin_value p l within inverted = elim (cases_Bool l.plain) [
      | inl plain ↦ ap nets (plain_net n.signals name p l plain) ∙ have l.sig within
          ∙ plain_value (bit values l.sig) l.plain plain
      | inr other ↦ ap nets (other_net n.signals name p l other) ∙ inverted other ∙ ap not (have l.sig within)
          ∙ complement_value (bit values l.sig) l.plain other
    ]

    pub pin_values : (pins : List (List ℕ)) (literals : List Literal) → length literals ≡ length pins
        → AllByRecursion (λ l. l.sig < length n.signals) literals → AreInverted nets (complemented pins literals)
        → map nets (pin_nets n.signals name pins literals) ≡ map (literal_value values) literals
    pin_values [] [] same within inverted = refl
    pin_values [] (l ∷ ls) same within inverted = absurd (omega arith)
    pin_values (p ∷ ps) [] same within inverted = absurd (omega arith)
    pin_values (p ∷ ps) (l ∷ ls) same within inverted =
        let rest : length ls ≡ length ps = omega arith in
        let here = pin_value p l within.0 (first_inverted nets p l ps ls inverted) in
        let later = pin_values ps ls rest within.1 (rest_inverted nets p l ps ls inverted) in
        λ i. here i ∷ later i

-- ---- literals that are all plain

pub none_complemented : (pins : List (List ℕ)) (literals : List Literal) → list_any is_complemented literals ≡ false
    → complemented pins literals ≡ []
none_complemented [] literals none = refl
none_complemented (p ∷ ps) [] none = refl
none_complemented (p ∷ ps) (l ∷ ls) none =
    let parts = or_parts (is_complemented l) (list_any is_complemented ls) none in
    rw parts.0 (none_complemented ps ls parts.1)
