-- Which arcs inside instances are disabled by name: those of pins at cut arcs, and those of cells that read their own
-- output.
use Rattle.std.proofs.Common.{◌≡◌, ◌≢◌, ℕ, zero, suc, ◌<◌, ◌==◌, Bool, true, false, List, [], ◌∷◌, length, Option}
use Rattle.std.proofs.Common.{Contains, All, AllPairs, get_or, filter, refl, sym, ap, subst, ◌∙◌, arith, inl, inr}
use Rattle.std.proofs.Common.{bytes_eq, if◌then◌else◌}
use Rattle.std.specs.Prelude.{IsTrue}
use Rattle.std.specs.List.{zip}
use Rattle.std.proofs.lemmas.Bool.{cases_Bool, false_from_ne_true}
use Rattle.std.proofs.lemmas.Bool.Decides.{Decides-eqb}
use Rattle.std.proofs.lemmas.Slice.Eq.{bytes_eq-Decides}
use Rattle.si_base.specs.declared.ids.Literal.{Literal}
use Rattle.si_base.specs.Graph.{IsNonInput}
use Rattle.si_base.specs.Netlist.{Gate, Netlist}
use Rattle.si_cell.specs.Library.{Cell, Instance, cell_at, no_cell}
use Rattle.si_genlib.specs.Ports.{PortedLibrary, Ports}
use Rattle.si_loops.specs.declared.arcs.Arc.{Arc}
use Rattle.si_loops.specs.Arcs.{arc_to}
use Rattle.si_structure.specs.StructureText.{feedback, reads_own}
use Rattle.si_timing.specs.Meaning.{IsOver}
use Rattle.si_timing.specs.Instances.{FeedbackOf, HasInstance, IsInput, NamedArc, PinOf, arc_from, named}
use Rattle.si_timing.specs.Instances.{no_literal, no_ports, ports_at, signal_at}
use Rattle.si_timing.specs.TimingText.{cells_named, cut_arcs, cut_of_gate, feedback_arcs, if_there, own_arcs}
use Rattle.si_timing.specs.TimingText.{own_of_gate, pin_arcs}
use Rattle.si_timing.proofs.InstanceLemmas.{gate_read, instance_there, pins_of_instance}
use Rattle.si_timing.proofs.Members.{filter_from, filter_in, head_in, in_cases, joined_from, joined_in, map_from}
use Rattle.si_timing.proofs.Members.{map_in, none_in, zip_from, zip_in}

-- ---- the cell of a name

abbrev has_name : List ℕ → Cell × Ports → Bool
has_name name c = bytes_eq c.0.name name

abbrev AreApart : List Cell → Type 0
AreApart cells = AllPairs (λ x y. x.name ≢ y.name) cells

pub none_named : (cells : List Cell) (ports : List Ports) (name : List ℕ) → All (λ c. c.name ≢ name) cells
    → filter (has_name name) (zip cells ports) ≡ []
none_named [] ports name none = refl
none_named (c ∷ cs) [] name none = refl
none_named (c ∷ cs) (p ∷ ps) name none =
    let other : bytes_eq c.name name ≡ false = false_from_ne_true (bytes_eq c.name name) (λ same.
    none 0 c (omega arith) ((bytes_eq-Decides c.name name).0 same)) in
    rw other (none_named cs ps name (λ k d within. none (suc k) d (omega (arith, within))))

pub one_named : (cells : List Cell) (ports : List Ports) (name : List ℕ) (k : ℕ) → AreApart cells → k < length cells
    → length ports ≡ length cells → (get_or cells k no_cell).name ≡ name
    → filter (has_name name) (zip cells ports) ≡ (get_or cells k no_cell, get_or ports k no_ports) ∷ []
one_named [] ports name k apart within count named = absurd (omega (arith, within))
one_named (c ∷ cs) [] name k apart within count named = absurd (omega (arith, count))
one_named (c ∷ cs) (p ∷ ps) name zero apart within count named =
    let is : bytes_eq c.name name ≡ true = (bytes_eq-Decides c.name name).1 named in
    let none = none_named cs ps name (λ j d inside same.
    apart 0 (suc j) d (omega arith) (omega (arith, inside)) (named ∙ sym same)) in
    rw (is, none) refl
one_named (c ∷ cs) (p ∷ ps) name (suc k) apart within count named =
    let inside : k < length cs = omega (arith, within) in
    let other : bytes_eq c.name name ≡ false = false_from_ne_true (bytes_eq c.name name) (λ same.
    apart 0 (suc k) no_cell (omega arith) within ((bytes_eq-Decides c.name name).0 same ∙ sym named)) in
    rw other (one_named cs ps name k (λ i j d before under. apart (suc i) (suc j) d (omega (arith, before))
    (omega (arith, under))) inside (omega (arith, count)) named)

module _ (library : PortedLibrary) (n : Netlist) (over : IsOver library n) where
  abbrev cell : ℕ → Cell
  cell k = cell_at library.library k

  one_cell : (k : ℕ) → k < length library.library.cells
      → cells_named library (cell k).name ≡ (cell k, ports_at library k) ∷ []
  one_cell k within = one_named library.library.cells library.ports (cell k).name k over.cells.cells.distinct within
      over.ports.count refl

  pub cell_there : (k : ℕ) → k < length library.library.cells
      → Contains (cells_named library (cell k).name) (cell k, ports_at library k)
  cell_there k within =
      let it : Cell × Ports = (cell k, ports_at library k) in
      subst (λ (cs : List (Cell × Ports)). Contains cs it) (sym (one_cell k within)) (head_in it [])

  pub only_cell : (k : ℕ) → k < length library.library.cells → (c : Cell × Ports)
      → Contains (cells_named library (cell k).name) c → c ≡ (cell k, ports_at library k)
  only_cell k within c there =
      let it : Cell × Ports = (cell k, ports_at library k) in
      elim (in_cases it c [] (subst (λ (cs : List (Cell × Ports)). Contains cs c) (one_cell k within) there)) [
        | inl same ↦ sym same
        | inr later ↦ absurd (none_in c later)
      ]

  -- ---- pins at a cut arc

  abbrev reads_from : Arc → List ℕ × Literal → Bool
  reads_from a p = p.1.sig == a.from

  pub cut_there : (z k : ℕ) (i : Instance) → HasInstance library.library n z i → k < length i.literals
      → Contains (cut_arcs library n (arc_to z (signal_at i (PinOf z k)))) (named library n (PinOf z k) i)
  cut_there z k i has within =
      let a : Arc = arc_to z (signal_at i (PinOf z k)) in
      let ports : Ports = ports_at library i.cell in
      let count = pins_of_instance library n over z i has in
      let paired = zip_in ports.pins i.literals k [] no_literal (omega (arith, within, count)) within in
      let read = filter_in (reads_from a) (zip ports.pins i.literals) _ paired
      ((Decides-eqb (signal_at i (PinOf z k)) (signal_at i (PinOf z k))).1 refl) in
      let P : Option Gate → Type 0 =
      λ o. Contains (if_there (cut_of_gate library n.signals a) o) (named library n (PinOf z k) i) in
      subst P (sym (gate_read library.library n z i has))
      (joined_in (λ (c : Cell × Ports). pin_arcs n.signals a i.literals c.1)
      (cells_named library (cell i.cell).name) (cell i.cell, ports) (named library n (PinOf z k) i)
      (cell_there i.cell has.is.instance.cell)
      (map_in (λ (p : List ℕ × Literal). arc_from n.signals z ports p.0)
      (filter (reads_from a) (zip ports.pins i.literals)) _ read))

  -- the arc is that from a pin whose literal is of the signal at which the cut arc begins
  pub record IsCutPin (a : Arc) (d : NamedArc) : Type 0 where
    pub pin : ℕ
    pub instance : Instance
    pub input : IsInput library.library n (PinOf a.to pin) instance
    pub source : signal_at instance (PinOf a.to pin) ≡ a.from
    pub is : d ≡ named library n (PinOf a.to pin) instance

  pin_of : (a : Arc) (d : NamedArc) (i : Instance) → HasInstance library.library n a.to i
      → Contains (pin_arcs n.signals a i.literals (ports_at library i.cell)) d → IsCutPin a d
  pin_of a d i has there =
      let ports : Ports = ports_at library i.cell in
      let mapped = map_from (λ (p : List ℕ × Literal). arc_from n.signals a.to ports p.0)
      (filter (reads_from a) (zip ports.pins i.literals)) d there in
      let passes = filter_from (reads_from a) (zip ports.pins i.literals) mapped.0 mapped.1 in
      let at = zip_from ports.pins i.literals mapped.0 passes.0 in
      record {
        pin = at.0;
        instance = i;
        input = record { instance = has; input = at.1.second };
        source = ap (λ (l : Literal). l.sig) (at.1.value no_literal) ∙ (Decides-eqb mapped.0.1.sig a.from).0 passes.1;
        is = sym mapped.2 ∙ ap (arc_from n.signals a.to ports) (sym (at.1.key []));
      }

  pub cut_named : (a : Arc) → IsNonInput n.signals a.to → (d : NamedArc) → Contains (cut_arcs library n a) d
      → IsCutPin a d
  cut_named a ends d found =
      let there = instance_there library n over a.to ends in
      let i : Instance = there.0 in
      let of_cell = (λ (c : Cell × Ports). pin_arcs n.signals a i.literals c.1) in
      let P : Option Gate → Type 0 = λ o. Contains (if_there (cut_of_gate library n.signals a) o) d in
      let joined = joined_from of_cell (cells_named library (cell i.cell).name) d
      (subst P (gate_read library.library n a.to i there.1) found) in
      let is = only_cell i.cell there.1.is.instance.cell joined.0 joined.1 in
      pin_of a d i there.1 (subst (λ (c : Cell × Ports). Contains (of_cell c) d) is joined.2)

  -- ---- the port by which a cell reads its own output

  pub own_there : (z : ℕ) (i : Instance) → HasInstance library.library n z i → IsTrue (reads_own (cell i.cell))
      → Contains (feedback_arcs library n z) (named library n (FeedbackOf z) i)
  own_there z i has own =
      let ports : Ports = ports_at library i.cell in
      let P : Option Gate → Type 0 =
      λ o. Contains (if_there (own_of_gate library n.signals z) o) (named library n (FeedbackOf z) i) in
      let it : NamedArc = arc_from n.signals z ports (feedback ports) in
      let Q : Bool → Type 0 = λ b. Contains (if b then it ∷ [] else []) it in
      subst P (sym (gate_read library.library n z i has))
      (joined_in (λ (c : Cell × Ports). own_arcs n.signals z c.0 c.1)
      (cells_named library (cell i.cell).name) (cell i.cell, ports) (named library n (FeedbackOf z) i)
      (cell_there i.cell has.is.instance.cell) (subst Q (sym own) (head_in it [])))

  -- the arc is that from this port
  pub record IsOwnPort (z : ℕ) (d : NamedArc) : Type 0 where
    pub instance : Instance
    pub input : IsInput library.library n (FeedbackOf z) instance
    pub is : d ≡ named library n (FeedbackOf z) instance

  own_of : (z : ℕ) (d : NamedArc) (i : Instance) → HasInstance library.library n z i
      → Contains (own_arcs n.signals z (cell i.cell) (ports_at library i.cell)) d → IsOwnPort z d
  own_of z d i has there =
      let ports : Ports = ports_at library i.cell in
      let it : NamedArc = arc_from n.signals z ports (feedback ports) in
      let Q : Bool → Type 0 = λ b. Contains (if b then it ∷ [] else []) d in
      elim (cases_Bool (reads_own (cell i.cell))) [
        | inl reads ↦ elim (in_cases it d [] (subst Q reads there)) [
          | inl same ↦ record { instance = i; input = record { instance = has; input = reads }; is = sym same }
          | inr later ↦ absurd (none_in d later)
        ]
        | inr other ↦ absurd (none_in d (subst Q other there))
      ]

  pub own_named : (z : ℕ) → IsNonInput n.signals z → (d : NamedArc) → Contains (feedback_arcs library n z) d
      → IsOwnPort z d
  own_named z driven d found =
      let there = instance_there library n over z driven in
      let i : Instance = there.0 in
      let of_cell = (λ (c : Cell × Ports). own_arcs n.signals z c.0 c.1) in
      let P : Option Gate → Type 0 = λ o. Contains (if_there (own_of_gate library n.signals z) o) d in
      let joined = joined_from of_cell (cells_named library (cell i.cell).name) d
      (subst P (gate_read library.library n z i there.1) found) in
      let is = only_cell i.cell there.1.is.instance.cell joined.0 joined.1 in
      own_of z d i there.1 (subst (λ (c : Cell × Ports). Contains (of_cell c) d) is joined.2)
