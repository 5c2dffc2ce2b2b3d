-- Names that are new one after another have no fault.
use Rattle.std.proofs.Common.{◌≡◌, ◌≢◌, ℕ, ◌+◌, ◌≤◌, not, Bool, true, false, List, [], ◌∷◌, ◌++◌, length}
use Rattle.std.proofs.Common.{bytes_eq, nat_le, Option, None, codes, if◌then◌else◌, refl, sym, ap, subst, ◌∙◌}
use Rattle.std.proofs.Common.{append_assoc, arith, length-append}
use Rattle.std.specs.List.{AllByRecursion}
use Rattle.std.proofs.lemmas.Bool.{lt-leb}
use Rattle.std.proofs.lemmas.List.{append-nil}
use Rattle.si_base.specs.Faults.{when, ◌otherwise◌, first_after}
use Rattle.si_base.specs.Limits.{max_signals}
use Rattle.si_base.specs.declared.fault.TextKind.{TextKind}
use Rattle.si_base.specs.declared.fault.TextKind.TheVariants.{BadName, Repeated, TooManySignals}
use Rattle.si_words.specs.Names.{name_fault, stands_in}
use Rattle.si_genlib.specs.Ports.{IsPortName, Ports}
use Rattle.si_equations.proofs.ListLemmas.{new_joined}
use Rattle.si_equations.proofs.NetlistLemmas.{other_bytes}
use Rattle.si_equations.proofs.NewLemmas.{AreGood, AreNew, new_parts, stands_append}
use Rattle.si_verilog_reader.specs.Modules.{port_fault}
use Rattle.si_structure.specs.StructureText.{PortedCell, cell_inputs, feedback, reads_own}
use Rattle.si_structure.proofs.CellLemmas.{Apart, IsPortedCell, apart_from, output_is, pins_are}
use Rattle.si_structure.proofs.NameLemmas.{no_dollar, port_bytes}

-- ---- names that are told apart are new

pushed : (before : List (List ℕ)) (name : List ℕ) (xs : List (List ℕ)) → AllByRecursion (λ y. name ≢ y) xs
    → AllByRecursion (λ y. stands_in before y ≡ false) xs
    → AllByRecursion (λ y. stands_in (before ++ name ∷ []) y ≡ false) xs
pushed before name [] apart all = tt
pushed before name (y ∷ xs) apart all =
    let other : bytes_eq y name ≡ false = other_bytes y name (λ same. apart.0 (sym same)) in (
      stands_append before (name ∷ []) y ∙ (rw (all.0, other) refl),
      pushed before name xs apart.1 all.1,
    )

new_from : (before xs : List (List ℕ)) → Apart xs → AllByRecursion (λ y. stands_in before y ≡ false) xs
    → AreNew before xs
new_from before [] apart none = tt
new_from before (x ∷ xs) apart none =
    (none.0, new_from (before ++ x ∷ []) xs apart.1 (pushed before x xs apart.0 none.1))

none_before : (xs : List (List ℕ)) → AllByRecursion (λ y. stands_in [] y ≡ false) xs
none_before [] = tt
none_before (x ∷ xs) = (refl, none_before xs)

pub all_new : (xs : List (List ℕ)) → Apart xs → AreNew [] xs
all_new xs apart = new_from [] xs apart (none_before xs)

-- ---- the ports of a cell

ports_good : (names xs : List (List ℕ)) → AreNew names xs → length names + length xs ≤ max_signals
    → first_after port_fault names xs ≡ None
ports_good names [] new few = refl
ports_good names (x ∷ xs) new few =
    let room : nat_le max_signals (length names) ≡ false =
    lt-leb max_signals (length names) (omega (arith, few)) in
    let fresh = new.0 in
    let here : port_fault names x ≡ None = λ i. when (fresh i) Repeated otherwise when (room i) TooManySignals in
    ap (λ (o : Option TextKind). o otherwise first_after port_fault (names ++ x ∷ []) xs) here
    ∙ ports_good (names ++ x ∷ []) xs new.1 (omega (arith, few, length-append names (x ∷ [])))

-- the port by which a cell reads its own output is none of these
no_feedback : (ports : Ports) (names : List (List ℕ)) → AllByRecursion IsPortName names
    → stands_in names (feedback ports) ≡ false
no_feedback ports [] all = refl
no_feedback ports (n ∷ names) all =
    let other : n ≢ feedback ports = no_dollar n ports.output (codes "in") (port_bytes n all.0) in
    let apart = other_bytes (feedback ports) n (λ same. other (sym same)) in
    rw apart (no_feedback ports names all.1)

module _ (c : PortedCell) (is : IsPortedCell c) where
  abbrev pins : List (List ℕ)
  pins = c.ports.pins

  abbrev last : List ℕ
  last = c.ports.output

  own : List ℕ
  own = feedback c.ports

  abbrev inputs_by : Bool → List (List ℕ)
  inputs_by reads = pins ++ (if reads then own ∷ [] else [])

  named : AreNew [] (pins ++ last ∷ [])
  named = all_new (pins ++ last ∷ []) (apart_from (pins ++ last ∷ []) is.ports.distinct)

  new_by : (reads : Bool) → AreNew [] (inputs_by reads ++ last ∷ [])
  unfolding own
  new_by true =
      let parts = new_parts [] pins (last ∷ []) named in
      let other : last ≢ own = no_dollar last last (codes "in") (port_bytes last (output_is c is)) in
      let apart : bytes_eq last own ≡ false = other_bytes last own other in
      let fresh = parts.1.0 in
      let none = no_feedback c.ports pins (pins_are c is) in
      new_joined [] (pins ++ own ∷ []) (last ∷ []) (new_joined [] pins (own ∷ []) parts.0 (none, tt))
      (stands_append pins (own ∷ []) last ∙ (rw (fresh, apart) refl), tt)
  new_by false = subst (λ (l : List (List ℕ)). AreNew [] (l ++ last ∷ [])) (sym (append-nil pins)) named

  pub ports_new : AreNew [] (cell_inputs c ++ last ∷ [])
  unfolding own
  ports_new = new_by (reads_own c.cell)

  few_by : (reads : Bool) → length (inputs_by reads ++ last ∷ []) ≤ max_signals
  few_by true =
      let count = is.ports.count in
      let few = is.cell.few_pins in
      omega (
        arith,
        count,
        few,
        length-append pins (own ∷ []),
        length-append (pins ++ own ∷ []) (last ∷ []),
      )
  few_by false =
      let count = is.ports.count in
      let few = is.cell.few_pins in
      omega (
        arith,
        count,
        few,
        length-append {A = List ℕ} pins [],
        length-append {A = List ℕ} (pins ++ []) (last ∷ []),
      )

  few_ports : length (cell_inputs c ++ last ∷ []) ≤ max_signals
  unfolding own
  few_ports = few_by (reads_own c.cell)

  pub cell_ports_good : first_after port_fault [] (cell_inputs c ++ last ∷ []) ≡ None
  cell_ports_good = ports_good [] (cell_inputs c ++ last ∷ []) ports_new (omega (arith, few_ports))
