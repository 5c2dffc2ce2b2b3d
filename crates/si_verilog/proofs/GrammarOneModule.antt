-- Symbols spell one module at most.
use Rattle.std.proofs.Common.{◌≡◌, ◌≢◌, ℕ, List, [], ◌∷◌, ◌++◌, drop, flat_map, refl, sym, ap, subst, ◌∙◌, codes, arith}
use Rattle.std.specs.List.{join_by}
use Rattle.std.proofs.lemmas.List.{append_cancel_right}
use Rattle.si_verilog.specs.Symbols.{Symbol, Name, Word, Mark}
use Rattle.si_verilog.specs.Grammar.{Expression, Spells, Port, InputPort, OutputPort, Assign, SpellAssigns}
use Rattle.si_verilog.specs.Grammar.{no_assign, assign, Module, SpellModule, port_symbols, wire_symbols, module_symbols}
use Rattle.si_verilog.proofs.GrammarOneTree.{one_tree, has_no_end, parted}

-- ---- what stands first, and second, and third

abbrev mark_first : List Symbol → ℕ
mark_first (Mark m ∷ xs) = m
mark_first xs = 0

-- the first byte of the word that stands first
abbrev word_first : List Symbol → ℕ
word_first (Word (b ∷ bs) ∷ xs) = b
word_first xs = 0

abbrev name_second : List Symbol → List ℕ
name_second (x ∷ Name name ∷ xs) = name
name_second xs = []

-- ---- ports

abbrev ports_behind : List Port → List Symbol
ports_behind ps = flat_map (λ p. (Mark 44 ∷ []) ++ port_symbols p) ps

more_ports : (ps qs : List Port) (r s : List Symbol)
    → ports_behind ps ++ Mark 41 ∷ r ≡ ports_behind qs ++ Mark 41 ∷ s → (ps ≡ qs) × (r ≡ s)
more_ports [] [] r s same = (refl, ap (drop 1) same)
more_ports [] (q ∷ qs) r s same = (let marks : ◌≡◌ {A = ℕ} 41 44 = ap mark_first same in absurd (omega arith))
more_ports (p ∷ ps) [] r s same = (let marks : ◌≡◌ {A = ℕ} 44 41 = ap mark_first same in absurd (omega arith))
more_ports (InputPort a ∷ ps) (InputPort b ∷ qs) r s same =
    let names : a ≡ b = ap (λ (xs : List Symbol). name_second (drop 1 xs)) same in
    let rest = more_ports ps qs r s (ap (drop 3) same) in
    (λ i. InputPort (names i) ∷ rest.0 i, rest.1)
more_ports (OutputPort a ∷ ps) (OutputPort b ∷ qs) r s same =
    let names : a ≡ b = ap (λ (xs : List Symbol). name_second (drop 1 xs)) same in
    let rest = more_ports ps qs r s (ap (drop 3) same) in
    (λ i. OutputPort (names i) ∷ rest.0 i, rest.1)
more_ports (InputPort a ∷ ps) (OutputPort b ∷ qs) r s same =
    (let words : ◌≡◌ {A = ℕ} 105 111 = ap (λ (xs : List Symbol). word_first (drop 1 xs)) same in absurd (omega arith))
more_ports (OutputPort a ∷ ps) (InputPort b ∷ qs) r s same =
    (let words : ◌≡◌ {A = ℕ} 111 105 = ap (λ (xs : List Symbol). word_first (drop 1 xs)) same in absurd (omega arith))

abbrev ports_joined : List Port → List Symbol
ports_joined ps = join_by port_symbols (Mark 44 ∷ []) ps

one_ports : (ps qs : List Port) (r s : List Symbol)
    → ports_joined ps ++ Mark 41 ∷ r ≡ ports_joined qs ++ Mark 41 ∷ s → (ps ≡ qs) × (r ≡ s)
one_ports [] [] r s same = (refl, ap (drop 1) same)
one_ports [] (InputPort b ∷ qs) r s same =
    (let marks : ◌≡◌ {A = ℕ} 41 0 = ap mark_first same in absurd (omega arith))
one_ports [] (OutputPort b ∷ qs) r s same =
    (let marks : ◌≡◌ {A = ℕ} 41 0 = ap mark_first same in absurd (omega arith))
one_ports (InputPort a ∷ ps) [] r s same =
    (let marks : ◌≡◌ {A = ℕ} 0 41 = ap mark_first same in absurd (omega arith))
one_ports (OutputPort a ∷ ps) [] r s same =
    (let marks : ◌≡◌ {A = ℕ} 0 41 = ap mark_first same in absurd (omega arith))
one_ports (InputPort a ∷ ps) (InputPort b ∷ qs) r s same =
    let names : a ≡ b = ap name_second same in
    let rest = more_ports ps qs r s (ap (drop 2) same) in
    (λ i. InputPort (names i) ∷ rest.0 i, rest.1)
one_ports (OutputPort a ∷ ps) (OutputPort b ∷ qs) r s same =
    let names : a ≡ b = ap name_second same in
    let rest = more_ports ps qs r s (ap (drop 2) same) in
    (λ i. OutputPort (names i) ∷ rest.0 i, rest.1)
one_ports (InputPort a ∷ ps) (OutputPort b ∷ qs) r s same =
    (let words : ◌≡◌ {A = ℕ} 105 111 = ap word_first same in absurd (omega arith))
one_ports (OutputPort a ∷ ps) (InputPort b ∷ qs) r s same =
    (let words : ◌≡◌ {A = ℕ} 111 105 = ap word_first same in absurd (omega arith))

-- ---- wires

one_wires : (ws vs : List (List ℕ)) (r s : List Symbol) → word_first r ≢ 119 → word_first s ≢ 119
    → flat_map wire_symbols ws ++ r ≡ flat_map wire_symbols vs ++ s → (ws ≡ vs) × (r ≡ s)
one_wires [] [] r s none also same = (refl, same)
one_wires [] (v ∷ vs) r s none also same = absurd (none (ap word_first same))
one_wires (w ∷ ws) [] r s none also same = absurd (also (ap word_first (sym same)))
one_wires (w ∷ ws) (v ∷ vs) r s none also same =
    let names : w ≡ v = ap name_second same in
    let rest = one_wires ws vs r s none also (ap (drop 3) same) in
    (λ i. names i ∷ rest.0 i, rest.1)

-- ---- assigns

abbrev the_end : List Symbol
the_end = Word (codes "endmodule") ∷ []

-- what stands behind the wires begins with another word
no_wire : {xs : List Symbol} {assigns : List Assign} → SpellAssigns xs assigns → word_first (xs ++ the_end) ≢ 119
no_wire no_assign = λ same. omega arith
no_wire (assign name e rest) = λ same. omega arith

one_assigns : {xs ys : List Symbol} {former latter : List Assign} → SpellAssigns xs former → SpellAssigns ys latter
    → xs ≡ ys → former ≡ latter
one_assigns no_assign no_assign same = refl
one_assigns no_assign (assign m f also) same = cc
one_assigns (assign n e more) no_assign same = cc
one_assigns (assign n {xs = xs} {rest = rest} {tree = t} e more) (assign m {xs = ys} {rest = others} {tree = u} f also)
    same =
    let names : n ≡ m = ap name_second same in
    let parts = parted xs ys rest others (has_no_end e) (has_no_end f) (ap (drop 3) same) in
    let trees : t ≡ u = one_tree ys t u (subst (λ (zs : List Symbol). Spells Expression zs t) parts.0 e) f in
    let later = one_assigns more also parts.1 in
    λ i. record { name = names i; tree = trees i } ∷ later i

-- ---- modules

pub one_module : (symbols : List Symbol) (m k : Module) → SpellModule symbols m → SpellModule symbols k → m ≡ k
one_module symbols m k one other =
    let same : module_symbols m one.assigns ≡ module_symbols k other.assigns = sym one.whole ∙ other.whole in
    let names : m.name ≡ k.name = ap name_second same in
    let wires_of : Module → List Symbol → List Symbol = λ l xs. flat_map wire_symbols l.wires ++ (xs ++ the_end) in
    let ports = one_ports m.ports k.ports (Mark 59 ∷ wires_of m one.assigns) (Mark 59 ∷ wires_of k other.assigns)
    (ap (drop 3) same) in
    let wires = one_wires m.wires k.wires (one.assigns ++ the_end) (other.assigns ++ the_end)
    (no_wire one.spell) (no_wire other.spell) (ap (drop 1) ports.1) in
    let assigns = one_assigns one.spell other.spell
    (append_cancel_right one.assigns other.assigns the_end wires.1) in
    λ i. record { name = names i; ports = ports.0 i; wires = wires.0 i; assigns = assigns i }
