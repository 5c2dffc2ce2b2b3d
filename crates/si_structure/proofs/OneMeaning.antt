-- Symbols spell one list of modules with instances at most.
use Rattle.std.proofs.Common.{◌≡◌, ◌≢◌, ℕ, List, [], ◌∷◌, ◌++◌, drop, flat_map, refl, sym, ap, subst, ◌∙◌, codes, arith}
use Rattle.std.proofs.Common.{append_assoc}
use Rattle.std.specs.List.{join_by}
use Rattle.si_verilog.specs.Symbols.{Symbol, Name, Word, Mark}
use Rattle.si_verilog.specs.Grammar.{Expression, Spells, Port, InputPort, OutputPort, Assign, SpellAssigns}
use Rattle.si_verilog.specs.Grammar.{no_assign, assign, port_symbols, wire_symbols, module_symbols}
use Rattle.si_verilog.proofs.GrammarOneTree.{one_tree, has_no_end, parted}
use Rattle.si_structure.specs.Parts.{Connection, Placement, Part, SpellPart, SpellParts, no_part, part}
use Rattle.si_structure.specs.Parts.{connection_symbols, placement_symbols}

-- ---- what stands first, and second, and third

abbrev mark_first : List Symbol → ℕ
mark_first (Mark m ∷ xs) = m
mark_first xs = 0

-- the first byte of the word that stands first
abbrev word_first : List Symbol → ℕ
word_first (Word (b ∷ bs) ∷ xs) = b
word_first xs = 0

abbrev name_second : List Symbol → List ℕ
name_second (x ∷ Name name ∷ xs) = name
name_second xs = []

-- ---- ports

abbrev ports_behind : List Port → List Symbol
ports_behind ps = flat_map (λ p. (Mark 44 ∷ []) ++ port_symbols p) ps

more_ports : (ps qs : List Port) (r s : List Symbol)
    → ports_behind ps ++ Mark 41 ∷ r ≡ ports_behind qs ++ Mark 41 ∷ s → (ps ≡ qs) × (r ≡ s)
more_ports [] [] r s same = (refl, ap (drop 1) same)
more_ports [] (q ∷ qs) r s same = (let marks : ◌≡◌ {A = ℕ} 41 44 = ap mark_first same in absurd (omega arith))
more_ports (p ∷ ps) [] r s same = (let marks : ◌≡◌ {A = ℕ} 44 41 = ap mark_first same in absurd (omega arith))
more_ports (InputPort a ∷ ps) (InputPort b ∷ qs) r s same =
    let names : a ≡ b = ap (λ (xs : List Symbol). name_second (drop 1 xs)) same in
    let rest = more_ports ps qs r s (ap (drop 3) same) in
    (λ i. InputPort (names i) ∷ rest.0 i, rest.1)
more_ports (OutputPort a ∷ ps) (OutputPort b ∷ qs) r s same =
    let names : a ≡ b = ap (λ (xs : List Symbol). name_second (drop 1 xs)) same in
    let rest = more_ports ps qs r s (ap (drop 3) same) in
    (λ i. OutputPort (names i) ∷ rest.0 i, rest.1)
more_ports (InputPort a ∷ ps) (OutputPort b ∷ qs) r s same =
    (let words : ◌≡◌ {A = ℕ} 105 111 = ap (λ (xs : List Symbol). word_first (drop 1 xs)) same in absurd (omega arith))
more_ports (OutputPort a ∷ ps) (InputPort b ∷ qs) r s same =
    (let words : ◌≡◌ {A = ℕ} 111 105 = ap (λ (xs : List Symbol). word_first (drop 1 xs)) same in absurd (omega arith))

abbrev ports_joined : List Port → List Symbol
ports_joined ps = join_by port_symbols (Mark 44 ∷ []) ps

one_ports : (ps qs : List Port) (r s : List Symbol)
    → ports_joined ps ++ Mark 41 ∷ r ≡ ports_joined qs ++ Mark 41 ∷ s → (ps ≡ qs) × (r ≡ s)
one_ports [] [] r s same = (refl, ap (drop 1) same)
one_ports [] (InputPort b ∷ qs) r s same =
    (let marks : ◌≡◌ {A = ℕ} 41 0 = ap mark_first same in absurd (omega arith))
one_ports [] (OutputPort b ∷ qs) r s same =
    (let marks : ◌≡◌ {A = ℕ} 41 0 = ap mark_first same in absurd (omega arith))
one_ports (InputPort a ∷ ps) [] r s same =
    (let marks : ◌≡◌ {A = ℕ} 0 41 = ap mark_first same in absurd (omega arith))
one_ports (OutputPort a ∷ ps) [] r s same =
    (let marks : ◌≡◌ {A = ℕ} 0 41 = ap mark_first same in absurd (omega arith))
one_ports (InputPort a ∷ ps) (InputPort b ∷ qs) r s same =
    let names : a ≡ b = ap name_second same in
    let rest = more_ports ps qs r s (ap (drop 2) same) in
    (λ i. InputPort (names i) ∷ rest.0 i, rest.1)
one_ports (OutputPort a ∷ ps) (OutputPort b ∷ qs) r s same =
    let names : a ≡ b = ap name_second same in
    let rest = more_ports ps qs r s (ap (drop 2) same) in
    (λ i. OutputPort (names i) ∷ rest.0 i, rest.1)
one_ports (InputPort a ∷ ps) (OutputPort b ∷ qs) r s same =
    (let words : ◌≡◌ {A = ℕ} 105 111 = ap word_first same in absurd (omega arith))
one_ports (OutputPort a ∷ ps) (InputPort b ∷ qs) r s same =
    (let words : ◌≡◌ {A = ℕ} 111 105 = ap word_first same in absurd (omega arith))

-- ---- wires

one_wires : (ws vs : List (List ℕ)) (r s : List Symbol) → word_first r ≢ 119 → word_first s ≢ 119
    → flat_map wire_symbols ws ++ r ≡ flat_map wire_symbols vs ++ s → (ws ≡ vs) × (r ≡ s)
one_wires [] [] r s none also same = (refl, same)
one_wires [] (v ∷ vs) r s none also same = absurd (none (ap word_first same))
one_wires (w ∷ ws) [] r s none also same = absurd (also (ap word_first (sym same)))
one_wires (w ∷ ws) (v ∷ vs) r s none also same =
    let names : w ≡ v = ap name_second same in
    let rest = one_wires ws vs r s none also (ap (drop 3) same) in
    (λ i. names i ∷ rest.0 i, rest.1)

-- ---- assigns

-- `a` is the first byte of `assign`
one_assigns : {xs ys : List Symbol} {former latter : List Assign} (r s : List Symbol) → SpellAssigns xs former
    → SpellAssigns ys latter → word_first r ≢ 97 → word_first s ≢ 97 → xs ++ r ≡ ys ++ s
    → (former ≡ latter) × (r ≡ s)
one_assigns r s no_assign no_assign none also same = (refl, same)
one_assigns r s no_assign (assign m f later) none also same = absurd (none (ap word_first same))
one_assigns r s (assign n e more) no_assign none also same = absurd (also (ap word_first (sym same)))
one_assigns r s (assign n {xs = xs} {rest = rest} {tree = t} e more)
    (assign m {xs = ys} {rest = others} {tree = u} f later) none also same =
    let names : n ≡ m = ap name_second same in
    let parts = parted xs ys (rest ++ r) (others ++ s) (has_no_end e) (has_no_end f)
    (sym (append_assoc xs (Mark 59 ∷ rest) r) ∙ ap (drop 3) same ∙ append_assoc ys (Mark 59 ∷ others) s) in
    let trees : t ≡ u = one_tree ys t u (subst (λ (zs : List Symbol). Spells Expression zs t) parts.0 e) f in
    let behind = one_assigns r s more later none also parts.1 in
    (λ i. record { name = names i; tree = trees i } ∷ behind.0 i, behind.1)

-- ---- instances

abbrev name_first : List Symbol → List ℕ
name_first (Name name ∷ xs) = name
name_first xs = []

more_connections : (cs ds : List Connection) (r s : List Symbol)
    → flat_map (λ c. (Mark 44 ∷ []) ++ connection_symbols c) cs ++ Mark 41 ∷ r
    ≡ flat_map (λ c. (Mark 44 ∷ []) ++ connection_symbols c) ds ++ Mark 41 ∷ s → (cs ≡ ds) × (r ≡ s)
more_connections [] [] r s same = (refl, ap (drop 1) same)
more_connections [] (d ∷ ds) r s same =
    (let marks : ◌≡◌ {A = ℕ} 41 44 = ap mark_first same in absurd (omega arith))
more_connections (c ∷ cs) [] r s same =
    (let marks : ◌≡◌ {A = ℕ} 44 41 = ap mark_first same in absurd (omega arith))
more_connections (c ∷ cs) (d ∷ ds) r s same =
    let ports : c.port ≡ d.port = ap (λ (xs : List Symbol). name_second (drop 1 xs)) same in
    let nets : c.net ≡ d.net = ap (λ (xs : List Symbol). name_second (drop 3 xs)) same in
    let rest = more_connections cs ds r s (ap (drop 6) same) in
    (λ i. record { port = ports i; net = nets i } ∷ rest.0 i, rest.1)

one_connections : (cs ds : List Connection) (r s : List Symbol)
    → join_by connection_symbols (Mark 44 ∷ []) cs ++ Mark 41 ∷ r
    ≡ join_by connection_symbols (Mark 44 ∷ []) ds ++ Mark 41 ∷ s → (cs ≡ ds) × (r ≡ s)
one_connections [] [] r s same = (refl, ap (drop 1) same)
one_connections [] (d ∷ ds) r s same =
    (let marks : ◌≡◌ {A = ℕ} 41 46 = ap mark_first same in absurd (omega arith))
one_connections (c ∷ cs) [] r s same =
    (let marks : ◌≡◌ {A = ℕ} 46 41 = ap mark_first same in absurd (omega arith))
one_connections (c ∷ cs) (d ∷ ds) r s same =
    let ports : c.port ≡ d.port = ap name_second same in
    let nets : c.net ≡ d.net = ap (λ (xs : List Symbol). name_second (drop 2 xs)) same in
    let rest = more_connections cs ds r s (ap (drop 5) same) in
    (λ i. record { port = ports i; net = nets i } ∷ rest.0 i, rest.1)

inside_out : (j m f e : List Symbol) → ((j ++ m) ++ f) ++ e ≡ j ++ (m ++ (f ++ e))
inside_out j m f e = simp append_assoc

one_placements : (ps qs : List Placement) (r s : List Symbol)
    → flat_map placement_symbols ps ++ Word (codes "endmodule") ∷ r
    ≡ flat_map placement_symbols qs ++ Word (codes "endmodule") ∷ s → (ps ≡ qs) × (r ≡ s)
one_placements [] [] r s same = (refl, ap (drop 1) same)
one_placements [] (q ∷ qs) r s same =
    (let words : ◌≡◌ {A = ℕ} 101 0 = ap word_first same in absurd (omega arith))
one_placements (p ∷ ps) [] r s same =
    (let words : ◌≡◌ {A = ℕ} 0 101 = ap word_first same in absurd (omega arith))
one_placements (p ∷ ps) (q ∷ qs) r s same =
    let cells : p.cell ≡ q.cell = ap name_first same in
    let names : p.name ≡ q.name = ap name_second same in
    let closing : List Symbol = Mark 41 ∷ Mark 59 ∷ [] in
    let first = one_connections p.connections q.connections
    (Mark 59 ∷ (flat_map placement_symbols ps ++ Word (codes "endmodule") ∷ r))
    (Mark 59 ∷ (flat_map placement_symbols qs ++ Word (codes "endmodule") ∷ s))
    (sym (inside_out (join_by connection_symbols (Mark 44 ∷ []) p.connections) closing
    (flat_map placement_symbols ps) (Word (codes "endmodule") ∷ r))
    ∙ ap (drop 3) same
    ∙ inside_out (join_by connection_symbols (Mark 44 ∷ []) q.connections) closing
    (flat_map placement_symbols qs) (Word (codes "endmodule") ∷ s)) in
    let rest = one_placements ps qs r s (ap (drop 1) first.1) in
    (λ i. record { cell = cells i; name = names i; connections = first.0 i } ∷ rest.0 i, rest.1)

-- ---- modules

-- what stands behind the assigns begins with a name, or with `endmodule`
no_assign_behind : (ps : List Placement) (r : List Symbol)
    → word_first (flat_map placement_symbols ps ++ Word (codes "endmodule") ∷ r) ≢ 97
no_assign_behind [] r = λ same. omega arith
no_assign_behind (p ∷ ps) r = λ same. omega arith

-- and what stands behind the wires doesn't begin with `wire`
no_wire_behind : {xs : List Symbol} {assigns : List Assign} → SpellAssigns xs assigns → (ps : List Placement)
    (r : List Symbol)
    → word_first (xs ++ (flat_map placement_symbols ps ++ Word (codes "endmodule") ∷ r)) ≢ 119
no_wire_behind no_assign [] r = λ same. omega arith
no_wire_behind no_assign (p ∷ ps) r = λ same. omega arith
no_wire_behind (assign name e rest) ps r = λ same. omega arith

behind_ports : (j c w a f e r : List Symbol) → (j ++ (c ++ (w ++ ((a ++ f) ++ e)))) ++ r
    ≡ j ++ (c ++ (w ++ (a ++ (f ++ (e ++ r)))))
behind_ports j c w a f e r = simp append_assoc

one_part : (xs ys r s : List Symbol) (p q : Part) → SpellPart xs p → SpellPart ys q → xs ++ r ≡ ys ++ s
    → (p ≡ q) × (r ≡ s)
one_part xs ys r s p q one other both =
    let ending : List Symbol = Word (codes "endmodule") ∷ [] in
    let closing : List Symbol = Mark 41 ∷ Mark 59 ∷ [] in
    let ps = flat_map placement_symbols p.placements in
    let qs = flat_map placement_symbols q.placements in
    let same : module_symbols p.body (one.assigns ++ ps) ++ r ≡ module_symbols q.body (other.assigns ++ qs) ++ s =
    ap (λ (zs : List Symbol). zs ++ r) (sym one.whole) ∙ both ∙ ap (λ (zs : List Symbol). zs ++ s) other.whole in
    let names : p.body.name ≡ q.body.name = ap name_second same in
    let ports = one_ports p.body.ports q.body.ports
    (Mark 59 ∷ (flat_map wire_symbols p.body.wires ++ (one.assigns ++ (ps ++ (ending ++ r)))))
    (Mark 59 ∷ (flat_map wire_symbols q.body.wires ++ (other.assigns ++ (qs ++ (ending ++ s)))))
    (sym (behind_ports (join_by port_symbols (Mark 44 ∷ []) p.body.ports) closing (flat_map wire_symbols p.body.wires)
    one.assigns ps ending r)
    ∙ ap (drop 3) same
    ∙ behind_ports (join_by port_symbols (Mark 44 ∷ []) q.body.ports) closing (flat_map wire_symbols q.body.wires)
    other.assigns qs ending s) in
    let wires = one_wires p.body.wires q.body.wires (one.assigns ++ (ps ++ (ending ++ r)))
    (other.assigns ++ (qs ++ (ending ++ s))) (no_wire_behind one.spell p.placements r)
    (no_wire_behind other.spell q.placements s) (ap (drop 1) ports.1) in
    let assigns = one_assigns (ps ++ (ending ++ r)) (qs ++ (ending ++ s)) one.spell other.spell
    (no_assign_behind p.placements r) (no_assign_behind q.placements s) wires.1 in
    let placements = one_placements p.placements q.placements r s assigns.1 in (
      λ i. record {
        body = record { name = names i; ports = ports.0 i; wires = wires.0 i; assigns = assigns.0 i };
        placements = placements.0 i;
      },
      placements.1,
    )

-- ---- the text

not_empty : (xs r : List Symbol) (p : Part) → SpellPart xs p → xs ++ r ≢ []
not_empty xs r p is none =
    let some = ap (λ (zs : List Symbol). zs ++ r) (sym is.whole) ∙ none in
    cc

one_by_one : {xs ys : List Symbol} {ps qs : List Part} → SpellParts xs ps → SpellParts ys qs → xs ≡ ys → ps ≡ qs
one_by_one no_part no_part same = refl
one_by_one no_part (part {xs = ys} {rest = others} {p = q} f later) same =
    absurd (not_empty ys others q f (sym same))
one_by_one (part {xs = xs} {rest = rest} {p = p} e more) no_part same = absurd (not_empty xs rest p e same)
one_by_one (part {xs = xs} {rest = rest} {p = p} e more) (part {xs = ys} {rest = others} {p = q} f later) same =
    let first = one_part xs ys rest others p q e f same in
    let behind = one_by_one more later first.1 in
    λ i. first.0 i ∷ behind i

pub one_meaning : (symbols : List Symbol) (ps qs : List Part) → SpellParts symbols ps → SpellParts symbols qs → ps ≡ qs
one_meaning symbols ps qs one other = one_by_one one other refl
