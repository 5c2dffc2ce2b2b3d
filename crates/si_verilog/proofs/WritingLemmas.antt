-- What the writers of a module's text have still to add, a step at a time.
use Rattle.std.proofs.Common.{◌≡◌, ℕ, ◌||◌, Bool, true, false, List, [], ◌∷◌, ◌++◌, refl, sym, ap, ◌∙◌}
use Rattle.std.proofs.Common.{drop, map, flat_map, if◌then◌else◌, append_assoc, codes}
use Rattle.std.proofs.lemmas.Grind.{flat_map-append}
use Rattle.std.proofs.lemmas.List.{map-append}
use Rattle.si_base.specs.declared.graph.Signal.{Signal}
use Rattle.si_base.specs.declared.graph.SigKind.{SigKind}
use Rattle.si_base.specs.declared.graph.SigKind.TheVariants.{Input, Output, Internal, Inserted}
use Rattle.si_base.specs.declared.ids.Literal.{Literal}
use Rattle.si_base.specs.Netlist.{Sum, Gate, Netlist}
use Rattle.si_base.specs.NetlistText.{names_of}
use Rattle.si_verilog.specs.Grammar.{Port, InputPort, OutputPort}
use Rattle.si_verilog.specs.ModuleText.{is_plain, verilog_name, literal_text, cube_text, port_text}
use Rattle.si_verilog.specs.ModuleText.{ports_text, wire_line, ports_of, assign_lines, verilog_text}
use Rattle.si_verilog.specs.Loops.Writing.{is_some, more_ports, port_lines}

-- a name that is added as it is, or escaped
pub plain_text : (text name : List ℕ) → is_plain name ≡ true → text ++ name ≡ text ++ verilog_name name
unfolding verilog_name
plain_text text name plain = rw plain refl

pub escaped_text : (text name : List ℕ) → is_plain name ≡ false
    → ((text ++ 92 ∷ []) ++ name) ++ 32 ∷ [] ≡ text ++ verilog_name name
unfolding verilog_name
escaped_text text name escaped = rw escaped (simp append_assoc)

-- the cubes from the i-th on, each after a `|`
abbrev pub cubes_from : List Signal → Sum → ℕ → List ℕ
cubes_from signals cubes i = flat_map (λ cube. codes " | " ++ cube_text signals cube) (drop i cubes)

-- the literals from the i-th on, each after a `&`
abbrev pub literals_after : List Signal → List Literal → ℕ → List ℕ
literals_after signals literals i = flat_map (λ l. codes " & " ++ literal_text signals l) (drop i literals)

-- the names of a kind from the i-th signal on
abbrev pub names_left : SigKind → List Signal → ℕ → List (List ℕ)
names_left kind signals i = names_of kind (drop i signals)

abbrev pub wires_from : SigKind → List Signal → ℕ → List ℕ
wires_from kind signals i = flat_map wire_line (names_left kind signals i)

abbrev pub ports_from : Bool → List ℕ → SigKind → List Signal → ℕ → List ℕ
ports_from any word kind signals i = more_ports any (port_lines word kind (drop i signals))

-- the lines of the gates, the next of which is that of a signal from the i-th on
abbrev pub assigns_from : List Signal → ℕ → List Gate → List ℕ
assigns_from signals i gates = assign_lines signals (drop i signals) gates

-- ---- ports

pub listed : (ps : List (List ℕ)) → more_ports true ps ≡ flat_map (λ p. codes ",\n" ++ p) ps
listed [] = refl
listed (p ∷ ps) = ap (λ (t : List ℕ). (codes ",\n" ++ p) ++ t) (listed ps)

pub two_lists : (any : Bool) (ps qs : List (List ℕ))
    → more_ports any ps ++ more_ports (any || is_some ps) qs ≡ more_ports any (ps ++ qs)
two_lists true [] qs = refl
two_lists false [] qs = refl
two_lists true (p ∷ ps) qs =
    append_assoc (codes ",\n" ++ p) (more_ports true ps) (more_ports true qs)
    ∙ ap (λ (t : List ℕ). (codes ",\n" ++ p) ++ t) (two_lists true ps qs)
two_lists false (p ∷ ps) qs =
    append_assoc (codes "\n" ++ p) (more_ports true ps) (more_ports true qs)
    ∙ ap (λ (t : List ℕ). (codes "\n" ++ p) ++ t) (two_lists true ps qs)

pub all_lines : (signals : List Signal) → port_lines (codes "  input ") Input signals
    ++ port_lines (codes "  output ") Output signals ≡ map port_text (ports_of signals)
all_lines signals = sym (map-append port_text (map InputPort (names_of Input signals))
    (map OutputPort (names_of Output signals))
    ∙ both (named_in (names_of Input signals)) (named_out (names_of Output signals)))
  where
    named_in : (names : List (List ℕ))
        → map port_text (map InputPort names) ≡ map (λ name. codes "  input " ++ verilog_name name) names
    named_in [] = refl
    named_in (n ∷ names) = ap (λ (t : List (List ℕ)). (codes "  input " ++ verilog_name n) ∷ t) (named_in names)

    named_out : (names : List (List ℕ))
        → map port_text (map OutputPort names) ≡ map (λ name. codes "  output " ++ verilog_name name) names
    named_out [] = refl
    named_out (n ∷ names) = ap (λ (t : List (List ℕ)). (codes "  output " ++ verilog_name n) ∷ t) (named_out names)

    both : {a b c d : List (List ℕ)} → a ≡ b → c ≡ d → a ++ c ≡ b ++ d
    both e f = λ i. e i ++ f i

pub joined : (ports : List Port) → flat_map (λ p. codes ",\n" ++ p) (map port_text ports)
    ≡ flat_map (λ p. codes ",\n" ++ port_text p) ports
joined [] = refl
joined (p ∷ ps) = ap (λ (t : List ℕ). (codes ",\n" ++ port_text p) ++ t) (joined ps)

-- the ports, and the end of the last line where there is a port
whole_ports : (ports : List Port)
    → more_ports false (map port_text ports) ++ (if is_some ports then codes "\n" else []) ≡ ports_text ports
whole_ports [] = refl
whole_ports (p ∷ ps) = ap (λ (t : List ℕ). t ++ codes "\n")
    (append_assoc (codes "\n") (port_text p) (more_ports true (map port_text ps))
    ∙ ap (λ (t : List ℕ). codes "\n" ++ (port_text p ++ t)) (listed (map port_text ps) ∙ joined ps))

some_names : (ins outs : List (List ℕ)) → (is_some ins || is_some outs)
    ≡ is_some (map InputPort ins ++ map OutputPort outs)
some_names [] [] = refl
some_names [] (o ∷ outs) = refl
some_names (i ∷ ins) outs = refl

some_lines : (word : List ℕ) (kind : SigKind) (signals : List Signal)
    → is_some (port_lines word kind signals) ≡ is_some (names_of kind signals)
some_lines word kind signals = by (names_of kind signals)
  where
    by : (names : List (List ℕ)) → is_some (map (λ name. word ++ verilog_name name) names) ≡ is_some names
    by [] = refl
    by (n ∷ names) = refl

-- the same, by the texts that the calls leave one after another
pub ports_by_calls : (signals : List Signal) (text inputs outputs : List ℕ) (some any : Bool)
    → inputs ≡ text ++ more_ports false (port_lines (codes "  input ") Input signals)
    → some ≡ is_some (names_of Input signals)
    → outputs ≡ inputs ++ more_ports some (port_lines (codes "  output ") Output signals)
    → any ≡ (some || is_some (names_of Output signals))
    → outputs ++ (if any then codes "\n" else []) ≡ text ++ ports_text (ports_of signals)
ports_by_calls signals text inputs outputs some any input_lines are_some output_lines are_any =
    let ins = port_lines (codes "  input ") Input signals in
    let outs = port_lines (codes "  output ") Output signals in
    let former : some ≡ is_some ins = are_some ∙ sym (some_lines (codes "  input ") Input signals) in
    let latter : any ≡ is_some (ports_of signals) =
    are_any ∙ ap (λ (b : Bool). b || is_some (names_of Output signals)) are_some
    ∙ some_names (names_of Input signals) (names_of Output signals) in
    rw (output_lines, input_lines, former, latter) (
    ap (λ (t : List ℕ). t ++ (if is_some (ports_of signals) then codes "\n" else []))
    (append_assoc text (more_ports false ins) (more_ports (is_some ins) outs)
    ∙ ap (λ (t : List ℕ). text ++ t) (two_lists false ins outs ∙ ap (more_ports false) (all_lines signals)))
    ∙ append_assoc text (more_ports false (map port_text (ports_of signals))) _
    ∙ ap (λ (t : List ℕ). text ++ t) (whole_ports (ports_of signals))
    )

-- ---- the whole text

eight_parts : (m n o p c w v a e : List ℕ)
    → ((((((((m ++ n) ++ o) ++ p) ++ c) ++ w) ++ v) ++ a) ++ e)
    ≡ (((((m ++ n ++ o) ++ p) ++ c) ++ (w ++ v)) ++ a) ++ e
eight_parts m n o p c w v a e = simp append_assoc

pub text_by_calls : (n : Netlist) (head named opened ports closed internal inserted assigned all : List ℕ)
    → head ≡ codes "module " → named ≡ head ++ verilog_name n.model → opened ≡ named ++ codes "("
    → ports ≡ opened ++ ports_text (ports_of n.signals) → closed ≡ ports ++ codes ");\n"
    → internal ≡ closed ++ flat_map wire_line (names_of Internal n.signals)
    → inserted ≡ internal ++ flat_map wire_line (names_of Inserted n.signals)
    → assigned ≡ inserted ++ assign_lines n.signals n.signals n.gates → all ≡ assigned ++ codes "endmodule\n"
    → all ≡ verilog_text n
unfolding verilog_text
text_by_calls n head named opened ports closed internal inserted assigned all
    is_head is_named is_opened is_ports is_closed is_internal is_inserted is_assigned is_all =
    rw (is_all, is_assigned, is_inserted, is_internal, is_closed, is_ports, is_opened, is_named, is_head) (
    eight_parts (codes "module ") (verilog_name n.model) (codes "(") (ports_text (ports_of n.signals)) (codes ");\n")
    (flat_map wire_line (names_of Internal n.signals)) (flat_map wire_line (names_of Inserted n.signals))
    (assign_lines n.signals n.signals n.gates) (codes "endmodule\n")
    ∙ ap (λ (w : List ℕ). ((((codes "module " ++ verilog_name n.model ++ codes "(") ++ ports_text (ports_of n.signals))
    ++ codes ");\n") ++ w ++ assign_lines n.signals n.signals n.gates) ++ codes "endmodule\n")
    (sym (flat_map-append wire_line (names_of Internal n.signals) (names_of Inserted n.signals)))
    )
