-- What the writers of a module's head have still to add, a step at a time.
use Rattle.std.proofs.Common.{◌≡◌, ℕ, ◌||◌, Bool, true, false, List, [], ◌∷◌, ◌++◌, refl, sym, ap, ◌∙◌}
use Rattle.std.proofs.Common.{map, flat_map, if◌then◌else◌, append_assoc, codes}
use Rattle.std.proofs.lemmas.Grind.{flat_map-append}
use Rattle.std.proofs.lemmas.List.{map-append}
use Rattle.si_base.specs.declared.graph.Signal.{Signal}
use Rattle.si_base.specs.declared.graph.SigKind.{SigKind}
use Rattle.si_base.specs.declared.graph.SigKind.TheVariants.{Input, Output, Internal, Inserted}
use Rattle.si_base.specs.NetlistText.{names_of}
use Rattle.si_verilog.specs.Grammar.{Port}
use Rattle.si_verilog.specs.ModuleText.{verilog_name, port_text, ports_text, wire_line, ports_of}
use Rattle.si_verilog.specs.Loops.Writing.{is_some, more_ports, port_lines}
use Rattle.si_verilog.proofs.WritingLemmas.{all_lines, joined, listed, two_lists}
use Rattle.si_structure.specs.StructureText.{head_text}

-- ---- ports

-- the ports, and the end of the last line where there is a port
whole_ports : (ports : List Port)
    → more_ports false (map port_text ports) ++ (if is_some ports then codes "\n" else []) ≡ ports_text ports
whole_ports [] = refl
whole_ports (p ∷ ps) = ap (λ (t : List ℕ). t ++ codes "\n")
    (append_assoc (codes "\n") (port_text p) (more_ports true (map port_text ps))
    ∙ ap (λ (t : List ℕ). codes "\n" ++ (port_text p ++ t)) (listed (map port_text ps) ∙ joined ps))

some_appended : {A : Type 0} (xs ys : List A) → (is_some xs || is_some ys) ≡ is_some (xs ++ ys)
some_appended [] ys = refl
some_appended (x ∷ xs) ys = refl

some_texts : (ports : List Port) → is_some (map port_text ports) ≡ is_some ports
some_texts [] = refl
some_texts (p ∷ ps) = refl

some_lines : (word : List ℕ) (kind : SigKind) (signals : List Signal)
    → is_some (names_of kind signals) ≡ is_some (port_lines word kind signals)
some_lines word kind signals = by (names_of kind signals)
  where
    by : (names : List (List ℕ)) → is_some names ≡ is_some (map (λ name. word ++ verilog_name name) names)
    by [] = refl
    by (n ∷ names) = refl

-- the same, by the texts that the calls leave one after another
pub ports_by_calls : (front : List Port) (signals : List Signal) (text first inputs outputs : List ℕ)
    (one some any : Bool) → first ≡ text ++ more_ports false (map port_text front) → one ≡ is_some front
    → inputs ≡ first ++ more_ports one (port_lines (codes "  input ") Input signals)
    → some ≡ (one || is_some (names_of Input signals))
    → outputs ≡ inputs ++ more_ports some (port_lines (codes "  output ") Output signals)
    → any ≡ (some || is_some (names_of Output signals))
    → outputs ++ (if any then codes "\n" else []) ≡ text ++ ports_text (front ++ ports_of signals)
ports_by_calls front signals text first inputs outputs one some any is_first is_one are_inputs are_some
    are_outputs are_any =
    let ports = front ++ ports_of signals in
    let fronts = map port_text front in
    let ins = port_lines (codes "  input ") Input signals in
    let outs = port_lines (codes "  output ") Output signals in
    let all = (fronts ++ ins) ++ outs in
    let begun : one ≡ is_some fronts = is_one ∙ sym (some_texts front) in
    let former : some ≡ is_some (fronts ++ ins) =
    are_some ∙ (λ i. begun i || some_lines (codes "  input ") Input signals i) ∙ some_appended fronts ins in
    let latter : any ≡ is_some all =
    are_any ∙ (λ i. former i || some_lines (codes "  output ") Output signals i) ∙ some_appended (fronts ++ ins) outs in
    let same : all ≡ map port_text ports =
    append_assoc fronts ins outs ∙ ap (λ (t : List (List ℕ)). fronts ++ t) (all_lines signals)
    ∙ sym (map-append port_text front (ports_of signals)) in
    let with_inputs : inputs ≡ text ++ more_ports false (fronts ++ ins) =
    are_inputs ∙ (λ i. is_first i ++ more_ports (begun i) ins)
    ∙ append_assoc text (more_ports false fronts) (more_ports (is_some fronts) ins)
    ∙ ap (λ (t : List ℕ). text ++ t) (two_lists false fronts ins) in
    let with_outputs : outputs ≡ text ++ more_ports false all =
    are_outputs ∙ (λ i. with_inputs i ++ more_ports (former i) outs)
    ∙ append_assoc text (more_ports false (fronts ++ ins)) (more_ports (is_some (fronts ++ ins)) outs)
    ∙ ap (λ (t : List ℕ). text ++ t) (two_lists false (fronts ++ ins) outs) in
    (λ i. with_outputs i ++ (if latter i then codes "\n" else []))
    ∙ append_assoc text (more_ports false all) (if is_some all then codes "\n" else [])
    ∙ ap (λ (t : List ℕ). text ++ t)
    (ap (λ (ls : List (List ℕ)). more_ports false ls ++ (if is_some ls then codes "\n" else [])) same
    ∙ ap (λ (b : Bool). more_ports false (map port_text ports) ++ (if b then codes "\n" else [])) (some_texts ports)
    ∙ whole_ports ports)

-- ---- the whole head

six_parts : (text m n o p c w v : List ℕ) → (((((((text ++ m) ++ n) ++ o) ++ p) ++ c) ++ w) ++ v)
    ≡ text ++ (((((m ++ n) ++ o) ++ p) ++ c) ++ (w ++ v))
six_parts text m n o p c w v = simp append_assoc

-- the texts that the calls leave one after another
pub head_by_calls : (name : List ℕ) (front : List Port) (signals : List Signal)
    (text begun named opened ports closed internal : List ℕ)
    → begun ≡ text ++ codes "module " → named ≡ begun ++ verilog_name name → opened ≡ named ++ codes "("
    → ports ≡ opened ++ ports_text (front ++ ports_of signals) → closed ≡ ports ++ codes ");\n"
    → internal ≡ closed ++ flat_map wire_line (names_of Internal signals)
    → internal ++ flat_map wire_line (names_of Inserted signals) ≡ text ++ head_text name front signals
head_by_calls name front signals text begun named opened ports closed internal
    is_begun is_named is_opened is_ports is_closed is_internal =
    let port_list = ports_text (front ++ ports_of signals) in
    let head = (((codes "module " ++ verilog_name name) ++ codes "(") ++ port_list) ++ codes ");\n" in
    rw (is_internal, is_closed, is_ports, is_opened, is_named, is_begun) (
    six_parts text (codes "module ") (verilog_name name) (codes "(") port_list (codes ");\n")
    (flat_map wire_line (names_of Internal signals)) (flat_map wire_line (names_of Inserted signals))
    ∙ ap (λ (w : List ℕ). text ++ (head ++ w))
    (sym (flat_map-append wire_line (names_of Internal signals) (names_of Inserted signals))))
