-- What the writer of lines has still to add, a step at a time.
use Rattle.std.proofs.Common.{◌≡◌, ◌≢◌, ℕ, suc, ◌+◌, ◌<◌, ◌==◌, List, [], ◌∷◌, ◌++◌, length, drop, All, filter}
use Rattle.std.proofs.Common.{flat_map, get_or, map, codes, append_assoc, add-one, drop-cons, refl, sym, ap, ◌∙◌, ◌≤◌}
use Rattle.std.proofs.Common.{◌-◌, ap₂, arith, subst, take, inl, inr}
use Rattle.std.specs.List.{zip}
use Rattle.std.proofs.lemmas.Bool.{cases_Bool}
use Rattle.std.proofs.lemmas.List.{append-nil, get_or_default, take_all}
use Rattle.std.proofs.lemmas.List.Elements.{Contains-get_or}
use Rattle.std.proofs.lemmas.Grind.{flat_map-append}
use Rattle.si_base.specs.declared.graph.Signal.{Signal}
use Rattle.si_base.specs.declared.ids.Literal.{Literal}
use Rattle.si_base.specs.Graph.{IsNonInput, name_of}
use Rattle.si_base.specs.Netlist.{Cell as CellGate, Gate, Netlist, Sum}
use Rattle.si_cell.specs.Library.{Cell, IsLibrary, no_cell}
use Rattle.si_loops.specs.declared.arcs.Arc.{Arc}
use Rattle.si_loops.specs.Arcs.{Splits, arcs_of, gated}
use Rattle.si_loops.proofs.Cutting.{splits_are_one}
use Rattle.si_loops.proofs.Deciding.{splits_exist}
use Rattle.si_genlib.specs.Ports.{ArePorts, PortedLibrary, Ports}
use Rattle.si_timing.specs.Loops.Writing.{lines, pin_arc}
use Rattle.si_timing.specs.Instances.{NamedArc, arc_from, no_ports}
use Rattle.si_timing.specs.TimingText.{IsTimingText, cells_named, cut_arcs, cut_of_gate, disabled_line, feedback_arcs}
use Rattle.si_timing.specs.TimingText.{own_arcs, own_of_gate, pin_arcs, timing_text}
use Rattle.si_timing.proofs.Naming.{none_named, one_named}
use Rattle.si_timing.proofs.NetArcs.{cut_is}

-- the next item, and those behind it
pub here : {A : Type 0} (xs : List A) (i : ℕ) (x : A) → i < length xs → x ≡ get_or xs i x
    → drop i xs ≡ x ∷ drop (i + 1) xs
here {A} xs i x within is =
    rw add-one (drop-cons xs i x within ∙ ap (λ (y : A). y ∷ drop (suc i) xs) (sym is))

-- ---- lines of lists of arcs

-- the lines of the arcs that are made of the items from the i-th on
abbrev pub lines_left : {A : Type 0} → (A → List NamedArc) → List A → ℕ → List ℕ
lines_left arcs xs i = lines (flat_map arcs (drop i xs))

-- ---- the cell of a gate

module _ (library : PortedLibrary) (good : IsLibrary library.library)
    (named : ArePorts library.library.cells library.ports) (signals : List Signal) (name : List ℕ)
    (literals : List Literal) (sum : Sum) where
  abbrev gate : Gate
  gate = CellGate name literals sum

  one_cell : (k : ℕ) (cell : Cell) (ports : Ports) → k < length library.library.cells
      → (get_or library.library.cells k no_cell).name ≡ name → cell ≡ get_or library.library.cells k cell
      → ports ≡ get_or library.ports k ports → cells_named library name ≡ (cell, ports) ∷ []
  one_cell k cell ports within is here_cell here_ports =
      let count = named.count in
      let first : get_or library.library.cells k no_cell ≡ cell =
      get_or_default library.library.cells k no_cell cell within ∙ sym here_cell in
      let second : get_or library.ports k no_ports ≡ ports =
      get_or_default library.ports k no_ports ports (omega (arith, within, count)) ∙ sym here_ports in
      one_named library.library.cells library.ports name k good.cells.distinct within count is
      ∙ (λ i. (first i, second i) ∷ [])

  pub cut_of_cell : (a : Arc) (k : ℕ) (ports : Ports) → k < length library.library.cells
      → (get_or library.library.cells k no_cell).name ≡ name → ports ≡ get_or library.ports k ports
      → pin_arcs signals a literals ports ≡ cut_of_gate library signals a gate
  cut_of_cell a k ports within is here_ports =
      let cell : Cell = get_or library.library.cells k no_cell in
      sym (ap (flat_map (λ (c : Cell × Ports). pin_arcs signals a literals c.1))
      (one_cell k cell ports within is (get_or_default library.library.cells k no_cell cell within) here_ports)
      ∙ append-nil (pin_arcs signals a literals ports))

  pub own_of_cell : (z k : ℕ) (cell : Cell) (ports : Ports) → k < length library.library.cells
      → (get_or library.library.cells k no_cell).name ≡ name → cell ≡ get_or library.library.cells k cell
      → ports ≡ get_or library.ports k ports → own_arcs signals z cell ports ≡ own_of_gate library signals z gate
  own_of_cell z k cell ports within is here_cell here_ports =
      sym (ap (flat_map (λ (c : Cell × Ports). own_arcs signals z c.0 c.1))
      (one_cell k cell ports within is here_cell here_ports) ∙ append-nil (own_arcs signals z cell ports))

pub no_cut : (library : PortedLibrary) (signals : List Signal) (name : List ℕ) (literals : List Literal) (sum : Sum)
    (a : Arc) → All (λ (c : Cell). c.name ≢ name) library.library.cells
    → [] ≡ cut_of_gate library signals a (CellGate name literals sum)
no_cut library signals name literals sum a none =
    sym (ap (flat_map (λ (c : Cell × Ports). pin_arcs signals a literals c.1))
    (none_named library.library.cells library.ports name none))

pub no_own : (library : PortedLibrary) (signals : List Signal) (name : List ℕ) (literals : List Literal) (sum : Sum)
    (z : ℕ) → All (λ (c : Cell). c.name ≢ name) library.library.cells
    → [] ≡ own_of_gate library signals z (CellGate name literals sum)
no_own library signals name literals sum z none =
    sym (ap (flat_map (λ (c : Cell × Ports). own_arcs signals z c.0 c.1))
    (none_named library.library.cells library.ports name none))

-- ---- one line

regrouped : (text a from b to c name d e : List ℕ)
    → ((((((text ++ a) ++ from) ++ b) ++ to) ++ c) ++ name) ++ (d ++ e)
    ≡ text ++ (a ++ from ++ b ++ to ++ c ++ (name ++ d) ++ e)
regrouped text a from b to c name d e = simp append_assoc

pub line_by_calls : (signals : List Signal) (z : ℕ) (ports : Ports)
    (from text first second third fourth fifth sixth output name : List ℕ)
    → first ≡ text ++ codes "set_disable_timing -from {" → second ≡ first ++ from → third ≡ second ++ codes "} -to {"
    → output ≡ ports.output → fourth ≡ third ++ output → fifth ≡ fourth ++ codes "} [get_cells {"
    → name ≡ name_of signals z → sixth ≡ fifth ++ name
    → sixth ++ codes "$gate}]\n" ≡ text ++ disabled_line (arc_from signals z ports from)
line_by_calls signals z ports from text first second third fourth fifth sixth output name e1 e2 e3 out e4 e5 named e6 =
    rw (e6, named, e5, e4, out, e3, e2, e1)
    (regrouped text (codes "set_disable_timing -from {") from (codes "} -to {") ports.output (codes "} [get_cells {")
    (name_of signals z) (codes "$gate") (codes "}]\n"))

-- ---- pins

-- the lines of these pins, the next of which has the first of these literals
abbrev pub pins_left : List Signal → Arc → Ports → List (List ℕ) → List Literal → List ℕ
pins_left signals a ports pins literals =
    lines (map (λ p. arc_from signals a.to ports p.0) (filter (λ p. p.1.sig == a.from) (zip pins literals)))

pin_added : (signals : List Signal) (a : Arc) (ports : Ports) (pin : List ℕ) (pins : List (List ℕ)) (l : Literal)
    (rest : List Literal) (text : List ℕ)
    → (text ++ lines (pin_arc signals a ports pin l)) ++ pins_left signals a ports pins rest
    ≡ text ++ pins_left signals a ports (pin ∷ pins) (l ∷ rest)
pin_added signals a ports pin pins l rest text = elim (cases_Bool (l.sig == a.from)) [
  | inl reads ↦ rw reads (ap (λ (t : List ℕ). (text ++ t) ++ pins_left signals a ports pins rest)
      (append-nil (disabled_line (arc_from signals a.to ports pin)))
      ∙ append_assoc text (disabled_line (arc_from signals a.to ports pin)) (pins_left signals a ports pins rest))
  | inr other ↦ rw (other, append-nil text) refl
]

-- a list with an element, taken apart
pub first_and_rest : {A : Type 0} (xs : List A) (x : A) → 1 ≤ length xs → x ≡ get_or xs 0 x
    → xs ≡ x ∷ take (length xs - 1) (drop 1 xs)
first_and_rest [] x some is = absurd (omega (arith, some))
first_and_rest {A} (y ∷ ys) x some is =
    let all : take (length (y ∷ ys) - 1) ys ≡ ys = take_all (length (y ∷ ys) - 1) ys (omega arith) in
    ap₂ (λ (z : A) (l : List A). z ∷ l) (sym is) (sym all)

pub pin_more : (signals : List Signal) (a : Arc) (ports : Ports) (pins : List (List ℕ)) (i : ℕ) (pin : List ℕ)
    (l : Literal) (literals rest : List Literal) (text new start : List ℕ) → i < length pins → pin ≡ get_or pins i pin
    → literals ≡ l ∷ rest → new ≡ text ++ lines (pin_arc signals a ports pin l)
    → text ++ pins_left signals a ports (drop i pins) literals ≡ start
    → new ++ pins_left signals a ports (drop (i + 1) pins) rest ≡ start
pin_more signals a ports pins i pin l literals rest text new start within is split added so_far =
    ap (λ (t : List ℕ). t ++ pins_left signals a ports (drop (i + 1) pins) rest) added
    ∙ pin_added signals a ports pin (drop (i + 1) pins) l rest text
    ∙ ap (λ (ps : List (List ℕ)). text ++ pins_left signals a ports ps (l ∷ rest)) (sym (here pins i pin within is))
    ∙ ap (λ (ls : List Literal). text ++ pins_left signals a ports (drop i pins) ls) (sym split) ∙ so_far

-- ---- the text

pub cut_ends : (n : Netlist) (arcs kept cut : List Arc) → arcs ≡ arcs_of n → Splits [] arcs kept cut
    → All (λ a. IsNonInput n.signals a.to) cut
cut_ends n arcs kept cut same splits i d within =
    let split = subst (λ (l : List Arc). Splits [] l kept cut) same splits in
    (cut_is n kept cut split (get_or cut i d) (Contains-get_or cut i d within)).ends

pub text_by_calls : (library : PortedLibrary) (n : Netlist) (arcs kept cut : List Arc) (empty first text : List ℕ)
    → arcs ≡ arcs_of n → Splits [] arcs kept cut → empty ≡ []
    → first ≡ empty ++ lines (flat_map (cut_arcs library n) cut)
    → text ≡ first ++ lines (flat_map (feedback_arcs library n) (gated n.signals)) → IsTimingText library n text
unfolding timing_text
text_by_calls library n arcs kept cut empty first text same splits none is_first is_text = record {
  kept = kept;
  cut = cut;
  split = subst (λ (l : List Arc). Splits [] l kept cut) same splits;
  text_is = rw (is_text, is_first, none) (sym (flat_map-append disabled_line (flat_map (cut_arcs library n) cut)
      (flat_map (feedback_arcs library n) (gated n.signals))));
}

-- ---- one text

pub one_text : (library : PortedLibrary) (n : Netlist) (text other : List ℕ) → IsTimingText library n text
    → IsTimingText library n other → text ≡ other
one_text library n text other a b =
    let same = splits_are_one (arcs_of n) a.kept b.kept a.cut b.cut a.split b.split in
    a.text_is ∙ ap (timing_text library n) same.1 ∙ sym b.text_is

pub some_text : (library : PortedLibrary) (n : Netlist) → (text : List ℕ) × IsTimingText library n text
some_text library n =
    let s = splits_exist (arcs_of n) in
    (timing_text library n s.1, record { kept = s.0; cut = s.1; split = s.2; text_is = refl })
