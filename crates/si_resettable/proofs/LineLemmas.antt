-- The assigns of the text say the values of gates, which the reset input forces or leaves as they are.
use Rattle.std.proofs.Common.{◌≡◌, ℕ, zero, suc, ◌&&◌, ◌||◌, not, Bool, true, false, List, [], ◌∷◌, ◌++◌, length, map}
use Rattle.std.proofs.Common.{flat_map, slice_get, Some, if◌then◌else◌, codes, refl, sym, ap, subst, ◌∙◌, append_assoc}
use Rattle.std.proofs.Common.{arith, ◌<◌}
use Rattle.std.specs.List.{AllByRecursion}
use mathlib.Core.Path.{fun_ext}
use Rattle.si_base.specs.declared.graph.Signal.{Signal}
use Rattle.si_base.specs.declared.graph.SigKind.TheVariants.{Input}
use Rattle.si_base.specs.Bits.{bit}
use Rattle.si_base.specs.Graph.{IsNonInput}
use Rattle.si_base.specs.Netlist.{Netlist, gate_value, value_of, value_if_there}
use Rattle.si_base.specs.NetlistText.{name_of}
use Rattle.si_base.specs.WellFormed.{IsNetlist}
use Rattle.si_netlist.proofs.GateLemmas.{within_signals}
use Rattle.si_settled.specs.Settling.{is_among}
use Rattle.si_verilog.specs.Symbols.{Symbol, Name, Word, Mark, symbols_of}
use Rattle.si_verilog.specs.Grammar.{Tree, tree_value, Primary, Expression, Spells, Assign, SpellAssigns}
use Rattle.si_verilog.specs.Grammar.{no_assign, assign}
use Rattle.si_verilog.specs.ModuleText.{verilog_name, gate_text}
use Rattle.si_verilog.proofs.NameLemmas.{IsWritable}
use Rattle.si_verilog.proofs.SymbolLemmas.{Reads, ReadsBefore, both_read, read_then, parted_read, assign_read}
use Rattle.si_verilog.proofs.SymbolLemmas.{equals_read, semicolon_read, written_read}
use Rattle.si_verilog.proofs.MeaningLemmas.{Says, says_as, factor, term, expression, complement, group, both, either}
use Rattle.si_verilog.proofs.MeaningLemmas.{name, says_gate}
use Rattle.si_verilog.proofs.NetlistLemmas.{netlist_named}
use Rattle.si_resettable.specs.Meaning.{value_at, value_in_reset}
use Rattle.si_resettable.specs.Refusals.{HasRoomFor}
use Rattle.si_resettable.specs.ResettableText.{text_if_there, plain_text, forced_text, expression_text, assign_line}
use Rattle.si_resettable.proofs.ResetSignal.{with_reset, are_named, reset_there, last_name, at_level, gate_alike}
use Rattle.si_resettable.proofs.ResetSignal.{name_alike, gate_of, gate_more, values_with, value_stays}

-- ---- values

-- what the reset input at that level makes of a value that it forces to the start value
abbrev forced_value : Bool → Bool → Bool → Bool
forced_value true level value = level || value
forced_value false level value = not level && value

abbrev held_value : Bool → Bool → Bool → Bool → Bool
held_value among start level value = if among then forced_value start level value else value

free_stays : (among start value : Bool) → held_value among start false value ≡ value
free_stays true true value = refl
free_stays true false value = refl
free_stays false start value = refl

held_starts : (among start value : Bool) → held_value among start true value ≡ (if among then start else value)
held_starts true true value = refl
held_starts true false value = refl
held_starts false start value = refl

regrouped : (n b o e c : List ℕ) → n ++ (b ++ ((o ++ e) ++ c)) ≡ ((n ++ (b ++ o)) ++ e) ++ c
regrouped n b o e c = simp append_assoc

pub forced_high : (reset plain : List ℕ) → verilog_name reset ++ (codes " | " ++ (codes "(" ++ plain ++ codes ")"))
    ≡ forced_text reset true plain
forced_high reset plain = regrouped (verilog_name reset) (codes " | ") (codes "(") plain (codes ")")

pub forced_low : (reset plain : List ℕ)
    → ((126 ∷ []) ++ verilog_name reset) ++ (codes " & " ++ (codes "(" ++ plain ++ codes ")"))
    ≡ forced_text reset false plain
forced_low reset plain = regrouped (126 ∷ verilog_name reset) (codes " & ") (codes "(") plain (codes ")")

-- ---- lines

pub line_reads : (name : List ℕ) → IsWritable name → (text : List ℕ) (symbols : List Symbol) → ReadsBefore text symbols
    → Reads (codes "  assign " ++ verilog_name name ++ codes " = " ++ text ++ codes ";\n")
    (Word (codes "assign") ∷ Name name ∷ Mark 61 ∷ symbols ++ Mark 59 ∷ [])
line_reads name writable text symbols reads =
    let written = verilog_name name in
    let word : List Symbol = Word (codes "assign") ∷ [] in
    let symbol : List Symbol = Name name ∷ [] in
    let mark : List Symbol = Mark 61 ∷ [] in
    let end : List Symbol = Mark 59 ∷ [] in
    let named : ReadsBefore (codes "  assign " ++ written) (word ++ symbol) =
    read_then (codes "  assign ") written word symbol assign_read (written_read name writable) in
    let given : Reads (codes "  assign " ++ written ++ codes " = ") ((word ++ symbol) ++ mark) =
    parted_read (codes "  assign " ++ written) (codes " = ") (word ++ symbol) mark named (λ more. refl) equals_read in
    let said : ReadsBefore (codes "  assign " ++ written ++ codes " = " ++ text)
    (((word ++ symbol) ++ mark) ++ symbols) =
    read_then (codes "  assign " ++ written ++ codes " = ") text ((word ++ symbol) ++ mark) symbols given reads in
    parted_read (codes "  assign " ++ written ++ codes " = " ++ text) (codes ";\n")
    (((word ++ symbol) ++ mark) ++ symbols) end said (λ more. refl) semicolon_read

-- an expression with the values of z as the reset input is 0 and 1
pub record SaysSignal (n : Netlist) (forced reset : List ℕ) (z : ℕ) (text : List ℕ) : Type 0 where
  pub tree : Tree
  pub symbols : List Symbol
  pub spells : Spells Expression symbols tree
  pub reads : ReadsBefore text symbols
  pub free : (values : ℕ) → tree_value (value_at reset false n.signals values) tree ≡ gate_value n z values
  pub held : (values : ℕ) → tree_value (value_at reset true n.signals values) tree ≡ value_in_reset n forced z values

-- the assign at that place has the values of z
abbrev IsSaid : Netlist → List ℕ → List ℕ → List Assign → ℕ → ℕ → Type 0
IsSaid n forced reset assigns k z = (t : Tree)
    × (slice_get assigns k ≡ Some (record { name = name_of n.signals z; tree = t }))
    × ((values : ℕ) → tree_value (value_at reset false n.signals values) t ≡ gate_value n z values)
    × ((values : ℕ) → tree_value (value_at reset true n.signals values) t ≡ value_in_reset n forced z values)

-- the lines of these signals spell assigns, one for each
pub record SaysLines (n : Netlist) (forced reset zs : List ℕ) : Type 0 where
  pub assigns : List Assign
  pub symbols : List Symbol
  pub spell : SpellAssigns symbols assigns
  pub reads : Reads (flat_map (assign_line n forced reset) zs) symbols
  pub names : map (λ (a : Assign). a.name) assigns ≡ map (name_of n.signals) zs
  pub each : (k z : ℕ) → slice_get zs k ≡ Some z → IsSaid n forced reset assigns k z

module _ (n : Netlist) (is : IsNetlist n) (forced reset : List ℕ) (room : HasRoomFor n reset) where
  abbrev all : List Signal
  all = with_reset n.signals reset

  abbrev place : ℕ
  place = length n.signals

  -- the expression of z's gate has the values of the gate, over all signals and the reset input
  says_plain : (z : ℕ) → IsNonInput n.signals z → Says all Expression (plain_text n z) (gate_value n z)
  says_plain z non_input =
      let has = gate_of n is z non_input in
      let within = within_signals n.signals z non_input in
      let own = name_of n.signals z in
      let larger = reset_there n is reset room in
      let among_all : z < length all = omega (arith, within, larger) in
      let same_name = name_alike n.signals reset z within in
      let text_is : gate_text all (name_of all z) has.0 ≡ plain_text n z =
      ap (λ (l : List ℕ). gate_text all l has.0) same_name
      ∙ gate_alike n.signals (record { name = reset; kind = Input }) own has.0 has.2
      ∙ ap (text_if_there n.signals own) (sym has.1) in
      says_as all Expression (gate_text all (name_of all z) has.0) (plain_text n z) (λ v. value_of has.0 z v)
      (gate_value n z) (says_gate all (are_named n is reset room) z has.0 among_all
      (gate_more place (length all) (omega (arith, larger)) has.0 has.2)) text_is
      (λ v. ap (λ o. value_if_there o z v) (sym has.1))

  says_reset : Says all Primary (verilog_name reset) (λ v. bit v place)
  says_reset =
      let is_last = last_name n is reset room in
      says_as all Primary (verilog_name (name_of all place)) (verilog_name reset) (λ v. bit v place) (λ v. bit v place)
      (name all (are_named n is reset room) place (reset_there n is reset room)) (ap verilog_name is_last) (λ v. refl)

  says_forced : (start : Bool) (plain : List ℕ) (value : ℕ → Bool) → Says all Expression plain value
      → Says all Expression (forced_text reset start plain) (λ v. forced_value start (bit v place) (value v))
  says_forced true plain value says =
      let level : ℕ → Bool = λ v. bit v place in
      let inner = codes "(" ++ plain ++ codes ")" in
      let first = expression all (verilog_name reset) level (term all (verilog_name reset) level
      (factor all (verilog_name reset) level says_reset)) in
      let second = term all inner value (factor all inner value (group all plain value says)) in
      says_as all Expression (verilog_name reset ++ (codes " | " ++ inner)) (forced_text reset true plain)
      (λ v. level v || value v) (λ v. bit v place || value v)
      (either all (verilog_name reset) inner level value first second) (forced_high reset plain) (λ v. refl)
  says_forced false plain value says =
      let level : ℕ → Bool = λ v. bit v place in
      let inner = codes "(" ++ plain ++ codes ")" in
      let off = (126 ∷ []) ++ verilog_name reset in
      let low : ℕ → Bool = λ v. not (level v) in
      let first = term all off low (complement all (verilog_name reset) level says_reset) in
      let second = factor all inner value (group all plain value says) in
      let whole = expression all (off ++ (codes " & " ++ inner)) (λ v. low v && value v)
      (both all off inner low value first second) in
      says_as all Expression (off ++ (codes " & " ++ inner)) (forced_text reset false plain)
      (λ v. low v && value v) (λ v. not (bit v place) && value v) whole (forced_low reset plain) (λ v. refl)

  says_held : (among start : Bool) (plain : List ℕ) (value : ℕ → Bool) → Says all Expression plain value
      → Says all Expression (if among then forced_text reset start plain else plain)
      (λ v. held_value among start (bit v place) (value v))
  says_held true start plain value says = says_forced start plain value says
  says_held false start plain value says = says

  -- over the values of the signals, with the reset input at that level
  at_values : (z : ℕ) → IsNonInput n.signals z → (among start level : Bool) (text : List ℕ)
      → (says : Says all Expression text (λ v. held_value among start (bit v place) (gate_value n z v)))
      → (values : ℕ) → tree_value (value_at reset level n.signals values) says.tree
      ≡ held_value among start level (gate_value n z values)
  at_values z non_input among start level text says values =
      let new = values_with values place level in
      ap (λ (env : List ℕ → Bool). tree_value env says.tree)
      (fun_ext (at_level n is reset room level values new.0 new.1.set))
      ∙ says.values new.0
      ∙ (λ i. held_value among start (new.1.set.there i)
      (value_stays n is z non_input values level new.0 new.1 i))

  says_signal : (z : ℕ) → IsNonInput n.signals z → SaysSignal n forced reset z (expression_text n forced reset z)
  says_signal z non_input =
      let among = is_among forced z in
      let start = bit n.start z in
      let says = says_held among start (plain_text n z) (gate_value n z) (says_plain z non_input) in
      let text = expression_text n forced reset z in
      record {
        tree = says.tree;
        symbols = says.symbols;
        spells = says.spells;
        reads = says.reads;
        free = λ values. at_values z non_input among start false text says values
            ∙ free_stays among start (gate_value n z values);
        held = λ values. at_values z non_input among start true text says values
            ∙ held_starts among start (gate_value n z values);
      }

  one_line : (z : ℕ) → IsNonInput n.signals z → (says : SaysSignal n forced reset z (expression_text n forced reset z))
      → Reads (assign_line n forced reset z)
      (Word (codes "assign") ∷ Name (name_of n.signals z) ∷ Mark 61 ∷ says.symbols ++ Mark 59 ∷ [])
  one_line z non_input says = line_reads (name_of n.signals z)
      ((netlist_named n is).writable z (within_signals n.signals z non_input)) (expression_text n forced reset z)
      says.symbols says.reads

  each_said : (z : ℕ) (says : SaysSignal n forced reset z (expression_text n forced reset z)) (zs : List ℕ)
      (assigns : List Assign)
      → ((k y : ℕ) → slice_get zs k ≡ Some y → IsSaid n forced reset assigns k y)
      → (k y : ℕ) → slice_get (z ∷ zs) k ≡ Some y
      → IsSaid n forced reset (record { name = name_of n.signals z; tree = says.tree } ∷ assigns) k y
  each_said z says zs assigns later zero y there =
      let same : z ≡ y = cc in
      let here : IsSaid n forced reset (record { name = name_of n.signals z; tree = says.tree } ∷ assigns) 0 z =
      (says.tree, refl, says.free, says.held) in
      subst (IsSaid n forced reset (record { name = name_of n.signals z; tree = says.tree } ∷ assigns) 0) same here
  each_said z says zs assigns later (suc k) y there = later k y there

  pub says_lines : (zs : List ℕ) → AllByRecursion (IsNonInput n.signals) zs → SaysLines n forced reset zs
  says_lines [] all_have = record {
    assigns = [];
    symbols = [];
    spell = no_assign;
    reads = λ more. refl;
    names = refl;
    each = λ k z there. cc;
  }
  says_lines (z ∷ zs) all_have =
      let says = says_signal z all_have.0 in
      let rest = says_lines zs all_have.1 in
      let front : List Symbol =
      Word (codes "assign") ∷ Name (name_of n.signals z) ∷ Mark 61 ∷ says.symbols ++ Mark 59 ∷ [] in
      record {
        assigns = record { name = name_of n.signals z; tree = says.tree } ∷ rest.assigns;
        symbols =
            Word (codes "assign") ∷ Name (name_of n.signals z) ∷ Mark 61 ∷ says.symbols ++ Mark 59 ∷ rest.symbols;
        spell = assign (name_of n.signals z) says.spells rest.spell;
        reads = λ more.
            both_read (assign_line n forced reset z) (flat_map (assign_line n forced reset) zs) front rest.symbols
            (one_line z all_have.0 says) rest.reads more
            ∙ ap (λ (s : List Symbol). (Word (codes "assign") ∷ Name (name_of n.signals z) ∷ Mark 61 ∷ s)
            ++ symbols_of more) (append_assoc says.symbols (Mark 59 ∷ []) rest.symbols);
        names = ap (λ (l : List (List ℕ)). name_of n.signals z ∷ l) rest.names;
        each = each_said z says zs rest.assigns rest.each;
      }
