-- The assigns of a netlist's text, with what the reader asks of their expressions.
use Rattle.std.proofs.Common.{◌≡◌, ℕ, suc, ◌<◌, true, false, List, [], ◌∷◌, ◌++◌, length, map, filter, flat_map}
use Rattle.std.proofs.Common.{refl, sym, ap, ◌∙◌, codes, arith, inl, inr}
use Rattle.std.specs.List.{AllByRecursion}
use Rattle.std.proofs.lemmas.Bool.{cases_Bool}
use Rattle.si_base.specs.declared.graph.Signal.{Signal}
use Rattle.si_base.specs.Graph.{is_driven}
use Rattle.si_base.specs.Netlist.{Gate}
use Rattle.si_base.specs.NetlistText.{name_of}
use Rattle.si_verilog.specs.Symbols.{Symbol, Name, Word, Mark, symbols_of}
use Rattle.si_verilog.specs.ModuleText.{verilog_name, gate_text, assign_line, assign_lines}
use Rattle.si_verilog.proofs.SymbolLemmas.{Reads, ReadsBefore, both_read, read_then, parted_read, assign_read}
use Rattle.si_verilog.proofs.SymbolLemmas.{equals_read, semicolon_read, written_read}
use Rattle.si_verilog.proofs.MeaningLemmas.{AreNamed, HasThere}
use Rattle.si_equations.proofs.NetlistLemmas.{driven_in}
use Rattle.si_verilog_reader.proofs.GateLemmas.{SpelledGate, gate_spelled}
use Rattle.si_verilog_reader.proofs.CircuitLemmas.{Item, IsItem, item_symbols}

-- the lines of these signals and gates are those of assigns, one for each non-input
pub record SpelledAssigns (all xs : List Signal) (gates : List Gate) : Type 0 where
  pub items : List Item
  pub fine : AllByRecursion (IsItem all) items
  pub reads : Reads (assign_lines all xs gates) (flat_map item_symbols items)
  pub names : map (λ q. q.name) items ≡ driven_in xs

-- ---- one line

line_read : (all : List Signal) → AreNamed all → (z : ℕ) (gate : Gate) → z < length all
    → (said : SpelledGate all (gate_text all (name_of all z) gate))
    → Reads (assign_line all (name_of all z) gate)
    (Word (codes "assign") ∷ Name (name_of all z) ∷ Mark 61 ∷ said.symbols ++ Mark 59 ∷ [])
line_read all are z gate there said =
    let n = verilog_name (name_of all z) in
    let e = gate_text all (name_of all z) gate in
    let word : List Symbol = Word (codes "assign") ∷ [] in
    let name : List Symbol = Name (name_of all z) ∷ [] in
    let mark : List Symbol = Mark 61 ∷ [] in
    let end : List Symbol = Mark 59 ∷ [] in
    let named : ReadsBefore (codes "  assign " ++ n) (word ++ name) =
    read_then (codes "  assign ") n word name assign_read (written_read (name_of all z) (are.writable z there)) in
    let given : Reads (codes "  assign " ++ n ++ codes " = ") ((word ++ name) ++ mark) =
    parted_read (codes "  assign " ++ n) (codes " = ") (word ++ name) mark named (λ more. refl) equals_read in
    let read : ReadsBefore (codes "  assign " ++ n ++ codes " = " ++ e) (((word ++ name) ++ mark) ++ said.symbols) =
    read_then (codes "  assign " ++ n ++ codes " = ") e ((word ++ name) ++ mark) said.symbols given said.reads in
    parted_read (codes "  assign " ++ n ++ codes " = " ++ e) (codes ";\n")
    (((word ++ name) ++ mark) ++ said.symbols) end read (λ more. refl) semicolon_read

driven_lines : (all : List Signal) (x : Signal) (xs : List Signal) (g : Gate) (gs : List Gate)
    → is_driven x.kind ≡ true → assign_line all x.name g ++ assign_lines all xs gs ≡ assign_lines all (x ∷ xs) (g ∷ gs)
driven_lines all x xs g gs driven = rw driven refl

input_lines : (all : List Signal) (x : Signal) (xs : List Signal) (gates : List Gate)
    → is_driven x.kind ≡ false → assign_lines all xs gates ≡ assign_lines all (x ∷ xs) gates
input_lines all x xs gates input = rw input refl

driven_names : (x : Signal) (xs : List Signal) (names : List (List ℕ)) → is_driven x.kind ≡ true
    → names ≡ driven_in xs → x.name ∷ names ≡ driven_in (x ∷ xs)
driven_names x xs names driven are = rw driven (ap (λ (ns : List (List ℕ)). x.name ∷ ns) are)

input_names : (x : Signal) (xs : List Signal) (names : List (List ℕ)) → is_driven x.kind ≡ false
    → names ≡ driven_in xs → names ≡ driven_in (x ∷ xs)
input_names x xs names input are = rw input are

-- a line more, of a signal that is driven
with_line : (all : List Signal) → AreNamed all → (x : Signal) (xs : List Signal) (g : Gate) (gs : List Gate) (z : ℕ)
    → z < length all → x.name ≡ name_of all z → HasThere (length all) g → is_driven x.kind ≡ true
    → SpelledAssigns all xs gs → SpelledAssigns all (x ∷ xs) (g ∷ gs)
with_line all are x xs g gs z there name_is has driven rest =
    let said = gate_spelled all are z g there has in
    let first : Item = record { name = x.name; symbols = said.symbols; tree = said.tree } in
    let lines = assign_lines all xs gs in
    let line = assign_line all (name_of all z) g in
    let later : List Symbol = flat_map item_symbols rest.items in
    let front : List Symbol = Word (codes "assign") ∷ Name (name_of all z) ∷ Mark 61 ∷ said.symbols ++ Mark 59 ∷ [] in
    record {
      items = first ∷ rest.items;
      fine = (record { spells = said.spells; shallow = said.shallow; named = said.named }, rest.fine);
      reads = λ more. ap (λ (t : List ℕ). symbols_of (t ++ more)) (sym (driven_lines all x xs g gs driven)
          ∙ ap (λ (n : List ℕ). assign_line all n g ++ lines) name_is)
          ∙ both_read line lines front later (line_read all are z g there said) rest.reads more
          ∙ ap (λ (n : List ℕ). ((Word (codes "assign") ∷ Name n ∷ Mark 61 ∷ said.symbols ++ Mark 59 ∷ []) ++ later)
          ++ symbols_of more) (sym name_is);
      names = driven_names x xs (map (λ (q : Item). q.name) rest.items) driven rest.names;
    }

-- an input has no line
without_line : (all : List Signal) (x : Signal) (xs : List Signal) (gates : List Gate) → is_driven x.kind ≡ false
    → SpelledAssigns all xs gates → SpelledAssigns all (x ∷ xs) gates
without_line all x xs gates input rest = record {
  items = rest.items;
  fine = rest.fine;
  reads = λ more. ap (λ (t : List ℕ). symbols_of (t ++ more)) (sym (input_lines all x xs gates input))
      ∙ rest.reads more;
  names = input_names x xs (map (λ (q : Item). q.name) rest.items) input rest.names;
}

-- ---- all lines

-- the signals are some of all
abbrev pub AreAmong : List Signal → List Signal → Type 0
AreAmong all xs = (k : ℕ) → k < length xs → (z : ℕ) × (z < length all) × (name_of xs k ≡ name_of all z)

pub among_all : (all : List Signal) → AreAmong all all
among_all all = λ k within. (k, within, refl)

among_rest : (all : List Signal) (x : Signal) (xs : List Signal) → AreAmong all (x ∷ xs) → AreAmong all xs
among_rest all x xs among = λ k within. among (suc k) (omega (arith, within))

driven_count : (x : Signal) (xs : List Signal) (gates : ℕ) → is_driven x.kind ≡ true
    → gates ≡ length (filter (λ (s : Signal). is_driven s.kind) (x ∷ xs))
    → gates ≡ suc (length (filter (λ (s : Signal). is_driven s.kind) xs))
driven_count x xs gates driven count = rw driven at count

input_count : (x : Signal) (xs : List Signal) (gates : ℕ) → is_driven x.kind ≡ false
    → gates ≡ length (filter (λ (s : Signal). is_driven s.kind) (x ∷ xs))
    → gates ≡ length (filter (λ (s : Signal). is_driven s.kind) xs)
input_count x xs gates input count = rw input at count

pub assigns_spelled : (all : List Signal) → AreNamed all → (xs : List Signal) (gates : List Gate) → AreAmong all xs
    → length gates ≡ length (filter (λ (s : Signal). is_driven s.kind) xs)
    → AllByRecursion (HasThere (length all)) gates → SpelledAssigns all xs gates
assigns_spelled all are [] gates among count has =
    record { items = []; fine = tt; reads = λ more. refl; names = refl }
assigns_spelled all are (x ∷ xs) [] among count has = elim (cases_Bool (is_driven x.kind)) [
  | inl driven ↦ (let some = driven_count x xs 0 driven count in absurd (omega (arith, some)))
  | inr input ↦ without_line all x xs [] input
      (assigns_spelled all are xs [] (among_rest all x xs among) (input_count x xs 0 input count) tt)
]
assigns_spelled all are (x ∷ xs) (g ∷ gs) among count has = elim (cases_Bool (is_driven x.kind)) [
  | inl driven ↦ (
      let some = driven_count x xs (length (g ∷ gs)) driven count in
      let left : length gs ≡ length (filter (λ (s : Signal). is_driven s.kind) xs) = omega (arith, some) in
      let here = among 0 (omega arith) in
      with_line all are x xs g gs here.0 here.1 here.2 has.0 driven
      (assigns_spelled all are xs gs (among_rest all x xs among) left has.1))
  | inr input ↦ without_line all x xs (g ∷ gs) input
      (assigns_spelled all are xs (g ∷ gs) (among_rest all x xs among)
      (input_count x xs (length (g ∷ gs)) input count) has)
]
