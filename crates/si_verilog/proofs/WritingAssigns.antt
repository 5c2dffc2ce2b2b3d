-- The assigns of a netlist's text.
use Rattle.std.proofs.Common.{◌≡◌, ℕ, zero, suc, ◌+◌, ◌<◌, Bool, true, false, List, [], ◌∷◌, ◌++◌, length, map, filter}
use Rattle.std.proofs.Common.{slice_get, Some, refl, sym, ap, ◌∙◌, append_assoc, codes, arith, inl, inr}
use Rattle.std.specs.List.{AllByRecursion}
use Rattle.std.proofs.lemmas.Bool.{cases_Bool, true≢false}
use Rattle.si_base.specs.declared.graph.Signal.{Signal}
use Rattle.si_base.specs.Graph.{is_driven, IsNonInput}
use Rattle.si_base.specs.Netlist.{Gate, gate_place, value_of, value_if_there}
use Rattle.si_base.specs.NetlistText.{name_of}
use Rattle.si_verilog.specs.Symbols.{Symbol, Name, Word, Mark, symbols_of}
use Rattle.si_verilog.specs.Grammar.{Tree, tree_value, Expression, Assign, SpellAssigns, no_assign, assign}
use Rattle.si_verilog.specs.Meaning.{named_value}
use Rattle.si_verilog.specs.ModuleText.{verilog_name, gate_text, assign_line, assign_lines}
use Rattle.si_verilog.proofs.SymbolLemmas.{Reads, ReadsBefore, both_read, read_then, parted_read, assign_read}
use Rattle.si_verilog.proofs.SymbolLemmas.{equals_read, semicolon_read, written_read}
use Rattle.si_verilog.proofs.MeaningLemmas.{Says, AreNamed, HasThere, says_gate}

-- the assign of signal z among these has the values of its gate, where the first of the signals is the i-th
abbrev pub IsSaid : List Signal → ℕ → List Signal → List Gate → List Assign → ℕ → Type 0
IsSaid all i xs gates assigns z = (t : Tree)
    × (slice_get assigns (gate_place xs z) ≡ Some (record { name = name_of xs z; tree = t }))
    × ((v : ℕ) → tree_value (named_value all v) t ≡ value_if_there (slice_get gates (gate_place xs z)) (i + z) v)

-- the lines of these signals and gates spell assigns, one for each non-input
pub record SaysAssigns (all : List Signal) (i : ℕ) (xs : List Signal) (gates : List Gate) : Type 0 where
  pub assigns : List Assign
  pub symbols : List Symbol
  pub spell : SpellAssigns symbols assigns
  pub reads : Reads (assign_lines all xs gates) symbols
  pub names : map (λ a. a.name) assigns ≡ map (λ x. x.name) (filter (λ x. is_driven x.kind) xs)
  pub each : (z : ℕ) → IsNonInput xs z → IsSaid all i xs gates assigns z

line_read : (all : List Signal) (are : AreNamed all) (z : ℕ) (gate : Gate) (value : ℕ → Bool) → z < length all
    → (says : Says all Expression (gate_text all (name_of all z) gate) value)
    → Reads (assign_line all (name_of all z) gate)
    (Word (codes "assign") ∷ Name (name_of all z) ∷ Mark 61 ∷ says.symbols ++ Mark 59 ∷ [])
line_read all are z gate value there says =
    let n = verilog_name (name_of all z) in
    let e = gate_text all (name_of all z) gate in
    let word : List Symbol = Word (codes "assign") ∷ [] in
    let name : List Symbol = Name (name_of all z) ∷ [] in
    let mark : List Symbol = Mark 61 ∷ [] in
    let end : List Symbol = Mark 59 ∷ [] in
    let named : ReadsBefore (codes "  assign " ++ n) (word ++ name) =
    read_then (codes "  assign ") n word name assign_read (written_read (name_of all z) (are.writable z there)) in
    let given : Reads (codes "  assign " ++ n ++ codes " = ") ((word ++ name) ++ mark) =
    parted_read (codes "  assign " ++ n) (codes " = ") (word ++ name) mark named (λ more. refl) equals_read in
    let said : ReadsBefore (codes "  assign " ++ n ++ codes " = " ++ e) (((word ++ name) ++ mark) ++ says.symbols) =
    read_then (codes "  assign " ++ n ++ codes " = ") e ((word ++ name) ++ mark) says.symbols given says.reads in
    parted_read (codes "  assign " ++ n ++ codes " = " ++ e) (codes ";\n")
    (((word ++ name) ++ mark) ++ says.symbols) end said (λ more. refl) semicolon_read

driven_lines : (all : List Signal) (x : Signal) (xs : List Signal) (g : Gate) (gs : List Gate)
    → is_driven x.kind ≡ true → assign_line all x.name g ++ assign_lines all xs gs ≡ assign_lines all (x ∷ xs) (g ∷ gs)
driven_lines all x xs g gs driven = rw driven refl

input_lines : (all : List Signal) (x : Signal) (xs : List Signal) (gates : List Gate)
    → is_driven x.kind ≡ false → assign_lines all xs gates ≡ assign_lines all (x ∷ xs) gates
input_lines all x xs gates input = rw input refl

driven_place : (x : Signal) (xs : List Signal) (z : ℕ) → is_driven x.kind ≡ true
    → gate_place (x ∷ xs) (suc z) ≡ suc (gate_place xs z)
driven_place x xs z driven = rw driven (omega arith)

input_place : (x : Signal) (xs : List Signal) (z : ℕ) → is_driven x.kind ≡ false
    → gate_place (x ∷ xs) (suc z) ≡ gate_place xs z
input_place x xs z input = rw input (omega arith)

driven_names : (x : Signal) (xs : List Signal) (names : List (List ℕ)) → is_driven x.kind ≡ true
    → names ≡ map (λ (s : Signal). s.name) (filter (λ s. is_driven s.kind) xs)
    → x.name ∷ names ≡ map (λ (s : Signal). s.name) (filter (λ s. is_driven s.kind) (x ∷ xs))
driven_names x xs names driven are = rw driven (ap (λ (ns : List (List ℕ)). x.name ∷ ns) are)

input_names : (x : Signal) (xs : List Signal) (names : List (List ℕ)) → is_driven x.kind ≡ false
    → names ≡ map (λ (s : Signal). s.name) (filter (λ s. is_driven s.kind) xs)
    → names ≡ map (λ (s : Signal). s.name) (filter (λ s. is_driven s.kind) (x ∷ xs))
input_names x xs names input are = rw input are

-- a line more, of a signal that is driven
module _ (all : List Signal) (are : AreNamed all) (i : ℕ) (x : Signal) (xs : List Signal) (g : Gate) (gs : List Gate)
    (name_is : x.name ≡ name_of all i) (there : i < length all) (has : HasThere (length all) g)
    (driven : is_driven x.kind ≡ true) (rest : SaysAssigns all (i + 1) xs gs) where
  said : Says all Expression (gate_text all (name_of all i) g) (λ v. value_of g i v)
  said = says_gate all are i g there has

  first : Assign
  first = record { name = x.name; tree = said.tree }

  later_said : (z : ℕ) → IsNonInput xs z → IsSaid all i (x ∷ xs) (g ∷ gs) (first ∷ rest.assigns) (suc z)
  later_said z non_input =
      let here = rest.each z non_input in
      let place = driven_place x xs z driven in
      let order : (i + 1) + z ≡ i + suc z = omega arith in (
        here.0,
        ap (slice_get (first ∷ rest.assigns)) place ∙ here.1,
        λ v. here.2 v ∙ ap (λ (k : ℕ). value_if_there (slice_get gs (gate_place xs z)) k v) order
            ∙ ap (λ (p : ℕ). value_if_there (slice_get (g ∷ gs) p) (i + suc z) v) (sym place),
      )

  each_said : (z : ℕ) → IsNonInput (x ∷ xs) z → IsSaid all i (x ∷ xs) (g ∷ gs) (first ∷ rest.assigns) z
  unfolding first
  each_said zero non_input =
      let order : i ≡ i + 0 = omega arith in
      (said.tree, refl, λ v. said.values v ∙ ap (λ (k : ℕ). value_of g k v) order)
  each_said (suc z) non_input = later_said z non_input

  spelled : SpellAssigns (Word (codes "assign") ∷ Name x.name ∷ Mark 61 ∷ said.symbols ++ Mark 59 ∷ rest.symbols)
      (first ∷ rest.assigns)
  unfolding first
  spelled = assign x.name said.spells rest.spell

  lines_read : Reads (assign_lines all (x ∷ xs) (g ∷ gs))
      (Word (codes "assign") ∷ Name x.name ∷ Mark 61 ∷ said.symbols ++ Mark 59 ∷ rest.symbols)
  lines_read = λ more.
      let line = assign_line all (name_of all i) g in
      let lines = assign_lines all xs gs in
      let front : List Symbol = Word (codes "assign") ∷ Name (name_of all i) ∷ Mark 61 ∷ said.symbols ++ Mark 59 ∷ [] in
      ap (λ (t : List ℕ). symbols_of (t ++ more)) (sym (driven_lines all x xs g gs driven)
      ∙ ap (λ (n : List ℕ). assign_line all n g ++ lines) name_is)
      ∙ both_read line lines front rest.symbols (line_read all are i g (λ v. value_of g i v) there said) rest.reads more
      ∙ ap (λ (s : List Symbol). (Word (codes "assign") ∷ Name (name_of all i) ∷ Mark 61 ∷ s) ++ symbols_of more)
      (append_assoc said.symbols (Mark 59 ∷ []) rest.symbols)
      ∙ ap (λ (n : List ℕ). (Word (codes "assign") ∷ Name n ∷ Mark 61 ∷ said.symbols ++ Mark 59 ∷ rest.symbols)
      ++ symbols_of more) (sym name_is)

  first_named : map (λ (a : Assign). a.name) (first ∷ rest.assigns)
      ≡ map (λ (s : Signal). s.name) (filter (λ s. is_driven s.kind) (x ∷ xs))
  unfolding first
  first_named = driven_names x xs (map (λ (a : Assign). a.name) rest.assigns) driven rest.names

  with_line : SaysAssigns all i (x ∷ xs) (g ∷ gs)
  with_line = record {
    assigns = first ∷ rest.assigns;
    symbols = Word (codes "assign") ∷ Name x.name ∷ Mark 61 ∷ said.symbols ++ Mark 59 ∷ rest.symbols;
    spell = spelled;
    reads = lines_read;
    names = first_named;
    each = each_said;
  }

-- an input has no line
module _ (all : List Signal) (i : ℕ) (x : Signal) (xs : List Signal) (gates : List Gate)
    (input : is_driven x.kind ≡ false) (rest : SaysAssigns all (i + 1) xs gates) where
  each_behind : (z : ℕ) → IsNonInput (x ∷ xs) z → IsSaid all i (x ∷ xs) gates rest.assigns z
  each_behind zero non_input =
      let here = non_input.1 in
      let same : x ≡ non_input.0 = cc in
      let driven : is_driven x.kind ≡ true = ap (λ (s : Signal). is_driven s.kind) same ∙ non_input.2 in
      absurd (true≢false (sym driven ∙ input))
  each_behind (suc z) non_input =
      let here = rest.each z non_input in
      let place = input_place x xs z input in
      let order : (i + 1) + z ≡ i + suc z = omega arith in (
        here.0,
        ap (slice_get rest.assigns) place ∙ here.1,
        λ v. here.2 v ∙ ap (λ (k : ℕ). value_if_there (slice_get gates (gate_place xs z)) k v) order
            ∙ ap (λ (p : ℕ). value_if_there (slice_get gates p) (i + suc z) v) (sym place),
      )

  without_line : SaysAssigns all i (x ∷ xs) gates
  without_line = record {
    assigns = rest.assigns;
    symbols = rest.symbols;
    spell = rest.spell;
    reads = λ more. ap (λ (t : List ℕ). symbols_of (t ++ more)) (sym (input_lines all x xs gates input))
        ∙ rest.reads more;
    names = input_names x xs (map (λ (a : Assign). a.name) rest.assigns) input rest.names;
    each = each_behind;
  }

-- the signals are those from the i-th on
abbrev pub AreFrom : List Signal → ℕ → List Signal → Type 0
AreFrom all i xs = (k : ℕ) → k < length xs → (name_of xs k ≡ name_of all (i + k)) × (i + k < length all)

from_next : (all : List Signal) (i : ℕ) (x : Signal) (xs : List Signal) → AreFrom all i (x ∷ xs)
    → AreFrom all (i + 1) xs
from_next all i x xs from = λ k within.
    let here = from (suc k) (omega arith) in
    let order : i + suc k ≡ (i + 1) + k = omega arith in
    let below = here.1 in
    (here.0 ∙ ap (name_of all) order, omega arith)

from_here : (all : List Signal) (i : ℕ) (x : Signal) (xs : List Signal) → AreFrom all i (x ∷ xs)
    → (x.name ≡ name_of all i) × (i < length all)
from_here all i x xs from =
    let here = from 0 (omega arith) in
    let order : i + 0 ≡ i = omega arith in
    let below = here.1 in
    (here.0 ∙ ap (name_of all) order, omega arith)

driven_count : (x : Signal) (xs : List Signal) (gates : ℕ) → is_driven x.kind ≡ true
    → gates ≡ length (filter (λ (s : Signal). is_driven s.kind) (x ∷ xs))
    → gates ≡ suc (length (filter (λ (s : Signal). is_driven s.kind) xs))
driven_count x xs gates driven count = rw driven at count

input_count : (x : Signal) (xs : List Signal) (gates : ℕ) → is_driven x.kind ≡ false
    → gates ≡ length (filter (λ (s : Signal). is_driven s.kind) (x ∷ xs))
    → gates ≡ length (filter (λ (s : Signal). is_driven s.kind) xs)
input_count x xs gates input count = rw input at count

pub says_assigns : (all : List Signal) (are : AreNamed all) (i : ℕ) (xs : List Signal) (gates : List Gate)
    → AreFrom all i xs → length gates ≡ length (filter (λ (s : Signal). is_driven s.kind) xs)
    → AllByRecursion (HasThere (length all)) gates → SaysAssigns all i xs gates
says_assigns all are i [] gates from count has = record {
  assigns = [];
  symbols = [];
  spell = no_assign;
  reads = λ more. refl;
  names = refl;
  each = λ z non_input. (let none = non_input.1 in cc);
}
says_assigns all are i (x ∷ xs) [] from count has = elim (cases_Bool (is_driven x.kind)) [
  | inl driven ↦ (let some = driven_count x xs 0 driven count in absurd (omega arith))
  | inr input ↦ without_line all i x xs [] input
      (says_assigns all are (i + 1) xs [] (from_next all i x xs from) (input_count x xs 0 input count) tt)
]
says_assigns all are i (x ∷ xs) (g ∷ gs) from count has = elim (cases_Bool (is_driven x.kind)) [
  | inl driven ↦ (
      let some = driven_count x xs (length (g ∷ gs)) driven count in
      let left : length gs ≡ length (filter (λ (s : Signal). is_driven s.kind) xs) = omega arith in
      let here = from_here all i x xs from in
      with_line all are i x xs g gs here.0 here.1 has.0 driven
      (says_assigns all are (i + 1) xs gs (from_next all i x xs from) left has.1))
  | inr input ↦ without_line all i x xs (g ∷ gs) input
      (says_assigns all are (i + 1) xs (g ∷ gs) (from_next all i x xs from)
      (input_count x xs (length (g ∷ gs)) input count) has)
]
