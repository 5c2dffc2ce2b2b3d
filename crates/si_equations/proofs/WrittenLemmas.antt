-- The lines of a netlist's equations have the tokens of its gates.
use Rattle.std.proofs.Common.{◌≡◌, ℕ, zero, suc, ◌+◌, ◌<◌, true, false, List, [], ◌∷◌, ◌++◌, length, map}
use Rattle.std.proofs.Common.{filter, flat_map, slice_get, Some, refl, sym, ap, subst, ◌∙◌, append_assoc, codes, arith}
use Rattle.std.proofs.Common.{inl, inr}
use Rattle.std.specs.List.{AllByRecursion}
use Rattle.std.proofs.lemmas.Bool.{cases_Bool, true≢false}
use Rattle.std.proofs.lemmas.List.{append-nil}
use Rattle.si_base.specs.declared.graph.Signal.{Signal}
use Rattle.si_base.specs.Graph.{is_driven, names_in, IsNonInput}
use Rattle.si_base.specs.Netlist.{Gate, gate_place, value_of as gate_value_of, value_if_there}
use Rattle.si_base.specs.NetlistText.{name_of}
use Rattle.si_base.specs.Words.{is_signal_name}
use Rattle.si_words.proofs.WrittenLineLemmas.{AreInLine, append_in_line}
use Rattle.si_genlib.specs.Grammar.{tree_of, written}
use Rattle.si_equations.specs.Equations.{expression_value}
use Rattle.si_equations.specs.Written.{in_brackets, gate_text, list_line, equation_line, equation_lines}
use Rattle.si_equations.proofs.EquationLemmas.{Item, item_tokens, IsItem}
use Rattle.si_equations.proofs.LineLemmas.{AreLines}
use Rattle.si_equations.proofs.MeaningLemmas.{Says, AreNamed, HasThere, says_gate}
use Rattle.si_equations.proofs.NameLemmas.{bracket_token, plain_token, fixed_in_line}
use Rattle.si_equations.proofs.NetlistLemmas.{driven_in}
use Rattle.si_equations.proofs.NewLemmas.{AreGood}
use Rattle.si_equations.proofs.TokenLemmas.{marks, Reads, ReadsBefore, read_then, parted_read, parted_then, line_marks}

-- ---- lists

names_marks : (text : List ℕ) (ws names : List (List ℕ)) → AreGood names → ReadsBefore text ws
    → ReadsBefore (text ++ flat_map (λ name. 32 ∷ name) names) (ws ++ names)
names_marks text ws [] good reads = λ rest ends.
    ap (λ (t : List ℕ). marks (t ++ rest)) (append-nil text) ∙ reads rest ends
    ∙ ap (λ (s : List (List ℕ)). s ++ marks rest) (sym (append-nil ws))
names_marks text ws (n ∷ names) good reads =
    let last = 32 ∷ n in
    let later = flat_map (λ name. 32 ∷ name) names in
    let here : ReadsBefore last (n ∷ []) =
    read_then (32 ∷ []) n [] (n ∷ []) (λ rest. refl) (plain_token n good.0).reads in
    let longer = names_marks (text ++ last) (ws ++ n ∷ []) names good.1
    (parted_then text last ws (n ∷ []) reads (λ more. refl) here) in
    λ rest ends.
    ap (λ (t : List ℕ). marks (t ++ rest)) (sym (append_assoc text last later)) ∙ longer rest ends
    ∙ ap (λ (s : List (List ℕ)). s ++ marks rest) (append_assoc ws (n ∷ []) names)

names_in_line : (names : List (List ℕ)) → AreGood names → AreInLine (flat_map (λ name. 32 ∷ name) names)
names_in_line [] good = tt
names_in_line (n ∷ names) good = append_in_line (32 ∷ n) (flat_map (λ name. 32 ∷ name) names)
    (append_in_line (32 ∷ []) n (fixed_in_line (32 ∷ []) refl) (plain_token n good.0).in_line)
    (names_in_line names good.1)

pub list_marks : (word : List ℕ) (names : List (List ℕ)) → AreGood names → ReadsBefore word (word ∷ [])
    → marks (list_line word names) ≡ word ∷ codes "=" ∷ (names ++ codes ";" ∷ [])
list_marks word names good reads =
    let front : List (List ℕ) = word ∷ codes "=" ∷ [] in
    let begun : Reads (word ++ codes " =") front =
    parted_read word (codes " =") (word ∷ []) (codes "=" ∷ []) reads (λ more. refl) (λ rest. refl) in
    let listed = names_marks (word ++ codes " =") front names good (λ rest ends. begun rest) in
    line_marks (list_line word names) (front ++ names ++ codes ";" ∷ [])
    (parted_read (word ++ codes " =" ++ flat_map (λ name. 32 ∷ name) names) (codes ";") (front ++ names)
    (codes ";" ∷ []) listed (λ more. refl) (λ rest. refl))

pub list_in_line : (word : List ℕ) (names : List (List ℕ)) → AreGood names → AreInLine word
    → AreInLine (list_line word names)
list_in_line word names good fine =
    let all = flat_map (λ name. 32 ∷ name) names in
    append_in_line (word ++ codes " =" ++ all) (codes ";")
    (append_in_line (word ++ codes " =") all
    (append_in_line word (codes " =") fine (fixed_in_line (codes " =") refl)) (names_in_line names good))
    (fixed_in_line (codes ";") refl)

-- ---- equations

-- the equation of signal z among these has the values of its gate, where the first of the signals is the i-th
abbrev pub IsSaid : List Signal → ℕ → List Signal → List Gate → List Item → ℕ → Type 0
IsSaid all i xs gates items z = (q : Item) × (slice_get items (gate_place xs z) ≡ Some q)
    × (q.name ≡ name_of xs z)
    × ((v : ℕ) → expression_value (names_in all) v (tree_of q.syntax)
    ≡ value_if_there (slice_get gates (gate_place xs z)) (i + z) v)

-- the lines of these signals and gates are those of equations, one for each non-input
pub record SaysEquations (all : List Signal) (i : ℕ) (xs : List Signal) (gates : List Gate) : Type 0 where
  pub items : List Item
  pub reads : flat_map marks (equation_lines all xs gates) ≡ flat_map item_tokens items
  pub in_line : AreLines (equation_lines all xs gates)
  pub fine : AllByRecursion (IsItem (names_in all)) items
  pub names : map (λ q. q.name) items ≡ driven_in xs
  pub each : (z : ℕ) → IsNonInput xs z → IsSaid all i xs gates items z

driven_lines : (all : List Signal) (x : Signal) (xs : List Signal) (g : Gate) (gs : List Gate)
    → is_driven x.kind ≡ true
    → equation_line all x.name g ∷ equation_lines all xs gs ≡ equation_lines all (x ∷ xs) (g ∷ gs)
driven_lines all x xs g gs driven = rw driven refl

input_lines : (all : List Signal) (x : Signal) (xs : List Signal) (gates : List Gate)
    → is_driven x.kind ≡ false → equation_lines all xs gates ≡ equation_lines all (x ∷ xs) gates
input_lines all x xs gates input = rw input refl

driven_place : (x : Signal) (xs : List Signal) (z : ℕ) → is_driven x.kind ≡ true
    → gate_place (x ∷ xs) (suc z) ≡ suc (gate_place xs z)
driven_place x xs z driven = rw driven (omega arith)

input_place : (x : Signal) (xs : List Signal) (z : ℕ) → is_driven x.kind ≡ false
    → gate_place (x ∷ xs) (suc z) ≡ gate_place xs z
input_place x xs z input = rw input (omega arith)

driven_names : (x : Signal) (xs : List Signal) (names : List (List ℕ)) → is_driven x.kind ≡ true
    → names ≡ driven_in xs → x.name ∷ names ≡ driven_in (x ∷ xs)
driven_names x xs names driven are = rw driven (ap (λ (ns : List (List ℕ)). x.name ∷ ns) are)

input_names : (x : Signal) (xs : List Signal) (names : List (List ℕ)) → is_driven x.kind ≡ false
    → names ≡ driven_in xs → names ≡ driven_in (x ∷ xs)
input_names x xs names input are = rw input are

-- a line more, of a signal that is driven
module _ (all : List Signal) (are : AreNamed all) (i : ℕ) (x : Signal) (xs : List Signal) (g : Gate) (gs : List Gate)
    (name_is : x.name ≡ name_of all i) (there : i < length all) (has : HasThere (length all) g)
    (driven : is_driven x.kind ≡ true) (rest : SaysEquations all (i + 1) xs gs) where
  said : Says all 0 1 (gate_text all (name_of all i) g) (λ v. gate_value_of g i v)
  said = says_gate all are i g there has

  first : Item
  first = record { name = x.name; syntax = said.syntax }

  first_marks : marks (equation_line all x.name g) ≡ item_tokens first
  unfolding first
  first_marks =
      let name = name_of all i in
      let e = gate_text all name g in
      let token = in_brackets name in
      let tokens = written said.syntax in
      let named : ReadsBefore token (token ∷ []) = (bracket_token name (are.good i there)).reads in
      let given : Reads (token ++ codes " = ") (token ∷ codes "=" ∷ []) =
      parted_read token (codes " = ") (token ∷ []) (codes "=" ∷ []) named (λ more. refl) (λ more. refl) in
      let stated : ReadsBefore (token ++ codes " = " ++ e) (token ∷ codes "=" ∷ tokens) =
      read_then (token ++ codes " = ") e (token ∷ codes "=" ∷ []) tokens given said.reads in
      let whole : marks (equation_line all name g) ≡ token ∷ codes "=" ∷ (tokens ++ codes ";" ∷ []) =
      line_marks (equation_line all name g) (token ∷ codes "=" ∷ (tokens ++ codes ";" ∷ []))
      (parted_read (token ++ codes " = " ++ e) (codes ";") (token ∷ codes "=" ∷ tokens) (codes ";" ∷ [])
      stated (λ more. refl) (λ more. refl)) in
      subst (λ (n : List ℕ). marks (equation_line all n g) ≡ in_brackets n ∷ codes "=" ∷ (tokens ++ codes ";" ∷ []))
      (sym name_is) whole

  first_in_line : AreInLine (equation_line all x.name g)
  first_in_line =
      let name = name_of all i in
      let e = gate_text all name g in
      let token = in_brackets name in
      let fine : AreInLine (equation_line all name g) = append_in_line (token ++ codes " = " ++ e) (codes ";")
      (append_in_line (token ++ codes " = ") e
      (append_in_line token (codes " = ") (bracket_token name (are.good i there)).in_line
      (fixed_in_line (codes " = ") refl)) said.in_line)
      (fixed_in_line (codes ";") refl) in
      subst (λ (n : List ℕ). AreInLine (equation_line all n g)) (sym name_is) fine

  first_fine : IsItem (names_in all) first
  unfolding first
  first_fine = record {
    good = subst (λ (n : List ℕ). is_signal_name n ≡ true) (sym name_is) (are.good i there);
    is = said.is;
    low = omega (arith, said.low);
    knows = said.knows;
  }

  later_said : (z : ℕ) → IsNonInput xs z → IsSaid all i (x ∷ xs) (g ∷ gs) (first ∷ rest.items) (suc z)
  later_said z non_input =
      let here = rest.each z non_input in
      let place = driven_place x xs z driven in
      let order : (i + 1) + z ≡ i + suc z = omega arith in (
        here.0,
        ap (slice_get (first ∷ rest.items)) place ∙ here.1,
        here.2,
        λ v. here.3 v ∙ ap (λ (k : ℕ). value_if_there (slice_get gs (gate_place xs z)) k v) order
            ∙ ap (λ (p : ℕ). value_if_there (slice_get (g ∷ gs) p) (i + suc z) v) (sym place),
      )

  each_said : (z : ℕ) → IsNonInput (x ∷ xs) z → IsSaid all i (x ∷ xs) (g ∷ gs) (first ∷ rest.items) z
  unfolding first
  each_said zero non_input =
      let order : i ≡ i + 0 = omega arith in
      (first, refl, refl, λ v. said.values v ∙ ap (λ (k : ℕ). gate_value_of g k v) order)
  each_said (suc z) non_input = later_said z non_input

  first_named : map (λ (q : Item). q.name) (first ∷ rest.items) ≡ driven_in (x ∷ xs)
  unfolding first
  first_named = driven_names x xs (map (λ (q : Item). q.name) rest.items) driven rest.names

  with_line : SaysEquations all i (x ∷ xs) (g ∷ gs)
  with_line = record {
    items = first ∷ rest.items;
    reads = ap (λ (ls : List (List ℕ)). flat_map marks ls) (sym (driven_lines all x xs g gs driven))
        ∙ (λ k. first_marks k ++ rest.reads k);
    in_line = subst AreLines (driven_lines all x xs g gs driven) (first_in_line, rest.in_line);
    fine = (first_fine, rest.fine);
    names = first_named;
    each = each_said;
  }

-- a signal that is none
module _ (all : List Signal) (i : ℕ) (x : Signal) (xs : List Signal) (gates : List Gate)
    (input : is_driven x.kind ≡ false) (rest : SaysEquations all (i + 1) xs gates) where
  each_behind : (z : ℕ) → IsNonInput (x ∷ xs) z → IsSaid all i (x ∷ xs) gates rest.items z
  each_behind zero non_input =
      let here = non_input.1 in
      let same : x ≡ non_input.0 = cc in
      let driven : is_driven x.kind ≡ true = ap (λ (s : Signal). is_driven s.kind) same ∙ non_input.2 in
      absurd (true≢false (sym driven ∙ input))
  each_behind (suc z) non_input =
      let here = rest.each z non_input in
      let place = input_place x xs z input in
      let order : (i + 1) + z ≡ i + suc z = omega arith in (
        here.0,
        ap (slice_get rest.items) place ∙ here.1,
        here.2,
        λ v. here.3 v ∙ ap (λ (k : ℕ). value_if_there (slice_get gates (gate_place xs z)) k v) order
            ∙ ap (λ (p : ℕ). value_if_there (slice_get gates p) (i + suc z) v) (sym place),
      )

  without_line : SaysEquations all i (x ∷ xs) gates
  without_line = record {
    items = rest.items;
    reads = ap (λ (ls : List (List ℕ)). flat_map marks ls) (sym (input_lines all x xs gates input)) ∙ rest.reads;
    in_line = subst AreLines (input_lines all x xs gates input) rest.in_line;
    fine = rest.fine;
    names = input_names x xs (map (λ (q : Item). q.name) rest.items) input rest.names;
    each = each_behind;
  }

-- the signals are those from the i-th on
abbrev pub AreFrom : List Signal → ℕ → List Signal → Type 0
AreFrom all i xs = (k : ℕ) → k < length xs → (name_of xs k ≡ name_of all (i + k)) × (i + k < length all)

from_next : (all : List Signal) (i : ℕ) (x : Signal) (xs : List Signal) → AreFrom all i (x ∷ xs)
    → AreFrom all (i + 1) xs
from_next all i x xs from = λ k within.
    let here = from (suc k) (omega arith) in
    let order : i + suc k ≡ (i + 1) + k = omega arith in
    let below = here.1 in
    (here.0 ∙ ap (name_of all) order, omega arith)

from_here : (all : List Signal) (i : ℕ) (x : Signal) (xs : List Signal) → AreFrom all i (x ∷ xs)
    → (x.name ≡ name_of all i) × (i < length all)
from_here all i x xs from =
    let here = from 0 (omega arith) in
    let order : i + 0 ≡ i = omega arith in
    let below = here.1 in
    (here.0 ∙ ap (name_of all) order, omega arith)

driven_count : (x : Signal) (xs : List Signal) (gates : ℕ) → is_driven x.kind ≡ true
    → gates ≡ length (filter (λ (s : Signal). is_driven s.kind) (x ∷ xs))
    → gates ≡ suc (length (filter (λ (s : Signal). is_driven s.kind) xs))
driven_count x xs gates driven count = rw driven at count

input_count : (x : Signal) (xs : List Signal) (gates : ℕ) → is_driven x.kind ≡ false
    → gates ≡ length (filter (λ (s : Signal). is_driven s.kind) (x ∷ xs))
    → gates ≡ length (filter (λ (s : Signal). is_driven s.kind) xs)
input_count x xs gates input count = rw input at count

pub says_equations : (all : List Signal) (are : AreNamed all) (i : ℕ) (xs : List Signal) (gates : List Gate)
    → AreFrom all i xs → length gates ≡ length (filter (λ (s : Signal). is_driven s.kind) xs)
    → AllByRecursion (HasThere (length all)) gates → SaysEquations all i xs gates
says_equations all are i [] gates from count has = record {
  items = [];
  reads = refl;
  in_line = tt;
  fine = tt;
  names = refl;
  each = λ z non_input. (let none = non_input.1 in cc);
}
says_equations all are i (x ∷ xs) [] from count has = elim (cases_Bool (is_driven x.kind)) [
  | inl driven ↦ (let some = driven_count x xs 0 driven count in absurd (omega arith))
  | inr input ↦ without_line all i x xs [] input
      (says_equations all are (i + 1) xs [] (from_next all i x xs from) (input_count x xs 0 input count) tt)
]
says_equations all are i (x ∷ xs) (g ∷ gs) from count has = elim (cases_Bool (is_driven x.kind)) [
  | inl driven ↦ (
      let some = driven_count x xs (length (g ∷ gs)) driven count in
      let left : length gs ≡ length (filter (λ (s : Signal). is_driven s.kind) xs) = omega arith in
      let here = from_here all i x xs from in
      with_line all are i x xs g gs here.0 here.1 has.0 driven
      (says_equations all are (i + 1) xs gs (from_next all i x xs from) left has.1))
  | inr input ↦ without_line all i x xs (g ∷ gs) input
      (says_equations all are (i + 1) xs (g ∷ gs) (from_next all i x xs from)
      (input_count x xs (length (g ∷ gs)) input count) has)
]
