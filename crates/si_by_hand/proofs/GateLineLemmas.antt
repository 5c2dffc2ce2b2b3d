-- What a text of one gate line spells, and its fault.
use Rattle.std.proofs.Common.{◌≡◌, ℕ, ◌∙◌, Bool, true, false, not, List, [], ◌∷◌, length, slice_index_or}
use Rattle.std.proofs.Common.{Some, None, IsTrue, refl, sym, ap, subst, arith, Contains}
use Rattle.std.proofs.lemmas.Bool.{leb-false}
use Rattle.std.proofs.lemmas.List.{length-map, get_or-map}
use Rattle.si_base.specs.declared.fault.TextKind.TheVariants.{BadByte, BadName, NoEnd, Repeated, TooManySignals}
use Rattle.si_base.specs.declared.graph.Signal.{Signal}
use Rattle.si_base.specs.Faults.{when, ◌otherwise◌, at_line}
use Rattle.si_base.specs.Graph.{names_in}
use Rattle.si_base.specs.Limits.{max_signals}
use Rattle.si_base.specs.Words.{is_signal_name}
use Rattle.si_insert.specs.Fresh.{IsTaken}
use Rattle.si_netlist_reader.specs.GateParts.{gate_fault}
use Rattle.si_netlist_reader.specs.NetlistValue.{first_word}
use Rattle.si_words.proofs.FaultLemmas.{both, line_none, not_when}
use Rattle.si_words.proofs.RowLemmas.{row_step}
use Rattle.si_words.proofs.PlaceLemmas.{new_name}
use Rattle.si_words.specs.Lines.{Form, ended, has_bad_byte_here, lines_fault, tail_of, words_of}
use Rattle.si_words.specs.Loops.RowValues.{TakesValue}
use Rattle.si_words.specs.Names.{name_fault, stands_in}
use Rattle.si_words.specs.Rows.{Left, all_lines, fault_of}
use Rattle.si_by_hand.specs.GateText.{NewGate, gate_text_fault, line_fault, new_gate, with_new}
use Rattle.si_by_hand.specs.Loops.NewNames.{IsNewName}

-- ---- a text of one line
line_there : (n : ℕ) (form : Form) (lines : List (List ℕ)) (tail : List ℕ)
    → lines_fault n (form ∷ []) lines tail ≡ None → form (words_of (slice_index_or lines 0 [])) ≡ None
line_there n form [] tail none = no_end (has_bad_byte_here tail) none
  where
    no_end : (bad : Bool) → at_line n (when bad BadByte otherwise Some NoEnd) ≡ None
        → form (words_of []) ≡ None
    no_end true h = absurd cc
    no_end false h = absurd cc
line_there n form (line ∷ lines) tail none =
    let here = line_none n (when (has_bad_byte_here line) BadByte otherwise form (words_of line)) _ none in
    (both (when (has_bad_byte_here line) BadByte) (form (words_of line)) here.0).1

-- the words of the first line have the form, where the text has no fault
pub first_line : (form : Form) (text : List ℕ) → fault_of (form ∷ []) (all_lines text) ≡ None
    → form (words_of (slice_index_or (ended text) 0 [])) ≡ None
first_line form text none = line_there 1 form (ended text) (tail_of text) none

-- the line that was taken is the first
pub taken_first : {V : Type 0} (form : Form) (spelled : List (List ℕ) → V) (text : List ℕ) (old new : Left) (value : V)
    → old ≡ all_lines text → TakesValue form spelled old new value
    → value ≡ spelled (words_of (slice_index_or (ended text) 0 []))
taken_first form spelled text old new value begun takes =
    let lines = ap (λ (l : Left). l.lines) (sym begun) ∙ takes.takes.lines in
    takes.value_is ∙ ap spelled (takes.takes.words_are ∙ ap (λ (ls : List (List ℕ)). words_of (slice_index_or ls 0 []))
    (sym lines))

pub taken_fault : {V : Type 0} (form : Form) (spelled : List (List ℕ) → V) (text : List ℕ) (old new : Left) (value : V)
    → old ≡ all_lines text → TakesValue form spelled old new value
    → fault_of (form ∷ []) (all_lines text) ≡ fault_of [] new
taken_fault form spelled text old new value begun takes = ap (fault_of (form ∷ [])) (sym begun)
    ∙ row_step form [] old new takes.words takes.takes takes.good

-- ---- the name of a new signal
named_in : (signals : List Signal) (name : List ℕ) → IsTaken signals name → Contains (names_in signals) name
named_in signals name (k, x, below, at, is) =
    let name_of : Signal → List ℕ = λ y. y.name in (
      k,
      omega (arith, below, length-map signals name_of),
      get_or-map name_of signals k x name below ∙ ap name_of at ∙ is,
    )

kept : (b : Bool) → not b ≡ false → IsTrue b
kept true is = refl
kept false is = absurd cc

pub new_by_fault : (signals : List Signal) (name : List ℕ)
    → name_fault max_signals (names_in signals) name ≡ None → IsNewName signals name
new_by_fault signals name none =
    let first = both (when (not (is_signal_name name)) BadName) _ none in
    let then = both (when (stands_in (names_in signals) name) Repeated) _ first.1 in
    record {
      free = λ taken. new_name (names_in signals) name (not_when _ Repeated then.0) (named_in signals name taken);
      spelled = kept (is_signal_name name) (not_when _ BadName first.0);
      room = omega (
        arith,
        leb-false max_signals (length (names_in signals)) (not_when _ TooManySignals then.1),
        length-map signals (λ (y : Signal). y.name),
      );
    }

-- the new signal of a text without fault has such a name
pub new_in : (signals : List Signal) (text : List ℕ) → gate_text_fault (names_in signals) text ≡ None
    → IsNewName signals (new_gate (names_in signals) text).name
new_in signals text none =
    let names = names_in signals in
    let words = words_of (slice_index_or (ended text) 0 []) in
    let name = first_word words in
    let line = first_line (line_fault names) text none in
    new_by_fault signals name
    (both (name_fault max_signals names name) (gate_fault (with_new names words) name words) line).0

-- and so it is where it is read over these names
pub new_read : (signals : List Signal) (names : List (List ℕ)) (text : List ℕ) (made : NewGate)
    → names ≡ names_in signals → gate_text_fault names text ≡ None → made ≡ new_gate names text
    → IsNewName signals made.name
new_read signals names text made are none is =
    let found = new_in signals text (ap (λ (ns : List (List ℕ)). gate_text_fault ns text) (sym are) ∙ none) in
    let name = ap (λ (m : NewGate). m.name) (is ∙ ap (λ (ns : List (List ℕ)). new_gate ns text) are) in
    subst (IsNewName signals) (sym name) found
