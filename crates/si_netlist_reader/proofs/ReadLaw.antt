-- A text without fault spells a netlist, and is that netlist's text.
use Rattle.std.proofs.Common.{◌≡◌, ◌≢◌, ℕ, ◌+◌, ◌^◌, ◌<◌, ◌≤◌, List, [], ◌∷◌, ◌++◌, length, map, take, drop, refl, sym}
use Rattle.std.proofs.Common.{ap, ap₂, subst, ◌∙◌, arith, codes, None, IsTrue, suc, append_assoc, Bool, true, false}
use Rattle.std.proofs.Common.{flat_map, if◌then◌else◌}
use Rattle.std.proofs.lemmas.List.{length-map, drop-drop, take-append-drop, map-append}
use Rattle.std.proofs.lemmas.List.Elements.{All-from_recursion, recursion_from_All}
use Rattle.std.specs.List.{AllByRecursion}
use Rattle.si_base.specs.declared.graph.Signal.{Signal}
use Rattle.si_base.specs.Limits.{max_signals}
use Rattle.si_base.specs.Netlist.{Gate, Insertion, Netlist}
use Rattle.si_base.specs.NetlistText.{Version, Version1, Version2, most_signals, netlist_lines, netlist_text_in}
use Rattle.si_base.specs.NetlistText.{insert_line}
use Rattle.si_base.specs.Words.{text_of, is_signal_name}
use Rattle.si_base.specs.WellFormed.{IsWord, IsGate, IsInsertion, IsNetlist}
use Rattle.si_netlist_reader.specs.NetlistFault.{due_in, netlist_fault, version_of, after_version, body, insert_fault}
use Rattle.si_netlist_reader.specs.NetlistFault.{word_fault, start_fault}
use Rattle.si_words.specs.Lines.{Form, words_of, ended, tail_of, rest_of}
use Rattle.si_words.specs.Rows.{Left, all_lines, begins_with, fault_of}
use Rattle.std.proofs.lemmas.Slice.Eq.{bytes_eq-Decides}
use Rattle.si_base.specs.Graph.{names_in}
use Rattle.si_netlist_reader.specs.GateParts.{gate_fault, gate_of}
use Rattle.si_netlist_reader.specs.NetlistValue.{insertion_of, first_word, code_of_bits, netlist_of}
use Rattle.si_netlist_reader.specs.NetlistValue.{netlist_of_lines}
use Rattle.si_netlist_reader.proofs.LawFitLemmas.{Fits, fits, fits_map}
use Rattle.si_netlist_reader.proofs.LawTextLemmas.{closed, text_back, lines_back, words_dark}
use Rattle.si_netlist_reader.proofs.LawGateLemmas.{gate_read}
use Rattle.si_netlist_reader.proofs.LawLineLemmas.{AreNames, no_names, model_read, names_read, start_read, insert_read}
use Rattle.si_netlist_reader.proofs.LawLineLemmas.{word_read}
use Rattle.si_netlist_reader.proofs.LawKindLemmas.{signals_by, driven_by, netlist_by, lines_are, gate_lines}
use Rattle.si_netlist_reader.proofs.LawKindLemmas.{inserted_of, driven_of, all_names, driven_names, kinds_in_order}
use Rattle.si_netlist_reader.proofs.LawKindLemmas.{each_named, pairs_named}

-- ---- gate lines
abbrev pub gates_in : List (List ℕ) → List (List ℕ) → List Gate
gates_in names lines = map (λ line. gate_of names (rest_of (words_of line))) lines

gates_read : (signals driven : List Signal) (lines : List (List ℕ))
    → Fits (map (gate_fault (names_in signals)) (names_in driven)) lines
    → (gate_lines signals driven (gates_in (names_in signals) lines) ≡ map words_of lines)
    × AllByRecursion (IsGate (length (names_in signals))) (gates_in (names_in signals) lines)
    × (length (gates_in (names_in signals) lines) ≡ length driven)
gates_read signals [] [] fit = (refl, tt, refl)
gates_read signals [] (l ∷ ls) fit = absurd fit
gates_read signals (x ∷ xs) [] fit = absurd fit
gates_read signals (x ∷ xs) (l ∷ ls) fit =
    let here = gate_read signals x.name (words_of l) fit.0.1 in
    let later = gates_read signals xs ls fit.1 in (
      ap₂ (λ (w : List (List ℕ)) (ws : List (List (List ℕ))). w ∷ ws) (sym here.0) later.0,
      (here.1, later.1),
      ap suc later.2,
    )

-- ---- the lines from `.gates` on
after_read : (signals driven : List Signal) (lines : List (List ℕ)) → Fits (word_fault (codes ".gates")
    ∷ (map (gate_fault (names_in signals)) (names_in driven) ++ word_fault (codes ".end") ∷ [])) lines
    → Fits (map (gate_fault (names_in signals)) (names_in driven)) (take (length (names_in driven)) (drop 1 lines))
    × (map words_of lines ≡ (codes ".gates" ∷ [])
    ∷ (map words_of (take (length (names_in driven)) (drop 1 lines)) ++ (codes ".end" ∷ []) ∷ []))
after_read signals driven [] fit = absurd fit
after_read signals driven (l ∷ ls) fit =
    let parts = fits_map (gate_fault (names_in signals)) (names_in driven) (word_fault (codes ".end") ∷ []) ls fit.1 in
    let whole : map words_of ls
    ≡ map words_of (take (length (names_in driven)) ls) ++ map words_of (drop (length (names_in driven)) ls) =
    ap (map words_of) (sym (take-append-drop (length (names_in driven)) ls))
    ∙ map-append words_of (take (length (names_in driven)) ls) (drop (length (names_in driven)) ls) in (
      parts.0,
      ap₂ (λ (w : List (List ℕ)) (ws : List (List (List ℕ))). w ∷ ws) (word_read (codes ".gates") (words_of l) fit.0.1)
          (whole ∙ ap (λ (ws : List (List (List ℕ))). map words_of (take (length (names_in driven)) ls) ++ ws)
          (last (drop (length (names_in driven)) ls) parts.1)),
    )
  where
    last : (ks : List (List ℕ)) → Fits (word_fault (codes ".end") ∷ []) ks → map words_of ks ≡ (codes ".end" ∷ []) ∷ []
    last [] fits = absurd fits
    last (k ∷ []) fits = ap (λ (w : List (List ℕ)). w ∷ []) (word_read (codes ".end") (words_of k) fits.0.1)
    last (k ∷ m ∷ ks) fits = absurd fits.1

-- ---- `.insert` lines
abbrev pub inserts_in : List (List ℕ) → List Insertion
inserts_in lines = map (λ line. insertion_of (words_of line)) lines

inserts_read : (inserted lines : List (List ℕ)) → Fits (map insert_fault inserted) lines
    → (map insert_line (inserts_in lines) ≡ map words_of lines)
    × (map (λ (i : Insertion). i.name) (inserts_in lines) ≡ inserted) × AllByRecursion IsInsertion (inserts_in lines)
inserts_read [] [] fit = (refl, refl, tt)
inserts_read [] (l ∷ ls) fit = absurd fit
inserts_read (x ∷ xs) [] fit = absurd fit
inserts_read (x ∷ xs) (l ∷ ls) fit =
    let here = insert_read x (words_of l) fit.0.1 (words_dark l fit.0.0) in
    let later = inserts_read xs ls fit.1 in (
      ap₂ (λ (w : List (List ℕ)) (ws : List (List (List ℕ))). w ∷ ws) (sym here.0) later.0,
      ap₂ (λ (n : List ℕ) (ns : List (List ℕ)). n ∷ ns) here.1 later.1,
      (here.2, later.2),
    )

-- ---- the parts are a netlist
is_netlist : {limit : ℕ} → limit ≤ max_signals → (model : List ℕ) (i o n s : List (List ℕ))
    (start : ℕ) (inserts : List Insertion) (gates : List Gate) → IsWord model → (model ≢ 123 ∷ [])
    → (model ≢ 125 ∷ []) → AreNames limit (i ++ o ++ n ++ s) → start < 2 ^ length (signals_by i o n s)
    → map (λ (x : Insertion). x.name) inserts ≡ s → AllByRecursion IsInsertion inserts
    → length gates ≡ length (driven_by o n s) → AllByRecursion (IsGate (length (names_in (signals_by i o n s)))) gates
    → IsNetlist (netlist_by model i o n s start inserts gates)
is_netlist {limit = limit} small model i o n s start inserts gates word no_open no_close names start_fits insert_names
    are_inserts count are_gates =
    let named : AreNames limit (names_in (signals_by i o n s)) =
    subst (AreNames limit) (sym (all_names i o n s)) names in
    let many : length (names_in (signals_by i o n s)) ≡ length (signals_by i o n s) =
    length-map (signals_by i o n s) (λ (x : Signal). x.name) in
    record {
      model = word;
      no_brace = (no_open, no_close);
      names = All-from_recursion (λ (x : Signal). IsTrue (is_signal_name x.name)) (signals_by i o n s)
          (each_named (λ (w : List ℕ). IsTrue (is_signal_name w)) (signals_by i o n s)
          (recursion_from_All (λ (w : List ℕ). IsTrue (is_signal_name w)) (names_in (signals_by i o n s)) named.good));
      distinct = pairs_named (λ (x y : List ℕ). x ≢ y) (signals_by i o n s) named.distinct;
      kinds = kinds_in_order i o n s;
      few = omega (arith, small, many, named.few);
      start = start_fits;
      insert_names = insert_names ∙ sym (inserted_of i o n s);
      inserts = All-from_recursion IsInsertion inserts are_inserts;
      gate_count = count ∙ ap length (sym (driven_of i o n s));
      gates = All-from_recursion (IsGate (length (signals_by i o n s))) gates
          (subst (λ (k : ℕ). AllByRecursion (IsGate k) gates) many are_gates);
    }

-- ---- the lines behind the first six
abbrev pub gates_at : List (List ℕ) → List (List ℕ) → List (List ℕ) → List (List ℕ) → List Gate
gates_at names behind s lines = gates_in names (take (length behind) (drop 1 (drop (length s) lines)))

record Rest (signals driven : List Signal) (names behind s lines : List (List ℕ)) : Type 0 where
  pub lines_are : map insert_line (inserts_in (take (length s) lines)) ++ (codes ".gates" ∷ [])
      ∷ gate_lines signals driven (gates_at names behind s lines) ++ (codes ".end" ∷ []) ∷ [] ≡ map words_of lines
  pub insert_names : map (λ (x : Insertion). x.name) (inserts_in (take (length s) lines)) ≡ s
  pub inserts : AllByRecursion IsInsertion (inserts_in (take (length s) lines))
  pub gate_count : length (gates_at names behind s lines) ≡ length driven
  pub gates : AllByRecursion (IsGate (length (names_in signals))) (gates_at names behind s lines)

abbrev due_behind : List (List ℕ) → List (List ℕ) → List (List ℕ) → List Form
due_behind names behind s =
    map insert_fault s ++ word_fault (codes ".gates") ∷ map (gate_fault names) behind ++ word_fault (codes ".end") ∷ []

rest_read : (signals driven : List Signal) (s lines : List (List ℕ))
    → Fits (due_behind (names_in signals) (names_in driven) s) lines
    → Rest signals driven (names_in signals) (names_in driven) s lines
rest_read signals driven s lines fit =
    let inserts_due : List Form = map insert_fault s in
    let gates_due : List Form = word_fault (codes ".gates") ∷ map (gate_fault (names_in signals)) (names_in driven) in
    let end_due : List Form = word_fault (codes ".end") ∷ [] in
    let grouped : Fits (inserts_due ++ (gates_due ++ end_due)) lines =
    subst (λ (fs : List Form). Fits fs lines) (append_assoc inserts_due gates_due end_due) fit in
    let split = fits_map insert_fault s (gates_due ++ end_due) lines grouped in
    let inserts = inserts_read s (take (length s) lines) split.0 in
    let after = after_read signals driven (drop (length s) lines) split.1 in
    let gates = gates_read signals driven (take (length (names_in driven)) (drop 1 (drop (length s) lines))) after.0 in
    record {
      lines_are = append_assoc (map insert_line (inserts_in (take (length s) lines)))
          ((codes ".gates" ∷ []) ∷ gate_lines signals driven (gates_at (names_in signals) (names_in driven) s lines))
          ((codes ".end" ∷ []) ∷ [])
          ∙ ap₂ (λ (x y : List (List (List ℕ))). x ++ (codes ".gates" ∷ []) ∷ (y ++ (codes ".end" ∷ []) ∷ [])) inserts.0
          gates.0
          ∙ ap (λ (y : List (List (List ℕ))). map words_of (take (length s) lines) ++ y) (sym after.1)
          ∙ sym (map-append words_of (take (length s) lines) (drop (length s) lines))
          ∙ ap (map words_of) (take-append-drop (length s) lines);
      insert_names = inserts.1;
      inserts = inserts.2;
      gate_count = gates.2;
      gates = gates.1;
    }

rest_named : (signals driven : List Signal) (names behind s lines : List (List ℕ)) → names_in signals ≡ names
    → names_in driven ≡ behind → Fits (due_behind names behind s) lines → Rest signals driven names behind s lines
rest_named signals driven names behind s lines all some fit =
    subst (λ (x : List (List ℕ)). Rest signals driven x behind s lines) all
    (subst (λ (x : List (List ℕ)). Rest signals driven (names_in signals) x s lines) some
    (rest_read signals driven s lines (subst (λ (x : List (List ℕ)). Fits (due_behind x (names_in driven) s) lines)
    (sym all) (subst (λ (x : List (List ℕ)). Fits (due_behind names x s) lines) (sym some) fit))))

-- ---- the whole
abbrev Reads : ℕ → List (List ℕ) → Netlist → Type 0
Reads limit lines netlist =
    IsNetlist netlist × (length netlist.signals ≤ limit) × (netlist_lines netlist ≡ map words_of lines)

-- the netlist of what the first six lines spell, and of the lines behind them; the gates stand in the rows from
-- `gate_rows` on
abbrev pub with_rest : List ℕ → List (List ℕ) → List (List ℕ) → List (List ℕ) → List (List ℕ) → ℕ → List (List ℕ)
    → List (List ℕ) → Netlist
with_rest model i o n s start lines gate_rows = netlist_by model i o n s start (inserts_in (take (length s) lines))
    (gates_in (i ++ o ++ n ++ s) (take (length (o ++ n ++ s)) gate_rows))

pub gate_rows_at : (l0 l1 l2 l3 l4 l5 : List ℕ) (lines : List (List ℕ)) (k : ℕ)
    → drop 1 (drop k lines) ≡ drop (7 + k) (l0 ∷ l1 ∷ l2 ∷ l3 ∷ l4 ∷ l5 ∷ lines)
gate_rows_at l0 l1 l2 l3 l4 l5 lines k =
    let more : 7 + k ≡ suc (suc (suc (suc (suc (suc (k + 1)))))) = omega arith in
    rw more (drop-drop 1 k lines)

next_line : (x y : List (List ℕ)) (xs ys : List (List (List ℕ))) → x ≡ y → ys ≡ xs → y ∷ ys ≡ x ∷ xs
next_line x y xs ys e f = ap₂ (λ (w : List (List ℕ)) (ws : List (List (List ℕ))). w ∷ ws) (sym e) f

six_read : (limit : ℕ) → limit ≤ max_signals → (l0 l1 l2 l3 l4 l5 : List ℕ) (lines : List (List ℕ))
    → Fits (due_in limit (l0 ∷ l1 ∷ l2 ∷ l3 ∷ l4 ∷ l5 ∷ lines)) (l0 ∷ l1 ∷ l2 ∷ l3 ∷ l4 ∷ l5 ∷ lines)
    → Reads limit (l0 ∷ l1 ∷ l2 ∷ l3 ∷ l4 ∷ l5 ∷ lines) (netlist_of_lines (l0 ∷ l1 ∷ l2 ∷ l3 ∷ l4 ∷ l5 ∷ lines))
six_read limit small l0 l1 l2 l3 l4 l5 lines (f0, (f1, (f2, (f3, (f4, (f5, fit)))))) =
    let m : List ℕ = first_word (rest_of (words_of l0)) in
    let i : List (List ℕ) = rest_of (words_of l1) in
    let o : List (List ℕ) = rest_of (words_of l2) in
    let n : List (List ℕ) = rest_of (words_of l3) in
    let s : List (List ℕ) = rest_of (words_of l4) in
    let start : ℕ = code_of_bits (first_word (rest_of (words_of l5))) in
    let model = model_read (words_of l0) f0.1 (words_dark l0 f0.0) in
    let inputs = names_read (codes ".inputs") [] (words_of l1) f1.1 (no_names limit) in
    let outputs = names_read (codes ".outputs") i (words_of l2) f2.1 inputs.1 in
    let internals = names_read (codes ".internal") (i ++ o) (words_of l3) f3.1 outputs.1 in
    let inserted = names_read (codes ".inserted") (i ++ o ++ n) (words_of l4) f4.1 internals.1 in
    let count : length (i ++ o ++ n ++ s) ≡ length (signals_by i o n s) =
    ap length (sym (all_names i o n s)) ∙ length-map (signals_by i o n s) (λ (x : Signal). x.name) in
    let started = start_read (signals_by i o n s) (words_of l5)
    (subst (λ (k : ℕ). start_fault k (words_of l5) ≡ None) count f5.1) in
    let rest = rest_named (signals_by i o n s) (driven_by o n s) (i ++ o ++ n ++ s) (o ++ n ++ s) s lines
    (all_names i o n s) (driven_names o n s) fit in
    let inserts : List Insertion = inserts_in (take (length s) lines) in
    let gates : List Gate = gates_at (i ++ o ++ n ++ s) (o ++ n ++ s) s lines in
    subst (λ (rows : List (List ℕ)). Reads limit (l0 ∷ l1 ∷ l2 ∷ l3 ∷ l4 ∷ l5 ∷ lines)
    (with_rest m i o n s start lines rows)) (gate_rows_at l0 l1 l2 l3 l4 l5 lines (length s)) (
      is_netlist small m i o n s start inserts gates model.1 model.2 model.3 inserted.1 started.1 rest.insert_names
          rest.inserts rest.gate_count rest.gates,
      omega (arith, count, inserted.1.few),
      lines_are m i o n s start inserts gates
          ∙ next_line _ _ _ _ model.0 (next_line _ _ _ _ inputs.0 (next_line _ _ _ _ outputs.0
          (next_line _ _ _ _ internals.0 (next_line _ _ _ _ inserted.0 (next_line _ _ _ _ started.0 rest.lines_are))))),
    )

lines_read : (limit : ℕ) → limit ≤ max_signals → (lines : List (List ℕ)) → Fits (due_in limit lines) lines
    → Reads limit lines (netlist_of_lines lines)
lines_read limit small [] fit = absurd fit
lines_read limit small (l0 ∷ []) fit = absurd fit.1
lines_read limit small (l0 ∷ l1 ∷ []) fit = absurd fit.1.1
lines_read limit small (l0 ∷ l1 ∷ l2 ∷ []) fit = absurd fit.1.1.1
lines_read limit small (l0 ∷ l1 ∷ l2 ∷ l3 ∷ []) fit = absurd fit.1.1.1.1
lines_read limit small (l0 ∷ l1 ∷ l2 ∷ l3 ∷ l4 ∷ []) fit = absurd fit.1.1.1.1.1
lines_read limit small (l0 ∷ l1 ∷ l2 ∷ l3 ∷ l4 ∷ l5 ∷ lines) fit = six_read limit small l0 l1 l2 l3 l4 l5 lines fit

-- ---- the line of the version
-- lines that begin with that of version 2, each closed
version_closed : (lines : List (List ℕ)) → begins_with (codes ".version 2") lines ≡ true
    → flat_map closed lines ≡ codes ".version 2\n" ++ flat_map closed (drop 1 lines)
version_closed [] begins = absurd cc
version_closed (l ∷ ls) begins = ap (λ (first : List ℕ). closed first ++ flat_map closed ls)
    (sym ((bytes_eq-Decides (codes ".version 2") l).0 begins))

-- no version has room for more signals than there may be
pub version_small : (version : Version) → most_signals version ≤ max_signals
version_small Version1 = omega arith
version_small Version2 = omega arith

is_second : (begins : Bool) → (if begins then Version2 else Version1) ≡ Version2 → begins ≡ true
is_second true is = refl
is_second false is = cc

-- what a text without fault is, by its version
abbrev ReadsText : List ℕ → Version → Netlist → Type 0
ReadsText text version netlist = IsNetlist netlist × (length netlist.signals ≤ most_signals version)
    × (text ≡ netlist_text_in version netlist)

text_read : (text : List ℕ) (version : Version) (left : Left) → left ≡ after_version version (all_lines text)
    → version_of text ≡ version → fault_of (due_in (most_signals version) left.lines) left ≡ None
    → ReadsText text version (netlist_of_lines left.lines)
text_read text Version1 left is version none =
    let parts = fits left.number (due_in (most_signals Version1) left.lines) left.lines left.tail none in
    let read = lines_read (most_signals Version1) (version_small Version1) left.lines parts.1 in
    let tail : tail_of text ≡ [] = ap (λ (l : Left). l.tail) (sym is) ∙ parts.0 in
    let lines : ended text ≡ left.lines = ap (λ (l : Left). l.lines) (sym is) in (
      read.0,
      read.1,
      text_back text tail ∙ ap (flat_map closed) lines ∙ sym (lines_back left.lines) ∙ ap text_of (sym read.2),
    )
text_read text Version2 left is version none =
    let parts = fits left.number (due_in (most_signals Version2) left.lines) left.lines left.tail none in
    let read = lines_read (most_signals Version2) (version_small Version2) left.lines parts.1 in
    let tail : tail_of text ≡ [] = ap (λ (l : Left). l.tail) (sym is) ∙ parts.0 in
    let lines : drop 1 (ended text) ≡ left.lines = ap (λ (l : Left). l.lines) (sym is) in
    let begins : begins_with (codes ".version 2") (ended text) ≡ true = is_second _ version in (
      read.0,
      read.1,
      text_back text tail ∙ version_closed (ended text) begins
          ∙ ap (λ (ls : List (List ℕ)). codes ".version 2\n" ++ flat_map closed ls) lines
          ∙ ap (λ (rest : List ℕ). codes ".version 2\n" ++ rest)
          (sym (lines_back left.lines) ∙ ap text_of (sym read.2)),
    )

-- a text without fault spells a netlist, for which its version has room, and is the text of that netlist
pub read_is_text : (text : List ℕ) → netlist_fault text ≡ None → ReadsText text (version_of text) (netlist_of text)
unfolding netlist_fault netlist_of
read_is_text text none = text_read text (version_of text) (body text) refl refl none

pub read_is_netlist : (text : List ℕ) → netlist_fault text ≡ None → IsNetlist (netlist_of text)
read_is_netlist text none = (read_is_text text none).0
