-- The text of a netlist has no fault, and spells that netlist.
use Rattle.std.proofs.Common.{◌≡◌, ◌≢◌, ℕ, ◌≤◌, true, false, not, List, [], ◌∷◌, ◌++◌, length, map, take, drop}
use Rattle.std.proofs.Common.{All, AllPairs, refl, sym, ap, ap₂, subst, ◌∙◌, arith, codes, None, suc}
use Rattle.std.proofs.Common.{append_assoc}
use Rattle.std.proofs.lemmas.Bool.{or_from, and_parts, leb-true, le-leb, not_from_true, and_from}
use Rattle.std.proofs.lemmas.List.{length-map, map-append, take_at, drop_at}
use Rattle.std.proofs.lemmas.List.Elements.{recursion_from_All, All-filter}
use Rattle.std.specs.List.{AllByRecursion, list_any, join_with_byte}
use Rattle.si_base.specs.declared.graph.Signal.{Signal}
use Rattle.si_base.specs.declared.graph.SigKind.TheVariants.{Input, Output, Internal, Inserted}
use Rattle.si_base.specs.Graph.{is_driven, kind_place, names_in}
use Rattle.si_base.specs.Netlist.{Gate, Insertion, Netlist}
use Rattle.si_base.specs.NetlistText.{Version, Version1, Version2, version_lines, most_signals, names_of}
use Rattle.si_base.specs.NetlistText.{netlist_lines, netlist_text_in, insert_line, gate_words, bits_from, word_if_any}
use Rattle.si_base.specs.GivenGraph.{signals_of}
use Rattle.si_base.specs.Words.{text_of, is_signal_name, is_between}
use Rattle.si_base.specs.WellFormed.{IsGate, IsInsertion, IsNetlist}
use Rattle.si_base.proofs.WordLemmas.{AreClean, LinesClean, clean_word, words_without}
use Rattle.si_base.proofs.LinesUnsplit.{split-join}
use Rattle.si_words.proofs.KindLemmas.{one_kind_after_another}
use Rattle.si_netlist_reader.specs.NetlistFault.{due, due_in, netlist_fault, version_of, after_version, insert_fault}
use Rattle.si_netlist_reader.specs.NetlistFault.{word_fault}
use Rattle.si_words.specs.Lines.{Form, words_of, rest_of, has_bad_byte_here}
use Rattle.si_words.specs.Rows.{Left, all_lines, begins_with, fault_of}
use Rattle.si_netlist_reader.specs.GateParts.{gate_fault, gate_of}
use Rattle.si_netlist_reader.specs.NetlistValue.{insertion_of, first_word, code_of_bits, netlist_of}
use Rattle.si_netlist_reader.specs.NetlistValue.{netlist_of_lines}
use Rattle.si_netlist_reader.proofs.LawFitLemmas.{Fits, no_fault}
use Rattle.si_netlist_reader.proofs.LawTextLemmas.{IsDark, ended_text, tail_text}
use Rattle.si_netlist_reader.proofs.LawLineLemmas.{AreNames}
use Rattle.si_netlist_reader.proofs.LawKindLemmas.{signals_by, driven_by, netlist_by, lines_by, lines_are, gate_lines}
use Rattle.si_netlist_reader.proofs.LawKindLemmas.{inserted_of, driven_of, all_names, driven_names}
use Rattle.si_netlist_reader.proofs.LawWrittenGateLemmas.{AreDark, gate_written}
use Rattle.si_netlist_reader.proofs.LawWrittenGateLemmas.{gate_line_good, gate_spelled, dark_name}
use Rattle.si_netlist_reader.proofs.LawWrittenLineLemmas.{model_good, names_good, front_names, signals_named}
use Rattle.si_netlist_reader.proofs.LawWrittenLineLemmas.{start_good, start_dark, start_spelled, insert_good}
use Rattle.si_netlist_reader.proofs.ReadLaw.{gates_in, inserts_in, with_rest, gate_rows_at}

-- ---- the signals of each kind, one kind after another
by_kinds : (xs : List Signal) → AllPairs (λ (x y : Signal). kind_place x.kind ≤ kind_place y.kind) xs
    → xs ≡ signals_by (names_of Input xs) (names_of Output xs) (names_of Internal xs) (names_of Inserted xs)
by_kinds xs pairs = one_kind_after_another xs pairs
    ∙ sym (append_assoc (signals_of Input (names_of Input xs) ++ signals_of Output (names_of Output xs))
    (signals_of Internal (names_of Internal xs)) (signals_of Inserted (names_of Inserted xs))
    ∙ append_assoc (signals_of Input (names_of Input xs)) (signals_of Output (names_of Output xs))
    (signals_of Internal (names_of Internal xs) ++ signals_of Inserted (names_of Inserted xs)))

-- ---- lines of words that pass, and the lines of a text that they are joined to
abbrev Passes : List Form → List (List (List ℕ)) → Type 0
Passes [] [] = Unit {0}
Passes [] (l ∷ ls) = ⊥
Passes (f ∷ fs) [] = ⊥
Passes (f ∷ fs) (ws ∷ ls) = ((f ws ≡ None) × AreDark ws × (ws ≢ [])) × Passes fs ls

passes_append : (fs gs : List Form) (ks ls : List (List (List ℕ))) → Passes fs ks → Passes gs ls
    → Passes (fs ++ gs) (ks ++ ls)
passes_append [] gs [] ls one other = other
passes_append [] gs (k ∷ ks) ls one other = absurd one
passes_append (f ∷ fs) gs [] ls one other = absurd one
passes_append (f ∷ fs) gs (k ∷ ks) ls one other = (one.0, passes_append fs gs ks ls one.1 other)

clean_words : (words : List (List ℕ)) → AreDark words → AreClean words
clean_words [] dark = tt
clean_words (w ∷ ws) dark = (clean_word (is_between 33 126) w refl refl dark.0, clean_words ws dark.1)

line_words : (words : List (List ℕ)) → AreDark words → words ≢ [] → words_of (join_with_byte 32 words) ≡ words
line_words [] dark some = absurd (some refl)
line_words (w ∷ ws) dark some = split-join 32 w ws (words_without (w ∷ ws) (clean_words (w ∷ ws) dark))

abbrev Fine : List ℕ → Type 0
Fine bytes = list_any (λ b. not (is_between 32 126 b)) bytes ≡ false

fine_byte : (b : ℕ) → is_between 33 126 b ≡ true → not (is_between 32 126 b) ≡ false
fine_byte b dark =
    let parts = and_parts _ _ dark in
    let low : 33 ≤ b = leb-true 33 b parts.0 in
    not_from_true _ (and_from _ _ (le-leb 32 b (omega arith)) parts.1)

fine_word : (w rest : List ℕ) → IsDark w → Fine rest → Fine (w ++ rest)
fine_word [] rest dark fine = fine
fine_word (b ∷ bs) rest dark fine =
    let each = and_parts (is_between 33 126 b) _ dark in
    or_from _ _ (fine_byte b each.0) (fine_word bs rest each.1 fine)

fine_alone : (w : List ℕ) → IsDark w → Fine w
fine_alone [] dark = refl
fine_alone (b ∷ bs) dark =
    let each = and_parts (is_between 33 126 b) _ dark in
    or_from _ _ (fine_byte b each.0) (fine_alone bs each.1)

fine_line : (words : List (List ℕ)) → AreDark words → has_bad_byte_here (join_with_byte 32 words) ≡ false
fine_line [] dark = refl
fine_line (w ∷ []) dark = fine_alone w dark.0
fine_line (w ∷ v ∷ ws) dark = fine_word w (32 ∷ join_with_byte 32 (v ∷ ws)) dark.0 (fine_line (v ∷ ws) dark.1)

fits_joined : (forms : List Form) (lines : List (List (List ℕ))) → Passes forms lines
    → Fits forms (map (join_with_byte 32) lines)
fits_joined [] [] pass = tt
fits_joined [] (l ∷ ls) pass = absurd pass
fits_joined (f ∷ fs) [] pass = absurd pass
fits_joined (f ∷ fs) (ws ∷ ls) pass = (
  (fine_line ws pass.0.1, subst (λ (x : List (List ℕ)). f x ≡ None) (sym (line_words ws pass.0.1 pass.0.2)) pass.0.0),
  fits_joined fs ls pass.1,
)

clean_lines : (forms : List Form) (lines : List (List (List ℕ))) → Passes forms lines → LinesClean lines
clean_lines [] [] pass = tt
clean_lines [] (l ∷ ls) pass = absurd pass
clean_lines (f ∷ fs) [] pass = absurd pass
clean_lines (f ∷ fs) (ws ∷ ls) pass = (clean_words ws pass.0.1, clean_lines fs ls pass.1)

-- ---- gate lines and `.insert` lines
gates_pass : {limit : ℕ} (signals driven : List Signal) (gates : List Gate)
    → AreNames limit (names_in signals) → AllByRecursion (λ (x : Signal). is_signal_name x.name ≡ true) driven
    → length gates ≡ length driven → AllByRecursion (IsGate (length (names_in signals))) gates
    → Passes (map (gate_fault (names_in signals)) (names_in driven)) (gate_lines signals driven gates)
gates_pass signals [] [] are named count is = tt
gates_pass signals [] (g ∷ gs) are named count is = absurd (omega arith)
gates_pass signals (x ∷ xs) [] are named count is = absurd (omega arith)
gates_pass signals (x ∷ xs) (g ∷ gs) are named count is =
    let written = gate_written signals are g is.0 in (
      (gate_line_good signals x.name g written, (dark_name x.name named.0, written.dark), λ none. cc),
      gates_pass signals xs gs are named.1 (omega arith) is.1,
    )

gates_spelled : {limit : ℕ} (signals driven : List Signal) (gates : List Gate)
    → AreNames limit (names_in signals) → AllByRecursion (λ (x : Signal). is_signal_name x.name ≡ true) driven
    → length gates ≡ length driven → AllByRecursion (IsGate (length (names_in signals))) gates
    → gates_in (names_in signals) (map (join_with_byte 32) (gate_lines signals driven gates)) ≡ gates
gates_spelled signals [] [] are named count is = refl
gates_spelled signals [] (g ∷ gs) are named count is = absurd (omega arith)
gates_spelled signals (x ∷ xs) [] are named count is = absurd (omega arith)
gates_spelled signals (x ∷ xs) (g ∷ gs) are named count is =
    let written = gate_written signals are g is.0 in
    let words = line_words (x.name ∷ gate_words signals g) (dark_name x.name named.0, written.dark) (λ none. cc) in
    ap₂ (λ (a : Gate) (b : List Gate). a ∷ b)
    (ap (λ (ws : List (List ℕ)). gate_of (names_in signals) (rest_of ws)) words ∙ gate_spelled signals g written)
    (gates_spelled signals xs gs are named.1 (omega arith) is.1)

gates_many : (signals driven : List Signal) (gates : List Gate) → length gates ≡ length driven
    → length (map (join_with_byte 32) (gate_lines signals driven gates)) ≡ length driven
gates_many signals [] [] count = refl
gates_many signals [] (g ∷ gs) count = absurd (omega arith)
gates_many signals (x ∷ xs) [] count = absurd (omega arith)
gates_many signals (x ∷ xs) (g ∷ gs) count = ap suc (gates_many signals xs gs (omega arith))

abbrev Called : List Insertion → Type 0
Called inserts = AllByRecursion (λ (x : Insertion). IsDark x.name) inserts

inserts_pass : (inserts : List Insertion) → AllByRecursion IsInsertion inserts → Called inserts
    → Passes (map insert_fault (map (λ (x : Insertion). x.name) inserts)) (map insert_line inserts)
inserts_pass [] are called = tt
inserts_pass (x ∷ xs) are called =
    let good = insert_good x are.0 called.0 in
    ((good.0, good.2, λ none. cc), inserts_pass xs are.1 called.1)

inserts_spelled : (inserts : List Insertion) → AllByRecursion IsInsertion inserts → Called inserts
    → inserts_in (map (join_with_byte 32) (map insert_line inserts)) ≡ inserts
inserts_spelled [] are called = refl
inserts_spelled (x ∷ xs) are called =
    let good = insert_good x are.0 called.0 in
    ap₂ (λ (a : Insertion) (b : List Insertion). a ∷ b)
    (ap insertion_of (line_words (insert_line x) good.2 (λ none. cc)) ∙ good.1) (inserts_spelled xs are.1 called.1)

-- ---- the lines behind the first six
rest_pass : {limit : ℕ} (signals driven : List Signal) (inserts : List Insertion) (gates : List Gate)
    (names behind s : List (List ℕ)) → names_in signals ≡ names → names_in driven ≡ behind
    → map (λ (x : Insertion). x.name) inserts ≡ s → AreNames limit (names_in signals)
    → AllByRecursion (λ (x : Signal). is_signal_name x.name ≡ true) driven → length gates ≡ length driven
    → AllByRecursion (IsGate (length (names_in signals))) gates → AllByRecursion IsInsertion inserts → Called inserts
    → Passes (map insert_fault s ++ word_fault (codes ".gates") ∷ map (gate_fault names) behind
    ++ word_fault (codes ".end") ∷ [])
    (map insert_line inserts ++ (codes ".gates" ∷ []) ∷ gate_lines signals driven gates ++ (codes ".end" ∷ []) ∷ [])
rest_pass signals driven inserts gates names behind s all some called_s are named count is_gates is_inserts called =
    let lines : List (List (List ℕ)) =
    map insert_line inserts ++ (codes ".gates" ∷ []) ∷ gate_lines signals driven gates ++ (codes ".end" ∷ []) ∷ [] in
    let forms : List (List ℕ) → List (List ℕ) → List (List ℕ) → List Form =
    λ a b c. map insert_fault c ++ word_fault (codes ".gates") ∷ map (gate_fault a) b
    ++ word_fault (codes ".end") ∷ [] in
    let called_words : List (List ℕ) = map (λ (x : Insertion). x.name) inserts in
    let gates_due : List Form = word_fault (codes ".gates") ∷ map (gate_fault (names_in signals)) (names_in driven) in
    let gate_rows : List (List (List ℕ)) = (codes ".gates" ∷ []) ∷ gate_lines signals driven gates in
    let gates_good : Passes gates_due gate_rows =
    ((refl, (refl, tt), λ none. cc), gates_pass signals driven gates are named count is_gates) in
    let all_good : Passes (map insert_fault called_words ++ gates_due) (map insert_line inserts ++ gate_rows) =
    passes_append (map insert_fault called_words) gates_due (map insert_line inserts) gate_rows
    (inserts_pass inserts is_inserts called) gates_good in
    let pass : Passes (forms (names_in signals) (names_in driven) called_words) lines =
    passes_append (map insert_fault called_words ++ gates_due) (word_fault (codes ".end") ∷ [])
    (map insert_line inserts ++ gate_rows) ((codes ".end" ∷ []) ∷ []) all_good ((refl, (refl, tt), λ none. cc), tt) in
    subst (λ (a : List (List ℕ)). Passes (forms a behind s) lines) all
    (subst (λ (b : List (List ℕ)). Passes (forms (names_in signals) b s) lines) some
    (subst (λ (c : List (List ℕ)). Passes (forms (names_in signals) (names_in driven) c) lines) called_s pass))

-- two runs of lines with one line between them
first_run : (rows front between rest : List (List ℕ)) (g : List ℕ) (k : ℕ) → length front ≡ k
    → rows ≡ front ++ g ∷ (between ++ rest) → take k rows ≡ front
first_run rows front between rest g k count are = ap (take k) are ∙ take_at front (g ∷ (between ++ rest)) k count

second_run : (rows front between rest : List (List ℕ)) (g : List ℕ) (k m : ℕ) → length front ≡ k → length between ≡ m
    → rows ≡ front ++ g ∷ (between ++ rest) → take m (drop 1 (drop k rows)) ≡ between
second_run rows front between rest g k m count many are = ap (λ (r : List (List ℕ)). take m (drop 1 (drop k r))) are
    ∙ ap (λ (r : List (List ℕ)). take m (drop 1 r)) (drop_at front (g ∷ (between ++ rest)) k count)
    ∙ take_at between rest m many

rows_are : (front between : List (List (List ℕ))) (g e : List (List ℕ))
    → map (join_with_byte 32) (front ++ g ∷ between ++ e ∷ []) ≡ map (join_with_byte 32) front
    ++ join_with_byte 32 g ∷ (map (join_with_byte 32) between ++ join_with_byte 32 e ∷ [])
rows_are front between g e =
    ap (map (join_with_byte 32)) (append_assoc front (g ∷ between) (e ∷ []))
    ∙ map-append (join_with_byte 32) front (g ∷ (between ++ e ∷ []))
    ∙ ap (λ (x : List (List ℕ)). map (join_with_byte 32) front ++ join_with_byte 32 g ∷ x)
    (map-append (join_with_byte 32) between (e ∷ []))

six_spelled : (l0 l1 l2 l3 l4 l5 : List ℕ) (rows : List (List ℕ)) (model : List ℕ) (i o n s : List (List ℕ)) (start : ℕ)
    (inserts : List Insertion) (gates : List Gate)
    → first_word (rest_of (words_of l0)) ≡ model → rest_of (words_of l1) ≡ i
    → rest_of (words_of l2) ≡ o → rest_of (words_of l3) ≡ n → rest_of (words_of l4) ≡ s
    → code_of_bits (first_word (rest_of (words_of l5))) ≡ start
    → inserts_in (take (length s) rows) ≡ inserts
    → gates_in (i ++ o ++ n ++ s) (take (length (o ++ n ++ s)) (drop 1 (drop (length s) rows))) ≡ gates
    → netlist_of_lines (l0 ∷ l1 ∷ l2 ∷ l3 ∷ l4 ∷ l5 ∷ rows) ≡ netlist_by model i o n s start inserts gates
six_spelled l0 l1 l2 l3 l4 l5 rows model i o n s start inserts gates e0 e1 e2 e3 e4 e5 ei eg =
    let m' : List ℕ = first_word (rest_of (words_of l0)) in
    let i' : List (List ℕ) = rest_of (words_of l1) in
    let o' : List (List ℕ) = rest_of (words_of l2) in
    let n' : List (List ℕ) = rest_of (words_of l3) in
    let s' : List (List ℕ) = rest_of (words_of l4) in
    let st' : ℕ = code_of_bits (first_word (rest_of (words_of l5))) in
    let all : List ℕ → List (List ℕ) → List (List ℕ) → List (List ℕ) → List (List ℕ) → ℕ → Netlist =
    λ m a b c d st. with_rest m a b c d st rows (drop 1 (drop (length d) rows)) in
    sym (ap (λ (r : List (List ℕ)). with_rest m' i' o' n' s' st' rows r)
    (gate_rows_at l0 l1 l2 l3 l4 l5 rows (length s')))
    ∙ ap₂ (λ (a : List ℕ) (b : List (List ℕ)). all a b o' n' s' st') e0 e1
    ∙ ap₂ (λ (a b : List (List ℕ)). all model i a b s' st') e2 e3
    ∙ ap₂ (λ (a : List (List ℕ)) (b : ℕ). all model i o n a b) e4 e5
    ∙ ap₂ (λ (a : List Insertion) (b : List Gate). netlist_by model i o n s start a b) ei eg

due_same : (limit : ℕ) (l0 l1 l2 l3 l4 l5 : List ℕ) (rows : List (List ℕ)) (i o n s : List (List ℕ))
    → rest_of (words_of l1) ≡ i → rest_of (words_of l2) ≡ o → rest_of (words_of l3) ≡ n → rest_of (words_of l4) ≡ s
    → due limit i o n s ≡ due_in limit (l0 ∷ l1 ∷ l2 ∷ l3 ∷ l4 ∷ l5 ∷ rows)
due_same limit l0 l1 l2 l3 l4 l5 rows i o n s e1 e2 e3 e4 =
    sym (ap₂ (λ (a b : List (List ℕ)). due limit a b (rest_of (words_of l3)) (rest_of (words_of l4))) e1 e2
    ∙ ap₂ (λ (a b : List (List ℕ)). due limit i o a b) e3 e4)

-- ---- the text of lines, in each version
abbrev text_by : Version → List (List (List ℕ)) → List ℕ
text_by version lines = text_of (version_lines version ++ lines)

abbrev rows_of : List (List (List ℕ)) → List (List ℕ)
rows_of lines = map (join_with_byte 32) lines

version_is : (version : Version) (lines : List (List (List ℕ))) → LinesClean lines
    → begins_with (codes ".version 2") (rows_of lines) ≡ false → version_of (text_by version lines) ≡ version
version_is Version1 lines clean other = rw (ended_text lines clean, other) refl
version_is Version2 lines clean other = refl

-- after the line of the version these rows are left, and nothing behind them
body_is : (version : Version) (lines : List (List (List ℕ))) → LinesClean lines
    → (number : ℕ) × (after_version version (all_lines (text_by version lines))
    ≡ record { number = number; lines = rows_of lines; tail = [] })
body_is Version1 lines clean =
    let left : List (List ℕ) → List ℕ → Left = λ rows tail. record { number = 1; lines = rows; tail = tail } in
    (1, ap₂ left (ended_text lines clean) (tail_text lines clean))
body_is Version2 lines clean =
    let left : List (List ℕ) → List ℕ → Left = λ rows tail. record { number = 2; lines = rows; tail = tail } in
    (2, ap₂ left (ended_text lines clean) (tail_text lines clean))

text_good : (version : Version) (lines : List (List (List ℕ)))
    → LinesClean lines → begins_with (codes ".version 2") (rows_of lines) ≡ false
    → Fits (due_in (most_signals version) (rows_of lines)) (rows_of lines)
    → netlist_fault (text_by version lines) ≡ None
unfolding netlist_fault
text_good version lines clean other fit =
    let all : Left = all_lines (text_by version lines) in
    let left = body_is version lines clean in
    ap (λ (v : Version). fault_of (due_in (most_signals v) (after_version v all).lines) (after_version v all))
    (version_is version lines clean other)
    ∙ ap (λ (l : Left). fault_of (due_in (most_signals version) l.lines) l) left.1
    ∙ no_fault left.0 (due_in (most_signals version) (rows_of lines)) (rows_of lines) fit

text_spelled : (version : Version) (lines : List (List (List ℕ)))
    → LinesClean lines → begins_with (codes ".version 2") (rows_of lines) ≡ false
    → netlist_of (text_by version lines) ≡ netlist_of_lines (rows_of lines)
unfolding netlist_of
text_spelled version lines clean other =
    ap (λ (v : Version). netlist_of_lines (after_version v (all_lines (text_by version lines))).lines)
    (version_is version lines clean other)
    ∙ ap (λ (l : Left). netlist_of_lines l.lines) (body_is version lines clean).1

abbrev Reads : Version → Netlist → Type 0
Reads version n = (version_of (netlist_text_in version n) ≡ version)
    × (netlist_fault (netlist_text_in version n) ≡ None) × (netlist_of (netlist_text_in version n) ≡ n)

whole : (version : Version) (n : Netlist) (lines : List (List (List ℕ))) → netlist_lines n ≡ lines
    → LinesClean lines → begins_with (codes ".version 2") (rows_of lines) ≡ false
    → Fits (due_in (most_signals version) (rows_of lines)) (rows_of lines)
    → netlist_of_lines (rows_of lines) ≡ n → Reads version n
whole version n lines are clean other fit spelled = (
  ap (λ (ls : List (List (List ℕ))). version_of (text_by version ls)) are ∙ version_is version lines clean other,
  ap (λ (ls : List (List (List ℕ))). netlist_fault (text_by version ls)) are ∙ text_good version lines clean other fit,
  ap (λ (ls : List (List (List ℕ))). netlist_of (text_by version ls)) are
      ∙ text_spelled version lines clean other ∙ spelled,
)

-- ---- names of parts
rear : (P : List ℕ → Type 0) (xs ys : List (List ℕ)) → AllByRecursion P (xs ++ ys) → AllByRecursion P ys
rear P [] ys all = all
rear P (x ∷ xs) ys all = rear P xs ys all.1

front : (P : List ℕ → Type 0) (xs ys : List (List ℕ)) → AllByRecursion P (xs ++ ys) → AllByRecursion P xs
front P [] ys all = tt
front P (x ∷ xs) ys all = (all.0, front P xs ys all.1)

dark_names : (names : List (List ℕ)) → AllByRecursion (λ w. is_signal_name w ≡ true) names → AreDark names
dark_names [] all = tt
dark_names (n ∷ ns) all = (dark_name n all.0, dark_names ns all.1)

called_by : (inserts : List Insertion) → AreDark (map (λ (x : Insertion). x.name) inserts) → Called inserts
called_by [] all = tt
called_by (x ∷ xs) all = (all.0, called_by xs all.1)

parts_written : (version : Version) (model : List ℕ) (i o n s : List (List ℕ)) (start : ℕ)
    (inserts : List Insertion) (gates : List Gate) → IsNetlist (netlist_by model i o n s start inserts gates)
    → length (signals_by i o n s) ≤ most_signals version → Reads version (netlist_by model i o n s start inserts gates)
parts_written version model i o n s start inserts gates is room =
    let signals : List Signal = signals_by i o n s in
    let driven : List Signal = driven_by o n s in
    let limit : ℕ = most_signals version in
    let named : AreNames limit (names_in signals) = signals_named signals is.names is.distinct room in
    let many : length (names_in signals) ≡ length signals = length-map signals (λ (x : Signal). x.name) in
    let names : AreNames limit (i ++ o ++ n ++ s) = subst (AreNames limit) (all_names i o n s) named in
    let names3 = front_names (i ++ o ++ n) s names in
    let names2 = front_names (i ++ o) n names3 in
    let names1 = front_names i o names2 in
    let Good : List ℕ → Type 0 = λ w. is_signal_name w ≡ true in
    let good : AllByRecursion Good (i ++ o ++ n ++ s) = recursion_from_All Good (i ++ o ++ n ++ s) names.good in
    let good3 = front Good (i ++ o ++ n) s good in
    let good2 = front Good (i ++ o) n good3 in
    let dark_i = dark_names i (front Good i o good2) in
    let dark_o = dark_names o (rear Good i o good2) in
    let dark_n = dark_names n (rear Good (i ++ o) n good3) in
    let dark_s = dark_names s (rear Good (i ++ o ++ n) s good) in
    let good_driven : AllByRecursion (λ (x : Signal). is_signal_name x.name ≡ true) driven =
    recursion_from_All (λ (x : Signal). is_signal_name x.name ≡ true) driven
    (subst (All (λ (x : Signal). is_signal_name x.name ≡ true)) (driven_of i o n s) (All-filter
    (λ (x : Signal). is_driven x.kind) (λ (x : Signal). is_signal_name x.name ≡ true) signals is.names)) in
    let insert_names : map (λ (x : Insertion). x.name) inserts ≡ s = is.insert_names ∙ inserted_of i o n s in
    let called : Called inserts = called_by inserts (subst AreDark (sym insert_names) dark_s) in
    let is_inserts : AllByRecursion IsInsertion inserts = recursion_from_All IsInsertion inserts is.inserts in
    let count : length gates ≡ length driven = is.gate_count ∙ ap length (driven_of i o n s) in
    let is_gates : AllByRecursion (IsGate (length (names_in signals))) gates =
    subst (λ (k : ℕ). AllByRecursion (IsGate k) gates) (sym many)
    (recursion_from_All (IsGate (length signals)) gates is.gates) in
    let bits : List (List ℕ) = word_if_any (bits_from 0 signals start) in
    let model_dark : AreDark (codes ".model" ∷ model ∷ []) = (refl, (is.model.bytes, tt)) in
    let e0 = line_words (codes ".model" ∷ model ∷ []) model_dark (λ none. cc) in
    let e1 = line_words (codes ".inputs" ∷ i) (refl, dark_i) (λ none. cc) in
    let e2 = line_words (codes ".outputs" ∷ o) (refl, dark_o) (λ none. cc) in
    let e3 = line_words (codes ".internal" ∷ n) (refl, dark_n) (λ none. cc) in
    let e4 = line_words (codes ".inserted" ∷ s) (refl, dark_s) (λ none. cc) in
    let e5 = line_words (codes ".start" ∷ bits) (refl, start_dark start signals) (λ none. cc) in
    let lines : List (List (List ℕ)) = lines_by model i o n s start inserts gates in
    let runs : List (List (List ℕ)) =
    map insert_line inserts ++ (codes ".gates" ∷ []) ∷ gate_lines signals driven gates ++ (codes ".end" ∷ []) ∷ [] in
    let rows : List (List ℕ) = map (join_with_byte 32) runs in
    let rest = rest_pass signals driven inserts gates (i ++ o ++ n ++ s) (o ++ n ++ s) s (all_names i o n s)
    (driven_names o n s) insert_names named good_driven count is_gates is_inserts called in
    let size : length (i ++ o ++ n ++ s) ≡ length signals = ap length (sym (all_names i o n s)) ∙ many in
    let pass : Passes (due limit i o n s) lines = (
      (model_good model is.model is.no_brace.0 is.no_brace.1, model_dark, λ none. cc),
      (
        (names_good (codes ".inputs") [] i names1, (refl, dark_i), λ none. cc),
        (
          (names_good (codes ".outputs") i o names2, (refl, dark_o), λ none. cc),
          (
            (names_good (codes ".internal") (i ++ o) n names3, (refl, dark_n), λ none. cc),
            (
              (names_good (codes ".inserted") (i ++ o ++ n) s names, (refl, dark_s), λ none. cc),
              (
                (
                  start_good signals start (length (i ++ o ++ n ++ s)) size,
                  (refl, start_dark start signals),
                  λ none. cc,
                ),
                rest,
              ),
            ),
          ),
        ),
      ),
    ) in
    let l0 : List ℕ = join_with_byte 32 (codes ".model" ∷ model ∷ []) in
    let l1 : List ℕ = join_with_byte 32 (codes ".inputs" ∷ i) in
    let l2 : List ℕ = join_with_byte 32 (codes ".outputs" ∷ o) in
    let l3 : List ℕ = join_with_byte 32 (codes ".internal" ∷ n) in
    let l4 : List ℕ = join_with_byte 32 (codes ".inserted" ∷ s) in
    let l5 : List ℕ = join_with_byte 32 (codes ".start" ∷ bits) in
    let c1 = ap rest_of e1 in
    let c2 = ap rest_of e2 in
    let c3 = ap rest_of e3 in
    let c4 = ap rest_of e4 in
    let front_rows : List (List ℕ) = map (join_with_byte 32) (map insert_line inserts) in
    let gate_rows : List (List ℕ) = map (join_with_byte 32) (gate_lines signals driven gates) in
    let rows_split = rows_are (map insert_line inserts) (gate_lines signals driven gates)
    (codes ".gates" ∷ []) (codes ".end" ∷ []) in
    let last : List (List ℕ) = join_with_byte 32 (codes ".end" ∷ []) ∷ [] in
    let gates_line : List ℕ = join_with_byte 32 (codes ".gates" ∷ []) in
    let many_inserts : length front_rows ≡ length s =
    length-map (map insert_line inserts) (join_with_byte 32) ∙ length-map inserts insert_line
    ∙ sym (length-map inserts (λ (x : Insertion). x.name)) ∙ ap length insert_names in
    let many_gates : length gate_rows ≡ length (o ++ n ++ s) =
    gates_many signals driven gates count ∙ sym (length-map driven (λ (x : Signal). x.name))
    ∙ ap length (driven_names o n s) in
    let first = first_run rows front_rows gate_rows last gates_line (length s) many_inserts rows_split in
    let second = second_run rows front_rows gate_rows last gates_line (length s)
    (length (o ++ n ++ s)) many_inserts many_gates rows_split in
    let spelled_inserts = ap inserts_in first ∙ inserts_spelled inserts is_inserts called in
    let spelled_gates = ap₂ gates_in (sym (all_names i o n s)) second
    ∙ gates_spelled signals driven gates named good_driven count is_gates in
    whole version (netlist_by model i o n s start inserts gates) lines (lines_are model i o n s start inserts gates)
    (clean_lines (due limit i o n s) lines pass) refl
    (subst (λ (fs : List Form). Fits fs (map (join_with_byte 32) lines))
    (due_same limit l0 l1 l2 l3 l4 l5 rows i o n s c1 c2 c3 c4) (fits_joined (due limit i o n s) lines pass))
    (six_spelled l0 l1 l2 l3 l4 l5 rows model i o n s start inserts gates
    (ap (λ (ws : List (List ℕ)). first_word (rest_of ws)) e0) c1 c2 c3 c4
    (ap (λ (ws : List (List ℕ)). code_of_bits (first_word (rest_of ws))) e5 ∙ start_spelled signals start is.start)
    spelled_inserts spelled_gates)

-- in a version with room for its signals the text of a netlist has no fault, and spells the netlist
pub written_reads : (version : Version) (n : Netlist) → IsNetlist n
    → length n.signals ≤ most_signals version → Reads version n
written_reads version n is room =
    let i : List (List ℕ) = names_of Input n.signals in
    let o : List (List ℕ) = names_of Output n.signals in
    let m : List (List ℕ) = names_of Internal n.signals in
    let s : List (List ℕ) = names_of Inserted n.signals in
    let make : List Signal → Netlist = λ signals. record {
      model = n.model;
      signals = signals;
      start = n.start;
      inserts = n.inserts;
      gates = n.gates;
    } in
    let by_kind : n.signals ≡ signals_by i o m s = by_kinds n.signals is.kinds in
    let same : n ≡ netlist_by n.model i o m s n.start n.inserts n.gates = ap make by_kind in
    let fits_room : length (signals_by i o m s) ≤ most_signals version =
    subst (λ (signals : List Signal). length signals ≤ most_signals version) by_kind room in
    subst (Reads version) (sym same)
    (parts_written version n.model i o m s n.start n.inserts n.gates (subst IsNetlist same is) fits_room)

-- no text is of two netlists
pub one_netlist : (v w : Version) (n m : Netlist) → IsNetlist n → IsNetlist m → length n.signals ≤ most_signals v
    → length m.signals ≤ most_signals w → netlist_text_in v n ≡ netlist_text_in w m → (v ≡ w) × (n ≡ m)
one_netlist v w n m is also room also_room same =
    let one = written_reads v n is room in
    let other = written_reads w m also also_room in
    (sym one.0 ∙ ap version_of same ∙ other.0, sym one.2 ∙ ap netlist_of same ∙ other.2)
