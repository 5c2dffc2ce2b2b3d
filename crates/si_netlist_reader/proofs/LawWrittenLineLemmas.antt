-- The other lines that are written have no fault, and spell what was written.
use Rattle.std.proofs.Common.{IsTrue, if◌then◌else◌, zero, suc, ◌≡◌, ◌≢◌, ℕ, ◌+◌, ◌*◌, ◌%◌, ◌^◌, ◌<◌, ◌≤◌, ◌==◌, Bool}
use Rattle.std.proofs.Common.{true, false, List, [], ◌∷◌, ◌++◌, length, get_or, All, AllPairs, refl, sym, ap, subst}
use Rattle.std.proofs.Common.{◌∙◌, inl, inr, arith, codes, bytes_eq, nat_le, Some, None, eqb-true, eq-eqb, append_assoc}
use Rattle.std.proofs.lemmas.Bool.{cases_Bool, true≢false, and_from, or_from, not_from_false, lt-leb, eqb-false}
use Rattle.std.proofs.lemmas.Bool.{false_from_ne_true}
use Rattle.std.proofs.lemmas.List.{length-map, length-append, get_or_at, get_or_append_left, get_or-map, get_or_default}
use Rattle.std.proofs.lemmas.List.Elements.{recursion_from_All, All-map}
use Rattle.std.proofs.lemmas.List.Folds.{Any-from_list_any}
use Rattle.std.proofs.lemmas.Nat.Bits.{bit_at_lowest, bit_at-lt, same_from_bits_below}
use Rattle.std.proofs.lemmas.Slice.Eq.{bytes_eq-Decides}
use Rattle.std.specs.Int.{bit_at}
use Rattle.std.specs.List.{AllByRecursion, list_all, list_any}
use Rattle.si_base.specs.Bits.{bit}
use Rattle.si_base.specs.declared.graph.Signal.{Signal}
use Rattle.si_base.specs.declared.graph.SigKind.TheVariants.{Input}
use Rattle.si_base.specs.Faults.{first_after}
use Rattle.si_base.specs.Netlist.{Insertion}
use Rattle.si_base.specs.NetlistText.{insert_line, bits_from, word_if_any}
use Rattle.si_base.specs.Words.{is_signal_name, is_between}
use Rattle.si_base.specs.WellFormed.{IsWord, IsInsertion}
use Rattle.si_base.specs.Graph.{names_in}
use Rattle.si_words.specs.Names.{stands_in, name_fault}
use Rattle.si_words.specs.Sums.{is_empty}
use Rattle.si_netlist_reader.specs.NetlistFault.{model_fault, is_model_word, start_fault, insert_fault, are_both_lists}
use Rattle.si_words.specs.Lines.{names_fault}
use Rattle.si_words.proofs.NameWords.{same_bytes}
use Rattle.si_netlist_reader.specs.NetlistValue.{insertion_with, insertion_of, first_word, code_of_bits}
use Rattle.si_netlist_reader.proofs.LawTextLemmas.{IsDark}
use Rattle.si_netlist_reader.proofs.LawLineLemmas.{AreNames, bit_next, code_fits_bits, Listed}
use Rattle.si_tokens.proofs.CutLemmas.{Unlike, cut_made}
use Rattle.si_netlist_reader.proofs.LawWrittenGateLemmas.{AreDark}
use Rattle.si_tokens.proofs.SumPartLemmas.{append_all}

not_empty : {A : Type 0} (xs : List A) → 0 < length xs → is_empty xs ≡ false
not_empty [] some = absurd (omega arith)
not_empty (x ∷ xs) some = refl

differs : (mark w : List ℕ) → w ≢ mark → bytes_eq mark w ≡ false
differs mark w other = false_from_ne_true _ (λ same. other (sym ((bytes_eq-Decides mark w).0 same)))

-- ---- the model
pub model_good : (model : List ℕ) → IsWord model → model ≢ 123 ∷ [] → model ≢ 125 ∷ []
    → model_fault (codes ".model" ∷ model ∷ []) ≡ None
model_good model is no_open no_close =
    let word : is_model_word model ≡ true =
    and_from _ _ (and_from _ _ (not_from_false _ (not_empty model is.some))
    (not_from_false _ (differs (codes "{") model no_open)))
    (not_from_false _ (differs (codes "}") model no_close)) in
    rw word refl

-- ---- names
pub front_names : {limit : ℕ} (xs ys : List (List ℕ)) → AreNames limit (xs ++ ys) → AreNames limit xs
front_names {limit = limit} xs ys are =
    let count = length-append xs ys in
    let few : length (xs ++ ys) ≤ limit = are.few in
    record {
      good = λ k d within. subst (λ (w : List ℕ). IsTrue (is_signal_name w)) (get_or_append_left xs ys d k within)
          (are.good k d (omega arith));
      distinct = λ i j d before within. subst (λ (w : List ℕ). w ≢ get_or xs j d)
          (get_or_append_left xs ys d i (omega arith)) (subst (λ (w : List ℕ). get_or (xs ++ ys) i d ≢ w)
          (get_or_append_left xs ys d j within) (are.distinct i j d before (omega arith)));
      few = omega arith;
    }

good_here : {limit : ℕ} (before : List (List ℕ)) (name : List ℕ) (later : List (List ℕ))
    → AreNames limit (before ++ name ∷ later) → is_signal_name name ≡ true
good_here before name later are =
    let here : get_or (before ++ name ∷ later) (length before) [] ≡ name =
    get_or_at before name later [] (length before) refl in
    let count = length-append before (name ∷ later) in
    let within : length before < length (before ++ name ∷ later) = omega arith in
    subst (λ (w : List ℕ). is_signal_name w ≡ true) here (are.good (length before) [] within)

new_here : {limit : ℕ} (before : List (List ℕ)) (name : List ℕ) (later : List (List ℕ))
    → AreNames limit (before ++ name ∷ later) → stands_in before name ≡ true → ⊥
new_here before name later are stands =
    let (k, x, inside, at, same) = Any-from_list_any (λ (n : List ℕ). bytes_eq name n) before stands in
    let here : get_or (before ++ name ∷ later) (length before) [] ≡ name =
    get_or_at before name later [] (length before) refl in
    let count = length-append before (name ∷ later) in
    let first : get_or (before ++ name ∷ later) k [] ≡ name =
    get_or_append_left before (name ∷ later) [] k inside ∙ get_or_default before k [] x inside
    ∙ at ∙ sym ((bytes_eq-Decides name x).0 same) in
    are.distinct k (length before) [] inside (omega arith) (first ∙ sym here)

name_good : {limit : ℕ} (before : List (List ℕ)) (name : List ℕ) (later : List (List ℕ))
    → AreNames limit (before ++ name ∷ later) → name_fault limit before name ≡ None
name_good {limit = limit} before name later are =
    let count : length (before ++ name ∷ later) ≡ length before + length (name ∷ later) =
    length-append before (name ∷ later) in
    let few : length (before ++ name ∷ later) ≤ limit = are.few in
    let room : nat_le limit (length before) ≡ false = lt-leb limit (length before) (omega arith) in
    let new : stands_in before name ≡ false =
    false_from_ne_true (stands_in before name) (new_here before name later are) in
    rw (good_here before name later are, new, room) refl

pub name_some : (n : List ℕ) → is_signal_name n ≡ true → is_empty n ≡ false
name_some [] is = absurd (true≢false (sym is))
name_some (b ∷ bs) is = refl

pub names_good : {limit : ℕ} (head : List ℕ) (before names : List (List ℕ)) → AreNames limit (before ++ names)
    → names_fault limit head before (head ∷ names) ≡ None
names_good {limit = limit} head before names are =
    rw (same_bytes head, none_empty before names are) (each before names are)
  where
    each : (before names : List (List ℕ)) → AreNames limit (before ++ names)
        → first_after (name_fault limit) before names ≡ None
    each before [] are = refl
    each before (n ∷ names) are = rw (name_good before n names are)
        (each (before ++ n ∷ []) names (subst (AreNames limit) (sym (append_assoc before (n ∷ []) names)) are))

    none_empty : (before names : List (List ℕ)) → AreNames limit (before ++ names) → list_any is_empty names ≡ false
    none_empty before [] are = refl
    none_empty before (n ∷ names) are = or_from _ _ (name_some n (good_here before n names are))
        (none_empty (before ++ n ∷ []) names (subst (AreNames limit) (sym (append_assoc before (n ∷ []) names)) are))

-- the names of good signals
pub signals_named : {limit : ℕ} (signals : List Signal) → All (λ (x : Signal). IsTrue (is_signal_name x.name)) signals
    → AllPairs (λ (x y : Signal). x.name ≢ y.name) signals → length signals ≤ limit → AreNames limit (names_in signals)
signals_named {limit = limit} signals good distinct few =
    let some : Signal = record { name = []; kind = Input } in
    let count : length (names_in signals) ≡ length signals = length-map signals (λ (x : Signal). x.name) in
    record {
      good = All-map (λ (w : List ℕ). IsTrue (is_signal_name w)) (λ (x : Signal). x.name) signals good;
      distinct = λ i j d before within. subst (λ (w : List ℕ). w ≢ get_or (names_in signals) j d)
          (sym (get_or-map (λ (x : Signal). x.name) signals i some d (omega arith)))
          (subst (λ (w : List ℕ). (get_or signals i some).name ≢ w)
          (sym (get_or-map (λ (x : Signal). x.name) signals j some d (omega arith)))
          (distinct i j some before (omega arith)));
      few = subst (λ (k : ℕ). k ≤ limit) (sym count) few;
    }

-- ---- the start
length_bits : (i value : ℕ) (signals : List Signal) → length (bits_from i signals value) ≡ length signals
length_bits i value [] = refl
length_bits i value (x ∷ xs) = ap suc (length_bits (i + 1) value xs)

digit : (b : Bool) → is_between 48 49 (if b then 49 else 48) ≡ true
digit true = refl
digit false = refl

digits : (i value : ℕ) (signals : List Signal) → list_all (is_between 48 49) (bits_from i signals value) ≡ true
digits i value [] = refl
digits i value (x ∷ xs) = and_from _ _ (digit (bit value i)) (digits (i + 1) value xs)

dark_digit : (b : Bool) → is_between 33 126 (if b then 49 else 48) ≡ true
dark_digit true = refl
dark_digit false = refl

dark_bits : (i value : ℕ) (signals : List Signal) → IsDark (bits_from i signals value)
dark_bits i value [] = refl
dark_bits i value (x ∷ xs) = and_from _ _ (dark_digit (bit value i)) (dark_bits (i + 1) value xs)

pub start_dark : (value : ℕ) (signals : List Signal) → AreDark (word_if_any (bits_from 0 signals value))
start_dark value [] = tt
start_dark value (x ∷ xs) = (dark_bits 0 value (x ∷ xs), tt)

pub start_good : (signals : List Signal) (value count : ℕ) → count ≡ length signals
    → start_fault count (codes ".start" ∷ word_if_any (bits_from 0 signals value)) ≡ None
start_good [] value count is = rw is refl
start_good (x ∷ xs) value count is =
    let same : (length (bits_from 0 (x ∷ xs) value) == count) ≡ true =
    eq-eqb _ _ (length_bits 0 value (x ∷ xs) ∙ sym is) in
    rw (same, digits 0 value (x ∷ xs)) refl

word_back : (word : List ℕ) → first_word (word_if_any word) ≡ word
word_back [] = refl
word_back (b ∷ bs) = refl

low_bit : (t : Bool) (m : ℕ) → ((if (if t then 49 else 48) == 49 then 1 else 0) + 2 * m) % 2 ≡ (if t then 1 else 0)
low_bit true m = omega arith
low_bit false m = omega arith

bit_told : (value i : ℕ) → (if bit value i then 1 else 0) ≡ bit_at value i
bit_told value i = elim (cases_Bool (bit value i)) [
  | inl one ↦ rw one (sym (eqb-true (bit_at value i) 1 one))
  | inr nought ↦ rw nought (zero_bit (bit_at value i) (bit_at-lt value i) (eqb-false (bit_at value i) 1 nought))
]
  where
    zero_bit : (n : ℕ) → n < 2 → (n ≡ 1 → ⊥) → 0 ≡ n
    zero_bit n low other = omega arith

bit_of : (signals : List Signal) (i value k : ℕ) → k < length signals
    → bit_at (code_of_bits (bits_from i signals value)) k ≡ bit_at value (i + k)
bit_of [] i value k within = absurd (omega arith)
bit_of (x ∷ xs) i value zero within = bit_at_lowest (code_of_bits (bits_from i (x ∷ xs) value))
    ∙ low_bit (bit value i) (code_of_bits (bits_from (i + 1) xs value)) ∙ bit_told value i
    ∙ ap (bit_at value) (none_more i)
  where
    none_more : (n : ℕ) → n ≡ n + 0
    none_more n = omega arith
bit_of (x ∷ xs) i value (suc k) within = bit_next (if bit value i then 49 else 48) (bits_from (i + 1) xs value) k
    ∙ bit_of xs (i + 1) value k (omega arith) ∙ ap (bit_at value) (shift i k)
  where
    shift : (n k : ℕ) → n + 1 + k ≡ n + suc k
    shift n k = omega arith

pub start_spelled : (signals : List Signal) (value : ℕ) → value < 2 ^ length signals
    → code_of_bits (first_word (word_if_any (bits_from 0 signals value))) ≡ value
start_spelled signals value fits = ap code_of_bits (word_back (bits_from 0 signals value))
    ∙ same_from_bits_below (length signals) (code_of_bits (bits_from 0 signals value)) value
    (subst (λ (n : ℕ). code_of_bits (bits_from 0 signals value) < 2 ^ n)
    (length_bits 0 value signals) (code_fits_bits (bits_from 0 signals value))) fits
    (λ k within. bit_of signals 0 value k within ∙ ap (bit_at value) (none_plus k))
  where
    none_plus : (n : ℕ) → 0 + n ≡ n
    none_plus n = omega arith

-- ---- insertions

listed_unlike : (words : List (List ℕ)) → AllByRecursion Listed words → Unlike (codes "down") words
listed_unlike [] are = tt
listed_unlike (w ∷ ws) are = (differs (codes "down") w are.0.1, listed_unlike ws are.1)

listed_dark : (words : List (List ℕ)) → AllByRecursion Listed words → AreDark words
listed_dark [] are = tt
listed_dark (w ∷ ws) are = (are.0.0.bytes, listed_dark ws are.1)

none_down : (words : List (List ℕ)) → Unlike (codes "down") words → stands_in words (codes "down") ≡ false
none_down [] unlike = refl
none_down (w ∷ ws) unlike = or_from _ _ unlike.0 (none_down ws unlike.1)

states_some : (up down : List (List ℕ)) → AllByRecursion Listed up → AllByRecursion Listed down
    → list_any is_empty (up ++ codes "down" ∷ down) ≡ false
states_some [] down one other = rest down other
  where
    rest : (words : List (List ℕ)) → AllByRecursion Listed words → list_any is_empty words ≡ false
    rest [] are = refl
    rest (w ∷ ws) are = or_from _ _ (not_empty w are.0.0.some) (rest ws are.1)
states_some (w ∷ ws) down one other = or_from _ _ (not_empty w one.0.0.some) (states_some ws down one.1 other)

pub insert_good : (i : Insertion) → IsInsertion i → IsDark i.name
    → (insert_fault i.name (insert_line i) ≡ None) × (insertion_of (insert_line i) ≡ i) × AreDark (insert_line i)
insert_good i is dark =
    let up = recursion_from_All Listed i.up is.words_up in
    let down = recursion_from_All Listed i.down is.words_down in
    let cut = cut_made (codes "down") i.up i.down (listed_unlike i.up up) in
    let both : are_both_lists (Some (i.up, i.down)) ≡ true =
    and_from _ _
    (and_from _ _ (not_from_false _ (not_empty i.up is.some_up)) (not_from_false _ (not_empty i.down is.some_down)))
    (not_from_false _ (none_down i.down (listed_unlike i.down down))) in (
      rw (same_bytes i.name, states_some i.up i.down up down, cut, both) refl,
      ap (insertion_with i.name) cut,
      (
        refl,
        (
          dark,
          (
            refl,
            append_all IsDark i.up (codes "down" ∷ i.down) (listed_dark i.up up) (refl, listed_dark i.down down),
          ),
        ),
      ),
    )
