-- The insertions of a lineage are those of its inserted signals, and have the form of a netlist's.
use Rattle.std.proofs.Common.{◌≡◌, ◌≢◌, ℕ, zero, suc, ◌+◌, ◌<◌, ◌==◌, ◌&&◌, not, Bool, true, false, List, [], ◌∷◌, ◌++◌}
use Rattle.std.proofs.Common.{length, map, filter, get_or, All, Contains, codes, append_assoc, zero-add, refl, sym, ap}
use Rattle.std.proofs.Common.{subst, ◌∙◌, arith}
use Rattle.std.proofs.lemmas.Bool.{and_parts, and_from, true≢false}
use Rattle.std.proofs.lemmas.List.{append-nil, length-append, length-map, map-append}
use Rattle.std.proofs.lemmas.List.FromFn.{get_or-range_with_len, length-range_with_len}
use Rattle.std.proofs.lemmas.List.Elements.{All-nil, All-cons, All-map, All-filter, filter-append}
use Rattle.std.proofs.lemmas.List.Folds.{list_all-append}
use Rattle.std.proofs.lemmas.Option.{slice_get-get_or}
use Rattle.std.specs.List.{list_all, range_with_len}
use Rattle.si_base.specs.declared.graph.Signal.{Signal}
use Rattle.si_base.specs.declared.graph.SigKind.TheVariants.{Inserted}
use Rattle.si_base.specs.Bits.{bit}
use Rattle.si_base.specs.Bytes.{at_sign, hash, opening_brace, closing_brace, first_visible, tilde}
use Rattle.si_base.specs.Codes.{CodedGraph}
use Rattle.si_base.specs.Graph.{StateGraph}
use Rattle.si_base.specs.NetlistText.{same_kind, names_of}
use Rattle.si_base.specs.WellFormed.{IsWord, IsInsertion}
use Rattle.si_base.specs.Words.{is_between, is_word_byte, IsStateName}
use Rattle.si_insert.specs.declared.lineage.TraceStep.{TraceStep}
use Rattle.si_insert.specs.declared.partition.Class.{Class}
use Rattle.si_graph.proofs.ListMembers.{Contains-filter}
use Rattle.si_insert.specs.Partition.{class_of, IsLawful}
use Rattle.si_insert.specs.Insertion.{new_signal}
use Rattle.si_insert.specs.GraphOfCopies.{switches}
use Rattle.si_insert.specs.Lineage.{Current, History, Grows, IsLineage, AllGiven, given_current}
use Rattle.si_circuit.specs.declared.spelling.Descent.{Descent}
use Rattle.si_circuit.specs.Circuits.{AreStateNames}
use Rattle.si_circuit.specs.Spelled.{AreInserted}
use Rattle.si_circuit.specs.Spelling.{digit, mark, state_word, descent, switching_words, insertion_of, insertions_from}
use Rattle.si_circuit.specs.Spelling.{insertions_of, descents_after, given_descents}
use Rattle.si_circuit.proofs.SpellingDescents.{At, at_start, at_next, step_fits}
use Rattle.si_circuit.proofs.GateLemmas.{nothing_inserted}

-- ---- names
abbrev pub new_signals : List TraceStep → List Signal
new_signals trace = map (λ p. new_signal p.name) trace

-- the signals of the current graph are those before, and the new ones
pub signals_grow : (v : Current) (trace : List TraceStep) (u : Current) → Grows v trace u
    → u.coded.graph.signals ≡ v.coded.graph.signals ++ new_signals trace
signals_grow v [] u grows =
    ap (λ (w : Current). w.coded.graph.signals) (sym grows) ∙ sym (append-nil v.coded.graph.signals)
signals_grow v (p ∷ trace) u grows =
    let w = grows.0 in
    let next : w.coded.graph.signals ≡ v.coded.graph.signals ++ new_signal p.name ∷ [] =
    ap (λ (x : Current). x.coded.graph.signals) grows.1.makes ∙ grows.1.insertion.signals in
    signals_grow w trace u grows.2 ∙ ap (λ (xs : List Signal). xs ++ new_signals trace) next
    ∙ append_assoc v.coded.graph.signals (new_signal p.name ∷ []) (new_signals trace)

names_append : (xs ys : List Signal) → names_of Inserted (xs ++ ys) ≡ names_of Inserted xs ++ names_of Inserted ys
names_append xs ys =
    ap (map (λ (x : Signal). x.name)) (filter-append (λ (x : Signal). same_kind Inserted x.kind) xs ys)
    ∙ map-append (λ (x : Signal). x.name) (filter (λ (x : Signal). same_kind Inserted x.kind) xs)
    (filter (λ (x : Signal). same_kind Inserted x.kind) ys)

names_new : (trace : List TraceStep) → names_of Inserted (new_signals trace) ≡ map (λ p. p.name) trace
names_new [] = refl
names_new (p ∷ trace) = ap (λ (xs : List (List ℕ)). p.name ∷ xs) (names_new trace)

none_given : (signals : List Signal) → AllGiven signals → names_of Inserted signals ≡ []
none_given signals given =
    sym (nothing_inserted signals
    (λ i d small. given i (get_or signals i d) (slice_get-get_or signals i d small))).names

-- the inserted signals have the names of the trace
pub inserted_names : (given : CodedGraph) (trace : List TraceStep) (v : Current) → IsLineage given trace v
    → names_of Inserted v.coded.graph.signals ≡ map (λ p. p.name) trace
inserted_names given trace v lineage =
    let grown = signals_grow (given_current given) trace v lineage.grown in
    ap (names_of Inserted) grown ∙ names_append given.graph.signals (new_signals trace)
    ∙ ap (λ (xs : List (List ℕ)). xs ++ names_of Inserted (new_signals trace))
    (none_given given.graph.signals lineage.none_inserted)
    ∙ names_new trace

names_spelled : (states : List (List ℕ)) (k : ℕ) (ds : List Descent) (trace : List TraceStep)
    → map (λ i. i.name) (insertions_from states k ds trace) ≡ map (λ p. p.name) trace
names_spelled states k ds [] = refl
names_spelled states k ds (p ∷ trace) =
    ap (λ (xs : List (List ℕ)). p.name ∷ xs) (names_spelled states (k + 1) (descents_after k p.partition ds) trace)

pub insertion_names : (states : List (List ℕ)) (l : History)
    → map (λ i. i.name) (insertions_of states l) ≡ map (λ p. p.name) l.trace
unfolding insertions_of
insertion_names states l = names_spelled states 0 (given_descents l.given.graph.states) l.trace

-- ---- words
abbrev shown : ℕ → Bool
shown = is_between first_visible tilde

abbrev pub no_at : ℕ → Bool
no_at b = not (b == at_sign)

word_byte_shown : (b : ℕ) → is_word_byte b ≡ true → shown b ≡ true
word_byte_shown b is =
    let no_comment : Bool = shown b && not (b == hash) in
    let not_open : Bool = no_comment && not (b == opening_brace) in
    let two = (and_parts not_open (not (b == closing_brace)) is).0 in
    (and_parts (shown b) (not (b == hash)) (and_parts no_comment (not (b == opening_brace)) two).0).0

name_shown : (bs : List ℕ) → list_all (λ b. is_word_byte b && no_at b) bs ≡ true → list_all shown bs ≡ true
name_shown [] are = refl
name_shown (b ∷ bs) are =
    let parts = and_parts (is_word_byte b && no_at b) (list_all (λ c. is_word_byte c && no_at c) bs) are in
    and_from _ _ (word_byte_shown b (and_parts (is_word_byte b) (no_at b) parts.0).0) (name_shown bs parts.1)

digits_shown : (bits : ℕ) (is : List ℕ) → list_all shown (map (λ i. digit (bit bits i)) is) ≡ true
digits_shown bits [] = refl
digits_shown bits (i ∷ is) = and_from _ _ (one (bit bits i)) (digits_shown bits is)
  where
    one : (b : Bool) → shown (digit b) ≡ true
    one true = refl
    one false = refl

mark_shown : (k bits : ℕ) → list_all shown (mark k bits) ≡ true
mark_shown zero bits = refl
mark_shown (suc k) bits = digits_shown bits (range_with_len 0 (suc k))

not_down : (name : List ℕ) (k bits : ℕ) → name ≢ codes "down" → name ++ mark k bits ≢ codes "down"
not_down name zero bits other same = other (sym (append-nil name) ∙ same)
not_down name (suc k) bits other same =
    let all : list_all no_at (name ++ mark (suc k) bits) ≡ true = ap (list_all no_at) same in
    let parts = and_parts (list_all no_at name) (list_all no_at (mark (suc k) bits))
    (sym (list_all-append no_at name (mark (suc k) bits)) ∙ all) in
    true≢false (sym parts.1)

abbrev IsPlain : List ℕ → Type 0
IsPlain word = IsWord word × (word ≢ codes "down")

state_word_is : (name : List ℕ) (k bits : ℕ) → IsStateName name → IsPlain (name ++ mark k bits)
state_word_is name k bits is = (
  record {
    some = omega (arith, is.some, length-append name (mark k bits));
    bytes = list_all-append shown name (mark k bits) ∙ and_from _ _ (name_shown name is.bytes) (mark_shown k bits);
  },
  not_down name k bits is.not_down,
)

-- the words of an insertion
at_place : (n i d : ℕ) → i < n → get_or (range_with_len 0 n) i d ≡ i
at_place n i d below = get_or-range_with_len 0 n i d below ∙ zero-add i

words_are : (states : List (List ℕ)) (k : ℕ) (ds : List Descent) (classes : List Class) (up : Bool)
    → All IsStateName states → All (λ d. d.origin < length states) ds → length ds ≡ length classes
    → All IsPlain (switching_words states k ds classes up)
words_are states k ds classes up named within count =
    let word : ℕ → List ℕ = λ s. state_word states k (descent ds s) in
    let p : ℕ → Bool = λ s. switches up (class_of classes s) in
    let n = length classes in
    let at : (s : ℕ) → s < n → IsPlain (word s) =
    λ s small. state_word_is _ k (descent ds s).bits
    (named (descent ds s).origin [] (within s (record { origin = 0; bits = 0 }) (omega (arith, small, count)))) in
    let all : All (λ s. IsPlain (word s)) (range_with_len 0 n) =
    λ i d small. (let below : i < n = omega (arith, small, length-range_with_len 0 n) in
    subst (λ s. IsPlain (word s)) (sym (at_place n i d below)) (at i below)) in
    All-map IsPlain word (filter p (range_with_len 0 n)) (All-filter p (λ s. IsPlain (word s)) (range_with_len 0 n) all)

some_word : (states : List (List ℕ)) (k : ℕ) (ds : List Descent) (classes : List Class) (up : Bool) (s : ℕ)
    → s < length classes → switches up (class_of classes s) ≡ true → 0 < length (switching_words states k ds classes up)
some_word states k ds classes up s within switching =
    let p : ℕ → Bool = λ t. switches up (class_of classes t) in
    let n = length classes in
    let inside : s < length (range_with_len 0 n) = omega (arith, within, length-range_with_len 0 n) in
    let there : Contains (range_with_len 0 n) s = (s, inside, at_place n s s within) in
    let found = Contains-filter p (range_with_len 0 n) s there switching in
    let size = length-map (filter p (range_with_len 0 n)) (λ (t : ℕ). state_word states k (descent ds t)) in
    omega (arith, size, found.1)

insertion_is : (states : List (List ℕ)) (g : StateGraph) (k : ℕ) (ds : List Descent) (p : TraceStep)
    → All IsStateName states → All (λ d. d.origin < length states) ds → length ds ≡ length p.partition
    → IsLawful g p.partition → IsInsertion (insertion_of states k ds p)
insertion_is states g k ds p named within count lawful =
    let rising = lawful.rises in
    let falling = lawful.falls in
    record {
      some_up = some_word states k ds p.partition true rising.0 (omega (arith, rising.1, lawful.count))
          (ap (switches true) rising.2);
      some_down = some_word states k ds p.partition false falling.0 (omega (arith, falling.1, lawful.count))
          (ap (switches false) falling.2);
      words_up = words_are states k ds p.partition true named within count;
      words_down = words_are states k ds p.partition false named within count;
    }

all_insertions : (given : CodedGraph) (states : List (List ℕ)) (rest : List TraceStep) (v : Current) (k : ℕ)
    (ds : List Descent) → AreStateNames given.graph states → At given rest v k ds
    → All IsInsertion (insertions_from states k ds rest)
all_insertions given states [] v k ds names at = All-nil IsInsertion
all_insertions given states (p ∷ rest) v k ds names at =
    let fits = step_fits given p rest v k ds at in
    let P : ℕ → Type 0 = λ n. All (λ (d : Descent). d.origin < n) ds in
    All-cons IsInsertion (insertion_of states k ds p)
    (insertions_from states (k + 1) (descents_after k p.partition ds) rest)
    (insertion_is states at.now.coded.graph k ds p names.each (subst P (sym names.count) fits.within) fits.count
    at.grows.1.accepted.lawful)
    (all_insertions given states rest v (k + 1) (descents_after k p.partition ds) names
    (at_next given p rest v k ds at))

pub are_inserted : (states : List (List ℕ)) (l : History) → IsLineage l.given l.trace l.current
    → AreStateNames l.given.graph states → AreInserted (insertions_of states l) l.current.coded.graph.signals
unfolding insertions_of
are_inserted states l lineage names = record {
  names = names_spelled states 0 (given_descents l.given.graph.states) l.trace
      ∙ sym (inserted_names l.given l.trace l.current lineage);
  each = all_insertions l.given states l.trace l.current 0 (given_descents l.given.graph.states) names
      (at_start l.given l.trace l.current lineage);
}
