-- The names of current states: they are state names, and no two states have one.
use Rattle.std.proofs.Common.{◌≡◌, ◌≢◌, ℕ, zero, suc, ◌+◌, ◌/◌, ◌^◌, ◌<◌, ◌≤◌, ◌==◌, ◌&&◌, not, Bool, true, false}
use Rattle.std.proofs.Common.{List, [], ◌∷◌, ◌++◌, length, map, get_or, drop, Contains, All, AllPairs, codes}
use Rattle.std.proofs.Common.{refl, sym, ap, subst, ◌∙◌, arith, inl, inr}
use Rattle.std.proofs.lemmas.Bool.{and_parts, and_from, cases_Bool, true≢false}
use Rattle.std.proofs.lemmas.List.{append-nil, length-append, length-map, map-append}
use Rattle.std.proofs.lemmas.List.Folds.{list_all-append}
use Rattle.std.proofs.lemmas.List.FromFn.{length-map-range_with_len, get_or-map-range_with_len, map-range_with_len_more}
use Rattle.std.specs.List.{list_all, range_with_len, slice_index_or}
use Rattle.si_base.specs.Bits.{bit}
use Rattle.si_base.specs.Bytes.{at_sign, dot, underscore}
use Rattle.si_base.specs.Codes.{code}
use Rattle.si_base.specs.Words.{IsStateName, is_word_byte}
use Rattle.si_circuit.specs.Circuits.{AreStateNames}
use Rattle.si_circuit.specs.Spelling.{current_word, digit, digits, mark}
use Rattle.si_circuit.proofs.SpellingTellsStates.{one_word}
use Rattle.si_circuit.proofs.SpellingMarks.{mark_length, same_split}
use Rattle.si_insert.specs.Lineage.{History, IsLineage, origin}
use Rattle.si_insert.proofs.InsertionKeeps.{keeps}
use Rattle.si_circuit.proofs.SpelledInsertions.{no_at}
use Rattle.si_inserted.specs.Current.{current_name, current_names, name_byte}

-- ---- bytes

abbrev plain : ℕ → Bool
plain b = is_word_byte b && no_at b

other_byte : (b : ℕ) → no_at b ≡ true → name_byte b ≡ b
other_byte b other = elim (cases_Bool (b == at_sign)) [
  | inl same ↦ absurd (true≢false (sym other ∙ ap not same))
  | inr differs ↦ rw differs refl
]

-- without `@` nothing changes
other_bytes : (bs : List ℕ) → list_all plain bs ≡ true → map name_byte bs ≡ bs
other_bytes [] are = refl
other_bytes (b ∷ bs) are =
    let parts = and_parts (plain b) (list_all plain bs) are in
    let here = other_byte b (and_parts (is_word_byte b) (no_at b) parts.0).1 in
    ap (λ (c : ℕ). c ∷ map name_byte bs) here ∙ ap (λ (cs : List ℕ). b ∷ cs) (other_bytes bs parts.1)

-- ---- marks
digits_plain : (bits : ℕ) (places : List ℕ) → list_all plain (map (λ i. digit (bit bits i)) places) ≡ true
digits_plain bits [] = refl
digits_plain bits (i ∷ places) = and_from _ _ (one (bit bits i)) (digits_plain bits places)
  where
    one : (b : Bool) → plain (digit b) ≡ true
    one true = refl
    one false = refl

-- the mark in a name: `_` and the digits
mark_named : (k bits : ℕ) → map name_byte (mark (suc k) bits) ≡ underscore ∷ digits (suc k) bits
mark_named k bits =
    ap (λ (ds : List ℕ). underscore ∷ ds)
    (other_bytes (digits (suc k) bits) (digits_plain bits (range_with_len 0 (suc k))))

-- it tells the mark
mark_back : (k x y : ℕ) → map name_byte (mark k x) ≡ map name_byte (mark k y) → mark k x ≡ mark k y
mark_back zero x y same = refl
mark_back (suc k) x y same =
    let named : underscore ∷ digits (suc k) x ≡ underscore ∷ digits (suc k) y =
    sym (mark_named k x) ∙ same ∙ mark_named k y in
    ap (λ (bs : List ℕ). at_sign ∷ drop 1 bs) named

mark_plain : (k bits : ℕ) → list_all plain (map name_byte (mark k bits)) ≡ true
mark_plain zero bits = refl
mark_plain (suc k) bits =
    ap (list_all plain) (mark_named k bits) ∙ digits_plain bits (range_with_len 0 (suc k))

-- ---- a name with a mark
named_parts : (name : List ℕ) (k bits : ℕ) → IsStateName name
    → map name_byte (name ++ mark k bits) ≡ name ++ map name_byte (mark k bits)
named_parts name k bits is =
    map-append name_byte name (mark k bits)
    ∙ ap (λ (front : List ℕ). front ++ map name_byte (mark k bits)) (other_bytes name is.bytes)

abbrev no_line : ℕ → Bool
no_line b = not (b == underscore)

marked_not_down : (name : List ℕ) (k bits : ℕ) → name ≢ codes "down"
    → name ++ map name_byte (mark k bits) ≢ codes "down"
marked_not_down name zero bits other same = other (sym (append-nil name) ∙ same)
marked_not_down name (suc k) bits other same =
    let word : name ++ underscore ∷ digits (suc k) bits ≡ codes "down" =
    ap (λ (m : List ℕ). name ++ m) (sym (mark_named k bits)) ∙ same in
    let all : list_all no_line (name ++ underscore ∷ digits (suc k) bits) ≡ true = ap (list_all no_line) word in
    let parts = and_parts (list_all no_line name) (list_all no_line (underscore ∷ digits (suc k) bits))
    (sym (list_all-append no_line name (underscore ∷ digits (suc k) bits)) ∙ all) in
    true≢false (sym parts.1)

first_stays : (name more rest : List ℕ) → 0 < length name → ((cut : List ℕ) → name ≢ dot ∷ cut)
    → name ++ more ≢ dot ∷ rest
first_stays [] more rest some none same = absurd (omega arith)
first_stays (b ∷ bs) more rest some none same =
    let first : b ≡ dot = ap (λ (w : List ℕ). get_or w 0 b) same in
    none bs (ap (λ (c : ℕ). c ∷ bs) first)

marked_is_name : (name : List ℕ) (k bits : ℕ) → IsStateName name
    → IsStateName (map name_byte (name ++ mark k bits))
marked_is_name name k bits is =
    let more = map name_byte (mark k bits) in
    let named : IsStateName (name ++ more) = record {
      bytes = list_all-append plain name more ∙ and_from _ _ is.bytes (mark_plain k bits);
      some = omega (arith, is.some, length-append name more);
      no_dot = λ rest. first_stays name more rest is.some is.no_dot;
      not_down = marked_not_down name k bits is.not_down;
    } in
    subst IsStateName (sym (named_parts name k bits is)) named

marked_back : (one other : List ℕ) (k x y : ℕ) → IsStateName one → IsStateName other
    → map name_byte (one ++ mark k x) ≡ map name_byte (other ++ mark k y) → one ++ mark k x ≡ other ++ mark k y
marked_back one other k x y is also same =
    let sizes : length (map name_byte (mark k x)) ≡ length (map name_byte (mark k y)) =
    length-map (mark k x) name_byte ∙ mark_length k x y ∙ sym (length-map (mark k y) name_byte) in
    let split = same_split one (map name_byte (mark k x)) other (map name_byte (mark k y))
    (sym (named_parts one k x is) ∙ same ∙ named_parts other k y also) sizes in
    ap (λ (front : List ℕ). front ++ mark k x) split.0
    ∙ ap (λ (m : List ℕ). other ++ m) (mark_back k x y split.1)

-- ---- the names of the current states
module _ (states : List (List ℕ)) (l : History) (lineage : IsLineage l.given l.trace l.current)
    (names : AreStateNames l.given.graph states) where
  origin_name : (s : ℕ) → s < l.current.coded.graph.states
      → IsStateName (slice_index_or states (origin l.current s) [])
  origin_name s within =
      let kept = keeps l.given l.trace l.current lineage in
      names.each (origin l.current s) [] (omega (arith, kept.within s within, names.count))

  pub is_name : (s : ℕ) → s < l.current.coded.graph.states → IsStateName (current_name states l s)
  unfolding current_word
  is_name s within = marked_is_name (slice_index_or states (origin l.current s) []) (length l.trace)
      (code l.current.coded s / 2 ^ length l.given.graph.signals) (origin_name s within)

  word_back : (s t : ℕ) → s < l.current.coded.graph.states → t < l.current.coded.graph.states
      → current_name states l s ≡ current_name states l t → current_word states l s ≡ current_word states l t
  unfolding current_word
  word_back s t s_in t_in same =
      let n = length l.given.graph.signals in
      marked_back (slice_index_or states (origin l.current s) []) (slice_index_or states (origin l.current t) [])
      (length l.trace) (code l.current.coded s / 2 ^ n) (code l.current.coded t / 2 ^ n) (origin_name s s_in)
      (origin_name t t_in) same

  pub one_name : AllPairs (λ x y. x ≢ y) states → (s t : ℕ) → s < l.current.coded.graph.states
      → t < l.current.coded.graph.states → current_name states l s ≡ current_name states l t → s ≡ t
  one_name apart s t s_in t_in same =
      one_word states l lineage names.count apart s t s_in t_in (word_back s t s_in t_in same)

-- ---- all of them
module _ (states : List (List ℕ)) (l : History) where
  abbrev size : ℕ
  size = l.current.coded.graph.states

  abbrev names_below : ℕ → List (List ℕ)
  names_below k = map (current_name states l) (range_with_len 0 k)

  name_at : (k s : ℕ) (d : List ℕ) → s < k → get_or (names_below k) s d ≡ current_name states l s
  name_at k s d within = get_or-map-range_with_len (current_name states l) 0 k s s d within (omega arith)

  pub all_names : AreStateNames l.given.graph states → IsLineage l.given l.trace l.current
      → All IsStateName (current_names states l)
  all_names names lineage i d within =
      let below : i < size = omega (arith, within, length-map-range_with_len (current_name states l) 0 size) in
      subst IsStateName (sym (name_at size i d below)) (is_name states l lineage names i below)

  pub all_apart : AreStateNames l.given.graph states → IsLineage l.given l.trace l.current
      → AllPairs (λ x y. x ≢ y) states → AllPairs (λ x y. x ≢ y) (current_names states l)
  all_apart names lineage apart i j d before within same =
      let second : j < size = omega (arith, within, length-map-range_with_len (current_name states l) 0 size) in
      let first : i < size = omega (arith, before, second) in
      let equal = one_name states l lineage names apart i j first second
      (sym (name_at size i d first) ∙ same ∙ name_at size j d second) in
      absurd (omega (arith, before, equal))

  -- one more name is new, and goes last
  pub one_more : AreStateNames l.given.graph states → IsLineage l.given l.trace l.current
      → AllPairs (λ x y. x ≢ y) states → (k : ℕ) (name : List ℕ) (old new : List (List ℕ)) → k < size
      → old ≡ names_below k → name ≡ current_name states l k → ((Contains old name → ⊥) → new ≡ old ++ name ∷ [])
      → new ≡ names_below (k + 1)
  one_more names lineage apart k name old new below so_far is added =
      let absent : Contains (names_below k) (current_name states l k) → ⊥ = λ (j, within, at).
      (let before : j < k = omega (arith, within, length-map-range_with_len (current_name states l) 0 k) in
      let equal = one_name states l lineage names apart j k (omega (arith, before, below)) below
      (sym (name_at k j (current_name states l k) before) ∙ at) in
      absurd (omega (arith, before, equal))) in
      let is_new : Contains old name → ⊥ = rw (so_far, is) absent in
      added is_new ∙ rw (so_far, is) (sym (map-range_with_len_more (current_name states l) 0 k k (omega arith)))

  pub fewer : (k : ℕ) (old : List (List ℕ)) → old ≡ names_below k → k < size → size ≤ length old → ⊥
  fewer k old so_far below most =
      absurd (omega (arith, below, most, ap length so_far, length-map-range_with_len (current_name states l) 0 k))
