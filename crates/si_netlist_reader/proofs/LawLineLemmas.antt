-- The other lines of a netlist: words without fault are those that are written of what they spell.
use Rattle.std.proofs.Common.{IsTrue, ◌||◌, if◌then◌else◌, suc, ◌≡◌, ◌≢◌, ℕ, ◌+◌, ◌*◌, ◌^◌, ◌<◌, ◌≤◌, ◌==◌}
use Rattle.std.proofs.Common.{◌&&◌, Bool, true, false, not, List, [], ◌∷◌, ◌++◌, length, All, AllPairs, refl, sym, ap}
use Rattle.std.proofs.Common.{ap₂, subst, ◌∙◌, inl, inr, arith, codes, bytes_eq, nat_le, Option, Some, None, eqb-true}
use Rattle.std.proofs.Common.{append_assoc}
use Rattle.std.proofs.Math.Nat.{pow-succ'}
use Rattle.std.proofs.lemmas.Bool.{cases_Bool, true≢false, and_parts, or_parts, not-true, not-false, leb-true}
use Rattle.std.proofs.lemmas.Bool.{leb-false}
use Rattle.std.proofs.lemmas.List.{nil_from_length, length_push, append-nil}
use Rattle.std.proofs.lemmas.List.Elements.{All-from_recursion, All-push, All-nil}
use Rattle.std.proofs.lemmas.List.Folds.{list_any_at}
use Rattle.std.proofs.lemmas.List.Quantifiers.{all_pairs_push}
use Rattle.std.proofs.lemmas.Nat.Bits.{bit_at_lowest, bit_at-suc}
use Rattle.std.proofs.lemmas.Slice.Eq.{bytes_eq-Decides}
use Rattle.std.specs.Int.{bit_at}
use Rattle.std.specs.List.{AllByRecursion, list_all, list_any}
use Rattle.si_base.specs.Bits.{bit}
use Rattle.si_base.specs.declared.graph.Signal.{Signal}
use Rattle.si_base.specs.declared.fault.TextKind.TheVariants.{BadLine, BadName, Repeated, TooManySignals}
use Rattle.si_base.specs.Faults.{when, first_after}
use Rattle.si_base.specs.NetlistText.{insert_line, bits_from, word_if_any}
use Rattle.si_base.specs.Words.{is_signal_name, is_between}
use Rattle.si_base.specs.WellFormed.{IsWord, IsInsertion}
use Rattle.si_base.proofs.BitFacts.{lowest_bit, without_lowest}
use Rattle.si_words.specs.Names.{stands_in, name_fault}
use Rattle.si_words.specs.Sums.{is_empty, cut_at}
use Rattle.si_netlist_reader.specs.NetlistFault.{model_fault, is_model_word, start_fault, are_both_lists, insert_fault}
use Rattle.si_netlist_reader.specs.NetlistFault.{word_fault}
use Rattle.si_words.specs.Lines.{names_fault, rest_of}
use Rattle.si_netlist_reader.specs.NetlistValue.{insertion_with, insertion_of, first_word, code_of_bits}
use Rattle.si_netlist_reader.proofs.LawTextLemmas.{IsDark}
use Rattle.si_words.proofs.FaultLemmas.{both, not_when}
use Rattle.si_tokens.proofs.SumPartLemmas.{only_word}
use Rattle.si_tokens.proofs.CutLemmas.{cut_facts}

same_word : (a b : List ℕ) → bytes_eq a b ≡ true → b ≡ a
same_word a b same = sym ((bytes_eq-Decides a b).0 same)

-- ---- a line of one word
pub word_read : (word : List ℕ) (words : List (List ℕ)) → word_fault word words ≡ None → words ≡ word ∷ []
word_read word words none = only_word word words (not-false _ (not_when _ BadLine none))

-- ---- words
is_word : (w : List ℕ) → IsDark w → is_empty w ≡ false → IsWord w
is_word [] dark some = absurd (true≢false some)
is_word (b ∷ bs) dark some = record { some = omega arith; bytes = dark }

are_words : (words : List (List ℕ)) → AllByRecursion IsDark words → list_any is_empty words ≡ false
    → AllByRecursion IsWord words
are_words [] dark some = tt
are_words (w ∷ ws) dark some =
    let parts = or_parts (is_empty w) (list_any is_empty ws) some in
    (is_word w dark.0 parts.0, are_words ws dark.1 parts.1)

-- ---- the model
pub model_read : (words : List (List ℕ)) → model_fault words ≡ None → AllByRecursion IsDark words
    → (words ≡ codes ".model" ∷ first_word (rest_of words) ∷ []) × IsWord (first_word (rest_of words))
    × (first_word (rest_of words) ≢ 123 ∷ []) × (first_word (rest_of words) ≢ 125 ∷ [])
model_read [] none dark = absurd cc
model_read (head ∷ []) none dark = absurd cc
model_read (head ∷ name ∷ v ∷ vs) none dark = absurd cc
model_read (head ∷ name ∷ []) none dark =
    let parts =
    and_parts (bytes_eq (codes ".model") head) (is_model_word name) (not-false _ (not_when _ BadLine none)) in
    let braces =
    and_parts (not (is_empty name) && not (bytes_eq (codes "{") name)) (not (bytes_eq (codes "}") name)) parts.1 in
    let first = and_parts (not (is_empty name)) (not (bytes_eq (codes "{") name)) braces.0 in (
      ap (λ (h : List ℕ). h ∷ name ∷ []) (same_word (codes ".model") head parts.0),
      is_word name dark.1.0 (not-true _ first.0),
      (λ is. true≢false (sym ((bytes_eq-Decides (codes "{") name).1 (sym is)) ∙ not-true _ first.1)),
      λ is. true≢false (sym ((bytes_eq-Decides (codes "}") name).1 (sym is)) ∙ not-true _ braces.1),
    )

-- ---- lists of names
-- signal names, each once, and not too many
pub record AreNames (limit : ℕ) (names : List (List ℕ)) : Type 0 where
  pub good : All (λ n. IsTrue (is_signal_name n)) names
  pub distinct : AllPairs (λ x y. x ≢ y) names
  pub few : length names ≤ limit

pub no_names : (limit : ℕ) → AreNames limit []
no_names limit = record {
  good = All-nil (λ (n : List ℕ). IsTrue (is_signal_name n));
  distinct = λ i j d before within. absurd (omega arith);
  few = omega arith;
}

one_more : {limit : ℕ} (names : List (List ℕ)) (n : List ℕ) → AreNames limit names → name_fault limit names n ≡ None
    → AreNames limit (names ++ n ∷ [])
one_more {limit = limit} names n are none =
    let first = both (when (not (is_signal_name n)) BadName) _ none in
    let second = both (when (stands_in names n) Repeated) (when (nat_le limit (length names)) TooManySignals) first.1 in
    let few : length names < limit = leb-false limit (length names) (not_when _ TooManySignals second.1) in
    record {
      good = All-push (λ (x : List ℕ). IsTrue (is_signal_name x)) names n are.good
          (not-false _ (not_when _ BadName first.0));
      distinct = all_pairs_push (λ (x y : List ℕ). x ≢ y) names n are.distinct (λ k d within same. true≢false
          (sym (list_any_at (λ (x : List ℕ). bytes_eq n x) names k d within ((bytes_eq-Decides n _).1 (sym same)))
          ∙ not_when _ Repeated second.0));
      few = omega (arith, length_push names n);
    }

pub more_names : {limit : ℕ} (names more : List (List ℕ)) → AreNames limit names
    → first_after (name_fault limit) names more ≡ None → AreNames limit (names ++ more)
more_names {limit = limit} names [] are none = subst (AreNames limit) (sym (append-nil names)) are
more_names {limit = limit} names (n ∷ more) are none =
    let parts = both (name_fault limit names n) _ none in
    subst (AreNames limit) (append_assoc names (n ∷ []) more)
    (more_names (names ++ n ∷ []) more (one_more names n are parts.0) parts.1)

pub names_read : {limit : ℕ} (head : List ℕ) (before words : List (List ℕ)) → names_fault limit head before words ≡ None
    → AreNames limit before → (words ≡ head ∷ rest_of words) × AreNames limit (before ++ rest_of words)
names_read head before [] none are = absurd cc
names_read {limit = limit} head before (w ∷ names) none are =
    let parts = both (when (not (bytes_eq head w) || list_any is_empty names) BadLine) _ none in
    let form = or_parts (not (bytes_eq head w)) (list_any is_empty names) (not_when _ BadLine parts.0) in
    (ap (λ (h : List ℕ). h ∷ names) (same_word head w (not-false' _ form.0)), more_names before names are parts.1)
  where
    not-false' : (t : Bool) → not t ≡ false → t ≡ true
    not-false' t h = not-false t h

-- ---- the start
pub bit_first : (b : ℕ) (bits : List ℕ) → bit (code_of_bits (b ∷ bits)) 0 ≡ (b == 49)
bit_first b bits = ap (λ (x : ℕ). x == 1) (bit_at_lowest (code_of_bits (b ∷ bits)))
    ∙ lowest_bit (b == 49) (code_of_bits bits)

pub bit_next : (b : ℕ) (bits : List ℕ) (k : ℕ) → bit_at (code_of_bits (b ∷ bits)) (suc k) ≡ bit_at (code_of_bits bits) k
bit_next b bits k = bit_at-suc (code_of_bits (b ∷ bits)) k
    ∙ ap (λ (n : ℕ). bit_at n k) (without_lowest (b == 49) (code_of_bits bits))

pub code_fits_bits : (bits : List ℕ) → code_of_bits bits < 2 ^ length bits
code_fits_bits [] = omega arith
code_fits_bits (b ∷ bits) = twice (b == 49) (code_of_bits bits) (2 ^ length bits) (2 ^ suc (length bits))
    (pow-succ' 2 (length bits)) (code_fits_bits bits)
  where
    twice : (t : Bool) (m p q : ℕ) → q ≡ 2 * p → m < p → (if t then 1 else 0) + 2 * m < q
    twice true m p q e h = omega arith
    twice false m p q e h = omega arith

digit : (b : ℕ) → is_between 48 49 b ≡ true → (if b == 49 then 49 else 48) ≡ b
digit b between = elim (cases_Bool (b == 49)) [
  | inl one ↦ rw one (sym (eqb-true b 49 one))
  | inr other ↦ (
      let parts = and_parts (nat_le 48 b) (nat_le b 49) between in
      let low : 48 ≤ b = leb-true 48 b parts.0 in
      let high : b ≤ 49 = leb-true b 49 parts.1 in
      rw other (sym (only low high (apart b other)))
      )
]
  where
    only : {b : ℕ} → 48 ≤ b → b ≤ 49 → (b ≡ 49 → ⊥) → b ≡ 48
    only low high other = omega arith

    apart : (c : ℕ) → (c == 49) ≡ false → c ≡ 49 → ⊥
    apart c other same = true≢false (sym (rw same refl) ∙ other)

pub bits_back : (signals : List Signal) (bits : List ℕ) (i value : ℕ) → length bits ≡ length signals
    → list_all (is_between 48 49) bits ≡ true → ((k : ℕ) → bit_at value (i + k) ≡ bit_at (code_of_bits bits) k)
    → bits_from i signals value ≡ bits
bits_back [] [] i value count are same = refl
bits_back [] (b ∷ bits) i value count are same = absurd (omega arith)
bits_back (x ∷ xs) [] i value count are same = absurd (omega arith)
bits_back (x ∷ xs) (b ∷ bits) i value count are same =
    let each = and_parts (is_between 48 49 b) _ are in
    let here : bit value i ≡ (b == 49) =
    ap (λ (n : ℕ). bit value n) (plus_none i) ∙ ap (λ (n : ℕ). n == 1) (same 0) ∙ bit_first b bits in
    ap₂ (λ (c : ℕ) (cs : List ℕ). c ∷ cs) (ap (λ (t : Bool). if t then 49 else 48) here ∙ digit b each.0) (bits_back xs
    bits (i + 1) value (omega arith) each.1 (λ k. ap (bit_at value) (shift i k) ∙ same (suc k) ∙ bit_next b bits k))
  where
    plus_none : (n : ℕ) → n ≡ n + 0
    plus_none n = omega arith

    shift : (n k : ℕ) → n + 1 + k ≡ n + suc k
    shift n k = omega arith

pub start_read : (signals : List Signal) (words : List (List ℕ)) → start_fault (length signals) words ≡ None
    → (words ≡ codes ".start" ∷ word_if_any (bits_from 0 signals (code_of_bits (first_word (rest_of words)))))
    × (code_of_bits (first_word (rest_of words)) < 2 ^ length signals)
start_read signals [] none = absurd cc
start_read signals (head ∷ []) none =
    let parts =
    and_parts (bytes_eq (codes ".start") head) (length signals == 0) (not-false _ (not_when _ BadLine none)) in
    let no_signals : signals ≡ [] = nil_from_length signals (eqb-true (length signals) 0 parts.1) in
    rw no_signals (ap (λ (h : List ℕ). h ∷ []) (same_word (codes ".start") head parts.0), omega arith)
start_read signals (head ∷ bits ∷ v ∷ vs) none = absurd cc
start_read signals (head ∷ bits ∷ []) none =
    let last = and_parts (bytes_eq (codes ".start") head && not (is_empty bits) && (length bits == length signals))
    (list_all (is_between 48 49) bits) (not-false _ (not_when _ BadLine none)) in
    let third =
    and_parts (bytes_eq (codes ".start") head && not (is_empty bits)) (length bits == length signals) last.0 in
    let second = and_parts (bytes_eq (codes ".start") head) (not (is_empty bits)) third.0 in
    let count : length bits ≡ length signals = eqb-true _ _ third.1 in
    let back : bits_from 0 signals (code_of_bits bits) ≡ bits =
    bits_back signals bits 0 (code_of_bits bits) count last.1 (λ k. ap (bit_at (code_of_bits bits)) (none_plus k)) in (
      ap₂ (λ (h : List ℕ) (hs : List (List ℕ)). h ∷ hs) (same_word (codes ".start") head second.0)
          (sym (ap word_if_any back ∙ one_word bits (not-true _ second.1))),
      subst (λ (n : ℕ). code_of_bits bits < 2 ^ n) count (code_fits_bits bits),
    )
  where
    none_plus : (n : ℕ) → 0 + n ≡ n
    none_plus n = omega arith

    one_word : (word : List ℕ) → is_empty word ≡ false → word_if_any word ≡ word ∷ []
    one_word [] some = absurd (true≢false some)
    one_word (c ∷ cs) some = refl

-- ---- insertions
split_words : (P : List ℕ → Type 0) (xs : List (List ℕ)) (y : List ℕ) (ys : List (List ℕ))
    → AllByRecursion P (xs ++ y ∷ ys) → AllByRecursion P xs × AllByRecursion P ys
split_words P [] y ys all = (tt, all.1)
split_words P (x ∷ xs) y ys all =
    let rest = split_words P xs y ys all.1 in
    ((all.0, rest.0), rest.1)

is_other : (mark w : List ℕ) → bytes_eq mark w ≡ false → w ≡ mark → ⊥
is_other mark w other same = true≢false (sym ((bytes_eq-Decides mark w).1 (sym same)) ∙ other)

abbrev pub Listed : List ℕ → Type 0
Listed w = IsWord w × (w ≢ codes "down")

listed_front : (words : List (List ℕ)) → AllByRecursion IsWord words
    → list_all (λ w. not (bytes_eq (codes "down") w)) words ≡ true → AllByRecursion Listed words
listed_front [] are others = tt
listed_front (w ∷ ws) are others =
    let each = and_parts (not (bytes_eq (codes "down") w)) _ others in
    ((are.0, is_other (codes "down") w (not-true _ each.0)), listed_front ws are.1 each.1)

listed_rest : (words : List (List ℕ)) → AllByRecursion IsWord words → stands_in words (codes "down") ≡ false
    → AllByRecursion Listed words
listed_rest [] are others = tt
listed_rest (w ∷ ws) are others =
    let each = or_parts (bytes_eq (codes "down") w) _ others in
    ((are.0, is_other (codes "down") w each.0), listed_rest ws are.1 each.1)

some_there : (xs : List (List ℕ)) → is_empty xs ≡ false → 0 < length xs
some_there [] some = absurd (true≢false some)
some_there (x ∷ xs) some = omega arith

lists_read : (name : List ℕ) (states : List (List ℕ)) (o : Option (List (List ℕ) × List (List ℕ)))
    → cut_at (codes "down") states ≡ o → are_both_lists o ≡ true → AllByRecursion IsWord states
    → (codes ".insert" ∷ name ∷ codes "up" ∷ states ≡ insert_line (insertion_with name o))
    × ((insertion_with name o).name ≡ name) × IsInsertion (insertion_with name o)
lists_read name states None is are words = absurd (true≢false (sym are))
lists_read name states (Some (up, down)) is are words =
    let facts = cut_facts (codes "down") states up down is in
    let last = and_parts (not (is_empty up) && not (is_empty down)) (not (stands_in down (codes "down"))) are in
    let some = and_parts (not (is_empty up)) (not (is_empty down)) last.0 in
    let parts = split_words IsWord up (codes "down") down (subst (AllByRecursion IsWord) facts.0 words) in (
      ap (λ (ws : List (List ℕ)). codes ".insert" ∷ name ∷ codes "up" ∷ ws) facts.0,
      refl,
      record {
        some_up = some_there up (not-true _ some.0);
        some_down = some_there down (not-true _ some.1);
        words_up = All-from_recursion Listed up (listed_front up parts.0 facts.1);
        words_down = All-from_recursion Listed down (listed_rest down parts.1 (not-true _ last.1));
      },
    )

pub insert_read : (name : List ℕ) (words : List (List ℕ)) → insert_fault name words ≡ None → AllByRecursion IsDark words
    → (words ≡ insert_line (insertion_of words)) × ((insertion_of words).name ≡ name) × IsInsertion (insertion_of words)
insert_read name [] none dark = absurd cc
insert_read name (head ∷ []) none dark = absurd cc
insert_read name (head ∷ w ∷ []) none dark = absurd cc
insert_read name (head ∷ w ∷ up ∷ states) none dark =
    let fifth = and_parts (bytes_eq (codes ".insert") head && bytes_eq name w && bytes_eq (codes "up") up
    && not (list_any is_empty states)) (are_both_lists (cut_at (codes "down") states))
    (not-false _ (not_when _ BadLine none)) in
    let fourth = and_parts (bytes_eq (codes ".insert") head && bytes_eq name w && bytes_eq (codes "up") up)
    (not (list_any is_empty states)) fifth.0 in
    let third = and_parts (bytes_eq (codes ".insert") head && bytes_eq name w) (bytes_eq (codes "up") up) fourth.0 in
    let second = and_parts (bytes_eq (codes ".insert") head) (bytes_eq name w) third.0 in
    let read = lists_read w states (cut_at (codes "down") states) refl fifth.1
    (are_words states dark.1.1.1 (not-true _ fourth.1)) in (
      ap₂ (λ (h u : List ℕ). h ∷ w ∷ u ∷ states) (same_word (codes ".insert") head second.0)
          (same_word (codes "up") up third.1) ∙ read.0,
      read.1 ∙ same_word name w second.1,
      read.2,
    )
