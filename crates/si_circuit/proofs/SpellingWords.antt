-- Words and their marks, one state and one bit more.
use Rattle.std.proofs.Common.{◌≡◌, ℕ, zero, suc, ◌+◌, ◌<◌, ◌≤◌, Bool, true, false, List, [], ◌∷◌, ◌++◌, length, map}
use Rattle.std.proofs.Common.{get_or, filter, append_assoc, refl, sym, ap, subst, ◌∙◌, arith}
use Rattle.std.proofs.lemmas.List.{map-append, append-nil}
use Rattle.std.proofs.lemmas.List.Elements.{filter-append}
use Rattle.std.specs.List.{range_with_len}
use Rattle.si_insert.specs.declared.partition.Class.{Class}
use Rattle.si_insert.specs.Partition.{class_of}
use Rattle.si_insert.specs.GraphOfCopies.{switches}
use Rattle.si_base.specs.Bits.{bit}
use Rattle.si_base.specs.Bytes.{at_sign}
use Rattle.si_insert.specs.Insertion.{Copy}
use Rattle.si_insert.specs.GraphOfCopies.{copies_of}
use Rattle.si_insert.proofs.StateCopyPlaces.{copies_within, range_more}
use Rattle.si_circuit.specs.declared.spelling.Descent.{Descent}
use Rattle.si_circuit.specs.Spelling.{digit, digits, mark, state_word, descent, given_descents}

-- the words of those among the first n states at which the signal switches
abbrev pub words_below : List (List ℕ) → ℕ → List Descent → List Class → Bool → ℕ → List (List ℕ)
words_below states k ds classes up n =
    map (λ s. state_word states k (descent ds s)) (filter (λ s. switches up (class_of classes s)) (range_with_len 0 n))

one_state : (states : List (List ℕ)) (k : ℕ) (ds : List Descent) (classes : List Class) (up : Bool) (n : ℕ)
    → words_below states k ds classes up (n + 1) ≡ words_below states k ds classes up n
    ++ map (λ s. state_word states k (descent ds s)) (filter (λ s. switches up (class_of classes s)) (n ∷ []))
one_state states k ds classes up n =
    let p : ℕ → Bool = λ s. switches up (class_of classes s) in
    let word : ℕ → List ℕ = λ s. state_word states k (descent ds s) in
    ap (λ (xs : List ℕ). map word (filter p xs)) (range_more n)
    ∙ ap (map word) (filter-append p (range_with_len 0 n) (n ∷ []))
    ∙ map-append word (filter p (range_with_len 0 n)) (filter p (n ∷ []))

pub word_more : (states : List (List ℕ)) (k : ℕ) (ds : List Descent) (classes : List Class) (up : Bool) (n : ℕ)
    (old new : List (List ℕ)) → old ≡ words_below states k ds classes up n → switches up (class_of classes n) ≡ true
    → new ≡ old ++ state_word states k (descent ds n) ∷ [] → new ≡ words_below states k ds classes up (n + 1)
word_more states k ds classes up n old new before switching made =
    let word : ℕ → List ℕ = λ s. state_word states k (descent ds s) in
    let one : map word (filter (λ s. switches up (class_of classes s)) (n ∷ [])) ≡ word n ∷ [] = rw switching refl in
    made ∙ ap (λ (xs : List (List ℕ)). xs ++ word n ∷ []) before
    ∙ ap (λ (xs : List (List ℕ)). words_below states k ds classes up n ++ xs) (sym one)
    ∙ sym (one_state states k ds classes up n)

pub word_passed : (states : List (List ℕ)) (k : ℕ) (ds : List Descent) (classes : List Class) (up : Bool) (n : ℕ)
    (old : List (List ℕ)) → old ≡ words_below states k ds classes up n → switches up (class_of classes n) ≡ false
    → old ≡ words_below states k ds classes up (n + 1)
word_passed states k ds classes up n old before still =
    let word : ℕ → List ℕ = λ s. state_word states k (descent ds s) in
    let none : map word (filter (λ s. switches up (class_of classes s)) (n ∷ [])) ≡ [] = rw still refl in
    before ∙ sym (one_state states k ds classes up n
    ∙ ap (λ (xs : List (List ℕ)). words_below states k ds classes up n ++ xs) none
    ∙ append-nil (words_below states k ds classes up n))

-- ---- marks
map_range_more : {B : Type 0} (f : ℕ → B) (n : ℕ)
    → map f (range_with_len 0 (n + 1)) ≡ map f (range_with_len 0 n) ++ f n ∷ []
map_range_more f n = ap (map f) (range_more n) ∙ map-append f (range_with_len 0 n) (n ∷ [])

pub digit_more : (bits n d : ℕ) (b : Bool) (initial old new : List ℕ) → old ≡ initial ++ digits n bits
    → b ≡ bit bits n → d ≡ digit b → new ≡ old ++ d ∷ [] → new ≡ initial ++ digits (n + 1) bits
digit_more bits n d b initial old new before value_is digit_is made =
    let last : d ≡ digit (bit bits n) = digit_is ∙ ap digit value_is in
    made ∙ ap (λ (xs : List ℕ). xs ++ d ∷ []) before ∙ append_assoc initial (digits n bits) (d ∷ [])
    ∙ ap (λ (e : ℕ). initial ++ (digits n bits ++ e ∷ [])) last
    ∙ ap (λ (xs : List ℕ). initial ++ xs) (sym (map_range_more (λ (i : ℕ). digit (bit bits i)) n))

pub marked : (bits k i : ℕ) (word initial end : List ℕ) → 0 < k → k ≤ i → i ≤ k → initial ≡ word ++ at_sign ∷ []
    → end ≡ initial ++ digits i bits → end ≡ word ++ mark k bits
marked bits zero i word initial end some low high start all = absurd (omega arith)
marked bits (suc k) i word initial end some low high start all =
    let count : i ≡ suc k = omega arith in
    all ∙ ap (λ (xs : List ℕ). xs ++ digits i bits) start ∙ append_assoc word (at_sign ∷ []) (digits i bits)
    ∙ ap (λ (n : ℕ). word ++ at_sign ∷ digits n bits) count

-- ---- descents
pub given_more : (n : ℕ) (old new : List Descent) → old ≡ given_descents n
    → new ≡ old ++ record { origin = n; bits = 0 } ∷ [] → new ≡ given_descents (n + 1)
given_more n old new before made =
    let own : ℕ → Descent = λ s. record { origin = s; bits = 0 } in
    made ∙ ap (λ (xs : List Descent). xs ++ own n ∷ []) before ∙ sym (map_range_more own n)

pub copy_within : (classes : List Class) (items : List Copy) (n i : ℕ) (x : Copy) → items ≡ copies_of classes
    → n ≡ length classes → i < length items → x ≡ get_or items i x → x.state < n
copy_within classes items n i x are count within item =
    let P : List Copy → Type 0 = λ xs. (k : ℕ) (d : Copy) → k < length xs → (get_or xs k d).state < n in
    let all : P items = subst P (sym are) (copies_within classes n (sym count)) in
    subst (λ (y : Copy). y.state < n) (sym item) (all i x within)
