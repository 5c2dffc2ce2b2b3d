-- Literals, cubes and sums: what is read is written as it stood, and what is written is read.
use Rattle.std.proofs.Common.{◌≡◌, ◌≢◌, ℕ, ◌+◌, ◌<◌, ◌==◌, Bool, true, false, not, List, [], ◌∷◌, ◌++◌, length}
use Rattle.std.proofs.Common.{get_or, map, refl, sym, ap, subst, ◌∙◌, arith, bytes_eq, codes, eqb-true, unwrap_or, inl}
use Rattle.std.proofs.Common.{inr, ◌⊎◌, Option, Some, None, Ok, if◌then◌else◌, position, IsTrue, AllPairs}
use Rattle.std.proofs.Common.{All}
use Rattle.std.proofs.lemmas.Bool.{true≢false, cases_Bool, and_parts, lt-ltb, false_from_ne_true, not_from_false}
use Rattle.std.proofs.lemmas.List.{append-nil, length_push}
use Rattle.std.proofs.lemmas.List.Elements.{All-from_recursion, All-get_or}
use Rattle.std.proofs.lemmas.List.Quantifiers.{position-Some}
use Rattle.std.proofs.lemmas.List.Splits.{length-slice_split, slice_split_at, slice_split_none}
use Rattle.std.proofs.lemmas.List.Sums.{prefix_len_is}
use Rattle.std.proofs.lemmas.Option.{slice_get-get_or, slice_get-map}
use Rattle.std.proofs.lemmas.Slice.Eq.{bytes_eq-Decides}
use Rattle.std.specs.List.{AllByRecursion, list_all, onto_first, prefix_len}
use Rattle.si_base.proofs.WordLemmas.{excludes}
use Rattle.si_base.specs.Graph.{name_of, names_in}
use Rattle.si_base.specs.Netlist.{Sum}
use Rattle.si_base.specs.NetlistText.{cube_words, more_cubes, sum_words, literal_word}
use Rattle.si_base.specs.Words.{is_signal_name, is_name_byte}
use Rattle.si_base.specs.declared.graph.Signal.{Signal}
use Rattle.si_base.specs.declared.ids.Literal.{Literal}
use Rattle.si_words.specs.Sums.{parts_at, literal_name, is_literal, is_one, place_in}
use Rattle.si_words.proofs.NameWords.{name_bytes}
use Rattle.si_words.proofs.SumWordLemmas.{unmarked, marked}
use Rattle.si_tokens.specs.LineParts.{Part, each, each_after}
use Rattle.si_tokens.specs.SumParts.{literal_at, literal_part, cube_by, sum_by}
use Rattle.si_tokens.proofs.LinePartLemmas.{each_back, each_forth}

-- ---- names with and without the mark
unmarked_name : (name : List ℕ) → list_all is_name_byte name ≡ true → literal_name name ≡ name
unmarked_name [] all = refl
unmarked_name (b ∷ bs) all =
    let parts = and_parts (is_name_byte b) (list_all is_name_byte bs) all in
    rw (excludes is_name_byte 39 b refl parts.0) (ap (λ (l : List ℕ). b ∷ l) (unmarked_name bs parts.1))

abbrev with_sign : List ℕ → Bool → List ℕ
with_sign name plain = name ++ (if plain then [] else 39 ∷ [])

name_back : (name : List ℕ) (plain : Bool) → is_signal_name name ≡ true → literal_name (with_sign name plain) ≡ name
name_back name true good = ap literal_name (append-nil name) ∙ unmarked_name name (name_bytes name good)
name_back name false good = marked name

sign_back : (name : List ℕ) (plain : Bool) → bytes_eq (with_sign name plain) name ≡ plain
sign_back name true = (bytes_eq-Decides _ _).1 (append-nil name)
sign_back name false = false_from_ne_true _ (λ same. longer name 39 ((bytes_eq-Decides _ _).0 same))
  where
    longer : (xs : List ℕ) (b : ℕ) → xs ++ b ∷ [] ≡ xs → ⊥
    longer xs b same = absurd (omega (arith, length_push xs b, ap length same))

-- every word is its name, with a mark behind it or not
marked_or_not : (word : List ℕ) → (literal_name word ≡ word) ⊎ (word ≡ literal_name word ++ 39 ∷ [])
marked_or_not [] = inl refl
marked_or_not (b ∷ []) = elim (cases_Bool (b == 39)) [
  | inl e ↦ inr (rw e (ap (λ (d : ℕ). d ∷ []) (eqb-true b 39 e)))
  | inr e ↦ inl (rw e refl)
]
marked_or_not (b ∷ c ∷ bs) = longer (literal_name (b ∷ c ∷ bs)) (unmarked b c bs) (marked_or_not (c ∷ bs))
  where
    longer : (n : List ℕ) → n ≡ b ∷ literal_name (c ∷ bs)
        → (literal_name (c ∷ bs) ≡ c ∷ bs) ⊎ (c ∷ bs ≡ literal_name (c ∷ bs) ++ 39 ∷ [])
        → (n ≡ b ∷ c ∷ bs) ⊎ (b ∷ c ∷ bs ≡ n ++ 39 ∷ [])
    longer n is (inl same) = inl (is ∙ ap (λ (l : List ℕ). b ∷ l) same)
    longer n is (inr mark) = inr (rw is (ap (λ (l : List ℕ). b ∷ l) mark))

-- ---- literals
pub no_literal : (mark w : List ℕ) → is_literal mark ≡ false → is_literal w ≡ true → bytes_eq mark w ≡ false
no_literal mark w none is = false_from_ne_true _
    (λ same. true≢false (sym is ∙ sym (ap is_literal ((bytes_eq-Decides mark w).0 same)) ∙ none))

module _ (signals : List Signal) where
  abbrev names : List (List ℕ)
  names = names_in signals

  abbrev word : Literal → List ℕ
  word l = literal_word signals l

  abbrev IsThere : Literal → Type 0
  IsThere l = l.sig < length names

  pub name_at : (k : ℕ) → k < length names → name_of signals k ≡ get_or names k []
  name_at k within = ap (λ (o : Option (List ℕ)). unwrap_or o [])
      (sym (slice_get-map (λ (x : Signal). x.name) signals k) ∙ slice_get-get_or names k [] within)

  -- a word spells a literal of a signal that is there, which is written as that word
  pub literal_back : (w : List ℕ) (l : Literal) → literal_part names w ≡ Some (Ok l) → IsThere l × (word l ≡ w)
  literal_back w l is = elim (cases_Bool (is_literal w)) [
    | inl good ↦ by_place (place_in names w) refl (rw good at is)
    | inr other ↦ absurd (let none : None ≡ Some (Ok l) = rw other at is in cc)
  ]
    where
      written : (name : List ℕ) → name ≡ literal_name w → with_sign name (bytes_eq w (literal_name w)) ≡ w
      written name is = elim (cases_Bool (bytes_eq w (literal_name w))) [
        | inl plain ↦ rw plain (append-nil name ∙ is ∙ sym ((bytes_eq-Decides w (literal_name w)).0 plain))
        | inr other ↦ rw other (elim (marked_or_not w) [
          | inl same ↦ absurd (true≢false (sym ((bytes_eq-Decides w (literal_name w)).1 (sym same)) ∙ other))
          | inr mark ↦ ap (λ (n : List ℕ). n ++ 39 ∷ []) is ∙ sym mark
        ])
      ]

      by_place : (o : Option ℕ) → place_in names w ≡ o → Some (literal_at w o) ≡ Some (Ok l) → IsThere l × (word l ≡ w)
      by_place None at is = absurd cc
      by_place (Some k) at is =
          let found = position-Some (λ n. bytes_eq (literal_name w) n) names k [] at in
          let same : record { sig = k; plain = bytes_eq w (literal_name w) } ≡ l = cc in
          let name : name_of signals k ≡ literal_name w = name_at k found.0 ∙ sym ((bytes_eq-Decides _ _).0 found.1) in
          subst (λ (m : Literal). IsThere m × (word m ≡ w)) same (found.0, written (name_of signals k) name)

  module _ (good : All (λ w. IsTrue (is_signal_name w)) names) (distinct : AllPairs (λ x y. x ≢ y) names) where
    pub good_name : (k : ℕ) → k < length names → is_signal_name (name_of signals k) ≡ true
    good_name k within =
        rw (name_at k within) (All-get_or (λ (w : List ℕ). IsTrue (is_signal_name w)) names k [] within good)

    pub place : (k : ℕ) → k < length names → position (λ n. bytes_eq (get_or names k []) n) names ≡ Some k
    place k within =
        let at : prefix_len (λ n. not (bytes_eq (get_or names k []) n)) names ≡ k =
        prefix_len_is (λ n. not (bytes_eq (get_or names k []) n)) names k [] (omega arith)
        (λ j before. not_from_false _ (apart j before))
        (λ there. ap not ((bytes_eq-Decides (get_or names k []) (get_or names k [])).1 refl)) in
        rw (at, lt-ltb k (length names) within) refl
      where
        apart : (j : ℕ) → j < k → bytes_eq (get_or names k []) (get_or names j []) ≡ false
        apart j before = false_from_ne_true _
            (λ same. distinct j k [] before within (sym ((bytes_eq-Decides _ _).0 same)))

    pub is_word : (l : Literal) → IsThere l → is_literal (word l) ≡ true
    is_word l there =
        ap is_signal_name (name_back (name_of signals l.sig) l.plain (good_name l.sig there)) ∙ good_name l.sig there

    pub literal_forth : (l : Literal) → IsThere l → literal_part names (word l) ≡ Some (Ok l)
    literal_forth l there =
        let name : literal_name (word l) ≡ name_of signals l.sig =
        name_back (name_of signals l.sig) l.plain (good_name l.sig there) in
        let at : place_in names (word l) ≡ Some l.sig =
        ap (λ (w : List ℕ). position (λ n. bytes_eq w n) names) (name ∙ name_at l.sig there) ∙ place l.sig there in
        let plain : bytes_eq (word l) (literal_name (word l)) ≡ l.plain =
        ap (bytes_eq (word l)) name ∙ sign_back (name_of signals l.sig) l.plain in
        rw (is_word l there, at) (ap (λ (p : Bool). Some (Ok (record { sig = l.sig; plain = p }))) plain)

-- ---- the words of a sum, all at once

pub append_all : {A : Type 0} (P : A → Type 0) (xs ys : List A) → AllByRecursion P xs → AllByRecursion P ys
    → AllByRecursion P (xs ++ ys)
append_all P [] ys all other = other
append_all P (x ∷ xs) ys all other = (all.0, append_all P xs ys all.1 other)

-- what holds of the words of literals that are here, and of the words that are none, holds of all words
module _ (P : List ℕ → Type 0) (Here : Literal → Type 0) (signals : List Signal)
    (every : (l : Literal) → Here l → P (literal_word signals l)) (one : P (codes "1")) where
  pub of_literals : (cube : List Literal) → AllByRecursion Here cube
      → AllByRecursion P (map (literal_word signals) cube)
  of_literals [] here = tt
  of_literals (l ∷ ls) here = (every l here.0, of_literals ls here.1)

  pub of_cube : (cube : List Literal) → AllByRecursion Here cube → AllByRecursion P (cube_words signals cube)
  of_cube [] here = (one, tt)
  of_cube (l ∷ ls) here = of_literals (l ∷ ls) here

  of_more : (sum : Sum) → P (codes "+") → AllByRecursion (AllByRecursion Here) sum
      → AllByRecursion P (more_cubes signals sum)
  of_more [] plus here = tt
  of_more (cube ∷ cubes) plus here =
      (plus, append_all P (cube_words signals cube) _ (of_cube cube here.0) (of_more cubes plus here.1))

  pub of_sum : (sum : Sum) → P (codes "0") → P (codes "+") → AllByRecursion (AllByRecursion Here) sum
      → AllByRecursion P (sum_words signals sum)
  of_sum [] nought plus here = (nought, tt)
  of_sum (cube ∷ cubes) nought plus here =
      append_all P (cube_words signals cube) _ (of_cube cube here.0) (of_more cubes plus here.1)

pub only_word : (word : List ℕ) (words : List (List ℕ)) → is_one word words ≡ true → words ≡ word ∷ []
only_word word [] one = absurd (true≢false (sym one))
only_word word (w ∷ []) one = ap (λ (x : List ℕ). x ∷ []) (sym ((bytes_eq-Decides word w).0 one))
only_word word (w ∷ v ∷ ws) one = absurd (true≢false (sym one))

-- ---- cubes
module _ (signals : List Signal) (next : List Literal → List ℕ → Part Literal) where
  -- what is read is written as it stood, and has what each literal keeps
  pub cube_back : (Keeps : List Literal → Type 0) → Keeps []
      → ((before : List Literal) (w : List ℕ) (l : Literal) → Keeps before → next before w ≡ Some (Ok l)
      → Keeps (before ++ l ∷ []) × (literal_word signals l ≡ w))
      → (words : List (List ℕ)) (cube : List Literal) → cube_by next words ≡ Some (Ok cube)
      → Keeps cube × (cube_words signals cube ≡ words)
  cube_back Keeps none step [] cube is = absurd cc
  cube_back Keeps none step (w ∷ ws) cube is = elim (cases_Bool (is_one (codes "1") (w ∷ ws))) [
    | inl one ↦ (
        let full : Some (Ok []) ≡ Some (Ok cube) = rw one at is in
        let empty : [] ≡ cube = cc in
        subst (λ (c : List Literal). Keeps c × (cube_words signals c ≡ w ∷ ws)) empty
        (none, sym (only_word (codes "1") (w ∷ ws) one)))
    | inr many ↦ (
        let (kept, back) = each_back next (literal_word signals) Keeps step (w ∷ ws) cube none (rw many at is) in
        (kept, as_cube cube back))
  ]
    where
      as_cube : (c : List Literal) → map (literal_word signals) c ≡ w ∷ ws → cube_words signals c ≡ w ∷ ws
      as_cube [] same = absurd cc
      as_cube (l ∷ ls) same = same

not_one : (mark w : List ℕ) (ws : List (List ℕ)) → is_literal mark ≡ false → is_literal w ≡ true
    → is_one mark (w ∷ ws) ≡ false
not_one mark w [] none is = no_literal mark w none is
not_one mark w (v ∷ ws) none is = refl

pub cube_forth : (signals : List Signal) (next : List Literal → List ℕ → Part Literal) (cube : List Literal)
    → AllByRecursion (λ (l : Literal). is_literal (literal_word signals l) ≡ true) cube
    → each_after next [] (map (literal_word signals) cube) ≡ Some (Ok cube)
    → cube_by next (cube_words signals cube) ≡ Some (Ok cube)
cube_forth signals next [] are read = refl
cube_forth signals next (l ∷ ls) are read =
    rw (not_one (codes "1") (literal_word signals l) (map (literal_word signals) ls) refl are.0) read

-- ---- sums: the parts between the words `+`, and the words again

abbrev more_parts : List (List (List ℕ)) → List (List ℕ)
more_parts [] = []
more_parts (p ∷ ps) = codes "+" ∷ p ++ more_parts ps

abbrev join_parts : List (List (List ℕ)) → List (List ℕ)
join_parts [] = []
join_parts (p ∷ ps) = p ++ more_parts ps

first_part : (w : List ℕ) (parts : List (List (List ℕ))) → join_parts (onto_first w parts) ≡ w ∷ join_parts parts
first_part w [] = refl
first_part w (p ∷ ps) = refl

-- a list of parts has a first
some_parts : (words : List (List ℕ))
    → more_parts (parts_at (codes "+") words) ≡ codes "+" ∷ join_parts (parts_at (codes "+") words)
some_parts [] = refl
some_parts (w ∷ ws) = elim (cases_Bool (bytes_eq (codes "+") w)) [
  | inl plus ↦ rw plus refl
  | inr other ↦ rw other (onto_some w (parts_at (codes "+") ws))
]
  where
    onto_some : (v : List ℕ) (parts : List (List (List ℕ)))
        → more_parts (onto_first v parts) ≡ codes "+" ∷ join_parts (onto_first v parts)
    onto_some v [] = refl
    onto_some v (p ∷ ps) = refl

parts_joined : (words : List (List ℕ)) → join_parts (parts_at (codes "+") words) ≡ words
parts_joined [] = refl
parts_joined (w ∷ ws) = elim (cases_Bool (bytes_eq (codes "+") w)) [
  | inl plus ↦ rw plus (some_parts ws ∙ ap (λ (x : List ℕ). x ∷ join_parts (parts_at (codes "+") ws))
      ((bytes_eq-Decides (codes "+") w).0 plus) ∙ ap (λ (xs : List (List ℕ)). w ∷ xs) (parts_joined ws))
  | inr other ↦
      rw other (first_part w (parts_at (codes "+") ws) ∙ ap (λ (xs : List (List ℕ)). w ∷ xs) (parts_joined ws))
]

no_parts : (words : List (List ℕ)) → [] ≡ parts_at (codes "+") words → ⊥
no_parts words none = clash _ _ (length-slice_split (bytes_eq (codes "+")) words) (sym (ap length none))
  where
    clash : (m n : ℕ) → m ≡ n + 1 → m ≡ 0 → ⊥
    clash m n e z = absurd (omega arith)

module _ (signals : List Signal) (cube : List (List ℕ) → Part (List Literal)) where
  more_are : (cubes : Sum) → more_cubes signals cubes ≡ more_parts (map (cube_words signals) cubes)
  more_are [] = refl
  more_are (c ∷ cs) = ap (λ (ws : List (List ℕ)). codes "+" ∷ cube_words signals c ++ ws) (more_are cs)

  as_sum : (words : List (List ℕ)) (sum : Sum) → map (cube_words signals) sum ≡ parts_at (codes "+") words
      → sum_words signals sum ≡ words
  as_sum words [] same = absurd (no_parts words same)
  as_sum words (c ∷ cs) same = ap (λ (ws : List (List ℕ)). cube_words signals c ++ ws) (more_are cs)
      ∙ ap join_parts same ∙ parts_joined words

  pub sum_back : (Keeps : Sum → Type 0) → Keeps []
      → ((before : Sum) (ws : List (List ℕ)) (c : List Literal) → Keeps before → cube ws ≡ Some (Ok c)
      → Keeps (before ++ c ∷ []) × (cube_words signals c ≡ ws))
      → (words : List (List ℕ)) (sum : Sum) → sum_by cube words ≡ Some (Ok sum)
      → Keeps sum × (sum_words signals sum ≡ words)
  sum_back Keeps none step words sum is = elim (cases_Bool (is_one (codes "0") words)) [
    | inl one ↦ (
        let empty : Some (Ok []) ≡ Some (Ok sum) = rw one at is in
        let same : [] ≡ sum = cc in
        subst (λ (s : Sum). Keeps s × (sum_words signals s ≡ words)) same
        (none, sym (only_word (codes "0") words one)))
    | inr many ↦ (
        let (kept, back) = each_back (λ before. cube) (cube_words signals) Keeps step (parts_at (codes "+") words) sum
        none (rw many at is) in
        (kept, as_sum words sum back))
  ]

-- what is written is read
module _ (signals : List Signal) (Here : Literal → Type 0)
    (is_word : (l : Literal) → Here l → is_literal (literal_word signals l) ≡ true) where
  no_plus : (c : List Literal) → AllByRecursion Here c
      → All (λ w. bytes_eq (codes "+") w ≡ false) (cube_words signals c)
  no_plus c here = All-from_recursion (λ (w : List ℕ). bytes_eq (codes "+") w ≡ false) (cube_words signals c)
      (of_cube (λ (w : List ℕ). bytes_eq (codes "+") w ≡ false) Here signals
      (λ l is. no_literal (codes "+") (literal_word signals l) refl (is_word l is)) refl c here)

  split : (c : List Literal) (cs : Sum) → AllByRecursion (AllByRecursion Here) (c ∷ cs)
      → parts_at (codes "+") (sum_words signals (c ∷ cs)) ≡ map (cube_words signals) (c ∷ cs)
  split c [] here = ap (parts_at (codes "+")) (append-nil (cube_words signals c))
      ∙ slice_split_none (bytes_eq (codes "+")) (cube_words signals c) (no_plus c here.0)
  split c (d ∷ cs) here = slice_split_at (bytes_eq (codes "+")) (cube_words signals c)
      (codes "+") (sum_words signals (d ∷ cs)) (no_plus c here.0) refl
      ∙ ap (λ (ps : List (List (List ℕ))). cube_words signals c ∷ ps) (split d cs here.1)

  not_nought : (c : List Literal) (cs : Sum) → AllByRecursion Here c
      → is_one (codes "0") (sum_words signals (c ∷ cs)) ≡ false
  not_nought [] [] here = refl
  not_nought [] (d ∷ cs) here = refl
  not_nought (l ∷ ls) cs here = not_one (codes "0") (literal_word signals l)
      (map (literal_word signals) ls ++ more_cubes signals cs) refl (is_word l here.0)

  pub sum_forth : (cube : List (List ℕ) → Part (List Literal)) (sum : Sum)
      → AllByRecursion (AllByRecursion Here) sum
      → AllByRecursion (λ c. cube (cube_words signals c) ≡ Some (Ok c)) sum
      → sum_by cube (sum_words signals sum) ≡ Some (Ok sum)
  sum_forth cube [] here read = refl
  sum_forth cube (c ∷ cs) here read = rw (not_nought c cs here.0)
      (ap (each cube) (split c cs here) ∙ each_forth cube (cube_words signals) [] (c ∷ cs) read)
