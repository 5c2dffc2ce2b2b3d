-- Words.
use Rattle.std.proofs.Common.{◌≡◌, ℕ, ◌-◌, ◌==◌, Bool, false, List, [], ◌∷◌, ◌++◌, length, take, suc, ◌+◌}
use Rattle.std.proofs.Common.{drop, map, refl, ap, ◌∙◌, arith, inl, inr}
use Rattle.std.specs.List.{list_any, slice_split, prefix_len, onto_first}
use Rattle.std.proofs.lemmas.Bool.{cases_Bool}
use Rattle.si_words.specs.Sums.{literal_name}

pub list_any-map : {A B : Type 0} (f : A → B) (p : B → Bool) (xs : List A)
    → list_any (λ x. p (f x)) xs ≡ list_any p (map f xs)
list_any-map f p [] = refl
list_any-map f p (x ∷ xs) = rw (list_any-map f p xs) refl

pub prefix_len-map : {A B : Type 0} (f : A → B) (p : B → Bool) (xs : List A)
    → prefix_len (λ x. p (f x)) xs ≡ prefix_len p (map f xs)
prefix_len-map f p [] = refl
prefix_len-map f p (x ∷ xs) = rw (prefix_len-map f p xs) refl

pub unmarked : (c b : ℕ) (bs : List ℕ) → literal_name (c ∷ (b ∷ bs)) ≡ c ∷ literal_name (b ∷ bs)
unmarked c b bs = elim (cases_Bool (c == 39)) [ inl e ↦ rw e refl | inr e ↦ rw e refl ]

pub marked : (xs : List ℕ) → literal_name (xs ++ 39 ∷ []) ≡ xs
marked [] = refl
marked (b ∷ []) = unmarked b 39 []
marked (b ∷ c ∷ bs) = unmarked b c (bs ++ 39 ∷ []) ∙ ap (λ (l : List ℕ). b ∷ l) (marked (c ∷ bs))

pub no_mark : (xs : List ℕ) (d : ℕ) → (d == 39) ≡ false → literal_name (xs ++ d ∷ []) ≡ xs ++ d ∷ []
no_mark [] d e = rw e refl
no_mark (b ∷ []) d e = unmarked b d [] ∙ ap (λ (l : List ℕ). b ∷ l) (no_mark [] d e)
no_mark (b ∷ c ∷ bs) d e = unmarked b c (bs ++ d ∷ []) ∙ ap (λ (l : List ℕ). b ∷ l) (no_mark (c ∷ bs) d e)

onto_first-map : {A B : Type 0} (f : A → B) (x : A) (ls : List (List A))
    → map (map f) (onto_first x ls) ≡ onto_first (f x) (map (map f) ls)
onto_first-map f x [] = refl
onto_first-map f x (l ∷ ls) = refl

pub slice_split-map : {A B : Type 0} (f : A → B) (p : B → Bool) (xs : List A)
    → map (map f) (slice_split (λ x. p (f x)) xs) ≡ slice_split p (map f xs)
slice_split-map f p [] = refl
slice_split-map {A = A} f p (x ∷ xs) = elim (cases_Bool (p (f x))) [
  | inl yes_it ↦ rw (yes_it, slice_split-map f p xs) refl
  | inr no_it ↦ rw (no_it, onto_first-map f x (slice_split (λ (y : A). p (f y)) xs), slice_split-map f p xs) refl
]

-- what a pattern with a rest gives as the rest
pub tail_is : {A : Type 0} (xs : List A) → take (length xs - 1) (drop 1 xs) ≡ drop 1 xs
tail_is [] = refl
tail_is (x ∷ xs) = take_all xs (length (x ∷ xs) - 1) (omega arith)
  where
    take_all : {B : Type 0} (ys : List B) (n : ℕ) → n ≡ length ys → take n ys ≡ ys
    take_all [] n e = rw e refl
    take_all (y ∷ ys) n e = rw e (ap (λ l. y ∷ l) (take_all ys (length ys) refl))

pub behind : (xs ys : List (List ℕ)) (mark : List ℕ) → drop (length xs + 1) (xs ++ mark ∷ ys) ≡ ys
behind [] ys mark = refl
behind (x ∷ xs) ys mark = let e : suc (length xs) + 1 ≡ suc (length xs + 1) = omega arith in rw e (behind xs ys mark)
