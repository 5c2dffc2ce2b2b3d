-- What a writer of many parts has still to add, a part at a time.
use Rattle.std.proofs.Common.{◌≡◌, ℕ, suc, ◌+◌, ◌-◌, ◌<◌, ◌≤◌, List, []}
use Rattle.std.proofs.Common.{◌∷◌, ◌++◌, flat_map, map, drop, length, get_or, refl}
use Rattle.std.proofs.Common.{sym, ap, ap₂, zero, ◌∙◌, add-one, append_assoc, arith}
use Rattle.std.specs.List.{range_with_len}
use Rattle.std.proofs.Math.Seq.{drop-cons}
use Rattle.std.proofs.lemmas.List.{append-nil, drop_all}
use Rattle.si_pictures.specs.CodeWord.{first}

added : (text part rest old new : List ℕ) → text ++ (part ++ rest) ≡ old → new ≡ text ++ part → new ++ rest ≡ old
added text part rest old new so_far is =
    ap (λ (t : List ℕ). t ++ rest) is ∙ append_assoc text part rest ∙ so_far

-- ---- the parts of the places of n states or signals, from the k-th on
abbrev pub parts_from : (ℕ → List ℕ) → ℕ → ℕ → List ℕ
parts_from part n k = flat_map part (range_with_len k (n - k))

pub part_more : (part : ℕ → List ℕ) (n k : ℕ) (old text new : List ℕ) → k < n
    → text ++ parts_from part n k ≡ old → new ≡ text ++ part k → new ++ parts_from part n (k + 1) ≡ old
part_more part n k old text new within so_far is =
    let size : n - k ≡ suc (n - (k + 1)) = omega arith in
    let left : parts_from part n k ≡ part k ++ parts_from part n (k + 1) =
    ap (λ m. flat_map part (range_with_len k m)) size in
    added text (part k) (parts_from part n (k + 1)) old new
    (ap (λ (t : List ℕ). text ++ t) (sym left) ∙ so_far) is

pub parts_done : (part : ℕ → List ℕ) (n k : ℕ) (text old : List ℕ) → n ≤ k
    → text ++ parts_from part n k ≡ old ++ parts_from part n 0 → text ≡ old ++ flat_map part (first n)
parts_done part n k text old all so_far =
    let none : n - k ≡ 0 = omega arith in
    let whole : n - 0 ≡ n = omega arith in
    sym (append-nil text) ∙ ap (λ m. text ++ flat_map part (range_with_len k m)) (sym none) ∙ so_far
    ∙ ap (λ m. old ++ flat_map part (range_with_len 0 m)) whole

-- parts that are the same at each place
pub same_parts : {A : Type 0} (f g : ℕ → A) (n : ℕ) → ((k : ℕ) → k < n → f k ≡ g k) → map f (first n) ≡ map g (first n)
same_parts f g n same = from 0 n (λ k low high. same k (omega (arith, high)))
  where
    from : (a m : ℕ) → ((k : ℕ) → a ≤ k → k < a + m → f k ≡ g k)
        → map f (range_with_len a m) ≡ map g (range_with_len a m)
    from a zero agree = refl
    from a (suc m) agree =
        ap₂ (λ x xs. x ∷ xs) (agree a (omega arith) (omega arith))
        (from (a + 1) m (λ k low high. agree k (omega (arith, low)) (omega (arith, high))))

-- ---- the parts of the items of a list, from the i-th on
abbrev pub items_from : {A : Type 0} → (A → List ℕ) → List A → ℕ → List ℕ
items_from part xs i = flat_map part (drop i xs)

pub item_more : {A : Type 0} (part : A → List ℕ) (xs : List A) (i : ℕ) (x : A) (old text new : List ℕ) → i < length xs
    → x ≡ get_or xs i x → text ++ items_from part xs i ≡ old → new ≡ text ++ part x
    → new ++ items_from part xs (i + 1) ≡ old
item_more part xs i x old text new within at so_far is =
    let left : items_from part xs i ≡ part x ++ items_from part xs (i + 1) =
    ap (λ (l : List _). flat_map part l) (drop-cons xs i x within)
    ∙ ap (λ y. part y ++ items_from part xs (suc i)) (sym at) ∙ rw add-one refl in
    added text (part x) (items_from part xs (i + 1)) old new
    (ap (λ (t : List ℕ). text ++ t) (sym left) ∙ so_far) is

pub items_done : {A : Type 0} (part : A → List ℕ) (xs : List A) (i : ℕ) (text old : List ℕ) → length xs ≤ i
    → text ++ items_from part xs i ≡ old ++ items_from part xs 0 → text ≡ old ++ flat_map part xs
items_done part xs i text old all so_far =
    sym (append-nil text) ∙ ap (λ (l : List _). text ++ flat_map part l) (sym (drop_all i xs all)) ∙ so_far

-- ---- parts of parts
pub mapped_parts : {A B : Type 0} (part : B → List ℕ) (f : A → B) (xs : List A)
    → flat_map part (map f xs) ≡ flat_map (λ x. part (f x)) xs
mapped_parts part f [] = refl
mapped_parts part f (x ∷ xs) = ap (λ (t : List ℕ). part (f x) ++ t) (mapped_parts part f xs)
