-- The places of the first copies, one state further; and the copies of one state more.
use Rattle.std.proofs.Common.{◌^◌, map, ◌≡◌, ℕ, Bool, true, false, ◌+◌, ◌<◌, ◌≤◌, ◌*◌, List}
use Rattle.std.proofs.Common.{[], ◌∷◌, ◌++◌, length, take, get_or, All, refl, sym, ap, subst, ◌∙◌, arith, inl, inr}
use Rattle.std.proofs.lemmas.Bool.{cases_lt}
use Rattle.std.proofs.lemmas.List.{length_push, get_or_push, get_or_append_left, get_or_default, take_more}
use Rattle.std.proofs.lemmas.List.{length-take-le}
use Rattle.std.proofs.lemmas.List.Elements.{Contains-get_or}
use Rattle.std.proofs.lemmas.List.FromFn.{map-range_with_len_more}
use Rattle.std.specs.List.{range_with_len}
use Rattle.si_base.specs.Limits.{max_states}
use Rattle.si_insert.specs.declared.partition.Class.{Class}
use Rattle.si_insert.specs.declared.partition.Class.TheVariants.{Low, Rising, High, Falling}
use Rattle.si_insert.specs.Partition.{class_of}
use Rattle.si_insert.specs.Insertion.{Copy}
use Rattle.si_insert.specs.Accepted.{copy_count}
use Rattle.si_insert.specs.GraphOfCopies.{AreFirsts, copies_from, copies_of, copies_before, place}
use Rattle.si_insert.proofs.StateCopySums.{place_is}
use Rattle.si_insert.proofs.PairTests.{few_copies}
use Rattle.si_insert.proofs.ApplyInserts.{found}

-- the places of the first n states
pub record FirstsBelow (classes : List Class) (n : ℕ) (firsts : List ℕ) : Type 0 where
  pub count : length firsts ≡ n
  pub firsts_are : (s : ℕ) → s < n → get_or firsts s 0 ≡ copy_count (take s classes)

pub firsts_more : (classes : List Class) (n k : ℕ) (firsts new : List ℕ) → FirstsBelow classes n firsts
    → k ≡ copy_count (take n classes) → new ≡ firsts ++ k ∷ [] → FirstsBelow classes (n + 1) new
firsts_more classes n k firsts new f is made = rw made (record {
  count = omega (arith, length_push firsts k, f.count);
  firsts_are = λ s small. elim (cases_lt s n) [
    | inl below ↦ get_or_append_left firsts (k ∷ []) 0 s (omega (arith, f.count)) ∙ f.firsts_are s below
    | inr above ↦
        (let same : s ≡ n = omega arith in
        get_or_push firsts k 0 s (f.count ∙ sym same) ∙ is ∙ ap (λ (i : ℕ). copy_count (take i classes)) (sym same))
  ];
})

-- the copies of one state more
pub copies_push : (i : ℕ) (xs : List Class) (c : Class)
    → copies_from i (xs ++ c ∷ []) ≡ copies_from i xs ++ copies_from (i + length xs) (c ∷ [])
copies_push i [] c = ap (λ (k : ℕ). copies_from k (c ∷ [])) (omega arith)
copies_push i (Low ∷ xs) c =
    ap (λ (rest : List Copy). record { state = i; value = false } ∷ rest)
    (copies_push (i + 1) xs c ∙ ap (λ (k : ℕ). copies_from (i + 1) xs ++ copies_from k (c ∷ [])) (omega arith))
copies_push i (High ∷ xs) c =
    ap (λ (rest : List Copy). record { state = i; value = true } ∷ rest)
    (copies_push (i + 1) xs c ∙ ap (λ (k : ℕ). copies_from (i + 1) xs ++ copies_from k (c ∷ [])) (omega arith))
copies_push i (Rising ∷ xs) c =
    ap (λ (rest : List Copy). record { state = i; value = false } ∷ record { state = i; value = true } ∷ rest)
    (copies_push (i + 1) xs c ∙ ap (λ (k : ℕ). copies_from (i + 1) xs ++ copies_from k (c ∷ [])) (omega arith))
copies_push i (Falling ∷ xs) c =
    ap (λ (rest : List Copy). record { state = i; value = false } ∷ record { state = i; value = true } ∷ rest)
    (copies_push (i + 1) xs c ∙ ap (λ (k : ℕ). copies_from (i + 1) xs ++ copies_from k (c ∷ [])) (omega arith))

-- each copy is one of a state
pub copies_within : (classes : List Class) (n : ℕ) → length classes ≡ n → All (λ x. x.state < n) (copies_of classes)
copies_within classes n count k d below =
    let x : Copy = get_or (copies_of classes) k d in
    let f = found 0 classes x (Contains-get_or (copies_of classes) k d below) in
    omega (arith, f.at, f.within, count)

-- the place of a copy, by the place of the first copy of its state
pub place_from : (classes : List Class) (firsts : List ℕ) (s : ℕ) (b : Bool) → AreFirsts classes firsts
    → s < length classes → place classes s b ≡ get_or firsts s 0 + copies_before (class_of classes s) b
place_from classes firsts s b f within =
    place_is classes s b within ∙ ap (λ (n : ℕ). n + copies_before (class_of classes s) b) (sym (f.firsts_are s within))

-- and it isn't too large for a state's number
pub first_small : (classes : List Class) (firsts : List ℕ) (s : ℕ) → AreFirsts classes firsts → s < length classes
    → get_or firsts s 0 ≤ 2 * length classes
first_small classes firsts s f within =
    let few = few_copies (take s classes) in
    let size = length-take-le s classes (omega arith) in
    omega (arith, few, f.firsts_are s within, size)

-- the same where the code has opened the numbers
pub opened_place : (classes : List Class) (firsts : List ℕ) (s k f r n : ℕ) (b : Bool) → k ≡ s → f ≡ r
    → r ≡ get_or firsts k r → n ≡ copies_before (class_of classes k) b → AreFirsts classes firsts → s < length classes
    → f + n ≡ place classes s b
opened_place classes firsts s k f r n b same first at more is within =
    let P : ℕ → Type 0 = λ i. r ≡ get_or firsts i r in
    let Q : ℕ → Type 0 = λ i. n ≡ copies_before (class_of classes i) b in
    let there : r ≡ get_or firsts s 0 = subst P same at ∙ get_or_default firsts s r 0 (omega (arith, is.count)) in
    let number : n ≡ copies_before (class_of classes s) b = subst Q same more in
    let all = place_from classes firsts s b is within in
    omega (arith, first, there, number, all)

pub opened_small : (classes : List Class) (firsts : List ℕ) (s k f r n : ℕ) → k ≡ s → f ≡ r → r ≡ get_or firsts k r
    → n ≤ 1 → AreFirsts classes firsts → s < length classes → length classes ≤ max_states → f + n < 2 ^ 32
opened_small classes firsts s k f r n same first at small is within few =
    let P : ℕ → Type 0 = λ i. r ≡ get_or firsts i r in
    let there : r ≡ get_or firsts s 0 = subst P same at ∙ get_or_default firsts s r 0 (omega (arith, is.count)) in
    let low = first_small classes firsts s is within in
    omega (arith, first, there, small, low, few)

pub copies_more : (classes : List Class) (s : ℕ) (d : Class) (old new : List Copy) → s < length classes
    → old ≡ copies_from 0 (take s classes) → new ≡ old ++ copies_from s (get_or classes s d ∷ [])
    → new ≡ copies_from 0 (take (s + 1) classes)
copies_more classes s d old new within before made =
    let size = length-take-le s classes (omega arith) in
    let at : 0 + length (take s classes) ≡ s = omega (arith, size) in
    made ∙ ap (λ (xs : List Copy). xs ++ copies_from s (get_or classes s d ∷ [])) before
    ∙ ap (λ (k : ℕ). copies_from 0 (take s classes) ++ copies_from k (get_or classes s d ∷ [])) (sym at)
    ∙ sym (copies_push 0 (take s classes) (get_or classes s d))
    ∙ ap (copies_from 0) (sym (take_more classes s d within))

pub range_more : (k : ℕ) → range_with_len 0 (k + 1) ≡ range_with_len 0 k ++ k ∷ []
range_more k =
    sym (map-id (range_with_len 0 (k + 1))) ∙ map-range_with_len_more (λ (i : ℕ). i) 0 k k (omega arith)
    ∙ ap (λ (xs : List ℕ). xs ++ k ∷ []) (map-id (range_with_len 0 k))
  where
    map-id : (xs : List ℕ) → map (λ (i : ℕ). i) xs ≡ xs
    map-id [] = refl
    map-id (x ∷ xs) = ap (λ (ys : List ℕ). x ∷ ys) (map-id xs)
