-- One more of a list.
use Rattle.std.proofs.Common.{◌≡◌, ◌≢◌, ℕ, zero, suc, ◌<◌, ◌+◌, List, [], ◌∷◌, ◌++◌, map, take, length, get_or}
use Rattle.std.proofs.Common.{slice_get, Some}
use Rattle.std.proofs.Common.{zip, AllPairs, Contains, refl, sym, ap, ap₂, subst, ◌∙◌, arith, append_assoc, Vec}
use Rattle.std.proofs.Common.{vec_items}
use Rattle.std.specs.Borrow.{Bor}
use Rattle.std.specs.List.{join_with_byte}
use Rattle.std.specs.declared.alloc.Global.{Global}
use Rattle.std.proofs.lemmas.List.{get_or-map}
use Rattle.si_composing.proofs.TupleLemmas.{distinct_place, there_is}
use Rattle.si_words.specs.Loops.Reads.{words_now}

pub next : (k : ℕ) → k + 1 ≡ suc k
next k = omega arith

pub taken_more : {X : Type 0} (xs : List X) (k : ℕ) (x : X) → k < length xs → x ≡ get_or xs k x
    → take (suc k) xs ≡ take k xs ++ x ∷ []
taken_more [] k x below at = absurd (omega (arith, below))
taken_more {X} (y ∷ ys) zero x below at = ap (λ (z : X). z ∷ []) (sym at)
taken_more {X} (y ∷ ys) (suc k) x below at =
    ap (λ (zs : List X). y ∷ zs) (taken_more ys k x (omega (arith, below)) at)

-- the list behind a place
pub rest_behind : {X : Type 0} (xs : List X) (k : ℕ) (x : X) → k < length xs → x ≡ get_or xs k x
    → (more : List X) × (take k xs ++ x ∷ more ≡ xs)
rest_behind [] k x below at = absurd (omega (arith, below))
rest_behind {X} (y ∷ ys) zero x below at = (ys, ap (λ (z : X). z ∷ ys) at)
rest_behind {X} (y ∷ ys) (suc k) x below at =
    let found = rest_behind ys k x (omega (arith, below)) at in
    (found.0, ap (λ (zs : List X). y ∷ zs) found.1)

pub taken_all : {X : Type 0} (xs : List X) (k : ℕ) → k ≡ length xs → take k xs ≡ xs
taken_all [] zero all = refl
taken_all [] (suc k) all = refl
taken_all (x ∷ xs) zero all = absurd (omega (arith, all))
taken_all {X} (x ∷ xs) (suc k) all = ap (λ (ys : List X). x ∷ ys) (taken_all xs k (omega (arith, all)))

-- ---- words with `|` between them
joined_push : (v : List ℕ) (vs : List (List ℕ)) (w : List ℕ)
    → join_with_byte 124 ((v ∷ vs) ++ w ∷ []) ≡ (join_with_byte 124 (v ∷ vs) ++ 124 ∷ []) ++ w
joined_push v [] w = sym (append_assoc v (124 ∷ []) w)
joined_push v (u ∷ us) w =
    let j = join_with_byte 124 (u ∷ us) in
    ap (λ (t : List ℕ). v ++ 124 ∷ t) (joined_push u us w)
    ∙ sym (ap (λ (t : List ℕ). t ++ w) (append_assoc v (124 ∷ j) (124 ∷ []))
    ∙ append_assoc v ((124 ∷ j) ++ 124 ∷ []) w)

pub joined_more : (ws : List (List ℕ)) (k : ℕ) (w old mid new : List ℕ) → k < length ws → w ≡ get_or ws k w
    → old ≡ join_with_byte 124 (take k ws) → (k ≡ 0 → mid ≡ old) → (0 < k → mid ≡ old ++ 124 ∷ [])
    → new ≡ mid ++ w → new ≡ join_with_byte 124 (take (k + 1) ws)
joined_more [] k w old mid new below at old_is first later new_is = absurd (omega (arith, below))
joined_more (v ∷ vs) zero w old mid new below at old_is first later new_is =
    new_is ∙ ap (λ (t : List ℕ). t ++ w) (first refl ∙ old_is) ∙ at
joined_more (v ∷ vs) (suc k) w old mid new below at old_is first later new_is =
    let grown : mid ≡ join_with_byte 124 (v ∷ take k vs) ++ 124 ∷ [] =
    later (omega arith) ∙ ap (λ (t : List ℕ). t ++ 124 ∷ []) old_is in
    let taken : take (suc (suc k)) (v ∷ vs) ≡ (v ∷ take k vs) ++ w ∷ [] =
    taken_more (v ∷ vs) (suc k) w below at in
    new_is ∙ ap (λ (t : List ℕ). t ++ w) grown ∙ sym (joined_push v (take k vs) w)
    ∙ ap (join_with_byte 124) (sym taken)
    ∙ ap (λ (n : ℕ). join_with_byte 124 (take n (v ∷ vs))) (sym (next (suc k)))

-- ---- values of a list
pub mapped_at : {X Y : Type 0} (f : X → Y) (xs : List X) (k : ℕ) (x : X) → k < length xs → x ≡ get_or xs k x
    → f x ≡ get_or (map f xs) k (f x)
mapped_at {X} {Y} f xs k x below at = ap f at ∙ sym (get_or-map f xs k x (f x) below)

mapped_more : {X Y : Type 0} (f : X → Y) (xs : List X) (k : ℕ) (x : X) → k < length xs → x ≡ get_or xs k x
    → map f (take (suc k) xs) ≡ map f (take k xs) ++ f x ∷ []
mapped_more f [] k x below at = absurd (omega (arith, below))
mapped_more {X} {Y} f (y ∷ ys) zero x below at = ap (λ (z : X). f z ∷ []) (sym at)
mapped_more {X} {Y} f (y ∷ ys) (suc k) x below at =
    ap (λ (zs : List Y). f y ∷ zs) (mapped_more f ys k x (omega (arith, below)) at)

in_taken : {X Y : Type 0} (f : X → Y) (xs : List X) (k j : ℕ) (y : Y) → slice_get (map f (take k xs)) j ≡ Some y
    → (j < k) × (slice_get (map f xs) j ≡ Some y)
in_taken f [] zero j y at = absurd cc
in_taken f [] (suc k) j y at = absurd cc
in_taken f (x ∷ xs) zero j y at = absurd cc
in_taken f (x ∷ xs) (suc k) zero y at = (omega arith, at)
in_taken f (x ∷ xs) (suc k) (suc j) y at =
    let found = in_taken f xs k j y at in (omega (arith, found.0), found.1)

some_mapped : {X Y : Type 0} (f : X → Y) (xs : List X) (k : ℕ) (x : X) → k < length xs → x ≡ get_or xs k x
    → slice_get (map f xs) k ≡ Some (f x)
some_mapped f [] k x below at = absurd (omega (arith, below))
some_mapped {X} {Y} f (y ∷ ys) zero x below at = ap (λ (z : X). Some (f z)) (sym at)
some_mapped f (y ∷ ys) (suc k) x below at = some_mapped f ys k x (omega (arith, below)) at

-- one more distinct value
pub distinct_more : {X Y : Type 0} (f : X → Y) (xs : List X) (k : ℕ) (x : X) (y : Y) (old new : List Y)
    → AllPairs (λ a b. a ≢ b) (map f xs) → k < length xs → x ≡ get_or xs k x → y ≡ f x
    → old ≡ map f (take k xs) → ((Contains old y → ⊥) → new ≡ old ++ y ∷ []) → new ≡ map f (take (k + 1) xs)
distinct_more {X} {Y} f xs k x y old new apart below at y_is old_is grows =
    grows fresh ∙ ap₂ (λ (ys : List Y) (z : Y). ys ++ z ∷ []) old_is y_is ∙ sym (mapped_more f xs k x below at)
    ∙ ap (λ (n : ℕ). map f (take n xs)) (sym (next k))
  where
    fresh : Contains old y → ⊥
    fresh there =
        let place = there_is (map f (take k xs)) (f x)
        (subst (λ (z : Y). Contains (map f (take k xs)) z) y_is
        (subst (λ (ys : List Y). Contains ys y) old_is there)) in
        let found = in_taken f xs k place.0 (f x) place.2 in
        let same : place.0 ≡ k = distinct_place (map f xs) (f x) place.0 k apart found.1
        (some_mapped f xs k x below at) in
        absurd (omega (arith, same, found.0))

-- ---- files beside their texts
pub zipped_at : (fs : List (Bor (List ℕ))) (ts : List (Vec ℕ Global)) (k : ℕ) (d : Bor (List ℕ)) (t : Vec ℕ Global)
    (text : List ℕ) → k < length fs → length ts ≡ length fs → t ≡ get_or ts k t → text ≡ t.items
    → ((get_or fs k d).now, text) ≡ get_or (zip (words_now fs) (map vec_items ts)) k ((get_or fs k d).now, text)
zipped_at [] ts k d t text below many at is = absurd (omega (arith, below))
zipped_at (f ∷ fs) [] k d t text below many at is = absurd (omega (arith, many))
zipped_at (f ∷ fs) (u ∷ ts) zero d t text below many at is =
    ap (λ (w : List ℕ). (f.now, w)) is ∙ ap (λ (v : Vec ℕ Global). (f.now, v.items)) at
zipped_at (f ∷ fs) (u ∷ ts) (suc k) d t text below many at is =
    zipped_at fs ts k d t text (omega (arith, below)) (omega (arith, many)) at is

pub zipped_many : (fs : List (Bor (List ℕ))) (ts : List (Vec ℕ Global)) → length ts ≡ length fs
    → length (zip (words_now fs) (map vec_items ts)) ≡ length fs
zipped_many [] [] many = refl
zipped_many [] (t ∷ ts) many = refl
zipped_many (f ∷ fs) [] many = absurd (omega (arith, many))
zipped_many (f ∷ fs) (t ∷ ts) many = ap suc (zipped_many fs ts (omega (arith, many)))
