-- Files and texts two by two.
use Rattle.std.proofs.Common.{◌≡◌, ℕ, zero, suc, ◌<◌, ◌≤◌, ◌+◌, ◌*◌, ◌/◌, List, [], ◌∷◌, zip, map, length, get_or, refl, sym, ap, ap₂, subst, ◌∙◌, arith}
use Rattle.std.proofs.Common.{Vec, Global, vec_items}
use Rattle.std.specs.Borrow.{Bor}
use Rattle.std.proofs.lemmas.List.{length-map}
use Rattle.si_words.specs.Loops.Reads.{words_now}
use Rattle.si_works.specs.System.{two_by_two}

-- as many pairs as half of the words
pub many_pairs : (ws : List (List ℕ)) (n : ℕ) → 2 * n ≤ length ws → length ws ≤ 2 * n + 1
    → length (two_by_two ws) ≡ n
many_pairs [] zero low high = refl
many_pairs [] (suc n) low high = absurd (omega (arith, low))
many_pairs (v ∷ []) zero low high = refl
many_pairs (v ∷ []) (suc n) low high = absurd (omega (arith, low))
many_pairs (v ∷ (w ∷ ws)) zero low high = absurd (omega (arith, high))
many_pairs (v ∷ (w ∷ ws)) (suc n) low high = ap suc (many_pairs ws n (omega (arith, low)) (omega (arith, high)))

pub zip_many : {X Y : Type 0} (xs : List X) (ys : List Y) (n : ℕ) → length xs ≡ n → length ys ≡ n
    → length (zip xs ys) ≡ n
zip_many [] ys zero one other = refl
zip_many [] ys (suc n) one other = absurd (omega (arith, one))
zip_many (x ∷ xs) [] zero one other = absurd (omega (arith, one))
zip_many (x ∷ xs) [] (suc n) one other = absurd (omega (arith, other))
zip_many (x ∷ xs) (y ∷ ys) zero one other = absurd (omega (arith, one))
zip_many (x ∷ xs) (y ∷ ys) (suc n) one other = ap suc (zip_many xs ys n (omega (arith, one)) (omega (arith, other)))

-- ---- files beside their texts
dbl : ℕ → ℕ
dbl zero = zero
dbl (suc k) = suc (suc (dbl k))

twice : (k : ℕ) → dbl k ≡ 2 * k
unfolding dbl
twice zero = refl
twice (suc k) = (let before = twice k in omega (arith, before))

abbrev pub pairs_of : List (Bor (List ℕ)) → List (Vec ℕ Global) → List ((List ℕ × List ℕ) × (List ℕ × List ℕ))
pairs_of fs ts = zip (two_by_two (words_now fs)) (two_by_two (map vec_items ts))

abbrev pair_is : List (Bor (List ℕ)) → (m n : ℕ) → Bor (List ℕ) → (text other : List ℕ)
    → (List ℕ × List ℕ) × (List ℕ × List ℕ)
pair_is fs m n d text other = (((get_or fs m d).now, (get_or fs n d).now), (text, other))

doubled_at : (fs : List (Bor (List ℕ))) (ts : List (Vec ℕ Global)) (k : ℕ) (d : Bor (List ℕ)) (t u : Vec ℕ Global)
    (text other : List ℕ) → suc (dbl k) < length fs → length ts ≡ length fs → t ≡ get_or ts (dbl k) t
    → u ≡ get_or ts (suc (dbl k)) u → text ≡ t.items → other ≡ u.items
    → pair_is fs (dbl k) (suc (dbl k)) d text other
    ≡ get_or (pairs_of fs ts) k (pair_is fs (dbl k) (suc (dbl k)) d text other)
unfolding dbl
doubled_at [] ts k d t u text other below many at_t at_u is_t is_u = absurd (omega (arith, below))
doubled_at (f ∷ []) ts k d t u text other below many at_t at_u is_t is_u = absurd (omega (arith, below))
doubled_at (f ∷ (g ∷ fs)) [] k d t u text other below many at_t at_u is_t is_u = absurd (omega (arith, many))
doubled_at (f ∷ (g ∷ fs)) (v ∷ []) k d t u text other below many at_t at_u is_t is_u = absurd (omega (arith, many))
doubled_at (f ∷ (g ∷ fs)) (v ∷ (w ∷ ts)) zero d t u text other below many at_t at_u is_t is_u =
    ap₂ (λ (a b : List ℕ). ((f.now, g.now), (a, b)))
    (is_t ∙ ap (λ (x : Vec ℕ Global). x.items) at_t) (is_u ∙ ap (λ (x : Vec ℕ Global). x.items) at_u)
doubled_at (f ∷ (g ∷ fs)) (v ∷ (w ∷ ts)) (suc k) d t u text other below many at_t at_u is_t is_u =
    doubled_at fs ts k d t u text other (omega (arith, below)) (omega (arith, many)) at_t at_u is_t is_u

pub pairs_at : (fs : List (Bor (List ℕ))) (ts : List (Vec ℕ Global)) (k : ℕ) (d : Bor (List ℕ)) (t u : Vec ℕ Global)
    (text other : List ℕ) → 2 * k + 1 < length fs → length ts ≡ length fs → t ≡ get_or ts (2 * k) t
    → u ≡ get_or ts (2 * k + 1) u → text ≡ t.items → other ≡ u.items
    → pair_is fs (2 * k) (2 * k + 1) d text other
    ≡ get_or (pairs_of fs ts) k (pair_is fs (2 * k) (2 * k + 1) d text other)
pairs_at fs ts k d t u text other below many at_t at_u is_t is_u =
    let first : dbl k ≡ 2 * k = twice k in
    let second : suc (dbl k) ≡ 2 * k + 1 = omega (arith, first) in
    let holds = doubled_at fs ts k d t u text other (omega (arith, below, first)) many
    (at_t ∙ ap (λ (m : ℕ). get_or ts m t) (sym first)) (at_u ∙ ap (λ (m : ℕ). get_or ts m u) (sym second)) is_t is_u in
    subst (λ (n : ℕ). pair_is fs (2 * k) n d text other ≡ get_or (pairs_of fs ts) k (pair_is fs (2 * k) n d text other))
    second
    (subst (λ (m : ℕ). pair_is fs m (suc (dbl k)) d text other
    ≡ get_or (pairs_of fs ts) k (pair_is fs m (suc (dbl k)) d text other)) first holds)

pub pairs_many : (fs : List (Bor (List ℕ))) (ts : List (Vec ℕ Global)) → length ts ≡ length fs
    → length (pairs_of fs ts) ≡ length fs / 2
pairs_many fs ts many =
    let words = length-map fs (λ (w : Bor (List ℕ)). w.now) in
    let texts = length-map ts (vec_items {X = ℕ} {Z = Global}) in
    zip_many (two_by_two (words_now fs)) (two_by_two (map vec_items ts)) (length fs / 2)
    (many_pairs (words_now fs) (length fs / 2) (omega (arith, words)) (omega (arith, words)))
    (many_pairs (map vec_items ts) (length fs / 2) (omega (arith, texts, many)) (omega (arith, texts, many)))
