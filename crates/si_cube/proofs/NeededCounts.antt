-- The numbers of cubes that cover a code tell which cubes are needed.
use Rattle.std.proofs.Common.{◌≡◌, ℕ, zero, suc, ◌+◌, ◌-◌, ◌<◌, ◌||◌, not, nat_le, Bool, true, false, List, []}
use Rattle.std.proofs.Common.{◌∷◌, ◌++◌, length, get_or, drop, map, zip, count_by, refl, sym, ap, ap₂, ◌∙◌, arith, inl}
use Rattle.std.proofs.Common.{inr, append_assoc, add-one, drop-cons, if◌then◌else◌, ◌&&◌, cond, zero-add}
use Rattle.std.specs.List.{list_all}
use Rattle.std.proofs.lemmas.Bool.{cases_Bool, cases_lt, le-leb, lt-leb}
use Rattle.std.proofs.lemmas.List.Sums.{sum_by-append, sum_by-cons}
use Rattle.si_base.specs.declared.ids.Literal.{Literal}
use Rattle.si_base.specs.Netlist.{Sum, sum_value}
use Rattle.si_cube.specs.Needed.{needed_from, needed}
use Rattle.si_cube.specs.Rule.{covers, is_needless_cube}

-- ---- the numbers of cubes that cover a code
abbrev pub count : Sum → ℕ → ℕ
count sum code = count_by (λ cube. covers cube code) sum

-- the others, and one if this cube covers the code
count_one : (before xs : Sum) (cube : List Literal) (code : ℕ)
    → count (before ++ cube ∷ xs) code ≡ count (before ++ xs) code + (if covers cube code then 1 else 0)
count_one before xs cube code =
    let f : List Literal → ℕ = λ c. cond (covers c code) 1 0 in
    omega (arith, sum_by-append f before (cube ∷ xs), sum_by-append f before xs, sum_by-cons f cube xs)

some_counted : (sum : Sum) (code : ℕ) → nat_le 1 (count sum code) ≡ sum_value code sum
some_counted [] code = refl
some_counted (x ∷ xs) code =
    ap (nat_le 1) (sum_by-cons (λ c. cond (covers c code) 1 0) x xs) ∙ elim (cases_Bool (covers x code)) [
      | inl here ↦ rw here (le-leb 1 (1 + count xs code) (omega arith))
      | inr other ↦ rw other (ap (nat_le 1) (zero-add (count xs code)) ∙ some_counted xs code)
    ]

two_is_one_more : (n : ℕ) → nat_le 2 (n + 1) ≡ nat_le 1 n
two_is_one_more n = elim (cases_lt 0 n) [
  | inl some ↦ le-leb 2 (n + 1) (omega arith) ∙ sym (le-leb 1 n (omega arith))
  | inr none ↦ lt-leb 2 (n + 1) (omega arith) ∙ sym (lt-leb 1 n (omega arith))
]

-- two cover the code if and only if one of the others does
two_or_none : (before xs : Sum) (cube : List Literal) (code : ℕ)
    → (not (covers cube code) || nat_le 2 (count (before ++ cube ∷ xs) code)) ≡
    (not (covers cube code) || sum_value code (before ++ xs))
two_or_none before xs cube code = elim (cases_Bool (covers cube code)) [
  | inl here ↦
      (let one : count (before ++ cube ∷ xs) code ≡ count (before ++ xs) code + 1 = count_one before xs cube code
      ∙ rw here refl in
      rw (here, one) (two_is_one_more (count (before ++ xs) code) ∙ some_counted (before ++ xs) code))
  | inr other ↦ rw other refl
]

all_zipped : (p : ℕ → ℕ → Bool) (q : ℕ → Bool) (f : ℕ → ℕ) (xs : List ℕ) → ((x : ℕ) → p x (f x) ≡ q x)
    → list_all (λ (r : ℕ × ℕ). p r.0 r.1) (zip xs (map f xs)) ≡ list_all q xs
all_zipped p q f [] same = refl
all_zipped p q f (x ∷ xs) same = rw (same x) (ap (λ (b : Bool). q x && b) (all_zipped p q f xs same))

pub needless_by_counts : (required : List ℕ) (before xs : Sum) (cube : List Literal)
    → list_all (λ (p : ℕ × ℕ). not (covers cube p.0) || nat_le 2 p.1)
    (zip required (map (count (before ++ cube ∷ xs)) required)) ≡ is_needless_cube required cube (before ++ xs)
needless_by_counts required before xs cube =
    all_zipped (λ code n. not (covers cube code) || nat_le 2 n)
    (λ code. not (covers cube code) || sum_value code (before ++ xs)) (count (before ++ cube ∷ xs)) required
    (two_or_none before xs cube)

get_map : (f : ℕ → ℕ) (xs : List ℕ) (k : ℕ) → k < length xs → get_or (map f xs) k 0 ≡ f (get_or xs k 0)
get_map f [] k within = absurd (omega arith)
get_map f (x ∷ xs) zero within = refl
get_map f (x ∷ xs) (suc k) within = get_map f xs k (omega arith)

map_from_items : (f : ℕ → ℕ) (xs ys : List ℕ) → length ys ≡ length xs
    → ((k : ℕ) → k < length xs → get_or ys k 0 ≡ f (get_or xs k 0)) → ys ≡ map f xs
map_from_items f [] [] long each = refl
map_from_items f [] (y ∷ ys) long each = absurd (omega arith)
map_from_items f (x ∷ xs) [] long each = absurd (omega arith)
map_from_items f (x ∷ xs) (y ∷ ys) long each =
    ap₂ (λ (n : ℕ) (ns : List ℕ). n ∷ ns) (each 0 (omega arith))
    (map_from_items f xs ys (omega arith) (λ k within. each (suc k) (omega arith)))

pub fewer_counts : (required : List ℕ) (before xs : Sum) (cube : List Literal) (old new : List ℕ)
    → old ≡ map (count (before ++ cube ∷ xs)) required → length new ≡ length required
    → ((k : ℕ) → k < length required
    → get_or new k 0 ≡ get_or old k 0 - (if covers cube (get_or required k 0) then 1 else 0))
    → new ≡ map (count (before ++ xs)) required
fewer_counts required before xs cube old new are long each =
    map_from_items (count (before ++ xs)) required new long (λ k within.
    (let at : get_or old k 0 ≡ count (before ++ cube ∷ xs) (get_or required k 0) = ap
    (λ (ns : List ℕ). get_or ns k 0) are ∙ get_map (count (before ++ cube ∷ xs)) required k within in
    let one = count_one before xs cube (get_or required k 0) in
    let now = each k within in
    omega arith))

-- ---- the cubes that stay
-- of the first i cubes those that stay are kept, and the counts are of these and the cubes from the i-th on
pub record IsSifting (required : List ℕ) (cubes : Sum) (i : ℕ) (kept : Sum) (counts : List ℕ) : Type 0 where
  pub stays : kept ++ needed_from (is_needless_cube required) kept (drop i cubes) ≡ needed
      (is_needless_cube required) cubes
  pub are : counts ≡ map (count (kept ++ drop i cubes)) required

rest_at : (cubes : Sum) (i : ℕ) (cube : List Literal) → i < length cubes → cube ≡ get_or cubes i cube
    → drop i cubes ≡ cube ∷ drop (i + 1) cubes
rest_at cubes i cube within at =
    drop-cons cubes i cube within ∙ ap₂ (λ (c : List Literal) (n : ℕ). c ∷ drop n cubes) (sym at) (sym (add-one i))

pub sift_counts : (required : List ℕ) (cubes : Sum) (i : ℕ) (kept : Sum) (counts : List ℕ) (cube : List Literal)
    → i < length cubes → cube ≡ get_or cubes i cube
    → IsSifting required cubes i kept counts → counts ≡ map (count (kept ++ cube ∷ drop (i + 1) cubes)) required
sift_counts required cubes i kept counts cube within at sifting =
    sifting.are ∙ ap (λ (rest : Sum). map (count (kept ++ rest)) required) (rest_at cubes i cube within at)

pub sift_same : (required : List ℕ) (cubes : Sum) (i : ℕ) (kept : Sum) (counts : List ℕ) (cube : List Literal)
    → i < length cubes → cube ≡ get_or cubes i cube
    → IsSifting required cubes i kept counts
    → list_all (λ (p : ℕ × ℕ). not (covers cube p.0) || nat_le 2 p.1) (zip required counts)
    ≡ is_needless_cube required cube (kept ++ drop (i + 1) cubes)
sift_same required cubes i kept counts cube within at sifting =
    ap (λ (ns : List ℕ). list_all (λ (p : ℕ × ℕ). not (covers cube p.0) || nat_le 2 p.1) (zip required ns))
    (sift_counts required cubes i kept counts cube within at sifting)
    ∙ needless_by_counts required kept (drop (i + 1) cubes) cube

step_drop : (n : List Literal → Sum → Bool) (kept rest : Sum) (cube : List Literal) → n cube (kept ++ rest) ≡ true
    → needed_from n kept (cube ∷ rest) ≡ needed_from n kept rest
step_drop n kept rest cube needless = rw needless refl

step_keep : (n : List Literal → Sum → Bool) (kept rest : Sum) (cube : List Literal) → n cube (kept ++ rest) ≡ false
    → needed_from n kept (cube ∷ rest) ≡ cube ∷ needed_from n (kept ++ cube ∷ []) rest
step_keep n kept rest cube needed_here = rw needed_here refl

pub sift_drop : (required : List ℕ) (cubes : Sum) (i : ℕ) (kept : Sum) (counts new : List ℕ) (cube : List Literal)
    → i < length cubes → cube ≡ get_or cubes i cube
    → IsSifting required cubes i kept counts
    → list_all (λ (p : ℕ × ℕ). not (covers cube p.0) || nat_le 2 p.1) (zip required counts) ≡ true
    → length new ≡ length required
    → ((k : ℕ) → k < length required
    → get_or new k 0 ≡ get_or counts k 0 - (if covers cube (get_or required k 0) then 1 else 0))
    → IsSifting required cubes (i + 1) kept new
sift_drop required cubes i kept counts new cube within at sifting needless long fewer =
    let n : List Literal → Sum → Bool = is_needless_cube required in
    let rest : Sum = drop (i + 1) cubes in
    let goes : n cube (kept ++ rest) ≡ true =
    sym (sift_same required cubes i kept counts cube within at sifting) ∙ needless in
    record {
      stays = ap (λ (xs : Sum). kept ++ xs)
          (sym (ap (needed_from n kept) (rest_at cubes i cube within at) ∙ step_drop n kept rest cube goes))
          ∙ sifting.stays;
      are = fewer_counts required kept rest cube counts new
          (sift_counts required cubes i kept counts cube within at sifting) long fewer;
    }

pub sift_keep : (required : List ℕ) (cubes : Sum) (i : ℕ) (kept : Sum) (counts : List ℕ) (cube : List Literal)
    → i < length cubes → cube ≡ get_or cubes i cube
    → IsSifting required cubes i kept counts
    → list_all (λ (p : ℕ × ℕ). not (covers cube p.0) || nat_le 2 p.1) (zip required counts) ≡ false
    → IsSifting required cubes (i + 1) (kept ++ cube ∷ []) counts
sift_keep required cubes i kept counts cube within at sifting needed_here =
    let n : List Literal → Sum → Bool = is_needless_cube required in
    let rest : Sum = drop (i + 1) cubes in
    let stays : n cube (kept ++ rest) ≡ false =
    sym (sift_same required cubes i kept counts cube within at sifting) ∙ needed_here in
    record {
      stays = append_assoc kept (cube ∷ []) (needed_from n (kept ++ cube ∷ []) rest)
          ∙ ap (λ (xs : Sum). kept ++ xs)
          (sym (ap (needed_from n kept) (rest_at cubes i cube within at) ∙ step_keep n kept rest cube stays))
          ∙ sifting.stays;
      are = sift_counts required cubes i kept counts cube within at sifting
          ∙ ap (λ (xs : Sum). map (count xs) required) (sym (append_assoc kept (cube ∷ []) rest));
    }
