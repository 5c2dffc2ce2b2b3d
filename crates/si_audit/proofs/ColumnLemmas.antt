-- The bits of columns, and the values of cubes and sums on them.
use Rattle.std.proofs.Common.{◌≡◌, ℕ, suc, ◌+◌, ◌-◌, ◌/◌, ◌%◌, ◌^◌, ◌<◌, ◌==◌, ◌&&◌, ◌||◌, not, Bool, true, false, List}
use Rattle.std.proofs.Common.{[], ◌∷◌, if◌then◌else◌, get_or, drop, length, bit_and, bit_or, bit_xor, refl, sym, ap}
use Rattle.std.proofs.Common.{subst, ◌∙◌, arith}
use Rattle.std.specs.List.{list_all}
use Rattle.std.proofs.lemmas.List.{drop_more}
use Rattle.std.proofs.lemmas.Nat.Bits.{bit_at_ones}
use Rattle.std.proofs.Math.Bool.{or-false, and_assoc, or_assoc}
use mathlib.Core.Bool.{beq}
use Rattle.si_base.specs.declared.ids.Literal.{Literal}
use Rattle.si_base.specs.Bits.{bit}
use Rattle.si_base.specs.Limits.{code_width}
use Rattle.si_base.specs.Netlist.{literal_value, sum_value}
use Rattle.si_base.specs.Sets.{flag}
use Rattle.si_base.proofs.BitFacts.{bit-zero, bit-or, bit-and}
use Rattle.si_cube.specs.Literals.{literals_from, literals_of}
use Rattle.si_cube.proofs.LiteralLemmas.{bit-xor}
use Rattle.si_audit.specs.Loops.Columns.{is_value}

-- ---- words
one_bit : (i : ℕ) → i < 64 → bit (2 ^ 64 - 1) i ≡ true
one_bit i low = ap (λ (b : ℕ). b == 1) (bit_at_ones 64 i low)

pub filled_flag : (words : List ℕ) (s : ℕ) → get_or words (s / 64) 0 ≡ 2 ^ 64 - 1 → flag words s ≡ true
filled_flag words s is = ap (λ (w : ℕ). bit w (s % 64)) is ∙ one_bit (s % 64) (omega arith)

same_as_true : (x : Bool) → not (beq x false) ≡ beq x true
same_as_true true = refl
same_as_true false = refl

same_as_false : (x : Bool) → not (beq x true) ≡ beq x false
same_as_false true = refl
same_as_false false = refl

turned_bit : (v : Bool) (w i : ℕ) → i < 64 → bit (bit_xor w (if v then 0 else 2 ^ 64 - 1)) i ≡ is_value v (bit w i)
turned_bit true w i low =
    bit-xor w 0 i ∙ ap (λ (b : Bool). not (beq (bit w i) b)) (bit-zero i) ∙ same_as_true (bit w i)
turned_bit false w i low =
    bit-xor w (2 ^ 64 - 1) i ∙ ap (λ (b : Bool). not (beq (bit w i) b)) (one_bit i low) ∙ same_as_false (bit w i)

pub narrowed_flag : (old other new : List ℕ) (v : Bool) (s : ℕ)
    → get_or new (s / 64) 0
    ≡ bit_and (get_or old (s / 64) 0) (bit_xor (get_or other (s / 64) 0) (if v then 0 else 2 ^ 64 - 1))
    → flag new s ≡ (flag old s && is_value v (flag other s))
narrowed_flag old other new v s is =
    let a : ℕ = get_or old (s / 64) 0 in
    let b : ℕ = get_or other (s / 64) 0 in
    let i : ℕ = s % 64 in
    ap (λ (w : ℕ). bit w i) is ∙ bit-and a (bit_xor b (if v then 0 else 2 ^ 64 - 1)) i
    ∙ ap (λ (x : Bool). bit a i && x) (turned_bit v b i (omega arith))

pub joined_flag : (old other new : List ℕ) (s : ℕ)
    → get_or new (s / 64) 0 ≡ bit_or (get_or old (s / 64) 0) (get_or other (s / 64) 0)
    → flag new s ≡ (flag old s || flag other s)
joined_flag old other new s is =
    ap (λ (w : ℕ). bit w (s % 64)) is ∙ bit-or (get_or old (s / 64) 0) (get_or other (s / 64) 0) (s % 64)

-- ---- cubes
-- at the code k, the value of the cube's literals from signal z on
abbrev pub rest_value : (k z care value : ℕ) → Bool
rest_value k z care value = list_all (literal_value k) (literals_from (code_width - z) z care value)

-- all literals are those from the first signal on
pub first_value : (k care value : ℕ) (cube : List Literal) → literals_of care value ≡ cube
    → (true && rest_value k 0 care value) ≡ list_all (literal_value k) cube
unfolding literals_of
first_value k care value cube view = ap (λ (ls : List Literal). list_all (literal_value k) ls) view

with_literal : (k z n care value : ℕ) (a b : Bool) → bit care z ≡ true → b ≡ bit k z
    → ((a && is_value (bit value z) b) && list_all (literal_value k) (literals_from n (z + 1) care value))
    ≡ (a && list_all (literal_value k) (literals_from (suc n) z care value))
with_literal k z n care value a b cares same =
    let rest : Bool = list_all (literal_value k) (literals_from n (z + 1) care value) in
    let whole : list_all (literal_value k) (literals_from (suc n) z care value)
    ≡ (beq (bit k z) (bit value z) && rest) = rw cares refl in
    ap (λ (x : Bool). (a && beq x (bit value z)) && rest) same ∙ and_assoc a (beq (bit k z) (bit value z)) rest
    ∙ ap (λ (x : Bool). a && x) (sym whole)

pub literal_kept : (k z care value : ℕ) (a b total : Bool) → z < code_width → bit care z ≡ true → b ≡ bit k z
    → (a && rest_value k z care value) ≡ total
    → ((a && is_value (bit value z) b) && rest_value k (z + 1) care value) ≡ total
literal_kept k z care value a b total within cares same known =
    let n : ℕ = code_width - (z + 1) in
    let more : code_width - z ≡ suc n = omega arith in
    let P : ℕ → Type 0 = λ m. (a && list_all (literal_value k) (literals_from m z care value)) ≡ total in
    with_literal k z n care value a b cares same ∙ subst P more known

pub no_literal : (k z care value : ℕ) (a total : Bool) → z < code_width → bit care z ≡ false
    → (a && rest_value k z care value) ≡ total → (a && rest_value k (z + 1) care value) ≡ total
no_literal k z care value a total within cares known =
    let n : ℕ = code_width - (z + 1) in
    let more : code_width - z ≡ suc n = omega arith in
    let P : ℕ → Type 0 = λ m. (a && list_all (literal_value k) (literals_from m z care value)) ≡ total in
    let whole : list_all (literal_value k) (literals_from (suc n) z care value)
    ≡ list_all (literal_value k) (literals_from n (z + 1) care value) = rw cares refl in
    ap (λ (x : Bool). a && x) (sym whole) ∙ subst P more known

and_true : (a : Bool) → (a && true) ≡ a
and_true true = refl
and_true false = refl

pub all_literals : (k z care value : ℕ) (a total : Bool) → z ≡ code_width
    → (a && rest_value k z care value) ≡ total → a ≡ total
all_literals k z care value a total end known =
    let P : ℕ → Type 0 = λ m. (a && rest_value k m care value) ≡ total in
    sym (and_true a) ∙ subst P end known

-- ---- sums
pub cube_joined : (k j : ℕ) (cubes : List (List Literal)) (cube : List Literal) (a b total : Bool)
    → j < length cubes → cube ≡ get_or cubes j cube → b ≡ list_all (literal_value k) cube
    → (a || sum_value k (drop j cubes)) ≡ total → ((a || b) || sum_value k (drop (j + 1) cubes)) ≡ total
cube_joined k j cubes cube a b total within is same known =
    let rest : Bool = sum_value k (drop (j + 1) cubes) in
    let more : drop j cubes ≡ cube ∷ drop (j + 1) cubes =
    drop_more cubes j cube within ∙ ap (λ (c : List Literal). c ∷ drop (j + 1) cubes) (sym is) in
    ap (λ (x : Bool). (a || x) || rest) same ∙ or_assoc a (list_all (literal_value k) cube) rest
    ∙ ap (λ (cs : List (List Literal)). a || sum_value k cs) (sym more) ∙ known

pub all_cubes : (k : ℕ) (left : List (List Literal)) (a total : Bool) → left ≡ []
    → (a || sum_value k left) ≡ total → a ≡ total
all_cubes k left a total none known =
    sym (or-false a) ∙ ap (λ (cs : List (List Literal)). a || sum_value k cs) (sym none) ∙ known

-- ---- generalised C-elements
own_or_reset : (own reset : Bool) → ((true && is_value true own) && is_value false reset) ≡ (own && not reset)
own_or_reset true true = refl
own_or_reset true false = refl
own_or_reset false reset = refl

pub held_value : (whole set held first filled own reset : Bool) → whole ≡ (set || held)
    → held ≡ (first && is_value false reset) → first ≡ (filled && is_value true own) → filled ≡ true
    → whole ≡ (set || (own && not reset))
held_value whole set held first filled own reset joined cut kept full =
    let whole_first : first ≡ (true && is_value true own) = kept ∙ ap (λ (b : Bool). b && is_value true own) full in
    joined ∙ ap (λ (b : Bool). set || b)
    (cut ∙ ap (λ (b : Bool). b && is_value false reset) whole_first ∙ own_or_reset own reset)
