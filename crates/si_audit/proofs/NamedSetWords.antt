-- The words of the states of a set tell the set.
use Rattle.std.proofs.Common.{◌≡◌, ℕ, zero, suc, ◌+◌, ◌<◌, ◌≤◌, Bool, true, false, cond, List, ◌∷◌, length, map, filter}
use Rattle.std.proofs.Common.{get_or, refl, sym, subst, subst₂, ◌∙◌, arith, inl, inr}
use Rattle.std.proofs.lemmas.Bool.{cases_Bool, cases_eq}
use Rattle.std.proofs.lemmas.List.{same_lists, get_or_default}
use Rattle.std.specs.List.{range_with_len}
use Rattle.si_base.specs.Sets.{IsIn, IsDisjoint}
use Rattle.si_base.specs.Netlist.{Insertion}
use Rattle.si_insert.specs.Lineage.{History}
use Rattle.si_circuit.specs.Spelling.{current_word}
use Rattle.si_audit.specs.Named.{AreWordsOf, NamesNone}
use Rattle.si_audit.proofs.StateWords.{HasStateNames, one_word}

-- of so many states from a on, those in the set
abbrev pub members : List Bool → ℕ → ℕ → List ℕ
members set a m = filter (λ s. get_or set s false) (range_with_len a m)

-- ---- the first word
later_at : (b : Bool) (word : ℕ → List ℕ) (w : List ℕ) (ws : List (List ℕ)) (a : ℕ) (rest : List ℕ)
    → (word a ≡ w → ⊥) → map word (cond b (a ∷ rest) rest) ≡ w ∷ ws → map word rest ≡ w ∷ ws
later_at true word w ws a rest none same = (let head : word a ≡ w = cc in absurd (none head))
later_at false word w ws a rest none same = same

-- where no state has the word, the words don't begin with it
pub not_first : (word : ℕ → List ℕ) (set : List Bool) (a m : ℕ) (w : List ℕ) (ws : List (List ℕ))
    → ((t : ℕ) → a ≤ t → t < a + m → word t ≡ w → ⊥) → map word (members set a m) ≡ w ∷ ws → ⊥
not_first word set a zero w ws none same = cc
not_first word set a (suc m) w ws none same =
    not_first word set (a + 1) m w ws (λ t above below. none t (omega arith) (omega arith))
    (later_at (get_or set a false) word w ws a (members set (a + 1) m) (none a (omega arith) (omega arith)) same)

-- ---- the same words are of the same states
first_same : (b d : Bool) (word : ℕ → List ℕ) (a : ℕ) (xs ys : List ℕ)
    → ((ws : List (List ℕ)) → map word xs ≡ word a ∷ ws → ⊥)
    → ((ws : List (List ℕ)) → map word ys ≡ word a ∷ ws → ⊥)
    → map word (cond b (a ∷ xs) xs) ≡ map word (cond d (a ∷ ys) ys) → (b ≡ d) × (map word xs ≡ map word ys)
first_same true true word a xs ys not_x not_y same = (let rest : map word xs ≡ map word ys = cc in (refl, rest))
first_same true false word a xs ys not_x not_y same = absurd (not_y (map word xs) (sym same))
first_same false true word a xs ys not_x not_y same = absurd (not_x (map word ys) same)
first_same false false word a xs ys not_x not_y same = (refl, same)

same_members : (word : ℕ → List ℕ) (x y : List Bool) (a m : ℕ)
    → ((s t : ℕ) → a ≤ s → s < a + m → a ≤ t → t < a + m → word s ≡ word t → s ≡ t)
    → map word (members x a m) ≡ map word (members y a m) → (t : ℕ) → a ≤ t → t < a + m
    → get_or x t false ≡ get_or y t false
same_members word x y a zero one same t above below = absurd (omega arith)
same_members word x y a (suc m) one same t above below =
    let no_later : (s : ℕ) → a + 1 ≤ s → s < a + 1 + m → word s ≡ word a → ⊥ =
    λ s up down e. (let here : s ≡ a = one s a (omega arith) (omega arith) (omega arith) (omega arith) e in
    omega arith) in
    let first = first_same (get_or x a false) (get_or y a false) word a (members x (a + 1) m) (members y (a + 1) m)
    (λ ws e. not_first word x (a + 1) m (word a) ws no_later e)
    (λ ws e. not_first word y (a + 1) m (word a) ws no_later e) same in
    let P : ℕ → Type 0 = λ s. get_or x s false ≡ get_or y s false in
    elim (cases_eq t a) [
      | inl here ↦ subst P (sym here) first.0
      | inr other ↦ same_members word x y (a + 1) m
          (λ s u s_up s_down u_up u_down e. one s u (omega arith) (omega arith) (omega arith) (omega arith) e)
          first.1 t (omega arith) (omega arith)
    ]

pub one_set : (states : List (List ℕ)) (l : History) (words : List (List ℕ)) (x y : List Bool)
    → HasStateNames states l → AreWordsOf states l words x → AreWordsOf states l words y → x ≡ y
one_set states l words x y spelled one other =
    let n = l.current.coded.graph.states in
    let word : ℕ → List ℕ = λ s. current_word states l s in
    let P : List Bool → ℕ → Type 0 = λ set k. words ≡ map word (members set 0 k) in
    let first : P x n = subst (P x) one.size one.words_are in
    let second : P y n = subst (P y) other.size other.words_are in
    same_lists x y (one.size ∙ sym other.size) (λ k d below.
    get_or_default x k d false below
    ∙ same_members word x y 0 n
    (λ s t s_up s_down t_up t_down e. one_word states l spelled s t (omega arith) (omega arith) e)
    (sym first ∙ second) k (omega arith) (omega (arith, one.size))
    ∙ get_or_default y k false d (omega (arith, one.size, other.size)))

-- ---- some word is of some state
some_at : (b : Bool) (word : ℕ → List ℕ) (a : ℕ) (rest : List ℕ) → 0 < length (map word (cond b (a ∷ rest) rest))
    → b ≡ false → 0 < length (map word rest)
some_at true word a rest some is = cc
some_at false word a rest some is = some

some_member : (word : ℕ → List ℕ) (set : List Bool) (a m : ℕ) → 0 < length (map word (members set a m))
    → (s : ℕ) × IsIn set s
some_member word set a zero some = absurd (omega arith)
some_member word set a (suc m) some = elim (cases_Bool (get_or set a false)) [
  | inl is ↦ (a, is)
  | inr is_not ↦ some_member word set (a + 1) m
      (some_at (get_or set a false) word a (members set (a + 1) m) some is_not)
]

pub some_state : (states : List (List ℕ)) (l : History) (words : List (List ℕ)) (set : List Bool)
    → AreWordsOf states l words set → 0 < length words → (s : ℕ) × IsIn set s
some_state states l words set are some =
    let word : ℕ → List ℕ = λ s. current_word states l s in
    let P : List (List ℕ) → Type 0 = λ ws. 0 < length ws in
    some_member word set 0 (length set) (subst P are.words_are some)

-- where the sets of both lists meet, the insertion names no two sets
pub none_if_met : (states : List (List ℕ)) (l : History) (i : Insertion) (ups downs : List (List ℕ)) (x y : List Bool)
    → HasStateNames states l → ups ≡ i.up → downs ≡ i.down → AreWordsOf states l ups x → AreWordsOf states l downs y
    → (IsDisjoint x y → ⊥) → NamesNone states l i
none_if_met states l i ups downs x y spelled ups_are downs_are one other met plus minus names =
    let P : List (List ℕ) → List Bool → Type 0 = λ words set. AreWordsOf states l words set in
    let up : plus ≡ x =
    one_set states l i.up plus x spelled names.up (subst (λ (ws : List (List ℕ)). P ws x) ups_are one) in
    let down : minus ≡ y =
    one_set states l i.down minus y spelled names.down (subst (λ (ws : List (List ℕ)). P ws y) downs_are other) in
    met (subst₂ (λ (a b : List Bool). IsDisjoint a b) up down names.apart)
