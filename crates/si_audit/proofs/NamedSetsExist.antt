-- Whether words name a set of states can be decided, and whether an insertion names two.
use Rattle.std.proofs.Common.{◌≡◌, ℕ, zero, suc, ◌+◌, ◌⊎◌, Bool, true, false, cond, List, [], ◌∷◌, ◌++◌, length, map}
use Rattle.std.proofs.Common.{get_or, bytes_eq, append_assoc, refl, sym, ap, ap₂, subst₂, ◌∙◌, arith, inl, inr}
use Rattle.std.proofs.lemmas.Bool.{cases_Bool, true≢false}
use Rattle.std.proofs.lemmas.List.{get_or_at, length_push}
use Rattle.std.proofs.lemmas.Slice.Eq.{bytes_eq-Decides}
use Rattle.si_base.specs.Netlist.{Insertion}
use Rattle.si_base.specs.Sets.{IsDisjoint}
use Rattle.si_checks.proofs.SearchDecisions.{Decided, both}
use Rattle.si_insert.specs.Lineage.{History}
use Rattle.si_candidates.proofs.BlockDecisions.{disjoint_or_not}
use Rattle.si_circuit.specs.Spelling.{current_word}
use Rattle.si_audit.specs.Named.{AreWordsOf, NamesSets}
use Rattle.si_audit.proofs.StateWords.{HasStateNames}
use Rattle.si_audit.proofs.NamedSetWords.{members, one_set}

same_word : (a b : List ℕ) → Decided (a ≡ b)
same_word a b = elim (cases_Bool (bytes_eq a b)) [
  | inl same ↦ inl ((bytes_eq-Decides a b).0 same)
  | inr other ↦ inr (λ same. true≢false (sym ((bytes_eq-Decides a b).1 same) ∙ other))
]

-- ---- the members of a set, by recursion
abbrev picks : List Bool → ℕ → List ℕ
picks [] a = []
picks (b ∷ xs) a = cond b (a ∷ picks xs (a + 1)) (picks xs (a + 1))

picked : (ys xs : List Bool) → members (ys ++ xs) (length ys) (length xs) ≡ picks xs (length ys)
picked ys [] = refl
picked ys (b ∷ xs) =
    let a = length ys in
    let at : get_or (ys ++ b ∷ xs) a false ≡ b = get_or_at ys b xs false a refl in
    let P : List Bool → ℕ → Type 0 = λ set n. members set n (length xs) ≡ picks xs n in
    let rest : P (ys ++ b ∷ xs) (a + 1) =
    subst₂ P (append_assoc ys (b ∷ []) xs) (length_push ys b) (picked (ys ++ b ∷ []) xs) in
    ap₂ (λ (c : Bool) (ns : List ℕ). cond c (a ∷ ns) ns) at rest

all_picked : (xs : List Bool) → members xs 0 (length xs) ≡ picks xs 0
all_picked xs = picked [] xs

-- ---- the search for a set with these words
record IsFound (word : ℕ → List ℕ) (m a : ℕ) (ws : List (List ℕ)) (xs : List Bool) : Type 0 where
  size : length xs ≡ m
  words : ws ≡ map word (picks xs a)

abbrev Found : (ℕ → List ℕ) → ℕ → ℕ → List (List ℕ) → Type 0
Found word m a ws = (xs : List Bool) × IsFound word m a ws xs

skipped : (word : ℕ → List ℕ) (m a : ℕ) (ws : List (List ℕ)) → Found word m (a + 1) ws → Found word (suc m) a ws
skipped word m a ws (xs, is) =
    (false ∷ xs, record { size = ap (λ (n : ℕ). suc n) is.size; words = is.words })

taken : (word : ℕ → List ℕ) (m a : ℕ) (w : List ℕ) (ws : List (List ℕ)) → w ≡ word a → Found word m (a + 1) ws
    → Found word (suc m) a (w ∷ ws)
taken word m a w ws same (xs, is) = (
  true ∷ xs,
  record {
    size = ap (λ (n : ℕ). suc n) is.size;
    words = ap₂ (λ (v : List ℕ) (vs : List (List ℕ)). v ∷ vs) same is.words;
  },
)

two_ways : (word : ℕ → List ℕ) (m a : ℕ) (w : List ℕ) (ws : List (List ℕ)) → Found word (suc m) a (w ∷ ws)
    → Found word m (a + 1) (w ∷ ws) ⊎ ((w ≡ word a) × Found word m (a + 1) ws)
two_ways word m a w ws ([], is) = absurd (omega (arith, is.size))
two_ways word m a w ws (true ∷ xs, is) =
    let words = is.words in
    let head : w ≡ word a = cc in
    let tail : ws ≡ map word (picks xs (a + 1)) = cc in
    inr (head, (xs, record { size = omega (arith, is.size); words = tail }))
two_ways word m a w ws (false ∷ xs, is) = inl (xs, record { size = omega (arith, is.size); words = is.words })

one_way : (word : ℕ → List ℕ) (m a : ℕ) → Found word (suc m) a [] → Found word m (a + 1) []
one_way word m a ([], is) = absurd (omega (arith, is.size))
one_way word m a (true ∷ xs, is) = (let words = is.words in cc)
one_way word m a (false ∷ xs, is) = (xs, record { size = omega (arith, is.size); words = is.words })

none_long : (word : ℕ → List ℕ) (a : ℕ) (w : List ℕ) (ws : List (List ℕ)) → Found word 0 a (w ∷ ws) → ⊥
none_long word a w ws ([], is) = (let words = is.words in cc)
none_long word a w ws (b ∷ xs, is) = absurd (omega (arith, is.size))

find : (word : ℕ → List ℕ) (m a : ℕ) (ws : List (List ℕ)) → Decided (Found word m a ws)
find word zero a [] = inl ([], record { size = refl; words = refl })
find word zero a (w ∷ ws) = inr (none_long word a w ws)
find word (suc m) a [] = elim (find word m (a + 1) []) [
  | inl found ↦ inl (skipped word m a [] found)
  | inr none ↦ inr (λ found. none (one_way word m a found))
]
find word (suc m) a (w ∷ ws) = elim (both (same_word w (word a)) (find word m (a + 1) ws)) [
  | inl is ↦ inl (taken word m a w ws is.0 is.1)
  | inr not_taken ↦ elim (find word m (a + 1) (w ∷ ws)) [
    | inl found ↦ inl (skipped word m a (w ∷ ws) found)
    | inr none ↦ inr (λ found. elim (two_ways word m a w ws found) [
      | inl skip ↦ none skip
      | inr take ↦ not_taken take
    ])
  ]
]

-- ---- the sets of an insertion
set_or_none : (states : List (List ℕ)) (l : History) (words : List (List ℕ))
    → Decided ((set : List Bool) × AreWordsOf states l words set)
set_or_none states l words =
    let word : ℕ → List ℕ = λ s. current_word states l s in
    elim (find word l.current.coded.graph.states 0 words) [
      | inl (xs, is) ↦ inl
          (xs, record { size = is.size; words_are = is.words ∙ ap (map word) (sym (all_picked xs)) })
      | inr none ↦ inr (λ (set, are).
          none (set, record { size = are.size; words = are.words_are ∙ ap (map word) (all_picked set) }))
    ]

pub sets_or_none : (states : List (List ℕ)) (l : History) (i : Insertion) → HasStateNames states l
    → Decided ((plus : List Bool) × (minus : List Bool) × NamesSets states l i plus minus)
sets_or_none states l i spelled = elim (both (set_or_none states l i.up) (set_or_none states l i.down)) [
  | inl ((p, up), (q, down)) ↦ elim (disjoint_or_not p q) [
    | inl apart ↦ inl (p, q, record { up = up; down = down; apart = apart })
    | inr meet ↦ inr (λ (x, y, names).
        meet (subst₂ (λ (a b : List Bool). IsDisjoint a b) (one_set states l i.up x p spelled names.up up)
        (one_set states l i.down y q spelled names.down down) names.apart))
  ]
  | inr none ↦ inr (λ (x, y, names). none ((x, names.up), (y, names.down)))
]
