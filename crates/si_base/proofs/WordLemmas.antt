-- Words without blanks and line ends, and lines of such words.
use Rattle.std.proofs.Common.{◌≡◌, ℕ, ◌==◌, Bool, true, false, List, [], ◌∷◌, ◌++◌, refl, sym, ap, ◌∙◌, inl, inr}
use Rattle.std.proofs.Common.{ne_eqb}
use Rattle.std.proofs.lemmas.Bool.{cases_eq, true≢false, and_parts}
use Rattle.std.proofs.lemmas.List.Elements.{All-from_recursion}
use Rattle.std.specs.List.{AllByRecursion, list_all, join_with_byte}
use Rattle.si_base.proofs.LinesUnsplit.{AllWithout}

-- a word without blanks and line ends
abbrev pub IsClean : List ℕ → Type 0
IsClean word = AllByRecursion (λ b. ((b == 10) ≡ false) × ((b == 32) ≡ false)) word

abbrev pub AreClean : List (List ℕ) → Type 0
AreClean words = AllByRecursion IsClean words

pub excludes : (p : ℕ → Bool) (c b : ℕ) → p c ≡ false → p b ≡ true → (b == c) ≡ false
excludes p c b low high = elim (cases_eq b c) [
  | inl same ↦ absurd (true≢false (sym high ∙ ap p same ∙ low))
  | inr other ↦ ne_eqb b c other
]

pub clean_word : (p : ℕ → Bool) (w : List ℕ) → p 10 ≡ false → p 32 ≡ false → list_all p w ≡ true → IsClean w
clean_word p [] ten blank all = tt
clean_word p (b ∷ w) ten blank all = let parts = and_parts _ _ all in
    ((excludes p 10 b ten parts.0, excludes p 32 b blank parts.0), clean_word p w ten blank parts.1)

-- ---- lines
abbrev pub LinesClean : List (List (List ℕ)) → Type 0
LinesClean lines = AllByRecursion AreClean lines

-- ---- joined words
abbrev pub NoEnd : List ℕ → Type 0
NoEnd bytes = AllByRecursion (λ b. (b == 10) ≡ false) bytes

pub no_end : (w : List ℕ) → IsClean w → NoEnd w
no_end [] is = tt
no_end (b ∷ w) is = (is.0.0, no_end w is.1)

pub no_blank : (w : List ℕ) → IsClean w → AllByRecursion (λ b. (b == 32) ≡ false) w
no_blank [] is = tt
no_blank (b ∷ w) is = (is.0.1, no_blank w is.1)

pub no_end_append : (v w : List ℕ) → NoEnd v → NoEnd w → NoEnd (v ++ w)
no_end_append [] w one other = other
no_end_append (b ∷ v) w one other = (one.0, no_end_append v w one.1 other)

pub no_end_join : (ws : List (List ℕ)) → AreClean ws → NoEnd (join_with_byte 32 ws)
no_end_join [] are = tt
no_end_join (w ∷ []) are = no_end w are.0
no_end_join (w ∷ v ∷ ws) are = no_end_append w (32 ∷ join_with_byte 32 (v ∷ ws)) (no_end w are.0)
    (refl, no_end_join (v ∷ ws) are.1)

pub words_without : (ws : List (List ℕ)) → AreClean ws → AllWithout 32 ws
words_without [] are = tt
words_without (w ∷ ws) are = (All-from_recursion _ _ (no_blank w are.0), words_without ws are.1)
