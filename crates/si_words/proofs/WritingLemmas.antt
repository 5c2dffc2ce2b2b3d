-- What the writers of lines have still to add, a step at a time.
use Rattle.std.proofs.Common.{◌≡◌, ℕ, zero, suc, ◌+◌, ◌<◌, List, [], ◌∷◌, ◌++◌, refl, sym, ap, ◌∙◌, length, drop}
use Rattle.std.proofs.Common.{add-one, append_assoc, get_or, Result, OnOk, subst, arith}
use Rattle.std.specs.List.{join_with_byte}
use Rattle.std.specs.Borrow.{Bor}
use Rattle.std.proofs.lemmas.List.{append-nil}
use Rattle.si_base.specs.declared.graph.Signal.{Signal}
use Rattle.si_base.specs.declared.graph.SigKind.{SigKind}
use Rattle.si_base.specs.NetlistText.{names_of}
use Rattle.si_base.specs.Words.{line}
use Rattle.si_words.specs.Loops.Reads.{words_now}
use Rattle.si_words.specs.Loops.Writing.{spaced}

-- what a call leaves where it succeeds, written in another way
pub left_as : {A E : Type 0} (r : Result A E) (new a b : List ℕ) → a ≡ b → OnOk r (new ≡ a) → OnOk r (new ≡ b)
left_as r new a b e left = let P : List ℕ → Type 0 = λ t. OnOk r (new ≡ t) in subst P e left

-- words with blanks between them are the first word and the others, each with a blank before it
pub joined_words : (w : List ℕ) (ws : List (List ℕ)) → join_with_byte 32 (w ∷ ws) ≡ w ++ spaced ws
joined_words w [] = sym (append-nil w)
joined_words w (v ∷ ws) = ap (λ (t : List ℕ). w ++ 32 ∷ t) (joined_words v ws)

regrouped : (text a b c : List ℕ) → ((text ++ a) ++ b) ++ c ≡ text ++ ((a ++ b) ++ c)
regrouped text a b c = simp append_assoc

pub whole_line : (text w : List ℕ) (ws : List (List ℕ)) → ((text ++ w) ++ spaced ws) ++ 10 ∷ [] ≡ text ++ line (w ∷ ws)
whole_line text w ws = regrouped text w (spaced ws) (10 ∷ [])
    ∙ ap (λ (t : List ℕ). text ++ (t ++ 10 ∷ [])) (sym (joined_words w ws))

-- the names of a kind from the i-th signal on
abbrev pub names_from : SigKind → List Signal → ℕ → List ℕ
names_from kind signals i = spaced (names_of kind (drop i signals))

-- the words from the i-th on
abbrev pub words_from : List (Bor (List ℕ)) → ℕ → List ℕ
words_from words i = spaced (drop i (words_now words))

word_left : (words : List (Bor (List ℕ))) (i : ℕ) (d : Bor (List ℕ)) → i < length words
    → words_from words i ≡ 32 ∷ (get_or words i d).now ++ words_from words (suc i)
word_left [] i d within = absurd (omega arith)
word_left (w ∷ ws) zero d within = refl
word_left (w ∷ ws) (suc i) d within = word_left ws i d (omega arith)

-- one more word is added
pub word_more : (words : List (Bor (List ℕ))) (i : ℕ) (d : Bor (List ℕ)) (old text new : List ℕ) → i < length words
    → text ++ words_from words i ≡ old ++ words_from words 0 → new ≡ text ++ 32 ∷ (get_or words i d).now
    → new ++ words_from words (i + 1) ≡ old ++ words_from words 0
word_more words i d old text new within so_far is =
    rw add-one (ap (λ (t : List ℕ). t ++ words_from words (suc i)) is
    ∙ append_assoc text (32 ∷ (get_or words i d).now) (words_from words (suc i))
    ∙ ap (λ (t : List ℕ). text ++ t) (sym (word_left words i d within)) ∙ so_far)

pub grouped : (text word name events : List ℕ) → (((text ++ word) ++ 32 ∷ name) ++ events) ++ 10 ∷ []
    ≡ ((text ++ word) ++ ((32 ∷ name) ++ events)) ++ 10 ∷ []
grouped text word name events = simp append_assoc

pub grouped_two : (text word one other events : List ℕ)
    → ((((text ++ word) ++ 32 ∷ one) ++ 32 ∷ other) ++ events) ++ 10 ∷ []
    ≡ ((text ++ word) ++ ((32 ∷ one) ++ ((32 ∷ other) ++ events))) ++ 10 ∷ []
grouped_two text word one other events = simp append_assoc
