-- A word names a state of a set just where it is among the words of the set.
use Rattle.std.proofs.Common.{◌≡◌, ℕ, zero, suc, ◌+◌, ◌<◌, ◌≤◌, ◌↔◌, ◌||◌, Bool, true, false, List, length}
use Rattle.std.proofs.Common.{map, get_or, refl, sym, ap, subst, ◌∙◌, ◌⊎◌, arith, inl, inr, bytes_eq}
use Rattle.std.specs.List.{list_any}
use Rattle.std.proofs.lemmas.Bool.{cases_Bool, cases_eq, true≢false}
use Rattle.std.proofs.lemmas.Slice.Eq.{bytes_eq-Decides}
use Rattle.si_base.specs.Sets.{IsIn}
use Rattle.si_graph.proofs.SearchLemmas.{in_below}
use Rattle.si_insert.specs.Lineage.{History}
use Rattle.si_circuit.specs.Spelling.{current_word}
use Rattle.si_audit.specs.Named.{AreWordsOf}
use Rattle.si_audit.proofs.NamedSetWords.{members}
use Rattle.si_audit.proofs.StateWords.{HasStateNames, one_word}

module _ (word : ℕ → List ℕ) (set : List Bool) (w : List ℕ) where
  abbrev is_word_of : ℕ → Bool
  is_word_of s = bytes_eq w (word s)

  either : (a b : Bool) → (a || b) ≡ true → (a ≡ false) → b ≡ true
  either true b any none = absurd (true≢false none)
  either false b any none = any

  -- a state of the set that has the word
  abbrev HasWord : ℕ → Type 0
  HasWord n = (s : ℕ) × IsIn set s × (s < n) × (word s ≡ w)

  further : (a m : ℕ) → HasWord (a + 1 + m) → HasWord (a + suc m)
  further a m found = (found.0, found.1, (let below = found.2 in omega (arith, below)), found.3)

  -- what is among the words of the members from a on is the word of one
  word_of_member : (a m : ℕ) → list_any (bytes_eq w) (map word (members set a m)) ≡ true → HasWord (a + m)
  word_of_member a zero any = absurd (true≢false (sym any))
  word_of_member a (suc m) any = elim (cases_Bool (get_or set a false)) [
    | inl is ↦ elim (cases_Bool (is_word_of a)) [
      | inl same ↦ (a, is, omega arith, sym ((bytes_eq-Decides w (word a)).0 same))
      | inr other ↦ further a m (word_of_member (a + 1) m
          (either (is_word_of a) (list_any (bytes_eq w) (map word (members set (a + 1) m))) (rw is at any) other))
    ]
    | inr is_not ↦ further a m (word_of_member (a + 1) m (rw is_not at any))
  ]

  there_or_later : (a b : Bool) → (a ≡ true) ⊎ (b ≡ true) → (a || b) ≡ true
  there_or_later true b some = refl
  there_or_later false b (inl is) = absurd (true≢false (sym is))
  there_or_later false b (inr is) = is

  -- a member's word is among them
  member_has_word : (a m t : ℕ) → a ≤ t → t < a + m → IsIn set t → word t ≡ w
      → list_any (bytes_eq w) (map word (members set a m)) ≡ true
  member_has_word a zero t above below is same = absurd (omega (arith, above, below))
  member_has_word a (suc m) t above below is same = elim (cases_eq t a) [
    | inl here ↦ (
        let inside : get_or set a false ≡ true = subst (λ (s : ℕ). IsIn set s) here is in
        let own : is_word_of a ≡ true =
        (bytes_eq-Decides w (word a)).1 (sym same ∙ ap word here) in
        rw inside (there_or_later (is_word_of a) (list_any (bytes_eq w) (map word (members set (a + 1) m))) (inl own)))
    | inr other ↦ (
        let later = member_has_word (a + 1) m t (omega (arith, above, other)) (omega (arith, below)) is same in
        elim (cases_Bool (get_or set a false)) [
          | inl inside ↦ rw inside
              (there_or_later (is_word_of a) (list_any (bytes_eq w) (map word (members set (a + 1) m))) (inr later))
          | inr outside ↦ rw outside later
        ])
  ]

module _ (states : List (List ℕ)) (l : History) (words : List (List ℕ)) (set : List Bool)
    (spelled : HasStateNames states l) (are : AreWordsOf states l words set) where
  abbrev word : ℕ → List ℕ
  word s = current_word states l s

  pub named_just_so : (t : ℕ) → t < l.current.coded.graph.states
      → (list_any (bytes_eq (word t)) words ≡ true) ↔ IsIn set t
  named_just_so t within = (
    λ named. (
        let found = word_of_member word set (word t) 0 (length set)
        (subst (λ (ws : List (List ℕ)). list_any (bytes_eq (word t)) ws ≡ true) are.words_are named) in
        let below : found.0 < l.current.coded.graph.states = (let inside = in_below set found.0 found.1 in
        omega (arith, inside, are.size)) in
        subst (λ (s : ℕ). IsIn set s) (one_word states l spelled found.0 t below within found.3) found.1),
    λ is. subst (λ (ws : List (List ℕ)). list_any (bytes_eq (word t)) ws ≡ true) (sym are.words_are)
        (member_has_word word set (word t) 0 (length set) t (omega arith)
        (let below = in_below set t is in omega (arith, below)) is refl),
  )
