-- The words of a list, read along the states.
use Rattle.std.proofs.Common.{◌≡◌, ℕ, zero, suc, ◌+◌, ◌-◌, ◌<◌, ◌≤◌, Bool, true, false, cond, List, [], ◌∷◌, ◌++◌}
use Rattle.std.proofs.Common.{length, map, filter, get_or, set, take, drop, Some, slice_get, refl, sym, ap}
use Rattle.std.proofs.Common.{ap₂, subst, ◌∙◌, arith}
use Rattle.std.proofs.lemmas.List.{append-nil, drop_more, get_or-set_other, get_or-set_same}
use Rattle.std.proofs.lemmas.List.{length-drop, length-set, map-append}
use Rattle.std.proofs.lemmas.List.{take_more}
use Rattle.std.proofs.lemmas.List.Elements.{filter-append}
use Rattle.std.proofs.lemmas.Option.{get_or_from_slice_get, slice_get_within}
use Rattle.std.specs.List.{range_with_len}
use Rattle.si_insert.specs.Lineage.{History}
use Rattle.si_insert.proofs.StateCopyPlaces.{range_more}
use Rattle.si_circuit.specs.Spelling.{current_word}
use Rattle.si_audit.specs.Named.{AreWordsOf}
use Rattle.si_audit.proofs.StateWords.{HasStateNames, one_word}
use Rattle.si_audit.proofs.NamedSetWords.{members, not_first}

-- the states before s are looked at, and the first words, so many, are those of the set so far; what
-- is left names states from s on
pub record IsReadTo (states : List (List ℕ)) (l : History) (words : List (List ℕ)) (size s taken : ℕ)
    (found : List Bool) : Type 0 where
  pub size_is : length found ≡ size
  pub few : taken ≤ length words
  pub so_far : take taken words ≡ map (current_word states l) (members found 0 s)
  pub none_after : (t : ℕ) → s ≤ t → get_or found t false ≡ false
  pub others : (other : List Bool) (left : ℕ) → s + left ≡ size → AreWordsOf states l words other
      → drop taken words ≡ map (current_word states l) (members other s left)

-- ---- the set so far
more_members : (found : List Bool) (s : ℕ) (b : Bool) → get_or found s false ≡ b
    → members found 0 (s + 1) ≡ members found 0 s ++ cond b (s ∷ []) []
more_members found s b is =
    let p : ℕ → Bool = λ t. get_or found t false in
    ap (λ (xs : List ℕ). filter p xs) (range_more s) ∙ filter-append p (range_with_len 0 s) (s ∷ [])
    ∙ ap (λ (c : Bool). members found 0 s ++ cond c (s ∷ []) []) is

same_below : (x y : List Bool) (a m : ℕ) → ((t : ℕ) → a ≤ t → t < a + m → get_or x t false ≡ get_or y t false)
    → members x a m ≡ members y a m
same_below x y a zero same = refl
same_below x y a (suc m) same =
    ap₂ (λ (c : Bool) (rest : List ℕ). cond c (a ∷ rest) rest) (same a (omega arith) (omega arith))
    (same_below x y (a + 1) m (λ t above below. same t (omega arith) (omega arith)))

-- ---- what is left
get_from_drop : (xs : List (List ℕ)) (k : ℕ) (y : List ℕ) (ys : List (List ℕ)) → drop k xs ≡ y ∷ ys
    → slice_get xs k ≡ Some y
get_from_drop [] zero y ys is = cc
get_from_drop [] (suc k) y ys is = cc
get_from_drop (x ∷ xs) zero y ys is = (let head : x ≡ y = cc in ap (λ (w : List ℕ). Some w) head)
get_from_drop (x ∷ xs) (suc k) y ys is = get_from_drop xs k y ys is

taken_on : (b : Bool) (word : ℕ → List ℕ) (s : ℕ) (rest : List ℕ) (ws : List (List ℕ))
    → ((vs : List (List ℕ)) → map word rest ≡ word s ∷ vs → ⊥)
    → word s ∷ ws ≡ map word (cond b (s ∷ rest) rest) → ws ≡ map word rest
taken_on true word s rest ws not_later same = cc
taken_on false word s rest ws not_later same = absurd (not_later ws (sym same))

passed_on : (b : Bool) (word : ℕ → List ℕ) (s : ℕ) (rest : List ℕ) (ws : List (List ℕ))
    → ((vs : List (List ℕ)) → ws ≡ word s ∷ vs → ⊥)
    → ws ≡ map word (cond b (s ∷ rest) rest) → ws ≡ map word rest
passed_on true word s rest ws not_next same = absurd (not_next (map word rest) same)
passed_on false word s rest ws not_next same = same

-- ---- the loop
module _ (states : List (List ℕ)) (l : History) (words : List (List ℕ)) (size s taken : ℕ) (found : List Bool)
    (spelled : HasStateNames states l) (size_ok : size ≡ l.current.coded.graph.states) (within : s < size)
    (so : IsReadTo states l words size s taken found) where
  not_later : (other : List Bool) (left : ℕ) → s + 1 + left ≡ size → (vs : List (List ℕ))
      → map (current_word states l) (members other (s + 1) left) ≡ current_word states l s ∷ vs → ⊥
  not_later other left at vs same =
      not_first (current_word states l) other (s + 1) left (current_word states l s) vs
      (λ t above below e. (let here : t ≡ s = one_word states l spelled t s (omega arith) (omega arith) e in
      omega arith))
      same

  pub word_taken : (more : ℕ) (new : List Bool) → slice_get words taken ≡ Some (current_word states l s)
      → more ≡ taken + 1 → new ≡ set found s true → IsReadTo states l words size (s + 1) more new
  word_taken more new next more_is new_is =
      let word : ℕ → List ℕ = λ t. current_word states l t in
      let there : taken < length words = slice_get_within words taken (word s) next in
      let item : get_or words taken [] ≡ word s = get_or_from_slice_get words taken (word s) [] next in
      let marked : List Bool = set found s true in
      let here : get_or marked s false ≡ true = get_or-set_same found s true false (omega (arith, so.size_is)) in
      let kept : (t : ℕ) → (t ≡ s → ⊥) → get_or marked t false ≡ get_or found t false =
      λ t other. get_or-set_other found s t true false other in
      let P : ℕ → List Bool → Type 0 = λ k set. IsReadTo states l words size (s + 1) k set in
      let is : P (taken + 1) marked = record {
        size_is = length-set found s true ∙ so.size_is;
        few = omega arith;
        so_far = take_more words taken [] there
            ∙ ap₂ (λ (xs : List (List ℕ)) (w : List ℕ). xs ++ w ∷ []) so.so_far item
            ∙ sym (map-append word (members found 0 s) (s ∷ []))
            ∙ ap (λ (xs : List ℕ). map word (xs ++ s ∷ []))
            (same_below found marked 0 s (λ t above below. sym (kept t (λ e. omega arith))))
            ∙ ap (map word) (sym (more_members marked s true here));
        none_after = λ t above. kept t (λ e. omega arith) ∙ so.none_after t (omega arith);
        others = λ other left at are. taken_on (get_or other s false) word s (members other (s + 1) left)
            (drop (taken + 1) words) (not_later other left at)
            (sym (drop_more words taken [] there ∙ ap (λ (w : List ℕ). w ∷ drop (taken + 1) words) item)
            ∙ so.others other (suc left) (omega arith) are);
      } in
      subst (P more) (sym new_is) (subst (λ k. P k marked) (sym more_is) is)

  pub word_passed : (slice_get words taken ≡ Some (current_word states l s) → ⊥)
      → IsReadTo states l words size (s + 1) taken found
  word_passed not_next = record {
    size_is = so.size_is;
    few = so.few;
    so_far = so.so_far ∙ ap (map (current_word states l)) (sym (append-nil (members found 0 s)))
        ∙ ap (map (current_word states l)) (sym (more_members found s false (so.none_after s (omega arith))));
    none_after = λ t above. so.none_after t (omega arith);
    others = λ other left at are. passed_on (get_or other s false) (current_word states l) s
        (members other (s + 1) left) (drop taken words)
        (λ vs e. not_next (get_from_drop words taken (current_word states l s) vs e))
        (so.others other (suc left) (omega arith) are);
  }

pub some_left : (states : List (List ℕ)) (l : History) (words : List (List ℕ)) (size s taken : ℕ) (found : List Bool)
    → s ≡ size → (taken ≡ length words → ⊥) → IsReadTo states l words size s taken found
    → (other : List Bool) → AreWordsOf states l words other → ⊥
some_left states l words size s taken found end not_all so other are =
    let none : drop taken words ≡ [] = so.others other 0 (omega arith) are in
    let count : length words - taken ≡ 0 = sym (length-drop taken words) ∙ ap (length {A = List ℕ}) none in
    not_all (omega (arith, so.few, count))
