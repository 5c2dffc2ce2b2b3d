-- The first fault of words, one word after the other.
use Rattle.std.proofs.Common.{◌≡◌, ℕ, ◌+◌, ◌<◌, List, [], ◌∷◌, ◌++◌, length, get_or, take, drop, refl, sym, ap, ◌∙◌}
use Rattle.std.proofs.Common.{Bor, Option, Some, None, add-one, append_assoc, slice_get}
use Rattle.std.proofs.Math.Seq.{drop-cons}
use Rattle.std.proofs.lemmas.List.{append-nil, length-map, get_or-map, take_more}
use Rattle.std.proofs.lemmas.Option.{slice_get-map, slice_get-get_or}
use Rattle.si_base.specs.Faults.{◌otherwise◌, first_after}
use Rattle.si_words.specs.Loops.Reads.{words_now}

module _ {F : Type 0} where
  pub after_word : (f : List (List ℕ) → List ℕ → Option F) (before : List (List ℕ)) (ws : List (Bor (List ℕ))) (i : ℕ)
      (d : Bor (List ℕ)) → i < length ws → first_after f before (drop i (words_now ws))
      ≡ (f before (get_or ws i d).now otherwise first_after f (before ++ (get_or ws i d).now ∷ [])
      (drop (i + 1) (words_now ws)))
  after_word f before ws i d within =
      let inside : i < length (words_now ws) = rw length-map within in
      rw (
        drop-cons (words_now ws) i d.now inside,
        get_or-map (λ (w : Bor (List ℕ)). w.now) ws i d d.now within,
        add-one,
      ) refl

  -- the word at i has a fault: it is the first of all
  pub stops : (f : List (List ℕ) → List ℕ → Option F) (before : List (List ℕ)) (ws : List (Bor (List ℕ))) (i : ℕ)
      (d : Bor (List ℕ)) (kind : F) (total : Option F) → i < length ws
      → first_after f before (drop i (words_now ws)) ≡ total → f before (get_or ws i d).now ≡ Some kind
      → total ≡ Some kind
  stops f before ws i d kind total within so_far here = sym so_far ∙ after_word f before ws i d within ∙ rw here refl

  -- the word at i has none: the first of all is the first after it
  pub goes : (f : List (List ℕ) → List ℕ → Option F) (before new : List (List ℕ)) (ws : List (Bor (List ℕ))) (i : ℕ)
      (d : Bor (List ℕ)) (total : Option F) → i < length ws → first_after f before (drop i (words_now ws)) ≡ total
      → f before (get_or ws i d).now ≡ None → new ≡ before ++ (get_or ws i d).now ∷ []
      → first_after f new (drop (i + 1) (words_now ws)) ≡ total
  goes f before new ws i d total within so_far here is = rw is (rw (after_word f before ws i d within, here) at so_far)

no_fault : {F : Type 0} (a b : Option F) → (a otherwise b) ≡ None → (a ≡ None) × (b ≡ None)
no_fault None b none = (refl, none)
no_fault (Some x) b none = absurd cc

-- words without a fault, and one more
good_push : {F : Type 0} (f : List (List ℕ) → List ℕ → Option F) (old xs : List (List ℕ)) (w : List ℕ)
    → first_after f old xs ≡ None → f (old ++ xs) w ≡ None → first_after f old (xs ++ w ∷ []) ≡ None
good_push f old [] w good here = let at_old : f old w ≡ None = rw append-nil at here in rw at_old refl
good_push f old (x ∷ xs) w good here =
    let parts = no_fault (f old x) (first_after f (old ++ x ∷ []) xs) good in
    rw parts.0 (good_push f (old ++ x ∷ []) xs w parts.1 (rw append_assoc here))

pub take_word : (ws : List (Bor (List ℕ))) (i : ℕ) (d : Bor (List ℕ)) → i < length ws
    → take (i + 1) (words_now ws) ≡ take i (words_now ws) ++ (get_or ws i d).now ∷ []
take_word ws i d within =
    let inside : i < length (words_now ws) = rw length-map within in
    take_more (words_now ws) i d.now inside
    ∙ ap (λ (w : List ℕ). take i (words_now ws) ++ w ∷ [])
    (get_or-map (λ (w : Bor (List ℕ)). w.now) ws i d d.now within)

pub takes : (old before new : List (List ℕ)) (ws : List (Bor (List ℕ))) (i : ℕ) (d : Bor (List ℕ)) → i < length ws
    → before ≡ old ++ take i (words_now ws) → new ≡ before ++ (get_or ws i d).now ∷ []
    → new ≡ old ++ take (i + 1) (words_now ws)
takes old before new ws i d within so_far is = is ∙ ap (λ (b : List (List ℕ)). b ++ (get_or ws i d).now ∷ []) so_far
    ∙ append_assoc old (take i (words_now ws)) ((get_or ws i d).now ∷ [])
    ∙ ap (λ (t : List (List ℕ)). old ++ t) (sym (take_word ws i d within))

pub good_more : {F : Type 0} (f : List (List ℕ) → List ℕ → Option F) (old before : List (List ℕ))
    (ws : List (Bor (List ℕ))) (i : ℕ) (d : Bor (List ℕ)) → i < length ws
    → first_after f old (take i (words_now ws)) ≡ None → before ≡ old ++ take i (words_now ws)
    → f before (get_or ws i d).now ≡ None → first_after f old (take (i + 1) (words_now ws)) ≡ None
good_more f old before ws i d within good so_far here =
    rw (take_word ws i d within) (good_push f old (take i (words_now ws)) (get_or ws i d).now good (rw so_far at here))

pub word_at : (ws : List (Bor (List ℕ))) (i : ℕ) (d : Bor (List ℕ)) → i < length ws
    → slice_get (words_now ws) i ≡ Some (get_or ws i d).now
word_at ws i d within = slice_get-map (λ (w : Bor (List ℕ)). w.now) ws i ∙ rw (slice_get-get_or ws i d within) refl
