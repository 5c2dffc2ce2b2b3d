-- Words that are taken up to a mark.
use Rattle.std.proofs.Common.{◌≡◌, ℕ, ◌<◌, true, false, List, [], ◌∷◌, ◌++◌, length, refl}
use Rattle.std.proofs.Common.{sym, ap, ◌∙◌, arith, Bor, All, Some, None, bytes_eq, nat_lt}
use Rattle.std.proofs.Common.{lt-ltb}
use Rattle.std.proofs.Math.Seq.{take-append_seam, drop-append-add}
use Rattle.std.proofs.lemmas.List.{append-nil, length-append}
use Rattle.std.proofs.lemmas.List.Elements.{All-head, All-tail}
use Rattle.std.proofs.lemmas.List.Splits.{slice_split_none, slice_split_at}
use Rattle.si_words.specs.Loops.Reads.{words_now}
use Rattle.si_words.specs.Sums.{cut_at, len_before, parts_at}
use Rattle.si_cell.specs.Loops.Reads.{parts_left}

module _ (mark : List ℕ) where
  abbrev Other : List ℕ → Type 0
  Other w = bytes_eq mark w ≡ false

  to_mark : (before : List (List ℕ)) (w : List ℕ) (rest : List (List ℕ)) → All Other before → bytes_eq mark w ≡ true
      → len_before mark (before ++ w ∷ rest) ≡ length before
  to_mark [] w rest others is = rw is refl
  to_mark (v ∷ before) w rest others is =
      let later = to_mark before w rest (All-tail Other v before others) is in
      rw (All-head Other v before others) (omega (arith, later))

  to_end : (ws : List (List ℕ)) → All Other ws → len_before mark ws ≡ length ws
  to_end [] others = refl
  to_end (v ∷ ws) others =
      let later = to_end ws (All-tail Other v ws others) in
      rw (All-head Other v ws others) (omega (arith, later))

  cut_there : (before : List (List ℕ)) (w : List ℕ) (rest : List (List ℕ)) → All Other before → bytes_eq mark w ≡ true
      → cut_at mark (before ++ w ∷ rest) ≡ Some (before, rest)
  cut_there before w rest others is =
      let within : length before < length (before ++ w ∷ rest) = rw length-append (omega arith) in
      let here : nat_lt (length before) (length (before ++ w ∷ rest)) ≡ true = lt-ltb _ _ within in
      let first = take-append_seam before (w ∷ rest) in
      let last = drop-append-add before (w ∷ rest) 1 in
      rw (to_mark before w rest others is, here, first, last) refl

  cut_nowhere : (ws : List (List ℕ)) → All Other ws → cut_at mark ws ≡ None
  cut_nowhere ws others = rw (to_end ws others, not_below (length ws)) refl
    where
      not_below : (n : ℕ) → nat_lt n n ≡ false
      not_below n = grind arith

  -- the words that were taken, none of which is the mark, and those that are left
  pub record Taking (taken left whole : List (List ℕ)) : Type 0 where
    pub words : taken ++ left ≡ whole
    pub others : All Other taken

  module _ (taken : List (Bor (List ℕ))) (left whole : List (List ℕ))
      (taking : Taking (words_now taken) left whole) where
    pub at_mark : (w : List ℕ) (rest : List (List ℕ)) → left ≡ w ∷ rest → bytes_eq mark w ≡ true
        → (cut_at mark whole ≡ Some (words_now taken, rest)) × (parts_at mark whole ≡ words_now taken
        ∷ parts_left mark true rest)
    at_mark w rest left_is is =
        let words : words_now taken ++ w ∷ rest ≡ whole = ap (λ (ws : List (List ℕ)). words_now taken ++ ws)
        (sym left_is) ∙ taking.words in (
          ap (cut_at mark) (sym words) ∙ cut_there (words_now taken) w rest taking.others is,
          ap (parts_at mark) (sym words) ∙ slice_split_at (bytes_eq mark) (words_now taken) w rest taking.others is,
        )

    pub at_end : (rest : List (List ℕ)) → left ≡ [] → (cut_at mark whole ≡ None)
        × (parts_at mark whole ≡ words_now taken ∷ parts_left mark false rest)
    at_end rest left_is =
        let words : words_now taken ≡ whole = sym (append-nil (words_now taken))
        ∙ ap (λ (ws : List (List ℕ)). words_now taken ++ ws) (sym left_is) ∙ taking.words in (
          ap (cut_at mark) (sym words) ∙ cut_nowhere (words_now taken) taking.others,
          ap (parts_at mark) (sym words) ∙ slice_split_none (bytes_eq mark) (words_now taken) taking.others,
        )
