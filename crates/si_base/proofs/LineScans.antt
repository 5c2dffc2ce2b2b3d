-- How far a scan of a line goes: to a byte, to the first bad byte or the comment.
use Rattle.std.proofs.Common.{◌≡◌, ℕ, ◌<◌, ◌≤◌, ◌==◌, Bool, true, false, not, ◌&&◌, refl, sym, ap, ◌∙◌, arith, inl, inr}
use Rattle.std.proofs.Common.{List, length, take, get_or}
use Rattle.std.specs.List.{prefix_len, list_any}
use Rattle.std.proofs.lemmas.Bool.{cases_lt, cases_Bool, true≢false, and_parts, not-true}
use Rattle.std.proofs.lemmas.List.{get_or-take, length-take}
use Rattle.std.proofs.lemmas.List.Elements.{All-from_get_or}
use Rattle.std.proofs.lemmas.List.Folds.{list_any_at, list_any_none}
use Rattle.std.proofs.lemmas.List.Sums.{prefix_len_is, prefix_len_passes, prefix_len_stops, prefix_len-le-length}
use Rattle.memchr.specs.Find.{Nowhere, NoneBefore, Passes, is_byte}
use Rattle.si_base.specs.Lines.{is_bad, has_bad_byte, before_comment}

-- ---- to a byte that is searched

abbrev other_than : ℕ → ℕ → Bool
other_than mark b = not (b == mark)

goes_on : (mark b : ℕ) → ((b == mark) ≡ true → ⊥) → other_than mark b ≡ true
goes_on mark b apart = elim (cases_Bool (b == mark)) [
  | inl same ↦ absurd (apart same)
  | inr differ ↦ ap not differ
]

pub len_to_found : (mark k : ℕ) (bytes : List ℕ) → NoneBefore (Passes (is_byte mark) bytes) 0 (length bytes) k
    → Passes (is_byte mark) bytes k → k ≡ prefix_len (other_than mark) bytes
len_to_found mark k bytes none found =
    let inside : k < length bytes = none.high in
    sym (prefix_len_is (other_than mark) bytes k 0 (omega arith)
    (λ j early. goes_on mark (get_or bytes j 0) (none.before j (omega arith) early)) (λ _. ap not found))

pub len_to_none : (mark : ℕ) (bytes : List ℕ) → Nowhere (Passes (is_byte mark) bytes) 0 (length bytes)
    → length bytes ≡ prefix_len (other_than mark) bytes
len_to_none mark bytes none =
    sym (prefix_len_is (other_than mark) bytes (length bytes) 0 (omega arith)
    (λ j early. goes_on mark (get_or bytes j 0) (none j (omega arith) early)) (λ past. absurd (omega (arith, past))))

-- ---- to the first byte that is bad or begins the comment

abbrev pub is_clean : ℕ → Bool
is_clean b = not (b == 35) && not (is_bad b)

clean_parts : (b : ℕ) → is_clean b ≡ true → (other_than 35 b ≡ true) × (is_bad b ≡ false)
clean_parts b is = let parts = and_parts _ _ is in (parts.0, not-true (is_bad b) parts.1)

bad_where_stopped : (b : ℕ) → is_clean b ≡ false → (b == 35) ≡ false → is_bad b ≡ true
bad_where_stopped b stops plain = elim (cases_Bool (is_bad b)) [
  | inl bad ↦ bad
  | inr good ↦ absurd (true≢false (sym (rw (plain, good) refl) ∙ stops))
]

module _ (line : List ℕ) (n : ℕ) (scanned : n ≡ prefix_len is_clean line) where
  inside : n ≤ length line
  inside = omega (arith, scanned, prefix_len-le-length is_clean line)

  clean_before : (k : ℕ) → k < n → (other_than 35 (get_or line k 0) ≡ true) × (is_bad (get_or line k 0) ≡ false)
  clean_before k early =
      clean_parts (get_or line k 0) (prefix_len_passes is_clean line k 0 (omega (arith, early, scanned)))

  stopped : n < length line → is_clean (get_or line n 0) ≡ false
  stopped more = rw scanned (prefix_len_stops is_clean line 0 (omega (arith, more, scanned)))

  -- the scan went to the end or to the comment
  pub comment_at : (n < length line → (get_or line n 0 == 35) ≡ true) → before_comment line ≡ take n line
  comment_at ends = ap (λ k. take k line) (prefix_len_is (other_than 35) line n 0 inside
      (λ k early. (clean_before k early).0) (λ more. ap not (ends more)))

  pub no_bad_byte : (n < length line → (get_or line n 0 == 35) ≡ true) → has_bad_byte line ≡ false
  no_bad_byte ends = ap (list_any is_bad) (comment_at ends)
      ∙ list_any_none is_bad (take n line) (All-from_get_or (λ b. is_bad b ≡ false) (take n line) 0 (λ k early.
      let before : k < n = omega (arith, early, length-take n line) in
      ap is_bad (get_or-take n line k 0 before) ∙ (clean_before k before).1))

  -- the scan stopped at a bad byte
  pub bad_byte : n < length line → (get_or line n 0 == 35) ≡ false → has_bad_byte line ≡ true
  bad_byte more plain =
      let m : ℕ = prefix_len (other_than 35) line in
      let bad = bad_where_stopped (get_or line n 0) (stopped more) plain in
      let past : n < m = elim (cases_lt n m) [
        | inl before ↦ before
        | inr comment ↦ absurd (true≢false (sym (passes_to comment) ∙ prefix_len_stops (other_than 35) line 0
            (omega (arith, comment, more))))
      ] in
      let kept : n < length (take m line) = omega (arith, past, more, length-take m line) in
      list_any_at is_bad (take m line) n 0 kept (ap is_bad (get_or-take m line n 0 past) ∙ bad)
    where
      passes_to : prefix_len (other_than 35) line ≤ n
          → other_than 35 (get_or line (prefix_len (other_than 35) line) 0) ≡ true
      passes_to comment = elim (cases_lt (prefix_len (other_than 35) line) n) [
        | inl early ↦ (clean_before (prefix_len (other_than 35) line) early).0
        | inr late ↦
            let here : prefix_len (other_than 35) line ≡ n = omega (arith, comment, late) in
            ap (λ k. other_than 35 (get_or line k 0)) here ∙ ap not plain
      ]
