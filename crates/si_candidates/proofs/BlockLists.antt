-- The list of blocks, one more at a time.
use Rattle.std.proofs.Common.{◌≡◌, ℕ, ◌+◌, ◌<◌, ◌≤◌, ◌||◌, Bool, true, false, not, if◌then◌else◌, List, [], ◌∷◌, ◌++◌}
use Rattle.std.proofs.Common.{filter, length, take, get_or, map, nat_lt, le-ltb, refl, sym, ap, ◌∙◌, arith, inl, inr}
use Rattle.std.proofs.Common.{append_assoc}
use Rattle.std.proofs.lemmas.Bool.{cases_Bool, cases_lt, lt-ltb}
use Rattle.std.proofs.lemmas.List.{append-nil, length_push, length-take-le, take-append-le, take_all, take_more}
use Rattle.std.proofs.lemmas.List.{map-append}
use Rattle.std.proofs.lemmas.List.Elements.{filter-append}
use Rattle.std.specs.List.{list_any}
use Rattle.si_base.specs.declared.ids.Event.{Event}
use Rattle.si_base.specs.declared.graph.Signal.{Signal}
use Rattle.si_base.specs.Graph.{rise, fall, is_driven}
use Rattle.si_candidates.specs.Loops.Adding.{with_block, with_blocks}
use Rattle.si_candidates.specs.Blocks.{same_set, without_repeats, max_blocks, driven_events}
use Rattle.si_candidates.proofs.BlockSameSets.{same_set-true}

-- the first of them, each once
abbrev pub blocks_from : List (List Bool) → List (List Bool)
blocks_from sets = take max_blocks (without_repeats sets)

abbrev stands : List (List Bool) → List Bool → Bool
stands sets x = list_any (same_set x) sets

abbrev with_set : List (List Bool) → List Bool → List (List Bool)
with_set sets x = if stands sets x then sets else sets ++ x ∷ []

-- ---- each set once
stands_among_others : (x n : List Bool) (sets : List (List Bool)) → same_set n x ≡ false
    → stands (filter (λ z. not (same_set z x)) sets) n ≡ stands sets n
stands_among_others x n [] other = refl
stands_among_others x n (m ∷ sets) other = elim (cases_Bool (same_set m x)) [
  | inl same ↦ (
      let apart : same_set n m ≡ false = ap (same_set n) (same_set-true m x same) ∙ other in
      rw (same, apart) (stands_among_others x n sets other))
  | inr differs ↦ rw differs (ap (λ b. same_set n m || b) (stands_among_others x n sets other))
]

filter_with_set : (x y : List Bool) (zs : List (List Bool)) → filter (λ z. not (same_set z x)) (with_set zs y)
    ≡ (if same_set y x then filter (λ z. not (same_set z x)) zs
    else with_set (filter (λ z. not (same_set z x)) zs) y)
filter_with_set x y zs = elim (cases_Bool (same_set y x)) [
  | inl same ↦ elim (cases_Bool (stands zs y)) [
    | inl there ↦ rw (same, there) refl
    | inr absent ↦ rw (same, absent) (filter-append p zs (y ∷ []) ∙ rw same (append-nil (filter p zs)))
  ]
  | inr other ↦ elim (cases_Bool (stands zs y)) [
    | inl there ↦ rw (other, stands_among_others x y zs other, there) refl
    | inr absent ↦ rw (other, stands_among_others x y zs other, absent)
        (filter-append p zs (y ∷ []) ∙ rw other refl)
  ]
]
  where
    p : List Bool → Bool
    p z = not (same_set z x)

once_push : (xs : List (List Bool)) (y : List Bool) → without_repeats (xs ++ y ∷ []) ≡ with_set (without_repeats xs) y
once_push [] y = refl
once_push (x ∷ xs) y =
    ap (λ zs. x ∷ filter (λ z. not (same_set z x)) zs) (once_push xs y)
    ∙ ap (λ zs. x ∷ zs) (filter_with_set x y (without_repeats xs)) ∙ put_first (same_set y x) refl
  where
    kept : List (List Bool)
    kept = filter (λ z. not (same_set z x)) (without_repeats xs)

    put_first : (b : Bool) → same_set y x ≡ b → x ∷ (if b then kept else with_set kept y)
        ≡ (if b || stands kept y then x ∷ kept else (x ∷ kept) ++ y ∷ [])
    put_first true same = refl
    put_first false other = elim (cases_Bool (stands kept y)) [
      | inl there ↦ rw there refl
      | inr absent ↦ rw absent refl
    ]

-- ---- the first of them
-- the list with one more set, where at most m may stand
abbrev with_at_most : ℕ → List (List Bool) → List Bool → List (List Bool)
with_at_most m sets x = if nat_lt (length sets) m then with_set sets x else sets

cut : (m : ℕ) (zs : List (List Bool)) (y : List Bool) → take m (with_set zs y) ≡ with_at_most m (take m zs) y
cut m zs y = elim (cases_lt (length zs) m) [
  | inl less ↦ elim (cases_Bool (stands zs y)) [
    | inl there ↦ rw (take_all m zs (omega arith), lt-ltb (length zs) m less, there) (take_all m zs (omega arith))
    | inr absent ↦ rw (take_all m zs (omega arith), lt-ltb (length zs) m less, absent)
        (take_all m (zs ++ y ∷ []) (omega (arith, length_push zs y)))
  ]
  | inr full ↦ (
      let size : length (take m zs) ≡ m = length-take-le m zs full in
      let no_more : nat_lt (length (take m zs)) m ≡ false = le-ltb (length (take m zs)) m (omega (arith, size)) in
      elim (cases_Bool (stands zs y)) [
        | inl there ↦ rw (no_more, there) refl
        | inr absent ↦ rw (no_more, absent) (take-append-le m zs (y ∷ []) full)
      ])
]

blocks_push : (xs : List (List Bool)) (y : List Bool)
    → blocks_from (xs ++ y ∷ []) ≡ with_block (blocks_from xs) y
blocks_push xs y = ap (take max_blocks) (once_push xs y) ∙ cut max_blocks (without_repeats xs) y

-- ---- more of them
pub with_blocks-append : (sets xs ys : List (List Bool))
    → with_blocks sets (xs ++ ys) ≡ with_blocks (with_blocks sets xs) ys
with_blocks-append sets [] ys = refl
with_blocks-append sets (x ∷ xs) ys = with_blocks-append (with_block sets x) xs ys

with_blocks-from : (xs ys : List (List Bool)) → with_blocks (blocks_from xs) ys ≡ blocks_from (xs ++ ys)
with_blocks-from xs [] = ap blocks_from (sym (append-nil xs))
with_blocks-from xs (y ∷ ys) =
    ap (λ zs. with_blocks zs ys) (sym (blocks_push xs y)) ∙ with_blocks-from (xs ++ y ∷ []) ys
    ∙ ap blocks_from (append_assoc xs (y ∷ []) ys)

-- enough sets stay as they are
module _ (sets : List (List Bool)) (full : max_blocks ≤ length sets) where
  pub full_block : (x : List Bool) → with_block sets x ≡ sets
  full_block x = rw (le-ltb (length sets) max_blocks full) refl

  pub full_blocks : (xs : List (List Bool)) → with_blocks sets xs ≡ sets
  full_blocks [] = refl
  full_blocks (x ∷ xs) = ap (λ zs. with_blocks zs xs) (full_block x) ∙ full_blocks xs

-- ---- a list that is mapped, and added one after another
pub mapped_more : {A : Type 0} (f : A → List Bool) (xs : List A) (i : ℕ) (a : A) (sets found new : List (List Bool))
    → i < length xs → a ≡ get_or xs i a → found ≡ with_blocks sets (map f (take i xs)) → new ≡ with_block found (f a)
    → new ≡ with_blocks sets (map f (take (i + 1) xs))
mapped_more f xs i a sets found new within at so more =
    let mapped : map f (take (i + 1) xs) ≡ map f (take i xs) ++ f a ∷ [] =
    ap (map f) (take_more xs i a within ∙ ap (λ x. take i xs ++ x ∷ []) (sym at))
    ∙ map-append f (take i xs) (a ∷ []) in
    more ∙ ap (λ zs. with_block zs (f a)) so
    ∙ sym (with_blocks-append sets (map f (take i xs)) (f a ∷ []))
    ∙ ap (with_blocks sets) (sym mapped)

-- ---- the three parts of the list
pub all_parts : (excited switched intervals one two three : List (List Bool))
    → one ≡ with_blocks [] excited → two ≡ with_blocks one switched → three ≡ with_blocks two intervals
    → three ≡ blocks_from (excited ++ (switched ++ intervals))
all_parts excited switched intervals one two three is_one is_two is_three =
    is_three ∙ ap (λ zs. with_blocks zs intervals) (is_two ∙ ap (λ zs. with_blocks zs switched) is_one)
    ∙ ap (λ zs. with_blocks zs intervals) (sym (with_blocks-append [] excited switched))
    ∙ sym (with_blocks-append [] (excited ++ switched) intervals)
    ∙ with_blocks-from [] ((excited ++ switched) ++ intervals)
    ∙ ap blocks_from (append_assoc excited switched intervals)

-- ---- the events of driven signals
driven_push : (a : ℕ) (signals : List Signal) (x : Signal) → driven_events a (signals ++ x ∷ [])
    ≡ driven_events a signals ++ driven_events (a + length signals) (x ∷ [])
driven_push a [] x = ap (λ n. driven_events n (x ∷ [])) (omega arith)
driven_push a (y ∷ signals) x = elim (cases_Bool (is_driven y.kind)) [
  | inl drives ↦ rw (drives, driven_push (a + 1) signals x) (ap
      (λ n. rise a ∷ fall a ∷ (driven_events (a + 1) signals ++ driven_events n (x ∷ []))) (omega arith))
  | inr input ↦ rw (input, driven_push (a + 1) signals x)
      (ap (λ n. driven_events (a + 1) signals ++ driven_events n (x ∷ [])) (omega arith))
]

module _ (signals : List Signal) (z : ℕ) (x : Signal) (inside : z < length signals) (at : x ≡ get_or signals z x) where
  driven_step : driven_events 0 (take (z + 1) signals)
      ≡ driven_events 0 (take z signals) ++ driven_events z (x ∷ [])
  driven_step =
      let size : 0 + length (take z signals) ≡ z = omega (arith, length-take-le z signals (omega arith)) in
      ap (driven_events 0) (take_more signals z x inside ∙ ap (λ y. take z signals ++ y ∷ []) (sym at))
      ∙ driven_push 0 (take z signals) x
      ∙ ap (λ n. driven_events 0 (take z signals) ++ driven_events n (x ∷ [])) size

  pub driven_more : (events : List Event) → is_driven x.kind ≡ true → events ≡ driven_events 0 (take z signals)
      → (events ++ rise z ∷ []) ++ fall z ∷ [] ≡ driven_events 0 (take (z + 1) signals)
  driven_more events drives so =
      append_assoc events (rise z ∷ []) (fall z ∷ []) ∙ ap (λ es. es ++ rise z ∷ fall z ∷ []) so
      ∙ sym (driven_step ∙ ap (λ b. driven_events 0 (take z signals)
      ++ (if b then rise z ∷ fall z ∷ [] else [])) drives)

  pub driven_pass : (events : List Event) → is_driven x.kind ≡ false → events ≡ driven_events 0 (take z signals)
      → events ≡ driven_events 0 (take (z + 1) signals)
  driven_pass events input so =
      so ∙ sym (driven_step ∙ ap (λ b. driven_events 0 (take z signals)
      ++ (if b then rise z ∷ fall z ∷ [] else [])) input ∙ append-nil (driven_events 0 (take z signals)))
