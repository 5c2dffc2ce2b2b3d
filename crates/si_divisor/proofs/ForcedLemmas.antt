-- What functions force: by their values at 128 states at once, and block after block.
use Rattle.std.proofs.Common.{◌≡◌, ℕ, ◌+◌, ◌-◌, ◌*◌, ◌<◌, ◌≤◌, Bool, List, ◌++◌, min}
use Rattle.std.proofs.Common.{length, get_or, set, take, sym, ap, ap₂, subst, ◌∙◌, arith, inl, inr}
use Rattle.std.proofs.Common.{get_or-set_same, get_or-set_other}
use Rattle.std.proofs.lemmas.Bool.{cases_eq, cases_lt}
use Rattle.std.proofs.lemmas.List.{get_or_default, get_or_append_left, get_or-append_right, get_or-take}
use Rattle.std.proofs.lemmas.List.{length-append, length-take-le}
use Rattle.std.specs.Int.{div_ceil}
use Rattle.si_base.specs.Bits.{bit}
use Rattle.si_base.specs.Codes.{CodedGraph, code}
use Rattle.si_divisor.specs.declared.function.Function.{Function}
use Rattle.si_divisor.specs.Loops.Columns.{AreColumns, TellsStates, TellFunctions, TellForced}
use Rattle.si_divisor.specs.Loops.ManyFunctions.{TellsForced}

-- ---- function by function
-- the words of the first n functions say so
abbrev pub TellFirst : List Function → Bool → List ℕ → ℕ → List ℕ → Type 0
TellFirst functions b columns n words = (k : ℕ) (d : Function) → k < n
    → TellsStates (get_or functions k d) b columns (get_or words k 0)

module _ (functions : List Function) (b : Bool) (columns : List ℕ) (n : ℕ) (words : List ℕ) (f : Function) (word : ℕ)
    (inside : n < length functions) (room : n < length words) (at : f ≡ get_or functions n f)
    (tells : TellsStates f b columns word) (before : TellFirst functions b columns n words) where
  here : (k : ℕ) (d : Function) → k ≡ n → f ≡ get_or functions k d
  here k d same = at ∙ sym (get_or_default functions n d f inside) ∙ ap (λ j. get_or functions j d) (sym same)

  word_here : (k : ℕ) → k ≡ n → word ≡ get_or (set words n word) k 0
  word_here k same = sym (get_or-set_same words n word 0 room) ∙ ap (λ j. get_or (set words n word) j 0) (sym same)

  pub one_told : TellFirst functions b columns (n + 1) (set words n word)
  one_told k d early = elim (cases_eq k n) [
    | inl same ↦ subst (λ (w : ℕ). TellsStates (get_or functions k d) b columns w) (word_here k same)
        (subst (λ (g : Function). TellsStates g b columns word) (here k d same) tells)
    | inr other ↦ subst (λ (w : ℕ). TellsStates (get_or functions k d) b columns w)
        (sym (get_or-set_other words n k word 0 other)) (before k d (omega (arith, early, other)))
  ]

-- ---- turned
-- bit j of each row is bit i of the row j of the others
abbrev pub AreTurned : List ℕ → List ℕ → Type 0
AreTurned old new = (i j : ℕ) → i < 128 → j < 128 → bit (get_or new i 0) j ≡ bit (get_or old j 0) i

pub columns_by_rows : (c : CodedGraph) (first count : ℕ) (rows columns : List ℕ)
    → ((i : ℕ) → i < count → get_or rows i 0 ≡ code c (first + i)) → count ≤ 128 → AreTurned rows columns
    → AreColumns c first count columns
columns_by_rows c first count rows columns are few turned i early z below =
    turned z i below (omega (arith, early, few)) ∙ ap (λ w. bit w z) (are i early)

pub forced_by_functions : (c : CodedGraph) (functions : List Function) (b : Bool) (first count : ℕ)
    (columns rows words : List ℕ) → AreColumns c first count columns → count ≤ 128 → length functions ≤ 128
    → TellFunctions functions b columns rows → AreTurned rows words → TellForced c functions b first count words
forced_by_functions c functions b first count columns rows words are small few tell turned i early k d inside =
    turned i k (omega (arith, early, small)) (omega (arith, inside, few))
    ∙ tell k d inside i (code c (first + i)) (omega (arith, early, small)) (are i early)

-- ---- block after block
-- there is a word for each of the first n states
pub record AreForcedTo (c : CodedGraph) (functions : List Function) (b : Bool) (n : ℕ) (words : List ℕ) : Type 0 where
  pub size : length words ≡ n
  pub each : (s : ℕ) → s < n → TellsForced c functions b s (get_or words s 0)

pub block_added : (c : CodedGraph) (functions : List Function) (b : Bool) (n count : ℕ) (words rows : List ℕ)
    → count ≤ length rows → AreForcedTo c functions b n words → TellForced c functions b n count rows
    → AreForcedTo c functions b (n + count) (words ++ take count rows)
block_added c functions b n count words rows room before tells = record {
  size = length-append words block ∙ ap₂ (λ (x y : ℕ). x + y) before.size (length-take-le count rows room);
  each = λ s early. elim (cases_lt s n) [
    | inl sooner ↦ subst (TellsForced c functions b s) (sym (in_words s sooner)) (before.each s sooner)
    | inr later ↦ (
        let more : s - n < count = omega (arith, early, later) in
        let back : n + (s - n) ≡ s = omega (arith, later) in
        let told : TellsForced c functions b (n + (s - n)) (get_or after s 0) =
        subst (TellsForced c functions b (n + (s - n))) (sym (in_block s later more)) (tells (s - n) more) in
        subst (λ (t : ℕ). TellsForced c functions b t (get_or after s 0)) back told)
  ];
}
  where
    block : List ℕ
    block = take count rows

    after : List ℕ
    after = words ++ block

    in_words : (s : ℕ) → s < n → get_or after s 0 ≡ get_or words s 0
    in_words s sooner = get_or_append_left words block 0 s (omega (arith, sooner, before.size))

    in_block : (s : ℕ) → n ≤ s → s - n < count → get_or after s 0 ≡ get_or rows (s - n) 0
    in_block s later more =
        get_or-append_right words block n s 0 before.size later ∙ get_or-take count rows (s - n) 0 more

-- the next 128 states, or as many as there are
pub next_block : (c : CodedGraph) (functions : List Function) (b : Bool) (block states count : ℕ) (words rows : List ℕ)
    → block < div_ceil states 128 → count ≡ min (states - 128 * block) 128 → length rows ≡ 128
    → AreForcedTo c functions b (min (128 * block) states) words
    → TellForced c functions b (128 * block) count rows
    → AreForcedTo c functions b (min (128 * (block + 1)) states) (words ++ take count rows)
next_block c functions b block states count words rows more count_is size before tells =
    let now : min (128 * block) states ≡ 128 * block = omega (arith, more) in
    let later : 128 * block + count ≡ min (128 * (block + 1)) states = omega (arith, more, count_is) in
    let room : count ≤ length rows = omega (arith, count_is, size) in
    let here = subst (λ (n : ℕ). AreForcedTo c functions b n words) now before in
    subst (λ (n : ℕ). AreForcedTo c functions b n (words ++ take count rows)) later
    (block_added c functions b (128 * block) count words rows room here tells)
