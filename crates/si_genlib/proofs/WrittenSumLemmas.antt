-- The words of a cell's sum spell that sum.
use Rattle.std.proofs.Common.{IsTrue, ◌≡◌, ◌≢◌, ℕ, ◌<◌, ◌≤◌, ◌==◌, true, false, List, [], ◌∷◌, ◌++◌, length, map}
use Rattle.std.proofs.Common.{get_or, All, AllPairs, sym, ap, subst, ◌∙◌, arith, append_assoc, codes, bytes_eq, Some, Ok}
use Rattle.std.proofs.Common.{inl, inr, refl}
use Rattle.std.proofs.lemmas.Bool.Decides.{eqb_tells}
use Rattle.std.proofs.lemmas.List.{append-nil, length-append, get_or_at, get_or_append_left}
use Rattle.std.proofs.lemmas.List.Folds.{list_any_none}
use Rattle.std.specs.List.{AllByRecursion, list_any}
use Rattle.si_base.specs.declared.ids.Literal.{Literal}
use Rattle.si_base.specs.declared.graph.Signal.{Signal}
use Rattle.si_base.specs.Graph.{names_in}
use Rattle.si_base.specs.Limits.{code_width}
use Rattle.si_base.specs.Netlist.{Sum}
use Rattle.si_base.specs.NetlistText.{literal_word, cube_words, sum_words}
use Rattle.si_base.specs.Words.{is_signal_name}
use Rattle.si_words.specs.Sums.{is_literal}
use Rattle.si_cube.specs.Literals.{InSignalOrder}
use Rattle.si_tokens.specs.LineParts.{made, each_after}
use Rattle.si_tokens.proofs.SumPartLemmas as sums
use Rattle.si_cell.specs.CellWords.{new_among, plain_part, next_literal, cube_part, sum_part}
use Rattle.si_cell.specs.Literals.{in_literal_order}
use Rattle.si_genlib.proofs.WrittenOrderLemmas.{AreBelow, in_order}

-- signal names, each once, few enough for a code
pub record AreNames (names : List (List ℕ)) : Type 0 where
  pub good : All (λ w. IsTrue (is_signal_name w)) names
  pub distinct : AllPairs (λ x y. x ≢ y) names
  pub few : length names ≤ code_width

-- a literal whose signal comes after those before it has another one
is_new : (before : List Literal) (l : Literal) (ls : List Literal) → InSignalOrder (before ++ l ∷ ls)
    → list_any (λ (m : Literal). m.sig == l.sig) before ≡ false
is_new before l ls rises = list_any_none (λ (m : Literal). m.sig == l.sig) before (λ k d inside. (
    let all : List Literal = before ++ l ∷ ls in
    let within : length before < length all = omega (arith, length-append before (l ∷ ls)) in
    let less : (get_or all k d).sig < (get_or all (length before) d).sig = rises k (length before) d inside within in
    let first = ap (λ (m : Literal). m.sig) (get_or_append_left before (l ∷ ls) d k inside) in
    let last = ap (λ (m : Literal). m.sig) (get_or_at before l ls d (length before) refl) in
    elim (eqb_tells (get_or before k d).sig l.sig) [
      | inl same ↦ absurd (omega (arith, less, first, last, same.1))
      | inr other ↦ other.0
    ]))

-- literals of signals that are there, but for the complement of the own output
module _ (signals : List Signal) (are : AreNames (names_in signals)) (Here : Literal → Type 0)
    (there : (l : Literal) → Here l → l.sig < length (names_in signals))
    (unmarked : (l : Literal) → Here l → bytes_eq (codes "q'") (literal_word signals l) ≡ false) where
  abbrev names : List (List ℕ)
  names = names_in signals

  pub is_word : (l : Literal) → Here l → is_literal (literal_word signals l) ≡ true
  is_word l here = sums.is_word signals are.good are.distinct l (there l here)

  literals_forth : (before ls : List Literal) → AllByRecursion Here ls → InSignalOrder (before ++ ls)
      → each_after (next_literal names) before (map (literal_word signals) ls) ≡ Some (Ok (before ++ ls))
  literals_forth before [] here rises = ap (λ (k : List Literal). Some (Ok k)) (sym (append-nil before))
  literals_forth before (l ∷ ls) here rises =
      let plain : plain_part names (literal_word signals l) ≡ Some (Ok l) =
      rw (unmarked l here.0) (sums.literal_forth signals are.good are.distinct l (there l here.0)) in
      let read : next_literal names before (literal_word signals l) ≡ Some (Ok l) =
      ap (new_among before) plain ∙ rw (is_new before l ls rises) refl in
      let regrouped = append_assoc before (l ∷ []) ls in
      rw read (literals_forth (before ++ l ∷ []) ls here.1 (subst InSignalOrder (sym regrouped) rises))
      ∙ ap (λ (k : List Literal). Some (Ok k)) regrouped

  words : (ls : List Literal) → AllByRecursion Here ls
      → AllByRecursion (λ (l : Literal). is_literal (literal_word signals l) ≡ true) ls
  words [] here = tt
  words (l ∷ ls) here = (is_word l here.0, words ls here.1)

  small : (ls : List Literal) → AllByRecursion Here ls → AreBelow code_width ls
  small [] here = tt
  small (l ∷ ls) here =
      let below : l.sig < length names = there l here.0 in
      let few : length names ≤ code_width = are.few in
      (omega arith, small ls here.1)

  cube_forth : (cube : List Literal) → AllByRecursion Here cube → InSignalOrder cube
      → cube_part names (cube_words signals cube) ≡ Some (Ok cube)
  cube_forth cube here rises = ap (made in_literal_order)
      (sums.cube_forth signals (next_literal names) cube (words cube here) (literals_forth [] cube here rises))
      ∙ ap (λ (c : List Literal). Some (Ok c)) (in_order cube rises (small cube here))

  cubes_forth : (sum : Sum) → AllByRecursion (AllByRecursion Here) sum → AllByRecursion InSignalOrder sum
      → AllByRecursion (λ c. cube_part names (cube_words signals c) ≡ Some (Ok c)) sum
  cubes_forth [] here rises = tt
  cubes_forth (c ∷ cs) here rises = (cube_forth c here.0 rises.0, cubes_forth cs here.1 rises.1)

  pub sum_forth : (sum : Sum) → AllByRecursion (AllByRecursion Here) sum → AllByRecursion InSignalOrder sum
      → sum_part names (sum_words signals sum) ≡ Some (Ok sum)
  sum_forth sum here rises =
      sums.sum_forth signals Here is_word (cube_part names) sum here (cubes_forth sum here rises)
