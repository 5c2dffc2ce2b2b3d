-- The words of a sum spell that sum.
use Rattle.std.proofs.Common.{◌≡◌, ℕ, ◌<◌, true, List, [], ◌∷◌, ◌++◌, length, map, get_or, AllPairs, refl}
use Rattle.std.proofs.Common.{sym, ap, subst}
use Rattle.std.proofs.Common.{◌∙◌, arith, nat_lt, Some, Ok, append_assoc}
use Rattle.std.proofs.lemmas.Bool.{lt-ltb}
use Rattle.std.proofs.lemmas.List.{append-nil, length-append, get_or_append_left, get_or_at}
use Rattle.std.proofs.lemmas.List.Elements.{recursion_from_All}
use Rattle.std.proofs.lemmas.List.Sums.{list_all-from_AllPass}
use Rattle.std.specs.List.{AllByRecursion, list_all}
use Rattle.si_base.specs.Graph.{names_in}
use Rattle.si_base.specs.Netlist.{Sum}
use Rattle.si_base.specs.NetlistText.{literal_word, cube_words, sum_words}
use Rattle.si_base.specs.WellFormed.{IsCube, IsSum}
use Rattle.si_base.specs.declared.graph.Signal.{Signal}
use Rattle.si_base.specs.declared.ids.Literal.{Literal}
use Rattle.si_words.specs.Sums.{is_literal}
use Rattle.si_tokens.specs.LineParts.{each_after}
use Rattle.si_tokens.proofs.SumPartLemmas as sums
use Rattle.si_netlist_reader.specs.GateParts.{in_order, next_literal, cube_part, sum_part}
use Rattle.si_netlist_reader.proofs.LawLineLemmas.{AreNames}

abbrev Rises : List Literal → Type 0
Rises = AllPairs (λ (k l : Literal). k.sig < l.sig)

comes_after : (before : List Literal) (l : Literal) (ls : List Literal) → Rises (before ++ l ∷ ls)
    → list_all (λ k. nat_lt k.sig l.sig) before ≡ true
comes_after before l ls rises = list_all-from_AllPass (λ (k : Literal). nat_lt k.sig l.sig) before (λ k d inside. (
    let all : List Literal = before ++ l ∷ ls in
    let within : length before < length all = omega (arith, length-append before (l ∷ ls)) in
    let less : (get_or all k d).sig < (get_or all (length before) d).sig = rises k (length before) d inside within in
    let first = ap (λ (m : Literal). m.sig) (get_or_append_left before (l ∷ ls) d k inside) in
    let last = ap (λ (m : Literal). m.sig) (get_or_at before l ls d (length before) refl) in
    lt-ltb _ _ (omega (arith, less, first, last))))

module _ (signals : List Signal) {limit : ℕ} (are : AreNames limit (names_in signals)) where
  abbrev names : List (List ℕ)
  names = names_in signals

  abbrev pub IsThere : Literal → Type 0
  IsThere l = l.sig < length names

  abbrev pub AreThere : List Literal → Type 0
  AreThere ls = AllByRecursion IsThere ls

  literals_forth : (before ls : List Literal) → AreThere ls → Rises (before ++ ls)
      → each_after (next_literal names) before (map (literal_word signals) ls) ≡ Some (Ok (before ++ ls))
  literals_forth before [] there rises = ap (λ (k : List Literal). Some (Ok k)) (sym (append-nil before))
  literals_forth before (l ∷ ls) there rises =
      let read : next_literal names before (literal_word signals l) ≡ Some (Ok l) =
      ap (in_order before) (sums.literal_forth signals are.good are.distinct l there.0)
      ∙ rw (comes_after before l ls rises) refl in
      let regrouped = append_assoc before (l ∷ []) ls in
      rw read (literals_forth (before ++ l ∷ []) ls there.1 (subst Rises (sym regrouped) rises))
      ∙ ap (λ (k : List Literal). Some (Ok k)) regrouped

  is_word : (ls : List Literal) → AreThere ls
      → AllByRecursion (λ (l : Literal). is_literal (literal_word signals l) ≡ true) ls
  is_word [] there = tt
  is_word (l ∷ ls) there = (sums.is_word signals are.good are.distinct l there.0, is_word ls there.1)

  pub all_there : (sum : Sum) → AllByRecursion (IsCube (length names)) sum → AllByRecursion AreThere sum
  all_there [] is = tt
  all_there (c ∷ cs) is = (recursion_from_All IsThere c is.0.there, all_there cs is.1)

  cubes_forth : (sum : Sum) → AllByRecursion (IsCube (length names)) sum
      → AllByRecursion (λ c. cube_part names (cube_words signals c) ≡ Some (Ok c)) sum
  cubes_forth [] is = tt
  cubes_forth (c ∷ cs) is =
      let there : AreThere c = recursion_from_All IsThere c is.0.there in (
        sums.cube_forth signals (next_literal names) c (is_word c there) (literals_forth [] c there is.0.rising),
        cubes_forth cs is.1,
      )

  pub sum_forth : (sum : Sum) → IsSum (length names) sum → sum_part names (sum_words signals sum) ≡ Some (Ok sum)
  sum_forth sum is =
      let cubes = recursion_from_All (IsCube (length names)) sum is in
      sums.sum_forth signals IsThere (sums.is_word signals are.good are.distinct) (cube_part names) sum
      (all_there sum cubes) (cubes_forth sum cubes)
