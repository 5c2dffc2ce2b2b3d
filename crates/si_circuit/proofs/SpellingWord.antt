-- The word of a current state.
use Rattle.std.proofs.Common.{◌≡◌, ℕ, zero, suc, ◌+◌, ◌/◌, ◌^◌, ◌≤◌, List, [], ◌∷◌, ◌++◌, length, map, refl, sym, ap}
use Rattle.std.proofs.Common.{◌∙◌, arith}
use Rattle.std.specs.List.{range_with_len, slice_index_or}
use Rattle.si_base.specs.Bits.{bit}
use Rattle.si_base.specs.Bytes.{at_sign}
use Rattle.si_base.specs.Codes.{CodedGraph, code}
use Rattle.si_base.specs.Limits.{code_width}
use Rattle.si_insert.specs.declared.lineage.TraceStep.{TraceStep}
use Rattle.si_insert.specs.Lineage.{Current, History, IsLineage, origin}
use Rattle.si_insert.proofs.LineageGrowth.{later_bit}
use Rattle.si_circuit.specs.declared.spelling.Descent.{Descent}
use Rattle.si_circuit.specs.Spelling.{digit, mark, state_word, current_word, given_descents}
use Rattle.si_circuit.proofs.SpellingDescents.{At, at_start, at_next}

-- ---- numbers of the same bits have the same digits
same_digits : (a b : ℕ) → ((i : ℕ) → bit a i ≡ bit b i) → (is : List ℕ)
    → map (λ i. digit (bit a i)) is ≡ map (λ i. digit (bit b i)) is
same_digits a b same [] = refl
same_digits a b same (i ∷ is) =
    ap (λ (d : ℕ). d ∷ map (λ j. digit (bit a j)) is) (ap digit (same i))
    ∙ ap (λ (ds : List ℕ). digit (bit b i) ∷ ds) (same_digits a b same is)

same_marks : (k a b : ℕ) → ((i : ℕ) → bit a i ≡ bit b i) → mark k a ≡ mark k b
same_marks zero a b same = refl
same_marks (suc k) a b same = ap (λ (ds : List ℕ). at_sign ∷ ds) (same_digits a b same (range_with_len 0 (suc k)))

-- over what the calls hand out
pub current_word_made : (states : List (List ℕ)) (l : History) (s k : ℕ) (d : Descent) (word : List ℕ)
    → k ≡ length l.trace → d.origin ≡ origin l.current s
    → ((i : ℕ) → bit d.bits i ≡ bit (code l.current.coded s) (length l.given.graph.signals + i))
    → word ≡ state_word states k d → word ≡ current_word states l s
unfolding current_word
current_word_made states l s k d word count origin_is same is =
    let n = length l.given.graph.signals in
    let bits : ℕ = code l.current.coded s / 2 ^ n in
    let alike : (i : ℕ) → bit d.bits i ≡ bit bits i = λ i. same i ∙ sym (later_bit (code l.current.coded s) n i) in
    is ∙ ap (λ (o : ℕ). slice_index_or states o [] ++ mark k d.bits) origin_is
    ∙ ap (λ (m : List ℕ). slice_index_or states (origin l.current s) [] ++ m)
    (ap (λ (j : ℕ). mark j d.bits) count ∙ same_marks (length l.trace) d.bits bits alike)

-- ---- there are as many bits as insertions
few_left : (given : CodedGraph) (rest : List TraceStep) (v : Current) (k : ℕ) (ds : List Descent)
    → At given rest v k ds → k + length rest ≤ code_width
few_left given [] v k ds at = omega (arith, at.size, at.keeps.coded.graph_is.few_signals)
few_left given (p ∷ rest) v k ds at =
    let later = few_left given rest v (k + 1) _ (at_next given p rest v k ds at) in omega (arith, later)

pub few_insertions : (l : History) → IsLineage l.given l.trace l.current → length l.trace ≤ code_width
few_insertions l lineage =
    let all = few_left l.given l.trace l.current 0 (given_descents l.given.graph.states)
    (at_start l.given l.trace l.current lineage) in
    omega (arith, all)
