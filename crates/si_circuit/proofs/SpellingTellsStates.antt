-- No two states of a lineage's current graph have the same word.
use Rattle.std.proofs.Common.{◌≡◌, ◌≢◌, ℕ, ◌+◌, ◌-◌, ◌/◌, ◌^◌, ◌<◌, ◌≤◌, List, [], length, AllPairs, sym, ap}
use Rattle.std.proofs.Common.{◌∙◌, arith, inl, inr}
use Rattle.std.proofs.lemmas.Bool.{cases_lt}
use Rattle.std.proofs.lemmas.List.{length-append, length-map}
use Rattle.std.specs.List.{slice_index_or}
use Rattle.si_base.specs.declared.graph.Signal.{Signal}
use Rattle.si_base.specs.Bits.{bit}
use Rattle.si_base.specs.Codes.{code}
use Rattle.si_base.proofs.StepCodes.{code_fits, no_bit}
use Rattle.si_insert.specs.declared.lineage.TraceStep.{TraceStep}
use Rattle.si_insert.specs.Insertion.{new_signal}
use Rattle.si_insert.specs.Lineage.{History, IsLineage, given_current, origin}
use Rattle.si_insert.proofs.LineageGrowth.{later_bit}
use Rattle.si_insert.proofs.InsertionKeeps.{keeps}
use Rattle.si_circuit.specs.Spelling.{current_word, mark, WordsTellStates}
use Rattle.si_circuit.proofs.SpelledInsertions.{new_signals, signals_grow}
use Rattle.si_circuit.proofs.SpellingMarks.{mark_length, mark_one_way, same_split, one_place}

signal_count : (l : History) → IsLineage l.given l.trace l.current
    → length l.current.coded.graph.signals ≡ length l.given.graph.signals + length l.trace
signal_count l lineage =
    let grown = signals_grow (given_current l.given) l.trace l.current lineage.grown in
    ap (length {A = Signal}) grown ∙ length-append l.given.graph.signals (new_signals l.trace)
    ∙ ap (λ (n : ℕ). length l.given.graph.signals + n)
    (length-map l.trace (λ (p : TraceStep). new_signal p.name))

module _ (states : List (List ℕ)) (l : History) (lineage : IsLineage l.given l.trace l.current) where
  -- states whose words have the same mark have the same values of inserted signals
  same_values : (s t : ℕ) → s < l.current.coded.graph.states → t < l.current.coded.graph.states
      → mark (length l.trace) (code l.current.coded s / 2 ^ length l.given.graph.signals)
      ≡ mark (length l.trace) (code l.current.coded t / 2 ^ length l.given.graph.signals)
      → (a : ℕ) → length l.given.graph.signals ≤ a
      → bit (code l.current.coded s) a ≡ bit (code l.current.coded t) a
  same_values s t s_in t_in same a above =
      let n = length l.given.graph.signals in
      let k = length l.trace in
      let x = code l.current.coded s in
      let y = code l.current.coded t in
      let coded = (keeps l.given l.trace l.current lineage).coded in
      let size = signal_count l lineage in
      elim (cases_lt (a - n) k) [
        | inl low ↦ (
            let at : n + (a - n) ≡ a = omega arith in
            ap (λ (i : ℕ). bit x i) (sym at) ∙ sym (later_bit x n (a - n))
            ∙ mark_one_way k (x / 2 ^ n) (y / 2 ^ n) (a - n) same low
            ∙ later_bit y n (a - n) ∙ ap (λ (i : ℕ). bit y i) at)
        | inr high ↦ (
            let past : length l.current.coded.graph.signals ≤ a = omega (arith, size, above, high) in
            no_bit x (length l.current.coded.graph.signals) a (code_fits l.current.coded s coded s_in) past
            ∙ sym (no_bit y (length l.current.coded.graph.signals) a (code_fits l.current.coded t coded t_in) past))
      ]

  pub one_word : length states ≡ l.given.graph.states → AllPairs (λ x y. x ≢ y) states → WordsTellStates states l
  unfolding current_word
  one_word count apart s t s_in t_in same =
      let kept = keeps l.given l.trace l.current lineage in
      let n = length l.given.graph.signals in
      let k = length l.trace in
      let o = origin l.current s in
      let u = origin l.current t in
      let x : ℕ = code l.current.coded s / 2 ^ n in
      let y : ℕ = code l.current.coded t / 2 ^ n in
      let split = same_split (slice_index_or states o []) (mark k x) (slice_index_or states u []) (mark k y) same
      (mark_length k x y) in
      let from : o ≡ u = one_place states apart o u (omega (arith, kept.within s s_in, count))
      (omega (arith, kept.within t t_in, count)) split.0 in
      kept.determined s t s_in t_in from (same_values s t s_in t_in split.1)
