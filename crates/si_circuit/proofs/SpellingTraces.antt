-- The insertions of a trace, one step after another.
use Rattle.std.proofs.Common.{◌≡◌, ℕ, suc, ◌+◌, ◌<◌, List, [], ◌∷◌, ◌++◌, length, get_or, drop, drop-cons}
use Rattle.std.proofs.Common.{append_assoc, add-one, refl, sym, ap, subst, ◌∙◌}
use Rattle.si_base.specs.Netlist.{Insertion}
use Rattle.si_insert.specs.declared.lineage.TraceStep.{TraceStep}
use Rattle.si_insert.specs.declared.partition.Class.{Class}
use Rattle.si_insert.specs.Lineage.{History, IsLineage}
use Rattle.si_circuit.specs.declared.spelling.Descent.{Descent}
use Rattle.si_circuit.specs.Spelling.{insertion_of, insertions_from, insertions_of, descents_after, given_descents}
use Rattle.si_circuit.proofs.SpellingDescents.{At, at_start, at_next}

-- k insertions are spelled, and these are the descents after them
pub record IsSpelledTo (states : List (List ℕ)) (l : History) (k : ℕ) (ds : List Descent) (done : List Insertion)
    : Type 0 where
  pub at : At l.given (drop k l.trace) l.current k ds
  pub so_far : done ++ insertions_from states k ds (drop k l.trace) ≡ insertions_of states l

pub none_spelled : (states : List (List ℕ)) (l : History) → IsLineage l.given l.trace l.current
    → IsSpelledTo states l 0 (given_descents l.given.graph.states) []
unfolding insertions_of
none_spelled states l lineage = record { at = at_start l.given l.trace l.current lineage; so_far = refl }

rest_is : (trace : List TraceStep) (k : ℕ) (p : TraceStep) → k < length trace → p ≡ get_or trace k p
    → drop k trace ≡ p ∷ drop (k + 1) trace
rest_is trace k p within item =
    drop-cons trace k p within ∙ ap (λ (q : TraceStep). q ∷ drop (suc k) trace) (sym item)
    ∙ ap (λ (n : ℕ). p ∷ drop n trace) (sym (add-one k))

pub at_step : (states : List (List ℕ)) (l : History) (k : ℕ) (ds : List Descent) (done : List Insertion) (p : TraceStep)
    → k < length l.trace → p ≡ get_or l.trace k p → IsSpelledTo states l k ds done
    → At l.given (p ∷ drop (k + 1) l.trace) l.current k ds
at_step states l k ds done p within item is =
    subst (λ rest. At l.given rest l.current k ds) (rest_is l.trace k p within item) is.at

pub one_spelled : (states : List (List ℕ)) (l : History) (k : ℕ) (ds next : List Descent) (done more : List Insertion)
    (p : TraceStep) → k < length l.trace → p ≡ get_or l.trace k p → next ≡ descents_after k p.partition ds
    → more ≡ done ++ insertion_of states k ds p ∷ [] → IsSpelledTo states l k ds done
    → IsSpelledTo states l (k + 1) next more
one_spelled states l k ds next done more p within item next_is made is =
    let rest = drop (k + 1) l.trace in
    let after = descents_after k p.partition ds in
    let here = at_step states l k ds done p within item is in
    let joined : (done ++ insertion_of states k ds p ∷ []) ++ insertions_from states (k + 1) after rest
    ≡ insertions_of states l =
    append_assoc done (insertion_of states k ds p ∷ []) (insertions_from states (k + 1) after rest)
    ∙ ap (λ (steps : List TraceStep). done ++ insertions_from states k ds steps) (sym (rest_is l.trace k p within item))
    ∙ is.so_far in
    let P : List Descent → List Insertion → Type 0 = λ to xs. IsSpelledTo states l (k + 1) to xs in
    let step : P after (done ++ insertion_of states k ds p ∷ []) =
    record { at = at_next l.given p rest l.current k ds here; so_far = joined } in
    subst (P next) (sym made) (subst (λ to. P to (done ++ insertion_of states k ds p ∷ [])) (sym next_is) step)

-- over what the calls of the loop hand out
pub step_spelled : (states : List (List ℕ)) (l : History) (k : ℕ) (trace : List TraceStep)
    (ds read again next : List Descent) (classes : List Class) (done more : List Insertion) (p : TraceStep)
    (insert : Insertion) → trace ≡ l.trace → k < length trace → p ≡ get_or trace k p → read ≡ ds → again ≡ ds
    → classes ≡ p.partition → next ≡ descents_after k classes again → insert ≡ insertion_of states k read p
    → more ≡ done ++ insert ∷ [] → IsSpelledTo states l k ds done → IsSpelledTo states l (k + 1) next more
step_spelled states l k trace ds read again next classes done more p insert same within item read_is again_is
    classes_are
    next_is insert_is made is =
    let W : List TraceStep → Type 0 = λ xs. k < length xs in
    let I : List TraceStep → Type 0 = λ xs. p ≡ get_or xs k p in
    one_spelled states l k ds next done more p (subst W same within) (subst I same item)
    (next_is ∙ ap (λ (xs : List Class). descents_after k xs again) classes_are
    ∙ ap (descents_after k p.partition) again_is)
    (made ∙ ap (λ (i : Insertion). done ++ i ∷ [])
    (insert_is ∙ ap (λ (xs : List Descent). insertion_of states k xs p) read_is))
    is
