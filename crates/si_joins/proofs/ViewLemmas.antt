-- What a part calls a state.
use Rattle.std.proofs.Common.{◌≡◌, ℕ, zero, suc, ◌+◌, ◌-◌, ◌/◌, ◌^◌, ◌<◌, List, [], ◌∷◌, ◌++◌, get_or, length}
use Rattle.std.proofs.Common.{slice_index, sym, ap, subst, ◌∙◌, arith}
use Rattle.std.specs.List.{slice_index_or}
use Rattle.si_base.specs.Bits.{bit}
use Rattle.si_base.specs.Codes.{code}
use Rattle.si_base.proofs.BitFacts.{same_codes}
use Rattle.si_circuit.specs.Spelling.{mark}
use Rattle.si_insert.specs.Lineage.{History, origin}
use Rattle.si_insert.proofs.LineageGrowth.{later_bit}
use Rattle.si_joins.specs.Lifted.{PartView, own_word}
use Rattle.si_joins.specs.Loops.Parts.{AreShown}

-- ---- the part's states in tuples
pub shown_at : (states : List (List ℕ)) (i : ℕ) (tuples : List (List ℕ)) (k : ℕ) (xs : List ℕ) → AreShown states i tuples
    → k < length tuples → xs ≡ get_or tuples k xs → (i < length xs) × (slice_index xs i < length states)
shown_at states i [] k xs are below at = absurd (omega (arith, below))
shown_at states i (ys ∷ tuples) zero xs are below at =
    subst (λ (zs : List ℕ). (i < length zs) × (slice_index zs i < length states)) (sym at) (are.0, are.1)
shown_at states i (ys ∷ tuples) (suc k) xs are below at =
    shown_at states i tuples k xs are.2 (omega (arith, below)) at

-- ---- the word
-- the bits of the inserted signals are the code without the given ones
bits_are : (l : History) (s bits : ℕ)
    → ((k : ℕ) → bit bits k ≡ bit (code l.current.coded s) (length l.given.graph.signals + k))
    → bits ≡ code l.current.coded s / 2 ^ length l.given.graph.signals
bits_are l s bits same = same_codes bits (code l.current.coded s / 2 ^ length l.given.graph.signals)
    (λ k. same k ∙ sym (later_bit (code l.current.coded s) (length l.given.graph.signals) k))

pub word_is : (view : PartView) (l : History) (s bits own : ℕ) (name word : List ℕ)
    → name ≡ slice_index_or view.names (origin l.current s) [] → own ≡ length l.trace - view.before
    → ((k : ℕ) → bit bits k ≡ bit (code l.current.coded s) (length l.given.graph.signals + k))
    → word ≡ name ++ mark own (bits / 2 ^ view.before) → word ≡ own_word view l s
word_is view l s bits own name word name_is own_is same is =
    is ∙ ap (λ (n : List ℕ). n ++ mark own (bits / 2 ^ view.before)) name_is
    ∙ ap (λ (j : ℕ). slice_index_or view.names (origin l.current s) [] ++ mark j (bits / 2 ^ view.before)) own_is
    ∙ ap (λ (b : ℕ). slice_index_or view.names (origin l.current s) []
    ++ mark (length l.trace - view.before) (b / 2 ^ view.before)) (bits_are l s bits same)
