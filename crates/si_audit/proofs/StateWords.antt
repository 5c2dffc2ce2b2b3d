-- The words of a lineage's current states.
use Rattle.std.proofs.Common.{◌≡◌, ◌≢◌, ℕ, ◌+◌, List, [], ◌++◌, length, AllPairs, refl, ap, ◌∙◌}
use Rattle.std.specs.List.{slice_index_or}
use Rattle.si_base.specs.Bits.{bit}
use Rattle.si_base.specs.Codes.{code}
use Rattle.si_insert.specs.Lineage.{History, IsLineage, origin}
use Rattle.si_circuit.specs.Spelling.{current_word, mark, state_word, WordsTellStates}
use Rattle.si_circuit.proofs.SpellingWord.{current_word_made}
use Rattle.si_circuit.proofs.SpellingTellsStates as words

-- what makes the words of a lineage's states tell the states
pub record HasStateNames (states : List (List ℕ)) (l : History) : Type 0 where
  pub lineage : IsLineage l.given l.trace l.current
  pub count : length states ≡ l.given.graph.states
  pub apart : AllPairs (λ x y. x ≢ y) states

pub one_word : (states : List (List ℕ)) (l : History) → HasStateNames states l → WordsTellStates states l
one_word states l named = words.one_word states l named.lineage named.count named.apart

-- over what the calls hand out: a word is that of the state exactly where it is the name and the mark
pub made_of : (states : List (List ℕ)) (l : History) (s k bits : ℕ) (name : List ℕ) → k ≡ length l.trace
    → name ≡ slice_index_or states (origin l.current s) []
    → ((i : ℕ) → bit bits i ≡ bit (code l.current.coded s) (length l.given.graph.signals + i))
    → name ++ mark k bits ≡ current_word states l s
made_of states l s k bits name count named same =
    ap (λ (xs : List ℕ). xs ++ mark k bits) named
    ∙ current_word_made states l s k (record { origin = origin l.current s; bits = bits })
    (state_word states k (record { origin = origin l.current s; bits = bits })) count refl same refl
