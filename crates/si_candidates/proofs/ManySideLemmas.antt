-- The sides of many blocks, of 128 at once.
use Rattle.std.proofs.Common.{◌≡◌, ℕ, ◌+◌, ◌-◌, ◌<◌, ◌≤◌, ◌∙◌, Bool, List, [], ◌++◌, length}
use Rattle.std.proofs.Common.{All, refl, sym, subst, arith, inl, inr, length-append}
use Rattle.std.proofs.lemmas.Bool.{cases_lt}
use Rattle.std.proofs.lemmas.List.{get_or_append_left, get_or-append_right}
use Rattle.si_base.specs.Graph.{StateGraph}
use Rattle.si_closures.specs.Loops.WordSearch.{column}
use Rattle.si_candidates.specs.declared.tree.Link.{Link}
use Rattle.si_candidates.specs.Blocks.{block_at}
use Rattle.si_candidates.specs.Loops.ManySets.{ArePacked}
use Rattle.si_candidates.specs.Loops.Sides.{AreSides, AreSidesOf}
use Rattle.si_candidates.proofs.MaySwitchWords.{packed_column}

-- the sets of the words that stand behind the list are the sides of the next blocks
pub more_sides : (g : StateGraph) (tree : List Link) (blocks list sets : List (List Bool)) (words sides : List ℕ)
    (states first : ℕ) → states ≡ g.states → first ≡ length list → length sets ≤ 128
    → length list + length sets ≤ length blocks
    → All (λ b. length b ≡ g.states) blocks
    → ArePacked states blocks first 128 words
    → ((k : ℕ) → k < 128 → AreSides g tree (column k words) (column k sides))
    → ((k : ℕ) → k < length sets → block_at sets k ≡ column k sides)
    → AreSidesOf g tree blocks list → AreSidesOf g tree blocks (list ++ sets)
more_sides g tree blocks list sets words sides states first states_are first_is few within sizes packed are columns
    before k inside = elim (cases_lt k (length list)) [
      | inl early ↦ subst (λ x. AreSides g tree (block_at blocks k) x)
          (sym (get_or_append_left list sets [] k early)) (before k early)
      | inr late ↦ subst (λ x. AreSides g tree (block_at blocks k) x) (sym (behind late)) (here late)
    ]
  where
    size : (n : ℕ) → n < length blocks → length (block_at blocks n) ≡ states
    size n n_in = sizes n [] n_in ∙ sym states_are

    behind : length list ≤ k → block_at (list ++ sets) k ≡ block_at sets (k - length list)
    behind late = get_or-append_right list sets (length list) k [] refl late

    here : length list ≤ k → AreSides g tree (block_at blocks k) (block_at sets (k - length list))
    here late =
        let j = k - length list in
        let j_in : j < length sets = omega (arith, late, inside, length-append list sets) in
        let place : first + j ≡ k = omega (arith, late, first_is) in
        let k_in : first + j < length blocks = omega (arith, j_in, within, first_is) in
        let block = packed_column states blocks first words j (omega (arith, j_in, few)) k_in
        (size (first + j) k_in) packed in
        subst (λ x. AreSides g tree (block_at blocks x) (block_at sets j)) place
        (subst (λ x. AreSides g tree x (block_at sets j)) block
        (subst (λ x. AreSides g tree (column j words) x) (sym (columns j j_in)) (are j (omega (arith, j_in, few)))))
