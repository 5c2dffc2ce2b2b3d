-- Steps of the search for the best candidate.
use Rattle.std.proofs.Common.{◌≡◌, ℕ, ◌+◌, ◌<◌, ◌≤◌, ◌⊎◌, Bool, List, [], ◌∷◌, length, Option, Some, None, subst, arith}
use Rattle.std.proofs.Common.{inl, inr}
use Rattle.std.proofs.lemmas.Bool.{cases_lt}
use Rattle.si_base.specs.Order.{Before, IsFirst}
use Rattle.si_base.specs.Codes.{CodedGraph, IsCoded}
use Rattle.si_base.specs.Proper.{IsProper}
use Rattle.si_base.specs.Sets.{IsIn}
use Rattle.si_conflicts.specs.Conflicts.{HasConflicts}
use Rattle.si_conflicts.proofs.OneConflictList.{one_count}
use Rattle.si_candidates.specs.Blocks.{AreBlocks, block_at}
use Rattle.si_candidates.specs.Blocking.{MaySwitch}
use Rattle.si_candidates.proofs.BlocksExist.{one_blocks}
use Rattle.si_candidates.proofs.BlockingLemmas.{accepted_by_blocks}
use Rattle.si_insert.proofs.RowSearchLemmas as rows
use Rattle.si_resolve.specs.Best.{Choice, IsChoice, choice_place, Improves, NoneImproves}
use Rattle.si_resolve.specs.Loops.Search.{IsEarlier, IsFewer, IsBestSoFar, bar}
use Rattle.si_resolve.proofs.OneBest.{one_number}

-- a row has the candidates of one later block, in the order of the earlier ones
abbrev pub weight : Choice → ℕ
weight x = x.conflicts

abbrev pub row : Choice → ℕ
row x = x.j

abbrev pub place : Choice → ℕ
place x = x.i

module _ (c : CodedGraph) (blocks : List (List Bool)) (n : ℕ) where
  pub lower : (x : Choice) → IsFewer c blocks n x → x.conflicts < n
  lower x is = is.fewer

  pub one_weight : IsCoded c → (x y : Choice) → IsFewer c blocks n x → IsFewer c blocks n y → x.j ≡ y.j → x.i ≡ y.i
      → x.conflicts ≡ y.conflicts
  one_weight is x y one other same_j same_i = one_number c blocks x y is one.choice other.choice same_j same_i

  -- ---- steps
  pub search_start : IsBestSoFar c blocks n 0 0 None
  search_start = rows.search_start (IsFewer c blocks n) weight row place n lower

  -- a candidate that doesn't get below the bar changes nothing
  pub search_skip : (j i : ℕ) (o : Option Choice)
      → ((y : Choice) → IsChoice c blocks y → y.j ≡ j → y.i ≡ i → bar n o ≤ y.conflicts) → IsBestSoFar c blocks n j i o
      → IsBestSoFar c blocks n j (i + 1) o
  search_skip j i o high so = rows.search_skip (IsFewer c blocks n) weight row place n lower j i o
      (λ y is at_j at_i. high y is.choice at_j at_i) so

  -- one that does is the best so far
  pub search_take : (j i : ℕ) (o : Option Choice) (x : Choice) → IsCoded c → IsChoice c blocks x → x.j ≡ j → x.i ≡ i
      → x.conflicts < bar n o → IsBestSoFar c blocks n j i o → IsBestSoFar c blocks n j (i + 1) (Some x)
  search_take j i o x is choice at_j at_i below so =
      let low : bar n o ≤ n = rows.bar_low (IsFewer c blocks n) weight row place n lower j i o so in
      let fewer : IsFewer c blocks n x = record { choice = choice; fewer = omega (arith, below, low) } in
      rows.search_take (IsFewer c blocks n) weight row place n lower (one_weight is) j i o x fewer at_j at_i below so

  -- the rest of a row is passed over where none of it gets below the bar, as at its end
  pub search_row : (j i : ℕ) (o : Option Choice)
      → ((y : Choice) → IsChoice c blocks y → y.j ≡ j
      → IsEarlier y j i ⊎ ((IsEarlier y j i → ⊥) × (bar n o ≤ y.conflicts)))
      → IsBestSoFar c blocks n j i o → IsBestSoFar c blocks n (j + 1) 0 o
  search_row j i o high so = rows.search_row (IsFewer c blocks n) weight row place n lower j i o
      (λ y is at_j. high y is.choice at_j) so

  -- ---- the end
  pub within : (y : Choice) → IsFewer c blocks n y → y.j < length blocks
  within y is = is.choice.candidate.within

  pub improves : (x : Choice) → AreBlocks c blocks → HasConflicts c n → IsFirst choice_place (IsFewer c blocks n) x
      → Improves c x
  improves x are counted first = record {
    best = record {
      blocks = blocks;
      are = are;
      first = record {
        holds = first.holds.choice;
        none_before = λ y is before. first.none_before y (record { choice = is; fewer = below y before }) before;
      };
    };
    before = n;
    counted = counted;
    fewer = first.holds.fewer;
  }
    where
      below : (y : Choice) → Before (choice_place y) (choice_place x) → y.conflicts < n
      below y before =
          let low : y.conflicts ≤ x.conflicts =
          rows.lighter_or_even y.conflicts x.conflicts (y.j ∷ y.i ∷ []) (x.j ∷ x.i ∷ []) before in
          omega (arith, low, first.holds.fewer)

  pub none_improves : AreBlocks c blocks → HasConflicts c n → ((x : Choice) → IsFewer c blocks n x → ⊥)
      → NoneImproves c
  none_improves are counted none x others m also is count =
      let P : List (List Bool) → Type 0 = λ b. IsChoice c b x in
      let is_x = subst P (one_blocks c others blocks also are) is in
      let same = one_count c m n count counted in
      elim (cases_lt x.conflicts n) [
        | inl less ↦ absurd (none x (record { choice = is_x; fewer = less }))
        | inr more ↦ omega (arith, same, more)
      ]

  pub search_finds : (x : Choice) → AreBlocks c blocks → HasConflicts c n
      → IsBestSoFar c blocks n (length blocks) 0 (Some x) → Improves c x
  search_finds x are counted so = improves x are counted
      (rows.search_ends (IsFewer c blocks n) weight row place n lower (length blocks) (Some x) within so)

  pub search_finds_none : AreBlocks c blocks → HasConflicts c n → IsBestSoFar c blocks n (length blocks) 0 None
      → NoneImproves c
  search_finds_none are counted so = none_improves are counted
      (rows.search_ends (IsFewer c blocks n) weight row place n lower (length blocks) None within so)

pub block_refuses : (c : CodedGraph) (blocks : List (List Bool)) (x : Choice) → IsCoded c → IsProper c.graph
    → IsChoice c blocks x
    → MaySwitch c.graph (IsIn (block_at blocks x.i)) × MaySwitch c.graph (IsIn (block_at blocks x.j))
block_refuses c blocks x is proper choice =
    let m = (accepted_by_blocks c (block_at blocks x.i) (block_at blocks x.j) x.classes is proper
    choice.accepted.lawful choice.are).0 choice.accepted in
    (m.0, m.1)
