-- Steps of the search for the best divisor.
use Rattle.std.proofs.Common.{◌≡◌, ℕ, ◌+◌, ◌<◌, ◌≤◌, length, Option, Some, inl, inr, arith}
use Rattle.std.proofs.lemmas.Option.{slice_get_within}
use Rattle.si_base.specs.Codes.{CodedGraph}
use Rattle.si_cell.specs.Library.{Library}
use Rattle.si_checks.specs.Loops.Searches.{IsFirstOrNone}
use Rattle.si_insert.proofs.RowSearchLemmas as rows
use Rattle.si_match.specs.Weight.{weight_of}
use Rattle.si_map.specs.Best.{Choice, Serves, choice_place}
use Rattle.si_map.specs.Loops.Search.{IsEarlier, IsBestSoFar, bar}
use Rattle.si_map.proofs.OneBest.{one_weight}

-- a row has the divisors of one signal, in the order of its list
abbrev pub weight : Choice → ℕ
weight x = x.weight

abbrev pub row : Choice → ℕ
row x = x.signal

abbrev pub place : Choice → ℕ
place x = x.place

module _ (c : CodedGraph) (library : Library) where
  pub lower : (x : Choice) → Serves c library x → x.weight < weight_of c library
  lower x serves = serves.lower

  -- ---- steps
  pub bar_low : (z k : ℕ) (o : Option Choice) → IsBestSoFar c library z k o
      → bar (weight_of c library) o ≤ weight_of c library
  bar_low = rows.bar_low (Serves c library) weight row place (weight_of c library) lower

  -- a divisor that doesn't get below the bar changes nothing
  pub search_skip : (z k : ℕ) (o : Option Choice)
      → ((y : Choice) → Serves c library y → y.signal ≡ z → y.place ≡ k → bar (weight_of c library) o ≤ y.weight)
      → IsBestSoFar c library z k o → IsBestSoFar c library z (k + 1) o
  search_skip = rows.search_skip (Serves c library) weight row place (weight_of c library) lower

  -- one that does is the best so far
  pub search_take : (z k : ℕ) (o : Option Choice) (x : Choice) → Serves c library x → x.signal ≡ z → x.place ≡ k
      → x.weight < bar (weight_of c library) o → IsBestSoFar c library z k o
      → IsBestSoFar c library z (k + 1) (Some x)
  search_take =
      rows.search_take (Serves c library) weight row place (weight_of c library) lower (one_weight c library)

  -- the end of a signal: of its divisors that serve each stands before the place
  pub search_signal : (z k : ℕ) (o : Option Choice)
      → ((y : Choice) → Serves c library y → y.signal ≡ z → IsEarlier y z k)
      → IsBestSoFar c library z k o → IsBestSoFar c library (z + 1) 0 o
  search_signal z k o all so = rows.search_row (Serves c library) weight row place (weight_of c library) lower z k o
      (λ y serves at. inl (all y serves at)) so

  -- none of its divisors gets below the weight 0
  pub search_none_below : (z : ℕ) (o : Option Choice) → bar (weight_of c library) o ≡ 0 → IsBestSoFar c library z 0 o
      → IsBestSoFar c library (z + 1) 0 o
  search_none_below z o zero so = rows.search_row (Serves c library) weight row place (weight_of c library) lower z 0 o
      (λ y serves at. inr (not_earlier y at, omega (arith, zero))) so
    where
      not_earlier : (y : Choice) → y.signal ≡ z → IsEarlier y z 0 → ⊥
      not_earlier y at (inl less) = omega (arith, at, less)
      not_earlier y at (inr (tied, inl less)) = omega (arith, less)
      not_earlier y at (inr (tied, inr (level, nothing))) = nothing

  -- ---- the end
  pub within : (y : Choice) → Serves c library y → y.signal < length c.graph.signals
  within y serves =
      let driven = serves.unfit.driven in
      slice_get_within c.graph.signals y.signal driven.0 driven.1

  pub search_ends : (o : Option Choice) → IsBestSoFar c library (length c.graph.signals) 0 o
      → IsFirstOrNone choice_place (Serves c library) o
  search_ends o so = rows.search_ends (Serves c library) weight row place (weight_of c library) lower
      (length c.graph.signals) o within so
