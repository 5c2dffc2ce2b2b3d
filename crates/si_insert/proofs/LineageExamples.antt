-- Worked examples: traces of no insertion and of one, and a search for the least of three items.
use Rattle.std.proofs.Common.{◌≡◌, ℕ, ◌-◌, ◌<◌, [], ◌∷◌, Some, None, refl, ap, arith}
use Rattle.si_insert.specs.declared.lineage.TraceStep.{TraceStep}
use Rattle.si_insert.specs.Lineage.{Current, Inserts, IsTrace}
use Rattle.si_insert.specs.Loops.RowSearch.{IsLeastSeen, bar}
use Rattle.si_insert.proofs.RowSearchLemmas.{search_start, search_take}

-- no insertion leads to the graph itself, and one to what it makes
none : (v : Current) → IsTrace Inserts v [] v
none v = refl

one : (v : Current) (p : TraceStep) (u : Current) → Inserts v p u → IsTrace Inserts v (p ∷ []) u
one v p u inserts = (u, inserts, refl)

-- ---- the items 0, 1 and 2 in one row, of the weights 2, 1 and 0
abbrev few : ℕ → Type 0
few x = x < 3

abbrev weight : ℕ → ℕ
weight x = 2 - x

abbrev row : ℕ → ℕ
row x = 0

abbrev place : ℕ → ℕ
place x = x

lower : (x : ℕ) → few x → weight x < 3
lower x is = omega (arith, is)

even : (x y : ℕ) → few x → few y → row x ≡ row y → place x ≡ place y → weight x ≡ weight y
even x y is also rows places = ap weight places

-- the first is the least seen, then the second, and the next one has to weigh less than 1
first : IsLeastSeen few weight row place 0 1 (Some 0)
first = search_take few weight row place 3 lower even 0 0 None 0 (omega arith) refl refl (omega arith)
    (search_start few weight row place 3 lower)

second : IsLeastSeen few weight row place 0 2 (Some 1)
second = search_take few weight row place 3 lower even 0 1 (Some 0) 1 (omega arith) refl refl (omega arith) first

below_one : bar weight 3 (Some 1) ≡ 1
below_one = refl
