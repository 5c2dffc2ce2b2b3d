-- What the whole has been told of its parts: the signals that they have there, and the insertions so far.
use Rattle.std.proofs.Common.{◌≡◌, ℕ, suc, ◌<◌, ◌≤◌, ◌+◌, List, [], ◌∷◌, ◌++◌}
use Rattle.std.proofs.Common.{length}
use Rattle.std.proofs.Common.{slice_get, Some, Ok, Err, refl, sym, subst, arith, inl, inr}
use Rattle.std.proofs.lemmas.Bool.{cases_lt}
use Rattle.std.proofs.Common.{IsTrue, decimal}
use Rattle.si_base.specs.declared.graph.Signal.{Signal}
use Rattle.si_base.specs.Limits.{max_signals}
use Rattle.si_base.specs.Words.{is_signal_name}
use Rattle.si_insert.specs.Fresh.{IsFresh}
use Rattle.si_insert.specs.Lineage.{Current, History, IsLineage, origin}
use Rattle.si_insert.proofs.FreshNameExists.{last_fresh}
use Rattle.si_insert.proofs.FreshNames.{stays_signal_name}
use Rattle.si_insert.proofs.LineageTraceLength.{AreNamed}
use Rattle.si_joins.specs.Lifted.{IsNamedAmong, letters}
use Rattle.si_joins.proofs.NameLemmas.{letters_named}
use Rattle.si_refusals.specs.Stages.{Passes, Refuses, Stage, Then}
use Rattle.si_lifts.proofs.Standing.{Stands}

-- where a row of stages refuses, one of them does
pub refused_then : {R A B : Type 0} (P : R → Type 0) (first : Stage R A) (next : A → Stage R B)
    → ((r : R) → first (Err r) → P r) → ((a : A) → first (Ok a) → (r : R) → next a (Err r) → P r)
    → (r : R) → Then R A B first next (Err r) → P r
refused_then {R} {A} {B} P first next one more r (Refuses q is same) =
    let refusals : r ≡ q = cc in subst P (sym refusals) (one q is)
refused_then {R} {A} {B} P first next one more r (Passes a is then) = more a is r then

-- a part has these signals in the whole: its given ones, and behind them those that it has inserted,
-- which stand in the whole one after another, behind so many inserted ones of other parts
pub record IsTold (l : History) (signals : List Signal) (before : ℕ) (own : History) : Type 0 where
  pub mine : List Signal
  pub signals_are : signals ≡ own.given.graph.signals ++ mine
  pub many : length mine ≡ length own.trace
  pub inserted : (z : ℕ) (x : Signal) → slice_get mine z ≡ Some x
      → slice_get l.current.coded.graph.signals (length l.given.graph.signals + (before + z)) ≡ Some x

pub behind : (xs ys : List Signal) (k : ℕ) (y : Signal) → slice_get ys k ≡ Some y
    → slice_get (xs ++ ys) (length xs + k) ≡ Some y
behind [] ys k y is = subst (λ (n : ℕ). slice_get ys n ≡ Some y) (omega arith) is
behind (x ∷ xs) ys k y is =
    let more : suc (length xs + k) ≡ suc (length xs) + k = omega arith in
    subst (λ (n : ℕ). slice_get (x ∷ (xs ++ ys)) n ≡ Some y) more (behind xs ys k y is)

-- ---- the name among the whole's signals is one of a signal
fresh_is_name : (signals : List Signal) (stem name : List ℕ) → length signals ≤ max_signals → IsFresh signals stem name
    → IsTrue (is_signal_name stem) → IsTrue (is_signal_name name)
fresh_is_name signals stem name few fresh is =
    stays_signal_name signals signals stem name fresh.number refl few low fresh.is is
  where
    -- a number above that of the signals is not the least that is free
    low : fresh.number ≤ length signals
    low = elim (cases_lt (length signals) fresh.number) [
      | inl above ↦ absurd ((last_fresh signals signals stem (stem ++ decimal (length signals)) (length signals) few
          refl
          refl (λ j below. fresh.least j (omega (arith, below, above))) refl).free (fresh.least (length signals) above))
      | inr most ↦ most
    ]

pub named_among : (signals : List Signal) (own name : List ℕ) → length signals ≤ max_signals
    → IsNamedAmong signals own name → IsTrue (is_signal_name own) → IsTrue (is_signal_name name)
named_among signals own name few (inl free) is = subst (λ (w : List ℕ). IsTrue (is_signal_name w)) (sym free.1) is
named_among signals own name few (inr taken) is =
    fresh_is_name signals (letters own) name few taken.1 (letters_named own is)

-- the whole stands, and the insertions that have been told last are those of part i, whose lineage is
-- `own` so far
pub record IsAtPart (count : ℕ) (tuples : List (List ℕ)) (l : History) (signals : ℕ → List Signal) (parts : ℕ → Current)
    (at : ℕ → ℕ → ℕ) (i before : ℕ) (own : History) : Type 0 where
  pub stands : Stands count tuples l.current signals parts at
  pub size : length l.current.coded.graph.signals ≡ length l.given.graph.signals + length l.trace
  pub origins : (s : ℕ) → s < l.current.coded.graph.states → origin l.current s < length tuples
  pub part_is : parts i ≡ own.current
  pub told : IsTold l (signals i) before own
  pub so_many : before + length own.trace ≡ length l.trace

-- m has one insertion more than l, that of part i, whose lineage is `next` then; the other parts stay
pub record IsNextAt (count : ℕ) (tuples : List (List ℕ)) (l : History) (signals : ℕ → List Signal) (parts : ℕ → Current)
    (i before : ℕ) (next m : History) : Type 0 where
  pub given_stays : m.given ≡ l.given
  pub lineage_goes_on : IsLineage l.given l.trace l.current → IsLineage m.given m.trace m.current
  pub named_goes_on : AreNamed l.current → AreNamed m.current
  pub signals_stay : (k : ℕ) (x : Signal) → slice_get l.current.coded.graph.signals k ≡ Some x
      → slice_get m.current.coded.graph.signals k ≡ Some x
  pub signals_then : ℕ → List Signal
  pub parts_then : ℕ → Current
  pub at_then : ℕ → ℕ → ℕ
  pub now : IsAtPart count tuples m signals_then parts_then at_then i before next
  pub others_signals : (j : ℕ) → (j ≡ i → ⊥) → signals_then j ≡ signals j
  pub others_parts : (j : ℕ) → (j ≡ i → ⊥) → parts_then j ≡ parts j
