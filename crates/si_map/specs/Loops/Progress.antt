-- What a search for the best divisor keeps.
use Rattle.std.specs.Prelude.{◌≡◌, ℕ, ◌+◌, ◌<◌, ◌≤◌, ◌⊎◌, List, Vec, true}
use Rattle.std.specs.Prelude.{IsTrue, Option, Some, None, IfSome}
use Rattle.std.specs.Global.{Global}
use Rattle.std.specs.BTreeSet.{BTreeSet, Updates, contains}
use Rattle.si_base.specs.Codes.{CodedGraph, IsCoded}
use Rattle.si_base.specs.Proper.{IsProper}
use Rattle.si_cell.specs.Library.{Library, Instance, instance_value}
use Rattle.si_conflicts.specs.Loops.Chains.{AreChains}
use Rattle.si_conflicts.specs.Left.{LeavesConflicts}
use Rattle.si_divisor.specs.declared.function.Function.{Function}
use Rattle.si_divisor.specs.Functions.{IsFunction, function_cmp}
use Rattle.si_divisor.specs.Loops.ManyFunctions.{AreFunctionSets}
use Rattle.si_divisor.specs.PartitionFor.{IsPartitionFor}
use Rattle.si_divisor.specs.Targets.{forced_by}
use Rattle.si_insert.specs.declared.partition.Class.{Class}
use Rattle.si_insert.specs.Accepted.{IsAccepted}
use Rattle.si_insert.specs.Fresh.{IsTaken}
use Rattle.si_match.specs.Weight.{weight_of}
use Rattle.si_map.specs.Best.{Choice, IsUnfit, IsDivisorAt, LeavesWeight}
use Rattle.si_bounds.specs.Loops.Bounds.{AreBounds}
use Rattle.si_bounds.specs.Loops.Fitted.{AreFitted}
use Rattle.si_map.specs.Loops.Packed.{ArePacked, words_cmp}
use Rattle.si_map.specs.Loops.Search.{IsBestSoFar, bar}
use Rattle.si_map.specs.declared.functions.Functions.{Functions}
use Rattle.si_map.specs.declared.search.Search.{Search}

-- ---- one partition

-- it leaves no conflict and the weight n, which is below the bar
pub record LeavesBelow (c : CodedGraph) (library : Library) (classes : List Class) (bar n : ℕ)
    : Type 0 where
  pub free : LeavesConflicts c classes 0
  pub leaves : LeavesWeight c library classes n
  pub below : n < bar

-- it leaves a conflict, or no weight below the bar
abbrev pub LeavesNoneBelow : CodedGraph → Library → List Class → ℕ → Type 0
LeavesNoneBelow c library classes bar =
    (n : ℕ) → LeavesConflicts c classes 0 → LeavesWeight c library classes n → bar ≤ n

-- ---- one function

-- no partition for the instance that is accepted leaves a weight below the bar
abbrev pub IsSpent : CodedGraph → Library → ℕ → Instance → Type 0
IsSpent c library bar i = (classes : List Class)
    → IsPartitionFor c.graph (forced_by (instance_value library i) c) classes
    → IsAccepted c.graph classes → LeavesNoneBelow c library classes bar

-- nor does one for an instance that computes one of the functions
abbrev pub AreSpent : CodedGraph → Library → ℕ → BTreeSet Function → Type 0
AreSpent c library bar functions = (f : Function) (i : Instance)
    → IsTrue (contains function_cmp functions f) → IsFunction library i f → IsSpent c library bar i

-- those of the divisors that were looked at leave none below the bar, and the sets are those of
-- functions
pub record AreUpToDate (c : CodedGraph) (library : Library) (bar : ℕ) (functions : Functions)
    : Type 0 where
  pub spent : AreSpent c library bar functions.tried
  pub sets : AreFunctionSets c functions.next

-- ---- the search

-- no accepted partition whose words are among these leaves a weight below the bar
abbrev pub ArePassed : CodedGraph → Library → ℕ → BTreeSet (Vec ℕ Global) → Type 0
ArePassed c library bar tried = (classes : List Class) (words : Vec ℕ Global)
    → ArePacked classes words.items → IsTrue (contains words_cmp tried words)
    → IsAccepted c.graph classes → LeavesNoneBelow c library classes bar

-- what a search has for all divisors: c is a proper graph, the chains are those of its codes, no
-- signal has the name, the signals that fit are known, and what signals add at least, and what was
-- tried leaves none below the bar
pub record IsReady (c : CodedGraph) (library : Library) (search : Search) : Type 0 where
  pub coded : IsCoded c
  pub proper : IsProper c.graph
  pub chains : AreChains c search.chains
  pub new : IsTaken c.graph.signals search.name → ⊥
  pub fitted : AreFitted c library search.fitted
  pub bounds : AreBounds c library search.bounds
  pub best_known : IfSome search.best (λ p. LeavesNoneBelow c library p search.bar)
  pub tried_known : ArePassed c library search.bar search.tried

-- the partition of the best so far
abbrev pub classes_of : Option Choice → Option (List Class)
classes_of None = None
classes_of (Some x) = Some x.classes

-- the search has looked at the divisors before the place k of the list of signal z
pub record IsSearching (c : CodedGraph) (library : Library) (z k : ℕ) (search : Search)
    : Type 0 where
  pub ready : IsReady c library search
  pub best : Option Choice
  pub is_best : IsBestSoFar c library z k best
  pub bar_is : search.bar ≡ bar (weight_of c library) best
  pub kept : search.best ≡ classes_of best

-- wherever the divisor stands, a search that has come to it has then looked at it
abbrev pub HasTried : CodedGraph → Library → Instance → Search → Search → Type 0
HasTried c library divisor s t =
    (z k : ℕ) → IsUnfit c library z → IsDivisorAt c library z k divisor
    → IsSearching c library z k s → IsSearching c library z (k + 1) t

-- the partition is the best so far, or its words are among those that were tried
abbrev pub IsKnown : Search → List Class → Vec ℕ Global → Type 0
IsKnown search classes words =
    (search.best ≡ Some classes) ⊎ IsTrue (contains words_cmp search.tried words)

-- the search differs in nothing but that the words may be among those that were tried
pub record MayHaveRecorded (s : Search) (words : Vec ℕ Global) (t : Search) : Type 0 where
  pub bar : t.bar ≡ s.bar
  pub best : t.best ≡ s.best
  pub chains : t.chains ≡ s.chains
  pub name : t.name ≡ s.name
  pub fitted : t.fitted ≡ s.fitted
  pub bounds : t.bounds ≡ s.bounds
  pub tried : (t.tried ≡ s.tried) ⊎ Updates words_cmp s.tried t.tried words true

-- ---- what becomes of a search with a partition

-- nothing but what is kept as tried: it isn't accepted, or leaves none below the bar
pub record IsPassed (c : CodedGraph) (library : Library) (classes : List Class) (s t : Search)
    : Type 0 where
  pub ready : IsReady c library t
  pub bar : t.bar ≡ s.bar
  pub best : t.best ≡ s.best
  pub none : IsAccepted c.graph classes → LeavesNoneBelow c library classes s.bar

-- the partition is the best so far, and its weight the bar
pub record IsNewBest (c : CodedGraph) (library : Library) (classes : List Class) (s t : Search)
    : Type 0 where
  pub ready : IsReady c library t
  pub accepted : IsAccepted c.graph classes
  pub left : LeavesBelow c library classes s.bar t.bar
  pub best : t.best ≡ Some classes

-- one of the two, whichever applies
abbrev pub IsTried : CodedGraph → Library → List Class → Search → Search → Type 0
IsTried c library classes s t = IsPassed c library classes s t ⊎ IsNewBest c library classes s t
