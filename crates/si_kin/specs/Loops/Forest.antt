-- Classes of states as trees, each told by the parents of its states.
use Rattle.std.specs.Prelude.{◌≡◌, ℕ, ◌<◌, ◌≤◌, List, length, slice_index}
use Rattle.si_base.specs.Codes.{CodedGraph}
use Rattle.si_kin.specs.Kin.{AreKin}

-- the state to which s leads
abbrev pub parent : List ℕ → ℕ → ℕ
parent parents s = slice_index parents s

-- no state leads to a greater one
abbrev pub AreOrdered : List ℕ → Type 0
AreOrdered parents = (s : ℕ) → s < length parents → parent parents s ≤ s

-- the first n states lead to states that lead to themselves
abbrev pub AreSettledTo : List ℕ → ℕ → Type 0
AreSettledTo parents n = (s : ℕ) → s < n → parent parents (parent parents s) ≡ parent parents s

-- the states of a tree have one label
abbrev pub IsLabelling : List ℕ → (ℕ → ℕ) → Type 0
IsLabelling parents label = (s : ℕ) → s < length parents → label (parent parents s) ≡ label s

-- each labelling of the new trees is one of the old, so that states of one tree stay of one
abbrev pub KeepsLabels : List ℕ → List ℕ → Type 0
KeepsLabels old new = (label : ℕ → ℕ) → IsLabelling new label → IsLabelling old label

-- s and t are of one tree, so each labelling gives them one label
abbrev pub AreJoined : List ℕ → ℕ → ℕ → Type 0
AreJoined parents s t = (label : ℕ → ℕ) → IsLabelling parents label → label s ≡ label t

-- each state leads to one of its kin
abbrev pub AreOfKin : CodedGraph → List ℕ → Type 0
AreOfKin c parents = (s : ℕ) → s < length parents → AreKin c s (parent parents s)

-- the way from s up its tree has come to `at`, and shortened the tree from `old` to `new`
pub record IsOnWay (old : List ℕ) (s : ℕ) (new : List ℕ) (at : ℕ) : Type 0 where
  pub within : at < length new
  pub size : length new ≡ length old
  pub order : AreOrdered new
  pub roots : (t : ℕ) → parent old t ≡ t → parent new t ≡ t
  pub labels : KeepsLabels old new
  pub joined : AreJoined new s at
  pub kin : (c : CodedGraph) → AreOfKin c old → AreOfKin c new × AreKin c s at

-- the trees of s and t have become one, and the others are as they were
pub record Joins (old : List ℕ) (s t : ℕ) (new : List ℕ) : Type 0 where
  pub size : length new ≡ length old
  pub order : AreOrdered new
  pub labels : KeepsLabels old new
  pub joined : AreJoined new s t
  pub kin : (c : CodedGraph) → AreKin c s t → AreOfKin c old → AreOfKin c new

-- the first n states lead to the roots of their trees
pub record IsSettledTo (old : List ℕ) (n : ℕ) (new : List ℕ) : Type 0 where
  pub size : length new ≡ length old
  pub order : AreOrdered new
  pub settled : AreSettledTo new n
  pub labels : KeepsLabels old new
  pub kin : (c : CodedGraph) → AreOfKin c old → AreOfKin c new
