-- What the parts of a search for all that have a property add to a list.
use Rattle.std.specs.Prelude.{◌≡◌, ℕ, ◌<◌, List, ◌++◌, take, Contains}
use Rattle.si_told.specs.All.{AreAll}

-- all that have P are put last, in the order of their places
pub record Adds {A : Type 0} (place : A → List ℕ) (P : A → Type 0) (old new : List A) : Type 0 where
  pub more : List A
  pub new_is : new ≡ old ++ more
  pub are : AreAll place P more

-- of what has P, each with a number: what has one below k
abbrev pub IsBelow : {A : Type 0} → (A → Type 0) → (A → ℕ) → ℕ → A → Type 0
IsBelow P number k x = P x × (number x < k)

-- of what has P, each with items of a list: what has one of the first k
abbrev pub IsOfFirst : {A B : Type 0} → (A → Type 0) → (B → A → Type 0) → List B → ℕ → A → Type 0
IsOfFirst P IsItemOf items k x = P x × ((b : _) × Contains (take k items) b × IsItemOf b x)
