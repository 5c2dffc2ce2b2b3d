-- (field) Covers, prime and irredundant ones.
use Rattle.std.specs.Prelude.{◌≡◌, ◌≢◌, ℕ, ◌<◌, ◌==◌, not, false, List, [], length, Contains}
use Rattle.std.specs.Prelude.{filter, slice_index_or, IsTrue}
use Rattle.si_base.specs.declared.ids.Literal.{Literal}
use Rattle.si_base.specs.Netlist.{Sum, sum_value}
use Rattle.si_cube.specs.Cubes.{Covers}

-- required and forbidden codes
pub record Demand : Type 0 where
  pub required : List ℕ
  pub forbidden : List ℕ

-- no code is both required and forbidden
abbrev pub IsMeetable : Demand → Type 0
IsMeetable d = (k : ℕ) → Contains d.required k → Contains d.forbidden k → ⊥

-- the sum has the value 1 at each required code, and 0 at each forbidden one
pub record IsCover (d : Demand) (sum : Sum) : Type 0 where
  pub covers : (k : ℕ) → Contains d.required k → IsTrue (sum_value k sum)
  pub avoids : (k : ℕ) → Contains d.forbidden k → sum_value k sum ≡ false

-- the cube without its literal of signal s
abbrev pub without : ℕ → List Literal → List Literal
without s cube = filter (λ l. not (l.sig == s)) cube

-- each cube without any one of its literals covers a forbidden code
abbrev pub IsPrime : Demand → Sum → Type 0
IsPrime d sum = (cube : List Literal) (l : Literal) → Contains sum cube → Contains cube l
    → (k : ℕ) × Contains d.forbidden k × Covers (without l.sig cube) k

-- the i-th cube covers a required code that no other covers
pub record IsOnlyCover (d : Demand) (sum : Sum) (i : ℕ) : Type 0 where
  pub code : ℕ
  pub required : Contains d.required code
  pub covers : Covers (slice_index_or sum i []) code
  pub alone : (j : ℕ) → j < length sum → j ≢ i → Covers (slice_index_or sum j []) code → ⊥

-- each cube covers a required code that no other cube covers
abbrev pub IsIrredundant : Demand → Sum → Type 0
IsIrredundant d sum = (i : ℕ) → i < length sum → IsOnlyCover d sum i

-- what holds of each sum that the rule chooses
pub record IsPrimeCover (d : Demand) (sum : Sum) : Type 0 where
  pub cover : IsCover d sum
  pub prime : IsPrime d sum
  pub irredundant : IsIrredundant d sum
