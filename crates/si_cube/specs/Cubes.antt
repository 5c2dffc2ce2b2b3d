-- (field) Codes that a cube covers.
use Rattle.std.specs.Prelude.{ℕ, List, IsTrue}
use Rattle.std.specs.List.{list_all}
use Rattle.si_base.specs.declared.ids.Literal.{Literal}
use Rattle.si_base.specs.Netlist.{literal_value}

-- each literal of the cube is true at the code
abbrev pub Covers : List Literal → ℕ → Type 0
Covers cube code = IsTrue (list_all (literal_value code) cube)

-- the cube covers the code, and each code that the smaller one covers
pub record IsAbove (smaller : List Literal) (code : ℕ) (cube : List Literal) : Type 0 where
  pub covers : Covers cube code
  pub keeps : (c : ℕ) → Covers smaller c → Covers cube c

-- the cube is above both, and each cube that is above both covers all that it covers
pub record IsLeastAbove (smaller : List Literal) (code : ℕ) (cube : List Literal) : Type 0 where
  pub above : IsAbove smaller code cube
  pub least : (other : List Literal) → IsAbove smaller code other → (c : ℕ) → Covers cube c
      → Covers other c
