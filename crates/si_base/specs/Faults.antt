-- (text) The first fault, in order.
use Rattle.std.specs.Prelude.{ℕ, ◌++◌, Bool, List, [], ◌∷◌, Option, Some, None, if◌then◌else◌}
use Rattle.si_base.specs.declared.fault.TextKind.{TextKind}

-- the fault, where the condition holds
abbrev pub when : Bool → TextKind → Option TextKind
when condition kind = if condition then Some kind else None

-- the first, or else the second
infixr 5 ◌otherwise◌
abbrev pub ◌otherwise◌ : {A : Type 0} → Option A → Option A → Option A
(Some fault) otherwise later = Some fault
None otherwise later = later

-- the first fault of the items in order: the fault of an item is told by those before it and itself
abbrev pub first_after : {A F : Type 0} → (List A → A → Option F) → List A → List A → Option F
first_after fault before [] = None
first_after fault before (x ∷ xs) = fault before x otherwise first_after fault (before ++ x ∷ []) xs

-- the first fault of the items in order
abbrev pub first_in : {A F : Type 0} → (A → Option F) → List A → Option F
first_in fault [] = None
first_in fault (x ∷ xs) = fault x otherwise first_in fault xs

-- a line's fault, with its number
abbrev pub at_line : ℕ → Option TextKind → Option (ℕ × TextKind)
at_line n (Some kind) = Some (n, kind)
at_line n None = None
