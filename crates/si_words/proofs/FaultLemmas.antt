-- Faults one after another.
use Rattle.std.proofs.Common.{◌≡◌, Bool, true, false, refl, Option, Some, None, ℕ}
use Rattle.si_base.specs.declared.fault.TextKind.{TextKind}
use Rattle.si_base.specs.Faults.{when, ◌otherwise◌, at_line}

pub both : (a b : Option TextKind) → (a otherwise b) ≡ None → (a ≡ None) × (b ≡ None)
both None b h = (refl, h)
both (Some k) b h = absurd cc

pub not_when : (c : Bool) (k : TextKind) → when c k ≡ None → c ≡ false
not_when false k h = refl
not_when true k h = absurd cc

-- a line and the lines after it have no fault where both have none
pub line_none : (n : ℕ) (fault : Option TextKind) (later : Option (ℕ × TextKind))
    → (at_line n fault otherwise later) ≡ None
    → (fault ≡ None) × (later ≡ None)
line_none n None later none = (refl, none)
line_none n (Some kind) later none = absurd cc
