-- (law) What laws say of a stage.
use Rattle.std.specs.Prelude.{◌≡◌, Result}
use Rattle.si_refusals.specs.Stages.{Stage}

-- it has one result at most
abbrev pub AtMostOne : {R A : Type 0} → Stage R A → Type 0
AtMostOne {R} {A} stage = (a b : Result A R) → stage a → stage b → a ≡ b

-- it has a result
abbrev pub HasResult : {R A : Type 0} → Stage R A → Type 0
HasResult {R} {A} stage = (a : Result A R) × stage a
