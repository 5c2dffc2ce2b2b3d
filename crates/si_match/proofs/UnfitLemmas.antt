-- What a signal that fits no cell adds to the weight, and its bound by the triggers.
use Rattle.std.proofs.Common.{◌≡◌, ℕ, zero, suc, ◌+◌, ◌≤◌, Bool, true, false, length, is_none, if◌then◌else◌}
use Rattle.std.proofs.Common.{refl, arith}
use Rattle.si_base.specs.Bits.{bit}
use Rattle.si_base.specs.Codes.{CodedGraph, IsCoded}
use Rattle.si_cell.specs.Library.{Library}
use Rattle.si_match.specs.Fit.{first_fit}
use Rattle.si_match.specs.Support.{support_of}
use Rattle.si_match.specs.Triggers.{AreTriggers}
use Rattle.si_match.specs.Weight.{added_weight, size_from, size_of_support}
use Rattle.si_match.proofs.DroppingLemmas.{triggers_in_support}

-- ---- a set in a greater one
pub one_le : (b d : Bool) → (b ≡ true → d ≡ true) → (if b then 1 else 0) ≤ (if d then 1 else 0)
one_le true d within = rw (within refl) (omega arith)
one_le false d within = omega arith

pub size_le : (n i few more : ℕ) → ((j : ℕ) → bit few j ≡ true → bit more j ≡ true)
    → size_from n i few ≤ size_from n i more
size_le zero i few more within = omega arith
size_le (suc n) i few more within =
    let head = one_le (bit few i) (bit more i) (within i) in
    let rest = size_le n (i + 1) few more within in
    omega (arith, head, rest)

-- triggers are no more than the support
module _ (c : CodedGraph) (is : IsCoded c) where
  pub triggers_le : (z triggers : ℕ) → AreTriggers c z triggers
      → size_from (length c.graph.signals) 0 triggers ≤ size_of_support c z
  triggers_le z triggers are =
      size_le (length c.graph.signals) 0 triggers (support_of c z) (triggers_in_support c z is triggers are)

module _ (c : CodedGraph) (library : Library) (z : ℕ) where
  pub unfit_adds : is_none (first_fit c library z) ≡ true → added_weight c library z ≡ 1 + size_of_support c z
  unfit_adds unfit = rw unfit refl
