-- (field) Which names a reset input may have, and why others are refused.
use Rattle.std.specs.Prelude.{ℕ, Bool, List, IsTrue, bytes_eq}
use Rattle.std.specs.Bool.{IsFalse}
use Rattle.std.specs.List.{list_any}
use Rattle.si_base.specs.Netlist.{Netlist}
use Rattle.si_base.specs.Words.{is_signal_name}
use Rattle.si_resettable.specs.declared.refusal.Unresettable.{Unresettable}
use Rattle.si_resettable.specs.declared.refusal.Unresettable.TheVariants.{NoMemory, NotAName}
use Rattle.si_resettable.specs.declared.refusal.Unresettable.TheVariants.{NameIsTaken}

-- a signal of the netlist has the name
abbrev pub is_taken : Netlist → List ℕ → Bool
is_taken n name = list_any (λ x. bytes_eq x.name name) n.signals

-- the name is one that a signal may have, and none has it
pub record HasRoomFor (n : Netlist) (name : List ℕ) : Type 0 where
  pub is_name : IsTrue (is_signal_name name)
  pub is_free : IsFalse (is_taken n name)

-- what a refusal shows; that the name is taken comes after its being one
abbrev pub Shows : Netlist → List ℕ → Unresettable → Type 0
Shows n name NoMemory = Unit {0}
Shows n name NotAName = IsFalse (is_signal_name name)
Shows n name NameIsTaken = IsTrue (is_signal_name name) × IsTrue (is_taken n name)
