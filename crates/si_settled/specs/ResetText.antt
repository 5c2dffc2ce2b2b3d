-- (text) The text of the outputs to force, so that a netlist comes to its start values.
use Rattle.std.specs.Prelude.{◌≡◌, ℕ, List, [], ◌∷◌, map, length, codes, decimal}
use Rattle.std.specs.Prelude.{if◌then◌else◌}
use Rattle.si_base.specs.Bits.{bit}
use Rattle.si_base.specs.Bytes.{digit_zero, digit_one}
use Rattle.si_base.specs.declared.graph.Signal.{Signal}
use Rattle.si_base.specs.Graph.{name_of}
use Rattle.si_base.specs.Netlist.{Netlist}
use Rattle.si_base.specs.Words.{text_of}
use Rattle.si_settled.specs.Settling.{AreForced, AreSettling}

-- a signal with its start value
abbrev pub force_line : List Signal → ℕ → ℕ → List (List ℕ)
force_line signals start z = codes "force" ∷ name_of signals z
    ∷ ((if bit start z then digit_one else digit_zero) ∷ []) ∷ []

-- how many gates there are, which of them settle while the inputs are held, and what to force
unfoldable pub reset_text : Netlist → List ℕ → List ℕ → List ℕ
reset_text n settling forced =
    text_of ((codes "gates" ∷ decimal (length n.gates) ∷ [])
    ∷ (codes "settle" ∷ map (name_of n.signals) settling)
    ∷ map (force_line n.signals n.start) forced)

-- the text of the gates of n that settle and of the outputs to force
pub record IsResetText (n : Netlist) (text : List ℕ) : Type 0 where
  pub settling : List ℕ
  pub settle : AreSettling n settling
  pub forced : List ℕ
  pub dropped : AreForced n forced
  pub text_is : text ≡ reset_text n settling forced
