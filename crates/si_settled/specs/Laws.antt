-- (law) The laws of settling, one word each.
use Rattle.std.specs.Prelude.{◌≡◌, ℕ, ◌<◌, ◌≤◌, ◌++◌, List, [], length, Contains}
use Rattle.si_base.specs.Bits.{bit}
use Rattle.si_base.specs.Netlist.{Netlist, IsExcited}
use Rattle.si_settled.specs.Settling.{Agrees, IsForced, IsShown, Rounds, Runs, Settles, SettlesBy}
use Rattle.si_settled.specs.Settling.{Suffices, Drops, AreForced, inputs_of}
use Rattle.si_settled.specs.ResetText.{IsResetText}

-- all signals have their start values
abbrev pub IsAtStart : Netlist → ℕ → Type 0
IsAtStart n w = (a : ℕ) → a < length n.signals → bit w a ≡ bit n.start a

-- from any values in which the held signals have their start values, as many rounds as gates settle
-- end at the start values
abbrev pub RoundsSettle : Type 0
RoundsSettle = (n : Netlist) (held order : List ℕ) (w v : ℕ) → Settles n held order
    → Agrees n held w → Rounds n held (length order) w v → IsAtStart n v

-- at no other values do all gates rest
abbrev pub RestIsAtStart : Type 0
RestIsAtStart = (n : Netlist) (held order : List ℕ) (w : ℕ) → Settles n held order
    → Agrees n held w
    → ((z : ℕ) → (Contains held z → ⊥) → IsExcited n w z → ⊥)
    → IsAtStart n w

-- at the start values no gate that isn't held is excited
abbrev pub StartStays : Type 0
StartStays = (n : Netlist) (held order : List ℕ) (w z : ℕ) → Settles n held order
    → Agrees n held w → IsAtStart n w
    → (Contains held z → ⊥) → IsExcited n w z → ⊥

-- from anywhere some schedule of at most as many events as gates settle leads there
abbrev pub StartIsNear : Type 0
StartIsNear = (n : Netlist) (held order : List ℕ) (w : ℕ) → Settles n held order
    → Agrees n held w
    → (zs : List ℕ) × (length zs ≤ length order) × (v : ℕ) × Runs n held w zs v × IsAtStart n v

-- what the cubes show is forced
abbrev pub ShownAreForced : Type 0
ShownAreForced = (n : Netlist) (known : List ℕ) (z : ℕ) → IsShown n known z → IsForced n known z

-- where more is held, all gates settle too
abbrev pub MoreHeldSettle : Type 0
MoreHeldSettle = (n : Netlist) (held more order : List ℕ)
    → ((z : ℕ) → Contains held z → Contains more z)
    → SettlesBy IsShown n held order → SettlesBy IsShown n more order

-- where all gates settle, each gate that is excited at the start values is held
abbrev pub ExcitedAreHeld : Type 0
ExcitedAreHeld = (n : Netlist) (held order : List ℕ) (z : ℕ) → Settles n held order
    → IsExcited n n.start z → Contains held z

-- ---- of the outputs to force

-- with them all gates settle
abbrev pub ForcedSuffice : Type 0
ForcedSuffice = (n : Netlist) (forced : List ℕ) → AreForced n forced
    → (order : List ℕ) × Settles n (inputs_of n.signals ++ forced) order

-- without any one of them the cubes no longer show it
abbrev pub NoneIsSuperfluous : Type 0
NoneIsSuperfluous = (n : Netlist) (forced fewer : List ℕ) (z : ℕ) → AreForced n forced
    → Contains forced z → ((y : ℕ) → Contains fewer y → Contains forced y × (y ≡ z → ⊥))
    → Suffices n (inputs_of n.signals ++ fewer) → ⊥

-- there is one such list at most, for the same inputs and gates
abbrev pub DropsAreOne : Type 0
DropsAreOne = (n : Netlist) (inputs gates one other : List ℕ) → Drops n inputs [] gates one
    → Drops n inputs [] gates other → one ≡ other

-- and there is one
abbrev pub DropsExist : Type 0
DropsExist = (n : Netlist) (inputs gates : List ℕ)
    → (forced : List ℕ) × Drops n inputs [] gates forced

-- a netlist has one text of what to force
abbrev pub ResetTextsAreOne : Type 0
ResetTextsAreOne = (n : Netlist) (text other : List ℕ) → IsResetText n text → IsResetText n other
    → text ≡ other

-- and it has one
abbrev pub ResetTextsExist : Type 0
ResetTextsExist = (n : Netlist) → (text : List ℕ) × IsResetText n text
