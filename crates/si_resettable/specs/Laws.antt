-- (law) The laws of modules with a reset input, one word each.
use Rattle.std.specs.Prelude.{◌≡◌, ◌≢◌, ◌⊎◌, ℕ, ◌∷◌, ◌++◌, true, List, length, slice_get, Some}
use Rattle.si_base.specs.Graph.{IsNonInput, names_in}
use Rattle.si_base.specs.Netlist.{Netlist, gate_place, gate_value}
use Rattle.si_base.specs.NetlistText.{name_of}
use Rattle.si_base.specs.WellFormed.{IsNetlist}
use Rattle.si_settled.specs.Laws.{IsAtStart}
use Rattle.si_settled.specs.Settling.{Agrees, AreForced, Rounds, Settles, inputs_of}
use Rattle.si_verilog.specs.Declared.{declared_names}
use Rattle.si_verilog.specs.Grammar.{Tree, Module, tree_value}
use Rattle.si_verilog.specs.Meaning.{IsModule}
use Rattle.si_resettable.specs.Meaning.{IsResettable, MeansResettable, value_at, value_in_reset}
use Rattle.si_resettable.specs.Refusals.{HasRoomFor, Shows}
use Rattle.si_resettable.specs.ResettableText.{IsResettableText, resettable_text}
use Rattle.si_resettable.specs.declared.refusal.Unresettable.{Unresettable}
use Rattle.si_resettable.specs.declared.refusal.Unresettable.TheVariants.{NoMemory}

-- ---- texts

-- each module that the text is of is the netlist with the reset input, whatever is forced
abbrev pub TextsMeanNothingElse : Type 0
TextsMeanNothingElse = (n : Netlist) (forced reset : List ℕ) (m : Module) → IsNetlist n
    → HasRoomFor n reset → IsModule (resettable_text n forced reset) m
    → IsResettable n forced reset m

-- the text in which the outputs to force are forced means just that
abbrev pub TextsMean : Type 0
TextsMean = (n : Netlist) (reset text : List ℕ) → IsNetlist n → HasRoomFor n reset
    → IsResettableText n reset text → MeansResettable text n reset

-- a module with a reset input declares that input, and then each signal once, in signal order
abbrev pub DeclaredOnce : Type 0
DeclaredOnce = (n : Netlist) (forced reset : List ℕ) (m : Module) → IsNetlist n
    → IsResettable n forced reset m → declared_names m ≡ reset ∷ names_in n.signals

-- a netlist and a name have one such text
abbrev pub TextsAreOne : Type 0
TextsAreOne = (n : Netlist) (reset text other : List ℕ) → IsResettableText n reset text
    → IsResettableText n reset other → text ≡ other

abbrev pub TextsExist : Type 0
TextsExist = (n : Netlist) (reset : List ℕ) → (text : List ℕ) × IsResettableText n reset text

-- ---- outcomes

-- a name is refused for one reason at most, beside want of memory
abbrev pub RefusedForOneReason : Type 0
RefusedForOneReason = (n : Netlist) (reset : List ℕ) (e f : Unresettable) → e ≢ NoMemory
    → f ≢ NoMemory → Shows n reset e → Shows n reset f → e ≡ f

-- and one that there is room for, for none
abbrev pub NotBoth : Type 0
NotBoth = (n : Netlist) (reset : List ℕ) (e : Unresettable) → HasRoomFor n reset
    → Shows n reset e → e ≡ NoMemory

-- there is room for each name, or a reason that there is none
abbrev pub HaveOutcome : Type 0
HaveOutcome = (n : Netlist) (reset : List ℕ)
    → HasRoomFor n reset ⊎ ((e : Unresettable) × (e ≢ NoMemory) × Shows n reset e)

-- ---- while the reset input is 1

-- k is the netlist in reset: it has the same signals and start values, and each of its gates the
-- value of the gate in reset
pub record IsInReset (n : Netlist) (forced : List ℕ) (k : Netlist) : Type 0 where
  pub signals : k.signals ≡ n.signals
  pub start : k.start ≡ n.start
  pub gates : (z values : ℕ) → IsNonInput n.signals z
      → gate_value k z values ≡ value_in_reset n forced z values

-- there is such a netlist
abbrev pub InResetExist : Type 0
InResetExist = (n : Netlist) (forced : List ℕ) → (k : Netlist) × IsInReset n forced k

-- it is what the module is while the reset input is 1: each assign has the value of its gate
abbrev pub ModulesAreInReset : Type 0
ModulesAreInReset = (n k : Netlist) (forced reset : List ℕ) (m : Module) (z : ℕ) (tree : Tree)
    → IsResettable n forced reset m → IsInReset n forced k → IsNonInput n.signals z
    → slice_get m.assigns (gate_place n.signals z)
    ≡ Some (record { name = name_of n.signals z; tree = tree })
    → (values : ℕ) → tree_value (value_at reset true n.signals values) tree ≡ gate_value k z values

-- its gates settle while the inputs have their start values: those that are forced, and then those
-- that settle where these are held
abbrev pub InResetSettle : Type 0
InResetSettle = (n k : Netlist) (forced order : List ℕ) → AreForced n forced
    → IsInReset n forced k → Settles n (inputs_of n.signals ++ forced) order
    → Settles k (inputs_of n.signals) (forced ++ order)

-- so from any values in which the inputs have their start values, as many rounds as gates are
-- forced and settle end at the start values
abbrev pub ResetsEnd : Type 0
ResetsEnd = (n k : Netlist) (forced : List ℕ) → AreForced n forced → IsInReset n forced k
    → (order : List ℕ) × Settles n (inputs_of n.signals ++ forced) order
    × ((w v : ℕ) → Agrees n (inputs_of n.signals) w
    → Rounds k (inputs_of n.signals) (length (forced ++ order)) w v → IsAtStart n v)
