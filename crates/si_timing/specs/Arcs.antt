-- (field) Arcs of timing between the ports of the instances of a netlist, and which of them are
-- left where some are disabled.
use Rattle.std.specs.Prelude.{◌≡◌, ◌⊎◌, List, [], ◌∷◌, Contains}
use Rattle.si_base.specs.Graph.{IsNonInput}
use Rattle.si_base.specs.Netlist.{Netlist}
use Rattle.si_cell.specs.Library.{Instance, Library}
use Rattle.si_genlib.specs.Ports.{PortedLibrary}
use Rattle.si_timing.specs.Instances.{IsInput, NamedArc, OutputOf, Port, gate_of, named, signal_at}

-- inside an instance, from an input to its output
pub record IsInside (library : Library) (n : Netlist) (p q : Port) : Type 0 where
  pub instance : Instance
  pub input : IsInput library n p instance
  pub output : q ≡ OutputOf (gate_of p)

-- along a net, from the output of the gate that drives a signal to an input where it is
pub record IsAlong (library : Library) (n : Netlist) (p q : Port) : Type 0 where
  pub instance : Instance
  pub input : IsInput library n q instance
  pub driven : IsNonInput n.signals (signal_at instance q)
  pub output : p ≡ OutputOf (signal_at instance q)

-- one of the named arcs goes from the input to the output of its instance
pub record IsDisabled (library : PortedLibrary) (n : Netlist) (arcs : List NamedArc) (p : Port)
    : Type 0 where
  pub instance : Instance
  pub input : IsInput library.library n p instance
  pub there : Contains arcs (named library n p instance)

-- an arc of timing that is left: inside an instance and not disabled, or along a net
abbrev pub IsLeft : PortedLibrary → Netlist → List NamedArc → Port → Port → Type 0
IsLeft library n arcs p q =
    (IsInside library.library n p q × (IsDisabled library n arcs p → ⊥))
    ⊎ IsAlong library.library n p q

-- these ports, one after another, lead from p to q along arcs that are left
abbrev pub Path : PortedLibrary → Netlist → List NamedArc → Port → List Port → Port → Type 0
Path library n arcs p [] q = p ≡ q
Path library n arcs p (u ∷ us) q = IsLeft library n arcs p u × Path library n arcs u us q

-- no path comes back
abbrev pub HasNoLoop : PortedLibrary → Netlist → List NamedArc → Type 0
HasNoLoop library n arcs = (p : Port) (us : List Port) → Path library n arcs p us p → us ≡ []

-- the arc is that from an input to the output of its instance, and with what is left it closes a
-- loop
pub record ClosesLoop (library : PortedLibrary) (n : Netlist) (arcs : List NamedArc) (a : NamedArc)
    : Type 0 where
  pub port : Port
  pub instance : Instance
  pub input : IsInput library.library n port instance
  pub is : a ≡ named library n port instance
  pub back : List Port
  pub path : Path library n arcs (OutputOf (gate_of port)) back port
