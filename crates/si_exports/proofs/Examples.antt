-- The netlist of a generalised C-element as equations, a text that is cut short, and a pin that is told.
use Rattle.std.proofs.Common.{ℕ, false, List, [], ◌∷◌, ◌++◌, None, Ok, Err, refl, codes}
use Rattle.si_base.specs.declared.fault.TextKind.TheVariants.{NoEnd}
use Rattle.si_base.specs.declared.graph.SigKind.TheVariants.{Input, Output}
use Rattle.si_base.specs.declared.ids.Literal.{Literal}
use Rattle.si_base.specs.Netlist.{Cell as CellGate, Netlist}
use Rattle.si_cell.specs.Library.{Library}
use Rattle.si_cell.specs.declared.pins.Pins.TheVariants.{Any}
use Rattle.si_equations.specs.Written.{equations_text}
use Rattle.si_netlist_reader.specs.NetlistFault.{netlist_fault}
use Rattle.si_netlist_reader.specs.NetlistValue.{netlist_of}
use Rattle.si_readings.specs.declared.library_format.LibraryFormat.TheVariants.{Own}
use Rattle.si_refusals.specs.Refusal.{BadText, Complemented as Told}
use Rattle.si_refusals.specs.Stages.{Refuses, Passes}
use Rattle.si_genlib.specs.Ports.{with_own_ports}
use Rattle.si_structure.specs.declared.complements.Complements.TheVariants.{Refused}
use Rattle.si_structure.specs.declared.refusal.Unstructured.TheVariants.{Complemented}
use Rattle.si_exports.specs.Equations.{equations}
use Rattle.si_exports.specs.Structure.{TellsReason, structure}

abbrev c_netlist : List ℕ
c_netlist = codes ".model c2\n.inputs a b\n.outputs c\n.internal\n.inserted\n.start 000\n"
    ++ codes ".gates\nc gc a b | a' b'\n.end\n"

abbrev c_equations : List ℕ
c_equations = codes "INORDER = a b;\nOUTORDER = c;\n[c] = a b + c (a' b')';\n"

written : equations (codes "c.net") c_netlist (Ok c_equations)
unfolding netlist_fault netlist_of equations_text
written = Passes (netlist_of c_netlist) (refl, refl) refl

cut_short : equations (codes "c.net") (codes ".model c2\n.inputs a b\n") (Err (BadText (codes "c.net") 3 NoEnd))
unfolding netlist_fault
cut_short = Refuses (BadText (codes "c.net") 3 NoEnd) ((3, NoEnd), refl, refl) refl

-- the netlist is read first
netlist_first : structure (Own Any) Refused None (codes "c.net") (codes ".model c2\n.inputs a b\n") (codes "c.lib") []
    (Err (BadText (codes "c.net") 3 NoEnd))
unfolding netlist_fault
netlist_first = Refuses (BadText (codes "c.net") 3 NoEnd) ((3, NoEnd), refl, refl) refl

-- ---- an AND with its second pin complemented

abbrev lit : ℕ → Literal
lit sig = record { sig = sig; plain = false }

abbrev gates : Library
gates = record {
  name = codes "gates";
  cells = record { name = codes "AND2"; pins = codes "a" ∷ codes "b" ∷ []; sum = [] } ∷ [];
  pins = Any;
}

abbrev small : Netlist
small = record {
  model = codes "small";
  signals = record { name = codes "r"; kind = Input } ∷ record { name = codes "z"; kind = Output } ∷ [];
  start = 0;
  inserts = [];
  gates = CellGate (codes "AND2") (lit 0 ∷ lit 0 ∷ []) [] ∷ [];
}

second_pin : TellsReason (with_own_ports gates) small (Complemented 1 0 1) (Told (codes "z") (codes "AND2") (codes "b"))
second_pin = refl
