-- The netlist of the generalised C-element as a module, in both versions of its text, and a text that is cut short.
use Rattle.std.proofs.Common.{ℕ, List, ◌++◌, Ok, Err, refl, codes}
use Rattle.si_base.specs.declared.fault.TextKind.TheVariants.{NoEnd}
use Rattle.si_netlist_reader.specs.NetlistFault.{netlist_fault}
use Rattle.si_netlist_reader.specs.NetlistValue.{netlist_of}
use Rattle.si_refusals.specs.Refusal.{BadText}
use Rattle.si_refusals.specs.Stages.{Refuses, Passes}
use Rattle.si_reports.specs.Verilog.{verilog}
use Rattle.si_verilog.specs.ModuleText.{verilog_name, verilog_text}

abbrev first_version : List ℕ
first_version = codes ".model c2\n.inputs a b\n.outputs c\n.internal\n.inserted\n.start 000\n"
    ++ codes ".gates\nc gc a b | a' b'\n.end\n"

abbrev c_module : List ℕ
c_module = codes "module \\c2 (\n  input a,\n  input b,\n  output c\n);\n"
    ++ codes "  assign c = ((a & b)) | (c & ~((~a & ~b)));\nendmodule\n"

first_written : verilog (codes "c.net") first_version (Ok c_module)
unfolding netlist_fault netlist_of verilog_text verilog_name
first_written = Passes (netlist_of first_version) (refl, refl) refl

second_written : verilog (codes "c.net") (codes ".version 2\n" ++ first_version) (Ok c_module)
unfolding netlist_fault netlist_of verilog_text verilog_name
second_written = Passes (netlist_of (codes ".version 2\n" ++ first_version)) (refl, refl) refl

cut_short : verilog (codes "c.net") (codes ".model c2\n.inputs a b\n") (Err (BadText (codes "c.net") 3 NoEnd))
unfolding netlist_fault
cut_short = Refuses (BadText (codes "c.net") 3 NoEnd) ((3, NoEnd), refl, refl) refl
