-- (text) When a text of modules means a netlist.
use Rattle.std.specs.Prelude.{◌≡◌, ℕ, List, Ok}
use Rattle.si_base.specs.Netlist.{Netlist}
use Rattle.si_equations.specs.Equations.{Equations}
use Rattle.si_equations.specs.Meaning.{AreOfNetlist}
use Rattle.si_verilog_reader.specs.Comments.{without_comments}
use Rattle.si_verilog_reader.specs.Modules.{modules_in}

-- the text without its comments has no fault, and its equations are of the netlist
pub record MeansNetlist (text : List ℕ) (n : Netlist) : Type 0 where
  pub equations : Equations
  pub spelled : modules_in (without_comments text) ≡ Ok equations
  pub of_netlist : AreOfNetlist n equations
