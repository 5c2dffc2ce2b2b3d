-- (law) The laws of equations that are certified, one word each.
use Rattle.std.specs.Prelude.{◌≡◌, ℕ, ◌<◌, ◌≤◌, List, length, None, Ok}
use Rattle.si_base.specs.Codes.{CodedGraph}
use Rattle.si_base.specs.GivenGraph.{Sg}
use Rattle.si_equations.specs.Equations.{Equations}
use Rattle.si_found.specs.Found.{Fits}
use Rattle.si_from_equations.specs.Beside.{all_signals, hidden_names, lists_place, netlist_beside}
use Rattle.si_from_equations.specs.Beside.{unsummed}
use Rattle.si_from_equations.specs.BesideLaws.{IsOfEquations}
use Rattle.si_insert.specs.Lineage.{History}
use Rattle.si_netlist_reader.specs.NetlistValue.{netlist_of}
use Rattle.si_readings.specs.Checks.{IsSound}
use Rattle.si_readings.specs.Laws.{AtMostOne, HasResult}
use Rattle.si_sg.specs.GivenGraph.{IsGivenBy}
use Rattle.si_stages.specs.AuditLaws.{IsCertifiedBy}
use Rattle.si_certify_equations.specs.declared.form.Form.{Form}
use Rattle.si_certify_equations.specs.Certify.{certify_equations, spelled_in}
use Rattle.si_certify_equations.specs.Limits.{max_hidden}
use Rattle.si_certify_equations.specs.Starts.{started_on, starts}

-- ---- what it comes to

-- the output is certified for the graph of the text, and its gates have the values of the equations
pub record IsCertifiedOutput (form : Form) (text equations output : List ℕ) : Type 0 where
  pub read : Equations
  pub spelled : spelled_in form equations ≡ Ok read
  pub given : Sg
  pub lineage : History
  pub certified : IsCertifiedBy text output given lineage
  pub gates : IsOfEquations (netlist_of output) read

-- such is what equations come to: it passes its audit
abbrev pub CertifiedEquationsPass : Type 0
CertifiedEquationsPass = (form : Form) (file text equations_file equations output : List ℕ)
    → certify_equations form file text equations_file equations (Ok output)
    → IsCertifiedOutput form text equations output

-- ---- when it comes to something

-- a lineage fits the netlist of the equations beside the graph of the text, with some start values
-- of its hidden signals
pub record SomeFits (form : Form) (text equations : List ℕ) : Type 0 where
  pub given : Sg
  pub is_given : IsGivenBy text given
  pub read : Equations
  pub spelled : spelled_in form equations ≡ Ok read
  pub coded : CodedGraph
  pub sound : IsSound given.graph coded
  pub lists : lists_place coded.graph.signals read ≡ None
  pub few : length (hidden_names coded.graph.signals read) ≤ max_hidden
  pub summed : unsummed (all_signals coded.graph.signals read) read ≡ None
  pub values : ℕ
  pub within : values < starts coded (netlist_beside given.model coded read)
  pub lineage : History
  pub fits : Fits coded (started_on coded (netlist_beside given.model coded read) values) lineage

-- where one does, the equations are certified
abbrev pub FittingAreCertified : Type 0
FittingAreCertified = (form : Form) (file text equations_file equations : List ℕ)
    → SomeFits form text equations
    → (output : List ℕ) × certify_equations form file text equations_file equations (Ok output)

-- ---- answers

abbrev pub AnswersAreOne : Type 0
AnswersAreOne = (form : Form) (file text equations_file equations : List ℕ)
    → AtMostOne (certify_equations form file text equations_file equations)

abbrev pub AnswersExist : Type 0
AnswersExist = (form : Form) (file text equations_file equations : List ℕ)
    → HasResult (certify_equations form file text equations_file equations)
