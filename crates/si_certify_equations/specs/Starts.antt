-- (command) The start values of hidden signals: the first with which a lineage fits the netlist.
use Rattle.std.specs.Prelude.{ℕ, ◌-◌, ◌^◌, ◌<◌, List, length, Ok, Err}
use Rattle.si_base.specs.Codes.{CodedGraph}
use Rattle.si_base.specs.Netlist.{Netlist}
use Rattle.si_found.specs.Found.{Fits}
use Rattle.si_from_equations.specs.Beside.{started}
use Rattle.si_insert.specs.Lineage.{History}
use Rattle.si_refusals.specs.Refusal.{TextRefusal}
use Rattle.si_refusals.specs.Stages.{Stage}
use Rattle.si_certify.specs.Certify.{IsSpelled, IsUnfound}

-- how many values the signals behind those of the graph may have at the start
abbrev pub starts : CodedGraph → Netlist → ℕ
starts coded n = 2 ^ (length n.signals - length coded.graph.signals)

-- the netlist where they start with the bits of the number
abbrev pub started_on : CodedGraph → Netlist → ℕ → Netlist
started_on coded n values = started (length coded.graph.signals) values n

abbrev pub FitsNone : CodedGraph → Netlist → Type 0
FitsNone coded n = (l : History) → Fits coded n l → ⊥

-- with the first start values with which a lineage fits the netlist, the output is the netlist with
-- the lines of that lineage
pub record IsStarted (states : List (List ℕ)) (coded : CodedGraph) (n : Netlist)
    (output : List ℕ) : Type 0 where
  pub values : ℕ
  pub within : values < starts coded n
  pub first : (less : ℕ) → less < values → FitsNone coded (started_on coded n less)
  pub spelled : IsSpelled states coded (started_on coded n values) output

-- no lineage fits with any, and the refusal shows the first reason where all start with 0
pub record IsUnstarted (states : List (List ℕ)) (coded : CodedGraph) (n : Netlist)
    (refusal : TextRefusal) : Type 0 where
  pub none : (values : ℕ) → values < starts coded n → FitsNone coded (started_on coded n values)
  pub unfound : IsUnfound states coded (started_on coded n 0) refusal

abbrev pub spelled_first : (states : List (List ℕ)) → CodedGraph → Netlist
    → Stage TextRefusal (List ℕ)
spelled_first states coded n (Ok output) = IsStarted states coded n output
spelled_first states coded n (Err refusal) = IsUnstarted states coded n refusal
