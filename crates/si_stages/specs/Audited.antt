-- (command) Whether a netlist is certified for a graph.
use Rattle.std.specs.Prelude.{◌≡◌, ℕ, ◌⊎◌, List, [], ◌∷◌, length, codes, Ok, Err, None}
use Rattle.si_audit.specs.declared.fault.AuditFault.{AuditFault}
use Rattle.si_audit.specs.declared.fault.AuditFault.TheVariants as fault
use Rattle.si_audit.specs.Audit.{Certifies}
use Rattle.si_audit.specs.Faults.{ShowsFault}
use Rattle.si_base.specs.declared.graph.Signal.{Signal}
use Rattle.si_base.specs.Behaviour.{Implements}
use Rattle.si_base.specs.Codes.{CodedGraph}
use Rattle.si_base.specs.GivenGraph.{Sg}
use Rattle.si_base.specs.Netlist.{Netlist}
use Rattle.si_base.specs.NetlistText.{name_of}
use Rattle.si_base.specs.System.{IsFor}
use Rattle.si_base.specs.Words.{text_of}
use Rattle.si_insert.specs.declared.accept.Rejected.TheVariants as why
use Rattle.si_insert.specs.Lineage.{History}
use Rattle.si_netlist_reader.specs.NetlistFault.{netlist_fault}
use Rattle.si_netlist_reader.specs.NetlistValue.{netlist_of}
use Rattle.si_refusals.specs.Ending.{Ending, NoMemory, Answered}
use Rattle.si_refusals.specs.Refusal.{TextRefusal, TextRefused, Rejected}
use Rattle.si_refusals.specs.Stages.{Stage}
use Rattle.si_refusals.specs.declared.rejection.NamedRejection.{NamedRejection}
use Rattle.si_refusals.specs.declared.rejection.NamedRejection.TheVariants.{States, Classes}
use Rattle.si_refusals.specs.declared.rejection.NamedRejection.TheVariants.{Delays, Breaks}
use Rattle.si_refusals.specs.declared.rejection.NamedRejection.TheVariants.{TooLarge, Start, Gate}
use Rattle.si_sg.specs.CanonicalText.{event_word}
use Rattle.si_sg.specs.GivenGraph.{IsGivenBy}
use Rattle.si_readings.specs.Checks.{IsSound}
use Rattle.si_reports.specs.Reports.{count_line}

-- how many signals are inserted, how many states the last graph has, and how many gates there are
abbrev pub audit_text : History → Netlist → List ℕ
audit_text l n = text_of ((codes "audited" ∷ [])
    ∷ count_line (codes "inserted") (length n.inserts)
    ∷ count_line (codes "states") l.current.coded.graph.states
    ∷ count_line (codes "gates") (length n.gates) ∷ [])

-- the output tells of the lineage that certifies the netlist, which so implements the graph
pub record IsAudit (states : List (List ℕ)) (coded : CodedGraph) (n : Netlist) (output : List ℕ)
    : Type 0 where
  pub lineage : History
  pub certifies : Certifies states coded n lineage
  pub implements : Implements n coded.graph
  pub output_is : output ≡ audit_text lineage n

-- the fault by the names of the netlist's signals and the words of its events
abbrev pub IsNamedSo : List Signal → AuditFault → NamedRejection → Type 0
IsNamedSo signals fault.NoMemory reason = ⊥
IsNamedSo signals (fault.States k) reason = reason ≡ States k
IsNamedSo signals (fault.Classes k) reason = reason ≡ Classes k
IsNamedSo signals (fault.Refused k state (why.DelaysInput s e)) reason =
    reason ≡ Delays k state (event_word signals e)
IsNamedSo signals (fault.Refused k state (why.BreaksPersistency s lost by)) reason =
    reason ≡ Breaks k state (event_word signals lost) (event_word signals by)
IsNamedSo signals (fault.Refused k state (why.TooLarge count)) reason = reason ≡ TooLarge k count
IsNamedSo signals (fault.Refused k state why.NoCodeBit) reason = ⊥
IsNamedSo signals (fault.Start sig) reason = reason ≡ Start (name_of signals sig)
IsNamedSo signals (fault.Gate sig state) reason = reason ≡ Gate (name_of signals sig) state

-- the refusal shows the first reason against the netlist
pub record IsRejection (states : List (List ℕ)) (coded : CodedGraph) (n : Netlist)
    (refusal : TextRefusal) : Type 0 where
  pub fault : AuditFault
  pub shows : ShowsFault states coded n fault
  pub reason : NamedRejection
  pub named : IsNamedSo n.signals fault reason
  pub refusal_is : refusal ≡ Rejected reason

-- the netlist is certified for the graph, whose states have these names: else the first reason
-- against it
abbrev pub certification : (states : List (List ℕ)) → CodedGraph → Netlist
    → Stage TextRefusal (List ℕ)
certification states coded n (Ok output) = IsAudit states coded n output
certification states coded n (Err refusal) = IsRejection states coded n refusal

-- the call stops with the fault by its names, or memory ran out
abbrev pub TellsRejection : List Signal → AuditFault → Ending → Type 0
TellsRejection signals fault NoMemory = Unit {0}
TellsRejection signals fault (Answered (TextRefused refusal)) =
    (reason : NamedRejection) × IsNamedSo signals fault reason × (refusal ≡ Rejected reason)
TellsRejection signals fault ending = ⊥

-- ---- what laws say of it

-- the netlist that the one text spells is certified for the proper graph that the other gives, by
-- a lineage of which the output tells; it so implements that graph
pub record IsCertified (graph netlist output : List ℕ) : Type 0 where
  pub given : Sg
  pub is_given : IsGivenBy graph given
  pub no_fault : netlist_fault netlist ≡ None
  pub coded : CodedGraph
  pub sound : IsSound given.graph coded
  pub is_for : IsFor coded (netlist_of netlist)
  pub lineage : History
  pub certifies : Certifies given.states coded (netlist_of netlist) lineage
  pub implements : Implements (netlist_of netlist) given.graph
  pub output_is : output ≡ audit_text lineage (netlist_of netlist)

-- the stage gives an output, or shows a reason against the netlist
abbrev pub EndsOrRejects : Stage TextRefusal (List ℕ) → Type 0
EndsOrRejects stage = ((output : List ℕ) × stage (Ok output))
    ⊎ ((reason : NamedRejection) × stage (Err (Rejected reason)))
