-- How far a lineage is led, one insertion after another.
use Rattle.std.proofs.Common.{◌≡◌, ◌-◌, ◌<◌, List, [], ◌∷◌, ◌++◌, length, All, IsTrue, refl, sym, ap, subst, ◌∙◌, arith}
use Rattle.std.proofs.Common.{append_assoc, length-append}
use Rattle.std.proofs.lemmas.List.{append-nil}
use Rattle.std.proofs.lemmas.List.Elements.{All-append, All-cons, All-nil}
use Rattle.si_base.specs.declared.graph.Signal.{Signal}
use Rattle.si_base.specs.Limits.{max_signals}
use Rattle.si_base.specs.Words.{is_signal_name}
use Rattle.si_insert.specs.declared.lineage.TraceStep.{TraceStep}
use Rattle.si_insert.specs.Insertion.{new_signal}
use Rattle.si_insert.specs.Lineage.{Current, Inserts, IsTrace, History, Extends, ExtendsBy}
use Rattle.si_insert.proofs.OneInsertion.{trace_on}

-- ---- the names of signals
abbrev pub AreNamed : Current → Type 0
AreNamed v = All (λ x. IsTrue (is_signal_name x.name)) v.coded.graph.signals

signals_after : (v : Current) (p : TraceStep) (u : Current) → Inserts v p u
    → u.coded.graph.signals ≡ v.coded.graph.signals ++ new_signal p.name ∷ []
signals_after v p u ins = ap (λ (x : Current). x.coded.graph.signals) ins.makes ∙ ins.insertion.signals

pub named_after : (v : Current) (p : TraceStep) (u : Current) → Inserts v p u → IsTrue (is_signal_name p.name)
    → AreNamed v → AreNamed u
named_after v p u ins name named =
    let P : Signal → Type 0 = λ x. IsTrue (is_signal_name x.name) in
    let last : All P (new_signal p.name ∷ []) = All-cons P (new_signal p.name) [] name (All-nil P) in
    subst (All P) (sym (signals_after v p u ins))
    (All-append P v.coded.graph.signals (new_signal p.name ∷ []) named last)

-- ---- the trace
module _ (Step : Current → TraceStep → Current → Type 0) where
  -- a trace leads from the one lineage to the other
  pub record Leads (start now : History) : Type 0 where
    pub trace : List TraceStep
    pub goes_on : ExtendsBy start trace now
    pub leads : IsTrace Step start.current trace now.current
    pub names : AreNamed start.current → AreNamed now.current

  pub leads_nowhere : (start : History) → Leads start start
  leads_nowhere start = record {
    trace = [];
    goes_on = record { given_stays = refl; trace_grows = sym (append-nil start.trace) };
    leads = refl;
    names = λ named. named;
  }

  pub leads_on : (start now next : History) (p : TraceStep) → Leads start now → Extends now p next
      → Step now.current p next.current → IsTrue (is_signal_name p.name) → Leads start next
  leads_on start now next p so extends step name = record {
    trace = so.trace ++ p ∷ [];
    goes_on = record {
      given_stays = extends.given_stays ∙ so.goes_on.given_stays;
      trace_grows = extends.trace_grows ∙ ap (λ xs. xs ++ p ∷ []) so.goes_on.trace_grows
          ∙ append_assoc start.trace so.trace (p ∷ []);
    };
    leads = trace_on Step start.current so.trace now.current p next.current so.leads step;
    names = λ named. named_after now.current p next.current extends.inserts name (so.names named);
  }
