-- What is offered: lineages of the graph with their netlists, and what the rule comes to.
use Rattle.std.proofs.Common.{◌≡◌, ℕ, ◌≤◌, ◌⊎◌, IfSome, inl, inr, List, ◌++◌, Option, Some, None, IsTrue, refl, sym, ap, subst, ◌∙◌, arith}
use Rattle.si_base.specs.Behaviour.{Implements}
use Rattle.si_base.specs.Codes.{CodedGraph, IsCoded}
use Rattle.si_base.specs.Netlist.{Netlist}
use Rattle.si_base.specs.Proper.{HasNoConflict}
use Rattle.si_base.specs.WellFormed.{IsNetlist}
use Rattle.si_base.specs.Words.{is_signal_name}
use Rattle.si_circuit.specs.Circuits.{LineageNetlist, circuit_of}
use Rattle.si_circuit.specs.declared.style.Style.{Style}
use Rattle.si_insert.specs.declared.lineage.TraceStep.{TraceStep}
use Rattle.si_insert.specs.Lineage.{Current, Extends, ExtendsBy, History, given_current, given_history}
use Rattle.si_insert.proofs.LineageTraceLength.{named_after}
use Rattle.si_resolve.specs.Trace.{EndsResolved, EndsUnresolved}
use Rattle.si_resolve.proofs.TraceLemmas.{ends_exclude, resolved_is_unique}
use Rattle.si_suggest.specs.Literals.{literals_of}
use Rattle.si_suggest.specs.Loops.Offers.{AreNamed, IsNamedLineage, IsNoHeavierThan}
use Rattle.si_suggest.specs.Suggested.{IsNoHeavier, IsOffered, IsSuggested}

pub named_next : (l : History) (p : TraceStep) (m : History) → Extends l p m → IsTrue (is_signal_name p.name)
    → AreNamed l.current.coded.graph.signals → IsNamedLineage l.given m
named_next l p m extends name named = record {
  given_is = extends.given_stays;
  named = named_after l.current p m.current extends.inserts name named;
}

-- ---- what is offered
module _ (given : CodedGraph) (style : Style) (model : List ℕ) (states : List (List ℕ)) where
  pub offered : (l r : History) (x : LineageNetlist) → l.given ≡ given → r ≡ l → HasNoConflict r.current.coded
      → x.lineage ≡ r → x.netlist ≡ circuit_of style model states r → IsNetlist x.netlist
      → Implements x.netlist r.given.graph → IsOffered given style model states x
  offered l r x from same free made netlist_is is_netlist implements =
      let given_is : r.given ≡ given = ap (λ (h : History). h.given) same ∙ from in
      record {
        given_is = ap (λ (h : History). h.given) made ∙ given_is;
        free = subst (λ (h : History). HasNoConflict h.current.coded) (sym made) free;
        netlist_is = netlist_is ∙ ap (λ (h : History). circuit_of style model states h) (sym made);
        is_netlist = is_netlist;
        implements = subst (λ (c : CodedGraph). Implements x.netlist c.graph) given_is implements;
      }

  -- ---- the rule
  same_end : (l : History) (trace : List TraceStep) (w : Current) → l.given ≡ given → l.trace ≡ trace → l.current ≡ w
      → l ≡ record { given = given; trace = trace; current = w }
  same_end l trace w from is at = λ i. record { given = from i; trace = is i; current = at i }

  pub rule_done : (start l : History) (trace : List TraceStep) (x : LineageNetlist) → start ≡ given_history given
      → IsCoded given → ExtendsBy start trace l → EndsResolved start.current trace l.current
      → IsOffered given style model states x → x.lineage ≡ l → IsSuggested given style model states x
  rule_done start l trace x starts coded on ends offer made = record { offered = offer; light = light }
    where
      from : l.given ≡ given
      from = on.given_stays ∙ ap (λ (h : History). h.given) starts

      is : l.trace ≡ trace
      is = on.trace_grows ∙ ap (λ (h : History). h.trace ++ trace) starts

      resolved : EndsResolved (given_current given) trace l.current
      resolved = subst (λ (h : History). EndsResolved h.current trace l.current) starts ends

      light : IsNoHeavier given style model states x.netlist
      light other w also =
          let same = resolved_is_unique (given_current given) trace other l.current w coded resolved also in
          let netlist : x.netlist
          ≡ circuit_of style model states (record { given = given; trace = other; current = w }) =
          offer.netlist_is ∙ ap (λ (h : History). circuit_of style model states h)
          (made ∙ same_end l other w from (is ∙ same.0) same.1) in
          omega (arith, ap literals_of netlist)

  -- where the rule is stuck, nothing is lighter than its netlist: it has none
  pub light_if_stuck : (l : History) (pair : ℕ × ℕ) (n : Netlist) → IsCoded given
      → EndsUnresolved (given_current given) l.trace l.current pair → IsNoHeavier given style model states n
  light_if_stuck l pair n coded stuck other w resolved =
      absurd (ends_exclude (given_current given) other l.trace w l.current pair coded resolved stuck)

-- ---- the lightest
pub same_weight : (first : Option LineageNetlist) → IsNoHeavierThan first first
same_weight None = tt
same_weight (Some x) = (x, refl, omega arith)

pub no_heavier_on : (first best next : Option LineageNetlist) → IsNoHeavierThan first best → IsNoHeavierThan best next
    → IsNoHeavierThan first next
no_heavier_on None best next one other = tt
no_heavier_on (Some x) best next (y, is, less) other =
    let lighter = subst (λ (o : Option LineageNetlist). IsNoHeavierThan o next) is other in
    (lighter.0, lighter.1, omega (arith, less, lighter.2))

pub one_of : (P : LineageNetlist → Type 0) (one other o : Option LineageNetlist) → (o ≡ one) ⊎ (o ≡ other)
    → IfSome one P → IfSome other P → IfSome o P
one_of P one other o (inl same) first second = subst (λ (x : Option LineageNetlist). IfSome x P) (sym same) first
one_of P one other o (inr same) first second = subst (λ (x : Option LineageNetlist). IfSome x P) (sym same) second
