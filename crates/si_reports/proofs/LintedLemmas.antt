-- A text gives one graph with one list of states that it drops, of which one text is told.
use Rattle.std.proofs.Common.{◌≡◌, ℕ, List, Ok, Err, Option, None, Some, ap, ap₂, refl, sym, subst, ◌∙◌}
use Rattle.si_base.specs.declared.fault.TextKind.{TextKind}
use Rattle.si_base.specs.GivenGraph.{Sg}
use Rattle.si_breaches.proofs.BreachTexts.{one_breach_text, some_breach_text}
use Rattle.si_lint.proofs.LintTexts.{one_lint_text, some_lint_text}
use Rattle.si_pictures.specs.Seen.{graph_of}
use Rattle.si_pictures.specs.declared.seen.Seen.{Seen}
use Rattle.si_pictures.specs.declared.seen.Seen.TheVariants.{Proper, Coded, Uncoded}
use Rattle.si_readings.proofs.SeenGraphLemmas.{one_seen, some_seen}
use Rattle.si_readings.proofs.StageLemmas.{one_fault, shows_one, shows_some, then_one, then_some}
use Rattle.si_readings.specs.Checks.{IsNamed}
use Rattle.si_readings.specs.Laws.{AtMostOne, HasResult}
use Rattle.si_readings.specs.SeenGraph.{IsSeen}
use Rattle.si_refusals.specs.Refusal.{BadText}
use Rattle.si_sg.proofs.GivenExists.{some_given, some_dropped}
use Rattle.si_sg.proofs.UniqueLemmas.{given_unique, dropped_unique}
use Rattle.si_sg.specs.GraphText.{graph_fault}
use Rattle.si_base.specs.Codes.{IsConnected}
use Rattle.si_base.specs.Graph.{StateGraph, IsGraph}
use Rattle.si_reports.specs.Linted.{Whole, whole_in, IsTold, told}

-- ---- of a text
pub whole_one : (file text : List ℕ) → AtMostOne (whole_in file text)
whole_one file text (Ok a) (Ok b) one other =
    let same = ap₂ (λ (g : Sg) (names : List (List ℕ)). let w : Whole = record { given = g; dropped = names } in w)
    (given_unique text a.given b.given one.0 other.0) (dropped_unique text a.dropped b.dropped one.1 other.1) in
    ap Ok same
whole_one file text (Ok a) (Err r) one other = (let same = sym one.0.no_fault ∙ other.1 in cc)
whole_one file text (Err r) (Ok b) one other = (let same = sym one.1 ∙ other.0.no_fault in cc)
whole_one file text (Err r) (Err q) one other = ap Err (one_fault file (graph_fault text) r q one other)

pub whole_some : (file text : List ℕ) → HasResult (whole_in file text)
whole_some file text = by (graph_fault text) refl
  where
    by : (fault : Option (ℕ × TextKind)) → graph_fault text ≡ fault → HasResult (whole_in file text)
    by None none = (
        let given = some_given text none in
        let dropped = some_dropped text none in
        (Ok (record { given = given.0; dropped = dropped.0 }), (given.1, dropped.1)))
    by (Some at) is = (Err (BadText file at.0 at.1), (at, is, refl))

-- ---- of a graph
-- what was read is the graph
pub seen_graph : (g : StateGraph) (seen : Seen) → IsSeen g seen → graph_of seen ≡ g
seen_graph g (Proper c) is = is.same_graph
seen_graph g (Coded c b) is = is.1
seen_graph g (Uncoded h b) is = is.1

one_told : (g : StateGraph) (states dropped : List (List ℕ)) (seen : Seen) → IsSeen g seen → (x y : List ℕ)
    → IsTold states dropped seen x → IsTold states dropped seen y → x ≡ y
one_told g states dropped (Proper c) is x y one other = one_lint_text c states dropped x y is.coded_is one other
one_told g states dropped (Coded c b) is x y one other = one_breach_text c.graph states dropped x y one other
one_told g states dropped (Uncoded h b) is x y one other = one_breach_text h states dropped x y one other

pub told_one : (states dropped : List (List ℕ)) (g : StateGraph) → AtMostOne (told states dropped g)
told_one states dropped g =
    then_one _ _ (shows_one _ (one_seen g)) (λ seen is. shows_one _ (one_told g states dropped seen is))

some_told : (g : StateGraph) (states dropped : List (List ℕ)) → IsNamed g states → (seen : Seen) → IsSeen g seen
    → (text : List ℕ) × IsTold states dropped seen text
some_told g states dropped named (Proper c) is = some_lint_text c states dropped is.coded_is
some_told g states dropped named (Coded c b) is =
    some_breach_text c.graph states dropped is.0.graph_is is.0.connected
some_told g states dropped named (Uncoded h b) is = some_breach_text h states dropped
    (subst IsGraph (sym is.1) named.is_graph) (subst IsConnected (sym is.1) named.connected)

pub told_some : (states dropped : List (List ℕ)) (g : StateGraph) → IsNamed g states
    → HasResult (told states dropped g)
told_some states dropped g named =
    then_some _ _ (shows_some _ (some_seen g named.is_graph named.connected))
    (λ seen is. shows_some _ (some_told g states dropped named seen is))
