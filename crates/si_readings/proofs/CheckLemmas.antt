-- Each stage has one result at most.
use Rattle.std.proofs.Common.{◌≡◌, ℕ, List, Ok, Err, refl, sym, ap, ap₂, subst, ◌∙◌, arith}
use Rattle.std.proofs.lemmas.List.{same_lists, get_or_default}
use Rattle.si_base.specs.Bits.{bit}
use Rattle.si_base.specs.Codes.{CodedGraph, IsCoded, IsConsistent, code}
use Rattle.si_base.specs.Graph.{StateGraph}
use Rattle.si_base.specs.Netlist.{Netlist}
use Rattle.si_base.proofs.CodesUnique.{code_unique}
use Rattle.si_sg.proofs.UniqueLemmas.{given_unique}
use Rattle.si_system.specs.Lists.{StartAlike}
use Rattle.si_system.proofs.UniqueOutcome.{one_difference, one_unlike, for_not_different, same_not_unlike}
use Rattle.si_sg.specs.GraphText.{graph_fault}
use Rattle.si_readings.specs.Checks.{proper, match_graphs, match_lists}
use Rattle.si_readings.proofs.CheckBreaches.{breach_improper, one_shown}
use Rattle.si_readings.proofs.StageLemmas.{one_fault}
use Rattle.si_readings.specs.Laws.{AtMostOne}
use Rattle.si_readings.specs.Readings.{graph_in}
use Rattle.si_refusals.specs.Ending.{Ending, MayStop}
use Rattle.si_refusals.specs.Refusal.{ListsDiffer, Improper}

pub graph_one : (file text : List ℕ) → AtMostOne (graph_in file text)
graph_one file text (Ok a) (Ok b) one other = ap Ok (given_unique text a b one other)
graph_one file text (Ok a) (Err r) one other = (let same = sym one.no_fault ∙ other.1 in cc)
graph_one file text (Err r) (Ok b) one other = (let same = sym one.1 ∙ other.no_fault in cc)
graph_one file text (Err r) (Err q) one other = ap Err (one_fault file (graph_fault text) r q one other)

-- a graph has one list of codes
pub coded_unique : (c d : CodedGraph) → IsCoded c → IsCoded d → c.graph ≡ d.graph → c ≡ d
coded_unique c d is also same =
    let states : c.graph.states ≡ d.graph.states = ap (λ (g : StateGraph). g.states) same in
    let is_count = is.count in
    let also_count = also.count in
    let make : StateGraph → List ℕ → CodedGraph = λ g codes. record { graph = g; codes = codes } in
    let codes : c.codes ≡ d.codes = same_lists c.codes d.codes (omega arith)
    (λ s e within.
    get_or_default c.codes s e 0 within ∙ code_unique c d s is also same (omega arith) ∙ get_or_default d.codes s 0 e
    (omega arith)) in
    ap₂ make same codes

-- the codes of a graph are values of its signals
pub coded_consistent : (c : CodedGraph) → IsCoded c → IsConsistent c.graph
coded_consistent c is a within = ((λ s. bit (code c s) a), is.values a within)

pub proper_one : (graph : StateGraph) (states : List (List ℕ)) → AtMostOne (proper graph states)
proper_one graph states (Ok c) (Ok d) one other =
    ap Ok (coded_unique c d one.coded_is other.coded_is (one.same_graph ∙ sym other.same_graph))
proper_one graph states (Ok c) (Err r) one other = absurd (breach_improper graph states other.0 other.1 one.proper)
proper_one graph states (Err r) (Ok d) one other = absurd (breach_improper graph states one.0 one.1 other.proper)
proper_one graph states (Err r) (Err q) one other =
    ap Err (one.2 ∙ ap Improper (one_shown graph states one.0 other.0 one.1 other.1) ∙ sym other.2)

pub match_lists_one : (file : List ℕ) (coded : CodedGraph) (netlist : Netlist)
    → AtMostOne (match_lists file coded netlist)
match_lists_one file coded netlist (Ok x) (Ok y) one other = refl
match_lists_one file coded netlist (Ok x) (Err r) one other =
    absurd (for_not_different coded netlist other.0 one other.1)
match_lists_one file coded netlist (Err r) (Ok x) one other =
    absurd (for_not_different coded netlist one.0 other one.1)
match_lists_one file coded netlist (Err r) (Err q) one other =
    ap Err (one.2 ∙ ap (λ (k : ℕ). ListsDiffer file k) (one_difference coded netlist one.0 other.0 one.1 other.1)
    ∙ sym other.2)

pub match_graphs_one : (file : List ℕ) (one other : CodedGraph) → AtMostOne (match_graphs file one other)
match_graphs_one file one other (Ok x) (Ok y) first second = refl
match_graphs_one file one other (Ok x) (Err r) first second =
    absurd (same_not_unlike one other second.0 first second.1)
match_graphs_one file one other (Err r) (Ok x) first second =
    absurd (same_not_unlike one other first.0 second first.1)
match_graphs_one file one other (Err r) (Err q) first second =
    ap Err (first.2 ∙ ap (λ (k : ℕ). ListsDiffer file k) (one_unlike one other first.0 second.0 first.1 second.1)
    ∙ sym second.2)

-- whichever form of the graph was looked at
pub match_over : (file : List ℕ) (k p : CodedGraph) (net : Netlist) (e : Ending) → k ≡ p
    → MayStop (match_lists file k net) e → MayStop (match_lists file p net) e
match_over file k p net e same may = subst (λ (c : CodedGraph). MayStop (match_lists file c net) e) same may

pub start_alike_over : (k p l q : CodedGraph) → k ≡ p → l ≡ q → StartAlike k l → StartAlike p q
start_alike_over k p l q same also alike =
    subst (λ (d : CodedGraph). StartAlike p d) also (subst (λ (c : CodedGraph). StartAlike c l) same alike)

pub graphs_over : (file : List ℕ) (k p l q : CodedGraph) (e : Ending) → k ≡ p → l ≡ q
    → MayStop (match_graphs file k l) e → MayStop (match_graphs file p q) e
graphs_over file k p l q e same also may =
    subst (λ (d : CodedGraph). MayStop (match_graphs file p d) e) also
    (subst (λ (c : CodedGraph). MayStop (match_graphs file c l) e) same may)
