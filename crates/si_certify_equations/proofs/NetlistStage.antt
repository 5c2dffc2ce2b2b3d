-- The netlist of equations beside a graph, as a stage: it has one result, and what is known of it.
use Rattle.std.proofs.Common.{◌≡◌, ℕ, ◌+◌, ◌-◌, ◌≤◌, not, false, List, [], ◌∷◌, ◌++◌, length, filter}
use Rattle.std.proofs.Common.{Option, Some, None, Result, Ok, Err, refl, sym, ap, subst, ◌∙◌, arith, inl, inr}
use Rattle.std.specs.List.{AllByRecursion}
use Rattle.std.proofs.lemmas.Bool.{cases_lt}
use Rattle.std.proofs.lemmas.List.{length-append, length-map}
use Rattle.std.proofs.lemmas.List.Elements.{recursion_from_All}
use Rattle.si_base.specs.declared.fault.TextKind.{TextKind}
use Rattle.si_base.specs.declared.graph.Signal.{Signal}
use Rattle.si_base.specs.declared.graph.SigKind.TheVariants.{Inserted}
use Rattle.si_base.specs.Codes.{CodedGraph, IsCoded, code}
use Rattle.si_base.specs.GivenGraph.{signals_of}
use Rattle.si_base.specs.Graph.{StateGraph}
use Rattle.si_base.specs.Limits.{max_signals}
use Rattle.si_base.specs.Netlist.{Netlist}
use Rattle.si_base.specs.System.{IsFor, is_inserted}
use Rattle.si_base.specs.WellFormed.{IsNetlist}
use Rattle.si_equations.specs.Equations.{Equations}
use Rattle.si_equations.specs.Whole.{AreWhole}
use Rattle.si_from_equations.specs.Beside.{all_signals, hidden_names, lists_place, netlist_beside, unsummed}
use Rattle.si_from_equations.specs.Given.{AreGiven}
use Rattle.si_from_equations.proofs.NetlistLemmas.{beside_is_netlist}
use Rattle.si_readings.specs.Laws.{AtMostOne, HasResult}
use Rattle.si_readings.proofs.StageLemmas.{passed, then_one, then_some}
use Rattle.si_refusals.specs.Refusal.{BadText, ListsDiffer, Rejected}
use Rattle.si_refusals.specs.declared.rejection.NamedRejection.TheVariants.{Products}
use Rattle.si_certify_equations.specs.Certify.{few_hidden, match_signals, netlist_of_equations, netlist_of_sums}
use Rattle.si_certify_equations.specs.declared.form.Form.{Form}
use Rattle.si_certify_equations.specs.Certify.{read_equations, spelled_in}
use Rattle.si_certify_equations.specs.Limits.{max_hidden}

-- ---- one of two values
apart : {A : Type 0} (o : Option A) (x : A) → o ≡ None → o ≡ Some x → ⊥
apart o x none some = cc

one_some : {A : Type 0} (o : Option A) (x y : A) → o ≡ Some x → o ≡ Some y → x ≡ y
one_some o x y one other = cc

-- ---- the text
pub read_one : (form : Form) (file text : List ℕ) → AtMostOne (read_equations form file text)
read_one form file text (Ok e) (Ok d) one other =
    let both = sym one ∙ other in
    let same : e ≡ d = cc in ap Ok same
read_one form file text (Ok e) (Err r) one other = (let both = sym one ∙ other.1 in cc)
read_one form file text (Err r) (Ok e) one other = (let both = sym one.1 ∙ other in cc)
read_one form file text (Err r) (Err q) one other =
    let both = sym one.1 ∙ other.1 in
    let same : one.0 ≡ other.0 = cc in
    ap Err (one.2 ∙ ap (λ (at : ℕ × TextKind). BadText file at.0 at.1) same ∙ sym other.2)

pub read_some : (form : Form) (file text : List ℕ) → HasResult (read_equations form file text)
read_some form file text = by_result (spelled_in form text) refl
  where
    by_result : (r : Result Equations (ℕ × TextKind)) → spelled_in form text ≡ r
        → HasResult (read_equations form file text)
    by_result (Ok e) is = (Ok e, is)
    by_result (Err at) is = (Err (BadText file at.0 at.1), (at, is, refl))

-- ---- the lists
match_one : (file : List ℕ) (given : List Signal) (e : Equations) → AtMostOne (match_signals file given e)
match_one file given e (Ok x) (Ok y) one other = refl
match_one file given e (Ok x) (Err r) one other = absurd (apart (lists_place given e) other.0 one other.1)
match_one file given e (Err r) (Ok y) one other = absurd (apart (lists_place given e) one.0 other one.1)
match_one file given e (Err r) (Err q) one other =
    let same = one_some (lists_place given e) one.0 other.0 one.1 other.1 in
    ap Err (one.2 ∙ ap (λ (k : ℕ). ListsDiffer file k) same ∙ sym other.2)

match_some : (file : List ℕ) (given : List Signal) (e : Equations) → HasResult (match_signals file given e)
match_some file given e = by_place (lists_place given e) refl
  where
    by_place : (place : Option ℕ) → lists_place given e ≡ place → HasResult (match_signals file given e)
    by_place None is = (Ok tt, is)
    by_place (Some place) is = (Err (ListsDiffer file place), (place, is, refl))

-- ---- the number of hidden signals
few_one : (count : ℕ) → AtMostOne (few_hidden count)
few_one count (Ok x) (Ok y) one other = refl
few_one count (Ok x) (Err r) one other = absurd (omega (arith, one, other.0))
few_one count (Err r) (Ok y) one other = absurd (omega (arith, one.0, other))
few_one count (Err r) (Err q) one other = ap Err (one.1 ∙ sym other.1)

few_some : (count : ℕ) → HasResult (few_hidden count)
few_some count = elim (cases_lt max_hidden count) [
  | inl many ↦ (Err _, (many, refl))
  | inr few ↦ (Ok tt, few)
]

-- ---- the sums
module _ (model : List ℕ) (c : CodedGraph) (e : Equations) where
  abbrev missing : Option (List ℕ)
  missing = unsummed (all_signals c.graph.signals e) e

  sums_one : AtMostOne (netlist_of_sums model c e)
  sums_one (Ok n) (Ok m) one other = ap Ok (one.1 ∙ sym other.1)
  sums_one (Ok n) (Err r) one other = absurd (apart missing other.0 one.0 other.1)
  sums_one (Err r) (Ok m) one other = absurd (apart missing one.0 other.0 one.1)
  sums_one (Err r) (Err q) one other =
      let same = one_some missing one.0 other.0 one.1 other.1 in
      ap Err (one.2 ∙ ap (λ (signal : List ℕ). Rejected (Products signal)) same ∙ sym other.2)

  sums_some : HasResult (netlist_of_sums model c e)
  sums_some = by_sum missing refl
    where
      by_sum : (found : Option (List ℕ)) → missing ≡ found → HasResult (netlist_of_sums model c e)
      by_sum None is = (Ok (netlist_beside model c e), (is, refl))
      by_sum (Some signal) is = (Err (Rejected (Products signal)), (signal, is, refl))

-- ---- the stage
pub netlist_one : (file model : List ℕ) (c : CodedGraph) (e : Equations)
    → AtMostOne (netlist_of_equations file model c e)
netlist_one file model c e = then_one _ _ (match_one file c.graph.signals e)
    (λ _ lists. then_one _ _ (few_one (length (hidden_names c.graph.signals e))) (λ _ few. sums_one model c e))

pub netlist_some : (file model : List ℕ) (c : CodedGraph) (e : Equations)
    → HasResult (netlist_of_equations file model c e)
netlist_some file model c e = then_some _ _ (match_some file c.graph.signals e)
    (λ _ lists. then_some _ _ (few_some (length (hidden_names c.graph.signals e))) (λ _ few. sums_some model c e))

pub record IsNetlistBeside (model : List ℕ) (c : CodedGraph) (e : Equations) (n : Netlist) : Type 0 where
  pub lists : lists_place c.graph.signals e ≡ None
  pub few : length (hidden_names c.graph.signals e) ≤ max_hidden
  pub summed : unsummed (all_signals c.graph.signals e) e ≡ None
  pub netlist_is : n ≡ netlist_beside model c e

pub netlist_is_beside : (file model : List ℕ) (c : CodedGraph) (e : Equations) (n : Netlist)
    → netlist_of_equations file model c e (Ok n) → IsNetlistBeside model c e n
netlist_is_beside file model c e n comes =
    let matched = passed _ _ n comes in
    let counted = passed _ _ n matched.2 in
    record { lists = matched.1; few = counted.1; summed = counted.2.0; netlist_is = counted.2.1 }

-- ---- the signals of both
-- there are no more than a netlist may have
pub all_signals_few : (model : List ℕ) (c : CodedGraph) (e : Equations) → IsCoded c → AreGiven model c.graph.signals
    → AreWhole e → lists_place c.graph.signals e ≡ None → length (all_signals c.graph.signals e) ≤ max_signals
all_signals_few model c e coded given whole lists = (beside_is_netlist model c e coded given whole lists).few

-- as many of them are hidden as stand behind those of the graph
pub hidden_count : (e : Equations) (k g : StateGraph) (all signals : List Signal) (len : ℕ) → k ≡ g
    → all ≡ all_signals k.signals e → len ≡ length all → signals ≡ k.signals
    → len - length signals ≡ length (hidden_names g.signals e)
hidden_count e k g all signals len graph_is all_is len_is signals_are =
    let hidden = hidden_names k.signals e in
    let size : length (all_signals k.signals e) ≡ length k.signals + length hidden =
    length-append k.signals (signals_of Inserted hidden) ∙ ap (λ (n : ℕ). length k.signals + n)
    (length-map hidden (λ (name : List ℕ). let x : Signal = record { name = name; kind = Inserted } in x)) in
    let count : len - length signals ≡ length hidden =
    omega (arith, len_is, ap (length {A = Signal}) all_is, ap (length {A = Signal}) signals_are, size) in
    subst (λ (h : StateGraph). len - length signals ≡ length (hidden_names h.signals e)) graph_is count

-- ---- what is known of the netlist
given_stay : (xs : List Signal) (names : List (List ℕ)) → AllByRecursion (λ x. is_inserted x.kind ≡ false) xs
    → filter (λ x. not (is_inserted x.kind)) (xs ++ signals_of Inserted names) ≡ xs
given_stay [] [] given = refl
given_stay [] (n ∷ names) given = given_stay [] names tt
given_stay (x ∷ xs) names given = rw given.0 (ap (λ (ys : List Signal). x ∷ ys) (given_stay xs names given.1))

module _ (model : List ℕ) (c : CodedGraph) (e : Equations) (n : Netlist) (is : IsNetlistBeside model c e n) where
  abbrev hidden : List (List ℕ)
  hidden = hidden_names c.graph.signals e

  pub beside_for : AreGiven model c.graph.signals → IsFor c n
  beside_for given = subst (IsFor c) (sym is.netlist_is) (record {
    signals = given_stay c.graph.signals hidden
        (recursion_from_All (λ (x : Signal). is_inserted x.kind ≡ false) c.graph.signals given.given);
    values = λ a within. refl;
  })

  pub beside_netlist : IsCoded c → AreGiven model c.graph.signals → AreWhole e → IsNetlist n
  beside_netlist coded given whole =
      subst IsNetlist (sym is.netlist_is) (beside_is_netlist model c e coded given whole is.lists)

  pub beside_start : n.start ≡ code c c.graph.start
  beside_start = ap (λ (m : Netlist). m.start) is.netlist_is

  beside_size : length n.signals ≡ length c.graph.signals + length hidden
  beside_size = ap (λ (m : Netlist). length m.signals) is.netlist_is
      ∙ length-append c.graph.signals (signals_of Inserted hidden)
      ∙ ap (λ (k : ℕ). length c.graph.signals + k)
      (length-map hidden (λ (name : List ℕ). let x : Signal = record { name = name; kind = Inserted } in x))

  pub beside_few : length n.signals ≤ length c.graph.signals + max_hidden
  beside_few = omega (arith, beside_size, is.few)

  pub beside_more : length c.graph.signals ≤ length n.signals
  beside_more = omega (arith, beside_size)

-- whichever form of the graph was looked at
pub netlist_over : (file model : List ℕ) (k p : CodedGraph) (e : Equations) (n : Netlist) → k ≡ p
    → netlist_of_equations file model k e (Ok n) → netlist_of_equations file model p e (Ok n)
netlist_over file model k p e n same comes =
    subst (λ (c : CodedGraph). netlist_of_equations file model c e (Ok n)) same comes
