-- The first start values with which a lineage fits: there is one answer, and one alone.
use Rattle.std.proofs.Common.{◌≡◌, ℕ, zero, suc, ◌+◌, ◌<◌, ◌≤◌, ◌^◌, ◌⊎◌, List, length}
use Rattle.std.proofs.Common.{Result, Ok, Err, IfErr, refl, sym, ap, subst, ◌∙◌, arith, inl, inr}
use Rattle.std.proofs.lemmas.Bool.{cases_lt, cases_order}
use Rattle.std.proofs.lemmas.Nat.{pow_pos}
use Rattle.si_base.specs.declared.graph.Signal.{Signal}
use Rattle.si_base.specs.Codes.{CodedGraph, IsCoded, code}
use Rattle.si_base.specs.Graph.{StateGraph}
use Rattle.si_base.specs.Netlist.{Netlist}
use Rattle.si_base.specs.NetlistText.{netlist_text}
use Rattle.si_base.specs.Proper.{IsProper}
use Rattle.si_base.specs.System.{IsFor}
use Rattle.si_base.specs.WellFormed.{IsNetlist}
use Rattle.si_base.proofs.StepCodes.{code_fits}
use Rattle.si_certified.specs.Bare.{with_lines}
use Rattle.si_circuit.specs.Spelling.{insertions_of}
use Rattle.si_from_equations.specs.Beside.{started}
use Rattle.si_from_equations.proofs.NetlistLemmas.{started_is_for, started_is_netlist}
use Rattle.si_readings.specs.Laws.{AtMostOne, HasResult}
use Rattle.si_refusals.specs.Refusal.{TextRefusal}
use Rattle.si_refusals.specs.declared.rejection.NamedRejection.{NamedRejection}
use Rattle.si_certify.specs.Certify.{IsSpelled, IsUnfound, spelling}
use Rattle.si_certify.proofs.CertifyLemmas.{spelling_one, spelling_some}
use Rattle.si_certify_equations.specs.Starts.{FitsNone, IsStarted, spelled_first, started_on, starts}

pub start_small : (c : CodedGraph) (n : Netlist) → IsCoded c → n.start ≡ code c c.graph.start
    → n.start < 2 ^ length c.graph.signals
start_small c n is start = subst (λ (k : ℕ). k < 2 ^ length c.graph.signals) (sym start)
    (code_fits c c.graph.start is is.graph_is.starts)

-- the netlist with other start values, whatever form of the graph was looked at
pub started_is : (c : CodedGraph) (n m : Netlist) (values : ℕ) (k : CodedGraph) (g : StateGraph)
    (signals : List Signal) → k ≡ c → g ≡ k.graph → signals ≡ g.signals → m ≡ started (length signals) values n
    → m ≡ started_on c n values
started_is c n m values k g signals coded_is graph_is signals_are netlist_is =
    let same : signals ≡ c.graph.signals = signals_are ∙ ap (λ (h : StateGraph). h.signals) graph_is
    ∙ ap (λ (d : CodedGraph). d.graph.signals) coded_is in
    netlist_is ∙ ap (λ (xs : List Signal). started (length xs) values n) same

pub copy_is_for : (c copy : CodedGraph) (n m : Netlist) (values : ℕ) → copy ≡ c → m ≡ started_on c n values
    → IsFor c n → IsFor copy m
copy_is_for c copy n m values copied is fits = subst (λ (d : CodedGraph). IsFor d m) (sym copied)
    (subst (IsFor c) (sym is) (started_is_for c n values fits))

-- ---- one more number
module _ (c : CodedGraph) (n : Netlist) where
  abbrev pub FindsNone : ℕ → Type 0
  FindsNone k = (values : ℕ) → values < k → FitsNone c (started_on c n values)

  one_more : (k : ℕ) → FindsNone k → FitsNone c (started_on c n k) → FindsNone (suc k)
  one_more k none here values below = elim (cases_lt values k) [
    | inl less ↦ none values less
    | inr most ↦
        let same : k ≡ values = omega (arith, below, most) in
        subst (λ (v : ℕ). FitsNone c (started_on c n v)) same here
  ]

  pub none_after : (k : ℕ) → FindsNone k → FitsNone c (started_on c n k) → FindsNone (k + 1)
  none_after k none here values below = one_more k none here values (omega (arith, below))

-- what is told of a refusal
pub refused : {A P : Type 0} (r : Result A NamedRejection) (reason : NamedRejection) → r ≡ Err reason
    → IfErr r (λ x. P) → P
refused {A} {P} r reason is told = subst (λ (o : Result A NamedRejection). IfErr o (λ x. P)) is told

module _ (states : List (List ℕ)) (c : CodedGraph) (n : Netlist) (is : IsCoded c) (proper : IsProper c.graph) where
  one_at : (values : ℕ) → AtMostOne (spelling states c (started_on c n values))
  one_at values = spelling_one states c (started_on c n values) is proper

  not_fitting : (values : ℕ) (output : List ℕ) → IsSpelled states c (started_on c n values) output
      → FitsNone c (started_on c n values) → ⊥
  not_fitting values output told none = none told.lineage told.fits

  pub unfound_fits_none : (values : ℕ) (r : TextRefusal) → IsUnfound states c (started_on c n values) r
      → FitsNone c (started_on c n values)
  unfound_fits_none values r unfound l fits =
      let output = netlist_text (with_lines (insertions_of states l) (started_on c n values)) in
      let told : IsSpelled states c (started_on c n values) output =
      record { lineage = l; fits = fits; output_is = refl } in
      let same = one_at values (Ok output) (Err r) told unfound in cc

  pub copy_fits_none : (copy : CodedGraph) (m : Netlist) (values : ℕ) (r : TextRefusal) → copy ≡ c
      → m ≡ started_on c n values → IsUnfound states copy m r → FitsNone c (started_on c n values)
  copy_fits_none copy m values r copied same unfound = unfound_fits_none values r
      (subst (λ (d : CodedGraph). IsUnfound states d (started_on c n values) r) copied
      (subst (λ (x : Netlist). IsUnfound states copy x r) same unfound))

  pub starts_one : AtMostOne (spelled_first states c n)
  starts_one (Ok a) (Ok b) one other = elim (cases_order one.values other.values) [
    | inl same ↦ one_at other.values (Ok a) (Ok b)
        (subst (λ (k : ℕ). IsSpelled states c (started_on c n k) a) same one.spelled) other.spelled
    | inr (inl less) ↦ absurd (not_fitting one.values a one.spelled (other.first one.values less))
    | inr (inr more) ↦ absurd (not_fitting other.values b other.spelled (one.first other.values more))
  ]
  starts_one (Ok a) (Err r) one other = absurd (not_fitting one.values a one.spelled (other.none one.values one.within))
  starts_one (Err r) (Ok b) one other = absurd (not_fitting other.values b other.spelled (one.none other.values other.within))
  starts_one (Err r) (Err q) one other = one_at 0 (Err r) (Err q) one.unfound other.unfound

  -- ---- an answer
  module _ (netlist : IsNetlist n) (fits : IsFor c n) (few : length c.graph.signals ≤ length n.signals)
      (start : n.start ≡ code c c.graph.start) where
    at_values : (values : ℕ) → values < starts c n → HasResult (spelling states c (started_on c n values))
    at_values values within = spelling_some states c (started_on c n values) is proper
        (started_is_netlist (length c.graph.signals) values n netlist few
        (start_small c n is start) within)
        (started_is_for c n values fits)

    abbrev Finds : Type 0
    Finds = (output : List ℕ) × IsStarted states c n output

    at_next : (k : ℕ) → k < starts c n → FindsNone c n k → HasResult (spelling states c (started_on c n k))
        → Finds ⊎ FindsNone c n (suc k)
    at_next k within none (Ok output, spelled) =
        inl (output, record { values = k; within = within; first = none; spelled = spelled })
    at_next k within none (Err r, unfound) = inr (one_more c n k none (unfound_fits_none k r unfound))

    up_to : (k : ℕ) → k ≤ starts c n → Finds ⊎ FindsNone c n k
    up_to zero few_values = inr (λ values below. absurd (omega (arith, below)))
    up_to (suc k) few_values = elim (up_to k (omega (arith, few_values))) [
      | inl found ↦ inl found
      | inr none ↦ at_next k (omega (arith, few_values)) none (at_values k (omega (arith, few_values)))
    ]

    none_at_all : FindsNone c n (starts c n) → HasResult (spelling states c (started_on c n 0))
        → HasResult (spelled_first states c n)
    none_at_all none (Ok output, spelled) = absurd (not_fitting 0 output spelled (none 0 (pow_pos _)))
    none_at_all none (Err r, unfound) = (Err r, record { none = none; unfound = unfound })

    pub starts_some : HasResult (spelled_first states c n)
    starts_some = elim (up_to (starts c n) (omega arith)) [
      | inl found ↦ (Ok found.0, found.1)
      | inr none ↦ none_at_all none (at_values 0 (pow_pos _))
    ]
