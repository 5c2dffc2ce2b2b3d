-- What one more insertion adds to a lineage, over what the calls of its body hand out.
use Rattle.std.proofs.Common.{◌≡◌, ℕ, ◌+◌, ◌/◌, ◌%◌, ◌^◌, ◌==◌, ◌<◌, ◌≤◌, List, [], ◌∷◌, ◌++◌, length, map, slice_index}
use Rattle.std.proofs.Common.{All, sym, ap, ap₂, subst, subst₂, ◌∙◌, arith}
use Rattle.std.proofs.lemmas.Nat.{pow-add}
use Rattle.std.proofs.lemmas.Nat.Bits.{bit_at_above, bit_at-zero}
use Rattle.std.proofs.Math.Nat.{div-div-eq-div-mul}
use Rattle.si_base.specs.Bits.{bit}
use Rattle.si_base.specs.Graph.{StateGraph}
use Rattle.si_base.specs.declared.graph.Signal.{Signal}
use Rattle.si_base.specs.Limits.{max_signals}
use Rattle.si_base.specs.Codes.{CodedGraph, IsCoded, code}
use Rattle.si_base.proofs.RightGateLemmas.{code_fits}
use Rattle.si_insert.specs.declared.partition.Class.{Class}
use Rattle.si_insert.specs.declared.lineage.TraceStep.{TraceStep}
use Rattle.si_insert.specs.Partition.{IsLawful}
use Rattle.si_insert.specs.Insertion.{Copy}
use Rattle.si_insert.specs.Accepted.{IsAccepted}
use Rattle.si_insert.specs.GraphOfCopies.{copies_of}
use Rattle.si_insert.specs.Loops.Applied.{IsApplied}
use Rattle.si_insert.specs.Lineage.{Current, Inserts, IsLineage}
use Rattle.si_insert.proofs.StateCopyPlaces.{copies_within}
use Rattle.si_insert.proofs.OneInsertion.{lineage_on}

abbrev step : List ℕ → List Class → TraceStep
step name classes = record { name = name; partition = classes }

-- each copy is of a state that has an origin
pub have_origins : (g : StateGraph) (classes : List Class) (copies : List Copy) (origins : List ℕ)
    → IsLawful g classes → copies ≡ copies_of classes → length origins ≡ g.states
    → All (λ x. x.state < length origins) copies
have_origins g classes copies origins lawful are count =
    let P : List Copy → Type 0 = λ xs. All (λ x. x.state < length origins) xs in
    subst P (sym are) (copies_within classes (length origins) (lawful.count ∙ sym count))

-- the graph that was made and the origins of the copies are what the insertion makes
pub inserts : (v : Current) (name : List ℕ) (classes : List Class) (h : CodedGraph) (next : List ℕ) (seen : List Copy)
    → IsAccepted v.coded.graph classes → IsApplied v.coded classes name h
    → next ≡ map (λ x. slice_index v.origins x.state) seen → seen ≡ copies_of classes
    → Inserts v (step name classes) (record { coded = h; origins = next })
inserts v name classes h next seen accepted is next_is seen_is =
    let origins : next ≡ map (λ x. slice_index v.origins x.state) (copies_of classes) =
    next_is ∙ ap (map (λ (x : Copy). slice_index v.origins x.state)) seen_is in
    let make : List ℕ → List ℕ → Current =
    λ codes from. record { coded = record { graph = h.graph; codes = codes }; origins = from } in
    record {
      accepted = accepted;
      copies = copies_of classes;
      graph = h.graph;
      insertion = is.insertion;
      limits = is.coded.graph_is;
      makes = ap₂ make is.codes origins;
    }

-- what the body reads and pushes
pub record Pushed (given : CodedGraph) (old : List TraceStep) (v : Current) (name : List ℕ) (classes : List Class)
    (u : Current) (trace : List TraceStep) : Type 0 where
  pub inserts : Inserts v (step name classes) u
  pub trace_is : trace ≡ old ++ step name classes ∷ []
  pub lineage : IsLineage given trace u

pub pushed : (given : CodedGraph) (old : List TraceStep) (c : CodedGraph) (origins read name : List ℕ)
    (classes moved : List Class) (u : Current) (trace : List TraceStep)
    → IsLineage given old (record { coded = c; origins = origins }) → read ≡ origins
    → Inserts (record { coded = c; origins = read }) (step name classes) u → moved ≡ classes
    → trace ≡ old ++ step name moved ∷ [] → Pushed given old (record { coded = c; origins = origins }) name classes u
    trace
pushed given old c origins read name classes moved u trace lineage read_is inserts moved_is more =
    let v : Current = record { coded = c; origins = origins } in
    let I : List ℕ → Type 0 = λ from. Inserts (record { coded = c; origins = from }) (step name classes) u in
    let grows : trace ≡ old ++ step name classes ∷ [] =
    more ∙ ap (λ (p : List Class). old ++ step name p ∷ []) moved_is in
    let one_more : Inserts v (step name classes) u = subst I read_is inserts in
    let P : List TraceStep → Type 0 = λ t. IsLineage given t u in
    record {
      inserts = one_more;
      trace_is = grows;
      lineage = subst P (sym grows) (lineage_on given old v (step name classes) u lineage one_more);
    }

-- ---- the bits from the n-th on
pub later_bit : (x n k : ℕ) → bit (x / 2 ^ n) k ≡ bit x (n + k)
later_bit x n k =
    let same : x / 2 ^ n / 2 ^ k ≡ x / 2 ^ (n + k) =
    div-div-eq-div-mul x (2 ^ n) (2 ^ k) ∙ ap (λ (m : ℕ). x / m) (sym (pow-add 2 n k)) in
    ap (λ (m : ℕ). m % 2 == 1) same

pub no_later_bit : (x signals n k : ℕ) → x < 2 ^ signals → signals ≤ n → bit 0 k ≡ bit x (n + k)
no_later_bit x signals n k small above =
    ap (λ (b : ℕ). b == 1) (bit_at-zero k ∙ sym (bit_at_above x signals (n + k) small (omega (arith, above))))

pub code_small : (c : CodedGraph) (g : StateGraph) (names : List Signal) (value s : ℕ) → IsCoded c → g ≡ c.graph
    → names ≡ g.signals → value ≡ code c s → s < c.graph.states → value < 2 ^ length names
code_small c g names value s is same also at there =
    let P : ℕ → List Signal → Type 0 = λ v xs. v < 2 ^ length xs in
    subst₂ P (sym at) (sym (also ∙ ap (λ (h : StateGraph). h.signals) same)) (code_fits c s is there)

pub few_now : (c : CodedGraph) (g : StateGraph) (names : List Signal) → IsCoded c → g ≡ c.graph → names ≡ g.signals
    → length names ≤ max_signals
few_now c g names is same also =
    let size = ap (length {A = Signal}) (also ∙ ap (λ (h : StateGraph). h.signals) same) in
    omega (arith, size, is.graph_is.few_signals)
