-- The graph that is made is the graph of handshakes.
use Rattle.std.proofs.Common.{◌≡◌, ℕ, ◌+◌, ◌*◌, ◌^◌, ◌<◌, ◌↔◌, List, [], ◌++◌, length, All, Contains, codes, sym, ap}
use Rattle.std.proofs.Common.{subst, ◌∙◌, arith}
use Rattle.si_base.specs.declared.ids.Event.{Event}
use Rattle.si_base.specs.declared.graph.Edge.{Edge}
use Rattle.si_base.specs.declared.graph.Signal.{Signal}
use Rattle.si_base.specs.declared.graph.SigKind.TheVariants.{Input, Output}
use Rattle.si_base.specs.Graph.{StateGraph, Step, IsMadeOf, arc}
use Rattle.si_base.specs.GivenGraph.{signals_of}
use Rattle.si_handshakes.specs.Handshakes.{numbered, GoesOn, IsHandshakes}
use Rattle.si_handshakes.proofs.NamesNumbered.{both_kinds, twice_as_many}
use Rattle.si_handshakes.proofs.ArcsMade.{made, all_steps, made_steps, IsStep}

pub signals_are : (n : ℕ) (none inputs both : List Signal) → none ≡ []
    → inputs ≡ none ++ signals_of Input (numbered (codes "r") n)
    → both ≡ inputs ++ signals_of Output (numbered (codes "a") n) → both ≡ both_kinds n
signals_are n none inputs both empty first second =
    let outputs : List Signal = signals_of Output (numbered (codes "a") n) in
    let named : List Signal = signals_of Input (numbered (codes "r") n) in
    second ∙ ap (λ (l : List Signal). l ++ outputs) (first ∙ ap (λ (l : List Signal). l ++ named) empty)

pub in_range : (n states : ℕ) (signals : List Signal) (edges : List Edge) → signals ≡ both_kinds n → states ≡ 4 ^ n
    → edges ≡ made n (n * states)
    → All (λ a. (a.from < states) × (a.event.sig < length signals) × (a.to < states)) edges
in_range n states signals edges signals_is count edges_is k d within =
    let P : Edge → Type 0 = λ a. (a.from < 4 ^ n) × (a.event.sig < n + n) × (a.to < 4 ^ n) in
    let list : edges ≡ made n (n * 4 ^ n) = edges_is ∙ ap (λ s. made n (n * s)) count in
    let each : All (IsStep n) edges = subst (All (IsStep n)) (sym list) (all_steps n) in
    let step = each k d within in (
      omega (arith, step.from, count),
      omega (arith, step.sig, ap length signals_is, twice_as_many n),
      omega (arith, step.to, count),
    )

pub made_handshakes : (n states : ℕ) (model : List ℕ) (signals : List Signal) (edges : List Edge) (g h : StateGraph)
    (names : List (List ℕ)) → model ≡ codes "exercise" → signals ≡ both_kinds n → states ≡ 4 ^ n
    → edges ≡ made n (n * states) → IsMadeOf signals states edges 0 g → g ≡ h → names ≡ numbered (codes "s") states
    → IsHandshakes n (record { model = model; graph = h; states = names })
made_handshakes n states model signals edges g h names model_is signals_is count edges_is made_of same names_is =
    subst (λ x. IsHandshakes n (record { model = model; graph = x; states = names })) same (record {
      model = model_is;
      graph = made_of.graph;
      signals = made_of.signals_are ∙ signals_is;
      count = made_of.states_are ∙ count;
      start = made_of.start_is;
      steps = λ m e t. steps m e t;
      states = names_is ∙ ap (numbered (codes "s")) count;
    })
  where
    list : edges ≡ made n (n * 4 ^ n)
    list = edges_is ∙ ap (λ s. made n (n * s)) count

    steps : (m : ℕ) (e : Event) (t : ℕ) → Step g m e t ↔ ((m < 4 ^ n) × (t < 4 ^ n) × GoesOn n m e t)
    steps m e t = (
      (λ step. (made_steps n m e t).0
          (subst (λ (l : List Edge). Contains l (arc m e t)) list ((made_of.arcs (arc m e t)).0 step))),
      (λ goes. (made_of.arcs (arc m e t)).1
          (subst (λ (l : List Edge). Contains l (arc m e t)) (sym list) ((made_steps n m e t).1 goes))),
    )
