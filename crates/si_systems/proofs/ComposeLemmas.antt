-- Texts come to one answer.
use Rattle.std.proofs.Common.{◌≡◌, ℕ, List, [], ◌∷◌, ◌++◌, map, zip, Ok, Err, All, inl, inr, refl, sym, ap, ap₂, subst}
use Rattle.std.proofs.Common.{◌∙◌}
use Rattle.std.specs.List.{AllByRecursion}
use Rattle.si_base.specs.Bytes.{sign}
use Rattle.si_base.specs.Codes.{CodedGraph, IsCoded}
use Rattle.si_base.specs.GivenGraph.{Sg}
use Rattle.si_base.specs.Graph.{StateGraph}
use Rattle.si_composing.specs.Causes.{ShowsUncomposed}
use Rattle.si_composing.specs.JoinedSignals.{joined_signals}
use Rattle.si_composing.specs.declared.clash.Clash.TheVariants as clash
use Rattle.si_composing.specs.declared.compose.Uncomposed.{Uncomposed}
use Rattle.si_composing.specs.declared.compose.Uncomposed.TheVariants as cause
use Rattle.si_composing.proofs.OneAnswer.{no_cause, one_cause}
use Rattle.si_composing.proofs.SomeAnswer.{some_answer}
use Rattle.si_composing.proofs.Unique.{side_by_side_one}
use Rattle.si_readings.specs.Checks.{proper}
use Rattle.si_readings.specs.Laws.{AtMostOne, HasResult}
use Rattle.si_readings.specs.Readings.{graph_in}
use Rattle.si_readings.proofs.CheckLemmas.{graph_one, proper_one}
use Rattle.si_readings.proofs.ReadingsExist.{graph_some, proper_some}
use Rattle.si_readings.proofs.StageLemmas.{each_one, each_some, then_one, then_some}
use Rattle.si_refusals.specs.Refusal.{TextRefusal}
use Rattle.si_refusals.specs.Refusal as answer
use Rattle.si_refusals.specs.declared.uncomposed.NamedCause.{NamedCause}
use Rattle.si_refusals.specs.declared.uncomposed.NamedCause.TheVariants as named
use Rattle.si_sg.specs.CanonicalText.{event_word}
use Rattle.si_systems.specs.Compose.{ComposedSg, IsComposedSg, IsNamed, TellsComposed, TellsUncomposed, compose}
use Rattle.si_systems.specs.Compose.{composed, composition}
use Rattle.si_systems.specs.Halts.{text_with_halts}
use Rattle.si_systems.specs.Loops.Parts.{AreGiven}
use Rattle.si_systems.specs.Names.{composed_sg, names_at}
use Rattle.si_trails.proofs.OneWalk.{one_walk}
use Rattle.si_trails.proofs.SomeWalk.{some_walk}
use Rattle.si_systems.proofs.PartLemmas.{all_coded, are_given, are_sound}

pub all_hold : {A : Type 0} (P : A → Type 0) → ((x : A) → P x) → (xs : List A) → AllByRecursion P xs
all_hold P each [] = tt
all_hold P each (x ∷ xs) = (each x, all_hold P each xs)

-- ---- one result at most
-- a cause with a name is no want of memory
is_cause : (given : List Sg) (parts : List CodedGraph) (e : Uncomposed) (shown : NamedCause)
    → IsNamed given parts e shown → e ≡ cause.NoMemory → ⊥
is_cause given parts e shown named none = subst (λ (f : Uncomposed). IsNamed given parts f shown) none named

module _ (given : List Sg) (parts : List CodedGraph) where
  one_name : (e : Uncomposed) (one other : NamedCause) → IsNamed given parts e one → IsNamed given parts e other
      → one ≡ other
  one_name cause.NoMemory one other x y = absurd x
  one_name (cause.Signal clash.Driven name) one other x y = x ∙ sym y
  one_name (cause.Signal clash.Private name) one other x y = x ∙ sym y
  one_name (cause.Signal clash.Starts name) one other x y = x ∙ sym y
  one_name (cause.TooMany count) one other x y = x ∙ sym y
  one_name cause.States one other x y = x ∙ sym y
  one_name (cause.Interferes at name up) one other (words, walk, x) (others, also, y) =
      let same : words ≡ others = walk.2
      ∙ ap (map (event_word (joined_signals parts))) (one_walk parts at walk.0 also.0 walk.1 also.1) ∙ sym also.2 in
      x ∙ ap (named.Interferes (names_at given at) (name ++ sign up ∷ [])) same ∙ sym y
  one_name cause.Arcs one other x y = x ∙ sym y
  one_name (cause.Constant name) one other x y = x ∙ sym y

  one_shown : (one other : TextRefusal) → TellsUncomposed given parts one → TellsUncomposed given parts other
      → one ≡ other
  one_shown one other x y =
      let same : x.cause ≡ y.cause = one_cause parts x.cause y.cause (is_cause given parts x.cause x.shown x.named)
      (is_cause given parts y.cause y.shown y.named) x.first y.first in
      let also = subst (λ (e : Uncomposed). IsNamed given parts e x.shown) same x.named in
      x.refusal_is ∙ ap answer.Uncomposed (one_name y.cause x.shown y.shown also y.named) ∙ sym y.refusal_is

  not_both : (output : List ℕ) (refusal : TextRefusal) → TellsComposed given parts output
      → TellsUncomposed given parts refusal → ⊥
  not_both output refusal x y = is_cause given parts y.cause y.shown y.named
      (no_cause parts x.tuples x.whole y.cause x.side_by_side y.first)

  one_text : (one other : List ℕ) → TellsComposed given parts one → TellsComposed given parts other → one ≡ other
  one_text one other x y =
      let same = side_by_side_one parts x.tuples y.tuples x.whole y.whole x.side_by_side y.side_by_side in
      x.output_is
      ∙ ap₂ (λ (ts : List (List ℕ)) (h : StateGraph). text_with_halts (composed_sg given ts h)) same.0 same.1
      ∙ sym y.output_is

  pub composition_one : AtMostOne (composition given parts)
  composition_one (Ok x) (Ok y) one other = ap Ok (one_text x y one other)
  composition_one (Ok x) (Err r) one other = absurd (not_both x r one other)
  composition_one (Err r) (Ok x) one other = absurd (not_both x r other one)
  composition_one (Err r) (Err q) one other = ap Err (one_shown r q one other)

  -- ---- the graph as a value
  no_composed : (c : ComposedSg) (refusal : TextRefusal) → IsComposedSg given parts c
      → TellsUncomposed given parts refusal → ⊥
  no_composed c refusal x y = is_cause given parts y.cause y.shown y.named
      (no_cause parts c.tuples c.sg.graph y.cause x.0 y.first)

  with_tuples : List (List ℕ) → Sg → ComposedSg
  with_tuples tuples sg = record { sg = sg; tuples = tuples }

  one_graph : (c d : ComposedSg) → IsComposedSg given parts c → IsComposedSg given parts d → c ≡ d
  unfolding with_tuples
  one_graph c d one other =
      let same = side_by_side_one parts c.tuples d.tuples c.sg.graph d.sg.graph one.0 other.0 in
      ap (with_tuples c.tuples) one.1
      ∙ ap₂ (λ (ts : List (List ℕ)) (h : StateGraph). with_tuples ts (composed_sg given ts h)) same.0 same.1
      ∙ sym (ap (with_tuples d.tuples) other.1)

  pub composed_one : AtMostOne (composed given parts)
  composed_one (Ok c) (Ok d) one other = ap Ok (one_graph c d one other)
  composed_one (Ok c) (Err r) one other = absurd (no_composed c r one other)
  composed_one (Err r) (Ok c) one other = absurd (no_composed c r other one)
  composed_one (Err r) (Err q) one other = ap Err (one_shown r q one other)

pub compose_one : (files texts : List (List ℕ)) → AtMostOne (compose files texts)
compose_one files texts = then_one _ _
    (each_one (λ f. graph_in f.0 f.1) (zip files texts) (all_hold _ (λ f. graph_one f.0 f.1) (zip files texts)))
    (λ given are. then_one _ _
    (each_one (λ g. proper g.graph g.states) given (all_hold _ (λ g. proper_one g.graph g.states) given))
    (λ parts sound. composition_one given parts))

-- ---- and one there is
some_name : (given : List Sg) (parts : List CodedGraph) → All IsCoded parts → (e : Uncomposed)
    → (e ≡ cause.NoMemory → ⊥) → ShowsUncomposed parts e → (shown : NamedCause) × IsNamed given parts e shown
some_name given parts coded cause.NoMemory is first = absurd (is refl)
some_name given parts coded (cause.Signal clash.Driven name) is first = (_, refl)
some_name given parts coded (cause.Signal clash.Private name) is first = (_, refl)
some_name given parts coded (cause.Signal clash.Starts name) is first = (_, refl)
some_name given parts coded (cause.TooMany count) is first = (_, refl)
some_name given parts coded cause.States is first = (_, refl)
some_name given parts coded (cause.Interferes at name up) is first =
    let walk = some_walk parts coded at first.1.1.reached in (_, (_, (walk.0, walk.1, refl), refl))
some_name given parts coded cause.Arcs is first = (_, refl)
some_name given parts coded (cause.Constant name) is first = (_, refl)

composition_some : (given : List Sg) (parts : List CodedGraph) → All IsCoded parts → HasResult (composition given parts)
composition_some given parts coded = elim (some_answer parts coded) [
  | inl (tuples, whole, is) ↦ (
    Ok (text_with_halts (composed_sg given tuples whole)),
    record { tuples = tuples; whole = whole; side_by_side = is; output_is = refl },
  )
  | inr (e, is, first) ↦ (let shown = some_name given parts coded e is first in (
    Err (answer.Uncomposed shown.0),
    record { cause = e; first = first; shown = shown.0; named = shown.1; refusal_is = refl },
  ))
]

pub composed_some : (given : List Sg) (parts : List CodedGraph) → All IsCoded parts → HasResult (composed given parts)
composed_some given parts coded = elim (some_answer parts coded) [
  | inl (tuples, whole, is) ↦ (
    Ok (record { sg = composed_sg given tuples whole; tuples = tuples }),
    (is, refl),
  )
  | inr (e, is, first) ↦ (let shown = some_name given parts coded e is first in (
    Err (answer.Uncomposed shown.0),
    record { cause = e; first = first; shown = shown.0; named = shown.1; refusal_is = refl },
  ))
]

proper_some_each : (given : List Sg) → AreGiven given → AllByRecursion (λ g. HasResult (proper g.graph g.states)) given
proper_some_each [] are = tt
proper_some_each (g ∷ gs) are = (proper_some are.0.0 g are.0.1, proper_some_each gs are.1)

pub compose_some : (files texts : List (List ℕ)) → HasResult (compose files texts)
compose_some files texts = then_some _ _
    (each_some (λ f. graph_in f.0 f.1) (zip files texts) (all_hold _ (λ f. graph_some f.0 f.1) (zip files texts)))
    (λ given read. let are = are_given (zip files texts) given read in then_some _ _
    (each_some (λ g. proper g.graph g.states) given (proper_some_each given are))
    (λ parts sound. composition_some given parts (all_coded given parts (are_sound given parts sound))))
