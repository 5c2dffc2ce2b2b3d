-- Texts come to one answer by `product`.
use Rattle.std.proofs.Common.{◌≡◌, ℕ, List, zip, Ok, Err, Option, Some, None, inl, inr, refl, sym, ap, ap₂, subst, ◌∙◌}
use Rattle.std.proofs.lemmas.Bool.{cases_order}
use Rattle.si_base.specs.Codes.{IsDeterministic}
use Rattle.si_base.specs.GivenGraph.{Sg}
use Rattle.si_base.specs.Graph.{StateGraph}
use Rattle.si_base.specs.Proper.{Split, Splits, split_place}
use Rattle.si_checks.specs.Loops.Searches.{IsFirstOrNone}
use Rattle.si_checks.proofs.BreachesDecided.{first_split}
use Rattle.si_checks.proofs.UniqueBreaches.{one_split, split_breaches}
use Rattle.si_product.specs.Loops.System as system
use Rattle.si_product.specs.declared.product.NoProduct.{NoProduct}
use Rattle.si_product.specs.declared.product.NoProduct.TheVariants as cause
use Rattle.si_product.proofs.OneAnswer.{no_cause, one_cause}
use Rattle.si_product.proofs.ProductMade.{product_one as one_product}
use Rattle.si_product.proofs.SomeAnswer.{some_answer}
use Rattle.si_readings.specs.Laws.{AtMostOne, HasResult}
use Rattle.si_readings.specs.Readings.{graph_in}
use Rattle.si_readings.proofs.CheckLemmas.{graph_one}
use Rattle.si_readings.proofs.ReadingsExist.{graph_some}
use Rattle.si_readings.proofs.StageLemmas.{each_one, each_some, then_one, then_some}
use Rattle.si_refusals.specs.Refusal.{TextRefusal, Improper}
use Rattle.si_refusals.specs.Refusal as answer
use Rattle.si_refusals.specs.declared.uncomposed.NamedCause.{NamedCause}
use Rattle.si_sg.specs.CanonicalText.{sg_text}
use Rattle.si_systems.specs.Names.{composed_sg}
use Rattle.si_systems.specs.Product.{IsCauseNamed, TellsNoProduct, TellsProduct, deterministic, product, production}
use Rattle.si_systems.specs.Product.{split_name}
use Rattle.si_systems.proofs.ComposeLemmas.{all_hold}
use Rattle.si_systems.proofs.PartLemmas.{are_given}
use Rattle.si_systems.proofs.ProductParts.{are_parts, parts_are}

-- ---- whether a graph is deterministic
module _ (graph : StateGraph) (states : List (List ℕ)) where
  pub deterministic_one : AtMostOne (deterministic graph states)
  deterministic_one (Ok x) (Ok y) one other = ap Ok (one.1 ∙ sym other.1)
  deterministic_one (Ok x) (Err r) one other = absurd (split_breaches graph other.1.0 other.1.1.holds one.0)
  deterministic_one (Err r) (Ok x) one other = absurd (split_breaches graph one.1.0 one.1.1.holds other.0)
  deterministic_one (Err r) (Err q) one other =
      let same : one.0 ≡ other.0 = one.1.2
      ∙ ap (split_name graph states) (one_split graph one.1.0 other.1.0 one.1.1 other.1.1) ∙ sym other.1.2 in
      ap Err (one.2 ∙ ap Improper same ∙ sym other.2)

  no_split : ((b : Split) → Splits graph b → ⊥) → IsDeterministic graph
  no_split none s e t u one other = elim (cases_order t u) [
    | inl same ↦ same
    | inr (inl less) ↦ absurd (none (record { s = s; e = e; t = t; u = u })
        (record { one = one; other = other; apart = less }))
    | inr (inr more) ↦ absurd (none (record { s = s; e = e; t = u; u = t })
        (record { one = other; other = one; apart = more }))
  ]

  pub deterministic_some : HasResult (deterministic graph states)
  deterministic_some = by (first_split graph).0 (first_split graph).1
    where
      by : (found : Option Split) → IsFirstOrNone split_place (Splits graph) found
          → HasResult (deterministic graph states)
      by (Some b) first =
          (Err (Improper (split_name graph states b)), (split_name graph states b, (b, first, refl), refl))
      by None none = (Ok graph, (no_split none, refl))

-- ---- one answer at most
-- a cause with a name is no want of memory
is_cause : (e : NoProduct) (shown : NamedCause) → IsCauseNamed e shown → e ≡ cause.NoMemory → ⊥
is_cause e shown named none = subst (λ (f : NoProduct). IsCauseNamed f shown) none named

one_name : (e : NoProduct) (one other : NamedCause) → IsCauseNamed e one → IsCauseNamed e other → one ≡ other
one_name cause.NoMemory one other x y = absurd x
one_name (cause.Driven name) one other x y = x ∙ sym y
one_name (cause.TooMany count) one other x y = x ∙ sym y
one_name cause.States one other x y = x ∙ sym y
one_name cause.Arcs one other x y = x ∙ sym y

module _ (given : List Sg) (parts : List StateGraph) where
  one_shown : (one other : TextRefusal) → TellsNoProduct parts one → TellsNoProduct parts other → one ≡ other
  one_shown one other x y =
      let same : x.cause ≡ y.cause = one_cause parts x.cause y.cause (is_cause x.cause x.shown x.named)
      (is_cause y.cause y.shown y.named) x.first y.first in
      let also = subst (λ (e : NoProduct). IsCauseNamed e x.shown) same x.named in
      x.refusal_is ∙ ap answer.Uncomposed (one_name y.cause x.shown y.shown also y.named) ∙ sym y.refusal_is

  not_both : (output : List ℕ) (refusal : TextRefusal) → TellsProduct given parts output
      → TellsNoProduct parts refusal → ⊥
  not_both output refusal x y = is_cause y.cause y.shown y.named
      (no_cause parts x.tuples x.whole y.cause x.is_product y.first)

  one_text : (one other : List ℕ) → TellsProduct given parts one → TellsProduct given parts other → one ≡ other
  one_text one other x y =
      let same = one_product parts x.tuples y.tuples x.whole y.whole x.is_product y.is_product in
      x.output_is
      ∙ ap₂ (λ (ts : List (List ℕ)) (h : StateGraph). sg_text (composed_sg given ts h)) same.0 same.1
      ∙ sym y.output_is

  pub production_one : AtMostOne (production given parts)
  production_one (Ok x) (Ok y) one other = ap Ok (one_text x y one other)
  production_one (Ok x) (Err r) one other = absurd (not_both x r one other)
  production_one (Err r) (Ok x) one other = absurd (not_both x r other one)
  production_one (Err r) (Err q) one other = ap Err (one_shown r q one other)

pub product_one : (files texts : List (List ℕ)) → AtMostOne (product files texts)
product_one files texts = then_one _ _
    (each_one (λ f. graph_in f.0 f.1) (zip files texts) (all_hold _ (λ f. graph_one f.0 f.1) (zip files texts)))
    (λ given are. then_one _ _
    (each_one (λ g. deterministic g.graph g.states) given
    (all_hold _ (λ g. deterministic_one g.graph g.states) given))
    (λ parts of. production_one given parts))

-- ---- and one there is
some_name : (e : NoProduct) → (e ≡ cause.NoMemory → ⊥) → (shown : NamedCause) × IsCauseNamed e shown
some_name cause.NoMemory is = absurd (is refl)
some_name (cause.Driven name) is = (_, refl)
some_name (cause.TooMany count) is = (_, refl)
some_name cause.States is = (_, refl)
some_name cause.Arcs is = (_, refl)

production_some : (given : List Sg) (parts : List StateGraph) → system.AreParts parts
    → HasResult (production given parts)
production_some given parts are = elim (some_answer parts are) [
  | inl (tuples, whole, is) ↦ (
    Ok (sg_text (composed_sg given tuples whole)),
    record { tuples = tuples; whole = whole; is_product = is; output_is = refl },
  )
  | inr (e, is, first) ↦ (let shown = some_name e is in (
    Err (answer.Uncomposed shown.0),
    record { cause = e; first = first; shown = shown.0; named = shown.1; refusal_is = refl },
  ))
]

pub product_some : (files texts : List (List ℕ)) → HasResult (product files texts)
product_some files texts = then_some _ _
    (each_some (λ f. graph_in f.0 f.1) (zip files texts) (all_hold _ (λ f. graph_some f.0 f.1) (zip files texts)))
    (λ given read. let are = are_given (zip files texts) given read in then_some _ _
    (each_some (λ g. deterministic g.graph g.states) given
    (all_hold _ (λ g. deterministic_some g.graph g.states) given))
    (λ parts of. production_some given parts (parts_are given parts are (are_parts given parts of))))
