-- No insertions tell apart the two states of a twin conflict: along the moves there are copies of
-- both at which the inserted signals have the same values.
use Rattle.std.proofs.Common.{◌≡◌, ℕ, ◌<◌, ◌≤◌, List, [], ◌∷◌, refl, sym, ap, subst, ◌∙◌, length}
use Rattle.std.proofs.Common.{inl, inr}
use Rattle.std.proofs.lemmas.Bool.{true≢false, cases_Bool, cases_lt}
use Rattle.std.proofs.lemmas.Option.{slice_get_within}
use Rattle.si_base.specs.declared.ids.Event.{Event}
use Rattle.si_base.specs.Bits.{bit}
use Rattle.si_base.specs.Graph.{Step, enables, IsNonInput}
use Rattle.si_base.specs.Codes.{CodedGraph, code, IsCoded}
use Rattle.si_base.specs.Proper.{HasNoConflict}
use Rattle.si_base.proofs.BitFacts.{same_codes}
use Rattle.si_base.proofs.StepCodes.{step_within}
use Rattle.si_base.proofs.GraphSteps.{enables-step, step_from_enables}
use Rattle.si_insert.specs.declared.lineage.TraceStep.{TraceStep}
use Rattle.si_insert.specs.Lineage.{Current, origin, IsLineage, Silently, Keeps}
use Rattle.si_insert.proofs.InsertionKeeps.{keeps}
use Rattle.si_base.specs.Graph.{IsGraph}
use Rattle.si_walks.specs.declared.arcs.Arcs.TheVariants.{OfInputs}
use Rattle.si_walks.specs.Walks.{WalkAlong}
use Rattle.si_walks.specs.Joined.{IsJoinedConflict}
use Rattle.si_walks.specs.Twins.{Move, OfFirst, OfSecond, OfBoth, MovesLead, IsTwinConflict}
use Rattle.si_walks.proofs.Joined.{IsFrom, has_copy, keeps_new, led_by_inputs, AreTwins, differ_in, new_is_driven, led_alike, twins_conflict, starts_within}

-- two states of the current graph that come from s and t, with the same values of inserted signals
record AreLike (given : CodedGraph) (v : Current) (k m s t : ℕ) : Type 0 where
  one : IsFrom v k s
  other : IsFrom v m t
  new : (a : ℕ) → length given.graph.signals ≤ a → bit (code v.coded k) a ≡ bit (code v.coded m) a

-- where s and t have one code, so have their likes
as_twins : (given : CodedGraph) (v : Current) (k m s t : ℕ) → Keeps given v → AreLike given v k m s t
    → code given s ≡ code given t → AreTwins v k m s t
as_twins given v k m s t kept like same =
    let n = length given.graph.signals in
    let given_codes : code given (origin v k) ≡ code given (origin v m) =
    ap (code given) like.one.origin_is ∙ same ∙ sym (ap (code given) like.other.origin_is) in
    let bits : (a : ℕ) → bit (code v.coded k) a ≡ bit (code v.coded m) a = λ a. elim (cases_lt a n) [
      | inl below ↦ kept.values k a like.one.there below ∙ ap (λ (w : ℕ). bit w a) given_codes
          ∙ sym (kept.values m a like.other.there below)
      | inr above ↦ like.new a above
    ] in
    record { one = like.one; other = like.other; same_code = same_codes (code v.coded k) (code v.coded m) bits }

-- an event of the given graph that both of twins make leads to likes
stepped : (given : CodedGraph) (v : Current) (k m s t : ℕ) (e : Event) (i j u w : ℕ) → IsCoded given → Keeps given v
    → AreTwins v k m s t → e.sig < length given.graph.signals → Step v.coded.graph k e i → origin v i ≡ u
    → Step v.coded.graph m e j → Step given.graph t e w → AreLike given v i j u w
stepped given v k m s t e i j u w is kept twins small here origin_is there below =
    let P : ℕ → Type 0 = λ x. Step given.graph x e (origin v j) in
    let beside : Step given.graph t e (origin v j) = subst P twins.other.origin_is (kept.given_arcs m e j there small) in
    record {
      one = record { there = (step_within v.coded.graph k e i kept.coded.graph_is here).2; origin_is = origin_is };
      other = record {
        there = (step_within v.coded.graph m e j kept.coded.graph_is there).2;
        origin_is = is.deterministic t e (origin v j) w beside below;
      };
      new = λ a above. (keeps_new given v k e i kept here small).bits a above ∙ ap (λ (x : ℕ). bit x a) twins.same_code
          ∙ sym ((keeps_new given v m e j kept there small).bits a above);
    }

-- twins whose graph has no conflict make the same inserted events, and then the same event
arrive : (given : CodedGraph) (v : Current) (k m s t : ℕ) (fs : List Event) (at : ℕ) (e : Event) (end u w : ℕ)
    → IsCoded given → Keeps given v → HasNoConflict v.coded → AreTwins v k m s t
    → Silently (length given.graph.signals) v.coded.graph k fs at → Step v.coded.graph at e end → origin v end ≡ u
    → e.sig < length given.graph.signals → IsNonInput v.coded.graph.signals e.sig → Step given.graph t e w
    → (i : ℕ) × (j : ℕ) × AreLike given v i j u w
arrive given v k m s t [] at e end u w is kept none twins walk step origin_is small non_input below =
    let P : ℕ → Type 0 = λ i. Step v.coded.graph i e end in
    let here : Step v.coded.graph k e end = subst P (sym walk) step in
    elim (cases_Bool (enables v.coded.graph m e)) [
      | inl both ↦
          (let next = step_from_enables v.coded.graph m e both in
          (end, next.0, stepped given v k m s t e end next.0 u w is kept twins small here origin_is next.1 below))
      | inr one ↦
          (let found =
          differ_in v k m s t e twins non_input (enables-step v.coded.graph k e end here)
          (λ also. true≢false (sym also ∙ one))
          in
          absurd (none found.0 found.1))
    ]
arrive given v k m s t (f ∷ fs) at e end u w is kept none twins walk step origin_is small non_input below =
    elim (cases_Bool (enables v.coded.graph m f)) [
      | inl both ↦
          (let next = step_from_enables v.coded.graph m f both in
          arrive given v walk.0 next.0 s t fs at e end u w is kept none
          (led_alike given v k m s t f walk.0 next.0 kept twins walk.1 walk.2 next.1) walk.3 step origin_is small
          non_input below)
      | inr one ↦
          (let found =
          differ_in v k m s t f twins (new_is_driven given v k f walk.0 kept walk.1 walk.2)
          (enables-step v.coded.graph k f walk.0 walk.2) (λ also. true≢false (sym also ∙ one))
          in
          absurd (none found.0 found.1))
    ]

-- along the moves there are likes
led : (given : CodedGraph) (v : Current) (ms : List Move) (k m s t p q : ℕ) → IsCoded given → Keeps given v
    → HasNoConflict v.coded → AreLike given v k m s t → MovesLead given ms s t p q
    → (i : ℕ) × (j : ℕ) × AreLike given v i j p q
led given v [] k m s t p q is kept none like lead = (
  k,
  m,
  record {
    one = record { there = like.one.there; origin_is = like.one.origin_is ∙ lead.0 };
    other = record { there = like.other.there; origin_is = like.other.origin_is ∙ lead.1 };
    new = like.new;
  },
)
led given v (OfFirst e ∷ ms) k m s t p q is kept none like lead =
    let u = lead.0 in
    let on = led_by_inputs given v k s (e ∷ []) u kept like.one (u, lead.1, lead.2, refl) in
    led given v ms on.0 m u t p q is kept none
    (record { one = on.1; other = like.other; new = λ a above. on.2.bits a above ∙ like.new a above }) lead.3
led given v (OfSecond e ∷ ms) k m s t p q is kept none like lead =
    let u = lead.0 in
    let on = led_by_inputs given v m t (e ∷ []) u kept like.other (u, lead.1, lead.2, refl) in
    led given v ms k on.0 s u p q is kept none
    (record { one = like.one; other = on.1; new = λ a above. like.new a above ∙ sym (on.2.bits a above) }) lead.3
led given v (OfBoth e ∷ ms) k m s t p q is kept none like lead =
    let u = lead.0 in
    let w = lead.1 in
    let twins = as_twins given v k m s t kept like lead.2 in
    let driven = lead.3 in
    let P : ℕ → Type 0 = λ i. Step given.graph i e u in
    let made = kept.can_make k e u like.one.there (subst P (sym like.one.origin_is) lead.4) in
    let f = made.0 in
    let small = slice_get_within given.graph.signals e.sig driven.0 driven.1 in
    let non_input : IsNonInput v.coded.graph.signals e.sig =
    (driven.0, kept.given_signals e.sig small ∙ driven.1, driven.2) in
    let next =
    arrive given v k m s t f.silent f.at e f.end u w is kept none twins f.walk f.step f.origin_is small non_input lead.5
    in
    led given v ms next.0 next.1 u w p q is kept none next.2 lead.6

pub never_resolved : (given : CodedGraph) (trace : List TraceStep) (v : Current) (pair : ℕ × ℕ)
    → IsLineage given trace v → IsTwinConflict given pair → HasNoConflict v.coded → ⊥
never_resolved given trace v pair lineage c none =
    let is = lineage.coded in
    let kept = keeps given trace v lineage in
    let t = c.twins in
    let copy = has_copy given v t.source is kept t.within in
    let alike : AreLike given v copy.0 copy.0 t.source t.source =
    record { one = copy.1; other = copy.1; new = λ a above. refl } in
    let on = led given v t.moves copy.0 copy.0 t.source t.source pair.0 pair.1 is kept none alike t.lead in
    let twins = as_twins given v on.0 on.1 pair.0 pair.1 kept on.2 c.conflict.same_code in
    let found =
    twins_conflict given v on.0 on.1 pair.0 pair.1 c.conflict.event kept twins c.conflict.non_input c.conflict.differ
    in
    none found.0 found.1

-- ---- joined conflicts
abbrev firsts : List Event → List Move → List Move
firsts [] ms = ms
firsts (e ∷ es) ms = OfFirst e ∷ firsts es ms

abbrev seconds : List Event → List Move
seconds [] = []
seconds (e ∷ es) = OfSecond e ∷ seconds es

lead_first : (c : CodedGraph) (s : ℕ) (es : List Event) (u t p q : ℕ) (ms : List Move)
    → WalkAlong c.graph OfInputs s es u → MovesLead c ms u t p q → MovesLead c (firsts es ms) s t p q
lead_first c s [] u t p q ms walk lead =
    let P : ℕ → Type 0 = λ i. MovesLead c ms i t p q in subst P (sym walk) lead
lead_first c s (e ∷ es) u t p q ms walk lead =
    (walk.0, walk.1, walk.2, lead_first c walk.0 es u t p q ms walk.3 lead)

lead_second : (c : CodedGraph) (s t : ℕ) (es : List Event) (q : ℕ) → WalkAlong c.graph OfInputs t es q
    → MovesLead c (seconds es) s t s q
lead_second c s t [] q walk = (refl, walk)
lead_second c s t (e ∷ es) q walk = (walk.0, walk.1, walk.2, lead_second c s walk.0 es q walk.3)

pub joined_is_twin : (c : CodedGraph) (pair : ℕ × ℕ) → IsGraph c.graph → IsJoinedConflict c pair
    → IsTwinConflict c pair
joined_is_twin c pair is joined = record {
  conflict = joined.conflict;
  twins = record {
    source = joined.source;
    within = starts_within c.graph joined.source joined.to_second.0 pair.1 is joined.to_second.1 joined.conflict.within;
    moves = firsts joined.to_first.0 (seconds joined.to_second.0);
    lead = lead_first c joined.source joined.to_first.0 pair.0 joined.source pair.0 pair.1 (seconds joined.to_second.0)
        joined.to_first.1 (lead_second c pair.0 joined.source joined.to_second.0 pair.1 joined.to_second.1);
  };
}
