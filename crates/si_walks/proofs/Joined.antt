-- A conflict whose states input events join stays in each lineage: its two states have copies of one
-- code, and the inserted events that make an event possible at the one either make it possible at
-- the other, where its origin doesn't enable it, or one of them is a conflict.
use Rattle.std.proofs.Common.{◌≡◌, ◌≢◌, ℕ, ◌<◌, ◌≤◌, ◌⊎◌, true, List, [], ◌∷◌, refl, sym, ap, subst, ◌∙◌, arith, length}
use Rattle.std.proofs.Common.{inl, inr}
use Rattle.std.proofs.lemmas.Bool.{true≢false, cases_Bool, cases_lt, cases_order}
use Rattle.std.proofs.lemmas.Option.{slice_get_within, slice_get_cases}
use Rattle.si_base.specs.declared.ids.Event.{Event}
use Rattle.si_base.specs.Bits.{bit, flip}
use Rattle.si_base.specs.Graph.{StateGraph, Step, Walk, IsGraph, enables, is_driven, IsNonInput}
use Rattle.si_base.specs.Codes.{CodedGraph, code, IsCoded}
use Rattle.si_base.specs.Proper.{IsConflict, HasNoConflict}
use Rattle.si_base.proofs.BitFacts.{flip-other, same_codes}
use Rattle.si_base.proofs.StepCodes.{step_within, code_of_step}
use Rattle.si_base.proofs.GraphSteps.{enables-step, step_from_enables}
use Rattle.si_insert.specs.declared.lineage.TraceStep.{TraceStep}
use Rattle.si_insert.specs.Lineage.{Current, origin, IsLineage, Silently, Keeps}
use Rattle.si_insert.proofs.InsertionKeeps.{keeps}
use Rattle.si_walks.specs.declared.arcs.Arcs.TheVariants.{OfInputs}
use Rattle.si_walks.specs.Walks.{WalkAlong, InputsLead}
use Rattle.si_walks.specs.Joined.{IsJoinedConflict, HasConflictFrom}

-- ---- copies
-- k is a state of the current graph that comes from s
pub record IsFrom (v : Current) (k s : ℕ) : Type 0 where
  pub there : k < v.coded.graph.states
  pub origin_is : origin v k ≡ s

-- from a copy of s there is a way to a copy of t, where a walk leads from s to t
led_on : (given : CodedGraph) (v : Current) (k s : ℕ) (es : List Event) (t : ℕ) → Keeps given v → IsFrom v k s
    → Walk given.graph s es t → (m : ℕ) × IsFrom v m t
led_on given v k s [] t kept from walk = (k, record { there = from.there; origin_is = from.origin_is ∙ walk })
led_on given v k s (e ∷ es) t kept from walk =
    let P : ℕ → Type 0 = λ i. Step given.graph i e walk.0 in
    let f = (kept.can_make k e walk.0 from.there (subst P (sym from.origin_is) walk.1)).0 in
    let parts = step_within v.coded.graph f.at e f.end kept.coded.graph_is f.step in
    led_on given v f.end walk.0 es t kept (record { there = parts.2; origin_is = f.origin_is }) walk.2

-- each given state has a copy
pub has_copy : (given : CodedGraph) (v : Current) (s : ℕ) → IsCoded given → Keeps given v → s < given.graph.states
    → (k : ℕ) × IsFrom v k s
has_copy given v s is kept small =
    let way = is.connected s small in
    led_on given v v.coded.graph.start given.graph.start way.0 s kept
    (record { there = kept.coded.graph_is.starts; origin_is = kept.start }) way.1

-- ---- along input events the inserted signals keep their values
pub record HasSameNew (given : CodedGraph) (v : Current) (k m : ℕ) : Type 0 where
  pub bits : (a : ℕ) → length given.graph.signals ≤ a → bit (code v.coded m) a ≡ bit (code v.coded k) a

pub keeps_new : (given : CodedGraph) (v : Current) (k : ℕ) (e : Event) (m : ℕ) → Keeps given v
    → Step v.coded.graph k e m → e.sig < length given.graph.signals → HasSameNew given v k m
keeps_new given v k e m kept step small = record {
  bits = λ a above.
      (let other : a ≡ e.sig → ⊥ = λ same. omega (arith, same, small, above) in
      ap (λ (w : ℕ). bit w a) (code_of_step v.coded k e m kept.coded step) ∙ flip-other (code v.coded k) e.sig a other);
}

pub led_by_inputs : (given : CodedGraph) (v : Current) (k s : ℕ) (es : List Event) (t : ℕ) → Keeps given v → IsFrom v k s
    → WalkAlong given.graph OfInputs s es t → (m : ℕ) × IsFrom v m t × HasSameNew given v k m
led_by_inputs given v k s [] t kept from walk =
    (k, record { there = from.there; origin_is = from.origin_is ∙ walk }, record { bits = λ a above. refl })
led_by_inputs given v k s (e ∷ es) t kept from walk =
    let n = length given.graph.signals in
    let P : ℕ → Type 0 = λ i. Step given.graph i e walk.0 in
    let made = kept.can_make k e walk.0 from.there (subst P (sym from.origin_is) walk.2) in
    let f = made.0 in
    let Q : List Event → Type 0 = λ fs. Silently n v.coded.graph k fs f.at in
    let at_once : k ≡ f.at = subst Q (made.1 walk.1) f.walk in
    let R : ℕ → Type 0 = λ i. Step v.coded.graph i e f.end in
    let step : Step v.coded.graph k e f.end = subst R (sym at_once) f.step in
    let parts = step_within v.coded.graph k e f.end kept.coded.graph_is step in
    let small = slice_get_within given.graph.signals e.sig walk.1.0 walk.1.1 in
    let one = keeps_new given v k e f.end kept step small in
    let rest =
    led_by_inputs given v f.end walk.0 es t kept (record { there = parts.2; origin_is = f.origin_is }) walk.3
    in
    (rest.0, rest.1, record { bits = λ a above. rest.2.bits a above ∙ one.bits a above })

-- ---- two states of the current graph of one code, that come from s and t
pub record AreTwins (v : Current) (k m s t : ℕ) : Type 0 where
  pub one : IsFrom v k s
  pub other : IsFrom v m t
  pub same_code : code v.coded k ≡ code v.coded m

turned : (v : Current) (k m s t : ℕ) → AreTwins v k m s t → AreTwins v m k t s
turned v k m s t twins = record { one = twins.other; other = twins.one; same_code = sym twins.same_code }

pub starts_within : (g : StateGraph) (s : ℕ) (es : List Event) (t : ℕ) → IsGraph g → WalkAlong g OfInputs s es t
    → t < g.states → s < g.states
starts_within g s [] t is walk small = let P : ℕ → Type 0 = λ i. i < g.states in subst P (sym walk) small
starts_within g s (e ∷ es) t is walk small = (step_within g s e walk.0 is walk.2).0

-- from one copy input events lead to copies of s and t with the same values of the inserted signals
have_twins : (given : CodedGraph) (v : Current) (r s t : ℕ) → IsCoded given → Keeps given v → s < given.graph.states
    → code given s ≡ code given t → InputsLead given.graph r s → InputsLead given.graph r t
    → (k : ℕ) × (m : ℕ) × AreTwins v k m s t
have_twins given v r s t is kept small same to_s to_t =
    let n = length given.graph.signals in
    let first = has_copy given v r is kept (starts_within given.graph r to_s.0 s is.graph_is to_s.1 small) in
    let here =
    led_by_inputs given v first.0 r to_s.0 s kept first.1 to_s.1 in
    let there =
    led_by_inputs given v first.0 r to_t.0 t kept first.1 to_t.1 in
    let k = here.0 in
    let m = there.0 in
    let given_codes : code given (origin v k) ≡ code given (origin v m) =
    ap (code given) here.1.origin_is ∙ same ∙ sym (ap (code given) there.1.origin_is) in
    let bits : (a : ℕ) → bit (code v.coded k) a ≡ bit (code v.coded m) a = λ a. elim (cases_lt a n) [
      | inl below ↦ kept.values k a here.1.there below ∙ ap (λ (w : ℕ). bit w a) given_codes
          ∙ sym (kept.values m a there.1.there below)
      | inr above ↦ here.2.bits a above ∙ sym (there.2.bits a above)
    ] in
    (k, m, record { one = here.1; other = there.1; same_code = same_codes (code v.coded k) (code v.coded m) bits })

-- ---- conflicts of the current graph
back : (v : Current) (s t : ℕ) → HasConflictFrom v s t → HasConflictFrom v t s
back v s t found = elim found.2 [
  | inl here ↦ (found.0, found.1, inr here)
  | inr there ↦ (found.0, found.1, inl there)
]

pub differ_in : (v : Current) (k m s t : ℕ) (e : Event) → AreTwins v k m s t → IsNonInput v.coded.graph.signals e.sig
    → enables v.coded.graph k e ≡ true → (enables v.coded.graph m e ≡ true → ⊥) → HasConflictFrom v s t
differ_in v k m s t e twins non_input enabled lacks = elim (cases_order k m) [
  | inl same ↦
      (let P : ℕ → Type 0 = λ i. enables v.coded.graph i e ≡ true in absurd (lacks (subst P same enabled)))
  | inr (inl before) ↦ (
    (k, m),
    record {
      order = before;
      within = twins.other.there;
      same_code = twins.same_code;
      event = e;
      non_input = non_input;
      differ = λ alike. lacks (sym alike ∙ enabled);
    },
    inl (twins.one.origin_is, twins.other.origin_is),
  )
  | inr (inr after) ↦ (
    (m, k),
    record {
      order = after;
      within = twins.one.there;
      same_code = sym twins.same_code;
      event = e;
      non_input = non_input;
      differ = λ alike. lacks (alike ∙ enabled);
    },
    inr (twins.other.origin_is, twins.one.origin_is),
  )
]

-- an inserted signal is driven
pub new_is_driven : (given : CodedGraph) (v : Current) (k : ℕ) (e : Event) (m : ℕ) → Keeps given v
    → length given.graph.signals ≤ e.sig → Step v.coded.graph k e m → IsNonInput v.coded.graph.signals e.sig
new_is_driven given v k e m kept above step =
    let parts = step_within v.coded.graph k e m kept.coded.graph_is step in
    elim (slice_get_cases v.coded.graph.signals e.sig).1 [
      | inl found ↦ (found.0, found.2, ap is_driven (kept.new_signals e.sig found.0 above found.2))
      | inr past ↦ absurd (omega (arith, parts.1, past.0))
    ]

-- an inserted event leads twins to twins
pub led_alike : (given : CodedGraph) (v : Current) (k m s t : ℕ) (f : Event) (u w : ℕ) → Keeps given v
    → AreTwins v k m s t → length given.graph.signals ≤ f.sig → Step v.coded.graph k f u → Step v.coded.graph m f w
    → AreTwins v u w s t
led_alike given v k m s t f u w kept twins above here there =
    let codes = λ (x : ℕ). flip x f.sig in
    record {
      one = record {
        there = (step_within v.coded.graph k f u kept.coded.graph_is here).2;
        origin_is = kept.inserted_arcs k f u here above ∙ twins.one.origin_is;
      };
      other = record {
        there = (step_within v.coded.graph m f w kept.coded.graph_is there).2;
        origin_is = kept.inserted_arcs m f w there above ∙ twins.other.origin_is;
      };
      same_code = code_of_step v.coded k f u kept.coded here ∙ ap codes twins.same_code
          ∙ sym (code_of_step v.coded m f w kept.coded there);
    }

-- a given event that the origin doesn't enable isn't enabled
lacks_too : (given : CodedGraph) (v : Current) (m t : ℕ) (e : Event) → Keeps given v → IsFrom v m t
    → e.sig < length given.graph.signals → (enables given.graph t e ≡ true → ⊥) → enables v.coded.graph m e ≡ true → ⊥
lacks_too given v m t e kept from small lacks enabled =
    let step = step_from_enables v.coded.graph m e enabled in
    let below = kept.given_arcs m e step.0 step.1 small in
    let P : ℕ → Type 0 = λ i. enables given.graph i e ≡ true in
    lacks (subst P from.origin_is (enables-step given.graph (origin v m) e (origin v step.0) below))

-- on the way to an event that the other origin doesn't enable some pair of twins is a conflict
on_the_way : (given : CodedGraph) (v : Current) (k m s t : ℕ) (fs : List Event) (at : ℕ) (e : Event) → Keeps given v
    → AreTwins v k m s t → Silently (length given.graph.signals) v.coded.graph k fs at
    → enables v.coded.graph at e ≡ true → e.sig < length given.graph.signals → IsNonInput v.coded.graph.signals e.sig
    → (enables given.graph t e ≡ true → ⊥) → HasConflictFrom v s t
on_the_way given v k m s t [] at e kept twins walk enabled small non_input lacks =
    let P : ℕ → Type 0 = λ i. enables v.coded.graph i e ≡ true in
    differ_in v k m s t e twins non_input (subst P (sym walk) enabled)
    (lacks_too given v m t e kept twins.other small lacks)
on_the_way given v k m s t (f ∷ fs) at e kept twins walk enabled small non_input lacks =
    elim (cases_Bool (enables v.coded.graph m f)) [
      | inl both ↦
          (let next = step_from_enables v.coded.graph m f both in
          on_the_way given v walk.0 next.0 s t fs at e kept
          (led_alike given v k m s t f walk.0 next.0 kept twins walk.1 walk.2 next.1) walk.3 enabled small non_input
          lacks)
      | inr one ↦ differ_in v k m s t f twins (new_is_driven given v k f walk.0 kept walk.1 walk.2)
          (enables-step v.coded.graph k f walk.0 walk.2) (λ also. true≢false (sym also ∙ one))
    ]

-- twins of which one origin alone enables a driven event
conflict_from : (given : CodedGraph) (v : Current) (k m s t : ℕ) (e : Event) → Keeps given v → AreTwins v k m s t
    → IsNonInput given.graph.signals e.sig → enables given.graph s e ≡ true → (enables given.graph t e ≡ true → ⊥)
    → HasConflictFrom v s t
conflict_from given v k m s t e kept twins driven enabled lacks =
    let step = step_from_enables given.graph s e enabled in
    let P : ℕ → Type 0 = λ i. Step given.graph i e step.0 in
    let f = (kept.can_make k e step.0 twins.one.there (subst P (sym twins.one.origin_is) step.1)).0 in
    let small = slice_get_within given.graph.signals e.sig driven.0 driven.1 in
    let non_input : IsNonInput v.coded.graph.signals e.sig =
    (driven.0, kept.given_signals e.sig small ∙ driven.1, driven.2) in
    on_the_way given v k m s t f.silent f.at e kept twins f.walk (enables-step v.coded.graph f.at e f.end f.step) small
    non_input lacks

pub twins_conflict : (given : CodedGraph) (v : Current) (k m s t : ℕ) (e : Event) → Keeps given v → AreTwins v k m s t
    → IsNonInput given.graph.signals e.sig → enables given.graph s e ≢ enables given.graph t e → HasConflictFrom v s t
twins_conflict given v k m s t e kept twins driven differ = elim (cases_Bool (enables given.graph s e)) [
  | inl first ↦ conflict_from given v k m s t e kept twins driven first (λ also. differ (first ∙ sym also))
  | inr none ↦ elim (cases_Bool (enables given.graph t e)) [
    | inl second ↦ back v t s (conflict_from given v m k t s e kept (turned v k m s t twins) driven second
        (λ also. true≢false (sym also ∙ none)))
    | inr neither ↦ absurd (differ (none ∙ sym neither))
  ]
]

-- ---- the laws
pub kept_joined_stays : (given : CodedGraph) (v : Current) (pair : ℕ × ℕ) → IsCoded given → Keeps given v
    → IsJoinedConflict given pair → HasConflictFrom v pair.0 pair.1
kept_joined_stays given v pair is kept c =
    let conflict = c.conflict in
    let small : pair.0 < given.graph.states = omega (arith, conflict.order, conflict.within) in
    let twins = have_twins given v c.source pair.0 pair.1 is kept small conflict.same_code c.to_first c.to_second in
    twins_conflict given v twins.0 twins.1 pair.0 pair.1 conflict.event kept twins.2 conflict.non_input conflict.differ

pub joined_stays : (given : CodedGraph) (trace : List TraceStep) (v : Current) (pair : ℕ × ℕ) → IsLineage given trace v
    → IsJoinedConflict given pair → HasConflictFrom v pair.0 pair.1
joined_stays given trace v pair lineage c = kept_joined_stays given v pair lineage.coded (keeps given trace v lineage) c

pub never_resolved : (given : CodedGraph) (trace : List TraceStep) (v : Current) (pair : ℕ × ℕ)
    → IsLineage given trace v → IsJoinedConflict given pair → HasNoConflict v.coded → ⊥
never_resolved given trace v pair lineage c none =
    let found = joined_stays given trace v pair lineage c in none found.0 found.1

pub walk_joins : (c : CodedGraph) (pair : ℕ × ℕ) → IsConflict c pair
    → InputsLead c.graph pair.0 pair.1 ⊎ InputsLead c.graph pair.1 pair.0 → IsJoinedConflict c pair
walk_joins c pair conflict joined = elim joined [
  | inl forth ↦ record { conflict = conflict; source = pair.0; to_first = stays pair.0; to_second = forth }
  | inr hither ↦ record { conflict = conflict; source = pair.1; to_first = hither; to_second = stays pair.1 }
]
  where
    stays : (s : ℕ) → InputsLead c.graph s s
    stays s = ([], refl)
