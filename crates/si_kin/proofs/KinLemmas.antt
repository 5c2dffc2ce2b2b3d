-- Of two kin there are copies with the same values of all inserted signals: those that are entered, since
-- states that an input event joins are entered at one value of each new signal.
use Rattle.std.proofs.Common.{◌≡◌, ℕ, zero, suc, ◌<◌, ◌≤◌, ◌++◌, Bool, true, false, List, [], ◌∷◌, length, slice_get}
use Rattle.std.proofs.Common.{Some, refl}
use Rattle.std.proofs.Common.{sym, ap, subst, ◌∙◌, arith, inl, inr, map, option_map}
use Rattle.std.proofs.lemmas.Bool.{cases_Bool, cases_eq, cases_lt, true≢false}
use Rattle.std.proofs.lemmas.List.FromFn.{get_or-range_with_len}
use Rattle.std.proofs.lemmas.Option.{get_or_from_slice_get, slice_get-map, slice_get_within}
use Rattle.si_base.specs.Bits.{bit}
use Rattle.si_base.specs.declared.ids.Event.{Event}
use Rattle.si_base.specs.declared.graph.Signal.{Signal}
use Rattle.si_base.specs.Codes.{CodedGraph, IsCoded, code}
use Rattle.si_base.specs.Graph.{StateGraph, Step}
use Rattle.si_base.specs.Proper.{HasNoConflict, IsProper}
use Rattle.si_base.proofs.BitFacts.{same_codes}
use Rattle.si_base.proofs.StepCodes.{step_within}
use Rattle.si_insert.specs.Accepted.{IsAccepted, IsInput}
use Rattle.si_insert.specs.Insertion.{Copy, IsInsertedGraph, coded, copy_code, entry, new_signal, waits}
use Rattle.si_insert.specs.Lineage.{Current, Grows, Inserts, IsLineage, Keeps, given_current, next_current, origin}
use Rattle.si_insert.specs.Partition.{class_of, may_lead}
use Rattle.si_insert.specs.declared.lineage.TraceStep.{TraceStep}
use Rattle.si_insert.specs.declared.partition.Class.{Class}
use Rattle.si_insert.specs.declared.partition.Class.TheVariants.{Falling, High, Low, Rising}
use Rattle.si_insert.proofs.AcceptedByTests.{accepts_at_tests}
use Rattle.si_insert.proofs.InsertionCopies.{placed}
use Rattle.si_insert.proofs.InsertionKeeps.{keeps}
use Rattle.si_insert.proofs.InsertionProper.{code_at, new_bit, old_bit}
use Rattle.si_insert.proofs.LineageTraces.{coded_next}
use Rattle.si_insert.proofs.PartitionClasses.{entry_there}
use Rattle.si_walks.proofs.Joined.{AreTwins, twins_conflict}
use Rattle.si_kin.specs.Kin.{AreKin, AreNext, IsKinConflict, KinStayUnresolved, RowTo}

-- ---- classes that an input joins
-- where nothing waits, the new signal has one value at both
one_entry : (c d : Class) → may_lead c d ≡ true → ((b : Bool) → waits c d b ≡ false) → entry c ≡ entry d
one_entry Low Low lawful goes = refl
one_entry Low Rising lawful goes = refl
one_entry Low High lawful goes = absurd (true≢false (sym lawful))
one_entry Low Falling lawful goes = absurd (true≢false (sym lawful))
one_entry Rising Low lawful goes = absurd (true≢false (sym lawful))
one_entry Rising Rising lawful goes = refl
one_entry Rising High lawful goes = absurd (true≢false (goes false))
one_entry Rising Falling lawful goes = absurd (true≢false (goes false))
one_entry High Low lawful goes = absurd (true≢false (sym lawful))
one_entry High Rising lawful goes = absurd (true≢false (sym lawful))
one_entry High High lawful goes = refl
one_entry High Falling lawful goes = refl
one_entry Falling Low lawful goes = absurd (true≢false (goes true))
one_entry Falling Rising lawful goes = absurd (true≢false (goes true))
one_entry Falling High lawful goes = absurd (true≢false (sym lawful))
one_entry Falling Falling lawful goes = refl

in_front : (xs : List Signal) (x : Signal) (k : ℕ) (y : Signal) → slice_get xs k ≡ Some y
    → slice_get (xs ++ x ∷ []) k ≡ Some y
in_front [] x k y at = cc
in_front (z ∷ xs) x zero y at = at
in_front (z ∷ xs) x (suc k) y at = in_front xs x k y at

-- ---- one insertion
module _ (v : Current) (p : TraceStep) (is : IsCoded v.coded) (proper : IsProper v.coded.graph) (copies : List Copy)
    (h : StateGraph) (accepted : IsAccepted v.coded.graph p.partition)
    (insertion : IsInsertedGraph v.coded.graph p.partition (new_signal p.name) copies h) where
  abbrev g : StateGraph
  g = v.coded.graph

  abbrev class : ℕ → Class
  class s = class_of p.partition s

  -- the copy of a state that is entered
  abbrev entered : ℕ → Copy
  entered s = record { state = s; value = entry (class s) }

  input_goes : (s : ℕ) (e : Event) (t : ℕ) (b : Bool) → IsInput g.signals e.sig → Step g s e t
      → waits (class s) (class t) b ≡ false
  input_goes s e t b input step = elim (cases_Bool (waits (class s) (class t) b)) [
    | inr goes ↦ goes
    | inl late ↦ absurd (((accepts_at_tests v.coded p.partition is proper accepted.lawful).0 accepted).0
        (record { s = s; e = e })
        (record { input = input; to = t; step = step; value = b; late = late }))
  ]

  same_entry : (s : ℕ) (e : Event) (t : ℕ) → IsInput g.signals e.sig → Step g s e t → entry (class s) ≡ entry (class t)
  same_entry s e t input step = one_entry (class s) (class t) (accepted.lawful.arcs s e t step)
      (λ b. input_goes s e t b input step)

  place_of : (s : ℕ) → s < g.states → (k : ℕ) × (k < h.states) × (slice_get copies k ≡ Some (entered s))
  place_of s within = placed g p.partition (new_signal p.name) copies h (entered s) insertion
      (record { within = within; there = entry_there (class s) })

  -- an input leads from the copy that is entered to the copy that is entered
  step_there : (s : ℕ) (e : Event) (t k m : ℕ) → IsInput g.signals e.sig → Step g s e t
      → slice_get copies k ≡ Some (entered s) → slice_get copies m ≡ Some (entered t) → Step h k e m
  step_there s e t k m input step from to = (insertion.arcs k e m).1 (record {
    from = entered s;
    to = entered t;
    from_is = from;
    to_is = to;
    moves = inl (record {
      step = step;
      keeps = sym (same_entry s e t input step);
      goes = input_goes s e t (entry (class s)) input step;
    });
  })

  still_input : (a : ℕ) → IsInput g.signals a → IsInput h.signals a
  still_input a input = (
    input.0,
    subst (λ (xs : List Signal). slice_get xs a ≡ Some input.0) (sym insertion.signals)
        (in_front g.signals (new_signal p.name) a input.0 input.1),
    input.2,
  )

  -- what becomes of a row of states: the row of the copies that are entered, all at one value
  pub record RowThere (s t k : ℕ) : Type 0 where
    pub end : ℕ
    pub end_is : slice_get copies end ≡ Some (entered t)
    pub row : List ℕ
    pub leads : RowTo (coded v.coded copies h) k row end
    pub one_value : entry (class s) ≡ entry (class t)
    pub within : t < g.states

  next_there : (s u k m : ℕ) → AreNext v.coded s u → slice_get copies k ≡ Some (entered s)
      → slice_get copies m ≡ Some (entered u)
      → AreNext (coded v.coded copies h) k m × (entry (class s) ≡ entry (class u))
  next_there s u k m (e, input, inl step) from to =
      ((e, still_input e.sig input, inl (step_there s e u k m input step from to)), same_entry s e u input step)
  next_there s u k m (e, input, inr step) from to =
      ((e, still_input e.sig input, inr (step_there u e s m k input step to from)), sym (same_entry u e s input step))

  next_within : (s u : ℕ) → AreNext v.coded s u → u < g.states
  next_within s u (e, input, inl step) = (step_within g s e u is.graph_is step).2
  next_within s u (e, input, inr step) = (step_within g u e s is.graph_is step).0

  row_there : (s : ℕ) (row : List ℕ) (t k : ℕ) → s < g.states → RowTo v.coded s row t
      → slice_get copies k ≡ Some (entered s) → RowThere s t k
  row_there s [] t k within same from = record {
    end = k;
    end_is = subst (λ (u : ℕ). slice_get copies k ≡ Some (entered u)) same from;
    row = [];
    leads = refl;
    one_value = ap (λ (u : ℕ). entry (class u)) same;
    within = subst (λ (u : ℕ). u < g.states) same within;
  }
  row_there s (u ∷ row) t k within (next, later) from =
      let inside = next_within s u next in
      let place = place_of u inside in
      let here = next_there s u k place.0 next from place.2 in
      let rest = row_there u row t place.0 inside later place.2 in
      record {
        end = rest.end;
        end_is = rest.end_is;
        row = place.0 ∷ rest.row;
        leads = (here.0, rest.leads);
        one_value = here.1 ∙ rest.one_value;
        within = rest.within;
      }

-- ---- kin of the current graph
-- states of the current graph that come from s and t, with the same values of inserted signals, and kin
record AreKinFrom (given : CodedGraph) (v : Current) (s t : ℕ) : Type 0 where
  one : ℕ
  other : ℕ
  within : one < v.coded.graph.states
  other_within : other < v.coded.graph.states
  from : origin v one ≡ s
  other_from : origin v other ≡ t
  new : (a : ℕ) → length given.graph.signals ≤ a → bit (code v.coded one) a ≡ bit (code v.coded other) a
  kin : AreKin v.coded one other

origin_of : (v : Current) (copies : List Copy) (h : StateGraph) (k : ℕ) (x : Copy) → slice_get copies k ≡ Some x
    → origin (next_current v copies h) k ≡ origin v x.state
origin_of v copies h k x is =
    let from : Copy → ℕ = λ y. origin v y.state in
    get_or_from_slice_get (map from copies) k (from x) 0 (slice_get-map from copies k ∙ ap (option_map from) is)

-- they stay so with one more insertion
module _ (given : CodedGraph) (v : Current) (p : TraceStep) (u : Current) (s t : ℕ) (is : IsCoded v.coded)
    (proper : IsProper v.coded.graph) (step : Inserts v p u) (kin : AreKinFrom given v s t) where
  abbrev h : StateGraph
  h = step.graph

  first : (k : ℕ) × (k < h.states) × (slice_get step.copies k
      ≡ Some (record { state = kin.one; value = entry (class_of p.partition kin.one) }))
  first = place_of v p is proper step.copies h step.accepted step.insertion kin.one kin.within

  row : RowThere v p is proper step.copies h step.accepted step.insertion kin.one kin.other first.0
  row = row_there v p is proper step.copies h step.accepted step.insertion kin.one kin.kin.0 kin.other first.0
      kin.within
      kin.kin.1 first.2

  abbrev x : Copy
  x = record { state = kin.one; value = entry (class_of p.partition kin.one) }

  abbrev y : Copy
  y = record { state = kin.other; value = entry (class_of p.partition kin.other) }

  same_new : (a : ℕ) → length given.graph.signals ≤ a → bit (copy_code v.coded x) a ≡ bit (copy_code v.coded y) a
  same_new a above = elim (cases_eq a (length v.coded.graph.signals)) [
    | inl last ↦ subst (λ (b : ℕ). bit (copy_code v.coded x) b ≡ bit (copy_code v.coded y) b) (sym last)
        (new_bit v.coded x is kin.within ∙ row.one_value ∙ sym (new_bit v.coded y is kin.other_within))
    | inr old ↦ old_bit v.coded x a old ∙ kin.new a above ∙ sym (old_bit v.coded y a old)
  ]

  kin_after : AreKinFrom given (next_current v step.copies h) s t
  kin_after = record {
    one = first.0;
    other = row.end;
    within = first.1;
    other_within = (let below = slice_get_within step.copies row.end y row.end_is in
        let many = step.insertion.count in omega (arith, below, many));
    from = origin_of v step.copies h first.0 x first.2 ∙ kin.from;
    other_from = origin_of v step.copies h row.end y row.end_is ∙ kin.other_from;
    new = λ a above. ap (λ (c : ℕ). bit c a) (code_at v.coded step.copies h first.0 x first.2) ∙ same_new a above
        ∙ sym (ap (λ (c : ℕ). bit c a) (code_at v.coded step.copies h row.end y row.end_is));
    kin = (row.row, row.leads);
  }

  kin_next : AreKinFrom given u s t
  kin_next = subst (λ (w : Current). AreKinFrom given w s t) (sym step.makes) kin_after

kin_along : (given : CodedGraph) (v : Current) (trace : List TraceStep) (w : Current) (s t : ℕ) → IsCoded v.coded
    → IsProper v.coded.graph → Grows v trace w → AreKinFrom given v s t → AreKinFrom given w s t
kin_along given v [] w s t is proper same kin = subst (λ (u : Current). AreKinFrom given u s t) same kin
kin_along given v (p ∷ trace) w s t is proper (u, step, rest) kin =
    let next_coded = coded_next v p u is step in
    let next_proper = subst (λ (x : Current). IsProper x.coded.graph) (sym step.makes)
    (step.accepted.proper (new_signal p.name) step.copies step.graph step.insertion) in
    kin_along given u trace w s t next_coded next_proper rest (kin_next given v p u s t is proper step kin)

-- ---- a conflict stays
module _ (given : CodedGraph) (trace : List TraceStep) (v : Current) (pair : ℕ × ℕ) (lineage : IsLineage given trace v)
    (c : IsKinConflict given pair) where
  kept : Keeps given v
  kept = keeps given trace v lineage

  own_origin : (s : ℕ) → s < given.graph.states → origin (given_current given) s ≡ s
  own_origin s within = get_or-range_with_len 0 given.graph.states s 0 within ∙ omega arith

  below : pair.0 < given.graph.states
  below = (let order = c.conflict.order in let within = c.conflict.within in omega (arith, order, within))

  kin_first : AreKinFrom given (given_current given) pair.0 pair.1
  kin_first = record {
    one = pair.0;
    other = pair.1;
    within = below;
    other_within = c.conflict.within;
    from = own_origin pair.0 below;
    other_from = own_origin pair.1 c.conflict.within;
    new = λ a above. ap (λ (w : ℕ). bit w a) c.conflict.same_code;
    kin = c.kin;
  }

  kin_last : AreKinFrom given v pair.0 pair.1
  kin_last = kin_along given (given_current given) trace v pair.0 pair.1 lineage.coded lineage.proper lineage.grown
      kin_first

  one_code : code v.coded kin_last.one ≡ code v.coded kin_last.other
  one_code =
      let k = kin_last.one in
      let m = kin_last.other in
      let origins : code given (origin v k) ≡ code given (origin v m) =
      ap (code given) kin_last.from ∙ c.conflict.same_code ∙ sym (ap (code given) kin_last.other_from) in
      same_codes (code v.coded k) (code v.coded m) (λ a. elim (cases_lt a (length given.graph.signals)) [
        | inl low ↦ kept.values k a kin_last.within low ∙ ap (λ (w : ℕ). bit w a) origins
            ∙ sym (kept.values m a kin_last.other_within low)
        | inr above ↦ kin_last.new a above
      ])

  twins : AreTwins v kin_last.one kin_last.other pair.0 pair.1
  twins = record {
    one = record { there = kin_last.within; origin_is = kin_last.from };
    other = record { there = kin_last.other_within; origin_is = kin_last.other_from };
    same_code = one_code;
  }

  stays : HasNoConflict v.coded → ⊥
  stays none =
      let found = twins_conflict given v kin_last.one kin_last.other pair.0 pair.1 c.conflict.event kept twins
      c.conflict.non_input c.conflict.differ in
      none found.0 found.1

pub never_resolved : KinStayUnresolved
never_resolved given trace v pair lineage c none = stays given trace v pair lineage c none
