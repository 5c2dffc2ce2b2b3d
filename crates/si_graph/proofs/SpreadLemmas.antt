-- Changes spread along the arcs.
use Rattle.std.proofs.Common.{◌≡◌, ◌≢◌, ℕ, ◌+◌, ◌^◌, ◌<◌, ◌≤◌, ◌⊎◌, Bool, true, false, not, cond, List, [], ◌∷◌, ◌++◌}
use Rattle.std.proofs.Common.{length, get_or, replicate, take, All, Contains, refl, sym, ap, subst, ◌∙◌, arith, inl}
use Rattle.std.proofs.Common.{inr, if◌then◌else◌, get_or-set_same, get_or-set_other, length-set, slice_index_or}
use Rattle.std.proofs.Common.{slice_set}
use Rattle.std.proofs.lemmas.Bool.{cases_Bool, true≢false}
use Rattle.std.proofs.lemmas.List.{length_push, set-get_or, take_all, length-replicate, get_or-replicate}
use Rattle.std.proofs.lemmas.List.Elements.{Contains-push, Contains-push_cases, Contains-append_left}
use Rattle.std.proofs.lemmas.List.Elements.{Contains-append_right, Contains-append_cases, All-contains, All-more}
use Rattle.std.proofs.lemmas.List.Elements.{All-weaker}
use Rattle.std.proofs.lemmas.List.Sums.{sum_by-set}
use Rattle.si_base.specs.declared.ids.Event.{Event}
use Rattle.si_base.specs.declared.graph.Edge.{Edge}
use Rattle.si_base.specs.Bits.{bit, flip}
use Rattle.si_base.specs.Graph.{StateGraph, Step, Walk, arc}
use Rattle.si_base.specs.Codes.{IsConnected, parity}
use Rattle.si_base.proofs.CodeParity.{turn}
use Rattle.si_base.proofs.BitFacts.{same_codes}
use Rattle.si_graph.specs.Loops.Arcs.{AreOut}
use Rattle.si_graph.specs.Loops.Changes.{IsChange, AreChanges, LeadsInto, AreSpread, left_to_do}
use Rattle.si_base.specs.Sets.{IsIn}
use Rattle.si_graph.proofs.SearchLemmas.{stays_in, in_cases, is_set, in_none, Walk-push}
use Rattle.si_graph.proofs.ValueLemmas.{bit-xor}

-- ---- changes along walks
pub turn_swap : (p q r : Bool) → turn (turn p q) r ≡ turn (turn p r) q
turn_swap true true true = refl
turn_swap true true false = refl
turn_swap true false true = refl
turn_swap true false false = refl
turn_swap false true true = refl
turn_swap false true false = refl
turn_swap false false true = refl
turn_swap false false false = refl

pub flip_swap : (k m n : ℕ) → flip (flip k m) n ≡ flip (flip k n) m
flip_swap k m n = same_codes _ _ (λ i.
    rw (bit-xor (flip k m) (2 ^ n) i, bit-xor k (2 ^ m) i, bit-xor (flip k n) (2 ^ m) i, bit-xor k (2 ^ n) i)
    (turn_swap (bit k i) (bit (2 ^ m) i) (bit (2 ^ n) i)))

along_push : (es : List Event) (e : Event) → parity (es ++ e ∷ []) ≡ flip (parity es) e.sig
along_push [] e = refl
along_push (f ∷ es) e = ap (λ k. flip k f.sig) (along_push es e) ∙ flip_swap (parity es) e.sig f.sig

-- the change of a state that s leads to
pub change_more : (g : StateGraph) (s t change : ℕ) (e : Event) → IsChange g s change → Step g s e t
    → IsChange g t (flip change e.sig)
change_more g s t change e is step = record {
  events = is.events ++ e ∷ [];
  walk = Walk-push g is.events g.start s t e is.walk step;
  change_is = ap (λ k. flip k e.sig) is.change_is ∙ sym (along_push is.events e);
}

-- ---- one state more is reached
leads_more : (g : StateGraph) (reached : List Bool) (s u : ℕ) → s < length reached → LeadsInto g u reached
    → LeadsInto g u (slice_set reached s true)
leads_more g reached s u within into e t step = stays_in reached s t within (into e t step)

pub spread_more : (g : StateGraph) (reached : List Bool) (changes waiting rest : List ℕ) (s change : ℕ)
    (reached' : List Bool) (changes' waiting' : List ℕ)
    → s < g.states → IsChange g s change → AreSpread g reached changes (waiting ++ rest)
    → reached' ≡ slice_set reached s true
    → changes' ≡ (if slice_index_or reached s false then changes else slice_set changes s change)
    → waiting' ≡ (if slice_index_or reached s false then waiting else waiting ++ s ∷ [])
    → AreSpread g reached' changes' (waiting' ++ rest) × (left_to_do reached' waiting' ≤ left_to_do reached waiting)
spread_more g reached changes waiting rest s change reached' changes' waiting' within is spread
    reached_is changes_is waiting_is =
    elim (cases_Bool (slice_index_or reached s false)) [
      | inl known ↦ (
          let r : reached' ≡ reached = reached_is ∙ ap (slice_set reached s) (sym known) ∙ set-get_or reached s false in
          let k : changes' ≡ changes = rw known at changes_is in
          let w : waiting' ≡ waiting = rw known at waiting_is in
          rw (r, k, w) (spread, omega arith))
      | inr fresh ↦ (
          let k : changes' ≡ slice_set changes s change = rw fresh at changes_is in
          let w : waiting' ≡ waiting ++ s ∷ [] = rw fresh at waiting_is in
          rw (reached_is, k, w) (added fresh, less fresh))
    ]
  where
    in_range : s < length reached
    in_range = omega (arith, spread.size)

    less : slice_index_or reached s false ≡ false
        → left_to_do (slice_set reached s true) (waiting ++ s ∷ []) ≤ left_to_do reached waiting
    less fresh = omega
        (arith, length_push waiting s, rw fresh at (sum_by-set (λ x. cond (not x) 1 0) reached s true false in_range))

    apart : slice_index_or reached s false ≡ false → (t : ℕ) → IsIn reached t → t ≢ s
    apart fresh t there same = true≢false (sym there ∙ ap (λ n. slice_index_or reached n false) same ∙ fresh)

    moved : (t : ℕ) → Contains (waiting ++ rest) t → Contains ((waiting ++ s ∷ []) ++ rest) t
    moved t there = elim (Contains-append_cases waiting rest t there) [
      | inl early ↦ Contains-append_left (waiting ++ s ∷ []) rest t (Contains-append_left waiting (s ∷ []) t early)
      | inr late ↦ Contains-append_right (waiting ++ s ∷ []) rest t late
    ]

    back : (t : ℕ) → Contains ((waiting ++ s ∷ []) ++ rest) t → Contains (waiting ++ rest) t ⊎ (s ≡ t)
    back t there = elim (Contains-append_cases (waiting ++ s ∷ []) rest t there) [
      | inl early ↦ elim (Contains-push_cases waiting s t early) [
        | inl old ↦ inl (Contains-append_left waiting rest t old)
        | inr new ↦ inr new
      ]
      | inr late ↦ inl (Contains-append_right waiting rest t late)
    ]

    added : slice_index_or reached s false ≡ false
        → AreSpread g (slice_set reached s true) (slice_set changes s change) ((waiting ++ s ∷ []) ++ rest)
    added fresh = record {
      size = length-set reached s true ∙ spread.size;
      count = length-set changes s change ∙ spread.count;
      begun = stays_in reached s g.start in_range spread.begun;
      changes_are = λ t there. elim (in_cases reached s t there) [
        | inl same ↦ rw (same, get_or-set_same changes s change 0 (omega (arith, spread.count))) is
        | inr old ↦ rw (get_or-set_other changes s t change 0 (apart fresh t old)) (spread.changes_are t old)
      ];
      waiting_reached = λ t there. elim (back t there) [
        | inl old ↦ stays_in reached s t in_range (spread.waiting_reached t old)
        | inr new ↦ rw (← new, get_or-set_same reached s true false in_range) refl
      ];
      followed = λ t there. elim (in_cases reached s t there) [
        | inl same ↦ inl (rw same (Contains-append_left (waiting ++ s ∷ []) rest s (Contains-push waiting s)))
        | inr old ↦ elim (spread.followed t old) [
          | inl waits ↦ inl (moved t waits)
          | inr into ↦ inr (leads_more g reached s t in_range into)
        ]
      ];
    }

-- ---- at the start
pub spread_start : (g : StateGraph) → g.start < g.states
    → AreSpread g (slice_set (replicate g.states false) g.start true) (replicate g.states 0) (g.start ∷ [])
spread_start g starts = record {
  size = length-set (replicate g.states false) g.start true ∙ length-replicate g.states false;
  count = length-replicate g.states 0;
  begun = here;
  changes_are = λ s there. rw (only s there) (record {
    events = [];
    walk = refl;
    change_is = get_or-replicate g.states g.start 0 0 starts;
  });
  waiting_reached = λ s waits. elim (Contains-push_cases [] g.start s waits) [
    | inl none ↦ absurd (omega (arith, none.1))
    | inr same ↦ subst (λ (u : ℕ). IsIn (slice_set (replicate g.states false) g.start true) u) same here
  ];
  followed = λ s there.
      inl (subst (λ (u : ℕ). Contains (g.start ∷ []) u) (sym (only s there)) (Contains-push [] g.start));
}
  where
    here : IsIn (slice_set (replicate g.states false) g.start true) g.start
    here = is_set (replicate g.states false) g.start (omega (arith, starts, length-replicate g.states false))

    only : (s : ℕ) → IsIn (slice_set (replicate g.states false) g.start true) s → s ≡ g.start
    only s there = elim (in_cases (replicate g.states false) g.start s there) [
      | inl same ↦ same
      | inr none ↦ absurd (in_none g.states s none)
    ]

-- ---- the arcs out of a state
pub step_out : (g : StateGraph) (s : ℕ) (arcs : List Edge) (i : ℕ) (x : Edge) → AreOut g s arcs → i < length arcs
    → x ≡ get_or arcs i x → Step g s x.event x.to
step_out g s arcs i x out within at =
    let both = (out.exactly x).0 (i, within, sym at) in
    subst (λ (n : ℕ). Step g n x.event x.to) both.1 both.0

pub into_more : (arcs : List Edge) (i : ℕ) (x : Edge) (reached reached' : List Bool) → i < length arcs
    → x ≡ get_or arcs i x → x.to < length reached → reached' ≡ slice_set reached x.to true
    → All (λ a. IsIn reached a.to) (take i arcs) → All (λ a. IsIn reached' a.to) (take (i + 1) arcs)
into_more arcs i x reached reached' within at below is into =
    rw is (All-more (λ (a : Edge). IsIn (slice_set reached x.to true) a.to) arcs i x within
    (All-weaker (λ (a : Edge). IsIn reached a.to) (λ (a : Edge). IsIn (slice_set reached x.to true) a.to)
    (λ a there. stays_in reached x.to a.to below there) (take i arcs) into)
    (subst (λ (a : Edge). IsIn (slice_set reached x.to true) a.to) at (get_or-set_same reached x.to true false below)))

-- once its arcs were followed a state doesn't wait any more
pub spread_done : (g : StateGraph) (reached : List Bool) (changes waiting : List ℕ) (s : ℕ) (arcs : List Edge) (n : ℕ)
    → AreOut g s arcs → length arcs ≤ n → All (λ a. IsIn reached a.to) (take n arcs)
    → AreSpread g reached changes (waiting ++ s ∷ []) → AreSpread g reached changes waiting
spread_done g reached changes waiting s arcs n out all into spread = record {
  size = spread.size;
  count = spread.count;
  begun = spread.begun;
  changes_are = spread.changes_are;
  waiting_reached = λ t there. spread.waiting_reached t (Contains-append_left waiting (s ∷ []) t there);
  followed = λ t there. elim (spread.followed t there) [
    | inl waits ↦ elim (Contains-push_cases waiting s t waits) [
      | inl old ↦ inl old
      | inr last ↦ inr (subst (λ (u : ℕ). LeadsInto g u reached) last own)
    ]
    | inr leads ↦ inr leads
  ];
}
  where
    each : All (λ (a : Edge). IsIn reached a.to) arcs
    each = rw (take_all n arcs all) at into

    own : LeadsInto g s reached
    own e t step =
        All-contains (λ (a : Edge). IsIn reached a.to) arcs (arc s e t) each ((out.exactly (arc s e t)).1 (step, refl))

-- ---- at the end
all_reached : (g : StateGraph) (reached : List Bool) → ((s : ℕ) → IsIn reached s → LeadsInto g s reached)
    → (es : List Event) (s t : ℕ) → IsIn reached s → Walk g s es t → IsIn reached t
all_reached g reached closed [] s t here walk = subst (λ (x : ℕ). IsIn reached x) walk here
all_reached g reached closed (e ∷ es) s t here walk =
    all_reached g reached closed es walk.0 t (closed s here e walk.0 walk.1) walk.2

pub spread_over : (g : StateGraph) (reached : List Bool) (changes waiting : List ℕ) → IsConnected g
    → AreSpread g reached changes waiting → waiting ≡ [] → AreChanges g changes
spread_over g reached changes waiting connected spread none = record {
  count = spread.count;
  changes_are = λ s within. let walk = connected s within in
      spread.changes_are s (all_reached g reached (λ u there. elim (spread.followed u there) [
        | inl waits ↦ absurd (nowhere u (rw none at waits))
        | inr into ↦ into
      ]) walk.0 g.start s spread.begun walk.1);
}
  where
    nowhere : (u : ℕ) → Contains [] u → ⊥
    nowhere u there = omega (arith, there.1)
