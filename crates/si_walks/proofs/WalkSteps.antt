-- A first walk that is made arc by arc, each of which brings nearer by one.
use Rattle.std.proofs.Common.{◌≡◌, ℕ, ◌+◌, ◌<◌, ◌≤◌, ◌∙◌, sym, refl, ap, subst, arith, List, [], ◌∷◌, ◌++◌, length}
use Rattle.std.proofs.Common.{inl, inr, Option, Some, None, unwrap_or, append_assoc}
use Rattle.std.proofs.lemmas.Bool.{cases_lt}
use Rattle.std.proofs.lemmas.List.{append-nil}
use Rattle.si_base.specs.declared.ids.Event.{Event}
use Rattle.si_base.specs.declared.graph.Edge.{Edge}
use Rattle.si_base.specs.Graph.{StateGraph, Step, IsGraph, arc}
use Rattle.si_base.specs.Codes.{IsDeterministic}
use Rattle.si_base.proofs.StepCodes.{step_within}
use Rattle.si_insert.proofs.InsertionKeeps.{some_same}
use Rattle.si_walks.specs.declared.arcs.Arcs.{Arcs}
use Rattle.si_walks.specs.Walks.{Takes, WalkAlong, LeadsAlong, IsFirstWalk}
use Rattle.si_walks.specs.Distances.{at, IsDistance, AreDistances, BringsNearer, IsNearer, IsFirstNearer}
use Rattle.si_walks.proofs.DistanceSearch.{not_both}
use Rattle.si_walks.proofs.FirstWalks.{HasLength, first_stay, first_step, step_of}

-- how far the target is from s
abbrev pub left : List (Option ℕ) → ℕ → ℕ
left ds s = unwrap_or (at ds s) 0

-- the walk leads from the start to s, and with a first walk from s it is one from the start
pub record IsOnWay (g : StateGraph) (arcs : Arcs) (t start : ℕ) (walk : List Event) (s : ℕ) : Type 0 where
  pub within : s < g.states
  pub leads : LeadsAlong g arcs s t
  pub goes_on : (rest : List Event) → IsFirstWalk g arcs s t rest → IsFirstWalk g arcs start t (walk ++ rest)

module _ (g : StateGraph) (arcs : Arcs) (t : ℕ) (ds : List (Option ℕ)) (is_graph : IsGraph g)
    (are : AreDistances g arcs t ds) where
  -- a state from which a walk leads has a distance, and the walk is as long at least
  pub distance_of : (s : ℕ) (es : List Event) → s < g.states → WalkAlong g arcs s es t
      → (n : ℕ) × (at ds s ≡ Some n) × (n ≤ length es) × HasLength g arcs s t n
      × ((fs : List Event) → WalkAlong g arcs s fs t → n ≤ length fs)
  distance_of s es within walk = by (at ds s) refl (are.each s within)
    where
      by : (d : Option ℕ) → at ds s ≡ d → IsDistance g arcs s t d
          → (n : ℕ) × (at ds s ≡ Some n) × (n ≤ length es) × HasLength g arcs s t n
          × ((fs : List Event) → WalkAlong g arcs s fs t → n ≤ length fs)
      by None here none = absurd (none (es, walk))
      by (Some n) here is = (n, here, is.1 es walk, is.0, is.1)

  -- from a state with a distance a walk of so many events leads, and none is shorter
  pub walk_of : (s n : ℕ) → s < g.states → at ds s ≡ Some n
      → HasLength g arcs s t n × ((fs : List Event) → WalkAlong g arcs s fs t → n ≤ length fs)
  walk_of s n within is = by (at ds s) refl (are.each s within)
    where
      by : (d : Option ℕ) → at ds s ≡ d → IsDistance g arcs s t d
          → HasLength g arcs s t n × ((fs : List Event) → WalkAlong g arcs s fs t → n ≤ length fs)
      by None here none = absurd (not_both (at ds s) n here is)
      by (Some m) here far =
          subst (λ (k : ℕ). HasLength g arcs s t k × ((fs : List Event) → WalkAlong g arcs s fs t → k ≤ length fs))
          (some_same m n (at ds s) here is) far

  -- a first walk is as long as the distance
  pub first_as_long : (s n : ℕ) (es : List Event) → s < g.states → at ds s ≡ Some n → IsFirstWalk g arcs s t es
      → length es ≡ n
  first_as_long s n es within is first =
      let far = walk_of s n within is in
      let low = far.1 es first.holds in
      let high : length es ≤ n = no_longer far.0.0 far.0.1 far.0.2 in
      omega arith
    where
      no_longer : (fs : List Event) → length fs ≡ n → WalkAlong g arcs s fs t → length es ≤ n
      no_longer fs size walk = elim (cases_lt (length fs) (length es)) [
        | inl less ↦ absurd (first.none_before fs walk (inl less))
        | inr low ↦ omega arith
      ]

  -- a walk by an arc to where one event less leads on begins with a nearer arc
  nearer_by : (s n : ℕ) (f : Event) (w : ℕ) → s < g.states → at ds s ≡ Some (n + 1) → Takes g arcs f → Step g s f w
      → HasLength g arcs w t n → IsNearer g arcs ds s (arc s f w)
  nearer_by s n f w within here takes step on =
      let inside = (step_within g s f w is_graph step).2 in
      let far = distance_of w on.0 inside on.2 in
      let longest = (walk_of s (n + 1) within here).1 (f ∷ far.3.0) (w, takes, step, far.3.2) in
      let same : far.0 ≡ n = omega (arith, far.2, on.1, longest, far.3.1) in
      record {
        from = refl;
        there = step;
        takes = takes;
        nearer = (n, here, far.1 ∙ ap Some same);
      }

  -- ---- on the way
  pub way_starts : (start : ℕ) (walk : List Event) → walk ≡ [] → start < g.states → LeadsAlong g arcs start t
      → IsOnWay g arcs t start walk start
  way_starts start walk none within leads =
      record { within = within; leads = leads; goes_on = λ rest is. rw none is }

  pub way_more : IsDeterministic g → (start : ℕ) (walk : List Event) (s : ℕ) (a : Edge) (longer : List Event)
      → IsOnWay g arcs t start walk s → IsFirstNearer g arcs ds s a → longer ≡ walk ++ a.event ∷ []
      → IsOnWay g arcs t start longer a.to
  way_more one start walk s a longer way first is =
      let near = first.is in
      let step = step_of g s a near.from near.there in
      let inside = (step_within g s a.event a.to is_graph step).2 in
      let n = near.nearer.0 in
      let here = near.nearer.1 in
      let far = walk_of a.to n inside near.nearer.2 in
      record {
        within = inside;
        leads = (far.0.0, far.0.2);
        goes_on = λ rest first_rest. (
            let size = first_as_long a.to n rest inside near.nearer.2 first_rest in
            let whole = first_step g arcs s t n a.event a.to rest one near.takes step size first_rest
            (walk_of s (n + 1) way.within here).1
            (λ f w takes there on. first.first (arc s f w) (nearer_by s n f w way.within here takes there on)) in
            let joined : longer ++ rest ≡ walk ++ a.event ∷ rest =
            ap (λ (xs : List Event). xs ++ rest) is ∙ append_assoc walk (a.event ∷ []) rest in
            rw joined (way.goes_on (a.event ∷ rest) whole));
      }

  pub way_smaller : (s : ℕ) (a : Edge) → IsFirstNearer g arcs ds s a → left ds a.to < left ds s
  way_smaller s a first =
      let near = first.is.nearer in
      rw (near.1, near.2) (omega arith)

  pub way_ends : (start : ℕ) (walk : List Event) (s : ℕ) → IsOnWay g arcs t start walk s
      → ((a : Edge) → IsNearer g arcs ds s a → ⊥) → IsFirstWalk g arcs start t walk
  way_ends start walk s way none =
      let far = distance_of s way.leads.0 way.within way.leads.1 in
      let there : s ≡ t = stays far.0 far.1 far.3.0 far.3.1 far.3.2 in
      let whole = way.goes_on [] (subst (λ (x : ℕ). IsFirstWalk g arcs x t []) (sym there) (first_stay g arcs t)) in
      subst (λ (xs : List Event). IsFirstWalk g arcs start t xs) (append-nil walk) whole
    where
      stays : (n : ℕ) → at ds s ≡ Some n → (es : List Event) → length es ≡ n → WalkAlong g arcs s es t → s ≡ t
      stays n here [] size walk_on = walk_on
      stays n here (e ∷ es) size (u, takes, step, walk_on) =
          let more : n ≡ length es + 1 = omega arith in
          let near =
          nearer_by s (length es) e u way.within (here ∙ ap Some more) takes step (es, refl, walk_on) in
          absurd (none (arc s e u) near)

-- ---- at the arcs out of a state
-- a nearer arc by the event of an arc shows that this one is nearer too
pub nearer_too : (g : StateGraph) (arcs : Arcs) (ds : List (Option ℕ)) (s : ℕ) (b : Edge) (e : Event) (u : ℕ)
    → IsDeterministic g → IsNearer g arcs ds s b → Step g s e u → b.event ≡ e
    → Takes g arcs e × BringsNearer ds s u
nearer_too g arcs ds s b e u one near step same =
    let there = step_of g s b near.from near.there in
    let state : b.to ≡ u = one s e b.to u (subst (λ (x : Event). Step g s x b.to) same there) step in
    (subst (Takes g arcs) same near.takes, subst (BringsNearer ds s) state near.nearer)
