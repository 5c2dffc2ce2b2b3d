-- What is reached from a state along arcs either way is a component, and what is reached along arcs out is a rest.
use Rattle.std.proofs.Common.{◌≡◌, ℕ, ◌<◌, Bool, sym, refl, subst, List, [], ◌∷◌, ◌++◌, Contains, inl, inr}
use Rattle.si_base.specs.declared.ids.Event.{Event}
use Rattle.si_base.specs.Graph.{StateGraph, IsGraph}
use Rattle.si_base.specs.Codes.{CodedGraph}
use Rattle.si_base.proofs.StepCodes.{step_within}
use Rattle.si_graph.specs.declared.closure.Along.TheVariants.{Out, Both}
use Rattle.si_graph.specs.Closure.{IsNext, Path}
use Rattle.si_base.specs.Sets.{IsIn}
use Rattle.si_regions.specs.Connected.{Adjoins, PathOf, IsComponent}
use Rattle.si_regions.specs.Regions.{Enables, IsSetOf, IsEntered, IsQuiet, WalkThrough, IsReachedThrough}
use Rattle.si_regions.specs.Loops.Searching.{AreMarksOf, IsReachedIn, IsSeed}
use Rattle.si_graph.proofs.ClosureLemmas.{reached_on}
use Rattle.si_regions.proofs.StateLists.{contains_only, only_in}

-- ---- paths either way
pub adjoins_back : (g : StateGraph) (s t : ℕ) → Adjoins g s t → Adjoins g t s
adjoins_back g s t (inl leads) = inr leads
adjoins_back g s t (inr leads) = inl leads

path_push : (g : StateGraph) (P : ℕ → Type 0) (s : ℕ) (path : List ℕ) (t u : ℕ) → PathOf g P s path t
    → Adjoins g t u → P u → PathOf g P s (path ++ u ∷ []) u
path_push g P s [] t u p beside here = (subst (λ x. Adjoins g x u) (sym p) beside, here, refl)
path_push g P s (v ∷ vs) t u p beside here = (p.0, p.1, path_push g P v vs t u p.2 beside here)

path_back : (g : StateGraph) (P : ℕ → Type 0) (s : ℕ) (path : List ℕ) (t : ℕ) → P s → PathOf g P s path t
    → (back : List ℕ) × PathOf g P t back s
path_back g P s [] t here p = ([], sym p)
path_back g P s (u ∷ us) t here p =
    let rest = path_back g P u us t p.1 p.2 in
    (rest.0 ++ s ∷ [], path_push g P t rest.0 u s rest.1 (adjoins_back g s u p.0) here)

path_join : (g : StateGraph) (P : ℕ → Type 0) (s : ℕ) (path : List ℕ) (t : ℕ) (more : List ℕ) (u : ℕ)
    → PathOf g P s path t → PathOf g P t more u → PathOf g P s (path ++ more) u
path_join g P s [] t more u p q = subst (λ x. PathOf g P x more u) (sym p) q
path_join g P s (v ∷ vs) t more u p q = (p.0, p.1, path_join g P v vs t more u p.2 q)

-- ---- components
module _ (g : StateGraph) (e : Event) (enabling : List Bool) (s : ℕ) (er : List ℕ)
    (marks : AreMarksOf g (Enables g e) enabling) (here : IsIn enabling s)
    (reached : IsSetOf (IsReachedIn g Both enabling (s ∷ [])) er) where
  pub er_has : Contains er s
  er_has =
      (reached.exactly s).1 (record { seed = s; there = (contains_only s, here); path = []; leads = refl })

  path_in : (t : ℕ) (path : List ℕ) (u : ℕ) → Contains er t → IsIn enabling t → Path g Both enabling t path u
      → PathOf g (Contains er) t path u × IsIn enabling u
  path_in t [] u in_er enables leads = (leads, subst (λ k. IsIn enabling k) leads enables)
  path_in t (v ∷ vs) u in_er enables leads =
      let next : Contains er v =
      (reached.exactly v).1 (reached_on (IsNext g Both enabling) (IsSeed enabling (s ∷ [])) t v
      ((reached.exactly t).0 in_er) leads.0) in
      let rest = path_in v vs u next leads.0.1 leads.1 in
      ((leads.0.0, next, rest.0), rest.1)

  from_start : (t : ℕ) → Contains er t → (path : List ℕ) × PathOf g (Contains er) s path t × IsIn enabling t
  from_start t there =
      let r = (reached.exactly t).0 there in
      let same : r.seed ≡ s = only_in s r.seed r.there.0 in
      let leads : Path g Both enabling s r.path t = subst (λ k. Path g Both enabling k r.path t) same r.leads in
      let found = path_in s r.path t er_has here leads in
      (r.path, found.0, found.1)

  pub is_component : IsComponent g (Enables g e) er
  is_component = record {
    in_order = reached.in_order;
    some = (s, er_has);
    members = λ t there. (marks.exactly t).0 (from_start t there).2;
    connected = λ t u one other. (
        let to_t = from_start t one in
        let to_u = from_start u other in
        let back = path_back g (Contains er) s to_t.0 t er_has to_t.1 in
        record {
          begins = one;
          path = back.0 ++ to_u.0;
          leads = path_join g (Contains er) t back.0 s to_u.0 u back.1 to_u.1;
        });
    maximal = λ t u there beside enables.
        (reached.exactly u).1 (reached_on (IsNext g Both enabling) (IsSeed enabling (s ∷ [])) t u
        ((reached.exactly t).0 there)
        (beside, (marks.exactly u).1 enables));
  }

-- ---- rests
module _ (c : CodedGraph) (e : Event) (resting : List Bool) (sr qr : List ℕ) (graph : IsGraph c.graph)
    (marks : AreMarksOf c.graph (λ t. (t < c.graph.states) × IsQuiet c e t) resting)
    (reached : IsSetOf (IsReachedIn c.graph Out resting sr) qr) where
  to_walk : (s : ℕ) (path : List ℕ) (t : ℕ) → IsIn resting s → Path c.graph Out resting s path t
      → (es : List Event) × WalkThrough c.graph (IsQuiet c e) s es t
  to_walk s [] t here leads = ([], (((marks.exactly s).0 here).1, leads))
  to_walk s (u ∷ us) t here leads =
      let rest = to_walk u us t leads.0.1 leads.1 in
      (leads.0.0.0 ∷ rest.0, (((marks.exactly s).0 here).1, u, leads.0.0.1, rest.1))

  begin_quiet : (s : ℕ) (es : List Event) (t : ℕ) → WalkThrough c.graph (IsQuiet c e) s es t → IsQuiet c e s
  begin_quiet s [] t walk = walk.0
  begin_quiet s (f ∷ fs) t walk = walk.0

  to_path : (s : ℕ) (es : List Event) (t : ℕ) → WalkThrough c.graph (IsQuiet c e) s es t
      → (path : List ℕ) × Path c.graph Out resting s path t
  to_path s [] t walk = ([], walk.1)
  to_path s (f ∷ fs) t (quiet, u, step, rest) =
      let found = to_path u fs t rest in
      let inside = (step_within c.graph s f u graph step).2 in
      (u ∷ found.0, (((f, step), (marks.exactly u).1 (inside, begin_quiet u fs t rest)), found.1))

  pub is_rest : ((t : ℕ) → Contains sr t → t < c.graph.states)
      → IsSetOf (IsReachedThrough c.graph (IsQuiet c e) sr) qr
  is_rest within = record {
    in_order = reached.in_order;
    exactly = λ t. (
      λ there. (
          let r = (reached.exactly t).0 there in
          let found = to_walk r.seed r.path t r.there.1 r.leads in
          record { begin = r.seed; there = r.there.0; events = found.0; walk = found.1 }),
      λ r. (
          let quiet = begin_quiet r.begin r.events t r.walk in
          let inside = (marks.exactly r.begin).1 (within r.begin r.there, quiet) in
          let found = to_path r.begin r.events t r.walk in
          (reached.exactly t).1
          (record { seed = r.begin; there = (r.there, inside); path = found.0; leads = found.1 })),
    );
  }

pub entered_within : (g : StateGraph) (from : List ℕ) (e : Event) (sr : List ℕ) (t : ℕ) → IsGraph g
    → IsSetOf (IsEntered g from e) sr → Contains sr t → t < g.states
entered_within g from e sr t graph is there =
    let found = (is.exactly t).0 there in (step_within g found.0 e t graph found.2).2
