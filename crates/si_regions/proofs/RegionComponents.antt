-- Regions without their quiescent parts: each such list is of one list of regions.
use Rattle.std.proofs.Common.{◌≡◌, ℕ, ◌+◌, ◌<◌, ◌≤◌, Bool, false, ◌∙◌, sym, refl, ap, ap₂, subst, arith, List, []}
use Rattle.std.proofs.Common.{◌∷◌, ◌++◌, length, map, replicate, All, Contains, IsTrue, ◌⊎◌, ◌↔◌, get_or}
use Rattle.std.proofs.lemmas.List.{length-replicate, map-append, length-map, get_or-map, ext_get_or}
use Rattle.std.proofs.lemmas.List.Elements.{Contains-get_or, All-map}
use Rattle.si_base.specs.declared.ids.Event.{Event}
use Rattle.si_base.specs.Graph.{IsGraph, enables, event_place, rise}
use Rattle.si_base.specs.Codes.{CodedGraph, IsCoded}
use Rattle.si_base.proofs.StepCodes.{step_within}
use Rattle.si_base.proofs.GraphSteps.{step_from_enables}
use Rattle.si_graph.specs.declared.closure.Along.TheVariants.{Out}
use Rattle.si_base.specs.Sets.{IsIn}
use Rattle.si_graph.specs.Loops.Search.{idle}
use Rattle.si_graph.proofs.SearchLemmas.{in_none}
use Rattle.si_regions.specs.declared.regions.Component.{Component}
use Rattle.si_regions.specs.declared.regions.Region.{Region}
use Rattle.si_regions.specs.Connected.{IsComponent}
use Rattle.si_regions.specs.Regions.{Enables, IsSetOf, IsEntered, IsRegion, AreRegions, AreComponents}
use Rattle.si_regions.specs.Regions.{IsRegionComponent, component_of}
use Rattle.si_regions.specs.Loops.Searching.{IsIdle, IsReachedIn, RegionsTo, ComponentsTo, AreRestsAfter}
use Rattle.si_regions.proofs.ComponentLemmas.{is_rest, entered_within}
use Rattle.si_regions.proofs.RegionLemmas.{AreDone, done_none, done_more, regions_pass, regions_more, regions_event}
use Rattle.si_regions.proofs.RegionLemmas.{enables_within}
use Rattle.si_regions.proofs.UniqueRegions.{one_list, one_region}
use Rattle.si_regions.proofs.RegionsExist.{some_regions}

-- a search that begins has reached nothing
pub idle_search : (states n : ℕ) → n ≡ states → IsIdle states (idle n)
idle_search states n same = record {
  size = length-replicate n false ∙ same;
  none = λ t there. in_none n t there;
  rests = refl;
}

-- ---- the components of an event, state by state, and the states that they have
pub record AreFoundTo (c : CodedGraph) (e : Event) (s : ℕ) (components : List Component) (done : List Bool)
    : Type 0 where
  pub regions : List Region
  pub to : RegionsTo c (event_place e) s regions
  pub components_are : components ≡ map component_of regions
  pub states : AreDone e regions done

module _ (c : CodedGraph) (e : Event) where
  pub found_none : (n : ℕ) (components : List Component) → ComponentsTo c (event_place e) 0 components
      → AreFoundTo c e 0 components (replicate n false)
  found_none n components to = record {
    regions = to.regions;
    to = to.to;
    components_are = to.components_are;
    states = done_none c e n to.regions to.to;
  }

  module _ (s : ℕ) (components : List Component) (done : List Bool) (found : AreFoundTo c e s components done) where
    pub found_pass : (IsTrue (enables c.graph s e) → IsIn done s) → AreFoundTo c e (s + 1) components done
    found_pass stands = record {
      regions = found.regions;
      to = regions_pass c e s found.regions done found.states stands found.to;
      components_are = found.components_are;
      states = found.states;
    }

    pub found_more : (new : List Bool) (x : Component) → IsRegionComponent c x → x.event ≡ e → Contains x.er s
        → (IsIn done s → ⊥) → ((t : ℕ) → IsIn new t ↔ (IsIn done t ⊎ Contains x.er t))
        → AreFoundTo c e (s + 1) (components ++ x ∷ []) new
    found_more new x (r, is, same) by has fresh grown =
        let event : r.event ≡ e = ap (λ (y : Component). y.event) same ∙ by in
        let here = subst (λ (y : Component). Contains y.er s) (sym same) has in
        let more = subst (λ (y : Component). (t : ℕ) → IsIn new t ↔ (IsIn done t ⊎ Contains y.er t)) (sym same) grown in
        record {
          regions = found.regions ++ r ∷ [];
          to = regions_more c e s found.regions done r found.states fresh is event here found.to;
          components_are = ap₂ (λ (xs : List Component) (y : Component). xs ++ y ∷ []) found.components_are (sym same)
              ∙ sym (map-append component_of found.regions (r ∷ []));
          states = done_more e found.regions done new r event more found.states;
        }

    pub found_event : IsGraph c.graph → c.graph.states ≤ s → ComponentsTo c (event_place e + 1) 0 components
    found_event graph all = record {
      regions = found.regions;
      to = regions_event c (event_place e) s found.regions all (λ t f on. enables_within c.graph t f graph on) found.to;
      components_are = found.components_are;
    }

-- ---- a component with what rests after it
pub with_rests : (c : CodedGraph) (x : Component) (states : List Bool) (qr : List ℕ) → IsGraph c.graph
    → IsRegionComponent c x → AreRestsAfter c x.event states → IsSetOf (IsReachedIn c.graph Out states x.sr) qr
    → IsRegion c (record { event = x.event; er = x.er; sr = x.sr; qr = qr })
with_rests c x states qr graph (r, is, same) marks reached =
    let switched = subst (λ (y : Component). IsSetOf (IsEntered c.graph y.er y.event) y.sr) same is.switched in
    record {
      excited = subst (λ (y : Component). IsComponent c.graph (Enables c.graph y.event) y.er) same is.excited;
      switched = switched;
      quiescent = is_rest c x.event states x.sr qr graph marks reached
          (λ t there. entered_within c.graph x.er x.event x.sr t graph switched there);
    }

-- ---- regions by their components
module _ (c : CodedGraph) where
  one_by_component : (x y : Region) → IsRegion c x → IsRegion c y → component_of x ≡ component_of y → x ≡ y
  one_by_component x y a b same =
      let (s, there) = a.excited.some in
      one_region c x y s a b (ap (λ (z : Component). z.event) same) there
      (subst (λ (z : Component). Contains z.er s) same there)

  each_is_component : (components : List Component) → AreComponents c components
      → All (IsRegionComponent c) components
  each_is_component components all =
      subst (All (IsRegionComponent c)) (sym all.components_are)
      (All-map (IsRegionComponent c) component_of all.regions (λ k d within.
      (let r = get_or all.regions k d in (r, all.are.each r (Contains-get_or all.regions k d within), refl))))

  pub component_at : (components : List Component) (k : ℕ) (x : Component) → AreComponents c components
      → k < length components → x ≡ get_or components k x → IsRegionComponent c x
  component_at components k x all inside is =
      subst (IsRegionComponent c) (sym is) (each_is_component components all k x inside)

  pub event_within : (x : Component) → IsGraph c.graph → IsRegionComponent c x → x.event.sig < length c.graph.signals
  event_within x graph (r, is, same) =
      let (s, there) = is.excited.some in
      let (t, step) = step_from_enables c.graph s r.event (is.excited.members s there) in
      let within = step_within c.graph s r.event t graph step in
      subst (λ (y : Component). y.event.sig < length c.graph.signals) same within.1

  nowhere : Region
  nowhere = record { event = rise 0; er = []; sr = []; qr = [] }

  pub are_regions : (components : List Component) → AreComponents c components → (out : List Region)
      → All (IsRegion c) out → map component_of out ≡ components → AreRegions c out
  are_regions components all out each same =
      subst (AreRegions c) (sym (ext_get_or nowhere out all.regions count one)) all.are
    where
      maps : map component_of out ≡ map component_of all.regions
      maps = same ∙ all.components_are

      count : length out ≡ length all.regions
      count = sym (length-map out component_of) ∙ ap (length {A = Component}) maps
          ∙ length-map all.regions component_of

      item : (xs : List Region) (i : ℕ) → i < length xs
          → get_or (map component_of xs) i (component_of nowhere) ≡ component_of (get_or xs i nowhere)
      item xs i inside = get_or-map component_of xs i nowhere (component_of nowhere) inside

      one : (i : ℕ) → i < length out → get_or out i nowhere ≡ get_or all.regions i nowhere
      one i inside =
          let within : i < length all.regions = omega (arith, inside, count) in
          one_by_component (get_or out i nowhere) (get_or all.regions i nowhere) (each i nowhere inside)
          (all.are.each (get_or all.regions i nowhere) (Contains-get_or all.regions i nowhere within))
          (sym (item out i inside) ∙ ap (λ (xs : List Component). get_or xs i (component_of nowhere)) maps
          ∙ item all.regions i within)

-- ---- one list of components, and some list
pub one_list_of_components : (c : CodedGraph) (xs ys : List Component) → AreComponents c xs → AreComponents c ys
    → xs ≡ ys
one_list_of_components c xs ys a b =
    a.components_are ∙ ap (map component_of) (one_list c a.regions b.regions a.are b.are) ∙ sym b.components_are

pub some_components : (c : CodedGraph) → IsCoded c → (components : List Component) × AreComponents c components
some_components c coded =
    let regions = some_regions c coded in
    (map component_of regions.0, record { regions = regions.0; are = regions.1; components_are = refl })
