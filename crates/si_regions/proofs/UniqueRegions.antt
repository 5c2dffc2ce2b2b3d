-- A coded graph has one list of regions.
use Rattle.std.proofs.Common.{◌≡◌, ℕ, List, [], ◌∷◌, Contains, sym, subst}
use Rattle.si_base.specs.declared.ids.Event.{Event}
use Rattle.si_base.specs.Graph.{StateGraph}
use Rattle.si_base.specs.Codes.{CodedGraph}
use Rattle.si_regions.specs.declared.regions.Region.{Region}
use Rattle.si_regions.specs.Connected.{PathOf, IsComponent}
use Rattle.si_regions.specs.Regions.{Enables, IsSetOf, IsEntered, IsReachedThrough, IsQuiet, IsRegion, AreRegions}
use Rattle.si_regions.specs.Regions.{region_place}
use Rattle.si_base.proofs.OrderLemmas.{same_in_order}
use Rattle.si_base.proofs.GivenGraphUnique.{same_numbers}
use Rattle.si_regions.proofs.StateLists.{one_set}

-- a path through the one set stays in a component that it begins in
follows : (g : StateGraph) (P : ℕ → Type 0) (x y : List ℕ) (s : ℕ) (path : List ℕ) (t : ℕ) → IsComponent g P x
    → IsComponent g P y → Contains y s → PathOf g (Contains x) s path t → Contains y t
follows g P x y s [] t a b here p = subst (λ k. Contains y k) p here
follows g P x y s (u ∷ us) t a b here p = follows g P x y u us t a b (b.maximal s u here p.0 (a.members u p.1)) p.2

pub one_component : (g : StateGraph) (P : ℕ → Type 0) (x y : List ℕ) (s : ℕ) → IsComponent g P x → IsComponent g P y
    → Contains x s → Contains y s → x ≡ y
one_component g P x y s a b in_x in_y = same_numbers x y a.in_order b.in_order
    (λ t there. (let k = a.connected s t in_x there in follows g P x y s k.path t a b in_y k.leads))
    (λ t there. (let k = b.connected s t in_y there in follows g P y x s k.path t b a in_x k.leads))

same_region : (x y : Region) → x.event ≡ y.event → x.er ≡ y.er → x.sr ≡ y.sr → x.qr ≡ y.qr → x ≡ y
same_region x y p q r s = λ i. record { event = p i; er = q i; sr = r i; qr = s i }

-- regions of one event that share a state of their components are one
pub one_region : (c : CodedGraph) (x y : Region) (s : ℕ) → IsRegion c x → IsRegion c y → x.event ≡ y.event
    → Contains x.er s → Contains y.er s → x ≡ y
one_region c x y s a b same in_x in_y =
    let E : Event → Type 0 = λ e. IsComponent c.graph (Enables c.graph e) y.er in
    let er : x.er ≡ y.er = one_component c.graph (Enables c.graph x.event) x.er y.er s a.excited
    (subst E (sym same) b.excited) in_x in_y in
    let S : Event → Type 0 = λ e. IsSetOf (IsEntered c.graph y.er e) y.sr in
    let T : List ℕ → Type 0 = λ set. IsSetOf (IsEntered c.graph set x.event) y.sr in
    let sr : x.sr ≡ y.sr = one_set (IsEntered c.graph x.er x.event) x.sr y.sr a.switched
    (subst T (sym er) (subst S (sym same) b.switched)) in
    let Q : Event → Type 0 = λ e. IsSetOf (IsReachedThrough c.graph (IsQuiet c e) y.sr) y.qr in
    let R : List ℕ → Type 0 = λ set. IsSetOf (IsReachedThrough c.graph (IsQuiet c x.event) set) y.qr in
    let qr : x.qr ≡ y.qr = one_set (IsReachedThrough c.graph (IsQuiet c x.event) x.sr) x.qr y.qr a.quiescent
    (subst R (sym sr) (subst Q (sym same) b.quiescent)) in
    same_region x y same er sr qr

among : (c : CodedGraph) (xs ys : List Region) (r : Region) → AreRegions c xs → AreRegions c ys → Contains xs r
    → Contains ys r
among c xs ys r a b there =
    let is = a.each r there in
    let s = is.excited.some in
    let found = b.all s.0 r.event (is.excited.members s.0 s.1) in
    let same = one_region c found.0 r s.0 (b.each found.0 found.1) is found.2 found.3 s.1 in
    subst (λ q. Contains ys q) same found.1

pub one_list : (c : CodedGraph) (xs ys : List Region) → AreRegions c xs → AreRegions c ys → xs ≡ ys
one_list c xs ys a b = same_in_order region_place xs ys a.in_order b.in_order (λ r there. among c xs ys r a b there)
    (λ r there. among c ys xs r b a there)
