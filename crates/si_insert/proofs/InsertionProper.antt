-- the inserted graph for a lawful partition: reachable, deterministic, commutative, consistent with its codes.
use Rattle.std.proofs.Common.{◌≡◌, ℕ, suc, ◌<◌, ◌^◌, Bool, true, false, not, List, [], ◌∷◌, ◌++◌, length}
use Rattle.std.proofs.Common.{slice_get, map, Option, Some, refl, sym, ap, subst, ◌∙◌, arith, inl, inr}
use Rattle.std.proofs.lemmas.Option.{slice_get_within, get_or_from_slice_get, slice_get-map}
use Rattle.std.proofs.lemmas.Nat.{xor_lt}
use Rattle.std.proofs.Math.Pow.{pow-lt}
use Rattle.std.specs.Option.{option_map}
use Rattle.si_base.specs.declared.ids.Event.{Event}
use Rattle.si_base.specs.declared.graph.Signal.{Signal}
use Rattle.si_base.specs.Bits.{bit}
use Rattle.si_base.specs.Graph.{StateGraph, Step, Walk, IsReachable, IsGraph}
use Rattle.si_base.specs.Codes.{CodedGraph, code, IsCoded, IsDeterministic, IsConnected}
use Rattle.si_base.specs.Proper.{IsCommutative}
use Rattle.si_base.proofs.RightGateLemmas.{step_within, code_fits}
use Rattle.si_base.proofs.BitFacts.{flip-same, flip-other}
use Rattle.si_base.proofs.StepCodes.{no_bit}
use Rattle.si_insert.specs.declared.partition.Class.{Class}
use Rattle.si_insert.specs.Partition.{class_of, IsLawful}
use Rattle.si_insert.specs.Insertion.{Copy, IsCopy, IsCopied, IsSwitch, Moves, entry, IsInsertedGraph, copy_code, coded}
use Rattle.si_insert.proofs.PartitionClasses.{leaves, enters, entered}
use Rattle.si_insert.proofs.InsertionCopies.{copy, one_place, copy_at, is_copy, placed, moves_one_way, moves_commute}
use Rattle.si_insert.proofs.InsertionCopies.{moves_to_copy}

-- ---- steps between places, moves between copies
pub leads : (g : StateGraph) (classes : List Class) (new : Signal) (copies : List Copy) (h : StateGraph) (k : ℕ)
    (e : Event) (m : ℕ) (x : Copy) → IsInsertedGraph g classes new copies h → Step h k e m → slice_get copies k ≡ Some x
    → (y : Copy) × (slice_get copies m ≡ Some y) × Moves g classes x e y
leads g classes new copies h k e m x is step at =
    let j = (is.arcs k e m).0 step in
    let from_is : slice_get copies k ≡ Some j.from = j.from_is in
    let same : j.from ≡ x = cc in
    let P : Copy → Type 0 = λ z. Moves g classes z e j.to in
    (j.to, j.to_is, subst P same j.moves)

pub from_copy : (g : StateGraph) (classes : List Class) (new : Signal) (copies : List Copy) (h : StateGraph) (k : ℕ)
    (e : Event) (m : ℕ) → IsInsertedGraph g classes new copies h → Step h k e m
    → (x : Copy) × (slice_get copies k ≡ Some x) × (y : Copy) × (slice_get copies m ≡ Some y) × Moves g classes x e y
from_copy g classes new copies h k e m is step =
    let j = (is.arcs k e m).0 step in (j.from, j.from_is, j.to, j.to_is, j.moves)

pub made : (g : StateGraph) (classes : List Class) (new : Signal) (copies : List Copy) (h : StateGraph) (k : ℕ)
    (e : Event) (m : ℕ) (x y : Copy) → IsInsertedGraph g classes new copies h → slice_get copies k ≡ Some x
    → slice_get copies m ≡ Some y → Moves g classes x e y → Step h k e m
made g classes new copies h k e m x y is at_k at_m moves =
    (is.arcs k e m).1 (record { from = x; to = y; from_is = at_k; to_is = at_m; moves = moves })

pub goes_on : (g : StateGraph) (classes : List Class) (new : Signal) (copies : List Copy) (h : StateGraph) (k : ℕ)
    (e : Event) (x y : Copy) → IsGraph g → IsLawful g classes → IsInsertedGraph g classes new copies h
    → slice_get copies k ≡ Some x → Moves g classes x e y → (m : ℕ) × (slice_get copies m ≡ Some y) × Step h k e m
goes_on g classes new copies h k e x y graph lawful is at moves =
    let to =
    placed g classes new copies h y is (moves_to_copy g classes x e y graph lawful
    (is_copy g classes new copies h k x is at) moves) in
    (to.0, to.2, made g classes new copies h k e to.0 x y is at to.2 moves)

pub within : (copies : List Copy) (g : StateGraph) (classes : List Class) (new : Signal) (h : StateGraph) (k : ℕ)
    (x : Copy) → IsInsertedGraph g classes new copies h → slice_get copies k ≡ Some x → k < h.states
within copies g classes new h k x is at = let inside = slice_get_within copies k x at in omega (arith, is.count)

-- ---- deterministic and commutative
pub deterministic : (g : StateGraph) (classes : List Class) (new : Signal) (copies : List Copy) (h : StateGraph)
    → IsGraph g → IsDeterministic g → IsInsertedGraph g classes new copies h → IsDeterministic h
deterministic g classes new copies h graph one is s e t u st su =
    let a = from_copy g classes new copies h s e t is st in
    let b = leads g classes new copies h s e u a.0 is su a.1 in
    let same : a.2 ≡ b.0 = moves_one_way g classes a.0 e a.2 b.0 graph one a.4 b.2 in
    one_place copies t u a.2 is.in_order a.3 (b.1 ∙ ap Some (sym same))

pub commutative : (g : StateGraph) (classes : List Class) (new : Signal) (copies : List Copy) (h : StateGraph)
    → IsGraph g → IsDeterministic g → IsCommutative g → IsInsertedGraph g classes new copies h → IsCommutative h
commutative g classes new copies h graph one swaps is s a c t w u w2 st tw su uw =
    let p = from_copy g classes new copies h s a t is st in
    let q = leads g classes new copies h t c w p.2 is tw p.3 in
    let r = leads g classes new copies h s c u p.0 is su p.1 in
    let v = leads g classes new copies h u a w2 r.0 is uw r.1 in
    let same : q.0 ≡ v.0 = moves_commute g classes p.0 p.2 q.0 r.0 v.0 a c graph one swaps p.4 q.2 r.2 v.2 in
    one_place copies w w2 q.0 is.in_order q.1 (v.1 ∙ ap Some (sym same))

-- ---- each copy is reachable
pub walk_on : (g : StateGraph) (s : ℕ) (es : List Event) (t : ℕ) (e : Event) (u : ℕ) → Walk g s es t → Step g t e u
    → Walk g s (es ++ e ∷ []) u
walk_on g s [] t e u walk step = let P : ℕ → Type 0 = λ k. Step g k e u in (u, subst P (sym walk) step, refl)
walk_on g s (f ∷ es) t e u walk step = (walk.0, walk.1, walk_on g walk.0 es t e u walk.2 step)

reach_on : (g : StateGraph) (t : ℕ) (e : Event) (u : ℕ) → IsReachable g t → Step g t e u → IsReachable g u
reach_on g t e u reached step = (reached.0 ++ e ∷ [], walk_on g g.start reached.0 t e u reached.1 step)

-- each place of a copy of s is reachable
abbrev AllReachable : List Copy → StateGraph → ℕ → Type 0
AllReachable copies h s = (k : ℕ) (b : Bool) → slice_get copies k ≡ Some (copy s b) → IsReachable h k

from_entry : (g : StateGraph) (classes : List Class) (new : Signal) (copies : List Copy) (h : StateGraph) (t j : ℕ)
    → IsGraph g → IsInsertedGraph g classes new copies h
    → slice_get copies j ≡ Some (copy t (entry (class_of classes t))) → IsReachable h j → AllReachable copies h t
from_entry g classes new copies h t j graph is at reached k b at_k =
    elim (entered (class_of classes t) b (is_copy g classes new copies h k (copy t b) is at_k).there) [
      | inl same ↦
          (let make : Bool → Option Copy = λ v. Some (copy t v) in
          let k_is : k ≡ j = one_place copies k j (copy t b) is.in_order at_k (at ∙ sym (ap make same)) in
          let P : ℕ → Type 0 = λ i. IsReachable h i in
          subst P (sym k_is) reached)
      | inr other ↦
          (let make : Bool → Option Copy = λ v. Some (copy t v) in
          let e : Event = record { sig = length g.signals; up = b } in
          let x = copy t (not b) in
          let at_j : slice_get copies j ≡ Some x = at ∙ ap make other.0 in
          let switch : IsSwitch g classes x e (copy t b) =
          record { new = refl; stays = refl; from = refl; to = refl; class = other.1 } in
          reach_on h j e k reached (made g classes new copies h j e k x (copy t b) is at_j at_k (inr switch)))
    ]

along : (g : StateGraph) (classes : List Class) (new : Signal) (copies : List Copy) (h : StateGraph) (s : ℕ)
    (es : List Event) (t : ℕ) → IsGraph g → IsLawful g classes → IsInsertedGraph g classes new copies h → Walk g s es t
    → AllReachable copies h s → AllReachable copies h t
along g classes new copies h s [] t graph lawful is walk all =
    let P : ℕ → Type 0 = λ k. AllReachable copies h k in subst P walk all
along g classes new copies h s (e ∷ es) t graph lawful is walk all =
    let u = walk.0 in
    let b = entry (class_of classes u) in
    let parts = step_within g s e u graph walk.1 in
    let law = lawful.arcs s e u walk.1 in
    let x_is : IsCopy g classes (copy s b) =
    record { within = parts.0; there = leaves (class_of classes s) (class_of classes u) law } in
    let x_at = placed g classes new copies h (copy s b) is x_is in
    let move : IsCopied g classes (copy s b) e (copy u b) =
    record { step = walk.1; keeps = refl; goes = enters (class_of classes s) (class_of classes u) law } in
    let y = goes_on g classes new copies h x_at.0 e (copy s b) (copy u b) graph lawful is x_at.2 (inl move) in
    let reached = reach_on h x_at.0 e y.0 (all x_at.0 b x_at.2) y.2 in
    along g classes new copies h u es t graph lawful is walk.2
    (from_entry g classes new copies h u y.0 graph is y.1 reached)

pub connected : (g : StateGraph) (classes : List Class) (new : Signal) (copies : List Copy) (h : StateGraph) → IsGraph g
    → IsConnected g → IsLawful g classes → IsInsertedGraph g classes new copies h → IsConnected h
connected g classes new copies h graph all lawful is k there =
    let x = copy_at g classes new copies h k is there in
    let walk = all x.0.state x.2.within in
    let at_start : AllReachable copies h g.start =
    from_entry g classes new copies h g.start h.start graph is is.starts ([], refl) in
    along g classes new copies h g.start walk.0 x.0.state graph lawful is walk.1 at_start k x.0.value x.1

-- ---- codes
pub code_at : (c : CodedGraph) (copies : List Copy) (h : StateGraph) (k : ℕ) (x : Copy) → slice_get copies k ≡ Some x
    → code (coded c copies h) k ≡ copy_code c x
code_at c copies h k x at =
    get_or_from_slice_get (map (copy_code c) copies) k (copy_code c x) 0
    (slice_get-map (copy_code c) copies k ∙ ap (option_map (copy_code c)) at)

pub old_bit : (c : CodedGraph) (x : Copy) (a : ℕ) → (a ≡ length c.graph.signals → ⊥)
    → bit (copy_code c x) a ≡ bit (code c x.state) a
old_bit c x a other = at x.value
  where
    at : (b : Bool) → bit (copy_code c (copy x.state b)) a ≡ bit (code c x.state) a
    at true = flip-other (code c x.state) (length c.graph.signals) a other
    at false = refl

pub new_bit : (c : CodedGraph) (x : Copy) → IsCoded c → x.state < c.graph.states
    → bit (copy_code c x) (length c.graph.signals) ≡ x.value
new_bit c x is there = at x.value
  where
    high : bit (code c x.state) (length c.graph.signals) ≡ false
    high =
        no_bit (code c x.state) (length c.graph.signals) (length c.graph.signals) (code_fits c x.state is there)
        (omega arith)

    at : (b : Bool) → bit (copy_code c (copy x.state b)) (length c.graph.signals) ≡ b
    at true = flip-same (code c x.state) (length c.graph.signals) ∙ ap not high
    at false = high

pub fits : (c : CodedGraph) (x : Copy) → IsCoded c → x.state < c.graph.states
    → copy_code c x < 2 ^ suc (length c.graph.signals)
fits c x is there = at x.value
  where
    small : code c x.state < 2 ^ length c.graph.signals
    small = code_fits c x.state is there

    more : 2 ^ length c.graph.signals < 2 ^ suc (length c.graph.signals)
    more = pow-lt (omega arith)

    at : (b : Bool) → copy_code c (copy x.state b) < 2 ^ suc (length c.graph.signals)
    at true =
        xor_lt (suc (length c.graph.signals)) (code c x.state) (2 ^ length c.graph.signals) (omega (arith, small, more))
        more
    at false = omega (arith, small, more)
