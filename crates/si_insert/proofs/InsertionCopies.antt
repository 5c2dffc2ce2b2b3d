-- Copies and their moves.
use Rattle.std.proofs.Common.{◌≡◌, ◌≢◌, ℕ, ◌<◌, ◌⊎◌, Bool, true, false, not, List, length, get_or, slice_get, Some}
use Rattle.std.proofs.Common.{refl, sym, ap, ap₂, subst, ◌∙◌, arith, inl, inr, Less, Equal}
use Rattle.std.proofs.lemmas.Bool.{true≢false, cases_eq, cases_order}
use Rattle.std.proofs.lemmas.Option.{slice_get_within, get_or_from_slice_get, slice_get-get_or}
use Rattle.std.specs.List.Sorted.{IsStrictlySortedBy}
use Rattle.si_base.specs.declared.ids.Event.{Event}
use Rattle.si_base.specs.declared.graph.Signal.{Signal}
use Rattle.si_base.specs.Graph.{StateGraph, Step, IsGraph}
use Rattle.si_base.specs.Codes.{IsDeterministic}
use Rattle.si_base.specs.Proper.{IsCommutative}
use Rattle.si_base.proofs.RightGateLemmas.{step_within}
use Rattle.si_base.proofs.OrderAscending.{sorted_at, nat_same, bool_same}
use Rattle.si_base.proofs.Booleans.{not_itself}
use Rattle.si_insert.specs.declared.partition.Class.{Class}
use Rattle.si_insert.specs.Partition.{class_of, IsLawful}
use Rattle.si_insert.specs.Insertion.{Copy, IsCopy, IsCopied, IsSwitch, Moves, has_copy, waits, switching, copy_cmp}
use Rattle.si_insert.specs.Insertion.{IsInsertedGraph}
use Rattle.si_insert.proofs.PartitionClasses.{arrives, switching_there, stays_within, same_goes}

abbrev pub copy : ℕ → Bool → Copy
copy s b = record { state = s; value = b }

pub same_copy : (x y : Copy) → x.state ≡ y.state → x.value ≡ y.value → x ≡ y
same_copy x y p q = let make : ℕ → Bool → Copy = λ s b. record { state = s; value = b } in ap₂ make p q

itself : (x : Copy) → copy_cmp x x ≡ Equal
itself x = rw (nat_same x.state) (bool_same x.value)

pub before_itself : (x : Copy) → copy_cmp x x ≡ Less → ⊥
before_itself x less = let e : Equal ≡ Less = sym (itself x) ∙ less in cc

-- a copy stands at one place
apart : (copies : List Copy) (k m : ℕ) (x : Copy) → IsStrictlySortedBy copy_cmp copies → slice_get copies k ≡ Some x
    → slice_get copies m ≡ Some x → k < m → ⊥
apart copies k m x sorted at_k at_m before =
    let less = sorted_at copy_cmp copies sorted k m x before (slice_get_within copies m x at_m) in
    before_itself x (rw (get_or_from_slice_get copies k x x at_k, get_or_from_slice_get copies m x x at_m) at less)

pub one_place : (copies : List Copy) (k m : ℕ) (x : Copy) → IsStrictlySortedBy copy_cmp copies
    → slice_get copies k ≡ Some x → slice_get copies m ≡ Some x → k ≡ m
one_place copies k m x sorted at_k at_m = elim (cases_order k m) [
  | inl same ↦ same
  | inr (inl before) ↦ absurd (apart copies k m x sorted at_k at_m before)
  | inr (inr after) ↦ absurd (apart copies m k x sorted at_m at_k after)
]

-- ---- places of the inserted graph and copies
pub copy_at : (g : StateGraph) (classes : List Class) (new : Signal) (copies : List Copy) (h : StateGraph) (k : ℕ)
    → IsInsertedGraph g classes new copies h → k < h.states
    → (x : Copy) × (slice_get copies k ≡ Some x) × IsCopy g classes x
copy_at g classes new copies h k is within =
    let d : Copy = record { state = 0; value = false } in
    let inside : k < length copies = omega (arith, is.count) in
    let at : slice_get copies k ≡ Some (get_or copies k d) = slice_get-get_or copies k d inside in (
      get_or copies k d,
      at,
      (is.exactly (get_or copies k d)).0
          (k, inside, get_or_from_slice_get copies k (get_or copies k d) (get_or copies k d) at),
    )

pub is_copy : (g : StateGraph) (classes : List Class) (new : Signal) (copies : List Copy) (h : StateGraph) (k : ℕ)
    (x : Copy) → IsInsertedGraph g classes new copies h → slice_get copies k ≡ Some x → IsCopy g classes x
is_copy g classes new copies h k x is at =
    (is.exactly x).0 (k, slice_get_within copies k x at, get_or_from_slice_get copies k x x at)

pub placed : (g : StateGraph) (classes : List Class) (new : Signal) (copies : List Copy) (h : StateGraph) (x : Copy)
    → IsInsertedGraph g classes new copies h → IsCopy g classes x → (k : ℕ) × (k < h.states)
    × (slice_get copies k ≡ Some x)
placed g classes new copies h x is there =
    let c = (is.exactly x).1 there in
    let at : slice_get copies c.0 ≡ Some x = slice_get-get_or copies c.0 x c.1 ∙ ap Some c.2 in
    (c.0, omega (arith, is.count), at)

-- ---- moves of copies
pub given_copied : (g : StateGraph) (classes : List Class) (x : Copy) (e : Event) (y : Copy)
    → (e.sig ≡ length g.signals → ⊥) → Moves g classes x e y → IsCopied g classes x e y
given_copied g classes x e y given (inl copied) = copied
given_copied g classes x e y given (inr switch) = absurd (given switch.new)

pub new_switches : (g : StateGraph) (classes : List Class) (x : Copy) (e : Event) (y : Copy) → IsGraph g
    → e.sig ≡ length g.signals → Moves g classes x e y → IsSwitch g classes x e y
new_switches g classes x e y graph new (inl copied) =
    let parts = step_within g x.state e y.state graph copied.step in absurd (omega (arith, parts.1))
new_switches g classes x e y graph new (inr switch) = switch

pub old_is_given : (g : StateGraph) (classes : List Class) (x : Copy) (e : Event) (y : Copy) → IsGraph g
    → IsCopied g classes x e y → e.sig ≡ length g.signals → ⊥
old_is_given g classes x e y graph copied new =
    let parts = step_within g x.state e y.state graph copied.step in omega (arith, parts.1)

pub moves_one_way : (g : StateGraph) (classes : List Class) (x : Copy) (e : Event) (y z : Copy) → IsGraph g
    → IsDeterministic g → Moves g classes x e y → Moves g classes x e z → y ≡ z
moves_one_way g classes x e y z graph one (inl a) b =
    let c = given_copied g classes x e z (old_is_given g classes x e y graph a) b in
    same_copy y z (one x.state e y.state z.state a.step c.step) (a.keeps ∙ sym c.keeps)
moves_one_way g classes x e y z graph one (inr a) b =
    let c = new_switches g classes x e z graph a.new b in
    same_copy y z (a.stays ∙ sym c.stays) (a.to ∙ sym c.to)

-- a move by a given event keeps the value, a switch the state
commute_cases : (g : StateGraph) (classes : List Class) (x t w u w2 : Copy) (a c : Event) → IsGraph g
    → IsDeterministic g → IsCommutative g
    → Moves g classes x a t → Moves g classes t c w → Moves g classes x c u → Moves g classes u a w2
    → ((a.sig ≡ length g.signals) ⊎ (a.sig ≡ length g.signals → ⊥))
    → ((c.sig ≡ length g.signals) ⊎ (c.sig ≡ length g.signals → ⊥)) → w ≡ w2
commute_cases g classes x t w u w2 a c graph one swaps xt tw xu uw (inl na) (inl nc) =
    let p = new_switches g classes x a t graph na xt in
    let q = new_switches g classes t c w graph nc tw in
    let r = new_switches g classes x c u graph nc xu in
    absurd (not_itself x.value (r.from ∙ sym q.from ∙ p.to ∙ not_back a.up x.value p.from))
  where
    not_back : (up b : Bool) → b ≡ not up → up ≡ not b
    not_back true true h = absurd (true≢false h)
    not_back true false h = refl
    not_back false true h = refl
    not_back false false h = absurd (true≢false (sym h))
commute_cases g classes x t w u w2 a c graph one swaps xt tw xu uw (inl na) (inr gc) =
    let p = new_switches g classes x a t graph na xt in
    let q = given_copied g classes t c w gc tw in
    let r = given_copied g classes x c u gc xu in
    let s = new_switches g classes u a w2 graph na uw in
    let P : ℕ → Type 0 = λ k. Step g k c w.state in
    let step : Step g x.state c w.state = subst P p.stays q.step in
    same_copy w w2 (one x.state c w.state u.state step r.step ∙ sym s.stays) (q.keeps ∙ p.to ∙ sym s.to)
commute_cases g classes x t w u w2 a c graph one swaps xt tw xu uw (inr ga) (inl nc) =
    let p = given_copied g classes x a t ga xt in
    let q = new_switches g classes t c w graph nc tw in
    let r = new_switches g classes x c u graph nc xu in
    let s = given_copied g classes u a w2 ga uw in
    let P : ℕ → Type 0 = λ k. Step g k a w2.state in
    let step : Step g x.state a w2.state = subst P r.stays s.step in
    same_copy w w2 (q.stays ∙ one x.state a t.state w2.state p.step step) (q.to ∙ sym r.to ∙ sym s.keeps)
commute_cases g classes x t w u w2 a c graph one swaps xt tw xu uw (inr ga) (inr gc) =
    let p = given_copied g classes x a t ga xt in
    let q = given_copied g classes t c w gc tw in
    let r = given_copied g classes x c u gc xu in
    let s = given_copied g classes u a w2 ga uw in
    same_copy w w2 (swaps x.state a c t.state w.state u.state w2.state p.step q.step r.step s.step)
    (q.keeps ∙ p.keeps ∙ sym r.keeps ∙ sym s.keeps)

pub moves_commute : (g : StateGraph) (classes : List Class) (x t w u w2 : Copy) (a c : Event) → IsGraph g
    → IsDeterministic g → IsCommutative g
    → Moves g classes x a t → Moves g classes t c w → Moves g classes x c u → Moves g classes u a w2 → w ≡ w2
moves_commute g classes x t w u w2 a c graph one swaps xt tw xu uw =
    commute_cases g classes x t w u w2 a c graph one swaps xt tw xu uw (cases_eq a.sig (length g.signals))
    (cases_eq c.sig (length g.signals))

-- for a lawful partition a move of a copy leads to a copy
pub moves_to_copy : (g : StateGraph) (classes : List Class) (x : Copy) (e : Event) (y : Copy) → IsGraph g
    → IsLawful g classes → IsCopy g classes x → Moves g classes x e y → IsCopy g classes y
moves_to_copy g classes x e y graph lawful there (inl copied) =
    let parts = step_within g x.state e y.state graph copied.step in
    let P : Bool → Type 0 = λ b. has_copy (class_of classes y.state) b ≡ true in
    record {
      within = parts.2;
      there = subst P (sym copied.keeps)
          (arrives (class_of classes x.state) (class_of classes y.state) x.value
          (lawful.arcs x.state e y.state copied.step) there.there copied.goes);
    }
moves_to_copy g classes x e y graph lawful there (inr switch) =
    let P : ℕ → Type 0 = λ s. s < g.states in
    let Q : Class → Type 0 = λ c. has_copy c y.value ≡ true in
    record {
      within = subst P (sym switch.stays) there.within;
      there = subst Q (sym (ap (class_of classes) switch.stays ∙ switch.class)) (switching_there e.up y.value);
    }

-- ---- the new signal's events aren't disabled, and disable no other
same_direction : (a b c : Bool) → a ≡ not b → a ≡ not c → b ≡ c
same_direction a true true h k = refl
same_direction a true false h k = absurd (true≢false (sym k ∙ h))
same_direction a false true h k = absurd (true≢false (sym h ∙ k))
same_direction a false false h k = refl

pub new_stays : (g : StateGraph) (classes : List Class) (x : Copy) (e : Event) (y : Copy) (f : Event) (z : Copy)
    → IsSwitch g classes x e y → Moves g classes x f z → e ≢ f → (v : Copy) × IsSwitch g classes z e v
new_stays g classes x e y f z switch (inl copied) apart =
    let goes : waits (switching e.up) (class_of classes z.state) (not e.up) ≡ false =
    rw (switch.class, switch.from) at copied.goes in (
      copy z.state e.up,
      record {
        new = switch.new;
        stays = refl;
        from = copied.keeps ∙ switch.from;
        to = refl;
        class = stays_within e.up (class_of classes z.state) goes;
      },
    )
new_stays g classes x e y f z switch (inr other) apart =
    let make : ℕ → Bool → Event = λ a b. record { sig = a; up = b } in
    absurd (apart (ap₂ make (switch.new ∙ sym other.new) (same_direction x.value e.up f.up switch.from other.from)))

pub new_disables_none : (g : StateGraph) (classes : List Class) (x : Copy) (e : Event) (y : Copy) (f : Event) (z : Copy)
    → IsCopied g classes x e y → IsSwitch g classes x f z → IsCopied g classes z e (copy y.state z.value)
new_disables_none g classes x e y f z copied switch =
    let goes : waits (switching f.up) (class_of classes y.state) (not f.up) ≡ false =
    rw (switch.class, switch.from) at copied.goes in
    let to_class = stays_within f.up (class_of classes y.state) goes in
    let P : ℕ → Type 0 = λ s. Step g s e y.state in
    record {
      step = subst P (sym switch.stays) copied.step;
      keeps = refl;
      goes = rw (switch.stays, switch.class, to_class) (same_goes (switching f.up) z.value);
    }
