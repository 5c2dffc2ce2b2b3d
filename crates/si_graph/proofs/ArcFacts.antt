-- Arcs within bounds, and arcs that tie in their order.
use Rattle.std.proofs.Common.{◌≡◌, ℕ, ◌<◌, Bool, true, false, ◌&&◌, refl, sym, arith, eqb}
use Rattle.std.specs.Cmp.{IsEquivalence, nat_eq_equiv, bool_eq_equiv, and_equiv, on_equiv}
use Rattle.std.specs.Ordering.{eq_by_cmp, is_eq, ordering_then, nat_cmp, bool_cmp}
use Rattle.std.specs.declared.cmp.Ordering.{Ordering}
use Rattle.std.specs.declared.cmp.Ordering.TheVariants.{Less, Equal, Greater}
use Rattle.std.proofs.lemmas.Bool.{and_parts, eqb-true}
use Rattle.std.proofs.lemmas.Bool.Decides.{nat_tests}
use Rattle.si_base.specs.EdgeOrder.{edge_cmp}
use Rattle.si_base.specs.declared.graph.Edge.{Edge}
use Rattle.si_base.proofs.GraphSteps.{beq-true}
use mathlib.Core.Bool.{beq}

-- the arc stays within so many states and signals
abbrev pub IsInside : ℕ → ℕ → Edge → Type 0
IsInside states signals a = (a.from < states) × (a.event.sig < signals) × (a.to < states)

-- `==` of two arcs
abbrev pub edge_eq : Edge → Edge → Bool
edge_eq x y = eqb x.from y.from && ((eqb x.event.sig y.event.sig && beq x.event.up y.event.up) && eqb x.to y.to)

pub edge_eq_equiv : IsEquivalence edge_eq
edge_eq_equiv = and_equiv (on_equiv (λ a. a.from) nat_eq_equiv)
    (and_equiv (and_equiv (on_equiv (λ a. a.event.sig) nat_eq_equiv) (on_equiv (λ a. a.event.up) bool_eq_equiv))
    (on_equiv (λ a. a.to) nat_eq_equiv))

pub is_eq-then : (o p : Ordering) → is_eq (ordering_then o p) ≡ (is_eq o && is_eq p)
is_eq-then Less p = refl
is_eq-then Equal p = refl
is_eq-then Greater p = refl

pub is_eq-nat : (a b : ℕ) → is_eq (nat_cmp a b) ≡ eqb a b
is_eq-nat a b = grind (arith, nat_tests)

is_eq-bool : (a b : Bool) → is_eq (bool_cmp b a) ≡ beq a b
is_eq-bool true true = refl
is_eq-bool true false = refl
is_eq-bool false true = refl
is_eq-bool false false = refl

-- arcs tie in their order just where they are equal
pub edge_ties : (x y : Edge) → edge_eq x y ≡ eq_by_cmp edge_cmp x y
edge_ties x y = sym (simp (is_eq-then, is_eq-nat, is_eq-bool))

same_edge : (x y : Edge) → x.from ≡ y.from → x.event.sig ≡ y.event.sig → x.event.up ≡ y.event.up → x.to ≡ y.to → x ≡ y
same_edge x y p q r s = λ i. record { from = p i; event = record { sig = q i; up = r i }; to = s i }

pub edge_eq-true : (x y : Edge) → edge_eq x y ≡ true → x ≡ y
edge_eq-true x y h =
    let a = and_parts _ _ h in
    let b = and_parts _ _ a.1 in
    let d = and_parts _ _ b.0 in
    same_edge x y (eqb-true _ _ a.0) (eqb-true _ _ d.0) (beq-true _ _ d.1) (eqb-true _ _ b.1)
