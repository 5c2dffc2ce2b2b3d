-- Arc after arc, the signals that wait.
use Rattle.std.proofs.Common.{◌≡◌, ℕ, ◌+◌, ◌<◌, ◌≤◌, true, false, List, length, get_or, sym, ap, subst, ◌∙◌}
use Rattle.std.proofs.Common.{arith, inl, inr, Contains}
use Rattle.std.proofs.lemmas.Bool.{true≢false}
use Rattle.std.proofs.lemmas.Bool.Decides.{eqb_tells}
use Rattle.std.proofs.lemmas.List.{get_or_default}
use Rattle.si_base.specs.Bits.{bit, IsSet}
use Rattle.si_base.proofs.BitFacts.{bit-zero}
use Rattle.si_base.specs.Graph.{StateGraph, arc}
use Rattle.si_base.specs.declared.graph.Edge.{Edge}
use Rattle.si_insert.specs.declared.partition.Class.{Class}
use Rattle.si_insert.specs.Partition.{class_of}
use Rattle.si_bounds.specs.Loops.Waiting.{ArcNeverWaits, MayWait, NeverWaits, Waits}

-- ---- signals outside of the set
-- of the first arcs, so many, those of signals that aren't in the set go on
abbrev pub AreSeen : List Class → List Edge → ℕ → ℕ → Type 0
AreSeen classes edges waiting count =
    (k : ℕ) (a : Edge) → k < count → get_or edges k a ≡ a → bit waiting a.event.sig ≡ false → ArcNeverWaits classes a

pub none_seen : (classes : List Class) (edges : List Edge) (waiting : ℕ) → AreSeen classes edges waiting 0
none_seen classes edges waiting k a within at clear = absurd (omega (arith, within))

module _ (classes : List Class) (edges : List Edge) (i : ℕ) (item : Edge) (inside : i < length edges)
    (is : item ≡ get_or edges i item) (waiting : ℕ) (seen : AreSeen classes edges waiting i) where
  one_more : (next : ℕ) → ((j : ℕ) → bit next j ≡ false → bit waiting j ≡ false)
      → (bit next item.event.sig ≡ false → ArcNeverWaits classes item) → AreSeen classes edges next (i + 1)
  one_more next fewer here k a within at clear = elim (eqb_tells k i) [
    | inl same ↦ (
        let this : item ≡ a =
        is ∙ get_or_default edges i item a inside ∙ ap (λ n. get_or edges n a) (sym same.1) ∙ at in
        subst (ArcNeverWaits classes) this (here (subst (λ (b : Edge). bit next b.event.sig ≡ false) (sym this) clear)))
    | inr other ↦ (let not_last = other.1 in seen k a (grind (arith, within, not_last)) at (fewer a.event.sig clear))
  ]

  -- an arc that goes on changes nothing
  pub goes_past : ArcNeverWaits classes item → AreSeen classes edges waiting (i + 1)
  goes_past goes = one_more waiting (λ j clear. clear) (λ clear. goes)

  -- the signal of one that waits comes into the set
  pub waits_there : (next : ℕ) → IsSet waiting item.event.sig true next → AreSeen classes edges next (i + 1)
  waits_there next set = one_more next fewer (λ clear. absurd (true≢false (sym set.there ∙ clear)))
    where
      fewer : (j : ℕ) → bit next j ≡ false → bit waiting j ≡ false
      fewer j clear = elim (eqb_tells j item.event.sig) [
        | inl same ↦ absurd (true≢false (sym set.there ∙ ap (bit next) (sym same.1) ∙ clear))
        | inr other ↦ sym (set.others j other.1) ∙ clear
      ]

-- ---- signals in the set wait
abbrev pub AllWait : StateGraph → List Class → ℕ → Type 0
AllWait g classes waiting = (z : ℕ) → bit waiting z ≡ true → Waits g classes z

pub none_waits : (g : StateGraph) (classes : List Class) → AllWait g classes 0
none_waits g classes z there = absurd (true≢false (sym there ∙ bit-zero z))

pub one_waits : (g : StateGraph) (classes : List Class) (edges : List Edge) → edges ≡ g.edges
    → (i : ℕ) (item : Edge) → i < length edges → item ≡ get_or edges i item
    → (waiting next : ℕ) → IsSet waiting item.event.sig true next
    → MayWait (class_of classes item.from) (class_of classes item.to)
    → AllWait g classes waiting → AllWait g classes next
one_waits g classes edges same i item inside is waiting next set may before z there =
    elim (eqb_tells z item.event.sig) [
      | inl this ↦ record {
        from = item.from;
        event = item.event;
        to = item.to;
        step = subst (λ (es : List Edge). Contains es item) same (i, inside, sym is);
        signal = sym this.1;
        arc_waits = may;
      }
      | inr other ↦ before z (sym (set.others z other.1) ∙ there)
    ]

-- ---- the others don't
pub never_waits : (g : StateGraph) (classes : List Class) (edges : List Edge) (waiting count : ℕ) → edges ≡ g.edges
    → length edges ≤ count → AreSeen classes edges waiting count → (z : ℕ) → bit waiting z ≡ false
    → NeverWaits g classes z
never_waits g classes edges waiting count same past seen z clear s e t (k, within, at) of_z =
    let inside : k < count = omega (arith, within, past, ap length same) in
    seen k (arc s e t) inside (ap (λ (es : List Edge). get_or es k (arc s e t)) same ∙ at)
    (ap (bit waiting) of_z ∙ clear)
