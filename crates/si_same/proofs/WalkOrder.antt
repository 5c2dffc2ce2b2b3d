-- Walks in the order of a search: shorter ones first, and those of one length by their events.
use Rattle.std.proofs.Common.{◌≡◌, ℕ, ◌<◌, ◌⊎◌, sym, refl, ap, ap₂, ◌∙◌, subst, arith, List, [], ◌∷◌, ◌++◌}
use Rattle.std.proofs.Common.{length, map, inl, inr}
use Rattle.std.proofs.lemmas.List.{length_push, map-append}
use Rattle.si_base.specs.declared.ids.Event.{Event}
use Rattle.si_base.specs.Graph.{event_place}
use Rattle.si_base.specs.Order.{Before}
use Rattle.si_graph.proofs.OrderLemmas.{event_from_place}
use Rattle.si_same.specs.Same.{walk_place}

abbrev pub places : List Event → List ℕ
places es = map event_place es

-- ---- places of one length
before_push : (xs ys : List ℕ) (a b : ℕ) → Before xs ys → Before (xs ++ a ∷ []) (ys ++ b ∷ [])
before_push [] ys a b before = absurd before
before_push (x ∷ xs) [] a b before = absurd before
before_push (x ∷ xs) (y ∷ ys) a b (inl less) = inl less
before_push (x ∷ xs) (y ∷ ys) a b (inr tied) = inr (tied.0, before_push xs ys a b tied.1)

pub before_last : (xs : List ℕ) (a b : ℕ) → a < b → Before (xs ++ a ∷ []) (xs ++ b ∷ [])
before_last [] a b less = inl less
before_last (x ∷ xs) a b less = inr (refl, before_last xs a b less)

-- of lists of one length that differ in their order once each goes on by one
pub before_pushed : (xs ys : List ℕ) (a b : ℕ) → length xs ≡ length ys → Before (xs ++ a ∷ []) (ys ++ b ∷ [])
    → Before xs ys ⊎ ((xs ≡ ys) × (a < b))
before_pushed [] [] a b size (inl less) = inr (refl, less)
before_pushed [] [] a b size (inr tied) = absurd tied.1
before_pushed [] (y ∷ ys) a b size before = absurd (omega arith)
before_pushed (x ∷ xs) [] a b size before = absurd (omega arith)
before_pushed (x ∷ xs) (y ∷ ys) a b size (inl less) = inl (inl less)
before_pushed (x ∷ xs) (y ∷ ys) a b size (inr tied) = elim (before_pushed xs ys a b (omega arith) tied.1) [
  | inl before ↦ inl (inr (tied.0, before))
  | inr same ↦ inr (ap₂ (λ (n : ℕ) (ns : List ℕ). n ∷ ns) tied.0 same.0, same.1)
]

-- ---- walks
abbrev pub IsBefore : List Event → List Event → Type 0
IsBefore es fs = Before (walk_place es) (walk_place fs)

-- the one comes before the other, or is it
abbrev pub IsUpTo : List Event → List Event → Type 0
IsUpTo es fs = IsBefore es fs ⊎ (es ≡ fs)

pub same_events : (es fs : List Event) → places es ≡ places fs → es ≡ fs
same_events [] [] same = refl
same_events [] (f ∷ fs) same = cc
same_events (e ∷ es) [] same = cc
same_events (e ∷ es) (f ∷ fs) same =
    let head : event_place e ≡ event_place f = cc in
    let rest : places es ≡ places fs = cc in
    ap₂ (λ (x : Event) (xs : List Event). x ∷ xs) (event_from_place e f head) (same_events es fs rest)

places_push : (es : List Event) (e : Event) → places (es ++ e ∷ []) ≡ places es ++ event_place e ∷ []
places_push es e = map-append event_place es (e ∷ [])

-- a walk comes before those that go on from it
pub before_longer : (es : List Event) (e : Event) → IsBefore es (es ++ e ∷ [])
before_longer es e = inl (omega (arith, length_push es e))

-- walks in order stay so where each goes on
pub before_goes_on : (es fs : List Event) (e f : Event) → IsBefore es fs → IsBefore (es ++ e ∷ []) (fs ++ f ∷ [])
before_goes_on es fs e f (inl less) = inl (omega (arith, length_push es e, length_push fs f))
before_goes_on es fs e f (inr tied) = inr (
  omega (arith, tied.0, length_push es e, length_push fs f),
  rw (places_push es e, places_push fs f) (before_push (places es) (places fs) (event_place e) (event_place f) tied.1),
)

pub before_by_event : (es : List Event) (e f : Event) → event_place e < event_place f
    → IsBefore (es ++ e ∷ []) (es ++ f ∷ [])
before_by_event es e f less = inr (
  omega (arith, length_push es e, length_push es f),
  rw (places_push es e, places_push es f) (before_last (places es) (event_place e) (event_place f) less),
)

before_through : (xs ys zs : List ℕ) → Before xs ys → Before ys zs → Before xs zs
before_through [] ys zs one other = one
before_through (x ∷ xs) [] zs one other = absurd one
before_through (x ∷ xs) (y ∷ ys) [] one other = other
before_through (x ∷ xs) (y ∷ ys) (z ∷ zs) (inl less) (inl also) = inl (omega arith)
before_through (x ∷ xs) (y ∷ ys) (z ∷ zs) (inl less) (inr also) = inl (omega (arith, also.0))
before_through (x ∷ xs) (y ∷ ys) (z ∷ zs) (inr tied) (inl also) = inl (omega (arith, tied.0))
before_through (x ∷ xs) (y ∷ ys) (z ∷ zs) (inr tied) (inr also) =
    inr (tied.0 ∙ also.0, before_through xs ys zs tied.1 also.1)

pub walks_through : (es fs gs : List Event) → IsBefore es fs → IsBefore fs gs → IsBefore es gs
walks_through es fs gs one other = before_through (walk_place es) (walk_place fs) (walk_place gs) one other

pub up_to_before : (es fs gs : List Event) → IsUpTo es fs → IsBefore fs gs → IsBefore es gs
up_to_before es fs gs (inl before) other = walks_through es fs gs before other
up_to_before es fs gs (inr same) other = subst (λ (x : List Event). IsBefore x gs) (sym same) other

pub up_to_through : (es fs gs : List Event) → IsUpTo es fs → IsUpTo fs gs → IsUpTo es gs
up_to_through es fs gs one (inl before) = inl (up_to_before es fs gs one before)
up_to_through es fs gs one (inr same) = subst (λ (x : List Event). IsUpTo es x) same one

pub up_to_goes_on : (es fs : List Event) (e : Event) → IsUpTo es fs → IsUpTo (es ++ e ∷ []) (fs ++ e ∷ [])
up_to_goes_on es fs e (inl before) = inl (before_goes_on es fs e e before)
up_to_goes_on es fs e (inr same) = inr (ap (λ (x : List Event). x ++ e ∷ []) same)

-- ---- the last event of a walk
pub none_or_last : (es : List Event)
    → (es ≡ []) ⊎ ((init : List Event) × (e : Event) × (es ≡ init ++ e ∷ []))
none_or_last [] = inl refl
none_or_last (e ∷ es) = elim (none_or_last es) [
  | inl none ↦ inr ([], e, ap (λ (x : List Event). e ∷ x) none)
  | inr last ↦ inr (e ∷ last.0, last.1, ap (λ (x : List Event). e ∷ x) last.2)
]
