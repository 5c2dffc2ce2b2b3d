-- The outputs to force suffice, and none is superfluous.
use Rattle.std.proofs.Common.{◌≡◌, ℕ, ◌<◌, ◌⊎◌, List, [], ◌∷◌, ◌++◌, refl, sym, ap, subst, ◌∙◌, arith, length, Contains}
use Rattle.std.proofs.Common.{inl, inr, not, Bool, true, false, filter}
use Rattle.std.proofs.lemmas.Bool.{true≢false, cases_Bool}
use Rattle.si_base.specs.declared.graph.Signal.{Signal}
use Rattle.std.proofs.lemmas.Option.{slice_get_within}
use Rattle.si_base.specs.Graph.{IsNonInput}
use Rattle.si_loops.specs.Arcs.{gated, has_gate}
use Rattle.si_loops.proofs.ArcLemmas.{gate_of_signal}
use Rattle.std.proofs.lemmas.List.FromFn.{get_or-range_with_len, length-range_with_len}
use Rattle.std.specs.List.{range_with_len}
use Rattle.si_base.specs.Netlist.{Netlist, IsExcited}
use Rattle.si_settled.specs.Settling.{Suffices, Drops, AreForced, SettlesBy, IsShown, Settles, inputs_of}
use Rattle.si_settled.proofs.Rounding.{tail_there, there_cases, there_or_not, start_stays}
use Rattle.si_settled.proofs.Showing.{shown_are_forced, more_held_settle}

pub excited_are_held : (n : Netlist) (held order : List ℕ) (z : ℕ) → Settles n held order
    → IsExcited n n.start z → Contains held z
excited_are_held n held order z settles excited = elim (there_or_not held z) [
  | inl there ↦ there
  | inr free ↦ absurd (start_stays n held order n.start z settles (λ a _. refl) (λ a _. refl) free excited)
]

pub settles_by_force : (n : Netlist) (held order : List ℕ) → SettlesBy IsShown n held order → Settles n held order
settles_by_force n held [] settles = settles
settles_by_force n held (z ∷ order) settles =
    (settles.0, shown_are_forced n held z settles.1, settles_by_force n (z ∷ held) order settles.2)

more_suffice : (n : Netlist) (held more : List ℕ) → ((z : ℕ) → Contains held z → Contains more z) → Suffices n held
    → Suffices n more
more_suffice n held more within suffices = (suffices.0, more_held_settle n held more suffices.0 within suffices.1)

-- ---- lists
left_there : (xs ys : List ℕ) (z : ℕ) → Contains xs z → Contains (xs ++ ys) z
left_there [] ys z h = absurd (omega (arith, h.1))
left_there (x ∷ xs) ys z h = elim (there_cases x z xs h) [
  | inl same ↦ (0, omega arith, sym same)
  | inr later ↦ tail_there x z (xs ++ ys) (left_there xs ys z later)
]

right_there : (xs ys : List ℕ) (z : ℕ) → Contains ys z → Contains (xs ++ ys) z
right_there [] ys z h = h
right_there (x ∷ xs) ys z h = tail_there x z (xs ++ ys) (right_there xs ys z h)

sides : (xs ys : List ℕ) (z : ℕ) → Contains (xs ++ ys) z → Contains xs z ⊎ Contains ys z
sides [] ys z h = inr h
sides (x ∷ xs) ys z h = elim (there_cases x z (xs ++ ys) h) [
  | inl same ↦ inl (0, omega arith, sym same)
  | inr later ↦ elim (sides xs ys z later) [
    | inl left ↦ inl (tail_there x z xs left)
    | inr right ↦ inr right
  ]
]

none_there : (z : ℕ) → Contains [] z → ⊥
none_there z h = omega (arith, h.1)

append_more : (xs ys zs : List ℕ) → (xs ++ ys) ++ zs ≡ xs ++ (ys ++ zs)
append_more [] ys zs = refl
append_more (x ∷ xs) ys zs = ap (λ (l : List ℕ). x ∷ l) (append_more xs ys zs)

append_none : (xs : List ℕ) → xs ++ [] ≡ xs
append_none [] = refl
append_none (x ∷ xs) = ap (λ (l : List ℕ). x ∷ l) (append_none xs)

-- ---- what is left suffices
left_suffice : (n : Netlist) (inputs before gates forced : List ℕ) → Suffices n (inputs ++ (before ++ gates))
    → Drops n inputs before gates forced → Suffices n (inputs ++ forced)
left_suffice n inputs before [] forced suffices drops =
    subst (λ (l : List ℕ). Suffices n (inputs ++ l)) (append_none before ∙ sym drops) suffices
left_suffice n inputs before (z ∷ rest) forced suffices (inl less) = left_suffice n inputs before rest forced less.0 less.1
left_suffice n inputs before (z ∷ rest) forced suffices (inr needed) =
    left_suffice n inputs (before ++ z ∷ []) rest forced
    (subst (λ (l : List ℕ). Suffices n (inputs ++ l)) (sym (append_more before (z ∷ []) rest)) suffices) needed.1

-- what is left was there
left_was : (n : Netlist) (inputs before gates forced : List ℕ) (y : ℕ) → Drops n inputs before gates forced
    → Contains forced y → Contains before y ⊎ Contains gates y
left_was n inputs before [] forced y drops there = inl (subst (λ (l : List ℕ). Contains l y) drops there)
left_was n inputs before (z ∷ rest) forced y (inl less) there = elim (left_was n inputs before rest forced y less.1 there) [
  | inl old ↦ inl old
  | inr later ↦ inr (tail_there z y rest later)
]
left_was n inputs before (z ∷ rest) forced y (inr needed) there =
    elim (left_was n inputs (before ++ z ∷ []) rest forced y needed.1 there) [
      | inl old ↦ elim (sides before (z ∷ []) y old) [
        | inl older ↦ inl older
        | inr this ↦ elim (there_cases z y [] this) [
          | inl same ↦ inr (0, omega arith, sym same)
          | inr none ↦ absurd (none_there y none)
        ]
      ]
      | inr later ↦ inr (tail_there z y rest later)
    ]

-- with all signals held nothing has to settle
kept_step : (p : ℕ → Bool) (x : ℕ) (xs : List ℕ) (a : ℕ) (b : Bool) → p x ≡ b → p a ≡ true
    → (Contains xs a → Contains (filter p xs) a) → (a ≡ x) ⊎ Contains xs a → Contains (filter p (x ∷ xs)) a
kept_step p x xs a true is holds later (inl same) = rw is (0, omega arith, sym same)
kept_step p x xs a true is holds later (inr there) = rw is (tail_there x a (filter p xs) (later there))
kept_step p x xs a false is holds later (inl same) = absurd (true≢false (sym holds ∙ ap p same ∙ is))
kept_step p x xs a false is holds later (inr there) = rw is (later there)

kept_there : (p : ℕ → Bool) (xs : List ℕ) (a : ℕ) → p a ≡ true → Contains xs a → Contains (filter p xs) a
kept_there p [] a holds h = absurd (none_there a h)
kept_there p (x ∷ xs) a holds h =
    kept_step p x xs a (p x) refl holds (λ there. kept_there p xs a holds there) (there_cases x a xs h)

in_range : (a k : ℕ) → a < k → Contains (range_with_len 0 k) a
in_range a k small =
    (a, (let size = length-range_with_len 0 k in omega (arith, size, small)), get_or-range_with_len 0 k a a small ∙ omega arith)

pub all_there : (signals : List Signal) (a : ℕ) → a < length signals → Contains (inputs_of signals ++ gated signals) a
all_there signals a small =
    let there = in_range a (length signals) small in
    elim (cases_Bool (has_gate signals a)) [
      | inl gate ↦ right_there (inputs_of signals) (gated signals) a
          (kept_there (has_gate signals) (range_with_len 0 (length signals)) a gate there)
      | inr input ↦ left_there (inputs_of signals) (gated signals) a
          (kept_there (λ z. not (has_gate signals z)) (range_with_len 0 (length signals)) a (ap not input) there)
    ]

-- a signal with a gate is among those
pub gate_there : (signals : List Signal) (z : ℕ) → IsNonInput signals z → Contains (gated signals) z
gate_there signals z gate =
    kept_there (has_gate signals) (range_with_len 0 (length signals)) z
    (gate_of_signal signals z gate.0 gate.1 ∙ gate.2)
    (in_range z (length signals) (slice_get_within signals z gate.0 gate.1))

pub forced_suffice : (n : Netlist) (forced : List ℕ) → AreForced n forced
    → (order : List ℕ) × Settles n (inputs_of n.signals ++ forced) order
forced_suffice n forced are =
    let inputs = inputs_of n.signals in
    let s = left_suffice n inputs [] (gated n.signals) forced ([], λ a small. all_there n.signals a small) are in
    (s.0, settles_by_force n (inputs ++ forced) s.0 s.1)

-- ---- none is superfluous
abbrev Fewer : List ℕ → List ℕ → ℕ → Type 0
Fewer forced fewer z = (y : ℕ) → Contains fewer y → Contains forced y × (y ≡ z → ⊥)

only_there : (y a : ℕ) → Contains (y ∷ []) a → a ≡ y
only_there y a h = elim (there_cases y a [] h) [
  | inl same ↦ same
  | inr none ↦ absurd (none_there a none)
]

-- z is the last of the list, and x is another of it
not_last : (before : List ℕ) (y z x : ℕ) → (Contains before z → ⊥) → Contains (before ++ y ∷ []) z → (x ≡ z → ⊥)
    → Contains (before ++ y ∷ []) x → Contains before x
not_last before y z x fresh z_there other x_there = elim (sides before (y ∷ []) x x_there) [
  | inl old ↦ old
  | inr last ↦ elim (sides before (y ∷ []) z z_there) [
    | inl z_old ↦ absurd (fresh z_old)
    | inr z_last ↦ absurd (other (only_there y x last ∙ sym (only_there y z z_last)))
  ]
]

still_there : (n : Netlist) (inputs before rest forced fewer : List ℕ) (y z : ℕ)
    → Drops n inputs (before ++ y ∷ []) rest forced → (Contains before z → ⊥) → Contains (before ++ y ∷ []) z
    → Fewer forced fewer z → (x : ℕ) → Contains inputs x ⊎ Contains fewer x → Contains (inputs ++ (before ++ rest)) x
still_there n inputs before rest forced fewer y z drops fresh this within x (inl input) =
    left_there inputs (before ++ rest) x input
still_there n inputs before rest forced fewer y z drops fresh this within x (inr h) =
    elim (left_was n inputs (before ++ y ∷ []) rest forced x drops (within x h).0) [
      | inl old ↦ right_there inputs (before ++ rest) x
          (left_there before rest x (not_last before y z x fresh this (within x h).1 old))
      | inr later ↦ right_there inputs (before ++ rest) x (right_there before rest x later)
    ]

needed_end : (n : Netlist) (inputs before gates forced fewer : List ℕ) (z : ℕ) → Drops n inputs before gates forced
    → (Contains before z → ⊥) → Contains forced z → Fewer forced fewer z → Suffices n (inputs ++ fewer) → ⊥
needed_end n inputs before [] forced fewer z drops fresh there within suffices =
    fresh (subst (λ (l : List ℕ). Contains l z) drops there)
needed_end n inputs before (y ∷ rest) forced fewer z (inl less) fresh there within suffices =
    needed_end n inputs before rest forced fewer z less.1 fresh there within suffices
needed_end n inputs before (y ∷ rest) forced fewer z (inr needed) fresh there within suffices =
    elim (there_or_not (before ++ y ∷ []) z) [
      | inr other ↦ needed_end n inputs (before ++ y ∷ []) rest forced fewer z needed.1 other there within suffices
      | inl this ↦ absurd (needed.0 (more_suffice n (inputs ++ fewer) (inputs ++ (before ++ rest))
          (λ x h. still_there n inputs before rest forced fewer y z needed.1 fresh this within x (sides inputs fewer x h))
          suffices))
    ]

pub none_is_superfluous : (n : Netlist) (forced fewer : List ℕ) (z : ℕ) → AreForced n forced
    → Contains forced z → ((y : ℕ) → Contains fewer y → Contains forced y × (y ≡ z → ⊥))
    → Suffices n (inputs_of n.signals ++ fewer) → ⊥
none_is_superfluous n forced fewer z are there within suffices =
    needed_end n (inputs_of n.signals) [] (gated n.signals) forced fewer z are (λ h. none_there z h) there within suffices

one_end : (n : Netlist) (inputs before gates one other : List ℕ) → Drops n inputs before gates one
    → Drops n inputs before gates other → one ≡ other
one_end n inputs before [] one other a b = a ∙ sym b
one_end n inputs before (z ∷ rest) one other (inl a) (inl b) = one_end n inputs before rest one other a.1 b.1
one_end n inputs before (z ∷ rest) one other (inl a) (inr b) = absurd (b.0 a.0)
one_end n inputs before (z ∷ rest) one other (inr a) (inl b) = absurd (a.0 b.0)
one_end n inputs before (z ∷ rest) one other (inr a) (inr b) = one_end n inputs (before ++ z ∷ []) rest one other a.1 b.1

pub drops_are_one : (n : Netlist) (inputs gates one other : List ℕ) → Drops n inputs [] gates one
    → Drops n inputs [] gates other → one ≡ other
drops_are_one n inputs gates one other a b = one_end n inputs [] gates one other a b
