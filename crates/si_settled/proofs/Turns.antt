-- Gates that are shown one after another.
use Rattle.std.proofs.Common.{◌≡◌, ℕ, ◌<◌, List, [], ◌∷◌, ◌++◌, sym, ap, subst, ◌∙◌}
use Rattle.std.proofs.Common.{length, Contains, inl, inr}
use Rattle.std.proofs.lemmas.Bool.{true≢false, cases_Bool}
use mathlib.Core.Path.{fun_ext}
use Rattle.si_base.specs.Graph.{IsNonInput}
use Rattle.si_base.specs.Netlist.{Netlist}
use Rattle.si_settled.specs.Settling.{ComesTo, IsShown, SettlesBy, ShownInTurn, Suffices, is_among}
use Rattle.si_settled.proofs.Rounding.{tail_there, there_cases}
use Rattle.si_settled.proofs.Showing.{among_there, there_among, more_held_settle, shown_more}

abbrev pub AllKnown : Netlist → List ℕ → Type 0
AllKnown n known = (a : ℕ) → a < length n.signals → Contains known a

-- one more gate is shown
pub turn_more : (n : Netlist) (known order end : List ℕ) (z : ℕ) → ShownInTurn n known order end
    → IsNonInput n.signals z → IsShown n end z → ShownInTurn n known (order ++ z ∷ []) (z ∷ end)
turn_more n known [] end z is gate shown =
    (gate, subst (λ (k : List ℕ). IsShown n k z) is shown, ap (λ (k : List ℕ). z ∷ k) is)
turn_more n known (y ∷ order) end z turns gate shown =
    (turns.0, turns.1, turn_more n (y ∷ known) order end z turns.2 gate shown)

turns_settle : (n : Netlist) (known order end : List ℕ) → ShownInTurn n known order end → AllKnown n end
    → SettlesBy IsShown n known order
turns_settle n known [] end is all = subst (AllKnown n) is all
turns_settle n known (z ∷ order) end turns all =
    (turns.0, turns.1, turns_settle n (z ∷ known) order end turns.2 all)

known_stay : (n : Netlist) (known order end : List ℕ) (a : ℕ) → ShownInTurn n known order end → Contains known a
    → Contains end a
known_stay n known [] end a is there = subst (λ (k : List ℕ). Contains k a) (sym is) there
known_stay n known (z ∷ order) end a turns there =
    known_stay n (z ∷ known) order end a turns.2 (tail_there z a known there)

-- no gate but those of the list is shown
abbrev IsLast : Netlist → List ℕ → Type 0
IsLast n known = (z : ℕ) → IsNonInput n.signals z → IsShown n known z → Contains known z

one_more_within : (known last : List ℕ) (z : ℕ) → ((a : ℕ) → Contains known a → Contains last a) → Contains last z
    → (a : ℕ) → Contains (z ∷ known) a → Contains last a
one_more_within known last z within here a there = elim (there_cases z a known there) [
  | inl same ↦ subst (λ (i : ℕ). Contains last i) (sym same) here
  | inr old ↦ within a old
]

-- what is shown in turn stays within such a list
turns_within : (n : Netlist) (known order end last : List ℕ) → IsLast n last
    → ((a : ℕ) → Contains known a → Contains last a) → ShownInTurn n known order end
    → (a : ℕ) → Contains end a → Contains last a
turns_within n known [] end last stops within is a there =
    within a (subst (λ (k : List ℕ). Contains k a) is there)
turns_within n known (z ∷ order) end last stops within turns a there =
    turns_within n (z ∷ known) order end last stops
    (one_more_within known last z within (stops z turns.0 (shown_more n known last z within turns.1))) turns.2 a there

-- what settles with such a list is in the list
settles_within : (n : Netlist) (known order : List ℕ) → IsLast n known → SettlesBy IsShown n known order → AllKnown n known
settles_within n known [] stops settles = settles
settles_within n known (z ∷ order) stops settles =
    settles_within n known order stops (more_held_settle n (z ∷ known) known order
    (λ a there. back a (stops z settles.0 settles.1) there) settles.2)
  where
    back : (a : ℕ) → Contains known z → Contains (z ∷ known) a → Contains known a
    back a z_there there = elim (there_cases z a known there) [
      | inl same ↦ subst (λ (i : ℕ). Contains known i) (sym same) z_there
      | inr was ↦ was
    ]

pub all_suffice : (n : Netlist) (held end : List ℕ) → ComesTo n held end → AllKnown n end → Suffices n held
all_suffice n held end comes all = (comes.order, turns_settle n held comes.order end comes.in_turn all)

pub suffice_all : (n : Netlist) (held end : List ℕ) → ComesTo n held end → Suffices n held → AllKnown n end
suffice_all n held end comes suffices =
    settles_within n end suffices.0 comes.stops (more_held_settle n held end suffices.0
    (λ a there. known_stay n held comes.order end a comes.in_turn there) suffices.1)

-- ---- one end
ends_within : (n : Netlist) (held end other : List ℕ) → ComesTo n held end → ComesTo n held other
    → (a : ℕ) → Contains end a → Contains other a
ends_within n held end other one two = turns_within n held one.order end other two.stops
    (λ a there. known_stay n held two.order other a two.in_turn there) one.in_turn

among_same : (xs ys : List ℕ) (a : ℕ) → (Contains xs a → Contains ys a) → (Contains ys a → Contains xs a)
    → is_among xs a ≡ is_among ys a
among_same xs ys a to from = elim (cases_Bool (is_among xs a)) [
  | inl x ↦ x ∙ sym (there_among ys a (to (among_there xs a x)))
  | inr x ↦ elim (cases_Bool (is_among ys a)) [
    | inl y ↦ absurd (true≢false (sym (there_among xs a (from (among_there ys a y))) ∙ x))
    | inr y ↦ x ∙ sym y
  ]
]

pub one_end : (n : Netlist) (held end other : List ℕ) → ComesTo n held end → ComesTo n held other
    → is_among end ≡ is_among other
one_end n held end other one two = fun_ext (λ a. among_same end other a (ends_within n held end other one two a)
    (ends_within n held other end two one a))
