-- Whether an arc closes a loop can be decided, so there is a split.
use Rattle.std.proofs.Common.{◌≡◌, ℕ, ◌⊎◌, List, [], ◌∷◌, ◌++◌, refl, sym, ap, subst, inl, inr}
use Rattle.std.proofs.lemmas.Bool.{cases_eq}
use Rattle.si_loops.specs.declared.arcs.Arc.{Arc}
use Rattle.si_loops.specs.Arcs.{Path, Splits}
use Rattle.si_loops.proofs.Cutting.{head_there, tail_there, there_cases, none_there, join, Around}

longer_path : (arcs : List Arc) (b : Arc) (y : ℕ) (us : List ℕ) (z : ℕ) → Path arcs y us z → Path (b ∷ arcs) y us z
longer_path arcs b y [] z path = path
longer_path arcs b y (u ∷ us) z path =
    (tail_there b (record { from = y; to = u }) arcs path.0, longer_path arcs b u us z path.1)

goes_without : (arcs : List Arc) (b : Arc) (y : ℕ) (us : List ℕ) (z : ℕ) → Path (b ∷ arcs) y us z
    → Path arcs y us z ⊎ Around arcs b y z
goes_without arcs b y [] z path = inl path
goes_without arcs b y (u ∷ us) z path =
    elim (there_cases b (record { from = y; to = u }) arcs path.0) [
      | inr there ↦ elim (goes_without arcs b u us z path.1) [
        | inl rest ↦ inl (there, rest)
        | inr around ↦ inr ((u ∷ around.0.0, (there, around.0.1)), around.1)
      ]
      | inl is ↦
          (let from : y ≡ b.from = ap (λ (a : Arc). a.from) (sym is) in
          let to : u ≡ b.to = ap (λ (a : Arc). a.to) (sym is) in
          elim (goes_without arcs b u us z path.1) [
            | inl rest ↦ inr (([], from), (us, subst (λ (i : ℕ). Path arcs i us z) to rest))
            | inr around ↦ inr (([], from), around.1)
          ])
    ]

abbrev Decided : List Arc → ℕ → ℕ → Type 0
Decided arcs y z = ((us : List ℕ) × Path arcs y us z) ⊎ ((us : List ℕ) → Path arcs y us z → ⊥)

no_arcs : (y z : ℕ) → (y ≡ z → ⊥) → (us : List ℕ) → Path [] y us z → ⊥
no_arcs y z other [] path = other path
no_arcs y z other (u ∷ us) path = none_there _ path.0

with_arc : (arcs : List Arc) (b : Arc) (y z : ℕ) → Decided arcs y z → Decided arcs y b.from → Decided arcs b.to z
    → Decided (b ∷ arcs) y z
with_arc arcs b y z (inl path) to from = inl (path.0, longer_path arcs b y path.0 z path.1)
with_arc arcs b y z (inr none) (inl to) (inl from) =
    inl (
      to.0 ++ (b.to ∷ from.0),
      join (b ∷ arcs) y to.0 b.from (b.to ∷ from.0) z (longer_path arcs b y to.0 b.from to.1)
          (head_there b arcs, longer_path arcs b b.to from.0 z from.1),
    )
with_arc arcs b y z (inr none) (inr far) from = inr (λ us path. elim (goes_without arcs b y us z path) [
  | inl without ↦ none us without
  | inr around ↦ far around.0.0 around.0.1
])
with_arc arcs b y z (inr none) (inl to) (inr far) = inr (λ us path. elim (goes_without arcs b y us z path) [
  | inl without ↦ none us without
  | inr around ↦ far around.1.0 around.1.1
])

path_decided : (arcs : List Arc) (y z : ℕ) → Decided arcs y z
path_decided [] y z = elim (cases_eq y z) [
  | inl same ↦ inl ([], same)
  | inr other ↦ inr (no_arcs y z other)
]
path_decided (b ∷ arcs) y z =
    with_arc arcs b y z (path_decided arcs y z) (path_decided arcs y b.from) (path_decided arcs b.to z)

split_from : (before arcs : List Arc) → (kept : List Arc) × (cut : List Arc) × Splits before arcs kept cut
split_from before [] = (before, [], (refl, refl))
split_from before (a ∷ arcs) = elim (path_decided before a.to a.from) [
  | inl closes ↦ (let r = split_from before arcs in (r.0, a ∷ r.1, inl (closes, r.1, refl, r.2)))
  | inr free ↦ (let r = split_from (before ++ a ∷ []) arcs in (r.0, r.1, inr ((λ closes. free closes.0 closes.1), r.2)))
]

pub splits_exist : (arcs : List Arc) → (kept : List Arc) × (cut : List Arc) × Splits [] arcs kept cut
splits_exist arcs = split_from [] arcs
