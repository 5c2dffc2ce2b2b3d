-- What is kept has no loop, and what is cut closes one.
use Rattle.std.proofs.Common.{◌≡◌, ℕ, ◌⊎◌, ◌↔◌, List, [], ◌∷◌, ◌++◌, refl, sym, ap, subst, ◌∙◌, arith, Contains}
use Rattle.std.proofs.Common.{inl, inr, zero, suc}
use Rattle.si_loops.specs.declared.arcs.Arc.{Arc}
use Rattle.si_loops.specs.Arcs.{Path, IsAcyclic, ClosesLoop, Splits}

-- ---- lists of arcs
pub head_there : (a : Arc) (arcs : List Arc) → Contains (a ∷ arcs) a
head_there a arcs = (0, omega arith, refl)

pub tail_there : (b a : Arc) (arcs : List Arc) → Contains arcs a → Contains (b ∷ arcs) a
tail_there b a arcs h = (suc h.0, omega (arith, h.1), h.2)

pub there_cases : (b a : Arc) (arcs : List Arc) → Contains (b ∷ arcs) a → (b ≡ a) ⊎ Contains arcs a
there_cases b a arcs (zero, small, is) = inl is
there_cases b a arcs (suc k, small, is) = inr (k, omega (arith, small), is)

pub none_there : (a : Arc) → Contains [] a → ⊥
none_there a h = omega (arith, h.1)

front_there : (arcs : List Arc) (b a : Arc) → Contains arcs a → Contains (arcs ++ b ∷ []) a
front_there [] b a h = absurd (none_there a h)
front_there (c ∷ arcs) b a h = elim (there_cases c a arcs h) [
  | inl same ↦ (0, omega arith, same)
  | inr later ↦ tail_there c a (arcs ++ b ∷ []) (front_there arcs b a later)
]

pub last_there : (arcs : List Arc) (b : Arc) → Contains (arcs ++ b ∷ []) b
last_there [] b = head_there b []
last_there (c ∷ arcs) b = tail_there c b (arcs ++ b ∷ []) (last_there arcs b)

pushed_cases : (arcs : List Arc) (b a : Arc) → Contains (arcs ++ b ∷ []) a → Contains arcs a ⊎ (b ≡ a)
pushed_cases [] b a h = elim (there_cases b a [] h) [
  | inl same ↦ inr same
  | inr none ↦ absurd (none_there a none)
]
pushed_cases (c ∷ arcs) b a h = elim (there_cases c a (arcs ++ b ∷ []) h) [
  | inl same ↦ inl (0, omega arith, same)
  | inr later ↦ elim (pushed_cases arcs b a later) [
    | inl there ↦ inl (tail_there c a arcs there)
    | inr last ↦ inr last
  ]
]

-- ---- paths
pub join : (arcs : List Arc) (y : ℕ) (us : List ℕ) (z : ℕ) (vs : List ℕ) (w : ℕ) → Path arcs y us z → Path arcs z vs w
    → Path arcs y (us ++ vs) w
join arcs y [] z vs w one other = let P : ℕ → Type 0 = λ i. Path arcs i vs w in subst P (sym one) other
join arcs y (u ∷ us) z vs w one other = (one.0, join arcs u us z vs w one.1 other)

pub more_path : (arcs : List Arc) (b : Arc) (y : ℕ) (us : List ℕ) (z : ℕ) → Path arcs y us z
    → Path (arcs ++ b ∷ []) y us z
more_path arcs b y [] z path = path
more_path arcs b y (u ∷ us) z path = (front_there arcs b _ path.0, more_path arcs b u us z path.1)

-- a path with one more arc goes without it, or to where it begins and from where it ends
abbrev pub Around : List Arc → Arc → ℕ → ℕ → Type 0
Around arcs b y z = ((us : List ℕ) × Path arcs y us b.from) × ((vs : List ℕ) × Path arcs b.to vs z)

pub goes_without : (arcs : List Arc) (b : Arc) (y : ℕ) (us : List ℕ) (z : ℕ) → Path (arcs ++ b ∷ []) y us z
    → Path arcs y us z ⊎ Around arcs b y z
goes_without arcs b y [] z path = inl path
goes_without arcs b y (u ∷ us) z path =
    elim (pushed_cases arcs b (record { from = y; to = u }) path.0) [
      | inl there ↦ elim (goes_without arcs b u us z path.1) [
        | inl rest ↦ inl (there, rest)
        | inr around ↦ inr ((u ∷ around.0.0, (there, around.0.1)), around.1)
      ]
      | inr is ↦
          (let from : y ≡ b.from = ap (λ (a : Arc). a.from) (sym is) in
          let to : u ≡ b.to = ap (λ (a : Arc). a.to) (sym is) in
          elim (goes_without arcs b u us z path.1) [
            | inl rest ↦ inr (([], from), (us, subst (λ (i : ℕ). Path arcs i us z) to rest))
            | inr around ↦ inr (([], from), around.1)
          ])
    ]

pushed_acyclic : (arcs : List Arc) (b : Arc) → IsAcyclic arcs → (ClosesLoop arcs b → ⊥) → IsAcyclic (arcs ++ b ∷ [])
pushed_acyclic arcs b acyclic free y us path = elim (goes_without arcs b y us y path) [
  | inl without ↦ acyclic y us without
  | inr around ↦
      absurd (free (around.1.0 ++ around.0.0, join arcs b.to around.1.0 y around.0.0 b.from around.1.1 around.0.1))
]

acyclic_end : (before arcs kept cut : List Arc) → IsAcyclic before → Splits before arcs kept cut → IsAcyclic kept
acyclic_end before [] kept cut acyclic splits = subst IsAcyclic (sym splits.0) acyclic
acyclic_end before (a ∷ arcs) kept cut acyclic (inl closes) = acyclic_end before arcs kept closes.1 acyclic closes.3
acyclic_end before (a ∷ arcs) kept cut acyclic (inr free) =
    acyclic_end (before ++ a ∷ []) arcs kept cut (pushed_acyclic before a acyclic free.0) free.1

no_arcs : IsAcyclic []
no_arcs y [] path = refl
no_arcs y (u ∷ us) path = absurd (none_there _ path.0)

pub kept_are_acyclic : (arcs kept cut : List Arc) → Splits [] arcs kept cut → IsAcyclic kept
kept_are_acyclic arcs kept cut splits = acyclic_end [] arcs kept cut no_arcs splits

-- ---- what was kept before is kept
still_path : (before arcs kept cut : List Arc) (y : ℕ) (us : List ℕ) (z : ℕ) → Splits before arcs kept cut
    → Path before y us z → Path kept y us z
still_path before [] kept cut y us z splits path = subst (λ (l : List Arc). Path l y us z) (sym splits.0) path
still_path before (a ∷ arcs) kept cut y us z (inl closes) path =
    still_path before arcs kept closes.1 y us z closes.3 path
still_path before (a ∷ arcs) kept cut y us z (inr free) path =
    still_path (before ++ a ∷ []) arcs kept cut y us z free.1 (more_path before a y us z path)

closes_end : (before arcs kept cut : List Arc) (a : Arc) → Splits before arcs kept cut → Contains cut a
    → ClosesLoop kept a
closes_end before [] kept cut a splits there =
    absurd (none_there a (subst (λ (l : List Arc). Contains l a) splits.1 there))
closes_end before (b ∷ arcs) kept cut a (inl closes) there =
    elim (there_cases b a closes.1 (subst (λ (l : List Arc). Contains l a) closes.2 there)) [
      | inl same ↦ subst (ClosesLoop kept) same
          (closes.0.0, still_path before arcs kept closes.1 b.to closes.0.0 b.from closes.3 closes.0.1)
      | inr later ↦ closes_end before arcs kept closes.1 a closes.3 later
    ]
closes_end before (b ∷ arcs) kept cut a (inr free) there =
    closes_end (before ++ b ∷ []) arcs kept cut a free.1 there

pub cuts_close_loops : (arcs kept cut : List Arc) (a : Arc) → Splits [] arcs kept cut → Contains cut a
    → ClosesLoop kept a
cuts_close_loops arcs kept cut a splits there = closes_end [] arcs kept cut a splits there

-- ---- each arc is kept or cut
abbrev Each : List Arc → List Arc → List Arc → List Arc → Arc → Type 0
Each before arcs kept cut a = (Contains before a ⊎ Contains arcs a → Contains kept a ⊎ Contains cut a)
    × (Contains kept a ⊎ Contains cut a → Contains before a ⊎ Contains arcs a)

none_left : (before kept cut : List Arc) (a : Arc) → kept ≡ before → cut ≡ [] → Each before [] kept cut a
none_left before kept cut a same none = (to, from)
  where
    to : Contains before a ⊎ Contains [] a → Contains kept a ⊎ Contains cut a
    to (inl there) = inl (subst (λ (l : List Arc). Contains l a) (sym same) there)
    to (inr nothing) = absurd (none_there a nothing)

    from : Contains kept a ⊎ Contains cut a → Contains before a ⊎ Contains [] a
    from (inl there) = inl (subst (λ (l : List Arc). Contains l a) same there)
    from (inr there) = inr (subst (λ (l : List Arc). Contains l a) none there)

one_cut : (before arcs kept cut more : List Arc) (b a : Arc) → cut ≡ b ∷ more → Each before arcs kept more a
    → Each before (b ∷ arcs) kept cut a
one_cut before arcs kept cut more b a is rest = (to, from)
  where
    in_cut : Contains (b ∷ more) a → Contains cut a
    in_cut there = subst (λ (l : List Arc). Contains l a) (sym is) there

    longer : Contains kept a ⊎ Contains more a → Contains kept a ⊎ Contains cut a
    longer (inl there) = inl there
    longer (inr there) = inr (in_cut (tail_there b a more there))

    to : Contains before a ⊎ Contains (b ∷ arcs) a → Contains kept a ⊎ Contains cut a
    to (inl there) = longer (rest.0 (inl there))
    to (inr there) = elim (there_cases b a arcs there) [
      | inl same ↦ inr (in_cut (0, omega arith, same))
      | inr later ↦ longer (rest.0 (inr later))
    ]

    back : Contains before a ⊎ Contains arcs a → Contains before a ⊎ Contains (b ∷ arcs) a
    back (inl there) = inl there
    back (inr there) = inr (tail_there b a arcs there)

    from : Contains kept a ⊎ Contains cut a → Contains before a ⊎ Contains (b ∷ arcs) a
    from (inl there) = back (rest.1 (inl there))
    from (inr there) = elim (there_cases b a more (subst (λ (l : List Arc). Contains l a) is there)) [
      | inl same ↦ inr (0, omega arith, same)
      | inr later ↦ back (rest.1 (inr later))
    ]

one_kept : (before arcs kept cut : List Arc) (b a : Arc) → Each (before ++ b ∷ []) arcs kept cut a
    → Each before (b ∷ arcs) kept cut a
one_kept before arcs kept cut b a rest = (to, from)
  where
    to : Contains before a ⊎ Contains (b ∷ arcs) a → Contains kept a ⊎ Contains cut a
    to (inl there) = rest.0 (inl (front_there before b a there))
    to (inr there) = elim (there_cases b a arcs there) [
      | inl same ↦ rest.0 (inl (subst (λ (x : Arc). Contains (before ++ b ∷ []) x) same (last_there before b)))
      | inr later ↦ rest.0 (inr later)
    ]

    back : Contains (before ++ b ∷ []) a ⊎ Contains arcs a → Contains before a ⊎ Contains (b ∷ arcs) a
    back (inl there) = elim (pushed_cases before b a there) [
      | inl old ↦ inl old
      | inr same ↦ inr (0, omega arith, same)
    ]
    back (inr there) = inr (tail_there b a arcs there)

    from : Contains kept a ⊎ Contains cut a → Contains before a ⊎ Contains (b ∷ arcs) a
    from h = back (rest.1 h)

each_end : (before arcs kept cut : List Arc) (a : Arc) → Splits before arcs kept cut → Each before arcs kept cut a
each_end before [] kept cut a splits = none_left before kept cut a splits.0 splits.1
each_end before (b ∷ arcs) kept cut a (inl closes) =
    one_cut before arcs kept cut closes.1 b a closes.2 (each_end before arcs kept closes.1 a closes.3)
each_end before (b ∷ arcs) kept cut a (inr free) =
    one_kept before arcs kept cut b a (each_end (before ++ b ∷ []) arcs kept cut a free.1)

pub each_is_kept_or_cut : (arcs kept cut : List Arc) (a : Arc) → Splits [] arcs kept cut
    → Contains arcs a ↔ (Contains kept a ⊎ Contains cut a)
each_is_kept_or_cut arcs kept cut a splits = (
  (λ there. (each_end [] arcs kept cut a splits).0 (inr there)),
  (λ h. only ((each_end [] arcs kept cut a splits).1 h)),
)
  where
    only : Contains [] a ⊎ Contains arcs a → Contains arcs a
    only (inl none) = absurd (none_there a none)
    only (inr there) = there

-- ---- one split
one_end : (before arcs kept more cut others : List Arc) → Splits before arcs kept cut → Splits before arcs more others
    → (kept ≡ more) × (cut ≡ others)
one_end before [] kept more cut others one other = (one.0 ∙ sym other.0, one.1 ∙ sym other.1)
one_end before (a ∷ arcs) kept more cut others (inl x) (inl y) =
    let rest = one_end before arcs kept more x.1 y.1 x.3 y.3 in
    (rest.0, x.2 ∙ ap (λ (l : List Arc). a ∷ l) rest.1 ∙ sym y.2)
one_end before (a ∷ arcs) kept more cut others (inl x) (inr y) = absurd (y.0 x.0)
one_end before (a ∷ arcs) kept more cut others (inr x) (inl y) = absurd (x.0 y.0)
one_end before (a ∷ arcs) kept more cut others (inr x) (inr y) =
    one_end (before ++ a ∷ []) arcs kept more cut others x.1 y.1

pub splits_are_one : (arcs kept more cut others : List Arc) → Splits [] arcs kept cut → Splits [] arcs more others
    → (kept ≡ more) × (cut ≡ others)
splits_are_one arcs kept more cut others one other = one_end [] arcs kept more cut others one other
