-- Inputs lead from state 0 to state 1, from 2 to both 1 and 3, and from 4 to 3: so 0 and 4 are kin, though
-- input events lead to both from no state.
use Rattle.std.proofs.Common.{◌≡◌, ℕ, ◌<◌, ◌∙◌, List, [], ◌∷◌, Some, true, refl, sym, ap, subst, arith, codes, lit<}
use Rattle.std.proofs.Common.{inl, inr}
use Rattle.std.proofs.lemmas.Bool.{cases_eq, true≢false}
use Rattle.si_base.specs.declared.graph.Signal.{Signal}
use Rattle.si_base.specs.declared.graph.SigKind.TheVariants.{Input, Output}
use Rattle.si_base.specs.Codes.{CodedGraph, code}
use Rattle.si_base.specs.Graph.{StateGraph, arc, fall, rise}
use Rattle.si_base.specs.Proper.{IsConflict}
use Rattle.si_kin.specs.Kin.{AreKin, AreKinClasses, AreNext, IsFirstKinOrNone, IsKinConflict, TellsKin}
use Rattle.si_kin.specs.Loops.Forest.{AreOfKin, AreSettledTo}
use Rattle.si_kin.proofs.ClassLemmas.{AreJoinedTo, classes_are}
use Rattle.si_kin.proofs.KinRows.{kin_back, kin_self}

abbrev a : Signal
a = record { name = codes "a"; kind = Input }

abbrev b : Signal
b = record { name = codes "b"; kind = Input }

abbrev y : Signal
y = record { name = codes "y"; kind = Output }

abbrev zigzag : StateGraph
zigzag = record {
  signals = a ∷ b ∷ y ∷ [];
  states = 6;
  edges = arc 0 (rise 0) 1 ∷ arc 0 (rise 2) 5 ∷ arc 2 (fall 0) 3 ∷ arc 2 (rise 1) 1 ∷ arc 4 (fall 1) 3 ∷ [];
  start = 2;
}

abbrev coded_zigzag : CodedGraph
coded_zigzag = record { graph = zigzag; codes = 2 ∷ 3 ∷ 1 ∷ 0 ∷ 2 ∷ 6 ∷ [] }

-- state 0 enables y+, and state 4 doesn't
conflict : IsConflict coded_zigzag (0, 4)
conflict = record {
  order = lit< tt;
  within = lit< tt;
  same_code = refl;
  event = rise 2;
  non_input = (y, refl, refl);
  differ = λ same. true≢false same;
}

to_1 : AreNext coded_zigzag 0 1
to_1 = (rise 0, (a, refl, refl), inl (0, lit< tt, refl))

to_2 : AreNext coded_zigzag 1 2
to_2 = (rise 1, (b, refl, refl), inr (3, lit< tt, refl))

to_3 : AreNext coded_zigzag 2 3
to_3 = (fall 0, (a, refl, refl), inl (2, lit< tt, refl))

to_4 : AreNext coded_zigzag 3 4
to_4 = (fall 1, (b, refl, refl), inr (4, lit< tt, refl))

kin : AreKin coded_zigzag 0 4
kin = (1 ∷ 2 ∷ 3 ∷ 4 ∷ [], (to_1, (to_2, (to_3, (to_4, refl)))))

stays : IsKinConflict coded_zigzag (0, 4)
stays = record { conflict = conflict; kin = kin }

told : TellsKin coded_zigzag 0 4 true
told = (λ _. kin, λ _. refl)

-- it is the first: none of the states 1, 2 and 3 has the code of state 0
codes_apart : (q : ℕ) → 0 < q → q < 4 → code coded_zigzag 0 ≡ code coded_zigzag q → ⊥
codes_apart q above below same = elim (cases_eq q 1) [
  | inl is ↦ (let at : 2 ≡ 3 = same ∙ ap (code coded_zigzag) is in omega (arith, at))
  | inr not_1 ↦ elim (cases_eq q 2) [
    | inl is ↦ (let at : 2 ≡ 1 = same ∙ ap (code coded_zigzag) is in omega (arith, at))
    | inr not_2 ↦ (
        let last : q ≡ 3 = omega (arith, above, below, not_1, not_2) in
        let at : 2 ≡ 0 = same ∙ ap (code coded_zigzag) last in omega (arith, at))
  ]
]

first : IsFirstKinOrNone coded_zigzag (Some (0, 4))
first = record {
  holds = stays;
  none_before = λ pair is before. elim before [
    | inl less ↦ absurd (omega (arith, less))
    | inr tied ↦ elim tied.1 [
      | inl less ↦ codes_apart pair.1 (let order = is.conflict.order in omega (arith, order)) less
          (ap (code coded_zigzag) (sym tied.0) ∙ is.conflict.same_code)
      | inr never ↦ absurd never.1
    ]
  ];
}

-- ---- the classes: states 0 to 4 are kin, and state 5 is alone
abbrev classes : List ℕ
classes = 0 ∷ 0 ∷ 0 ∷ 0 ∷ 0 ∷ 5 ∷ []

of_five : (P : ℕ → Type 0) → P 0 → P 1 → P 2 → P 3 → P 4 → (s : ℕ) → s < 5 → P s
of_five P p0 p1 p2 p3 p4 s below = elim (cases_eq s 0) [
  | inl is ↦ subst P (sym is) p0
  | inr not_0 ↦ elim (cases_eq s 1) [
    | inl is ↦ subst P (sym is) p1
    | inr not_1 ↦ elim (cases_eq s 2) [
      | inl is ↦ subst P (sym is) p2
      | inr not_2 ↦ elim (cases_eq s 3) [
        | inl is ↦ subst P (sym is) p3
        | inr not_3 ↦ subst P (omega (arith, below, not_0, not_1, not_2, not_3)) p4
      ]
    ]
  ]
]

of_six : (P : ℕ → Type 0) → P 0 → P 1 → P 2 → P 3 → P 4 → P 5 → (s : ℕ) → s < 6 → P s
of_six P p0 p1 p2 p3 p4 p5 s below = elim (cases_eq s 5) [
  | inl is ↦ subst P (sym is) p5
  | inr not_5 ↦ of_five P p0 p1 p2 p3 p4 s (omega (arith, below, not_5))
]

settled : AreSettledTo classes 6
settled = of_six _ refl refl refl refl refl refl

of_kin : AreOfKin coded_zigzag classes
of_kin = of_six _ (kin_self coded_zigzag 0) (kin_back coded_zigzag 0 1 (1 ∷ [], (to_1, refl)))
    (kin_back coded_zigzag 0 2 (1 ∷ 2 ∷ [], (to_1, (to_2, refl))))
    (kin_back coded_zigzag 0 3 (1 ∷ 2 ∷ 3 ∷ [], (to_1, (to_2, (to_3, refl))))) (kin_back coded_zigzag 0 4 kin)
    (kin_self coded_zigzag 5)

joined : AreJoinedTo zigzag 5 classes
joined = of_five _ (λ input label is. is 1 (lit< tt)) (λ (x, at, is_input). absurd (let both = at in cc))
    (λ input label is. sym (is 2 (lit< tt)) ∙ is 3 (lit< tt)) (λ input label is. sym (is 2 (lit< tt)) ∙ is 1 (lit< tt))
    (λ input label is. sym (is 4 (lit< tt)) ∙ is 3 (lit< tt))

classes_of_zigzag : AreKinClasses coded_zigzag classes
classes_of_zigzag = classes_are coded_zigzag classes refl settled of_kin joined
