-- Whether two states are kin can be decided: some labels are the same just where states are kin.
use Rattle.std.proofs.Common.{◌≡◌, ◌≢◌, ℕ, ◌∙◌, ◌⊎◌, Bool, true, false, List, [], ◌∷◌, length, Contains, refl}
use Rattle.std.proofs.Common.{sym, ap, subst, arith, inl, inr}
use Rattle.std.proofs.lemmas.Bool.{cases_eq, cases_lt, true≢false}
use Rattle.std.proofs.lemmas.Option.{slice_get_within}
use Rattle.si_base.specs.declared.graph.Edge.{Edge}
use Rattle.si_base.specs.declared.graph.Signal.{Signal}
use Rattle.si_base.specs.Codes.{CodedGraph}
use Rattle.si_base.specs.Graph.{arc}
use Rattle.si_base.proofs.Booleans.{same_if}
use Rattle.si_checks.proofs.SearchDecisions.{Decided, driven}
use Rattle.si_graph.proofs.ListMembers.{Contains-cons_cases, Contains-here, Contains-nil, Contains-there}
use Rattle.si_insert.specs.Accepted.{IsInput}
use Rattle.si_walks.proofs.WalkEvents.{input_if_not_driven, input_not_driven}
use Rattle.si_kin.specs.Kin.{AreKin, RowTo, TellsKin}
use Rattle.si_kin.proofs.KinRows.{kin_back, kin_next, kin_on, kin_self}

input_or_not : (signals : List Signal) (z : ℕ) → Decided (IsInput signals z)
input_or_not signals z = elim (cases_lt z (length signals)) [
  | inl within ↦ elim (driven signals z) [
    | inl drives ↦ inr (λ input. input_not_driven signals z input drives)
    | inr not_driven ↦ inl (input_if_not_driven signals z within not_driven)
  ]
  | inr past ↦ inr (λ (x, at, is). absurd (omega (arith, slice_get_within signals z x at)))
]

-- ---- one label for two
-- `one` in place of `other`
put_for : (one other x : ℕ) → ((x ≡ other) ⊎ (x ≢ other)) → ℕ
put_for one other x (inl same) = one
put_for one other x (inr apart) = x

cases_put : (one other x : ℕ) (k : (x ≡ other) ⊎ (x ≢ other))
    → ((x ≡ other) × (put_for one other x k ≡ one)) ⊎ ((x ≢ other) × (put_for one other x k ≡ x))
unfolding put_for
cases_put one other x (inl same) = inl (same, refl)
cases_put one other x (inr apart) = inr (apart, refl)

put : (one other x : ℕ) → ℕ
put one other x = put_for one other x (cases_eq x other)

cases_of : (one other x : ℕ) → ((x ≡ other) × (put one other x ≡ one)) ⊎ ((x ≢ other) × (put one other x ≡ x))
unfolding put
cases_of one other x = cases_put one other x (cases_eq x other)

put_both : (one other : ℕ) → put one other one ≡ put one other other
put_both one other = both (cases_of one other one) (cases_of one other other)
  where
    at_one : ((one ≡ other) × (put one other one ≡ one)) ⊎ ((one ≢ other) × (put one other one ≡ one))
        → put one other one ≡ one
    at_one (inl is) = is.1
    at_one (inr is) = is.1

    both : ((one ≡ other) × (put one other one ≡ one)) ⊎ ((one ≢ other) × (put one other one ≡ one))
        → ((other ≡ other) × (put one other other ≡ one)) ⊎ ((other ≢ other) × (put one other other ≡ other))
        → put one other one ≡ put one other other
    both here (inl is) = at_one here ∙ sym is.1
    both here (inr is) = absurd (is.0 refl)

-- ---- labels
module _ (c : CodedGraph) where
  -- states of one label are kin, and the ends of each of these arcs that is by an input have one
  record AreLabels (arcs : List Edge) (label : ℕ → ℕ) : Type 0 where
    kin : (s t : ℕ) → label s ≡ label t → AreKin c s t
    ends : (a : Edge) → Contains arcs a → IsInput c.graph.signals a.event.sig → label a.from ≡ label a.to

  own_labels : AreLabels [] (λ s. s)
  own_labels = record {
    kin = λ s t same. subst (AreKin c s) same (kin_self c s);
    ends = λ a there. absurd (Contains-nil a there);
  }

  module _ (a : Edge) (arcs : List Edge) (label : ℕ → ℕ) (are : AreLabels arcs label) where
    joined : ℕ → ℕ
    joined s = put (label a.from) (label a.to) (label s)

    kin_joined : AreKin c a.from a.to → (s t : ℕ) → joined s ≡ joined t → AreKin c s t
    unfolding joined
    kin_joined kin s t same = elim (cases_of (label a.from) (label a.to) (label s)) [
      | inl one ↦ elim (cases_of (label a.from) (label a.to) (label t)) [
        | inl other ↦ are.kin s t (one.0 ∙ sym other.0)
        | inr other ↦ (
            let from_t : AreKin c a.from t = are.kin a.from t (sym one.1 ∙ same ∙ other.1) in
            kin_on c s a.to t (are.kin s a.to one.0) (kin_on c a.to a.from t (kin_back c a.from a.to kin) from_t))
      ]
      | inr one ↦ elim (cases_of (label a.from) (label a.to) (label t)) [
        | inl other ↦ (
            let to_from : AreKin c s a.from = are.kin s a.from (sym one.1 ∙ same ∙ other.1) in
            kin_on c s a.from t to_from (kin_on c a.from a.to t kin (kin_back c t a.to (are.kin t a.to other.0))))
        | inr other ↦ are.kin s t (sym one.1 ∙ same ∙ other.1)
      ]
    ]

    with_arc : AreKin c a.from a.to → AreLabels (a ∷ arcs) joined
    unfolding joined
    with_arc kin = record {
      kin = kin_joined kin;
      ends = λ x there input. elim (Contains-cons_cases a arcs x there) [
        | inl same ↦ subst (λ (y : Edge). joined y.from ≡ joined y.to) same (put_both (label a.from) (label a.to))
        | inr later ↦ ap (put (label a.from) (label a.to)) (are.ends x later input)
      ];
    }

    without : (IsInput c.graph.signals a.event.sig → ⊥) → AreLabels (a ∷ arcs) label
    without driven = record {
      kin = are.kin;
      ends = λ x there input. elim (Contains-cons_cases a arcs x there) [
        | inl same ↦ absurd (driven (subst (λ (y : Edge). IsInput c.graph.signals y.event.sig) (sym same) input))
        | inr later ↦ are.ends x later input
      ];
    }

  some_labels : (arcs : List Edge) → ((a : Edge) → Contains arcs a → Contains c.graph.edges a)
      → (label : ℕ → ℕ) × AreLabels arcs label
  some_labels [] are = ((λ s. s), own_labels)
  some_labels (a ∷ arcs) are =
      let rest = some_labels arcs (λ x there. are x (Contains-there a arcs x there)) in
      elim (input_or_not c.graph.signals a.event.sig) [
        | inl input ↦ (
          joined a arcs rest.0 rest.1,
          with_arc a arcs rest.0 rest.1
              (kin_next c a.from a.to (a.event, input, inl (are a (Contains-here a arcs)))),
        )
        | inr driven ↦ (rest.0, without a arcs rest.0 rest.1 driven)
      ]

  same_row : (label : ℕ → ℕ) → AreLabels c.graph.edges label → (s : ℕ) (row : List ℕ) (t : ℕ) → RowTo c s row t
      → label s ≡ label t
  same_row label are s [] t same = ap label same
  same_row label are s (u ∷ row) t ((e, input, inl step), later) =
      are.ends (arc s e u) step input ∙ same_row label are u row t later
  same_row label are s (u ∷ row) t ((e, input, inr step), later) =
      sym (are.ends (arc u e s) step input) ∙ same_row label are u row t later

  pub kin_or_not : (s t : ℕ) → Decided (AreKin c s t)
  kin_or_not s t =
      let labels = some_labels c.graph.edges (λ a there. there) in
      elim (cases_eq (labels.0 s) (labels.0 t)) [
        | inl same ↦ inl (labels.1.kin s t same)
        | inr apart ↦ inr (λ kin. apart (same_row labels.0 labels.1 s kin.0 t kin.1))
      ]

  pub some_kin_told : (p q : ℕ) → (told : Bool) × TellsKin c p q told
  some_kin_told p q = elim (kin_or_not p q) [
    | inl kin ↦ (true, (λ told. kin, λ _. refl))
    | inr not_kin ↦ (false, (λ told. absurd (true≢false (sym told)), λ kin. absurd (not_kin kin)))
  ]

pub kin_told_once : (c : CodedGraph) (p q : ℕ) (one other : Bool) → TellsKin c p q one → TellsKin c p q other
    → one ≡ other
kin_told_once c p q one other tells also =
    same_if one other (λ told. also.1 (tells.0 told)) (λ told. tells.1 (also.0 told))
