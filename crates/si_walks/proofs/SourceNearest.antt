-- Of the states from which two targets can be reached the first, one state after another.
use Rattle.std.proofs.Common.{◌≡◌, ℕ, zero, suc, ◌+◌, ◌<◌, ◌⊎◌, ◌∙◌, sym, refl, ap, subst, arith, List, inl, inr}
use Rattle.std.proofs.Common.{Option, Some, None}
use Rattle.std.proofs.lemmas.Bool.{cases_order, cases_lt}
use Rattle.si_insert.proofs.InsertionKeeps.{some_same}
use Rattle.si_walks.specs.Loops.Sources.{arcs_to_both, IsNearestOrNone, IsFewer}

module _ (first second : List (Option ℕ)) where
  pub none_yet : IsNearestOrNone first second 0 None
  none_yet = λ j m below is. absurd (omega arith)

  -- the next state is better
  pub better : (k : ℕ) (best : Option ℕ) → IsNearestOrNone first second k best → IsFewer first second k best
      → IsNearestOrNone first second (k + 1) (Some k)
  better k None none fewer = record {
    below = omega arith;
    arcs = fewer.0;
    has = fewer.1;
    least = λ j m below is. elim (cases_order j k) [
      | inl same ↦ inr (
        some_same fewer.0 m (arcs_to_both first second k) fewer.1 (ap (arcs_to_both first second) (sym same) ∙ is),
        omega arith,
      )
      | inr (inl less) ↦ absurd (none j m less is)
      | inr (inr more) ↦ absurd (omega arith)
    ];
  }
  better k (Some b) so_far fewer = record {
    below = omega arith;
    arcs = fewer.0;
    has = fewer.1;
    least = λ j m below is. elim (cases_order j k) [
      | inl same ↦ inr (
        some_same fewer.0 m (arcs_to_both first second k) fewer.1 (ap (arcs_to_both first second) (sym same) ∙ is),
        omega arith,
      )
      | inr (inl less) ↦ (
          let lower : fewer.0 < so_far.arcs = fewer.2 so_far.arcs so_far.has in
          inl (elim (so_far.least j m less is) [ inl above ↦ omega arith | inr tied ↦ omega (arith, tied.0) ]))
      | inr (inr more) ↦ absurd (omega arith)
    ];
  }

  -- the next state isn't better
  pub no_better : (k : ℕ) (best : Option ℕ) → IsNearestOrNone first second k best
      → (IsFewer first second k best → ⊥) → IsNearestOrNone first second (k + 1) best
  no_better k None none fewer = λ j m below is. elim (cases_order j k) [
    | inl same ↦ fewer (m, ap (arcs_to_both first second) (sym same) ∙ is)
    | inr (inl less) ↦ none j m less is
    | inr (inr more) ↦ absurd (omega arith)
  ]
  no_better k (Some b) so_far fewer = record {
    below = omega (arith, so_far.below);
    arcs = so_far.arcs;
    has = so_far.has;
    least = λ j m below is. elim (cases_order j k) [
      | inl same ↦ elim (cases_order so_far.arcs m) [
        | inl tied ↦ inr (tied, omega (arith, so_far.below, same))
        | inr (inl above) ↦ inl above
        | inr (inr under) ↦ absurd (fewer (
          m,
          ap (arcs_to_both first second) (sym same) ∙ is,
          λ n has.
              (let tied : n ≡ so_far.arcs = some_same n so_far.arcs (arcs_to_both first second b) has so_far.has in
              omega arith),
        ))
      ]
      | inr (inl less) ↦ so_far.least j m less is
      | inr (inr more) ↦ absurd (omega arith)
    ];
  }

  decided_fewer : (k : ℕ) (best : Option ℕ) → IsNearestOrNone first second k best
      → IsFewer first second k best ⊎ (IsFewer first second k best → ⊥)
  decided_fewer k best so_far = by best so_far (arcs_to_both first second k) refl
    where
      by : (best : Option ℕ) → IsNearestOrNone first second k best → (x : Option ℕ) → arcs_to_both first second k ≡ x
          → IsFewer first second k best ⊎ (IsFewer first second k best → ⊥)
      by None none (Some n) is = inl (n, is)
      by None none None is = inr (λ fewer. (let both : None ≡ Some fewer.0 = sym is ∙ fewer.1 in cc))
      by (Some b) near None is = inr (λ fewer. (let both : None ≡ Some fewer.0 = sym is ∙ fewer.1 in cc))
      by (Some b) near (Some n) is = elim (cases_lt n near.arcs) [
        | inl less ↦ inl (
          n,
          is,
          λ m has. (let tied : m ≡ near.arcs = some_same m near.arcs (arcs_to_both first second b) has near.has in
              omega arith),
        )
        | inr above ↦ inr (λ fewer. (
            let tied : fewer.0 ≡ n = some_same fewer.0 n (arcs_to_both first second k) fewer.1 is in
            let lower : fewer.0 < near.arcs = fewer.2 near.arcs near.has in absurd (omega arith)))
      ]

  pub some_nearest : (k : ℕ) → (best : Option ℕ) × IsNearestOrNone first second k best
  some_nearest zero = (None, none_yet)
  some_nearest (suc k) =
      let next : k + 1 ≡ suc k = omega arith in
      let so_far = some_nearest k in
      elim (decided_fewer k so_far.0 so_far.1) [
        | inl fewer ↦ (
          Some k,
          subst (λ (n : ℕ). IsNearestOrNone first second n (Some k)) next (better k so_far.0 so_far.1 fewer),
        )
        | inr not_fewer ↦ (
          so_far.0,
          subst (λ (n : ℕ). IsNearestOrNone first second n so_far.0) next (no_better k so_far.0 so_far.1 not_fewer),
        )
      ]
