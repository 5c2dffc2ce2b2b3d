-- Any list can be put in order, each element once.
use Rattle.std.proofs.Common.{◌≡◌, ◌+◌, ◌≤◌, ◌⊎◌, ◌∙◌, List, [], ◌∷◌, length, refl, sym, ap, subst}
use Rattle.std.proofs.Common.{arith, inl, inr, Ordering, Less, Equal, Greater}
use Rattle.std.specs.Cmp.{IsTotalOrder}
use Rattle.std.specs.List.{AllByRecursion}
use Rattle.std.specs.List.Sorted.{IsStrictlySortedBy}
use Rattle.std.specs.Ordering.{ordering_reverse, is_eq}
use Rattle.si_base.specs.declared.graph.Edge.{Edge}
use Rattle.si_base.specs.EdgeOrder.{edge_cmp}
use Rattle.si_base.proofs.OrderAscending.{In, after_head}
use Rattle.si_base.proofs.GivenGraphUnique.{in_from_contains, contains_from_in, edges_total}
use Rattle.si_graph.specs.Loops.Groups.{AreOrdered}
use Rattle.si_graph.proofs.ArcFacts.{edge_ties, edge_eq-true}

all_from_in : {K : Type 0} (P : K → Type 0) (xs : List K) → ((a : K) → In a xs → P a) → AllByRecursion P xs
all_from_in P [] each = tt
all_from_in P (x ∷ xs) each = (each x (inl refl), all_from_in P xs (λ a there. each a (inr there)))

-- an order is one of three
cases_ordering : (o : Ordering) → (o ≡ Less) ⊎ ((o ≡ Equal) ⊎ (o ≡ Greater))
cases_ordering Less = inl refl
cases_ordering Equal = inr (inl refl)
cases_ordering Greater = inr (inr refl)

module _ {K : Type 0} (c : K → K → Ordering) (total : IsTotalOrder c) (tied : (x y : K) → c x y ≡ Equal → x ≡ y) where
  -- zs is ys in order with x
  record Holds (x : K) (ys zs : List K) : Type 0 where
    sorted : IsStrictlySortedBy c zs
    into : (a : K) → (a ≡ x) ⊎ In a ys → In a zs
    back : (a : K) → In a zs → (a ≡ x) ⊎ In a ys
    longer : length zs ≤ length ys + 1

  above_all : (x y : K) (ys : List K) → c x y ≡ Less → AllByRecursion (λ z. c y z ≡ Less) ys
      → AllByRecursion (λ z. c x z ≡ Less) ys
  above_all x y ys less above =
      all_from_in (λ z. c x z ≡ Less) ys (λ a there. total.trans x y a less (after_head c y ys above a there))

  later : (x y : K) → c x y ≡ Greater → c y x ≡ Less
  later x y more = total.antisymm y x ∙ ap ordering_reverse more

  put_in : (x : K) (ys : List K) → IsStrictlySortedBy c ys → (zs : List K) × Holds x ys zs
  unfolding IsStrictlySortedBy
  put_in x [] sorted =
      (x ∷ [], record { sorted = (tt, tt); into = λ a there. there; back = λ a there. there; longer = omega arith })
  put_in x (y ∷ ys) sorted = elim (cases_ordering (c x y)) [
    | inl less ↦ (
      x ∷ y ∷ ys,
      record {
        sorted = ((less, above_all x y ys less sorted.0), sorted);
        into = λ a there. there;
        back = λ a there. there;
        longer = omega arith;
      },
    )
    | inr (inl same) ↦ (
      y ∷ ys,
      record {
        sorted = sorted;
        into = λ a there. elim there [ inl is ↦ inl (is ∙ tied x y same) | inr old ↦ old ];
        back = λ a there. inr there;
        longer = omega arith;
      },
    )
    | inr (inr more) ↦ (
        let rest = put_in x ys sorted.1 in
        let holds = rest.1 in (
          y ∷ rest.0,
          record {
            sorted = (
              all_from_in (λ z. c y z ≡ Less) rest.0 (λ a there. elim (holds.back a there) [
                | inl is ↦ subst (λ (z : K). c y z ≡ Less) (sym is) (later x y more)
                | inr old ↦ after_head c y ys sorted.0 a old
              ]),
              holds.sorted,
            );
            into = λ a there. elim there [
              | inl is ↦ inr (holds.into a (inl is))
              | inr (inl is) ↦ inl is
              | inr (inr old) ↦ inr (holds.into a (inr old))
            ];
            back = λ a there. elim there [
              | inl is ↦ inr (inl is)
              | inr old ↦ elim (holds.back a old) [ inl is ↦ inl is | inr before ↦ inr (inr before) ]
            ];
            longer = omega (arith, holds.longer);
          },
        ))
  ]

  -- ys is xs in order, each element once
  pub record IsOrdered (xs ys : List K) : Type 0 where
    pub sorted : IsStrictlySortedBy c ys
    pub into : (a : K) → In a xs → In a ys
    pub back : (a : K) → In a ys → In a xs
    pub no_longer : length ys ≤ length xs

  pub in_order : (xs : List K) → (ys : List K) × IsOrdered xs ys
  unfolding IsStrictlySortedBy
  in_order [] =
      ([], record { sorted = tt; into = λ a there. there; back = λ a there. there; no_longer = omega arith })
  in_order (x ∷ xs) =
      let rest = in_order xs in
      let more = put_in x rest.0 rest.1.sorted in
      let holds = more.1 in
      let is = rest.1 in (
        more.0,
        record {
          sorted = holds.sorted;
          into = λ a there. holds.into a (elim there [ inl same ↦ inl same | inr old ↦ inr (is.into a old) ]);
          back = λ a there. elim (holds.back a there) [ inl same ↦ inl same | inr old ↦ inr (is.back a old) ];
          no_longer = omega (arith, holds.longer, is.no_longer);
        },
      )

-- ---- arcs
arcs_tied : (x y : Edge) → edge_cmp x y ≡ Equal → x ≡ y
arcs_tied x y same = edge_eq-true x y (edge_ties x y ∙ ap is_eq same)

pub arcs_in_order : (arcs : List Edge) → (ordered : List Edge) × AreOrdered arcs ordered
arcs_in_order arcs =
    let r = in_order edge_cmp edges_total arcs_tied arcs in
    let is = r.1 in (
      r.0,
      record {
        sorted = is.sorted;
        same = λ a. (
          λ there. contains_from_in arcs a (is.back a (in_from_contains r.0 a there.0 there.1 there.2)),
          λ there. contains_from_in r.0 a (is.into a (in_from_contains arcs a there.0 there.1 there.2)),
        );
        no_longer = is.no_longer;
      },
    )
