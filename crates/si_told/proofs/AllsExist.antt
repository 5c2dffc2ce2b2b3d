-- Where a property can be decided, and all that have it are in some list, there is a list of them in order.
use Rattle.std.proofs.Common.{◌≡◌, ℕ, ◌⊎◌, List, [], ◌∷◌, length, Contains, refl, sym, ap₂, subst, ◌∙◌, arith}
use Rattle.std.proofs.Common.{inl, inr}
use Rattle.std.proofs.lemmas.Bool.{cases_order}
use Rattle.si_base.specs.Order.{Before}
use Rattle.si_base.proofs.OrderLemmas.{InOrder, order_tail, order_head, in_contains}
use Rattle.si_checks.proofs.SearchDecisions.{Decided}
use Rattle.si_graph.proofs.ListMembers.{Contains-nil, Contains-here, Contains-there, Contains-cons_cases}
use Rattle.si_told.specs.All.{AreAll}
use Rattle.si_told.proofs.Alls.{two_in_order, none_are, same_are}

before_more : (xs ys zs : List ℕ) → Before xs ys → Before ys zs → Before xs zs
before_more [] ys zs one other = one
before_more (x ∷ xs) [] zs one other = absurd one
before_more (x ∷ xs) (y ∷ ys) [] one other = other
before_more (x ∷ xs) (y ∷ ys) (z ∷ zs) (inl less) (inl also) = inl (omega arith)
before_more (x ∷ xs) (y ∷ ys) (z ∷ zs) (inl less) (inr also) = inl (omega (arith, also.0))
before_more (x ∷ xs) (y ∷ ys) (z ∷ zs) (inr tied) (inl also) = inl (omega (arith, tied.0))
before_more (x ∷ xs) (y ∷ ys) (z ∷ zs) (inr tied) (inr also) =
    inr (tied.0 ∙ also.0, before_more xs ys zs tied.1 also.1)

compare : (xs ys : List ℕ) → length xs ≡ length ys → Before xs ys ⊎ ((xs ≡ ys) ⊎ Before ys xs)
compare [] [] size = inr (inl refl)
compare [] (y ∷ ys) size = absurd (omega arith)
compare (x ∷ xs) [] size = absurd (omega arith)
compare (x ∷ xs) (y ∷ ys) size = elim (cases_order x y) [
  | inl same ↦ elim (compare xs ys (omega arith)) [
    | inl before ↦ inl (inr (same, before))
    | inr (inl tied) ↦ inr (inl (ap₂ (λ (n : ℕ) (ns : List ℕ). n ∷ ns) same tied))
    | inr (inr after) ↦ inr (inr (inr (sym same, after)))
  ]
  | inr (inl less) ↦ inl (inl less)
  | inr (inr more) ↦ inr (inr (inl more))
]

module _ {A : Type 0} (place : A → List ℕ) (P : A → Type 0)
    (size : (x y : A) → length (place x) ≡ length (place y))
    (apart : (x y : A) → P x → P y → place x ≡ place y → x ≡ y) where
  -- an item before all items of a list in order
  put_before : (x : A) (xs : List A) → InOrder place xs → ((y : A) → Contains xs y → Before (place x) (place y))
      → InOrder place (x ∷ xs)
  put_before x xs order before = two_in_order place (x ∷ []) xs (λ i j d less within. absurd (omega arith)) order
      (λ u y here there. elim (Contains-cons_cases x [] u here) [
        | inl same ↦ subst (λ (v : A). Before (place v) (place y)) same (before y there)
        | inr later ↦ absurd (Contains-nil u later)
      ])

  -- the list with one item more
  record IsWith (x : A) (old new : List A) : Type 0 where
    order : InOrder place new
    members : (y : A) → Contains new y → Contains old y ⊎ (x ≡ y)
    kept : (y : A) → Contains old y → Contains new y
    there : Contains new x

  with_item : (x : A) → P x → (xs : List A) → InOrder place xs → ((y : A) → Contains xs y → P y)
      → (ys : List A) × IsWith x xs ys
  with_item x is [] order are = (
    x ∷ [],
    record {
      order = λ i j d less within. absurd (omega arith);
      members = λ y there. elim (Contains-cons_cases x [] y there) [
        | inl same ↦ inr same
        | inr later ↦ absurd (Contains-nil y later)
      ];
      kept = λ y there. absurd (Contains-nil y there);
      there = Contains-here x [];
    },
  )
  with_item x is (z ∷ zs) order are = elim (compare (place x) (place z) (size x z)) [
    | inl before ↦ (
      x ∷ z ∷ zs,
      record {
        order = put_before x (z ∷ zs) order (λ y there. elim (Contains-cons_cases z zs y there) [
          | inl same ↦ subst (λ (v : A). Before (place x) (place v)) same before
          | inr later ↦ before_more (place x) (place z) (place y) before
              (order_head place z zs y order (in_contains zs y later))
        ]);
        members = λ y there. elim (Contains-cons_cases x (z ∷ zs) y there) [
          | inl same ↦ inr same
          | inr later ↦ inl later
        ];
        kept = λ y there. Contains-there x (z ∷ zs) y there;
        there = Contains-here x (z ∷ zs);
      },
    )
    | inr (inl tied) ↦ (
      z ∷ zs,
      record {
        order = order;
        members = λ y there. inl there;
        kept = λ y there. there;
        there = subst (Contains (z ∷ zs)) (sym (apart x z is (are z (Contains-here z zs)) tied)) (Contains-here z zs);
      },
    )
    | inr (inr after) ↦ (
        let rest = with_item x is zs (order_tail place z zs order) (λ y there. are y (Contains-there z zs y there)) in (
          z ∷ rest.0,
          record {
            order = put_before z rest.0 rest.1.order (λ y there. elim (rest.1.members y there) [
              | inl old ↦ order_head place z zs y order (in_contains zs y old)
              | inr same ↦ subst (λ (v : A). Before (place z) (place v)) same after
            ]);
            members = λ y there. elim (Contains-cons_cases z rest.0 y there) [
              | inl same ↦ inl (subst (Contains (z ∷ zs)) same (Contains-here z zs))
              | inr later ↦ elim (rest.1.members y later) [
                | inl old ↦ inl (Contains-there z zs y old)
                | inr new ↦ inr new
              ]
            ];
            kept = λ y there. elim (Contains-cons_cases z zs y there) [
              | inl same ↦ subst (Contains (z ∷ rest.0)) same (Contains-here z rest.0)
              | inr later ↦ Contains-there z rest.0 y (rest.1.kept y later)
            ];
            there = Contains-there z rest.0 x rest.1.there;
          },
        ))
  ]

  -- those of a list that have P, in order
  those : ((x : A) → Decided (P x)) → (items : List A)
      → (xs : List A) × AreAll place (λ x. P x × Contains items x) xs
  those decided [] = ([], none_are place (λ x. P x × Contains [] x) (λ x is. Contains-nil x is.1))
  those decided (z ∷ zs) =
      let rest = those decided zs in
      elim (decided z) [
        | inr is_not ↦ (
          rest.0,
          same_are place (λ x. P x × Contains zs x) (λ x. P x × Contains (z ∷ zs) x) rest.0
              (λ x is. (is.0, Contains-there z zs x is.1))
              (λ x is. elim (Contains-cons_cases z zs x is.1) [
                | inl same ↦ absurd (is_not (subst P (sym same) is.0))
                | inr later ↦ (is.0, later)
              ]) rest.1,
        )
        | inl is ↦ (
            let more = with_item z is rest.0 rest.1.in_order (λ y there. ((rest.1.exactly y).0 there).0) in (
              more.0,
              record {
                exactly = λ x. (
                  (λ there. elim (more.1.members x there) [
                    | inl old ↦ (let known = (rest.1.exactly x).0 old in (known.0, Contains-there z zs x known.1))
                    | inr same ↦ subst (λ (v : A). P v × Contains (z ∷ zs) v) same (is, Contains-here z zs)
                  ]),
                  (λ known. elim (Contains-cons_cases z zs x known.1) [
                    | inl same ↦ subst (Contains more.0) same more.1.there
                    | inr later ↦ more.1.kept x ((rest.1.exactly x).1 (known.0, later))
                  ]),
                );
                in_order = more.1.order;
              },
            ))
      ]

  pub some_all : ((x : A) → Decided (P x)) → (items : List A) → ((x : A) → P x → Contains items x)
      → (xs : List A) × AreAll place P xs
  some_all decided items all =
      let found = those decided items in
      (found.0, same_are place (λ x. P x × Contains items x) P found.0 (λ x is. is.0) (λ x is. (is, all x is)) found.1)
