-- The first conflict among the first states, as one more state is looked at.
use Rattle.std.proofs.Common.{◌≡◌, ◌≢◌, ℕ, ◌+◌, ◌<◌, ◌≤◌, ◌⊎◌, true, false, List, length, get_or, refl, sym, ap}
use Rattle.std.proofs.Common.{subst, ◌∙◌, arith, inl, inr, Option, Some, None, unwrap_or}
use Rattle.std.specs.Cmp.{nat_cmp_is}
use Rattle.std.specs.Ordering.{nat_cmp, is_eq}
use Rattle.std.specs.declared.cmp.Ordering.TheVariants.{Less, Greater}
use Rattle.std.proofs.lemmas.Bool.{cases_eq, cases_lt, cases_order, cases_Bool, true≢false}
use Rattle.si_base.specs.declared.ids.Event.{Event}
use Rattle.si_base.specs.Order.{IsFirst}
use Rattle.si_base.specs.declared.graph.Edge.{Edge}
use Rattle.si_base.specs.Graph.{StateGraph, enables, IsNonInput, arc}
use Rattle.si_base.proofs.GraphSteps.{enables-step, step_from_enables}
use Rattle.si_graph.specs.Loops.Arcs.{AreOut}
use Rattle.si_checks.proofs.ForkOrder.{out_item, out_place}
use Rattle.si_base.specs.Codes.{CodedGraph, code}
use Rattle.si_base.specs.Proper.{IsConflict, pair_place}
use Rattle.si_base.proofs.Booleans.{same_or_not}
use Rattle.si_checks.specs.Loops.Searches.{IsFirstOrNone, EnablesMore, Differ, Keeps}

-- ---- what the loop over the states keeps
-- p is the first state with the code k
pub record IsFirstOfCode (c : CodedGraph) (k p : ℕ) : Type 0 where
  pub has_code : code c p ≡ k
  pub first : (r : ℕ) → r < p → code c r ≢ k

-- of the first n states, the first with the code k, or None where none has it
abbrev pub IsFirstOfCodeBelow : CodedGraph → ℕ → ℕ → Option ℕ → Type 0
IsFirstOfCodeBelow c n k None = (r : ℕ) → r < n → code c r ≢ k
IsFirstOfCodeBelow c n k (Some p) = (p < n) × IsFirstOfCode c k p

-- a conflict among the first n states
pub record IsConflictBelow (c : CodedGraph) (n : ℕ) (pair : ℕ × ℕ) : Type 0 where
  pub conflict : IsConflict c pair
  pub below : pair.1 < n

-- ---- events that two states enable
agrees : (g : StateGraph) (p q : ℕ) → (Differ g p q → ⊥) → (e : Event) → IsNonInput g.signals e.sig
    → enables g p e ≡ enables g q e
agrees g p q same e non_input = elim (same_or_not (enables g p e) (enables g q e)) [
  | inl equal ↦ equal
  | inr differ ↦ absurd (same (record { event = e; non_input = non_input; differ = differ }))
]

conflict_from : (c : CodedGraph) (p q : ℕ) → p < q → q < c.graph.states → code c p ≡ code c q
    → Differ c.graph p q → IsConflict c (p, q)
conflict_from c p q order within same differ = record {
  order = order;
  within = within;
  same_code = same;
  event = differ.event;
  non_input = differ.non_input;
  differ = differ.differ;
}

-- ---- what one state enables and another doesn't
pub more_found : (g : StateGraph) (p q : ℕ) (arcs : List Edge) (out : AreOut g p arcs) (n : ℕ) (a : Edge)
    → n < length arcs → a ≡ get_or arcs n a → IsNonInput g.signals a.event.sig
    → false ≡ enables g q a.event → EnablesMore g p q
more_found g p q arcs out n a within at non_input not_there = record {
  event = a.event;
  non_input = non_input;
  here = enables-step g p a.event a.to (out_item g p arcs out n a within at);
  not_there = sym not_there;
}

pub none_more : (g : StateGraph) (p q : ℕ) (arcs : List Edge) (out : AreOut g p arcs) (n : ℕ)
    → length arcs ≤ n → ((k : ℕ) (d : Edge) → k < n → IsNonInput g.signals (get_or arcs k d).event.sig
    → enables g q (get_or arcs k d).event ≡ true) → EnablesMore g p q → ⊥
none_more g p q arcs out n count all more =
    let found = step_from_enables g p more.event more.here in
    let a = arc p more.event found.0 in
    let place = out_place g p arcs out more.event found.0 found.1 in
    let NonInput : Edge → Type 0 = λ b. IsNonInput g.signals b.event.sig in
    let Enabled : Edge → Type 0 = λ b. enables g q b.event ≡ true in
    let there =
    subst Enabled place.2 (all place.0 a (omega (arith, place.1)) (subst NonInput (sym place.2) more.non_input)) in
    true≢false (sym there ∙ more.not_there)

pub more_differs : (g : StateGraph) (p q : ℕ) → EnablesMore g p q → Differ g p q
more_differs g p q more = record {
  event = more.event;
  non_input = more.non_input;
  differ = λ same. true≢false (sym more.here ∙ same ∙ more.not_there);
}

pub less_differs : (g : StateGraph) (p q : ℕ) → EnablesMore g q p → Differ g p q
less_differs g p q more = record {
  event = more.event;
  non_input = more.non_input;
  differ = λ same. true≢false (sym more.here ∙ sym same ∙ more.not_there);
}

pub none_differ : (g : StateGraph) (p q : ℕ) → (EnablesMore g p q → ⊥) → (EnablesMore g q p → ⊥) → Differ g p q → ⊥
none_differ g p q more less is = elim (cases_Bool (enables g p is.event)) [
  | inl here ↦ elim (cases_Bool (enables g q is.event)) [
    | inl also ↦ is.differ (here ∙ sym also)
    | inr not ↦ more (record { event = is.event; non_input = is.non_input; here = here; not_there = not })
  ]
  | inr not ↦ elim (cases_Bool (enables g q is.event)) [
    | inl here ↦ less (record { event = is.event; non_input = is.non_input; here = here; not_there = not })
    | inr also ↦ is.differ (not ∙ sym also)
  ]
]

-- ---- the first conflict
-- what holds of the state n and the first state p of its code
pub record IsAt (c : CodedGraph) (n p : ℕ) : Type 0 where
  pub within : n < c.graph.states
  pub le : p ≤ n
  pub first : IsFirstOfCode c (code c n) p

-- another state with n's code comes after p
after_first : (c : CodedGraph) (n p r : ℕ) → IsAt c n p → code c r ≡ code c n → p ≤ r
after_first c n p r at same = elim (cases_lt r p) [
  | inl less ↦ absurd (at.first.first r less same)
  | inr above ↦ above
]

-- where n agrees with p, a state in conflict with n is in conflict with p
older : (c : CodedGraph) (n p r : ℕ) → IsAt c n p → (Differ c.graph p n → ⊥) → IsConflict c (r, n)
    → IsConflictBelow c n (p, r)
older c n p r at same is =
    let le : p ≤ r = after_first c n p r at is.same_code in
    let P : ℕ → Type 0 = λ x. Differ c.graph x n in
    let less : p < r = elim (cases_eq p r) [
      | inl equal ↦ absurd
          (same (subst P (sym equal) (record { event = is.event; non_input = is.non_input; differ = is.differ })))
      | inr other ↦ omega arith
    ] in
    let below : r < n = is.order in
    let agree = agrees c.graph p n same is.event is.non_input in
    record {
      conflict = conflict_from c p r less (omega (arith, at.within)) (at.first.has_code ∙ sym is.same_code)
          (record { event = is.event; non_input = is.non_input; differ = λ also. is.differ (sym also ∙ agree) });
      below = below;
    }

-- a conflict of the first n + 1 states is one of the first n, or with n
cases_new : (c : CodedGraph) (n : ℕ) (pair : ℕ × ℕ) → IsConflictBelow c (n + 1) pair
    → IsConflictBelow c n pair ⊎ ((pair.1 ≡ n) × IsConflict c (pair.0, n))
cases_new c n pair is = elim (cases_eq pair.1 n) [
  | inl same ↦ (let P : ℕ → Type 0 = λ x. IsConflict c (pair.0, x) in inr (same, subst P same is.conflict))
  | inr other ↦ (let below : pair.1 < n + 1 = is.below in inl (record { conflict = is.conflict; below = omega arith }))
]

wider : (c : CodedGraph) (n : ℕ) (pair : ℕ × ℕ) → IsConflictBelow c n pair → IsConflictBelow c (n + 1) pair
wider c n pair is = let below : pair.1 < n = is.below in record { conflict = is.conflict; below = omega arith }

pub keep_found : (c : CodedGraph) (n p : ℕ) (found : Option (ℕ × ℕ)) → IsAt c n p → (Differ c.graph p n → ⊥)
    → IsFirstOrNone pair_place (IsConflictBelow c n) found → IsFirstOrNone pair_place (IsConflictBelow c (n + 1)) found
keep_found c n p None at same none = λ pair is. elim (cases_new c n pair is) [
  | inl old ↦ none pair old
  | inr new ↦ none (p, pair.0) (older c n p pair.0 at same new.1)
]
keep_found c n p (Some f) at same first = record {
  holds = wider c n f first.holds;
  none_before = λ pair is before. elim (cases_new c n pair is) [
    | inl old ↦ first.none_before pair old before
    | inr new ↦ (
        let past = older c n p pair.0 at same new.1 in
        let order : p < pair.0 = past.conflict.order in
        let below : f.1 < n = first.holds.below in
        elim before [
          | inl less ↦ first.none_before (p, pair.0) past (inl (omega arith))
          | inr tied ↦ elim tied.1 [ inl less ↦ absurd (omega (arith, new.0)) | inr never ↦ absurd never.1 ]
        ])
  ];
}

-- no conflict of the first n states that starts before p comes before (p, n)
pair_first : (c : CodedGraph) (n p : ℕ) → IsAt c n p → Differ c.graph p n
    → ((pair : ℕ × ℕ) → IsConflictBelow c n pair → pair.0 ≤ p → ⊥)
    → IsFirst pair_place (IsConflictBelow c (n + 1)) (p, n)
pair_first c n p at differ none =
    let apart : p ≢ n = λ same. differ.differ (ap (λ x. enables c.graph x differ.event) same) in
    let less : p < n = omega (arith, at.le) in
    record {
      holds = record { conflict = conflict_from c p n less at.within at.first.has_code differ; below = omega arith };
      none_before = λ pair is before. elim (cases_new c n pair is) [
        | inl old ↦ elim before [
          | inl less ↦ none pair old (omega arith)
          | inr tied ↦ none pair old (omega (arith, tied.0))
        ]
        | inr new ↦ (
            let le : p ≤ pair.0 = after_first c n p pair.0 at new.1.same_code in
            elim before [
              | inl less ↦ absurd (omega arith)
              | inr tied ↦ elim tied.1 [ inl less ↦ absurd (omega (arith, new.0)) | inr never ↦ absurd never.1 ]
            ])
      ];
    }

pub take_pair : (c : CodedGraph) (n p : ℕ) (found : Option (ℕ × ℕ)) (r : ℕ × ℕ) → IsAt c n p
    → Differ c.graph p n → IsFirstOrNone pair_place (IsConflictBelow c n) found → Keeps found (p, n) r
    → IsFirst pair_place (IsConflictBelow c (n + 1)) r
take_pair c n p None r at differ none keeps =
    let P : ℕ × ℕ → Type 0 = λ x. IsFirst pair_place (IsConflictBelow c (n + 1)) x in
    subst P (sym keeps) (pair_first c n p at differ (λ pair is le. none pair is))
take_pair c n p (Some f) r at differ first keeps =
    let P : ℕ × ℕ → Type 0 = λ x. IsFirst pair_place (IsConflictBelow c (n + 1)) x in
    let below : f.1 < n = first.holds.below in
    elim (cases_lt p f.0) [
      | inl less ↦ subst P (sym (keeps.1 less))
          (pair_first c n p at differ (λ pair is le. first.none_before pair is (inl (omega arith))))
      | inr above ↦ subst P (sym (keeps.0 above)) (record {
        holds = wider c n f first.holds;
        none_before = λ pair is before. elim (cases_new c n pair is) [
          | inl old ↦ first.none_before pair old before
          | inr new ↦ (
              let le : p ≤ pair.0 = after_first c n p pair.0 at new.1.same_code in
              elim before [
                | inl less ↦ absurd (omega arith)
                | inr tied ↦ elim tied.1 [ inl less ↦ absurd (omega (arith, new.0)) | inr never ↦ absurd never.1 ]
              ])
        ];
      })
    ]

-- all states have been looked at
pub all_states : (c : CodedGraph) (n : ℕ) (found : Option (ℕ × ℕ)) → c.graph.states ≤ n
    → IsFirstOrNone pair_place (IsConflictBelow c n) found → IsFirstOrNone pair_place (IsConflict c) found
all_states c n None all none = λ pair is. none pair (record { conflict = is; below = omega (arith, is.within) })
all_states c n (Some f) all first = record {
  holds = first.holds.conflict;
  none_before =
      λ pair is before. first.none_before pair (record { conflict = is; below = omega (arith, is.within) }) before;
}

-- ---- the first states of the codes
pub other_key : (k q : ℕ) → q ≢ k → is_eq (nat_cmp k q) ≡ false
other_key k q apart = elim (cases_order k q) [
  | inl same ↦ absurd (apart (sym same))
  | inr (inl less) ↦ rw (← nat_cmp_is k q Less less) refl
  | inr (inr more) ↦ rw (← nat_cmp_is k q Greater more) refl
]

pub first_at : (c : CodedGraph) (n p : ℕ) (old : Option ℕ) → n < c.graph.states → p ≡ unwrap_or old n
    → IsFirstOfCodeBelow c n (code c n) old → IsAt c n p
first_at c n p None within is none =
    let P : ℕ → Type 0 = λ x. IsAt c n x in
    subst P (sym is) (record { within = within; le = omega arith; first = record { has_code = refl; first = none } })
first_at c n p (Some r) within is first =
    let P : ℕ → Type 0 = λ x. IsAt c n x in
    subst P (sym is) (record { within = within; le = omega (arith, first.0); first = first.1 })

one_more : (c : CodedGraph) (n k : ℕ) (old : Option ℕ) → (k ≡ code c n → ⊥) → IsFirstOfCodeBelow c n k old
    → IsFirstOfCodeBelow c (n + 1) k old
one_more c n k None other none = λ r below. elim (cases_eq r n) [
  | inl same ↦ (λ is. other (sym is ∙ ap (λ x. code c x) same))
  | inr apart ↦ none r (omega arith)
]
one_more c n k (Some p) other first = (omega (arith, first.0), first.1)

pub firsts_more : (c : CodedGraph) (n p : ℕ) (old new : ℕ → Option ℕ) → IsAt c n p → new (code c n) ≡ Some p
    → ((k : ℕ) → k ≢ code c n → new k ≡ old k) → ((k : ℕ) → IsFirstOfCodeBelow c n k (old k)) → (k : ℕ)
    → IsFirstOfCodeBelow c (n + 1) k (new k)
firsts_more c n p old new at here others firsts k =
    let P : Option ℕ → Type 0 = λ o. IsFirstOfCodeBelow c (n + 1) k o in
    elim (cases_eq k (code c n)) [
      | inl same ↦ (
          let Q : ℕ → Type 0 = λ x. IsFirstOfCodeBelow c (n + 1) x (new x) in
          let R : Option ℕ → Type 0 = λ o. IsFirstOfCodeBelow c (n + 1) (code c n) o in
          subst Q (sym same) (subst R (sym here) (omega (arith, at.le), at.first)))
      | inr apart ↦ subst P (sym (others k apart)) (one_more c n k (old k) apart (firsts k))
    ]
