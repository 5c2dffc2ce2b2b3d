-- Classes are numbered, state by state.
use Rattle.std.proofs.Common.{◌≡◌, ◌≢◌, ◌⊎◌, ℕ, ◌+◌, ◌<◌, false, List, [], ◌∷◌, ◌++◌, length, get_or}
use Rattle.std.proofs.Common.{slice_get, Option, None, Some, unwrap_or, refl, sym, ap, subst, ◌∙◌, arith, inl, inr}
use Rattle.std.proofs.Common.{eqb-true}
use Rattle.std.specs.Ordering.{nat_cmp, is_eq}
use Rattle.std.proofs.lemmas.Bool.{cases_eq, cases_Bool, and_parts}
use Rattle.std.proofs.lemmas.List.{length_push, get_or_push, get_or_append_left}
use Rattle.std.proofs.lemmas.List.Elements.{All-push, All-weaker}
use Rattle.std.proofs.lemmas.Option.{slice_get-get_or, same_Some}
use Rattle.si_base.specs.Codes.{CodedGraph}
use Rattle.si_graph.proofs.ArcFacts.{is_eq-then, is_eq-nat}
use Rattle.si_graph.proofs.RenamingLemmas.{slice_get_left, slice_get_last}
use Rattle.si_fold.specs.declared.numbering.Key.{Key}
use Rattle.si_fold.specs.Loops.Partition.{Shape}
use Rattle.si_fold.specs.Loops.Numbered.{key_cmp, key_of, IsFirstLike, AreNumbered}

-- ---- keys
pub other_key : (k q : Key) → q ≢ k → is_eq (key_cmp k q) ≡ false
other_key k q apart = elim (cases_Bool (is_eq (key_cmp k q))) [
  | inr differs ↦ differs
  | inl same ↦ absurd (
      let parts = and_parts (is_eq (nat_cmp k.class q.class)) (is_eq (nat_cmp k.code q.code))
      (sym (is_eq-then (nat_cmp k.class q.class) (nat_cmp k.code q.code)) ∙ same) in
      let class : k.class ≡ q.class = eqb-true k.class q.class (sym (is_eq-nat k.class q.class) ∙ parts.0) in
      let code : k.code ≡ q.code = eqb-true k.code q.code (sym (is_eq-nat k.code q.code) ∙ parts.1) in
      let whole : k ≡ q = λ i. record { class = class i; code = code i } in
      apart (sym whole))
]

pub cases_key : (k q : Key) → (k ≡ q) ⊎ (k ≢ q)
cases_key k q = elim (cases_eq k.class q.class) [
  | inr apart ↦ inr (λ same. apart (ap (λ (x : Key). x.class) same))
  | inl class ↦ elim (cases_eq k.code q.code) [
    | inr apart ↦ inr (λ same. apart (ap (λ (x : Key). x.code) same))
    | inl code ↦ inl (λ i. record { class = class i; code = code i })
  ]
]

-- ---- one state more
-- the places that stand at the keys, too
pub record ArePlaced (c : CodedGraph) (p : Shape) (n : ℕ) (kept class : List ℕ)
    (places : Key → Option ℕ) : Type 0 where
  pub numbered : AreNumbered c p n kept class
  pub stand : (q : Key) (i : ℕ) → places q ≡ Some i → (i < length kept) × (key_of c p (get_or kept i 0) ≡ q)
  pub all : (s : ℕ) → s < n → places (key_of c p s) ≡ Some (get_or class s 0)

pub none_placed : (c : CodedGraph) (p : Shape) (places : Key → Option ℕ) → ((q : Key) → places q ≡ None)
    → ArePlaced c p 0 [] [] places
none_placed c p places none = record {
  numbered = record {
    in_order = λ i j before within. absurd (omega (arith, within));
    below = λ k d within. absurd (omega (arith, within));
    first = λ k d within. absurd (omega (arith, within));
    few = omega arith;
    count = refl;
    each = λ s below. absurd (omega (arith, below));
  };
  stand = λ q i is. absurd (let never = sym (none q) ∙ is in cc);
  all = λ s below. absurd (omega (arith, below));
}

module _ (c : CodedGraph) (p : Shape) (n place : ℕ) (key : Key) (kept class new_kept new_class : List ℕ)
    (old new : Key → Option ℕ) (are : ArePlaced c p n kept class old) (key_is : key ≡ key_of c p n)
    (found : place ≡ unwrap_or (old key) (length kept)) (there : new key ≡ Some place)
    (others : (q : Key) → q ≢ key → new q ≡ old q)
    (pushed : place ≡ length kept → new_kept ≡ kept ++ n ∷ []) (stays : place ≢ length kept → new_kept ≡ kept)
    (class_is : new_class ≡ class ++ place ∷ []) where
  class_before : (s : ℕ) → s < n → get_or new_class s 0 ≡ get_or class s 0
  class_before s below = ap (λ (xs : List ℕ). get_or xs s 0) class_is
      ∙ get_or_append_left class (place ∷ []) 0 s (omega (arith, below, are.numbered.count))

  class_now : get_or new_class n 0 ≡ place
  class_now = ap (λ (xs : List ℕ). get_or xs n 0) class_is ∙ get_or_push class place 0 n are.numbered.count

  class_count : length new_class ≡ n + 1
  class_count = ap (λ (xs : List ℕ). length xs) class_is ∙ length_push class place
      ∙ ap (λ (k : ℕ). k + 1) are.numbered.count

  all_more : (s : ℕ) → s < n + 1 → new (key_of c p s) ≡ Some (get_or new_class s 0)
  all_more s below = elim (cases_eq s n) [
    | inl last ↦ ap (λ (t : ℕ). new (key_of c p t)) last ∙ ap new (sym key_is) ∙ there
        ∙ ap Some (sym class_now ∙ ap (λ (t : ℕ). get_or new_class t 0) (sym last))
    | inr earlier ↦ (
        let before : s < n = omega (arith, below, earlier) in
        let was = are.all s before in
        elim (cases_key (key_of c p s) key) [
          | inr apart ↦ others (key_of c p s) apart ∙ was ∙ ap Some (sym (class_before s before))
          | inl same ↦ (
              let at : old key ≡ Some (get_or class s 0) = ap old (sym same) ∙ was in
              let own : place ≡ get_or class s 0 = found ∙ ap (λ o. unwrap_or o (length kept)) at in
              ap new same ∙ there ∙ ap Some (own ∙ sym (class_before s before)))
        ])
  ]

  -- the key has a place already
  known : (i : ℕ) → old key ≡ Some i → ArePlaced c p (n + 1) new_kept new_class new
  known i at =
      let own : place ≡ i = found ∙ ap (λ o. unwrap_or o (length kept)) at in
      let stand = are.stand key i at in
      let apart : place ≢ length kept = λ same. omega (arith, same, own, stand.0) in
      let kept_is = stays apart in
      let m = get_or kept i 0 in
      let below_m : m < n = are.numbered.below i 0 stand.0 in
      let first_m = are.numbered.first i 0 stand.0 in
      let Q : List ℕ → Type 0 = λ ks. ArePlaced c p (n + 1) ks new_class new in
      subst Q (sym kept_is) (record {
        numbered = record {
          in_order = are.numbered.in_order;
          below = λ k d within. (let less = are.numbered.below k d within in omega (arith, less));
          first = are.numbered.first;
          few = (let few = are.numbered.few in omega (arith, few));
          count = class_count;
          each = λ s below. elim (cases_eq s n) [
            | inl last ↦ (
                let E : ℕ → Type 0 = λ t.
                (w : ℕ) × IsFirstLike c p t w × (slice_get kept (get_or new_class t 0) ≡ Some w) in
                let here : E n = (
                  m,
                  record {
                    within = omega (arith, below_m);
                    same = stand.1 ∙ key_is;
                    first = λ t before equal. first_m.first t before (equal ∙ sym key_is ∙ sym stand.1);
                  },
                  ap (slice_get kept) (class_now ∙ own) ∙ slice_get-get_or kept i 0 stand.0,
                ) in
                subst E (sym last) here)
            | inr earlier ↦ (
                let before : s < n = omega (arith, below, earlier) in
                let was = are.numbered.each s before in
                (was.0, was.1, ap (slice_get kept) (class_before s before) ∙ was.2))
          ];
        };
        stand = λ q j is. elim (cases_key q key) [
          | inr other ↦ are.stand q j (sym (others q other) ∙ is)
          | inl same ↦ (
              let at_j : place ≡ j = same_Some place j (sym there ∙ ap new (sym same) ∙ is) in
              let i_is : i ≡ j = sym own ∙ at_j in (
                omega (arith, stand.0, i_is),
                ap (λ (x : ℕ). key_of c p (get_or kept x 0)) (sym i_is) ∙ stand.1
                    ∙ sym same,
              ))
        ];
        all = all_more;
      })

  -- the key is new
  unknown : old key ≡ None → ArePlaced c p (n + 1) new_kept new_class new
  unknown none =
      let own : place ≡ length kept = found ∙ ap (λ o. unwrap_or o (length kept)) none in
      let kept_is = pushed own in
      let size = length_push kept n in
      let left : (j : ℕ) → j < length kept → get_or (kept ++ n ∷ []) j 0 ≡ get_or kept j 0 =
      λ j inside. get_or_append_left kept (n ∷ []) 0 j inside in
      let first_n : IsFirstLike c p n n = record {
        within = omega arith;
        same = refl;
        first = λ t before equal. (
            let was = are.all t before in
            let never : Some (get_or class t 0) ≡ None = sym was ∙ ap old (equal ∙ sym key_is) ∙ none in
            cc);
      } in
      let Q : List ℕ → Type 0 = λ ks. ArePlaced c p (n + 1) ks new_class new in
      subst Q (sym kept_is) (record {
        numbered = record {
          in_order = λ i j before within. elim (cases_eq j (length kept)) [
            | inl last ↦ (
                let inside : i < length kept = omega (arith, before, last) in
                let less = are.numbered.below i 0 inside in
                let at = get_or_push kept n 0 j (sym last) in
                let at_i = left i inside in
                omega (arith, less, at, at_i))
            | inr earlier ↦ (
                let inside : j < length kept = omega (arith, within, size, earlier) in
                let less = are.numbered.in_order i j before inside in
                let at_i = left i (omega (arith, before, inside)) in
                let at_j = left j inside in
                omega (arith, less, at_i, at_j))
          ];
          below = All-push (λ m. m < n + 1) kept n
              (All-weaker (λ m. m < n) (λ m. m < n + 1) (λ m less. omega (arith, less)) kept are.numbered.below)
              (omega arith);
          first = All-push (λ m. IsFirstLike c p m m) kept n are.numbered.first first_n;
          few = (let few = are.numbered.few in omega (arith, few, size));
          count = class_count;
          each = λ s below. elim (cases_eq s n) [
            | inl last ↦ (
                let E : ℕ → Type 0 = λ t.
                (w : ℕ) × IsFirstLike c p t w × (slice_get (kept ++ n ∷ []) (get_or new_class t 0) ≡ Some w) in
                let here : E n = (n, first_n, slice_get_last kept n (get_or new_class n 0) (class_now ∙ own)) in
                subst E (sym last) here)
            | inr earlier ↦ (
                let before : s < n = omega (arith, below, earlier) in
                let was = are.numbered.each s before in (
                  was.0,
                  was.1,
                  ap (slice_get (kept ++ n ∷ [])) (class_before s before)
                      ∙ slice_get_left kept (n ∷ []) (get_or class s 0) was.0 was.2,
                ))
          ];
        };
        stand = λ q j is. elim (cases_key q key) [
          | inr other ↦ (
              let was = are.stand q j (sym (others q other) ∙ is) in
              (omega (arith, was.0, size), ap (key_of c p) (left j was.0) ∙ was.1))
          | inl same ↦ (
              let at_j : place ≡ j = same_Some place j (sym there ∙ ap new (sym same) ∙ is) in
              let last : length kept ≡ j = sym own ∙ at_j in (
                omega (arith, last, size),
                ap (key_of c p) (get_or_push kept n 0 j last) ∙ sym key_is ∙ sym same,
              ))
        ];
        all = all_more;
      })

  pub one_more_placed : ArePlaced c p (n + 1) new_kept new_class new
  one_more_placed = by (old key) refl
    where
      by : (o : Option ℕ) → old key ≡ o → ArePlaced c p (n + 1) new_kept new_class new
      by None is = unknown is
      by (Some i) is = known i is
