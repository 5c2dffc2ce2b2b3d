-- The signals that a fitting instance reads, chosen one after the other.
use Rattle.std.proofs.Common.{◌≡◌, ◌≢◌, ℕ, zero, suc, ◌+◌, ◌-◌, ◌<◌, ◌≤◌, true, false, List, [], ◌∷◌, ◌++◌}
use Rattle.std.proofs.Common.{length, take, get_or, All, Contains, Option, Some, None, is_some}
use Rattle.std.proofs.Common.{refl, sym, ap, subst, ◌∙◌, arith, inl, inr, append_assoc}
use Rattle.std.proofs.lemmas.Bool.{cases_lt, true≢false}
use Rattle.std.proofs.lemmas.Bool.Decides.{eqb_tells}
use Rattle.std.proofs.lemmas.List.{append-nil, length_push, take-append-le, take_all}
use Rattle.std.proofs.lemmas.List.Elements.{All-nil, All-cons, All-head, All-tail, Contains-append_cases}
use Rattle.si_base.proofs.OrderAscending.{In}
use Rattle.si_base.proofs.GivenGraphUnique.{contains_from_in}
use Rattle.si_base.specs.Bits.{bit, IsSet}
use Rattle.si_base.specs.Codes.{CodedGraph, IsCoded}
use Rattle.si_base.specs.declared.ids.Literal.{Literal}
use Rattle.si_cell.specs.Library.{Library, Instance, IsCell, IsLibrary, cell_at, no_cell}
use Rattle.si_cell.specs.Limits.{max_pins}
use Rattle.si_match.specs.Loops.Apart.{NoneFitsWith}
use Rattle.si_match.specs.Loops.Choices.{AreAmong, AreOwed, Ascends, NoneFitsOver}
use Rattle.si_match.specs.Fit.{first_fit}
use Rattle.si_match.specs.Loops.Known.{FitsByReading, IsFitted}
use Rattle.si_match.specs.Triggers.{AreTriggers}
use Rattle.si_match.specs.Weight.{size_from}
use Rattle.si_match.proofs.FitLemmas.{fit_fits, none_fits, told}
use Rattle.si_match.proofs.TriggerLemmas.{size_drop, some_bit, unread_unfit, without, without_there, without_others}

-- what is left after the last signal is taken away
pub chosen_again : (chosen old new : List ℕ) (y : ℕ) → old ≡ chosen ++ y ∷ [] → new ≡ take (length old - 1) old
    → new ≡ chosen
chosen_again chosen old new y is rest =
    let count : length old - 1 ≡ length chosen = rw (is, length_push) (omega arith) in
    let within : length chosen ≤ length chosen = omega arith in
    rest ∙ rw (count, is, take-append-le (length chosen) chosen (y ∷ []) within)
    (take_all (length chosen) chosen within)

-- ---- the signals of literals in signal order
module _ (n : ℕ) where
  pub with_one : (y first : ℕ) (ys : List ℕ) → y < n → first ≤ y → Ascends n first ys → (zs : List ℕ)
      × (length zs ≡ suc (length ys)) × Ascends n first zs × ((v : ℕ) → In v (y ∷ ys) → In v zs)
  with_one y first [] small low up = (y ∷ [], refl, (low, small, tt), λ v here. here)
  with_one y first (x ∷ xs) small low (x_low, x_small, up) = elim (cases_lt x y) [
    | inl before ↦ (
        let less : x ≤ y = omega (arith, before) in
        let (zs, count, ascends, kept) = with_one y x xs small less up in
        (x ∷ zs, ap suc count, (x_low, x_small, ascends), later zs kept))
    | inr behind ↦ (y ∷ x ∷ xs, refl, (low, small, (behind, x_small, up)), λ v here. here)
  ]
    where
      later : (zs : List ℕ) → ((v : ℕ) → In v (y ∷ xs) → In v zs) → (v : ℕ) → In v (y ∷ x ∷ xs) → In v (x ∷ zs)
      later zs kept v (inl same) = inr (kept v (inl same))
      later zs kept v (inr (inl same)) = inl same
      later zs kept v (inr (inr there)) = inr (kept v (inr there))

  abbrev Holds : List ℕ → List Literal → Type 0
  Holds ys ls = All (λ (l : Literal). In l.sig ys) ls

  -- as many as wanted: z fills up
  in_order : (z : ℕ) → z < n → (k : ℕ) (ls : List Literal) → All (λ (l : Literal). l.sig < n) ls → length ls ≤ k
      → (ys : List ℕ) × (length ys ≡ k) × Ascends n 0 ys × Holds ys ls
  in_order z z_small zero [] small few = ([], refl, tt, All-nil (λ (l : Literal). In l.sig []))
  in_order z z_small zero (l ∷ ls) small few = absurd (omega (arith, few))
  in_order z z_small (suc k) [] small few =
      let (ys, count, ascends, holds) = in_order z z_small k [] small (omega arith) in
      let (zs, one_more, ascend, kept) = with_one z 0 ys z_small (omega arith) ascends in
      (zs, one_more ∙ ap suc count, ascend, All-nil (λ (l : Literal). In l.sig zs))
  in_order z z_small (suc k) (l ∷ ls) small few =
      let Small : Literal → Type 0 = λ m. m.sig < n in
      let (ys, count, ascends, holds) = in_order z z_small k ls (All-tail Small l ls small) (omega (arith, few)) in
      let (zs, one_more, ascend, kept) = with_one l.sig 0 ys (All-head Small l ls small) (omega arith) ascends in (
        zs,
        one_more ∙ ap suc count,
        ascend,
        All-cons (λ (m : Literal). In m.sig zs) l ls (kept l.sig (inl refl))
            (λ i d within. kept (get_or ls i d).sig (inr (holds i d within))),
      )

  pub chosen_for : (z : ℕ) → z < n → (k : ℕ) (ls : List Literal) → All (λ (l : Literal). l.sig < n) ls
      → length ls ≤ k → (ys : List ℕ) × (length ys ≡ k) × Ascends n 0 ys × AreAmong (z ∷ ys) ls
  chosen_for z z_small k ls small few =
      let (ys, count, ascends, holds) = in_order z z_small k ls small few in
      (ys, count, ascends, λ i d within. contains_from_in (z ∷ ys) (get_or ls i d).sig (inr (holds i d within)))

ascending_small : (n first : ℕ) (ys : List ℕ) → Ascends n first ys → All (λ y. y < n) ys
ascending_small n first [] up = All-nil (λ (y : ℕ). y < n)
ascending_small n first (y ∷ ys) (low, small, up) =
    All-cons (λ (x : ℕ). x < n) y ys small (ascending_small n y ys up)

-- ---- signals that are missing
module _ (c : CodedGraph) (library : Library) (z : ℕ) where
  pub owed_next : (chosen : List ℕ) (y missing next : ℕ) → bit next y ≡ false
      → ((i : ℕ) → i ≢ y → bit next i ≡ bit missing i) → AreOwed c library z chosen missing
      → AreOwed c library z (chosen ++ y ∷ []) next
  owed_next chosen y missing next clear others are i set =
      let other : i ≢ y = λ e. true≢false (sym set ∙ ap (bit next) e ∙ clear) in
      let (by_reading, absent) = are i (sym (others i other) ∙ set) in (
        by_reading,
        λ there. elim (Contains-append_cases (z ∷ chosen) (y ∷ []) i there) [
          | inl before ↦ absent before
          | inr last ↦ other (only y i last)
        ],
      )
    where
      only : (a b : ℕ) → Contains (a ∷ []) b → b ≡ a
      only a b (zero, within, at) = sym at
      only a b (suc k, within, at) = absurd (omega (arith, within))

  pub owed_unfit : (n more : ℕ) (rest chosen : List ℕ) (missing : ℕ) → length rest ≡ more
      → AreOwed c library z chosen missing → more < size_from n 0 missing
      → NoneFitsOver c library z (chosen ++ rest)
  owed_unfit n more [] chosen missing count are many i over fit among =
      let (y, set) = some_bit n 0 missing (omega (arith, many)) in
      let (by_reading, absent) = are y set in
      let all : chosen ++ [] ≡ chosen = append-nil chosen in
      let here = subst (λ (ys : List ℕ). AreAmong (z ∷ ys) i.literals) all among in
      by_reading i over fit (λ k d within same. absent (subst (Contains (z ∷ chosen)) same (here k d within)))
  owed_unfit n more (y ∷ rest) chosen missing count are many i over fit among =
      let next = without missing y in
      let others : (i : ℕ) → i ≢ y → bit next i ≡ bit missing i = without_others missing y in
      let drop = size_drop n 0 missing next y others in
      let after = owed_next chosen y missing next (without_there missing y) others are in
      owed_unfit n (length rest) rest (chosen ++ y ∷ []) next refl after (omega (arith, many, drop, count)) i over fit
      (subst (λ (ys : List ℕ). AreAmong (z ∷ ys) i.literals) (sym (append_assoc chosen (y ∷ []) rest)) among)

  -- where z isn't among them
  pub owed_first : (signals : ℕ) → ((y : ℕ) → bit signals y ≡ true → FitsByReading c library y z)
      → bit signals z ≡ false → AreOwed c library z [] signals
  owed_first signals by_reading clear y set =
      (by_reading y set, λ there. true≢false (sym set ∙ ap (bit signals) (only there) ∙ clear))
    where
      only : Contains (z ∷ []) y → y ≡ z
      only (zero, within, at) = sym at
      only (suc k, within, at) = absurd (omega (arith, within))

  pub trigger_read : IsCoded c → (signals : ℕ) → AreTriggers c z signals → (y : ℕ) → bit signals y ≡ true
      → FitsByReading c library y z
  trigger_read is signals are y set i over fit unread = true≢false (sym (told c library z i is fit)
      ∙ unread_unfit c z (cell_at library i.cell) is y i.literals (are y set) unread)

  pub also_read : (y signals more : ℕ) → FitsByReading c library y z → IsSet signals y true more
      → ((x : ℕ) → bit signals x ≡ true → FitsByReading c library x z)
      → (x : ℕ) → bit more x ≡ true → FitsByReading c library x z
  also_read y signals more by_reading set are x there = elim (eqb_tells x y) [
    | inl same ↦ subst (λ (v : ℕ). FitsByReading c library v z) (sym same.1) by_reading
    | inr other ↦ are x (sym (set.others x other.1) ∙ there)
  ]

  pub all_but : (signals fewer : ℕ) → IsSet signals z false fewer
      → ((x : ℕ) → bit signals x ≡ true → FitsByReading c library x z)
      → (x : ℕ) → bit fewer x ≡ true → FitsByReading c library x z
  all_but signals fewer set are x there = elim (eqb_tells x z) [
    | inl same ↦ absurd (true≢false (sym there ∙ ap (bit fewer) same.1 ∙ set.there))
    | inr other ↦ are x (sym (set.others x other.1) ∙ there)
  ]

  -- ---- one choice after the other
  -- no instance fits over those chosen, a signal before y but not before the first, and so many after that
  abbrev pub NoneBefore : ℕ → List ℕ → ℕ → ℕ → ℕ → Type 0
  NoneBefore n chosen first more y = (x : ℕ) (xs : List ℕ) → first ≤ x → x < y → length xs ≡ more → Ascends n x xs
      → NoneFitsOver c library z (chosen ++ x ∷ xs)

  pub one_passed : (n first more y : ℕ) (chosen : List ℕ) → NoneBefore n chosen first more y
      → ((xs : List ℕ) → length xs ≡ more → Ascends n y xs → NoneFitsOver c library z ((chosen ++ y ∷ []) ++ xs))
      → NoneBefore n chosen first more (y + 1)
  one_passed n first more y chosen before here x xs low high count up = elim (cases_lt x y) [
    | inl less ↦ before x xs low less count up
    | inr not_less ↦ (
        let same : x ≡ y = omega (arith, high, not_less) in
        let up_y = subst (λ (v : ℕ). Ascends n v xs) same up in
        subst (NoneFitsOver c library z) (append_assoc chosen (y ∷ []) xs
        ∙ ap (λ (v : ℕ). chosen ++ v ∷ xs) (sym same)) (here xs count up_y))
  ]

  pub all_passed : (n first more y : ℕ) (chosen : List ℕ) → n ≤ y → NoneBefore n chosen first more y
      → (rest : List ℕ) → length rest ≡ more + 1 → Ascends n first rest → NoneFitsOver c library z (chosen ++ rest)
  all_passed n first more y chosen past none [] count up = absurd (omega (arith, count))
  all_passed n first more y chosen past none (x ∷ xs) count (low, small, up) =
      none x xs low (omega (arith, small, past)) (omega (arith, count)) up

  pub none_left : (chosen rest : List ℕ) → length rest ≡ 0 → NoneFitsOver c library z chosen
      → NoneFitsOver c library z (chosen ++ rest)
  none_left chosen [] count none = subst (NoneFitsOver c library z) (sym (append-nil chosen)) none
  none_left chosen (y ∷ ys) count none = absurd (omega (arith, count))

  -- ---- whether some instance fits
  module _ (is : IsCoded c) where
    pub fitted_first : IsFitted c library z → is_some (first_fit c library z) ≡ true
    fitted_first (i, over, fit) = by_first (first_fit c library z) refl
      where
        by_first : (o : Option Instance) → first_fit c library z ≡ o → is_some o ≡ true
        by_first None none = absurd (none_fits c library z i is none over fit)
        by_first (Some f) some = refl

    pub unfitted_first : IsLibrary library → z < length c.graph.signals → NoneFitsWith c library z [] max_pins
        → is_some (first_fit c library z) ≡ false
    unfitted_first library_is z_small none = by_first (first_fit c library z) refl
      where
        by_first : (o : Option Instance) → first_fit c library z ≡ o → is_some o ≡ false
        by_first None nothing = refl
        by_first (Some i) found =
            let (over, fit) = fit_fits c library z i is found in
            let cell : IsCell (cell_at library i.cell) = library_is.cells.each i.cell no_cell over.instance.cell in
            let few : length i.literals ≤ max_pins = omega (arith, over.instance.pins, cell.few_pins) in
            let (ys, count, up, among) = chosen_for (length c.graph.signals) z z_small max_pins i.literals
            over.signals few in
            absurd (none ys count (ascending_small (length c.graph.signals) 0 ys up) i over fit among)
