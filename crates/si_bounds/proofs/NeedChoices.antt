-- What tables need for each choice of further signals.
use Rattle.std.proofs.Common.{◌≡◌, ℕ, ◌⊎◌, ◌+◌, ◌-◌, ◌<◌, ◌≤◌, ◌==◌, eq-eqb, true, false, Bool, List, [], ◌∷◌, ◌++◌, length}
use Rattle.std.proofs.Common.{get_or, All, Contains, refl, sym, ap, subst, ◌∙◌, arith, inl, inr, append_assoc}
use Rattle.std.proofs.Common.{Result, Ok, Err, OnOk, IfOk}
use Rattle.std.proofs.lemmas.Bool.{cases_Bool, true≢false}
use Rattle.std.proofs.lemmas.Bool.Decides.{eqb_tells}
use Rattle.std.proofs.lemmas.List.{append-nil, get_or_default}
use Rattle.std.proofs.lemmas.List.Elements.{All-contains, All-head, All-tail}
use Rattle.si_base.specs.Codes.{CodedGraph}
use Rattle.si_bounds.specs.Loops.Needs.{AreToldOver, AskNoMore, HasSize, IsNeedOfOne, IsTold, IsToldOf, Suits}
use Rattle.si_bounds.specs.Loops.Points.{IsBlind, places_of}
use Rattle.si_bounds.specs.declared.needs.Need.{Need}
use Rattle.si_bounds.proofs.NeedSuits.{suits_any, suits_meets}

-- what is told stays told as the needs ask for no more
still_told : (c : CodedGraph) (z : ℕ) (before now : List Need) (signals : List ℕ) (t : ℕ) → AskNoMore now before
    → IsToldOf c z before signals t → IsToldOf c z now signals t
still_told c z before now signals t keeps told classes suits = keeps _ _ (told classes suits)

-- where a call fails, nothing has to be told
pub told_if_known : {E : Type 0} {Exact Told Over : Type 0} (r : Result Bool E) → (Exact → Told → Over)
    → OnOk r Exact → OnOk r Told → IfOk r (λ known. known ≡ true → Over)
told_if_known (Ok known) over exact told = λ _. over exact told
told_if_known (Err e) over exact told = tt

-- ---- one further signal after the other
-- the needs of those choices whose first signal is before y: of all tables where that is z, else of those read
pub record AreToldBefore (c : CodedGraph) (z : ℕ) (tables read chosen : List ℕ) (more y : ℕ) (before now : List Need)
    : Type 0 where
  pub told : (x : ℕ) → x < y → (rest : List ℕ) → length rest + 1 ≡ more → All (λ v. v < length c.graph.signals) rest
      → (t : ℕ) → Contains tables t → (x ≡ z) ⊎ Contains read t → IsToldOf c z now (chosen ++ x ∷ rest) t
  pub kept : AskNoMore now before
  pub no_more : All (λ need. Contains before need ⊎ IsNeedOfOne c z tables need) now

module _ (c : CodedGraph) (z : ℕ) (tables chosen : List ℕ) (before : List Need)
    (sizes : All (HasSize c.graph.states) before) where
  abbrev Origin : Need → Type 0
  Origin need = Contains before need ⊎ IsNeedOfOne c z tables need

  pub sizes_kept : (now : List Need) → All Origin now → All (HasSize c.graph.states) now
  sizes_kept now no_more k d within = size_of (no_more k d within)
    where
      size_of : Origin (get_or now k d) → HasSize c.graph.states (get_or now k d)
      size_of (inl there) = All-contains (HasSize c.graph.states) before (get_or now k d) sizes there
      size_of (inr one) = one.is.size

  -- where no signal is chosen further
  pub told_at_once : (now : List Need) → All Origin now → All (IsTold c z (places_of z chosen) now) tables
      → AreToldOver c z tables chosen 0 now
  told_at_once now no_more told [] none small t there classes suits =
      suits_meets c classes z (places_of z chosen) t now (sizes_kept now no_more)
      (All-contains (IsTold c z (places_of z chosen) now) tables t told there)
      (subst (λ xs. Suits c classes z (places_of z xs) t) (append-nil chosen) suits)
  told_at_once now no_more told (y ∷ rest) none small t there classes suits = absurd (omega (arith, none))

  module _ (read : List ℕ) (more : ℕ) where
    pub none_told : AreToldBefore c z tables read chosen more 0 before before
    none_told = record {
      told = λ x within. absurd (omega (arith, within));
      kept = λ high low some. some;
      no_more = λ k d within. inl (k, within, get_or_default before k _ d within);
    }

    -- those of fewer tables are among them
    wider : (fewer : List ℕ) → ((t : ℕ) → Contains fewer t → Contains tables t) → (need : Need)
        → IsNeedOfOne c z fewer need → IsNeedOfOne c z tables need
    wider fewer within need one = record {
      table = one.table;
      places = one.places;
      there = within one.table one.there;
      small = one.small;
      is = one.is;
    }

    -- what is left of the tables where the next signal is y: all for z, else those that read its place
    module _ (y : ℕ) (those : List ℕ) (own : Bool) (own_is : own ≡ (y == z))
        (all : own ≡ true → those ≡ tables) (only : own ≡ false → those ≡ read)
        (within : (t : ℕ) → Contains read t → Contains tables t) where
      pub those_within : (t : ℕ) → Contains those t → Contains tables t
      those_within t there = elim (cases_Bool own) [
        | inl yes_own ↦ subst (λ xs. Contains xs t) (all yes_own) there
        | inr not_own ↦ within t (subst (λ xs. Contains xs t) (only not_own) there)
      ]

      those_read : (t : ℕ) → Contains tables t → (y ≡ z) ⊎ Contains read t → Contains those t
      those_read t there reads = elim (cases_Bool own) [
        | inl yes_own ↦ subst (λ xs. Contains xs t) (sym (all yes_own)) there
        | inr not_own ↦ subst (λ xs. Contains xs t) (sym (only not_own)) (elim reads [
          | inl same ↦ absurd (true≢false (sym (own_is ∙ eq-eqb y z same) ∙ not_own))
          | inr kept ↦ kept
        ])
      ]

      module _ (next : List ℕ) (now needs : List Need) (next_is : next ≡ chosen ++ y ∷ [])
          (so_far : AreToldBefore c z tables read chosen more y before now)
          (no_more : All (λ need. Contains now need ⊎ IsNeedOfOne c z those need) needs) where
        pub origins : All Origin needs
        origins k d inside = origin (get_or needs k d) (no_more k d inside)
          where
            origin : (need : Need) → Contains now need ⊎ IsNeedOfOne c z those need → Origin need
            origin need (inl there) = All-contains Origin now need so_far.no_more there
            origin need (inr one) = inr (wider those those_within need one)

        pub one_choice : AreToldOver c z those next (more - 1) needs → AskNoMore needs now
            → AreToldBefore c z tables read chosen more (y + 1) before needs
        one_choice over keeps = record {
          told = told;
          kept = λ high low some. keeps high low (so_far.kept high low some);
          no_more = origins;
        }
          where
            here : (rest : List ℕ) → length rest + 1 ≡ more → All (λ v. v < length c.graph.signals) rest
                → (t : ℕ) → Contains tables t → (y ≡ z) ⊎ Contains read t
                → IsToldOf c z needs (chosen ++ y ∷ rest) t
            here rest count small t there reads =
                let one_less : length rest ≡ more - 1 = omega (arith, count) in
                let regrouped = ap (λ xs. xs ++ rest) next_is ∙ append_assoc chosen (y ∷ []) rest in
                subst (λ xs. IsToldOf c z needs xs t) regrouped
                (over rest one_less small t (those_read t there reads))

            told : (x : ℕ) → x < y + 1 → (rest : List ℕ) → length rest + 1 ≡ more
                → All (λ v. v < length c.graph.signals) rest → (t : ℕ) → Contains tables t
                → (x ≡ z) ⊎ Contains read t → IsToldOf c z needs (chosen ++ x ∷ rest) t
            told x low rest count small t there reads = elim (eqb_tells x y) [
              | inl same ↦ (
                  let at_y = subst (λ v. (v ≡ z) ⊎ Contains read t) same.1 reads in
                  subst (λ v. IsToldOf c z needs (chosen ++ v ∷ rest) t) (sym same.1)
                  (here rest count small t there at_y))
              | inr other ↦ (
                  let not_last = other.1 in
                  let earlier : x < y = grind (arith, low, not_last) in
                  still_told c z now needs (chosen ++ x ∷ rest) t keeps
                  (so_far.told x earlier rest count small t there reads))
            ]

    -- a table that doesn't read the place is told of where z stands there
    pub all_choices : (y : ℕ) (needs : List Need) → 0 < more → length chosen < 3 → z < length c.graph.signals
        → length c.graph.signals ≤ y → ((t : ℕ) → Contains tables t → Contains read t ⊎ IsBlind t (length chosen + 1))
        → AreToldBefore c z tables read chosen more y before needs → AreToldOver c z tables chosen more needs
    all_choices y needs some few z_small past others so_far [] count small t there = absurd (omega (arith, some, count))
    all_choices y needs some few z_small past others so_far (x ∷ rest) count small t there =
        let Small : ℕ → Type 0 = λ v. v < length c.graph.signals in
        let low = All-head Small x rest small in
        let later = All-tail Small x rest small in
        let counted : length rest + 1 ≡ more = omega (arith, count) in
        elim (others t there) [
          | inl reads ↦ so_far.told x (omega (arith, low, past)) rest counted later t there (inr reads)
          | inr blind ↦ λ classes suits. so_far.told z (omega (arith, z_small, past)) rest counted later t there
              (inl refl) classes (suits_any c classes z t chosen rest x z few blind suits)
        ]
