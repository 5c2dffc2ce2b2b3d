-- Steps that each make something new of a value, one after another.
use Rattle.std.proofs.Common.{◌≡◌, ℕ, ◌<◌, ◌+◌, List, [], ◌∷◌, ◌++◌, take, get_or, length, Ok, Err, refl, sym, subst}
use Rattle.si_joins.specs.Steps.{along}
use Rattle.si_readings.specs.Laws.{AtMostOne, HasResult}
use Rattle.si_readings.proofs.StageLemmas.{gives_one, gives_some, one_value, passed, then_one, then_some}
use Rattle.si_refusals.specs.Ending.{Ending, NoMemory, Answered, MayStop}
use Rattle.si_refusals.specs.Refusal.{TextRefusal, TextRefused}
use Rattle.si_refusals.specs.Stages.{Stage, Passes, Refuses}
use Rattle.si_works.proofs.EachLemmas.{next, rest_behind, taken_more}

module _ {R A X : Type 0} (step : A → X → Stage R A) where
  -- one more passes
  along_more : (a : A) (xs : List X) (b : A) (x : X) (c : A) → along step a xs (Ok b) → step b x (Ok c)
      → along step a (xs ++ x ∷ []) (Ok c)
  along_more a [] b x c none one =
      let same : b ≡ a = one_value {R = R} (Ok b) b a refl none in
      Passes c (subst (λ (z : A). step z x (Ok c)) same one) refl
  along_more a (y ∷ ys) b x c so_far one =
      let first = passed (step a y) _ b so_far in
      Passes first.0 first.1 (along_more first.0 ys b x c first.2 one)

  -- one refuses
  along_stops : (a : A) (xs : List X) (b : A) (x : X) (more : List X) (r : R) → along step a xs (Ok b)
      → step b x (Err r) → along step a (xs ++ x ∷ more) (Err r)
  along_stops a [] b x more r none one =
      let same : b ≡ a = one_value {R = R} (Ok b) b a refl none in
      Refuses r (subst (λ (z : A). step z x (Err r)) same one) refl
  along_stops a (y ∷ ys) b x more r so_far one =
      let first = passed (step a y) _ b so_far in
      Passes first.0 first.1 (along_stops first.0 ys b x more r first.2 one)

  pub along_next : (a : A) (xs : List X) (k : ℕ) (b : A) (x : X) (c : A) → k < length xs → x ≡ get_or xs k x
      → along step a (take k xs) (Ok b) → step b x (Ok c) → along step a (take (k + 1) xs) (Ok c)
  along_next a xs k b x c below at so_far one =
      subst (λ (n : ℕ). along step a (take n xs) (Ok c)) (sym (next k))
      (subst (λ (zs : List X). along step a zs (Ok c)) (sym (taken_more xs k x below at))
      (along_more a (take k xs) b x c so_far one))

  -- ---- one answer at most, and one, while something holds of each value
  module _ (Holds : A → Type 0) (keeps : (a : A) (x : X) (b : A) → Holds a → step a x (Ok b) → Holds b) where
    pub along_keeps : (a : A) (xs : List X) (b : A) → Holds a → along step a xs (Ok b) → Holds b
    along_keeps a [] b holds none = subst Holds (sym (one_value {R = R} (Ok b) b a refl none)) holds
    along_keeps a (x ∷ xs) b holds all =
        let first = passed (step a x) _ b all in
        along_keeps first.0 xs b (keeps a x first.0 holds first.1) first.2

    pub along_one : ((a : A) (x : X) → Holds a → AtMostOne (step a x)) → (a : A) (xs : List X) → Holds a
        → AtMostOne (along step a xs)
    along_one one a [] holds = gives_one a
    along_one one a (x ∷ xs) holds =
        then_one _ _ (one a x holds) (λ b is. along_one one b xs (keeps a x b holds is))

    pub along_some : ((a : A) (x : X) → Holds a → HasResult (step a x)) → (a : A) (xs : List X) → Holds a
        → HasResult (along step a xs)
    along_some some a [] holds = gives_some a
    along_some some a (x ∷ xs) holds =
        then_some _ _ (some a x holds) (λ b is. along_some some b xs (keeps a x b holds is))

-- where a call may stop
pub along_may_stop : {A X : Type 0} (step : A → X → Stage TextRefusal A) (a : A) (xs : List X) (k : ℕ) (b : A) (x : X)
    (e : Ending) → k < length xs → x ≡ get_or xs k x → along step a (take k xs) (Ok b) → MayStop (step b x) e
    → MayStop (along step a xs) e
along_may_stop step a xs k b x NoMemory below at so_far may = tt
along_may_stop {A} {X} step a xs k b x (Answered (TextRefused r)) below at so_far may =
    let rest = rest_behind xs k x below at in
    subst (λ (zs : List X). along step a zs (Err r)) rest.1
    (along_stops step a (take k xs) b x rest.0 r so_far may)
along_may_stop step a xs k b x e below at so_far may = absurd may
