-- A stage for each of a list, one after another.
use Rattle.std.proofs.Common.{◌≡◌, ℕ, suc, ◌<◌, ◌+◌, List, [], ◌∷◌, ◌++◌, take, length, get_or, Ok, Err, refl, sym, ap}
use Rattle.std.proofs.Common.{subst, ◌∙◌}
use Rattle.si_readings.proofs.StageLemmas.{one_value, passed}
use Rattle.si_refusals.specs.Ending.{Ending, NoMemory, Answered, MayStop}
use Rattle.si_refusals.specs.Refusal.{TextRefusal, TextRefused}
use Rattle.si_systems.proofs.ListSteps.{next, rest_behind, taken_more}
use Rattle.si_refusals.specs.Stages.{Stage, Passes, Refuses, each}

-- one more passes
pub each_more : {R A B : Type 0} (stage : A → Stage R B) (xs : List A) (ys : List B) (x : A) (y : B)
    → each stage xs (Ok ys) → stage x (Ok y) → each stage (xs ++ x ∷ []) (Ok (ys ++ y ∷ []))
each_more {R} {A} {B} stage [] ys x y none one =
    let empty : ys ≡ [] = one_value {R = R} (Ok ys) ys [] refl none in
    subst (λ (zs : List B). each stage (x ∷ []) (Ok (zs ++ y ∷ []))) (sym empty)
    (Passes y one (Passes [] refl refl))
each_more {R} {A} {B} stage (a ∷ xs) ys x y so_far one =
    let first = passed (stage a) _ ys so_far in
    let rest = passed (each stage xs) _ ys first.2 in
    let same : ys ≡ first.0 ∷ rest.0 = one_value {R = R} (Ok ys) ys (first.0 ∷ rest.0) refl rest.2 in
    subst (λ (zs : List B). each stage (a ∷ (xs ++ x ∷ [])) (Ok (zs ++ y ∷ []))) (sym same)
    (Passes first.0 first.1 (Passes (rest.0 ++ y ∷ []) (each_more stage xs rest.0 x y rest.1 one) refl))

-- one refuses
pub each_stops : {R A B : Type 0} (stage : A → Stage R B) (xs : List A) (ys : List B) (x : A) (more : List A) (r : R)
    → each stage xs (Ok ys) → stage x (Err r) → each stage (xs ++ x ∷ more) (Err r)
each_stops stage [] ys x more r none one = Refuses r one refl
each_stops stage (a ∷ xs) ys x more r so_far one =
    let first = passed (stage a) _ ys so_far in
    let rest = passed (each stage xs) _ ys first.2 in
    Passes first.0 first.1 (Refuses r (each_stops stage xs rest.0 x more r rest.1 one) refl)

-- where a call may stop
pub each_may_stop : {A B : Type 0} (stage : A → Stage TextRefusal B) (xs : List A) (k : ℕ) (ys : List B) (x : A)
    (e : Ending) → k < length xs → x ≡ get_or xs k x → each stage (take k xs) (Ok ys) → MayStop (stage x) e
    → MayStop (each stage xs) e
each_may_stop stage xs k ys x NoMemory below at so_far may = tt
each_may_stop {A} {B} stage xs k ys x (Answered (TextRefused r)) below at so_far may =
    let rest = rest_behind xs k x below at in
    subst (λ (zs : List A). each stage zs (Err r)) rest.1 (each_stops stage (take k xs) ys x rest.0 r so_far may)
each_may_stop stage xs k ys x e below at so_far may = absurd may

pub each_next : {A B : Type 0} (stage : A → Stage TextRefusal B) (xs : List A) (k : ℕ) (ys new : List B) (x : A) (y : B)
    → k < length xs → x ≡ get_or xs k x → each stage (take k xs) (Ok ys) → stage x (Ok y) → new ≡ ys ++ y ∷ []
    → each stage (take (k + 1) xs) (Ok new)
each_next {A} {B} stage xs k ys new x y below at so_far one new_is =
    subst (λ (n : ℕ). each stage (take n xs) (Ok new)) (sym (next k))
    (subst (λ (zs : List A). each stage zs (Ok new)) (sym (taken_more xs k x below at))
    (subst (λ (zs : List B). each stage (take k xs ++ x ∷ []) (Ok zs)) (sym new_is)
    (each_more stage (take k xs) ys x y so_far one)))

-- as many values as there are
pub each_many : {R A B : Type 0} (stage : A → Stage R B) (xs : List A) (ys : List B) → each stage xs (Ok ys)
    → length ys ≡ length xs
each_many {R} {A} {B} stage [] ys none =
    ap (λ (zs : List B). length zs) (one_value {R = R} (Ok ys) ys [] refl none)
each_many {R} {A} {B} stage (x ∷ xs) ys all =
    let first = passed (stage x) _ ys all in
    let rest = passed (each stage xs) _ ys first.2 in
    ap (λ (zs : List B). length zs) (one_value {R = R} (Ok ys) ys (first.0 ∷ rest.0) refl rest.2)
    ∙ ap suc (each_many stage xs rest.0 rest.1)
