-- What a call hands on.
use Rattle.std.proofs.Common.{◌≡◌, Result, Ok, Err, IfErr, IsErrAnd}
use Rattle.std.proofs.lemmas.Result.{err_from_is_err_and}
use Rattle.si_refusals.specs.Ending.{Ending, MayStop, ending_of}
use Rattle.si_refusals.specs.Refusal.{TextRefusal}
use Rattle.si_refusals.specs.Stages.{Stage}
use Rattle.si_refusals.specs.declared.refusals.Refusal.{Refusal}

-- ---- the refusal that a `?` hands on
pub handed_on : {X : Type 0} (r : Result X Refusal) (e : Refusal) (P : Ending → Type 0) → IsErrAnd r (λ x. x ≡ e)
    → P (ending_of e) → IfErr r (λ f. P (ending_of f))
handed_on r e P is holds = (let p = err_from_is_err_and r is in rw (p.1, p.2) holds)

pub stops : {X A : Type 0} (stage : Stage TextRefusal A) (r : Result X Refusal) (e : Refusal) → IsErrAnd r (λ x. x ≡ e)
    → MayStop stage (ending_of e) → IfErr r (λ f. MayStop stage (ending_of f))
stops stage r e is may = handed_on r e (MayStop stage) is may

pub err_map : {X : Type 0} (r : Result X Refusal) (P Q : Ending → Type 0) → ((e : Ending) → P e → Q e)
    → IfErr r (λ f. P (ending_of f)) → IfErr r (λ f. Q (ending_of f))
err_map (Ok x) P Q f is = tt
err_map (Err e) P Q f is = f (ending_of e) is
