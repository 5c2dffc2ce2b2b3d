-- One stage after another: it has one result at most where each has, and has one where each has.
use Rattle.std.proofs.Common.{◌≡◌, ℕ, List, [], ◌∷◌, Option, Some, None, Result, Ok, Err, refl, sym, ap, subst, ◌∙◌}
use Rattle.std.specs.List.{AllByRecursion}
use Rattle.si_base.specs.declared.fault.TextKind.{TextKind}
use Rattle.si_refusals.specs.Ending.{Ending, NoMemory, Answered, MayStop}
use Rattle.si_readings.specs.Laws.{AtMostOne, HasResult}
use Rattle.si_readings.specs.Readings.{TellsFault, spelled_value}
use Rattle.si_refusals.specs.Refusal.{TextRefusal, TextRefused, BadText}
use Rattle.si_refusals.specs.Stages.{Stage, Then, Refuses, Passes, gives, shows, each}

-- ---- a result is one value, or a refusal
pub one_value : {R A : Type 0} (result : Result A R) (x y : A) → result ≡ Ok x → result ≡ Ok y → x ≡ y
one_value result x y one other = cc

pub no_refusal : {R A : Type 0} (result : Result A R) (x : A) (r : R) → result ≡ Ok x → result ≡ Err r → ⊥
no_refusal result x r passes refuses = cc

-- where two stages give a value, so does the first
pub passed : {R A B : Type 0} (first : Stage R A) (next : A → Stage R B) (value : B)
    → Then R A B first next (Ok value) → (x : A) × first (Ok x) × next x (Ok value)
passed first next value (Refuses r refused is) = cc
passed first next value (Passes x is then) = (x, is, then)

-- ---- at most one result
pub then_one : {R A B : Type 0} (first : Stage R A) (next : A → Stage R B) → AtMostOne first
    → ((x : A) → first (Ok x) → AtMostOne (next x)) → AtMostOne (Then R A B first next)
then_one first next one then a b (Refuses r h is) (Refuses q k at) =
    let same = one (Err r) (Err q) h k in
    let refusals : r ≡ q = cc in
    is ∙ ap Err refusals ∙ sym at
then_one first next one then a b (Refuses r h is) (Passes y k l) = (let same = one (Err r) (Ok y) h k in cc)
then_one first next one then a b (Passes x h g) (Refuses q k at) = (let same = one (Ok x) (Err q) h k in cc)
then_one first next one then a b (Passes x h g) (Passes y k l) =
    let same = one (Ok x) (Ok y) h k in
    let values : x ≡ y = cc in
    then y k a b (subst (λ z. next z a) values g) l

pub gives_one : {R A : Type 0} (x : A) → AtMostOne (gives {R = R} x)
gives_one x a b one other = one ∙ sym other

pub shows_one : {R A : Type 0} (P : A → Type 0) → ((x y : A) → P x → P y → x ≡ y) → AtMostOne (shows {R = R} P)
shows_one P same (Ok x) (Ok y) one other = ap Ok (same x y one other)
shows_one P same (Ok x) (Err r) one other = absurd other
shows_one P same (Err r) b one other = absurd one

pub each_one : {R A B : Type 0} (stage : A → Stage R B) (xs : List A) → AllByRecursion (λ x. AtMostOne (stage x)) xs
    → AtMostOne (each stage xs)
each_one stage [] ones = gives_one []
each_one stage (x ∷ xs) ones =
    then_one _ _ ones.0 (λ y h. then_one _ _ (each_one stage xs ones.1) (λ ys k. gives_one (y ∷ ys)))

-- ---- a result
pub then_some : {R A B : Type 0} (first : Stage R A) (next : A → Stage R B) → HasResult first
    → ((x : A) → first (Ok x) → HasResult (next x)) → HasResult (Then R A B first next)
then_some first next (Ok x, is) then = (let later = then x is in (later.0, Passes x is later.1))
then_some first next (Err r, is) then = (Err r, Refuses r is refl)

pub gives_some : {R A : Type 0} (x : A) → HasResult (gives {R = R} x)
gives_some x = (Ok x, refl)

pub shows_some : {R A : Type 0} (P : A → Type 0) → ((x : A) × P x) → HasResult (shows {R = R} P)
shows_some P some = (Ok some.0, some.1)

pub each_some : {R A B : Type 0} (stage : A → Stage R B) (xs : List A) → AllByRecursion (λ x. HasResult (stage x)) xs
    → HasResult (each stage xs)
each_some stage [] somes = gives_some []
each_some stage (x ∷ xs) somes =
    then_some _ _ somes.0 (λ y h. then_some _ _ (each_some stage xs somes.1) (λ ys k. gives_some (y ∷ ys)))

-- ---- the value that a text spells, or its fault
pub one_fault : (file : List ℕ) (fault : Option (ℕ × TextKind)) (q r : TextRefusal) → TellsFault file fault q
    → TellsFault file fault r → q ≡ r
one_fault file fault q r one other =
    let same = sym one.1 ∙ other.1 in
    let places : one.0 ≡ other.0 = cc in
    one.2 ∙ ap (λ (at : ℕ × TextKind). BadText file at.0 at.1) places ∙ sym other.2

pub spelled_one : {A : Type 0} (file : List ℕ) (fault : Option (ℕ × TextKind)) (value : A)
    → AtMostOne (spelled_value file fault value)
spelled_one file fault value (Ok x) (Ok y) one other = ap Ok (one.1 ∙ sym other.1)
spelled_one file fault value (Ok x) (Err r) one other = (let same = sym one.0 ∙ other.1 in cc)
spelled_one file fault value (Err q) (Ok y) one other = (let same = sym one.1 ∙ other.0 in cc)
spelled_one file fault value (Err q) (Err r) one other =
    ap Err (one_fault file fault q r one other)

pub spelled_some : {A : Type 0} (file : List ℕ) (fault : Option (ℕ × TextKind)) (value : A)
    → HasResult (spelled_value file fault value)
spelled_some file None value = (Ok value, (refl, refl))
spelled_some file (Some at) value = (Err (BadText file at.0 at.1), (at, refl, refl))

-- ---- where a call may stop
pub stop_first : {A B : Type 0} (first : Stage TextRefusal A) (next : A → Stage TextRefusal B) (e : Ending)
    → MayStop first e → MayStop (Then TextRefusal A B first next) e
stop_first first next NoMemory may = tt
stop_first first next (Answered (TextRefused r)) may = Refuses r may refl
stop_first first next e may = absurd may

pub stop_next : {A B : Type 0} (first : Stage TextRefusal A) (next : A → Stage TextRefusal B) (x : A) (e : Ending)
    → first (Ok x) → MayStop (next x) e → MayStop (Then TextRefusal A B first next) e
stop_next first next x NoMemory h may = tt
stop_next first next x (Answered (TextRefused r)) h may = Passes x h may
stop_next first next x e h may = absurd may
