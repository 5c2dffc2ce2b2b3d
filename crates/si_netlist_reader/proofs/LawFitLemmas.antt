-- Lines that have the forms due to them.
use Rattle.std.proofs.Common.{◌≡◌, ℕ, ◌+◌, Bool, true, false, List, [], ◌∷◌, ◌++◌, length, map, take, drop, refl}
use Rattle.std.proofs.Common.{Some, None}
use Rattle.si_base.specs.declared.fault.TextKind.{TextKind}
use Rattle.si_base.specs.declared.fault.TextKind.TheVariants.{BadByte, NoEnd}
use Rattle.si_base.specs.Faults.{when, ◌otherwise◌, at_line}
use Rattle.si_words.proofs.FaultLemmas.{both, not_when, line_none}
use Rattle.si_words.specs.Lines.{Form, lines_fault, words_of, has_bad_byte_here}

-- as many lines as forms, each without a bad byte and without a fault
abbrev pub Fits : List Form → List (List ℕ) → Type 0
Fits [] [] = Unit {0}
Fits [] (l ∷ ls) = ⊥
Fits (f ∷ fs) [] = ⊥
Fits (f ∷ fs) (l ∷ ls) = ((has_bad_byte_here l ≡ false) × (f (words_of l) ≡ None)) × Fits fs ls

never : (n : ℕ) (c : Bool) (k : TextKind) → at_line n (when c k otherwise Some NoEnd) ≡ None → ⊥
never n true k h = cc
never n false k h = cc

pub fits : (n : ℕ) (forms : List Form) (lines : List (List ℕ)) (tail : List ℕ) → lines_fault n forms lines tail ≡ None
    → (tail ≡ []) × Fits forms lines
fits n [] [] [] none = (refl, tt)
fits n [] [] (b ∷ t) none = absurd cc
fits n [] (l ∷ ls) tail none = absurd cc
fits n (f ∷ fs) [] tail none = absurd (never n (has_bad_byte_here tail) BadByte none)
fits n (f ∷ fs) (l ∷ ls) tail none =
    let parts = line_none n _ _ none in
    let line = both _ _ parts.0 in
    let later = fits (n + 1) fs ls tail parts.1 in
    (later.0, ((not_when _ _ line.0, line.1), later.1))

pub no_fault : (n : ℕ) (forms : List Form) (lines : List (List ℕ)) → Fits forms lines
    → lines_fault n forms lines [] ≡ None
no_fault n [] [] fit = refl
no_fault n [] (l ∷ ls) fit = absurd fit
no_fault n (f ∷ fs) [] fit = absurd fit
no_fault n (f ∷ fs) (l ∷ ls) fit = rw (fit.0.0, fit.0.1) (no_fault (n + 1) fs ls fit.1)

pub fits_map : {X : Type 0} (f : X → Form) (xs : List X) (gs : List Form) (lines : List (List ℕ))
    → Fits (map f xs ++ gs) lines → Fits (map f xs) (take (length xs) lines) × Fits gs (drop (length xs) lines)
fits_map f [] gs lines fit = (tt, fit)
fits_map f (x ∷ xs) gs [] fit = absurd fit
fits_map f (x ∷ xs) gs (l ∷ ls) fit =
    let rest = fits_map f xs gs ls fit.1 in
    ((fit.0, rest.0), rest.1)
