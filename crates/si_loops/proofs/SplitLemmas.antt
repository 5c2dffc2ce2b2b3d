-- A split, an arc at a time.
use Rattle.std.proofs.Common.{◌≡◌, ℕ, suc, ◌+◌, ◌<◌, ◌≤◌, List, [], ◌∷◌, ◌++◌, drop, length, get_or, refl, sym, ap, subst}
use Rattle.std.proofs.Common.{◌∙◌, inl, inr, append_assoc, add-one}
use Rattle.std.proofs.Math.Seq.{drop-cons}
use Rattle.std.proofs.lemmas.List.{append-nil, drop_all}
use Rattle.si_loops.specs.declared.arcs.Arc.{Arc}
use Rattle.si_loops.specs.Arcs.{ClosesLoop, Splits}

-- once the arcs before the i-th are gone over, with these kept and these cut: however the others are split,
-- all are split so
abbrev pub GoneOver : List Arc → List Arc → List Arc → ℕ → Type 0
GoneOver arcs before cut i = (kept rest : List Arc) → Splits before (drop i arcs) kept rest
    → Splits [] arcs kept (cut ++ rest)

next : (arcs : List Arc) (i : ℕ) (a : Arc) → i < length arcs → a ≡ get_or arcs i a
    → drop i arcs ≡ a ∷ drop (i + 1) arcs
next arcs i a within is = drop-cons arcs i a within ∙ ap (λ x. x ∷ drop (suc i) arcs) (sym is) ∙ rw add-one refl

pub one_cut : (arcs before cut : List Arc) (i : ℕ) (a : Arc) → i < length arcs → a ≡ get_or arcs i a
    → ClosesLoop before a → GoneOver arcs before cut i → GoneOver arcs before (cut ++ a ∷ []) (i + 1)
one_cut arcs before cut i a within is closes so_far kept rest splits =
    let P : List Arc → Type 0 = λ l. Splits before l kept (a ∷ rest) in
    let all = so_far kept (a ∷ rest) (subst P (sym (next arcs i a within is)) (inl (closes, rest, refl, splits))) in
    let Q : List Arc → Type 0 = λ l. Splits [] arcs kept l in
    subst Q (sym (append_assoc cut (a ∷ []) rest)) all

pub one_kept : (arcs before cut : List Arc) (i : ℕ) (a : Arc) → i < length arcs → a ≡ get_or arcs i a
    → (ClosesLoop before a → ⊥) → GoneOver arcs before cut i → GoneOver arcs (before ++ a ∷ []) cut (i + 1)
one_kept arcs before cut i a within is free so_far kept rest splits =
    let P : List Arc → Type 0 = λ l. Splits before l kept rest in
    so_far kept rest (subst P (sym (next arcs i a within is)) (inr (free, splits)))

pub all_gone : (arcs before cut : List Arc) (i : ℕ) → length arcs ≤ i → GoneOver arcs before cut i
    → Splits [] arcs before cut
all_gone arcs before cut i end so_far =
    let P : List Arc → Type 0 = λ l. Splits before l before [] in
    let Q : List Arc → Type 0 = λ l. Splits [] arcs before l in
    subst Q (append-nil cut) (so_far before [] (subst P (sym (drop_all i arcs end)) (refl, refl)))
