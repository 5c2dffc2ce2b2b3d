-- Words spell one dump at most.
use Rattle.std.proofs.Common.{◌≡◌, ℕ, suc, ◌<◌, ◌^◌, Bool, true, false, List, [], ◌∷◌, ◌++◌, length, map, drop}
use Rattle.std.proofs.Common.{All, append_assoc, flat_map, get_or, codes, decimal, refl, sym, ap, ap₂, subst}
use Rattle.std.proofs.Common.{◌∙◌, arith, if◌then◌else◌}
use Rattle.std.proofs.lemmas.Fmt.{decimal_injective}
use Rattle.std.proofs.lemmas.Grind.{flat_map-append}
use Rattle.si_wave.specs.Dump.{Change, Dump, Moment, Wire, change_line, change_word, dump_lines, moment_lines}
use Rattle.si_wave.specs.Dump.{wire_line}
use Rattle.si_wave.specs.Reading.{HasShortTimes, Spells}
use Rattle.si_wave.proofs.WriteParts.{back, front, middle}

-- the words of lines, one after another
abbrev joined : List (List (List ℕ)) → List (List ℕ)
joined lines = flat_map (λ words. words) lines

abbrev word_at : ℕ → List (List ℕ) → List ℕ
word_at k words = get_or words k []

-- ---- wires, up to the word behind them
wires_one : (ws vs : List Wire) (r s : List (List ℕ))
    → joined (map wire_line ws) ++ codes "$upscope" ∷ r ≡ joined (map wire_line vs) ++ codes "$upscope" ∷ s
    → (ws ≡ vs) × (r ≡ s)
wires_one [] [] r s same = (refl, ap (drop 1) same)
wires_one [] (v ∷ vs) r s same =
    let first : codes "$upscope" ≡ codes "$var" = ap (λ (t : List (List ℕ)). get_or t 0 []) same in
    let byte = ap (λ (w : List ℕ). get_or w 1 0) first in
    absurd (omega (arith, byte))
wires_one (w ∷ ws) [] r s same =
    let first : codes "$var" ≡ codes "$upscope" = ap (λ (t : List (List ℕ)). get_or t 0 []) same in
    let byte = ap (λ (w : List ℕ). get_or w 1 0) first in
    absurd (omega (arith, byte))
wires_one (w ∷ ws) (v ∷ vs) r s same =
    let code : w.code ≡ v.code = ap (λ (t : List (List ℕ)). word_at 3 t) same in
    let name : w.name ≡ v.name = ap (λ (t : List (List ℕ)). word_at 4 t) same in
    let wire : w ≡ v = ap₂ (λ (c m : List ℕ). let x : Wire = record { code = c; name = m } in x) code name in
    let more = wires_one ws vs r s (ap (drop 6) same) in
    (ap₂ (λ (x : Wire) (xs : List Wire). x ∷ xs) wire more.0, more.1)

-- ---- changes, up to a word that is none
abbrev digit : Bool → ℕ
digit value = if value then 49 else 48

same_change : (c d : Change) → change_word c ≡ change_word d → c ≡ d
same_change c d same = ap₂ (λ (v : Bool) (k : List ℕ). let x : Change = record { value = v; code = k } in x)
    (same_value c.value d.value (ap (λ (w : List ℕ). get_or w 0 0) same)) (ap (drop 1) same)
  where
    same_value : (a b : Bool) → digit a ≡ digit b → a ≡ b
    same_value true true is = refl
    same_value true false is = absurd (omega (arith, is))
    same_value false true is = absurd (omega (arith, is))
    same_value false false is = refl

-- no word, or one that is no change
abbrev IsNoChange : List (List ℕ) → Type 0
IsNoChange [] = Unit {0}
IsNoChange (w ∷ ws) = get_or w 0 0 < 48

no_change : (value : Bool) → digit value < 48 → ⊥
no_change true is = omega (arith, is)
no_change false is = omega (arith, is)

changes_one : (cs ds : List Change) (r s : List (List ℕ)) → IsNoChange r → IsNoChange s
    → joined (map change_line cs) ++ r ≡ joined (map change_line ds) ++ s → (cs ≡ ds) × (r ≡ s)
changes_one [] [] r s one other same = (refl, same)
changes_one [] (d ∷ ds) [] s one other same =
    let size = ap (λ (t : List (List ℕ)). length t) same in
    absurd (omega (arith, size))
changes_one [] (d ∷ ds) (w ∷ r) s one other same =
    let word : w ≡ change_word d = ap (λ (t : List (List ℕ)). word_at 0 t) same in
    absurd (no_change d.value (subst (λ (v : List ℕ). get_or v 0 0 < 48) word one))
changes_one (c ∷ cs) [] r [] one other same =
    let size = ap (λ (t : List (List ℕ)). length t) same in
    absurd (omega (arith, size))
changes_one (c ∷ cs) [] r (w ∷ s) one other same =
    let word : w ≡ change_word c = ap (λ (t : List (List ℕ)). word_at 0 t) (sym same) in
    absurd (no_change c.value (subst (λ (v : List ℕ). get_or v 0 0 < 48) word other))
changes_one (c ∷ cs) (d ∷ ds) r s one other same =
    let change = same_change c d (ap (λ (t : List (List ℕ)). word_at 0 t) same) in
    let more = changes_one cs ds r s one other (ap (drop 1) same) in
    (ap₂ (λ (x : Change) (xs : List Change). x ∷ xs) change more.0, more.1)

-- ---- moments
abbrev later : List Moment → List (List ℕ)
later ms = joined (flat_map moment_lines ms)

no_change_later : (ms : List Moment) → IsNoChange (later ms)
no_change_later [] = tt
no_change_later (m ∷ ms) = omega arith

moment_cut : (m : Moment) (ms : List Moment)
    → later (m ∷ ms) ≡ (35 ∷ decimal m.time) ∷ (joined (map change_line m.changes) ++ later ms)
moment_cut m ms = flat_map-append (λ (words : List (List ℕ)). words) (moment_lines m) (flat_map moment_lines ms)

abbrev AreShort : List Moment → Type 0
AreShort ms = All (λ (m : Moment). m.time < 2 ^ 64) ms

moments_one : (ms ns : List Moment) → AreShort ms → AreShort ns → later ms ≡ later ns → ms ≡ ns
moments_one [] [] one other same = refl
moments_one [] (n ∷ ns) one other same =
    let size = ap (λ (t : List (List ℕ)). length t) (same ∙ moment_cut n ns) in
    absurd (omega (arith, size))
moments_one (m ∷ ms) [] one other same =
    let size = ap (λ (t : List (List ℕ)). length t) (sym same ∙ moment_cut m ms) in
    absurd (omega (arith, size))
moments_one (m ∷ ms) (n ∷ ns) one other same =
    let cut = sym (moment_cut m ms) ∙ same ∙ moment_cut n ns in
    let word = ap (λ (t : List (List ℕ)). drop 1 (word_at 0 t)) cut in
    let time = decimal_injective m.time n.time (one 0 m (omega arith)) (other 0 n (omega arith)) word in
    let rest = changes_one m.changes n.changes (later ms) (later ns) (no_change_later ms) (no_change_later ns)
    (ap (drop 1) cut) in
    let more = moments_one ms ns (λ i d within. one (suc i) d (omega arith))
    (λ i d within. other (suc i) d (omega arith)) rest.1 in
    let moment : m ≡ n =
    ap₂ (λ (k : ℕ) (cs : List Change). let x : Moment = record { time = k; changes = cs } in x) time rest.0 in
    ap₂ (λ (x : Moment) (xs : List Moment). x ∷ xs) moment more

-- ---- the whole
-- the words behind the wires
abbrev behind : Dump → List (List ℕ)
behind d = codes "$end" ∷ codes "$enddefinitions" ∷ codes "$end" ∷ (35 ∷ decimal 0) ∷ codes "$dumpvars"
    ∷ (joined (map change_line d.starts) ++ codes "$end" ∷ later d.moments)

abbrev all_words : Dump → List (List ℕ)
all_words d = codes "$timescale" ∷ codes "1" ∷ codes "ns" ∷ codes "$end" ∷ codes "$scope" ∷ codes "module"
    ∷ d.scope ∷ codes "$end" ∷ (joined (map wire_line d.wires) ++ codes "$upscope" ∷ behind d)

words_are : (d : Dump) → joined (dump_lines d) ≡ all_words d
words_are d =
    flat_map-append (λ (words : List (List ℕ)). words) (front d ++ middle d) (back d)
    ∙ ap (λ (t : List (List ℕ)). t ++ joined (back d))
    (flat_map-append (λ (words : List (List ℕ)). words) (front d) (middle d))
    ∙ append_assoc (joined (front d)) (joined (middle d)) (joined (back d))

pub one_dump : (text : List ℕ) (d e : Dump) → HasShortTimes d → HasShortTimes e → Spells text d → Spells text e
    → d ≡ e
one_dump text d e one other first second =
    let same = sym (words_are d) ∙ sym first ∙ second ∙ words_are e in
    let scope : d.scope ≡ e.scope = ap (λ (t : List (List ℕ)). word_at 6 t) same in
    let wires = wires_one d.wires e.wires (behind d) (behind e) (ap (drop 8) same) in
    let ends : IsNoChange (codes "$end" ∷ later d.moments) = omega arith in
    let stops : IsNoChange (codes "$end" ∷ later e.moments) = omega arith in
    let starts = changes_one d.starts e.starts (codes "$end" ∷ later d.moments) (codes "$end" ∷ later e.moments)
    ends stops (ap (drop 5) wires.1) in
    let moments = moments_one d.moments e.moments one other (ap (drop 1) starts.1) in
    λ i. record { scope = scope i; wires = wires.0 i; starts = starts.0 i; moments = moments i }
