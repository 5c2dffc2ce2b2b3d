-- What is told of parts: their gates, and the places of a group.
use Rattle.std.proofs.Common.{◌≡◌, ℕ, zero, suc, ◌<◌, ◌≤◌, ◌+◌, ◌*◌, List, [], ◌∷◌, ◌++◌, length, take, get_or, Bool}
use Rattle.std.proofs.Common.{refl, sym, ap, ◌∙◌, arith, inl, inr, filter, Ok, Vec, Global}
use Rattle.std.specs.Borrow.{Bor}
use Rattle.std.proofs.lemmas.Bool.{cases_Bool}
use Rattle.std.proofs.lemmas.List.{get_or-map, length-map}
use Rattle.si_base.specs.declared.graph.Signal.{Signal}
use Rattle.si_groups.specs.Together.{ShowsMisfit}
use Rattle.si_groups.specs.declared.misfit.Misfit.{Misfit}
use Rattle.si_refusals.specs.Ending.{Ending, NoMemory, Answered, MayStop}
use Rattle.si_refusals.specs.Refusal.{TextRefused}
use Rattle.si_refusals.specs.Stages.{each}
use Rattle.si_sg.specs.CanonicalText.{state_at}
use Rattle.si_words.specs.Loops.Reads.{words_now}
use Rattle.si_works.specs.Audited.{AuditedPart, audited_part}
use Rattle.si_works.specs.declared.audited.AuditedPart.{AuditedPart as PartMade}
use Rattle.si_works.specs.Loops.Parts.{part_now, parts_now}
use Rattle.si_works.specs.Loops.Places.{ArePlaces, ShowsMisfitSo}
use Rattle.si_works.specs.Works.{file_of, gate_count, graphs, places_of, states_of, together}
use Rattle.si_works.proofs.EachLemmas.{each_many}
use Rattle.si_works.proofs.PairLemmas.{pairs_many, pairs_of}

-- ---- gates
pub few_filtered : (p : Signal → Bool) (xs : List Signal) → length (filter p xs) ≤ length xs
few_filtered p [] = omega arith
few_filtered p (x ∷ xs) =
    let k = few_filtered p xs in
    elim (cases_Bool (p x)) [
      | inl here ↦ rw here (omega (arith, k))
      | inr none ↦ rw none (omega (arith, k))
    ]

pub gates_more : (parts : List PartMade) (k : ℕ) (p : PartMade) → k < length parts → p ≡ get_or parts k p
    → gate_count (parts_now (take (suc k) parts)) ≡ gate_count (parts_now (take k parts)) + length p.netlist.gates
gates_more [] k p below at = absurd (omega (arith, below))
gates_more (q ∷ parts) zero p below at =
    let same : length q.netlist.gates ≡ length p.netlist.gates =
    ap (λ (r : PartMade). length r.netlist.gates) (sym at) in
    omega (arith, same)
gates_more (q ∷ parts) (suc k) p below at =
    let rest = gates_more parts k p (omega (arith, below)) at in
    omega (arith, rest)

-- ---- places
-- the states of a part by their names
pub states_are : (parts : List PartMade) (i : ℕ) (p : PartMade) → i < length parts → p ≡ get_or parts i p
    → states_of (parts_now parts) i ≡ p.given.states
states_are parts i p below at =
    get_or-map (λ (q : AuditedPart). q.given.states) (parts_now parts) i (part_now p) []
    (omega (arith, below, length-map parts part_now))
    ∙ ap (λ (q : AuditedPart). q.given.states) (get_or-map part_now parts i p (part_now p) below
    ∙ ap part_now (sym at))

pub file_is : (fs : List (Bor (List ℕ))) (i : ℕ) (d : Bor (List ℕ)) → 2 * i < length fs
    → (get_or fs (2 * i) d).now ≡ file_of (words_now fs) i
file_is fs i d below = sym (get_or-map (λ (w : Bor (List ℕ)). w.now) fs (2 * i) d [] below)

pub place_at : (parts : List AuditedPart) (group at : List ℕ) (k : ℕ) → ArePlaces parts group at → k < length group
    → (get_or group k 0 < length parts) × (k < length at)
    × (get_or at k 0 < length (states_of parts (get_or group k 0)))
place_at parts [] at k are below = absurd (omega (arith, below))
place_at parts (g ∷ group) [] k are below = absurd are
place_at parts (g ∷ group) (s ∷ at) zero are below = (are.0, omega arith, are.1)
place_at parts (g ∷ group) (s ∷ at) (suc k) are below =
    let rest = place_at parts group at k are.2 (omega (arith, below)) in
    (rest.0, (let inside = rest.1 in omega (arith, inside)), rest.2)

pub places_many : (parts : List AuditedPart) (group at : List ℕ) → ArePlaces parts group at
    → length at ≡ length group
places_many parts [] [] are = refl
places_many parts [] (s ∷ at) are = absurd are
places_many parts (g ∷ group) [] are = absurd are
places_many parts (g ∷ group) (s ∷ at) are = ap suc (places_many parts group at are.2)

pub places_more : (files : List (List ℕ)) (parts : List AuditedPart) (group at : List ℕ) (k : ℕ) → k < length group
    → k < length at → places_of files parts (take (suc k) group) (take (suc k) at)
    ≡ (places_of files parts (take k group) (take k at) ++ file_of files (get_or group k 0) ∷ [])
    ++ state_at (states_of parts (get_or group k 0)) (get_or at k 0) ∷ []
places_more files parts [] at k below inside = absurd (omega (arith, below))
places_more files parts (g ∷ group) [] k below inside = absurd (omega (arith, inside))
places_more files parts (g ∷ group) (s ∷ at) zero below inside = refl
places_more files parts (g ∷ group) (s ∷ at) (suc k) below inside =
    ap (λ (ws : List (List ℕ)). file_of files g ∷ (state_at (states_of parts g) s ∷ ws))
    (places_more files parts group at k (omega (arith, below)) (omega (arith, inside)))

-- ---- as many parts as half of the files
pub parts_many : (fs : List (Bor (List ℕ))) (ts : List (Vec ℕ Global)) (parts : List PartMade)
    → length ts ≡ length fs → each (λ p. audited_part p.0.0 p.1.0 p.0.1 p.1.1) (pairs_of fs ts) (Ok (parts_now parts))
    → (2 * length parts ≤ length fs) × (length (graphs (parts_now parts)) ≡ length parts)
parts_many fs ts parts many all =
    let values = each_many (λ (p : (List ℕ × List ℕ) × (List ℕ × List ℕ)). audited_part p.0.0 p.1.0 p.0.1 p.1.1)
    (pairs_of fs ts) (parts_now parts) all in
    let pairs = pairs_many fs ts many in
    let made = length-map parts part_now in
    (omega (arith, values, pairs, made), length-map (parts_now parts) (λ (p : AuditedPart). p.coded) ∙ made)

-- ---- where a call stops
pub misfit_stops : (files : List (List ℕ)) (parts : List AuditedPart) (e : Misfit) (ending : Ending)
    → ShowsMisfit (graphs parts) e → ShowsMisfitSo files parts e ending → MayStop (together files parts) ending
misfit_stops files parts e NoMemory shows so = tt
misfit_stops files parts e (Answered (TextRefused refusal)) shows so =
    record { first = e; shows = shows; named = so }
misfit_stops files parts e ending shows so = absurd so
