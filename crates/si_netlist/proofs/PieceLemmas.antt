-- Pieces one after another in one run of bytes.
use Rattle.std.proofs.Common.{◌≡◌, ℕ, zero, suc, ◌-◌, ◌<◌, ◌≤◌, List, [], ◌∷◌, ◌++◌, length, get_or, drop, map, Some}
use Rattle.std.proofs.Common.{slice_get, refl, sym, ap, ◌∙◌, arith, length-append, inl, inr}
use Rattle.std.specs.Prelude.{All}
use Rattle.std.specs.List.{zip, slice_range}
use Rattle.std.proofs.lemmas.Bool.{cases_lt}
use Rattle.std.proofs.lemmas.List.{take-append-le, drop-append-le, take_all, drop_at, map-append, length-map}
use Rattle.std.proofs.lemmas.List.{length-drop, get_or_read}
use Rattle.std.proofs.lemmas.List.Elements.{All-head, All-tail, All-push}
use Rattle.std.proofs.lemmas.Option.{slice_get-map}
use Rattle.si_netlist.specs.Loops.Pieces.{spans, pieces, AreEnds}

-- a span ends where it begins, or later
abbrev IsForward : ℕ × ℕ → Type 0
IsForward p = p.0 ≤ p.1

-- the spans of pieces, the first of which begins at `from`
abbrev spans_from : (from : ℕ) → (ends : List ℕ) → List (ℕ × ℕ)
spans_from from ends = zip (from ∷ ends) ends

-- where the last of them ends
abbrev end_from : (from : ℕ) → (ends : List ℕ) → ℕ
end_from from ends = get_or (from ∷ ends) (length ends) 0

-- ---- one piece
span_count : (from : ℕ) (ends : List ℕ) → length (spans_from from ends) ≡ length ends
span_count from [] = refl
span_count from (e ∷ ends) = ap (λ n. suc n) (span_count e ends)

span_at : (from : ℕ) (ends : List ℕ) (k : ℕ) → k < length ends
    → slice_get (spans_from from ends) k ≡ Some (get_or (from ∷ ends) k 0, get_or ends k 0)
span_at from [] k within = absurd (omega arith)
span_at from (e ∷ ends) zero within = refl
span_at from (e ∷ ends) (suc k) within = span_at e ends k (omega arith)

begins_below : (from : ℕ) (ends : List ℕ) → All IsForward (spans_from from ends) → from ≤ end_from from ends
begins_below from [] ascending = omega arith
begins_below from (e ∷ ends) ascending =
    let here : from ≤ e = All-head IsForward (from, e) (spans_from e ends) ascending in
    let rest = All-tail IsForward (from, e) (spans_from e ends) ascending in
    let later : e ≤ end_from e ends = begins_below e ends rest in
    omega arith

-- piece k begins no later than it ends, and ends no later than the last
span_within : (from : ℕ) (ends : List ℕ) (k : ℕ) → All IsForward (spans_from from ends) → k < length ends
    → (get_or (from ∷ ends) k 0 ≤ get_or ends k 0) × (get_or ends k 0 ≤ end_from from ends)
span_within from [] k ascending within = absurd (omega arith)
span_within from (e ∷ ends) zero ascending within =
    let rest = All-tail IsForward (from, e) (spans_from e ends) ascending in
    (All-head IsForward (from, e) (spans_from e ends) ascending, begins_below e ends rest)
span_within from (e ∷ ends) (suc k) ascending within =
    span_within e ends k (All-tail IsForward (from, e) (spans_from e ends) ascending) (omega arith)

pub piece_count : (bytes ends : List ℕ) → length (pieces bytes ends) ≡ length ends
piece_count bytes ends = length-map (spans ends) (λ p. slice_range bytes p.0 p.1) ∙ span_count 0 ends

pub place_within : (bytes ends : List ℕ) (names : List (List ℕ)) (k : ℕ) → pieces bytes ends ≡ names
    → k < length names → k < length ends
place_within bytes ends names k are within = omega (arith, piece_count bytes ends, ap (length {A = List ℕ}) are)

piece_at : (bytes ends : List ℕ) (k : ℕ) → k < length ends
    → slice_get (pieces bytes ends) k ≡ Some (slice_range bytes (get_or (0 ∷ ends) k 0) (get_or ends k 0))
piece_at bytes ends k within =
    slice_get-map (λ (p : ℕ × ℕ). slice_range bytes p.0 p.1) (spans ends) k ∙ rw (span_at 0 ends k within) refl

-- the bytes between two places are name k
pub record IsName (bytes : List ℕ) (names : List (List ℕ)) (k from to : ℕ) : Type 0 where
  pub forward : from ≤ to
  pub within : to ≤ length bytes
  pub name : slice_get names k ≡ Some (slice_range bytes from to)

pub name_read : (bytes ends : List ℕ) (names : List (List ℕ)) (k from to : ℕ) → AreEnds bytes ends
    → pieces bytes ends ≡ names → k < length names → from ≡ get_or (0 ∷ ends) k 0 → to ≡ get_or ends k to
    → IsName bytes names k from to
name_read bytes ends names k from to are seen inside begin end =
    let within : k < length ends = place_within bytes ends names k seen inside in
    let to_is : to ≡ get_or ends k 0 = get_or_read ends k to within end 0 in
    let bounds = span_within 0 ends k are.ascending within in
    record {
      forward = omega (arith, bounds.0, begin, to_is);
      within = omega (arith, bounds.1, to_is, are.last);
      name = rw (← seen, begin, to_is) (piece_at bytes ends k within);
    }

-- ---- one more piece
same_range : (bytes more : List ℕ) (a b : ℕ) → b ≤ length bytes
    → slice_range (bytes ++ more) a b ≡ slice_range bytes a b
same_range bytes more a b within =
    elim (cases_lt (length bytes) a) [
      | inl past ↦
          let none : b - a ≡ 0 = omega arith in
          rw none refl
      | inr inside ↦
          let fits : b - a ≤ length (drop a bytes) = omega (arith, length-drop a bytes) in
          rw (drop-append-le a bytes more inside, take-append-le (b - a) (drop a bytes) more fits) refl
    ]

-- bytes that are added leave the pieces before them
grown : (bytes more : List ℕ) (from : ℕ) (ends : List ℕ) → All IsForward (spans_from from ends)
    → end_from from ends ≤ length bytes
    → map (λ p. slice_range (bytes ++ more) p.0 p.1) (spans_from from ends)
    ≡ map (λ p. slice_range bytes p.0 p.1) (spans_from from ends)
grown bytes more from [] ascending within = refl
grown bytes more from (e ∷ ends) ascending within =
    let rest = All-tail IsForward (from, e) (spans_from e ends) ascending in
    let first : e ≤ length bytes = omega (arith, begins_below e ends rest) in
    rw (same_range bytes more from e first, grown bytes more e ends rest within) refl

span_push : (from : ℕ) (ends : List ℕ) (e : ℕ)
    → spans_from from (ends ++ e ∷ []) ≡ spans_from from ends ++ (end_from from ends, e) ∷ []
span_push from [] e = refl
span_push from (x ∷ ends) e = ap (λ (ps : List (ℕ × ℕ)). (from, x) ∷ ps) (span_push x ends e)

end_push : (from : ℕ) (ends : List ℕ) (e : ℕ) → end_from from (ends ++ e ∷ []) ≡ e
end_push from [] e = refl
end_push from (x ∷ ends) e = end_push x ends e

last_range : (bytes name : List ℕ) (a b : ℕ) → a ≡ length bytes → b ≡ length (bytes ++ name)
    → slice_range (bytes ++ name) a b ≡ name
last_range bytes name a b begin end =
    let long : length name ≤ b - a = omega (arith, length-append bytes name) in
    rw (drop_at bytes name a (sym begin)) (take_all (b - a) name long)

pub pieces_push : (bytes ends name all more : List ℕ) (e : ℕ) → AreEnds bytes ends → all ≡ bytes ++ name
    → more ≡ ends ++ e ∷ [] → e ≡ length all → pieces all more ≡ pieces bytes ends ++ name ∷ []
pieces_push bytes ends name all more e are grows adds end =
    let piece : ℕ × ℕ → List ℕ = λ p. slice_range (bytes ++ name) p.0 p.1 in
    let within : end_from 0 ends ≤ length bytes = omega (arith, are.last) in
    let long : e ≡ length (bytes ++ name) = rw grows at end in
    rw (grows, adds) (ap (map piece) (span_push 0 ends e) ∙ map-append piece (spans ends) ((end_from 0 ends, e) ∷ [])
    ∙ rw (grown bytes name 0 ends are.ascending within, last_range bytes name (end_from 0 ends) e are.last long) refl)

pub ends_push : (bytes ends name all more : List ℕ) (e : ℕ) → AreEnds bytes ends → all ≡ bytes ++ name
    → more ≡ ends ++ e ∷ [] → e ≡ length all → AreEnds all more
ends_push bytes ends name all more e are grows adds end =
    let here : end_from 0 ends ≤ e = omega (arith, are.last, length-append bytes name, ap (length {A = ℕ}) grows) in
    rw adds record {
      ascending = rw (span_push 0 ends e) (All-push IsForward (spans ends) (end_from 0 ends, e) are.ascending here);
      last = end_push 0 ends e ∙ end;
    }
