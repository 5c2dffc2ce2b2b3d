-- The names of signals, taken one after the other, and the signals of events.
use Rattle.std.proofs.Common.{◌≡◌, ◌≢◌, ℕ, ◌+◌, ◌<◌, not, Bool, true, false, List, [], ◌∷◌, ◌++◌, length, map, take}
use Rattle.std.proofs.Common.{get_or, min, sym, ap, subst, ◌∙◌, arith, inl, inr, bytes_eq, position, unwrap_or, All}
use Rattle.std.proofs.Common.{IfOk, Contains, AllPairs, None, Result, Ok, Err, refl, true≢false}
use Rattle.std.specs.Prelude.{flat_map}
use Rattle.std.specs.List.{position_or_len}
use Rattle.std.proofs.lemmas.Bool.{cases_lt}
use Rattle.std.proofs.lemmas.List.Concat.{flat_map-cons}
use Rattle.std.proofs.lemmas.List.Elements.{All-nil, All-cons, All-append}
use Rattle.std.proofs.lemmas.List.Folds.{Any-from_list_any}
use Rattle.std.proofs.lemmas.List.Sums.{fails_before_first}
use Rattle.std.proofs.lemmas.List.{get_or-map, get_or-take, length-map, length-take, map-append, take_more}
use Rattle.si_base.specs.declared.fault.TextFault.{TextFault}
use Rattle.si_base.specs.declared.fault.TextKind.TheVariants.{BadEvent, BadByte, Undeclared}
use Rattle.si_base.specs.declared.graph.Signal.{Signal}
use Rattle.si_base.specs.declared.ids.Event.{Event}
use Rattle.si_base.specs.Faults.{when, ◌otherwise◌, first_in}
use Rattle.si_base.specs.Lines.{Line, has_bad_byte, numbered}
use Rattle.si_base.specs.TextFaults.{Gives}
use Rattle.si_words.specs.Names.{stands_in}
use Rattle.si_words.proofs.FaultLemmas.{both, not_when, line_none}
use Rattle.si_base.specs.Words.{is_signal_name}
use Rattle.si_base.specs.Graph.{names_in}
use Rattle.si_words.specs.Events.{event_fault, event_name, event_sign, sign_fault, event_of}
use Rattle.si_system.specs.ScheduleText.{words, line_fault, schedule_fault, schedule_of}

-- the name of a signal is none of those before it
pub fresh : (signals : List Signal) (i : ℕ) (d : Signal) → AllPairs (λ (x y : Signal). x.name ≢ y.name) signals
    → i < length signals → ¬ Contains (take i (names_in signals)) (get_or signals i d).name
fresh signals i d distinct within (k, inside, at) =
    let short : k < min i (length (names_in signals)) = rw (← length-take i (names_in signals)) inside in
    let before : k < i = omega arith in
    let here : get_or (take i (names_in signals)) k (get_or signals i d).name ≡ (get_or signals k d).name =
    get_or-take i (names_in signals) k (get_or signals i d).name before
    ∙ get_or-map (λ (x : Signal). x.name) signals k d (get_or signals i d).name (omega arith) in
    distinct k i d before within (sym here ∙ at)

-- one more name
pub one_more : (signals : List Signal) (i : ℕ) (d : Signal) → i < length signals
    → take (i + 1) (names_in signals) ≡ take i (names_in signals) ++ (get_or signals i d).name ∷ []
one_more signals i d within =
    take_more (names_in signals) i (get_or signals i d).name (rw length-map within)
    ∙ ap (λ (n : List ℕ). take i (names_in signals) ++ n ∷ [])
    (get_or-map (λ (x : Signal). x.name) signals i d (get_or signals i d).name within)

pub grows : (signals : List Signal) (i : ℕ) (d : Signal) (name : List ℕ) (old new : List (List ℕ))
    → AllPairs (λ (x y : Signal). x.name ≢ y.name) signals → i < length signals → old ≡ take i (names_in signals)
    → name ≡ (get_or signals i d).name → (¬ Contains old name → new ≡ old ++ name ∷ [])
    → new ≡ take (i + 1) (names_in signals)
grows signals i d name old new distinct within is named added =
    let new_name : ¬ Contains old name = rw (is, named) (fresh signals i d distinct within) in
    added new_name ∙ rw (is, named) (sym (one_more signals i d within))

-- ---- the signal of an event without fault is one of the names
place_within : (names : List (List ℕ)) (name : List ℕ) → stands_in names name ≡ true
    → unwrap_or (position (λ n. bytes_eq name n) names) 0 < length names
place_within names name stands = elim (cases_lt (position_or_len (λ n. bytes_eq name n) names) (length names)) [
  | inl within ↦ grind arith
  | inr past ↦
      let (k, n, inside, at, same) = Any-from_list_any (λ n. bytes_eq name n) names stands in
      absurd (true≢false (sym same ∙ ap (λ x. bytes_eq name x) (sym at)
      ∙ fails_before_first (λ x. bytes_eq name x) names k n (omega arith)))
]

stands : (names : List (List ℕ)) (word : List ℕ) → event_fault names word ≡ None
    → stands_in names (event_name word) ≡ true
stands names word none =
    let later = (both (when (not (is_signal_name (event_name word))) BadEvent) _ none).1 in
    let last = (both (sign_fault (event_sign word)) _ later).1 in
    shown (stands_in names (event_name word)) (not_when _ Undeclared last)
  where
    shown : (b : Bool) → not b ≡ false → b ≡ true
    shown true e = refl
    shown false e = absurd (true≢false e)

words_within : (names ws : List (List ℕ)) → first_in (event_fault names) ws ≡ None
    → All (λ (e : Event). e.sig < length names) (map (event_of names) ws)
words_within names [] none = All-nil (λ (e : Event). e.sig < length names)
words_within names (w ∷ ws) none =
    let parts = both (event_fault names w) _ none in
    All-cons (λ (e : Event). e.sig < length names) (event_of names w) (map (event_of names) ws)
    (place_within names (event_name w) (stands names w parts.0)) (words_within names ws parts.1)

lines_within : (names : List (List ℕ)) (lines : List Line) → first_in (line_fault names) lines ≡ None
    → All (λ (e : Event). e.sig < length names) (map (event_of names) (flat_map words lines))
lines_within names [] none = All-nil (λ (e : Event). e.sig < length names)
lines_within names (line ∷ lines) none =
    let parts = line_none line.0
    (when (has_bad_byte line.1) BadByte otherwise first_in (event_fault names) (words line)) _ none in
    let here = (both (when (has_bad_byte line.1) BadByte) _ parts.0).1 in
    rw (flat_map-cons words line lines, map-append (event_of names) (words line) (flat_map words lines))
    (All-append (λ (e : Event). e.sig < length names) (map (event_of names) (words line))
    (map (event_of names) (flat_map words lines)) (words_within names (words line) here)
    (lines_within names lines parts.1))

pub within : {X : Type 0} (view : X → List Event) (signals : List Signal)
    (names : List (List ℕ)) (text : List ℕ) (r : Result X TextFault) → names ≡ names_in signals
    → Gives view r (schedule_fault names text) (schedule_of names text)
    → IfOk r (λ x. All (λ (e : Event). e.sig < length signals) (view x))
within view signals names text (Ok x) named gives =
    let count : length names ≡ length signals = ap length named ∙ length-map signals (λ (x : Signal). x.name) in
    rw gives.1 (subst (λ n. All (λ (e : Event). e.sig < n) (schedule_of names text)) count
    (lines_within names (numbered text) gives.0))
within view signals names text (Err e) named gives = tt
