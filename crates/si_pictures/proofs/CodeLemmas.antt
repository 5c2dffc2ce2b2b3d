-- Digits and events of a state, as they are added.
use Rattle.std.proofs.Common.{◌≡◌, ℕ, ◌<◌, ◌||◌, ◌&&◌, ◌⊎◌, not, Bool, true}
use Rattle.std.proofs.Common.{false, List, [], ◌∷◌, ◌++◌, flat_map, map, length, refl}
use Rattle.std.proofs.Common.{sym, ap, ◌∙◌, codes, append_assoc, inl, inr, zero, suc, ◌==◌, eqb-true, if◌then◌else◌}
use mathlib.Core.Bool.{beq}
use Rattle.std.proofs.lemmas.Bool.{cases_Bool, true≢false}
use Rattle.std.proofs.lemmas.Grind.{flat_map-append}
use Rattle.std.proofs.lemmas.List.{append-nil}
use Rattle.si_base.specs.declared.graph.Signal.{Signal}
use Rattle.si_base.specs.declared.ids.Event.{Event}
use Rattle.si_base.specs.Bits.{bit}
use Rattle.si_base.specs.Codes.{CodedGraph, IsCoded, code, next_value}
use Rattle.si_base.specs.Graph.{StateGraph, enables, rise, fall}
use Rattle.si_base.specs.Words.{line}
use Rattle.si_base.proofs.StepCodes.{old_value}
use Rattle.si_base.proofs.GraphSteps.{step_from_enables}
use Rattle.si_base.specs.Bytes.{sign}
use Rattle.si_base.specs.NetlistText.{name_of, word_if_any}
use Rattle.si_sg.specs.CanonicalText.{state_at, event_word}
use Rattle.si_words.specs.Loops.Writing.{spaced}
use Rattle.si_words.proofs.WritingLemmas.{whole_line}
use Rattle.si_pictures.specs.CodeWord.{first, is_excited, marked_digit, code_word, enabled_of, enabled_events}
use Rattle.si_pictures.specs.Seen.{graph_of}
use Rattle.si_pictures.specs.StatesText.{code_words, state_line}
use Rattle.si_pictures.specs.declared.seen.Seen.{Seen}

-- ---- the parts of texts
abbrev pub digit_at : CodedGraph → ℕ → ℕ → List ℕ
digit_at c s z = marked_digit (bit (code c s) z) (is_excited c.graph s z)

abbrev pub spaced_name : Signal → List ℕ
spaced_name x = 32 ∷ x.name

abbrev pub events_at : StateGraph → ℕ → ℕ → List ℕ
events_at g s z = spaced (map (event_word g.signals) (enabled_of g s z))

abbrev pub line_at : Seen → List (List ℕ) → ℕ → List ℕ
line_at x states s = line (state_line x states s)

abbrev pub signals_line : Seen → List ℕ
signals_line x = line (codes "signals" ∷ map (λ x. x.name) (graph_of x).signals)

pub line_by_calls : (text word : List ℕ) (words : List (List ℕ)) (first second : List ℕ) → first ≡ text ++ word
    → second ≡ first ++ spaced words → second ++ 10 ∷ [] ≡ text ++ line (word ∷ words)
line_by_calls text word words first second e1 e2 = rw (e2, e1) (whole_line text word words)

-- ---- an excited signal
module _ (c : CodedGraph) (s z : ℕ) (coded : IsCoded c) (within : z < length c.graph.signals) where
  abbrev value : Bool
  value = bit (code c s) z

  abbrev rises : Bool
  rises = enables c.graph s (rise z)

  abbrev falls : Bool
  falls = enables c.graph s (fall z)

  value_at : (up : Bool) → enables c.graph s (record { sig = z; up = up }) ≡ true → value ≡ not up
  value_at up on =
      let step = step_from_enables c.graph s (record { sig = z; up = up }) on in
      old_value c.graph z (λ t. bit (code c t) z) s step.0 up (coded.values z within) step.1

  -- z rests, is about to rise, or is about to fall
  kinds : ((rises ≡ false) × (falls ≡ false)) ⊎ (((rises ≡ true) × (falls ≡ false) × (value ≡ false))
      ⊎ ((rises ≡ false) × (falls ≡ true) × (value ≡ true)))
  kinds = elim (cases_Bool rises) [
    | inl up ↦ elim (cases_Bool falls) [
      | inl down ↦ absurd (true≢false (sym (value_at false down) ∙ value_at true up))
      | inr none ↦ inr (inl (up, none, value_at true up))
    ]
    | inr none ↦ elim (cases_Bool falls) [
      | inl down ↦ inr (inr (none, down, value_at false down))
      | inr also ↦ inl (none, also)
    ]
  ]

  -- the next value differs from the value just where z is excited
  pub next_differs : not (beq (next_value c s z) value) ≡ is_excited c.graph s z
  next_differs = elim kinds [
    | inl is ↦ rw (is.0, is.1) (kept value)
    | inr (inl up) ↦ rw (up.0, up.2) refl
    | inr (inr down) ↦ rw (down.0, down.1, down.2) refl
  ]
    where
      kept : (v : Bool) → not (beq (false || (v && not false)) v) ≡ false
      kept true = refl
      kept false = refl

-- ---- the events of a signal
abbrev pub event_if : StateGraph → ℕ → Event → List ℕ
event_if g s e = spaced (map (event_word g.signals) (if enables g s e then e ∷ [] else []))

spaced_both : (signals : List Signal) (xs ys : List Event) → spaced (map (event_word signals) (xs ++ ys))
    ≡ spaced (map (event_word signals) xs) ++ spaced (map (event_word signals) ys)
spaced_both signals [] ys = refl
spaced_both signals (x ∷ xs) ys = ap (λ (t : List ℕ). 32 ∷ event_word signals x ++ t) (spaced_both signals xs ys)
    ∙ sym (append_assoc (32 ∷ event_word signals x) (spaced (map (event_word signals) xs))
    (spaced (map (event_word signals) ys)))

pub event_by_calls : (g : StateGraph) (s : ℕ) (e : Event) → enables g s e ≡ true → (text name mark first : List ℕ)
    → name ≡ name_of g.signals e.sig → mark ≡ sign e.up ∷ [] → first ≡ text ++ 32 ∷ name
    → first ++ mark ≡ text ++ event_if g s e
event_by_calls g s e on text name mark first e1 e2 e3 =
    rw (e3, e1, e2, on) (append_assoc text (32 ∷ name_of g.signals e.sig) (sign e.up ∷ [])
    ∙ ap (λ (t : List ℕ). text ++ t) (sym (append-nil (32 ∷ event_word g.signals e))))

pub no_event : (g : StateGraph) (s : ℕ) (e : Event) → enables g s e ≡ false → (text : List ℕ)
    → text ≡ text ++ event_if g s e
no_event g s e off text = rw off (sym (append-nil text))

pub events_by_calls : (g : StateGraph) (s z : ℕ) (text first : List ℕ) → first ≡ text ++ event_if g s (rise z)
    → first ++ event_if g s (fall z) ≡ text ++ events_at g s z
events_by_calls g s z text first e1 =
    rw e1 (append_assoc text (event_if g s (rise z)) (event_if g s (fall z))
    ∙ ap (λ (t : List ℕ). text ++ t) (sym (spaced_both g.signals (if enables g s (rise z) then rise z ∷ [] else [])
    (if enables g s (fall z) then fall z ∷ [] else []))))

-- ---- a state
-- its code is a word just where there is a signal
pub no_code : (c : CodedGraph) (s : ℕ) → (length c.graph.signals == 0) ≡ true → word_if_any (code_word c s) ≡ []
unfolding code_word
no_code c s none = rw (eqb-true (length c.graph.signals) 0 none) refl

pub one_code : (c : CodedGraph) (s : ℕ) → (length c.graph.signals == 0) ≡ false
    → word_if_any (code_word c s) ≡ code_word c s ∷ []
unfolding code_word
one_code c s some = from (length c.graph.signals) some
  where
    from : (n : ℕ) → (n == 0) ≡ false
        → word_if_any (flat_map (digit_at c s) (first n)) ≡ flat_map (digit_at c s) (first n) ∷ []
    from zero none = cc
    from (suc n) many = refl

pub code_by_calls : (c : CodedGraph) (s : ℕ) → (length c.graph.signals == 0) ≡ false → (text first : List ℕ)
    → first ≡ text ++ 32 ∷ [] → first ++ code_word c s ≡ text ++ spaced (word_if_any (code_word c s))
code_by_calls c s some text first e1 = rw (e1, one_code c s some) (simp (append_assoc, append-nil))

state_parts : (t name code events : List ℕ) → (((t ++ name) ++ code) ++ events) ++ 10 ∷ []
    ≡ ((t ++ name) ++ (code ++ events)) ++ 10 ∷ []
state_parts t name code events = simp append_assoc

pub state_by_calls : (x : Seen) (states : List (List ℕ)) (s : ℕ) (text name first second third : List ℕ)
    → name ≡ state_at states s → first ≡ text ++ name → second ≡ first ++ spaced (code_words x s)
    → third ≡ second ++ spaced (map (event_word (graph_of x).signals) (enabled_events (graph_of x) s))
    → third ++ 10 ∷ [] ≡ text ++ line (state_line x states s)
state_by_calls x states s text name first second third e0 e1 e2 e3 =
    let code = code_words x s in
    let events = map (event_word (graph_of x).signals) (enabled_events (graph_of x) s) in
    rw (e3, e2, e1, e0) (state_parts text (state_at states s) (spaced code) (spaced events)
    ∙ ap (λ (t : List ℕ). ((text ++ state_at states s) ++ t) ++ 10 ∷ [])
    (sym (flat_map-append (λ w. 32 ∷ w) code events))
    ∙ whole_line text (state_at states s) (code ++ events))

-- ---- all events of a state
pub all_events : (g : StateGraph) (s : ℕ) → flat_map (events_at g s) (first (length g.signals))
    ≡ spaced (map (event_word g.signals) (enabled_events g s))
all_events g s = from (first (length g.signals))
  where
    from : (zs : List ℕ) → flat_map (events_at g s) zs
        ≡ spaced (map (event_word g.signals) (flat_map (enabled_of g s) zs))
    from [] = refl
    from (z ∷ zs) = ap (λ (t : List ℕ). events_at g s z ++ t) (from zs)
        ∙ sym (spaced_both g.signals (enabled_of g s z) (flat_map (enabled_of g s) zs))
