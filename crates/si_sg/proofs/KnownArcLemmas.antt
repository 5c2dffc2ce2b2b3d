-- Lines of one arc, of states and an event that are known.
use Rattle.std.proofs.Common.{◌≡◌, ℕ, ◌==◌, ◌⊎◌, ◌||◌, ◌&&◌, not, Bool, true, false, List, [], ◌∷◌, ◌++◌, length, refl, sym}
use Rattle.std.proofs.Common.{ap, ◌∙◌, inl, inr, Option, Some, None, eqb-true, position, bytes_eq, unwrap_or, codes}
use Rattle.std.specs.List.{AllByRecursion, list_all}
use Rattle.std.proofs.lemmas.Bool.{cases_Bool, and_parts, not-true}
use Rattle.std.proofs.lemmas.List.Folds.{list_any_at}
use Rattle.std.proofs.lemmas.List.Quantifiers.{position-Some}
use Rattle.si_base.specs.Bytes.{sign}
use Rattle.si_base.specs.Faults.{◌otherwise◌}
use Rattle.si_base.specs.Lines.{put_first, words_in, begins, is_plain, is_blank, is_brace, is_bad, before_comment}
use Rattle.si_base.specs.Lines.{has_bad_byte}
use Rattle.si_base.specs.Words.{is_word_byte, is_signal_name}
use Rattle.si_base.specs.declared.fault.TextKind.{TextKind}
use Rattle.si_base.specs.declared.ids.Event.{Event}
use Rattle.si_base.proofs.WordLemmas.{excludes}
use Rattle.si_words.specs.Events.{event_fault, event_of}
use Rattle.si_words.specs.Names.{stands_in}
use Rattle.si_words.proofs.WrittenLineLemmas.{IsWord, AreWords, AreInLine, bytes_in_line, no_comment, no_bad_byte}
use Rattle.si_sg.specs.declared.arc_set.Arc.{Arc}
use Rattle.si_sg.specs.declared.heads.Head.TheVariants.{Plain}
use Rattle.si_sg.specs.Heads.{begins_with_dot, head_of}
use Rattle.si_sg.specs.GraphText.{words, section_line_fault, section_line_with}
use Rattle.si_sg.specs.Section.{Section, place_in, with_name, with_arc, with_state, with_step, too_many}
use Rattle.si_sg.specs.Section.{state_fault, count_fault, chain_fault, arcs_fault, arcs_with, is_end}
use Rattle.si_sg.specs.StateWords.{is_no_word, is_state_byte, is_state_word}
use Rattle.si_sg.specs.Loops.KnownArcs.{SpellsEvent, IsKnownArc}
use Rattle.si_sg.specs.Loops.Reads.{AreStates, StandsAt}
use Rattle.si_sg.proofs.ArcLemmas.{stepped, step_is}
use Rattle.si_sg.proofs.EdgeLineLemmas.{event_good}
use Rattle.si_sg.proofs.NameLemmas.{state_none}
use Rattle.si_sg.proofs.WordLemmas.{event_word, word_part}

-- ---- a line of which no word has a bad byte, a brace or `#` has none

-- a byte of such a line
abbrev is_line_byte : ℕ → Bool
is_line_byte b = is_blank b || is_word_byte b

abbrev AreLineBytes : List ℕ → Type 0
AreLineBytes bytes = AllByRecursion (λ b. is_line_byte b ≡ true) bytes

-- words of such bytes
abbrev HaveWordBytes : List (List ℕ) → Type 0
HaveWordBytes words = AllByRecursion (λ word. list_all is_word_byte word ≡ true) words

either : (x y : Bool) → (x || y) ≡ true → (x ≡ true) ⊎ (y ≡ true)
either true y is = inl refl
either false y is = inr is

word_line_byte : (b : ℕ) → is_word_byte b ≡ true → is_line_byte b ≡ true
word_line_byte b good = elim (cases_Bool (is_blank b)) [
  | inl blank ↦ rw blank refl
  | inr other ↦ rw (other, good) refl
]

-- a byte that was put in front of a word, and the words behind it
put_parts : (b : ℕ) (words : List (List ℕ)) → HaveWordBytes (put_first b words)
    → (is_word_byte b ≡ true) × HaveWordBytes words
put_parts b [] have = ((and_parts (is_word_byte b) true have.0).0, tt)
put_parts b (word ∷ words) have =
    let parts = and_parts (is_word_byte b) (list_all is_word_byte word) have.0 in
    (parts.0, (parts.1, have.1))

line_bytes : (bytes : List ℕ) → HaveWordBytes (words_in false bytes) → AreLineBytes bytes
line_bytes [] have = tt
line_bytes (b ∷ bytes) have = elim (cases_Bool (is_blank b)) [
  | inl blank ↦ (rw blank refl, line_bytes bytes (rw blank at have))
  | inr other ↦ elim (cases_Bool (begins (is_plain false) bytes)) [
    | inl goes ↦
        let parts = put_parts b (words_in false bytes) (rw (other, goes) at have) in
        (word_line_byte b parts.0, line_bytes bytes parts.1)
    | inr ends ↦
        let parts : HaveWordBytes ((b ∷ []) ∷ words_in false bytes) = rw (other, ends) at have in
        (word_line_byte b (and_parts (is_word_byte b) true parts.0).0, line_bytes bytes parts.1)
  ]
]

not_bad : (b : ℕ) → is_line_byte b ≡ true → is_bad b ≡ false
not_bad b good = elim (either (is_blank b) (is_word_byte b) good) [
  | inl blank ↦ elim (either (b == 32 || b == 9) (b == 13) blank) [
    | inl early ↦ elim (either (b == 32) (b == 9) early) [
      | inl space ↦ ap is_bad (eqb-true b 32 space)
      | inr tab ↦ ap is_bad (eqb-true b 9 tab)
    ]
    | inr end ↦ ap is_bad (eqb-true b 13 end)
  ]
  | inr word ↦ (bytes_in_line (b ∷ []) (rw word refl)).0.2
]

in_line : (bytes : List ℕ) → AreLineBytes bytes → AreInLine bytes
in_line [] are = tt
in_line (b ∷ bytes) are = (
  (excludes is_line_byte 10 b refl are.0, excludes is_line_byte 35 b refl are.0, not_bad b are.0),
  in_line bytes are.1,
)

-- braces make no difference where there is none
same_plain : (b : ℕ) → is_line_byte b ≡ true → is_plain true b ≡ is_plain false b
same_plain b good = rw (excludes is_line_byte 123 b refl good, excludes is_line_byte 125 b refl good) refl

same_begin : (bytes : List ℕ) → AreLineBytes bytes → begins (is_plain true) bytes ≡ begins (is_plain false) bytes
same_begin [] are = refl
same_begin (b ∷ bytes) are = same_plain b are.0

same_words : (bytes : List ℕ) → AreLineBytes bytes → words_in true bytes ≡ words_in false bytes
same_words [] are = refl
same_words (b ∷ bytes) are = rw (same_plain b are.0, same_begin bytes are.1, same_words bytes are.1) refl

-- such a line has no bad byte, and its words are those that are found without a look for braces and `#`
pub clean_line : (line : List ℕ) (ws : List (List ℕ)) → words_in false line ≡ ws → AreWords ws
    → (has_bad_byte line ≡ false) × (words line ≡ ws)
clean_line line ws found are =
    let bytes : AreLineBytes line = line_bytes line (rw found (have_bytes ws are)) in (
      no_bad_byte line (in_line line bytes),
      ap (words_in true) (no_comment line (in_line line bytes)) ∙ same_words line bytes ∙ found,
    )
  where
    have_bytes : (words : List (List ℕ)) → AreWords words → HaveWordBytes words
    have_bytes [] all = tt
    have_bytes ([] ∷ words) all = (refl, have_bytes words all.1)
    have_bytes ((b ∷ word) ∷ words) all = (all.0, have_bytes words all.1)

-- ---- the words of states and events

place_stands : (names : List (List ℕ)) (word : List ℕ) (k : ℕ) → StandsAt names word k → stands_in names word ≡ true
place_stands names word k at =
    let first = position-Some (λ n. bytes_eq word n) names k [] at in
    list_any_at (λ n. bytes_eq word n) names k [] first.0 first.1

-- a word of a state has bytes of such words alone, and begins without `.`
state_parts : (word : List ℕ) → is_state_word word ≡ true
    → (list_all is_state_byte word ≡ true) × (begins_with_dot word ≡ false)
state_parts word good =
    let some : Bool = not (is_no_word word) in
    let bytes : Bool = list_all is_state_byte word in
    let plain : Bool = not (begins_with_dot word) in
    let three = (and_parts (some && bytes && plain) (not (bytes_eq (codes "down") word)) good).0 in
    let two = and_parts (some && bytes) plain three in
    ((and_parts some bytes two.0).1, not-true (begins_with_dot word) two.1)

pub state_is_word : (word : List ℕ) → is_state_word word ≡ true → IsWord word
state_is_word [] good = cc
state_is_word (b ∷ word) good = word_part (b ∷ word) (state_parts (b ∷ word) good).0

pub known_word : (signals : List (List ℕ)) (name : List ℕ) (b : ℕ) (up : Bool) (place : ℕ)
    → is_signal_name name ≡ true → b ≡ sign up → position (λ n. bytes_eq name n) signals ≡ Some place
    → SpellsEvent signals (name ++ b ∷ []) (record { sig = place; up = up })
known_word signals name b up place named is at =
    let stands : stands_in signals name ≡ true = place_stands signals name place at in
    let good = event_good signals name up named stands in
    let place_is : place_in signals name ≡ place = ap (λ (o : Option ℕ). unwrap_or o 0) at in
    rw is record {
      no_fault = good.0;
      is = ap (λ (z : ℕ). let e : Event = record { sig = z; up = up } in e) (sym place_is) ∙ sym good.1;
      clean = event_word name up named;
    }

-- ---- the line of a known arc

alone : (fault : Option TextKind) → (fault otherwise None) ≡ fault
alone (Some kind) = refl
alone None = refl

-- a line of one arc, where its source is there already
module _ (signals : List (List ℕ)) (x y : Section) (s e t : List ℕ) (stays : with_state x s ≡ x)
    (step : with_step signals x s e t ≡ y) where
  arc_fault : state_fault x.states s ≡ None → event_fault signals e ≡ None → state_fault x.states t ≡ None
      → arcs_fault signals x s (e ∷ t ∷ []) ≡ count_fault y
  arc_fault source event target =
      let here : chain_fault signals x s (e ∷ t ∷ []) ≡ count_fault y =
      rw (event, target) (ap (λ (z : Section). count_fault z otherwise None) step ∙ alone (count_fault y)) in
      rw source (ap (λ (z : Section). chain_fault signals z s (e ∷ t ∷ [])) stays ∙ here)

  arc_value : arcs_with signals x s (e ∷ t ∷ []) ≡ y
  arc_value = ap (λ (z : Section). with_step signals z s e t) stays ∙ step

module _ (signals : List (List ℕ)) (x : Section) (line : List ℕ) (a : Arc) (are : AreStates x.states)
    (known : IsKnownArc signals x.states line a) where
  stays : (word : List ℕ) (k : ℕ) → StandsAt x.states word k → x.states ≡ with_name x.states word
  stays word k at = rw (place_stands x.states word k at) refl

  abbrev pub more : Section
  more = record { states = x.states; arcs = with_arc x.arcs a; marks = x.marks }

  step : with_step signals x known.source known.event known.target ≡ more
  step = step_is signals x a.from known.source known.event known.target known.from
      ∙ sym (stepped signals x a.from known.event known.target x.states (with_arc x.arcs a) a.sig a.to a.up
      (stays known.target a.to known.to) known.to (ap (λ (e : Event). e.sig) known.spelled.is)
      (ap (λ (e : Event). e.up) known.spelled.is) refl)

  source_stays : with_state x known.source ≡ x
  source_stays = ap (λ (states : List (List ℕ)). let y : Section =
      record { states = states; arcs = x.arcs; marks = x.marks } in y) (sym (stays known.source a.from known.from))

  no_state_fault : (word : List ℕ) (k : ℕ) → is_state_word word ≡ true → StandsAt x.states word k
      → state_fault x.states word ≡ None
  no_state_fault word k good at = state_none x.states x.states word good (stays word k at) are.few

  head : head_of known.source ≡ Plain
  head = rw (state_parts known.source known.from_state).1 refl

  pub known_fault : section_line_fault signals x line ≡ too_many (with_arc x.arcs a)
  known_fault = rw (known.clean, known.words_are, head) (
      arc_fault signals x more known.source known.event known.target source_stays step
      (no_state_fault known.source a.from known.from_state known.from) known.spelled.no_fault
      (no_state_fault known.target a.to known.to_state known.to))

  pub known_value : (n : ℕ) → section_line_with signals x (n, line) ≡ more
  known_value n = rw (known.words_are, head)
      (arc_value signals x more known.source known.event known.target source_stays step)
