-- The states that a text without fault gives have state names: each is a word of an arc line that passed the test.
use Rattle.std.proofs.Common.{◌≡◌, ◌≢◌, ℕ, ◌<◌, not, ◌&&◌, Bool, true, List, [], ◌∷◌, length, get_or, All}
use Rattle.std.proofs.Common.{sym, ap, ◌∙◌, arith, inl, inr, None, bytes_eq, codes}
use Rattle.std.specs.List.{AllByRecursion, list_all, slice_index_or}
use Rattle.std.proofs.lemmas.Bool.{and_parts, cases_Bool, true≢false}
use Rattle.std.proofs.lemmas.List.Elements.{All-from_recursion, All-map}
use Rattle.std.proofs.lemmas.Slice.Eq.{bytes_eq-Decides}
use Rattle.si_base.specs.Bytes.{dot}
use Rattle.si_base.specs.Faults.{when}
use Rattle.si_base.specs.GivenGraph.{Sg as SgValue}
use Rattle.si_base.specs.Lines.{Line, has_bad_byte, numbered}
use Rattle.si_base.specs.Words.{IsStateName}
use Rattle.si_base.specs.declared.fault.TextKind.TheVariants as kind
use Rattle.si_words.specs.Events.{event_fault}
use Rattle.si_words.specs.Names.{stands_in}
use Rattle.si_sg.specs.declared.heads.Head.{Head}
use Rattle.si_sg.specs.declared.heads.Head.TheVariants.{Model, Inputs, Outputs, Internals, Dummy, State, Marking, End}
use Rattle.si_sg.specs.declared.heads.Head.TheVariants.{Directive, Plain}
use Rattle.si_sg.specs.GivenGraph.{IsGivenBy}
use Rattle.si_sg.specs.GraphText.{words, section_line_fault, section_line_with, section_lines_fault, section_says}
use Rattle.si_words.specs.Ends.{after_last}
use Rattle.si_words.proofs.FaultLemmas.{line_none, both}
use Rattle.si_sg.specs.GraphText.{after_header, header_of, section_of}
use Rattle.si_sg.specs.Header.{no_header, declared}
use Rattle.si_sg.specs.Heads.{begins_with_dot, head_of}
use Rattle.si_sg.specs.Loops.Reads.{AreSignals}
use Rattle.si_sg.specs.Section.{Section, no_section, with_name, with_state, with_step, state_fault, count_fault}
use Rattle.si_sg.specs.Section.{chain_fault, chain_with, is_even, section_fault, section_with}
use Rattle.si_sg.specs.Section.{section_words_fault, section_words_with, is_end}
use Rattle.si_sg.specs.StateWords.{is_state_byte, is_no_word, is_state_word}
use Rattle.si_sg.proofs.GivenExists.{header_good}
use Rattle.si_sg.proofs.GivenLemmas.{kept_within}
use Rattle.si_sg.proofs.SectionLemmas.{all_push, not_when}

-- ---- a word that passes the test of state words

some_byte : (w : List ℕ) → not (is_no_word w) ≡ true → 0 < length w
some_byte [] some = absurd (true≢false (sym some))
some_byte (b ∷ bs) some = omega arith

no_dot_first : (w : List ℕ) → not (begins_with_dot w) ≡ true → (rest : List ℕ) → w ≢ dot ∷ rest
no_dot_first w plain rest same = true≢false (sym plain ∙ ap (λ (v : List ℕ). not (begins_with_dot v)) same)

other_than_down : (w : List ℕ) → not (bytes_eq (codes "down") w) ≡ true → w ≢ codes "down"
other_than_down w other same = true≢false (sym other ∙ ap not ((bytes_eq-Decides (codes "down") w).1 (sym same)))

state_name : (w : List ℕ) → is_state_word w ≡ true → IsStateName w
state_name w is =
    let bytes : Bool = not (is_no_word w) && list_all is_state_byte w in
    let plain : Bool = bytes && not (begins_with_dot w) in
    let last = and_parts plain (not (bytes_eq (codes "down") w)) is in
    let second = and_parts bytes (not (begins_with_dot w)) last.0 in
    let first = and_parts (not (is_no_word w)) (list_all is_state_byte w) second.0 in
    record {
      bytes = first.1;
      some = some_byte w first.0;
      no_dot = no_dot_first w second.1;
      not_down = other_than_down w last.1;
    }

state_named : (states : List (List ℕ)) (w : List ℕ) → state_fault states w ≡ None → IsStateName w
state_named states w none =
    state_name w (not_when (is_state_word w) kind.BadArcLine
    (both (when (not (is_state_word w)) kind.BadArcLine) _ none).0)

-- ---- the arc section

abbrev AreNamed : Section → Type 0
AreNamed x = AllByRecursion IsStateName x.states

name_added : (names : List (List ℕ)) (n : List ℕ) → AllByRecursion IsStateName names → IsStateName n
    → AllByRecursion IsStateName (with_name names n)
name_added names n all is = elim (cases_Bool (stands_in names n))
    [ inl there ↦ rw there all | inr new ↦ rw new (all_push IsStateName names n all is) ]

chain_named : (signals : List (List ℕ)) (x : Section) (s : List ℕ) (ws : List (List ℕ)) → AreNamed x
    → chain_fault signals x s ws ≡ None → AreNamed (chain_with signals x s ws)
chain_named signals x s [] all none = all
chain_named signals x s (e ∷ []) all none = all
chain_named signals x s (e ∷ t ∷ ws) all none =
    let first = both (event_fault signals e) _ none in
    let second = both (state_fault x.states t) _ first.1 in
    let third = both (count_fault (with_step signals x s e t)) _ second.1 in
    chain_named signals (with_step signals x s e t) t ws
    (name_added x.states t all (state_named x.states t second.0)) third.1

line_named : (signals : List (List ℕ)) (x : Section) (n : ℕ) (head : Head) (w : List ℕ) (ws : List (List ℕ))
    → AreNamed x → section_fault signals x head w ws ≡ None → AreNamed (section_with signals x n head w ws)
line_named signals x n Plain w ws all none =
    let first = both (when (not (is_even ws)) kind.BadArcLine) _ none in
    let second = both (state_fault x.states w) _ first.1 in
    chain_named signals (with_state x w) w ws (name_added x.states w all (state_named x.states w second.0)) second.1
line_named signals x n Marking w ws all none = all
line_named signals x n End w ws all none = all
line_named signals x n Model w ws all none = all
line_named signals x n Inputs w ws all none = all
line_named signals x n Outputs w ws all none = all
line_named signals x n Internals w ws all none = all
line_named signals x n Dummy w ws all none = all
line_named signals x n State w ws all none = all
line_named signals x n Directive w ws all none = all

words_named : (signals : List (List ℕ)) (x : Section) (n : ℕ) (ws : List (List ℕ)) → AreNamed x
    → section_words_fault signals x ws ≡ None → AreNamed (section_words_with signals x n ws)
words_named signals x n [] all none = all
words_named signals x n (w ∷ ws) all none = line_named signals x n (head_of w) w ws all none

lines_named : (last : ℕ) (signals : List (List ℕ)) (x : Section) (lines : List Line) → AreNamed x
    → section_lines_fault last signals x lines ≡ None → AreNamed (section_says signals x lines)
lines_named last signals x [] all none = all
lines_named last signals x (line ∷ lines) all none =
    let parts = line_none line.0 (section_line_fault signals x line.1) _ none in
    let good = both (when (has_bad_byte line.1) kind.BadByte)
    (section_words_fault signals x (words line.1)) parts.0 in
    let next : AreNamed (section_line_with signals x line) = words_named signals x line.0 (words line.1) all good.1 in
    elim (cases_Bool (is_end (words line.1))) [
      | inl end ↦ rw end next
      | inr more ↦ rw more (lines_named last signals (section_line_with signals x line) lines next
          (rw more at parts.1))
    ]

-- ---- the given graph

pub given_states : (text : List ℕ) (sg : SgValue) → IsGivenBy text sg → All IsStateName sg.states
given_states text sg is =
    let nothing : AreSignals (declared no_header) = record { apart = tt; few = omega arith } in
    let header = header_good (after_last text) no_header (numbered text) nothing is.no_fault in
    let names : List (List ℕ) = (section_of text).states in
    let named : AreNamed (section_of text) = lines_named (after_last text) (declared (header_of text)) no_section
    (after_header (numbered text)) tt header.section in
    let every = All-from_recursion IsStateName names named in
    let cut = is.is.given in
    let within = kept_within is.is.whole sg.graph cut.kept (length names) is.is.spelled.graph cut.cut
    is.is.spelled.states_are in
    let name : ℕ → List ℕ = λ s. slice_index_or names s [] in
    rw cut.states_are (All-map IsStateName name cut.kept
    (λ i d small. every (get_or cut.kept i d) [] (within i d small)))
