-- The states that a text gives have distinct names: each is added once, and the cut keeps each once.
use Rattle.std.proofs.Common.{◌≡◌, ◌≢◌, ℕ, ◌<◌, false, List, [], ◌∷◌, ◌++◌, length, map, get_or, All, AllPairs}
use Rattle.std.proofs.Common.{refl, sym, ◌∙◌, arith, inl, inr, bytes_eq, nat_cmp}
use Rattle.std.proofs.lemmas.Bool.{cases_Bool, or_parts}
use Rattle.std.proofs.lemmas.List.{get_or-map, length-map}
use Rattle.std.proofs.lemmas.List.Folds.{list_any-append}
use Rattle.std.proofs.lemmas.List.Kept.{AllPairs-cons}
use Rattle.si_base.specs.GivenGraph.{Sg as SgValue}
use Rattle.si_base.specs.Lines.{Line, numbered}
use Rattle.si_base.proofs.OrderAscending.{sorted_at, nat_less}
use Rattle.si_words.specs.Names.{stands_in}
use Rattle.si_words.proofs.NameWords.{bytes_swap, other_names}
use Rattle.si_sg.specs.declared.heads.Head.{Head}
use Rattle.si_sg.specs.declared.heads.Head.TheVariants.{Model, Inputs, Outputs, Internals, Dummy, State, Marking, End}
use Rattle.si_sg.specs.declared.heads.Head.TheVariants.{Directive, Plain}
use Rattle.si_sg.specs.GivenGraph.{IsGivenBy}
use Rattle.si_sg.specs.GraphText.{words, section_line_with, section_says, after_header, header_of, section_of}
use Rattle.si_sg.specs.Header.{declared}
use Rattle.si_sg.specs.Heads.{head_of}
use Rattle.si_sg.specs.Loops.Reads.{Apart}
use Rattle.si_sg.specs.Section.{Section, no_section, with_name, with_state, with_step, chain_with, section_with}
use Rattle.si_sg.specs.Section.{section_words_with, is_end}
use Rattle.si_sg.proofs.GivenLemmas.{kept_within}

-- ---- one more name, where it doesn't stand there yet

apart_last : (xs : List (List ℕ)) (w : List ℕ) → Apart xs → stands_in xs w ≡ false → Apart (xs ++ w ∷ [])
apart_last [] w apart new = (new, apart)
apart_last (x ∷ xs) w apart new =
    let parts = or_parts (bytes_eq w x) (stands_in xs w) new in
    let other : bytes_eq x w ≡ false = bytes_swap w x parts.0 in
    let absent : stands_in (xs ++ w ∷ []) x ≡ false =
    list_any-append (λ m. bytes_eq x m) xs (w ∷ []) ∙ rw (apart.0, other) refl in
    (absent, apart_last xs w apart.1 parts.1)

name_apart : (names : List (List ℕ)) (n : List ℕ) → Apart names → Apart (with_name names n)
name_apart names n apart = elim (cases_Bool (stands_in names n))
    [ inl there ↦ rw there apart | inr new ↦ rw new (apart_last names n apart new) ]

-- ---- the arc section

chain_apart : (signals : List (List ℕ)) (x : Section) (s : List ℕ) (ws : List (List ℕ)) → Apart x.states
    → Apart (chain_with signals x s ws).states
chain_apart signals x s [] apart = apart
chain_apart signals x s (e ∷ []) apart = apart
chain_apart signals x s (e ∷ t ∷ ws) apart =
    chain_apart signals (with_step signals x s e t) t ws (name_apart x.states t apart)

line_apart : (signals : List (List ℕ)) (x : Section) (n : ℕ) (head : Head) (w : List ℕ) (ws : List (List ℕ))
    → Apart x.states → Apart (section_with signals x n head w ws).states
line_apart signals x n Plain w ws apart =
    chain_apart signals (with_state x w) w ws (name_apart x.states w apart)
line_apart signals x n Marking w ws apart = apart
line_apart signals x n End w ws apart = apart
line_apart signals x n Model w ws apart = apart
line_apart signals x n Inputs w ws apart = apart
line_apart signals x n Outputs w ws apart = apart
line_apart signals x n Internals w ws apart = apart
line_apart signals x n Dummy w ws apart = apart
line_apart signals x n State w ws apart = apart
line_apart signals x n Directive w ws apart = apart

words_apart : (signals : List (List ℕ)) (x : Section) (n : ℕ) (ws : List (List ℕ)) → Apart x.states
    → Apart (section_words_with signals x n ws).states
words_apart signals x n [] apart = apart
words_apart signals x n (w ∷ ws) apart = line_apart signals x n (head_of w) w ws apart

lines_apart : (signals : List (List ℕ)) (x : Section) (lines : List Line) → Apart x.states
    → Apart (section_says signals x lines).states
lines_apart signals x [] apart = apart
lines_apart signals x (line ∷ lines) apart =
    let next : Apart (section_line_with signals x line).states =
    words_apart signals x line.0 (words line.1) apart in
    elim (cases_Bool (is_end (words line.1))) [
      | inl end ↦ rw end next
      | inr more ↦ rw more (lines_apart signals (section_line_with signals x line) lines next)
    ]

-- ---- names that stand apart are distinct

no_pairs : AllPairs (λ (a b : List ℕ). a ≢ b) []
no_pairs i j d before within = absurd (omega arith)

pub apart_pairs : (names : List (List ℕ)) → Apart names → AllPairs (λ a b. a ≢ b) names
apart_pairs [] apart = no_pairs
apart_pairs (n ∷ names) apart = AllPairs-cons (λ (a b : List ℕ). a ≢ b) n names (other_names n names apart.0)
    (apart_pairs names apart.1)

-- ---- the given graph

pub given_apart : (text : List ℕ) (sg : SgValue) → IsGivenBy text sg → AllPairs (λ a b. a ≢ b) sg.states
given_apart text sg is =
    let names : List (List ℕ) = (section_of text).states in
    let apart : AllPairs (λ (a b : List ℕ). a ≢ b) names = apart_pairs names
    (lines_apart (declared (header_of text)) no_section (after_header (numbered text)) tt) in
    let cut = is.is.given in
    let inside : All (λ s. s < length names) cut.kept =
    kept_within is.is.whole sg.graph cut.kept (length names) is.is.spelled.graph cut.cut is.is.spelled.states_are in
    let name : ℕ → List ℕ = λ s. get_or names s [] in
    let long : length (map name cut.kept) ≡ length cut.kept = length-map cut.kept name in
    rw cut.states_are (λ i j d before within.
    let second : j < length cut.kept = omega (arith, long) in
    let first : i < length cut.kept = omega arith in
    let less = nat_less _ _ (sorted_at nat_cmp cut.kept cut.cut.in_order i j 0 before second) in
    λ same. apart (get_or cut.kept i 0) (get_or cut.kept j 0) [] less (inside j 0 second)
    (sym (get_or-map name cut.kept i 0 d first) ∙ same ∙ get_or-map name cut.kept j 0 d second))
