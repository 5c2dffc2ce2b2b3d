-- The forms of the names that a text without fault gives: the model's name, the signals', and their kinds.
use Rattle.std.proofs.Common.{◌≡◌, ℕ, ◌≤◌, ◌==◌, ◌&&◌, ◌||◌, ◌⊎◌, not, Bool, true, false, List, [], ◌∷◌, ◌++◌}
use Rattle.std.proofs.Common.{refl, sym, subst, ◌∙◌, arith, inl, inr, eqb-true, eq-eqb, nat_lt, None, All}
use Rattle.std.proofs.Common.{IsTrue}
use Rattle.std.proofs.Common.{if◌then◌else◌}
use Rattle.std.specs.List.{AllByRecursion, list_all, list_any}
use Rattle.std.proofs.lemmas.Bool.{and_parts, and_from, cases_Bool, cases_lt, lt-ltb, le-leb, or_cases, true≢false}
use Rattle.std.proofs.lemmas.Bool.{or_parts}
use Rattle.std.proofs.lemmas.List.Elements.{All-from_recursion}
use Rattle.std.proofs.lemmas.List.Sums.{take_while-cons}
use Rattle.si_base.specs.declared.graph.Signal.{Signal}
use Rattle.si_base.specs.declared.graph.SigKind.{SigKind}
use Rattle.si_base.specs.declared.graph.SigKind.TheVariants.{Input, Output, Internal}
use Rattle.si_base.specs.declared.fault.TextKind.TheVariants as kind
use Rattle.si_base.specs.Faults.{when, first_after}
use Rattle.si_base.specs.GivenGraph.{Sg as SgValue, signals_of}
use Rattle.si_base.specs.Limits.{max_signals}
use Rattle.si_base.specs.Lines.{Line, words_in, put_first, begins, is_blank, is_brace, is_bad, is_plain, numbered}
use Rattle.si_base.specs.Lines.{before_comment, has_bad_byte}
use Rattle.si_base.specs.System.{is_inserted}
use Rattle.si_base.specs.Words.{is_between, is_word_byte, is_signal_name, is_model_name}
use Rattle.si_words.specs.Names.{name_fault}
use Rattle.si_sg.specs.declared.heads.Head.{Head}
use Rattle.si_sg.specs.declared.heads.Head.TheVariants.{Model, Inputs, Outputs, Internals, Dummy, State, Marking, End}
use Rattle.si_sg.specs.declared.heads.Head.TheVariants.{Directive, Plain}
use Rattle.si_sg.specs.GivenGraph.{IsGivenBy, model_in, signals_in}
use Rattle.si_sg.specs.GraphText.{words, header_line_fault, header_line_with, header_lines_fault, header_says}
use Rattle.si_sg.specs.GraphText.{header_of}
use Rattle.si_words.specs.Ends.{after_last}
use Rattle.si_words.proofs.FaultLemmas.{line_none, both}
use Rattle.si_sg.specs.Header.{Header, no_header, declared, header_fault, header_with, header_words_fault}
use Rattle.si_sg.specs.Header.{header_words_with}
use Rattle.si_sg.specs.Header.{is_state_graph}
use Rattle.si_sg.specs.Heads.{head_of}
use Rattle.si_sg.specs.StateWords.{is_brace_word, is_one_name}
use Rattle.si_sg.proofs.HeaderLemmas.{some_none}

-- ---- the words of a line

chosen : {A : Type 0} (P : A → Type 0) (c : Bool) (x y : A) → (c ≡ true → P x) → (c ≡ false → P y)
    → P (if c then x else y)
chosen P true x y first second = first refl
chosen P false x y first second = second refl

-- a byte of a line without bad bytes, before its comment
abbrev IsFair : ℕ → Type 0
IsFair b = (is_bad b ≡ false) × ((b == 35) ≡ false)

-- it is no control byte, where it is no blank
no_control : (b : ℕ) (blank tab return : Bool) → tab ≡ false → return ≡ false
    → (nat_lt b 32 && not tab && not return) ≡ false → 32 ≤ b
no_control b blank true return no_tab no_return none = absurd (true≢false no_tab)
no_control b blank false true no_tab no_return none = absurd (true≢false no_return)
no_control b blank false false no_tab no_return none = elim (cases_lt b 32) [
  | inl less ↦ absurd (true≢false (sym (rw (lt-ltb b 32 less) refl) ∙ none))
  | inr most ↦ most
]

visible : (b : ℕ) → is_bad b ≡ false → is_blank b ≡ false → is_between 33 126 b ≡ true
visible b fair dark =
    let bad = or_parts (nat_lt b 32 && not (b == 9) && not (b == 13)) (nat_lt 126 b) fair in
    let blanks = or_parts (b == 32 || b == 9) (b == 13) dark in
    let blank = or_parts (b == 32) (b == 9) blanks.0 in
    let least : 32 ≤ b = no_control b false (b == 9) (b == 13) blank.1 blanks.1 bad.0 in
    let other : b ≡ 32 → ⊥ = λ same. true≢false (sym (eq-eqb b 32 same) ∙ blank.0) in
    let most : b ≤ 126 = elim (cases_lt 126 b) [
      | inl more ↦ absurd (true≢false (sym (lt-ltb 126 b more) ∙ bad.1))
      | inr most ↦ most
    ] in
    let above : 33 ≤ b = elim (cases_lt 32 b) [
      | inl more ↦ omega (arith, more)
      | inr same ↦ absurd (other (omega (arith, least, same)))
    ] in
    and_from _ _ (le-leb 33 b above) (le-leb b 126 most)

word_byte : (b : ℕ) → IsFair b → is_blank b ≡ false → is_brace b ≡ false → is_word_byte b ≡ true
word_byte b fair dark plain =
    let braces = or_parts (b == 123) (b == 125) plain in
    rw (visible b fair.0 dark, fair.1, braces.0, braces.1) refl

-- a word is a brace, or has the form of a model's name
abbrev IsBraceOrName : List ℕ → Type 0
IsBraceOrName w = (is_brace_word w ≡ true) ⊎ (is_model_name w ≡ true)

abbrev IsFirstName : List (List ℕ) → Type 0
IsFirstName [] = ⊥
IsFirstName (w ∷ ws) = is_model_name w ≡ true

-- the words of these bytes, of which the first is no brace where the bytes begin with none
abbrev AreWords : List ℕ → List (List ℕ) → Type 0
AreWords bs ws = AllByRecursion IsBraceOrName ws × (begins (is_plain true) bs ≡ true → IsFirstName ws)

longer : (b : ℕ) (ws : List (List ℕ)) → is_word_byte b ≡ true → IsFirstName ws → AllByRecursion IsBraceOrName ws
    → AllByRecursion IsBraceOrName (put_first b ws) × IsFirstName (put_first b ws)
longer b [] byte first all = absurd first
longer b ([] ∷ ws) byte first all = absurd (true≢false (sym first))
longer b ((c ∷ w) ∷ ws) byte first all =
    let name : is_model_name (b ∷ c ∷ w) ≡ true = and_from (is_word_byte b)
    (list_all is_word_byte (c ∷ w)) byte first in
    ((inr name, all.1), name)

brace_alone : (b : ℕ) → is_brace b ≡ true → is_brace_word (b ∷ []) ≡ true
brace_alone b is = elim (or_cases (b == 123) (b == 125) is) [
  | inl opens ↦ rw (eqb-true b 123 opens) refl
  | inr closes ↦ rw (eqb-true b 125 closes) refl
]

no_brace_first : (brace blank : Bool) → brace ≡ true → (not blank && not (true && brace)) ≡ true → ⊥
no_brace_first true true is plain = true≢false (sym plain)
no_brace_first true false is plain = true≢false (sym plain)
no_brace_first false blank is plain = true≢false (sym is)

no_blank_first : (blank rest : Bool) → blank ≡ true → (not blank && rest) ≡ true → ⊥
no_blank_first true rest is plain = true≢false (sym plain)
no_blank_first false rest is plain = true≢false (sym is)

plain_parts : (brace blank : Bool) → (not blank && not (true && brace)) ≡ true → brace ≡ false
plain_parts true true plain = absurd (true≢false (sym plain))
plain_parts true false plain = absurd (true≢false (sym plain))
plain_parts false blank plain = refl

pub words_named : (bs : List ℕ) → AllByRecursion IsFair bs → AreWords bs (words_in true bs)
words_named [] fair = (tt, λ none. absurd (true≢false (sym none)))
words_named (b ∷ bs) fair =
    let rest = words_named bs fair.1 in
    let ws : List (List ℕ) = words_in true bs in
    chosen (AreWords (b ∷ bs)) (is_blank b) ws _
    (λ blank. (rest.0, λ plain. absurd (no_blank_first (is_blank b) _ blank plain)))
    (λ dark. chosen (AreWords (b ∷ bs)) (is_plain true b && begins (is_plain true) bs) (put_first b ws)
    ((b ∷ []) ∷ ws)
    (λ both. joined dark rest (and_parts (is_plain true b) (begins (is_plain true) bs) both))
    (λ alone. apart dark rest))
  where
    joined : is_blank b ≡ false → AreWords bs (words_in true bs)
        → (is_plain true b ≡ true) × (begins (is_plain true) bs ≡ true)
        → AreWords (b ∷ bs) (put_first b (words_in true bs))
    joined dark rest both =
        let byte = word_byte b fair.0 dark (plain_parts (is_brace b) (is_blank b) both.0) in
        let put = longer b (words_in true bs) byte (rest.1 both.1) rest.0 in
        (put.0, λ plain. put.1)

    apart : is_blank b ≡ false → AreWords bs (words_in true bs) → AreWords (b ∷ bs) ((b ∷ []) ∷ words_in true bs)
    apart dark rest = elim (cases_Bool (is_brace b)) [
      | inl brace ↦ (
        (inl (brace_alone b brace), rest.0),
        λ plain. absurd (no_brace_first (is_brace b) (is_blank b) brace plain),
      )
      | inr other ↦ (
          let name : is_model_name (b ∷ []) ≡ true = and_from (is_word_byte b) true
          (word_byte b fair.0 dark other) refl in
          ((inr name, rest.0), λ plain. name)
          )
    ]

-- ---- a line without bad bytes

abbrev NoHash : List ℕ → Type 0
NoHash bs = AllByRecursion (λ b. (b == 35) ≡ false) bs

before_hash : (bs : List ℕ) → NoHash (before_comment bs)
before_hash [] = tt
before_hash (b ∷ bs) = elim (cases_Bool (b == 35)) [
  | inl hash ↦ (
      let ends : before_comment (b ∷ bs) ≡ [] = take_while-cons (λ c. not (c == 35)) b bs ∙ rw hash refl in
      subst NoHash (sym ends) tt
      )
  | inr other ↦ (
      let goes : before_comment (b ∷ bs) ≡ b ∷ before_comment bs =
      take_while-cons (λ c. not (c == 35)) b bs ∙ rw other refl in
      subst NoHash (sym goes) (other, before_hash bs)
      )
]

fair_bytes : (bs : List ℕ) → list_any is_bad bs ≡ false → NoHash bs → AllByRecursion IsFair bs
fair_bytes [] none all = tt
fair_bytes (b ∷ bs) none all = (let parts = or_parts (is_bad b) (list_any is_bad bs) none in
    ((parts.0, all.0), fair_bytes bs parts.1 all.1))

line_words_named : (line : List ℕ) → has_bad_byte line ≡ false → AllByRecursion IsBraceOrName (words line)
line_words_named line fair = (words_named (before_comment line)
    (fair_bytes (before_comment line) fair (before_hash line))).0

-- ---- the header

abbrev IsModelName : List ℕ → Type 0
IsModelName m = is_model_name m ≡ true

abbrev IsSignalName : List ℕ → Type 0
IsSignalName n = is_signal_name n ≡ true

-- the names that the lines of the header say have their forms
pub record IsNamed (h : Header) : Type 0 where
  pub models : AllByRecursion IsModelName h.models
  pub inputs : AllByRecursion IsSignalName h.inputs
  pub outputs : AllByRecursion IsSignalName h.outputs
  pub internals : AllByRecursion IsSignalName h.internals

all_of_both : (P : List ℕ → Type 0) (xs ys : List (List ℕ)) → AllByRecursion P xs → AllByRecursion P ys
    → AllByRecursion P (xs ++ ys)
all_of_both P [] ys one other = other
all_of_both P (x ∷ xs) ys one other = (one.0, all_of_both P xs ys one.1 other)

name_form : (names : List (List ℕ)) (w : List ℕ) → name_fault max_signals names w ≡ None → IsSignalName w
name_form names w none = elim (cases_Bool (is_signal_name w)) [
  | inl good ↦ good
  | inr bad ↦ absurd (some_none (rw bad at none))
]

names_form : (names ws : List (List ℕ)) → first_after (name_fault max_signals) names ws ≡ None
    → AllByRecursion IsSignalName ws
names_form names [] none = tt
names_form names (w ∷ ws) none =
    let parts = both (name_fault max_signals names w)
    (first_after (name_fault max_signals) (names ++ w ∷ []) ws) none in
    (name_form names w parts.0, names_form (names ++ w ∷ []) ws parts.1)

one_model : (ws : List (List ℕ)) → AllByRecursion IsBraceOrName ws → is_one_name ws ≡ true
    → AllByRecursion IsModelName ws
one_model [] all is = tt
one_model (w ∷ []) all is = (
  elim all.0 [
    | inl brace ↦ absurd (true≢false (sym (rw brace at (and_parts (not (is_brace_word w)) true is).0)))
    | inr name ↦ name
  ],
  tt,
)
one_model (w ∷ v ∷ ws) all is = absurd (true≢false (sym (and_parts (not (is_brace_word w)) false is).1))

model_form : (h : Header) (ws : List (List ℕ)) → AllByRecursion IsBraceOrName ws → header_fault h Model ws ≡ None
    → AllByRecursion IsModelName ws
model_form h ws all none = elim (cases_Bool (is_one_name ws)) [
  | inl one ↦ one_model ws all one
  | inr other ↦ absurd (some_none (rw other at none))
]

-- a line without fault keeps that
with_words_named : (h : Header) (head : Head) (ws : List (List ℕ)) → AllByRecursion IsBraceOrName ws
    → header_fault h head ws ≡ None → IsNamed h → IsNamed (header_with h head ws)
with_words_named h Model ws all none is = record {
  models = all_of_both IsModelName h.models ws is.models
      (model_form h ws all none);
  inputs = is.inputs;
  outputs = is.outputs;
  internals = is.internals;
}
with_words_named h Inputs ws all none is = record {
  models = is.models;
  inputs = all_of_both IsSignalName h.inputs ws is.inputs (names_form (declared h) ws none);
  outputs =
      is.outputs;
  internals = is.internals;
}
with_words_named h Outputs ws all none is = record {
  models = is.models;
  inputs = is.inputs;
  outputs = all_of_both IsSignalName h.outputs ws is.outputs (names_form (declared h) ws none);
  internals =
      is.internals;
}
with_words_named h Internals ws all none is = record {
  models = is.models;
  inputs = is.inputs;
  outputs = is.outputs;
  internals = all_of_both IsSignalName h.internals ws is.internals (names_form (declared h) ws none);
}
with_words_named h Dummy ws all none is = is
with_words_named h State ws all none is = is
with_words_named h Marking ws all none is = is
with_words_named h End ws all none is = is
with_words_named h Directive ws all none is = is
with_words_named h Plain ws all none is = is

of_words : (h : Header) (ws : List (List ℕ)) → AllByRecursion IsBraceOrName ws → header_words_fault h ws ≡ None
    → IsNamed h → IsNamed (header_words_with h ws)
of_words h [] all none is = is
of_words h (w ∷ ws) all none is = with_words_named h (head_of w) ws all.1 none is

with_line_named : (h : Header) (line : Line) → header_line_fault h line.1 ≡ None → IsNamed h
    → IsNamed (header_line_with h line)
with_line_named h line none is =
    let parts = both (when (has_bad_byte line.1) kind.BadByte) (header_words_fault h (words line.1)) none in
    of_words h (words line.1) (line_words_named line.1 (fair parts.0)) parts.1 is
  where
    fair : when (has_bad_byte line.1) kind.BadByte ≡ None → has_bad_byte line.1 ≡ false
    fair none = elim (cases_Bool (has_bad_byte line.1)) [
      | inl bad ↦ absurd (some_none (rw bad at none))
      | inr good ↦ good
    ]

header_named : (last : ℕ) (h : Header) (lines : List Line) → header_lines_fault last h lines ≡ None → IsNamed h
    → IsNamed (header_says h lines)
header_named last h [] none is = is
header_named last h (line ∷ lines) none is =
    let parts = line_none line.0 (header_line_fault h line.1) _ none in
    let next : IsNamed (header_line_with h line) = with_line_named h line parts.0 is in
    elim (cases_Bool (is_state_graph (words line.1))) [
      | inl end ↦ rw end next
      | inr more ↦ rw more (header_named last (header_line_with h line) lines (rw more at parts.1) next)
    ]

-- ---- the given graph

abbrev IsGivenSignal : Signal → Type 0
IsGivenSignal x = IsTrue (is_signal_name x.name) × (is_inserted x.kind ≡ false)

of_kind : (kind : SigKind) (names : List (List ℕ)) → is_inserted kind ≡ false → AllByRecursion IsSignalName names
    → AllByRecursion IsGivenSignal (signals_of kind names)
of_kind kind [] given all = tt
of_kind kind (n ∷ names) given all = ((all.0, given), of_kind kind names given all.1)

both_lists : (xs ys : List Signal) → AllByRecursion IsGivenSignal xs → AllByRecursion IsGivenSignal ys
    → AllByRecursion IsGivenSignal (xs ++ ys)
both_lists [] ys one other = other
both_lists (x ∷ xs) ys one other = (one.0, both_lists xs ys one.1 other)

model_named : (models : List (List ℕ)) → AllByRecursion IsModelName models → IsTrue (is_model_name (model_in models))
model_named [] all = refl
model_named (m ∷ models) all = all.0

-- what a text gives has a model name, and signals with signal names, none of them inserted
pub record IsGivenNamed (sg : SgValue) : Type 0 where
  pub model : IsTrue (is_model_name sg.model)
  pub names : All (λ x. IsTrue (is_signal_name x.name)) sg.graph.signals
  pub given : All (λ x. is_inserted x.kind ≡ false) sg.graph.signals

pub given_named : (text : List ℕ) (sg : SgValue) → IsGivenBy text sg → IsGivenNamed sg
given_named text sg is =
    let none : IsNamed no_header = record { models = tt; inputs = tt; outputs = tt; internals = tt } in
    let h : Header = header_of text in
    let named : IsNamed h = header_named (after_last text) no_header (numbered text) is.no_fault none in
    let ins = of_kind Input h.inputs refl named.inputs in
    let outs = of_kind Output h.outputs refl named.outputs in
    let ints = of_kind Internal h.internals refl named.internals in
    let all = both_lists _ _ (both_lists _ _ ins outs) ints in
    let signals : sg.graph.signals ≡ signals_in h = is.is.given.cut.signals_stay ∙ is.is.spelled.signals_are in
    let every = All-from_recursion IsGivenSignal (signals_in h) all in
    record {
      model = rw is.is.given.model_is (model_named h.models named.models);
      names = rw signals (λ k d within. (every k d within).0);
      given = rw signals (λ k d within. (every k d within).1);
    }
