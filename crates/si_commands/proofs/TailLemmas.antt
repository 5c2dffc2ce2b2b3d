-- What stands behind the places of a form.
use Rattle.std.proofs.Common.{◌≡◌, ◌≢◌, ℕ, ◌+◌, ◌<◌, ◌≤◌, List, [], ◌∷◌, ◌++◌, length, drop, refl, sym, ap}
use Rattle.std.proofs.Common.{◌∙◌, arith, append-nil, Bool, true, false, bytes_eq, String, string_bytes, Global}
use Rattle.std.proofs.Common.{add-one}
use Rattle.std.proofs.Common.{take, get_or, ap₂, Bor, ◌-◌, ◌%◌, nat_eq}
use Rattle.std.proofs.Common.{Result, Ok, Err, Option, Some, None, IfOk, MatchOption}
use Rattle.std.proofs.lemmas.Bool.{eq-eqb}
use Rattle.std.proofs.lemmas.Bool.Decides.{nat_tests}
use Rattle.std.proofs.Math.ListN.{drop_of_length-le}
use Rattle.std.proofs.lemmas.List.{length-drop}
use Rattle.si_words.specs.Loops.Reads.{words_now}
use Rattle.si_commands.proofs.FormLemmas.{at_place, word_at, words_behind}
use Rattle.std.specs.Bool.{◌==◌}
use Rattle.std.proofs.Math.ListN.{get_or-map}
use Rattle.std.proofs.Math.Seq.{take-suc}
use Rattle.std.proofs.lemmas.List.{length-map}
use Rattle.si_commands.specs.Form.{words_of}
use Rattle.si_commands.specs.Loops.Reads.{slot_now, slots_now}
use Rattle.si_commands.specs.declared.form.Slot.{Slot as HeldSlot}
use Rattle.si_commands.specs.Form.{Slot, Tail, Nothing, MoreFiles, MorePairs, Options, HasParts, are_some}
use Rattle.si_commands.specs.Loops.Filled.{Completes, IsFilled}

-- ---- options are taken one after another
pub none_given : (options : List (List ℕ)) → are_some options [] ≡ true
none_given [] = refl
none_given (option ∷ options) = refl

pub option_taken : (option : List ℕ) (options : List (List ℕ)) (word : List ℕ) (words : List (List ℕ))
    → bytes_eq word option ≡ true → are_some (option ∷ options) (word ∷ words) ≡ are_some options words
option_taken option options word words is = rw is refl

pub option_skipped : (option : List ℕ) (options : List (List ℕ)) (word : List ℕ) (words : List (List ℕ))
    → bytes_eq word option ≡ false → are_some (option ∷ options) (word ∷ words) ≡ are_some options (word ∷ words)
option_skipped option options word words is = rw is refl

-- ---- words that may stand there
pub nothing_left : (left files choices : List (List ℕ)) → left ≡ [] → Completes Nothing left files choices files choices
nothing_left left files choices none = record {
  more_files = [];
  more_choices = [];
  files_are = sym (append-nil files);
  choices_are = sym (append-nil choices);
  has = (none, tt);
}

pub files_left : (most : ℕ) (left files choices all : List (List ℕ)) → length left ≤ most → all ≡ files ++ left
    → Completes (MoreFiles most) left files choices all choices
files_left most left files choices all few are = record {
  more_files = left;
  more_choices = [];
  files_are = are;
  choices_are = sym (append-nil choices);
  has = (refl, few);
}

pub pairs_left : (most : ℕ) (left files choices all : List (List ℕ)) → length left ≤ most → length left % 2 ≡ 0
    → all ≡ files ++ left → Completes (MorePairs most) left files choices all choices
pairs_left most left files choices all few even are = record {
  more_files = left;
  more_choices = [];
  files_are = are;
  choices_are = sym (append-nil choices);
  has = (refl, (few, even));
}

pub options_left : (options left files choices all : List (List ℕ)) → are_some options left ≡ true
    → all ≡ choices ++ left → Completes (Options options) left files choices files all
options_left options left files choices all some are = record {
  more_files = [];
  more_choices = left;
  files_are = sym (append-nil files);
  choices_are = are;
  has = (refl, some);
}

-- ---- behind all places
module _ (places : List Slot) (tail : Tail) (words files choices left : List (List ℕ)) (place : ℕ)
    (filled : IsFilled places tail words files choices place) (no_place : drop place places ≡ [])
    (are_left : drop place words ≡ left) where
  pub none_completes : ((more_files more_choices : List (List ℕ)) → HasParts [] tail left more_files more_choices → ⊥)
      → (all_files all_choices : List (List ℕ)) → HasParts places tail words all_files all_choices → ⊥
  none_completes none all_files all_choices has =
      let later = filled.later all_files all_choices has in
      none later.files_left later.choices_left (rw (no_place, are_left) at later.has)

  pub completed : (all_files all_choices : List (List ℕ)) → Completes tail left files choices all_files all_choices
      → HasParts places tail words all_files all_choices
  completed all_files all_choices more =
      let there : HasParts (drop place places) tail (drop place words) more.more_files more.more_choices =
      rw (no_place, are_left) more.has in
      rw (more.files_are, more.choices_are) (filled.with_later more.more_files more.more_choices there)

-- ---- words of a line, as the code holds them
pub some_words : (words : List (String Global)) → false ≡ (length words == 0) → words_of words ≢ []
some_words [] some none = cc
some_words (word ∷ words) some none = cc

pub no_words : (words : List (String Global)) → true ≡ (length words == 0) → words_of words ≡ []
no_words [] none = refl
no_words (word ∷ words) none = absurd (grind (arith, nat_tests))

pub one_more_word : (words : List (String Global)) (place : ℕ) (word : String Global) (bytes : List ℕ)
    → place < length words → word ≡ get_or words place word → bytes ≡ string_bytes word
    → take (place + 1) (words_of words) ≡ take place (words_of words) ++ bytes ∷ []
one_more_word words place word bytes below is same =
    let many = length-map words (λ w. string_bytes w) in
    let within : place < length (words_of words) = omega (arith, many, below) in
    let item : get_or (words_of words) place (string_bytes word) ≡ bytes =
    get_or-map (λ w. string_bytes w) words place word ∙ ap (λ w. string_bytes w) (sym is) ∙ sym same in
    rw (add-one place) (take-suc (words_of words) place (string_bytes word) within
    ∙ ap (λ (b : List ℕ). take place (words_of words) ++ b ∷ []) item)

-- ---- the options before a place were taken or skipped: the words that are left have to be some of those left
abbrev pub AreLeft : (options : List (Bor (List ℕ))) (words : List (String Global)) (place taken : ℕ) → Type 0
AreLeft options words place taken =
    are_some (words_now options) (words_of words)
    ≡ are_some (drop place (words_now options)) (drop taken (words_of words))

module _ (options : List (Bor (List ℕ))) (words : List (String Global)) (place taken : ℕ) (past : Bor (List ℕ))
    (below : place < length options) (left : AreLeft options words place taken) where
  abbrev own : List ℕ
  own = (get_or options place past).now

  abbrev later : List (List ℕ)
  later = drop (place + 1) (words_now options)

  here : drop place (words_now options) ≡ own ∷ later
  here = at_place (λ option. option.now) options place past below

  pub next_taken : (word : String Global) (bytes : List ℕ) (same : Bool) → taken < length words
      → word ≡ get_or words taken word → bytes ≡ string_bytes word → same ≡ bytes_eq bytes own → same ≡ true
      → AreLeft options words (place + 1) (taken + 1)
  next_taken word bytes same within is text tests yes_same =
      let others = drop (taken + 1) (words_of words) in
      left ∙ ap₂ (λ (os ws : List (List ℕ)). are_some os ws) here (word_at words taken word bytes within is text)
      ∙ option_taken own later bytes others (sym tests ∙ yes_same)

  pub next_skipped : (word : String Global) (bytes : List ℕ) (same : Bool) → taken < length words
      → word ≡ get_or words taken word → bytes ≡ string_bytes word → same ≡ bytes_eq bytes own → same ≡ false
      → AreLeft options words (place + 1) taken
  next_skipped word bytes same within is text tests no_same =
      let others = drop (taken + 1) (words_of words) in
      let at = word_at words taken word bytes within is text in
      left ∙ ap₂ (λ (os ws : List (List ℕ)). are_some os ws) here at
      ∙ option_skipped own later bytes others (sym tests ∙ no_same)
      ∙ ap (λ (ws : List (List ℕ)). are_some later ws) (sym at)

  pub no_word_left : length words ≤ taken → AreLeft options words (place + 1) taken
  no_word_left end =
      let many = length-map words (λ w. string_bytes w) in
      let none : drop taken (words_of words) ≡ [] = drop_of_length-le (words_of words) (omega (arith, many, end)) in
      left ∙ ap (λ (ws : List (List ℕ)). are_some (drop place (words_now options)) ws) none
      ∙ none_given (drop place (words_now options)) ∙ sym (none_given later)
      ∙ ap (λ (ws : List (List ℕ)). are_some later ws) (sym none)

none_or_some : (left : List (List ℕ)) (taken many : ℕ) → length left ≡ many - taken → taken ≤ many
    → nat_eq taken many ≡ are_some [] left
none_or_some [] taken many is within = (let same : taken ≡ many = omega arith in eq-eqb taken many same)
none_or_some (word ∷ left) taken many is within =
    let fewer : taken < many = omega (arith, is, within) in
    grind (arith, nat_tests)

pub all_options_passed : (options : List (Bor (List ℕ))) (words : List (String Global)) (place taken : ℕ)
    → length options ≤ place → taken ≤ length words → AreLeft options words place taken
    → nat_eq taken (length words) ≡ are_some (words_now options) (words_of words)
all_options_passed options words place taken end within left =
    let many = length-map words (λ w. string_bytes w) in
    let as_many = length-map options (λ option. option.now) in
    let none : drop place (words_now options) ≡ [] =
    drop_of_length-le (words_now options) (omega (arith, as_many, end)) in
    let count : length (drop taken (words_of words)) ≡ length words - taken =
    length-drop taken (words_of words) ∙ ap (λ (n : ℕ). n - taken) many in
    none_or_some (drop taken (words_of words)) taken (length words) count within
    ∙ ap (λ (os : List (List ℕ)). are_some os (drop taken (words_of words))) (sym none) ∙ sym left

no_place : (held : List HeldSlot) → drop (length held) (slots_now held) ≡ []
no_place held =
    let many = length-map held slot_now in
    drop_of_length-le (slots_now held) (omega (arith, many))

-- ---- the whole line, as the code reads it
pub read_whole : {Found E : Type 0} (names picks : Found → List (List ℕ)) (held : List HeldSlot) (tail : Tail)
    (words : List (String Global)) (files choices : List (List ℕ)) (r : Result (Option Found) E)
    → IsFilled (slots_now held) tail (words_of words) files choices (length held)
    → IfOk r (λ found. MatchOption found
    ((fs cs : List (List ℕ)) → HasParts [] tail (words_of (take (length words - length held) (drop (length held) words))) fs cs → ⊥)
    (λ all. Completes tail (words_of (take (length words - length held) (drop (length held) words))) files choices (names all) (picks all)))
    → IfOk r (λ found. MatchOption found
    ((fs cs : List (List ℕ)) → HasParts (slots_now held) tail (words_of words) fs cs → ⊥)
    (λ all. HasParts (slots_now held) tail (words_of words) (names all) (picks all)))
read_whole names picks held tail words files choices (Err e) filled is = tt
read_whole names picks held tail words files choices (Ok None) filled is =
    none_completes (slots_now held) tail (words_of words) files choices _ (length held) filled (no_place held)
    (sym (words_behind words (length held))) is
read_whole names picks held tail words files choices (Ok (Some all)) filled is =
    completed (slots_now held) tail (words_of words) files choices _ (length held) filled (no_place held)
    (sym (words_behind words (length held))) (names all) (picks all) is
