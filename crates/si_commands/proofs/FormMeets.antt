-- Whether some words may have both of two forms, and that words are read in one way by one form.
use Rattle.std.proofs.Common.{◌≡◌, ◌≢◌, ℕ, List, [], ◌∷◌, refl, sym, ap, subst, codes}
use Rattle.std.proofs.Common.{◌∙◌, ◌⊎◌, inl, inr, Bool, true, false, ◌||◌, not, bytes_eq}
use Rattle.std.proofs.lemmas.Slice.Eq.{bytes_eq-Decides}
use Rattle.std.specs.List.{list_any}
use Rattle.si_base.specs.Words.{is_signal_name}
use Rattle.si_words.specs.Names.{stands_in}
use Rattle.si_commands.specs.Form.{Form, Slot, Word, File, LoneFile, LibraryFile, OneOf, Name, Tail, Nothing}
use Rattle.si_commands.specs.Form.{MoreFiles, MorePairs, Options}
use Rattle.si_commands.specs.Form.{HasForm, HasParts, are_some}
use Rattle.si_commands.proofs.FormLemmas.{Stands, with_file, with_choice, begins, not_without_words}

-- ---- the test

-- one word may stand in both places; it may be the last, where no place follows either
abbrev pub meets : (last : Bool) → Slot → Slot → Bool
meets last (Word x) (Word y) = bytes_eq x y
meets last (Word x) (LoneFile name) = not (bytes_eq x (codes "--help"))
meets last (LoneFile name) (Word y) = not (bytes_eq y (codes "--help"))
meets last (Word x) (LibraryFile name kept) = last || not (stands_in kept x)
meets last (LibraryFile name kept) (Word y) = last || not (stands_in kept y)
meets last (Word x) (OneOf name words) = stands_in words x
meets last (OneOf name words) (Word y) = stands_in words y
meets last (OneOf name words) (OneOf other others) = list_any (λ w. stands_in others w) words
meets last (Word x) (Name name) = is_signal_name x
meets last (Name name) (Word y) = is_signal_name y
meets last slot other = true

-- a word behind all places may stand in this one
abbrev may_follow : Tail → Slot → Bool
may_follow Nothing slot = false
may_follow (MoreFiles most) slot = true
may_follow (MorePairs most) slot = true
may_follow (Options options) slot = list_any (λ option. meets true (Word option) slot) options

abbrev none_follow : (places others : List Slot) → Bool
none_follow [] [] = true
none_follow places others = false

abbrev overlap_at : (places : List Slot) → Tail → (others : List Slot) → Tail → Bool
overlap_at [] tail [] other = true
overlap_at [] tail (slot ∷ others) other = may_follow tail slot
overlap_at (slot ∷ places) tail [] other = may_follow other slot
overlap_at (slot ∷ places) tail (place ∷ others) other =
    elim (meets (none_follow places others) slot place) [ true ↦ overlap_at places tail others other | false ↦ false ]

abbrev pub overlaps : Form → Form → Bool
overlaps form other = overlap_at form.places form.tail other.places other.tail

-- ---- words in both of two places
or_left : (a b : Bool) → a ≡ true → (a || b) ≡ true
or_left true b holds = refl
or_left false b holds = cc

or_right : (a b : Bool) → b ≡ true → (a || b) ≡ true
or_right true b holds = refl
or_right false b holds = holds

both_true : (a b : Bool) → a ≡ true → b ≡ true → elim a [ true ↦ b | false ↦ false ] ≡ true
both_true true b one two = two
both_true false b one two = one

-- one of the words passes a test that a word among them passes
one_passes : (p : List ℕ → Bool) (words : List (List ℕ)) (word : List ℕ) → stands_in words word ≡ true
    → p word ≡ true → list_any p words ≡ true
one_passes p [] word stands passes = cc
one_passes p (own ∷ words) word stands passes = first (bytes_eq word own) refl (one_passes p words word)
  where
    first : (b : Bool) → bytes_eq word own ≡ b
        → (stands_in words word ≡ true → p word ≡ true → list_any p words ≡ true) → (p own || list_any p words) ≡ true
    first true is later =
        let same : word ≡ own = (bytes_eq-Decides word own).0 is in
        or_left (p own) _ (subst (λ (w : List ℕ). p w ≡ true) same passes)
    first false is later = or_right (p own) _ (later (rw is at stands) passes)

not_equal : (word other : List ℕ) → word ≢ other → not (bytes_eq word other) ≡ true
not_equal word other differ = by (bytes_eq word other) refl
  where
    by : (b : Bool) → bytes_eq word other ≡ b → not b ≡ true
    by true is = absurd (differ ((bytes_eq-Decides word other).0 is))
    by false is = refl

library_meets : (last : Bool) (own word : List ℕ) (kept words : List (List ℕ)) → word ≡ own
    → (stands_in kept word ≡ false) ⊎ (words ≡ []) → (words ≡ [] → last ≡ true)
    → (last || not (stands_in kept own)) ≡ true
library_meets last own word kept words is (inl other) ends =
    or_right last _ (ap not (ap (λ (w : List ℕ). stands_in kept w) (sym is) ∙ other))
library_meets last own word kept words is (inr none) ends = or_left last _ (ends none)

both_meet : (last : Bool) (slot other : Slot) (word : List ℕ) (words : List (List ℕ)) → Stands slot word words
    → Stands other word words → (words ≡ [] → last ≡ true) → meets last slot other ≡ true
both_meet last (Word a) (Word b) word words one two ends = (bytes_eq-Decides a b).1 (sym one ∙ two)
both_meet last (Word a) (File name) word words one two ends = refl
both_meet last (Word a) (LoneFile name) word words one two ends =
    not_equal a (codes "--help") (λ same. two (one ∙ same))
both_meet last (Word a) (LibraryFile name kept) word words one two ends =
    library_meets last a word kept words one two ends
both_meet last (Word a) (OneOf name own) word words one two ends = rw (sym one) two
both_meet last (Word a) (Name name) word words one two ends = rw (sym one) two
both_meet last (File name) other word words one two ends = refl
both_meet last (LoneFile name) (Word b) word words one two ends =
    not_equal b (codes "--help") (λ same. one (two ∙ same))
both_meet last (LoneFile name) (File other) word words one two ends = refl
both_meet last (LoneFile name) (LoneFile other) word words one two ends = refl
both_meet last (LoneFile name) (LibraryFile other kept) word words one two ends = refl
both_meet last (LoneFile name) (OneOf other own) word words one two ends = refl
both_meet last (LoneFile name) (Name other) word words one two ends = refl
both_meet last (LibraryFile name kept) (Word b) word words one two ends =
    library_meets last b word kept words two one ends
both_meet last (LibraryFile name kept) (File other) word words one two ends = refl
both_meet last (LibraryFile name kept) (LoneFile other) word words one two ends = refl
both_meet last (LibraryFile name kept) (LibraryFile other others) word words one two ends = refl
both_meet last (LibraryFile name kept) (OneOf other own) word words one two ends = refl
both_meet last (LibraryFile name kept) (Name other) word words one two ends = refl
both_meet last (OneOf name own) (Word b) word words one two ends = rw (sym two) one
both_meet last (OneOf name own) (File other) word words one two ends = refl
both_meet last (OneOf name own) (LoneFile other) word words one two ends = refl
both_meet last (OneOf name own) (LibraryFile other kept) word words one two ends = refl
both_meet last (OneOf name own) (OneOf other others) word words one two ends =
    one_passes (λ w. stands_in others w) own word one two
both_meet last (OneOf name own) (Name other) word words one two ends = refl
both_meet last (Name name) (Word b) word words one two ends = rw (sym two) one
both_meet last (Name name) (File other) word words one two ends = refl
both_meet last (Name name) (LoneFile other) word words one two ends = refl
both_meet last (Name name) (LibraryFile other kept) word words one two ends = refl
both_meet last (Name name) (OneOf other others) word words one two ends = refl
both_meet last (Name name) (Name other) word words one two ends = refl

-- ---- a word behind all places of one form, and in a place of the other
first_listed : (options : List (List ℕ)) (word : List ℕ) (words : List (List ℕ))
    → are_some options (word ∷ words) ≡ true → stands_in options word ≡ true
first_listed [] word words some = cc
first_listed (option ∷ options) word words some =
    first (bytes_eq word option) refl (first_listed options word words)
  where
    first : (b : Bool) → bytes_eq word option ≡ b
        → (are_some options (word ∷ words) ≡ true → stands_in options word ≡ true)
        → (bytes_eq word option || stands_in options word) ≡ true
    first true is later = or_left (bytes_eq word option) _ is
    first false is later = or_right (bytes_eq word option) _ (later (rw is at some))

follows : (tail : Tail) (slot : Slot) (word : List ℕ) (words files choices : List (List ℕ))
    → HasParts [] tail (word ∷ words) files choices → Stands slot word words → may_follow tail slot ≡ true
follows Nothing slot word words files choices has stands = (let none = has.0 in cc)
follows (MoreFiles most) slot word words files choices has stands = refl
follows (MorePairs most) slot word words files choices has stands = refl
follows (Options options) slot word words (file ∷ files) choices has stands = absurd has.1
follows (Options options) slot word words [] choices has stands =
    let some : are_some options (word ∷ words) ≡ true = rw has.0 has.1 in
    one_passes (λ option. meets true (Word option) slot) options word (first_listed options word words some)
    (both_meet true (Word word) slot word words refl stands (λ none. refl))

-- ---- words with both of two forms
no_places : (places : List Slot) (tail : Tail) (words files choices : List (List ℕ)) → words ≡ []
    → HasParts places tail words files choices → places ≡ []
no_places [] tail words files choices none has = refl
no_places (slot ∷ places) tail words files choices none has =
    absurd (not_without_words slot places tail files choices
    (subst (λ (ws : List (List ℕ)). HasParts (slot ∷ places) tail ws files choices) none has))

both_none : (places others : List Slot) → places ≡ [] → others ≡ [] → none_follow places others ≡ true
both_none [] [] one two = refl
both_none [] (slot ∷ others) one two = cc
both_none (slot ∷ places) others one two = cc

both_overlap_at : (places : List Slot) (tail : Tail) (others : List Slot) (other : Tail)
    (words files choices names picks : List (List ℕ)) → HasParts places tail words files choices
    → HasParts others other words names picks → overlap_at places tail others other ≡ true
both_overlap_at [] tail [] other words files choices names picks one two = refl
both_overlap_at [] tail (slot ∷ others) other [] files choices names picks one two =
    absurd (not_without_words slot others other names picks two)
both_overlap_at [] tail (slot ∷ others) other (word ∷ words) files choices names picks one two =
    follows tail slot word words files choices one (begins slot others other word words names picks two).stands
both_overlap_at (slot ∷ places) tail [] other [] files choices names picks one two =
    absurd (not_without_words slot places tail files choices one)
both_overlap_at (slot ∷ places) tail [] other (word ∷ words) files choices names picks one two =
    follows other slot word words names picks two (begins slot places tail word words files choices one).stands
both_overlap_at (slot ∷ places) tail (place ∷ others) other [] files choices names picks one two =
    absurd (not_without_words slot places tail files choices one)
both_overlap_at (slot ∷ places) tail (place ∷ others) other (word ∷ words) files choices names picks one two =
    let first = begins slot places tail word words files choices one in
    let second = begins place others other word words names picks two in
    let rest = both_overlap_at places tail others other words first.later_files first.later_choices second.later_files
    second.later_choices first.has second.has in
    let ends : words ≡ [] → none_follow places others ≡ true =
    λ none. both_none places others (no_places places tail words _ _ none first.has)
    (no_places others other words _ _ none second.has) in
    both_true (meets (none_follow places others) slot place) (overlap_at places tail others other)
    (both_meet (none_follow places others) slot place word words first.stands second.stands ends) rest

pub both_overlap : (form other : Form) (words files choices names picks : List (List ℕ))
    → HasForm form words files choices → HasForm other words names picks → overlaps form other ≡ true
both_overlap form other words files choices names picks one two =
    both_overlap_at form.places form.tail other.places other.tail words files choices names picks one two

-- ---- words name the files of one form in one way, and choose in one way
same_behind : (tail : Tail) (words files choices names picks : List (List ℕ)) → HasParts [] tail words files choices
    → HasParts [] tail words names picks → (files ≡ names) × (choices ≡ picks)
same_behind Nothing words [] [] [] [] one two = (refl, refl)
same_behind Nothing words [] [] [] (pick ∷ picks) one two = absurd two.1
same_behind Nothing words [] [] (name ∷ names) picks one two = absurd two.1
same_behind Nothing words [] (choice ∷ choices) names picks one two = absurd one.1
same_behind Nothing words (file ∷ files) choices names picks one two = absurd one.1
same_behind (MoreFiles most) words files [] names [] one two = (sym one.0 ∙ two.0, refl)
same_behind (MoreFiles most) words files [] names (pick ∷ picks) one two = absurd two.1
same_behind (MoreFiles most) words files (choice ∷ choices) names picks one two = absurd one.1
same_behind (MorePairs most) words files [] names [] one two = (sym one.0 ∙ two.0, refl)
same_behind (MorePairs most) words files [] names (pick ∷ picks) one two = absurd two.1
same_behind (MorePairs most) words files (choice ∷ choices) names picks one two = absurd one.1
same_behind (Options options) words [] choices [] picks one two = (refl, sym one.0 ∙ two.0)
same_behind (Options options) words [] choices (name ∷ names) picks one two = absurd two.1
same_behind (Options options) words (file ∷ files) choices names picks one two = absurd one.1

same_parts : (places : List Slot) (tail : Tail) (words files choices names picks : List (List ℕ))
    → HasParts places tail words files choices → HasParts places tail words names picks
    → (files ≡ names) × (choices ≡ picks)
same_parts [] tail words files choices names picks one two = same_behind tail words files choices names picks one two
same_parts (slot ∷ places) tail [] files choices names picks one two =
    absurd (not_without_words slot places tail files choices one)
same_parts (slot ∷ places) tail (word ∷ words) files choices names picks one two =
    let first = begins slot places tail word words files choices one in
    let second = begins slot places tail word words names picks two in
    let rest = same_parts places tail words first.later_files first.later_choices second.later_files
    second.later_choices first.has second.has in
    let file_of : List (List ℕ) → List (List ℕ) = λ files. with_file slot word files in
    let choice_of : List (List ℕ) → List (List ℕ) = λ choices. with_choice slot word choices in (
      first.files_are ∙ ap file_of rest.0 ∙ sym second.files_are,
      first.choices_are ∙ ap choice_of rest.1 ∙ sym second.choices_are,
    )

pub same_given : (form : Form) (words files choices names picks : List (List ℕ)) → HasForm form words files choices
    → HasForm form words names picks → (files ≡ names) × (choices ≡ picks)
same_given form words files choices names picks one two =
    same_parts form.places form.tail words files choices names picks one two
