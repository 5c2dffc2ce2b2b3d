-- Words whose bit 0 is that of a set.
use Rattle.std.proofs.Common.{◌≡◌, ℕ, ◌+◌, ◌<◌, ◌≤◌, Bool, true, false, List, [], ◌∷◌, ◌++◌, length, get_or, take}
use Rattle.std.proofs.Common.{ap, ap₂, sym, ◌∙◌, refl}
use Rattle.std.proofs.lemmas.List.{map-append, take_more, take_all, length-map}
use mir.Val.{bool_byte}
use Rattle.si_base.specs.Bits.{bit}
use Rattle.si_closures.specs.Loops.WordSearch.{column}
use Rattle.si_divisor.specs.Targets.{forced_in}

own_bit : (b : Bool) → bit (bool_byte b) 0 ≡ b
own_bit true = refl
own_bit false = refl

pub one_word : (words : List ℕ) (set : List Bool) (s : ℕ) (b : Bool) (word : ℕ) → word ≡ bool_byte b
    → b ≡ get_or set s false → s < length set → column 0 words ≡ take s set
    → column 0 (words ++ word ∷ []) ≡ take (s + 1) set
one_word words set s b word is at below same =
    map-append (λ (w : ℕ). bit w 0) words (word ∷ [])
    ∙ ap₂ (λ (xs : List Bool) (x : Bool). xs ++ x ∷ []) same (ap (λ (w : ℕ). bit w 0) is ∙ own_bit b ∙ at)
    ∙ sym (take_more set s false below)

pub all_words : (words : List ℕ) (set : List Bool) (s : ℕ) → length set ≤ s → column 0 words ≡ take s set
    → column 0 words ≡ set
all_words words set s past same = same ∙ take_all s set past

-- there are as many as the set says of states
pub as_many : (words : List ℕ) (set : List Bool) (n : ℕ) → column 0 words ≡ set → length set ≡ n → length words ≡ n
as_many words set n same size = sym (length-map words (λ (w : ℕ). bit w 0)) ∙ ap length same ∙ size

-- what such words force is what the sets force
pub forced_alike : (up_words down_words rising falling : List ℕ) (up down : List Bool) → up_words ≡ rising
    → down_words ≡ falling → column 0 rising ≡ up → column 0 falling ≡ down
    → forced_in (column 0 up_words) (column 0 down_words) ≡ forced_in up down
forced_alike up_words down_words rising falling up down up_is down_is rises falls =
    ap₂ forced_in (ap (column 0) up_is ∙ rises) (ap (column 0) down_is ∙ falls)
