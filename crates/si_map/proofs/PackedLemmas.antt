-- Packed classes: how words grow, and that different classes have different words.
use Rattle.std.proofs.Common.{◌≡◌, ℕ, ◌+◌, ◌*◌, ◌<◌, ◌≤◌, List, [], ◌∷◌, ◌++◌, get_or, length, map, reverse, take}
use Rattle.std.proofs.Common.{refl, sym, ap, ◌∙◌, arith, drop, zero, suc}
use Rattle.std.specs.List.{flat_map}
use Rattle.std.proofs.lemmas.List.{reverse-append, reverse-reverse, take_more}
use Rattle.si_insert.specs.declared.partition.Class.{Class}
use Rattle.si_insert.specs.declared.partition.Class.TheVariants.{Low, Rising, High, Falling}
use Rattle.si_map.specs.Loops.Packed.{digit, word_of, ArePacked, ArePacking}

-- ---- how words grow
pub none_packed : (words : List ℕ) → words ≡ [] → ArePacking [] words 1
none_packed words none = record {
  last = [];
  full = [];
  joined = refl;
  coded = ap reverse (sym none);
  here = refl;
}

last_first : {A : Type 0} (xs : List A) (x : A) → x ∷ reverse xs ≡ reverse (xs ++ x ∷ [])
last_first xs x = sym (reverse-append xs (x ∷ []))

module _ (classes : List Class) (words : List ℕ) (word : ℕ) (are : ArePacking classes words word) where
  more_coded : map word_of (are.last ∷ are.full) ≡ reverse (words ++ word ∷ [])
  more_coded = (λ i. are.here i ∷ are.coded i) ∙ last_first words word

  -- a word that is full is put behind the others
  pub next_word : ArePacking classes (words ++ word ∷ []) 1
  next_word = record {
    last = [];
    full = are.last ∷ are.full;
    joined = are.joined;
    coded = more_coded;
    here = refl;
  }

  pub all_packed : ArePacked classes (words ++ word ∷ [])
  all_packed = record { parts = are.last ∷ are.full; joined = are.joined; coded = more_coded }

pub next_class : (classes : List Class) (k : ℕ) (d : Class) (words : List ℕ) (word : ℕ) → k < length classes
    → ArePacking (take k classes) words word
    → ArePacking (take (k + 1) classes) words (4 * word + digit (get_or classes k d))
next_class classes k d words word within are = record {
  last = class ∷ are.last;
  full = are.full;
  joined = (λ i. class ∷ are.joined i) ∙ last_first (take k classes) class
      ∙ sym (ap reverse (take_more classes k d within));
  coded = are.coded;
  here = ap (λ w. 4 * w + digit class) are.here;
}
  where
    class : Class
    class = get_or classes k d

-- ---- different classes have different words
abbrev class_at : ℕ → Class
class_at zero = Low
class_at (suc zero) = Rising
class_at (suc (suc zero)) = High
class_at (suc (suc (suc n))) = Falling

class_again : (c : Class) → class_at (digit c) ≡ c
class_again Low = refl
class_again Rising = refl
class_again High = refl
class_again Falling = refl

digit_small : (c : Class) → digit c < 4
digit_small Low = omega arith
digit_small Rising = omega arith
digit_small High = omega arith
digit_small Falling = omega arith

some_bit : (cs : List Class) → 1 ≤ word_of cs
some_bit [] = omega arith
some_bit (c ∷ cs) = let more = some_bit cs in omega (arith, more)

one_part : (cs ds : List Class) → word_of cs ≡ word_of ds → cs ≡ ds
one_part [] [] same = refl
one_part [] (d ∷ ds) same = let more = some_bit ds in absurd (omega (arith, same, more))
one_part (c ∷ cs) [] same = let more = some_bit cs in absurd (omega (arith, same, more))
one_part (c ∷ cs) (d ∷ ds) same =
    let rest : word_of cs ≡ word_of ds = omega (arith, same, digit_small c, digit_small d) in
    let digits : digit c ≡ digit d = omega (arith, same, digit_small c, digit_small d) in
    let first : c ≡ d = sym (class_again c) ∙ ap class_at digits ∙ class_again d in
    let others = one_part cs ds rest in λ i. first i ∷ others i

one_list : (ps qs : List (List Class)) → map word_of ps ≡ map word_of qs → ps ≡ qs
one_list [] [] same = refl
one_list [] (q ∷ qs) same = let count = ap length same in absurd (omega (arith, count))
one_list (p ∷ ps) [] same = let count = ap length same in absurd (omega (arith, count))
one_list (p ∷ ps) (q ∷ qs) same =
    let first = one_part p q (ap (λ (ws : List ℕ). get_or ws 0 0) same) in
    let others = one_list ps qs (ap (drop 1) same) in λ i. first i ∷ others i

pub one_packed : (cs ds : List Class) (words : List ℕ) → ArePacked cs words → ArePacked ds words → cs ≡ ds
one_packed cs ds words one other = sym (reverse-reverse cs) ∙ ap reverse turned ∙ reverse-reverse ds
  where
    turned : reverse cs ≡ reverse ds
    turned = sym one.joined ∙ ap (flat_map (λ p. p)) (one_list one.parts other.parts (one.coded ∙ sym other.coded))
        ∙ other.joined
