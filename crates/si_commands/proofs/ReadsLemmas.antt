-- One file, two and three, by their names and their texts.
use Rattle.std.proofs.Common.{◌≡◌, ℕ, ◌+◌, ◌-◌, ◌<◌, ◌≤◌, List, [], ◌∷◌, ◌++◌, length, take, drop, get_or, sym}
use Rattle.std.proofs.Common.{ap, ◌∙◌, Bor, Vec, Global, add-one, arith}
use Rattle.std.proofs.Math.ListN.{get_or-map}
use Rattle.std.proofs.Math.Seq.{take-suc}
use Rattle.std.proofs.lemmas.List.{take-append-drop, take_all, length-map}
use Rattle.si_words.specs.Loops.Reads.{words_now}
use Rattle.si_commands.proofs.FormLemmas.{IsCount, at_place}
use Rattle.si_commands.specs.Loops.Reads.{texts_now}

-- what a read past the end of a list of names gives
abbrev pub no_name : Bor (List ℕ)
no_name = record { ref_ptr = (0, 0); now = [] }

one_name : (files : List (Bor (List ℕ))) → length files ≡ 1
    → words_now files ≡ (get_or files 0 no_name).now ∷ []
one_name [] many = absurd (omega (arith, many))
one_name (a ∷ []) many = cc
one_name (a ∷ b ∷ files) many = absurd (omega (arith, many))

two_names : (files : List (Bor (List ℕ))) → length files ≡ 2
    → words_now files ≡ (get_or files 0 no_name).now ∷ (get_or files 1 no_name).now ∷ []
two_names [] many = absurd (omega (arith, many))
two_names (a ∷ []) many = absurd (omega (arith, many))
two_names (a ∷ b ∷ []) many = cc
two_names (a ∷ b ∷ c ∷ files) many = absurd (omega (arith, many))

three_names : (files : List (Bor (List ℕ))) → length files ≡ 3
    → words_now files
    ≡ (get_or files 0 no_name).now ∷ (get_or files 1 no_name).now ∷ (get_or files 2 no_name).now ∷ []
three_names [] many = absurd (omega (arith, many))
three_names (a ∷ []) many = absurd (omega (arith, many))
three_names (a ∷ b ∷ []) many = absurd (omega (arith, many))
three_names (a ∷ b ∷ c ∷ []) many = cc
three_names (a ∷ b ∷ c ∷ d ∷ files) many = absurd (omega (arith, many))

one_text : (texts : List (Vec ℕ Global)) (a : Vec ℕ Global) (x : List ℕ) → length texts ≡ 1
    → a ≡ get_or texts 0 a → x ≡ a.items → texts_now texts ≡ x ∷ []
one_text [] a x many is same = absurd (omega (arith, many))
one_text (t ∷ []) a x many is same = cc
one_text (t ∷ u ∷ texts) a x many is same = absurd (omega (arith, many))

two_texts : (texts : List (Vec ℕ Global)) (a b : Vec ℕ Global) (x y : List ℕ) → length texts ≡ 2
    → a ≡ get_or texts 0 a → b ≡ get_or texts 1 b → x ≡ a.items → y ≡ b.items → texts_now texts ≡ x ∷ y ∷ []
two_texts [] a b x y many is at same also = absurd (omega (arith, many))
two_texts (t ∷ []) a b x y many is at same also = absurd (omega (arith, many))
two_texts (t ∷ u ∷ []) a b x y many is at same also = cc
two_texts (t ∷ u ∷ v ∷ texts) a b x y many is at same also = absurd (omega (arith, many))

three_texts : (texts : List (Vec ℕ Global)) (a b c : Vec ℕ Global) (x y z : List ℕ) → length texts ≡ 3
    → a ≡ get_or texts 0 a → b ≡ get_or texts 1 b → c ≡ get_or texts 2 c → x ≡ a.items → y ≡ b.items
    → z ≡ c.items → texts_now texts ≡ x ∷ y ∷ z ∷ []
three_texts [] a b c x y z many is at third same also last = absurd (omega (arith, many))
three_texts (t ∷ []) a b c x y z many is at third same also last = absurd (omega (arith, many))
three_texts (t ∷ u ∷ []) a b c x y z many is at third same also last = absurd (omega (arith, many))
three_texts (t ∷ u ∷ v ∷ []) a b c x y z many is at third same also last = cc
three_texts (t ∷ u ∷ v ∷ w ∷ texts) a b c x y z many is at third same also last = absurd (omega (arith, many))

-- names and texts, where there are as many of these as of those
pub read_one : (files : List (Bor (List ℕ))) (texts : List (Vec ℕ Global)) (a : Vec ℕ Global) (x : List ℕ)
    → IsCount 1 0 (length files) → length texts ≡ length files → a ≡ get_or texts 0 a → x ≡ a.items
    → (words_now files ≡ (get_or files 0 no_name).now ∷ []) × (texts_now texts ≡ x ∷ [])
read_one files texts a x count each is same =
    let many : length files ≡ 1 = omega (arith, count.low, count.high) in
    (one_name files many, one_text texts a x (each ∙ many) is same)

-- the words that a place leaves to choose are one
pub read_choice : (choices : List (Bor (List ℕ))) → IsCount 1 0 (length choices)
    → words_now choices ≡ (get_or choices 0 no_name).now ∷ []
read_choice choices count =
    let many : length choices ≡ 1 = omega (arith, count.low, count.high) in
    one_name choices many

-- the first of them, and the others
pub read_name : (choices : List (Bor (List ℕ))) → 1 ≤ length choices
    → words_now choices ≡ (get_or choices 0 no_name).now ∷ words_now (take (length choices - 1) (drop 1 choices))
read_name [] some = absurd (omega (arith, some))
read_name (a ∷ choices) some =
    let all : take (length (a ∷ choices) - 1) choices ≡ choices =
    take_all (length (a ∷ choices) - 1) choices (omega arith) in
    ap (λ (others : List (Bor (List ℕ))). a.now ∷ words_now others) (sym all)

pub read_two : (files : List (Bor (List ℕ))) (texts : List (Vec ℕ Global)) (a b : Vec ℕ Global) (x y : List ℕ)
    → IsCount 2 0 (length files) → length texts ≡ length files → a ≡ get_or texts 0 a → b ≡ get_or texts 1 b
    → x ≡ a.items → y ≡ b.items
    → (words_now files ≡ (get_or files 0 no_name).now ∷ (get_or files 1 no_name).now ∷ [])
    × (texts_now texts ≡ x ∷ y ∷ [])
read_two files texts a b x y count each is at same also =
    let many : length files ≡ 2 = omega (arith, count.low, count.high) in
    (two_names files many, two_texts texts a b x y (each ∙ many) is at same also)

pub read_three : (files : List (Bor (List ℕ))) (texts : List (Vec ℕ Global)) (a b c : Vec ℕ Global)
    (x y z : List ℕ) → IsCount 3 0 (length files) → length texts ≡ length files
    → a ≡ get_or texts 0 a → b ≡ get_or texts 1 b → c ≡ get_or texts 2 c → x ≡ a.items → y ≡ b.items
    → z ≡ c.items
    → (words_now files
    ≡ (get_or files 0 no_name).now ∷ (get_or files 1 no_name).now ∷ (get_or files 2 no_name).now ∷ [])
    × (texts_now texts ≡ x ∷ y ∷ z ∷ [])
read_three files texts a b c x y z count each is at third same also last =
    let many : length files ≡ 3 = omega (arith, count.low, count.high) in
    (three_names files many, three_texts texts a b c x y z (each ∙ many) is at third same also last)

-- ---- names up to a place, at it and after it
pub cut_at : (files : List (Bor (List ℕ))) (place : ℕ) → place < length files
    → words_now files ≡ take place (words_now files)
    ++ (get_or files place no_name).now ∷ drop (place + 1) (words_now files)
cut_at files place below =
    sym (take-append-drop place (words_now files))
    ∙ ap (λ (later : List (List ℕ)). take place (words_now files) ++ later)
    (at_place (λ name. name.now) files place no_name below)

pub one_more_name : (files : List (Bor (List ℕ))) (place : ℕ) → place < length files
    → take (place + 1) (words_now files) ≡ take place (words_now files) ++ (get_or files place no_name).now ∷ []
one_more_name files place below =
    let many = length-map files (λ name. name.now) in
    let within : place < length (words_now files) = omega (arith, many, below) in
    rw (add-one place, sym (get_or-map (λ name. name.now) files place no_name))
    (take-suc (words_now files) place [] within)
