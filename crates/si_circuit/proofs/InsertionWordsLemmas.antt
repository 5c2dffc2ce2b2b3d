-- What the writers of insertions have still to add, a step at a time.
use Rattle.std.proofs.Common.{◌≡◌, ℕ, List, ◌∷◌, ◌++◌, drop}
use Rattle.std.proofs.Common.{append_assoc, codes, refl, sym, ap, ◌∙◌}
use Rattle.std.proofs.lemmas.Grind.{flat_map-append}
use Rattle.si_base.specs.Netlist.{Insertion}
use Rattle.si_words.specs.Loops.Writing.{spaced}
use Rattle.si_circuit.specs.InsertionWords.{all_insertion_words, insertion_words}

-- the words of the insertions from the i-th on
abbrev pub inserts_left : List Insertion → ℕ → List ℕ
inserts_left inserts i = spaced (all_insertion_words (drop i inserts))

spaced_append : (xs ys : List (List ℕ)) → spaced (xs ++ ys) ≡ spaced xs ++ spaced ys
spaced_append xs ys = flat_map-append (λ (w : List ℕ). 32 ∷ w) xs ys

six_parts : (text a b c d e f : List ℕ)
    → (((((text ++ a) ++ b) ++ c) ++ d) ++ e) ++ f ≡ text ++ (a ++ (b ++ (c ++ (d ++ (e ++ f)))))
six_parts text a b c d e f = simp append_assoc

-- by the texts that the calls leave one after another
pub insertion_by_calls : (i : Insertion) (text bar named rising up falling : List ℕ)
    → bar ≡ text ++ 32 ∷ codes "|" → named ≡ bar ++ 32 ∷ i.name → rising ≡ named ++ 32 ∷ codes "up"
    → up ≡ rising ++ spaced i.up → falling ≡ up ++ 32 ∷ codes "down"
    → falling ++ spaced i.down ≡ text ++ spaced (insertion_words i)
insertion_by_calls i text bar named rising up falling e1 e2 e3 e4 e5 =
    rw (e5, e4, e3, e2, e1) (six_parts text (32 ∷ codes "|") (32 ∷ i.name) (32 ∷ codes "up") (spaced i.up)
    (32 ∷ codes "down") (spaced i.down)
    ∙ ap (λ (t : List ℕ). text ++ (32 ∷ codes "|" ++ (32 ∷ i.name ++ (32 ∷ codes "up" ++ t))))
    (sym (spaced_append i.up (codes "down" ∷ i.down)))
    ∙ regrouped)
  where
    regrouped : text ++ (32 ∷ codes "|" ++ (32 ∷ i.name ++ (32 ∷ codes "up" ++ spaced (i.up ++ codes "down" ∷ i.down))))
        ≡ text ++ spaced (insertion_words i)
    regrouped = refl
