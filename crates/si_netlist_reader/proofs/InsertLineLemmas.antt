-- The words of an insert line.
use Rattle.std.proofs.Common.{◌≡◌, ◌≤◌, ◌&&◌, ℕ, true, false, List, [], ◌∷◌, length, drop, get_or, bytes_eq, codes}
use Rattle.std.proofs.Common.{Some, Bor, refl, sym, ap, arith}
use Rattle.std.specs.List.{list_any}
use Rattle.std.proofs.lemmas.Bool.{and_parts}
use Rattle.std.proofs.lemmas.Slice.Eq.{bytes_eq-Decides}
use Rattle.si_base.specs.Netlist.{Insertion}
use Rattle.si_words.specs.Names.{stands_in}
use Rattle.si_words.specs.Loops.Reads.{words_now}
use Rattle.si_words.specs.Sums.{cut_at, is_empty}
use Rattle.si_netlist_reader.specs.Loops.Reading.{Inserts}

-- the first three words are those of an insert line for the name, and `down` stands between two lists
pub inserts : (name : List ℕ) (ws : List (Bor (List ℕ))) (d : Bor (List ℕ)) (states : List (Bor (List ℕ)))
    (rising falling : List (List ℕ)) → 3 ≤ length ws → states ≡ drop 3 ws
    → (bytes_eq (codes ".insert") (get_or ws 0 d).now && bytes_eq name (get_or ws 1 d).now
    && bytes_eq (codes "up") (get_or ws 2 d).now) ≡ true
    → list_any is_empty (words_now states) ≡ false
    → cut_at (codes "down") (words_now states) ≡ Some (rising, falling)
    → is_empty rising ≡ false → is_empty falling ≡ false → stands_in falling (codes "down") ≡ false
    → Inserts name (words_now ws) rising falling
inserts name [] d states rising falling long split begins full cut some others once = absurd (omega arith)
inserts name (a ∷ []) d states rising falling long split begins full cut some others once = absurd (omega arith)
inserts name (a ∷ b ∷ []) d states rising falling long split begins full cut some others once = absurd (omega arith)
inserts name (a ∷ b ∷ c ∷ ws) d states rising falling long split begins full cut some others once =
    let same = (bytes_eq-Decides name b.now).0 (and_parts _ _ (and_parts _ _ begins).0).1 in
    let no_empty : list_any is_empty (words_now ws) ≡ false = rw split at full in
    let both : cut_at (codes "down") (words_now ws) ≡ Some (rising, falling) = rw split at cut in
    record {
      form = rw (begins, no_empty, both, some, others, once) refl;
      value = rw both (ap (λ (n : List ℕ). let r : Insertion = record { name = n; up = rising; down = falling } in r)
          (sym same));
    }
