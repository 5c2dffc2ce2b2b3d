-- (text) The netlist that a text without fault spells.
use Rattle.std.specs.Prelude.{ℕ, ◌+◌, ◌*◌, ◌==◌, List, [], ◌∷◌, ◌++◌, length, map, take, drop}
use Rattle.std.specs.Prelude.{codes, Option, Some, None, if◌then◌else◌}
use Rattle.si_base.specs.declared.graph.SigKind.TheVariants.{Input, Output, Internal, Inserted}
use Rattle.si_base.specs.Netlist.{Insertion, Netlist}
use Rattle.si_base.specs.Bytes.{digit_one}
use Rattle.si_base.specs.GivenGraph.{signals_of}
use Rattle.si_words.specs.Sums.{cut_at}
use Rattle.si_netlist_reader.specs.NetlistFault.{names_at, body}
use Rattle.si_words.specs.Lines.{words_of, rest_of}
use Rattle.si_netlist_reader.specs.GateParts.{gate_of}

-- ---- lines before the gates
abbrev pub insertion_with : List ℕ → Option (List (List ℕ) × List (List ℕ)) → Insertion
insertion_with name None = record { name = name; up = []; down = [] }
insertion_with name (Some (up, down)) = record { name = name; up = up; down = down }

-- the words of an `.insert` line
abbrev pub insertion_of : List (List ℕ) → Insertion
insertion_of (head ∷ name ∷ up ∷ states) = insertion_with name (cut_at (codes "down") states)
insertion_of words = record { name = []; up = []; down = [] }

-- the first word, or none
abbrev pub first_word : List (List ℕ) → List ℕ
first_word [] = []
first_word (word ∷ words) = word

-- bit i is 1 where the i-th digit is `1`
abbrev pub code_of_bits : List ℕ → ℕ
code_of_bits [] = 0
code_of_bits (b ∷ bits) = (if b == digit_one then 1 else 0) + 2 * code_of_bits bits

-- ---- the text, by its lines
abbrev pub netlist_of_lines : List (List ℕ) → Netlist
netlist_of_lines lines =
    let inputs = names_at 1 lines in
    let outputs = names_at 2 lines in
    let internals = names_at 3 lines in
    let inserted = names_at 4 lines in
    let names = inputs ++ outputs ++ internals ++ inserted in
    record {
      model = first_word (names_at 0 lines);
      signals = signals_of Input inputs ++ signals_of Output outputs
          ++ signals_of Internal internals ++ signals_of Inserted inserted;
      start = code_of_bits (first_word (names_at 5 lines));
      inserts = map (λ line. insertion_of (words_of line)) (take (length inserted) (drop 6 lines));
      gates = map (λ line. gate_of names (rest_of (words_of line)))
          (take (length (outputs ++ internals ++ inserted)) (drop (7 + length inserted) lines));
    }

unfoldable pub netlist_of : List ℕ → Netlist
netlist_of text = netlist_of_lines (body text).lines
