-- (text) The fault of a text that is no netlist's.
use Rattle.std.specs.Prelude.{ℕ, ◌==◌, Bool, false, not, ◌&&◌, List, [], ◌∷◌, ◌++◌, length, map}
use Rattle.std.specs.Prelude.{bytes_eq, codes, slice_index_or, Option, Some, None, if◌then◌else◌}
use Rattle.std.specs.List.{list_any, list_all}
use Rattle.si_base.specs.Bytes.{digit_zero, digit_one}
use Rattle.si_base.specs.NetlistText.{Version, Version1, Version2, most_signals}
use Rattle.si_base.specs.Words.{is_between}
use Rattle.si_base.specs.declared.fault.TextKind.{TextKind}
use Rattle.si_base.specs.declared.fault.TextKind.TheVariants.{BadLine}
use Rattle.si_base.specs.Faults.{when}
use Rattle.si_words.specs.Names.{stands_in}
use Rattle.si_words.specs.Sums.{is_empty, is_one, cut_at}
use Rattle.si_words.specs.Lines.{Form, words_of, rest_of, names_fault}
use Rattle.si_words.specs.Rows.{Left, all_lines, begins_with, after_line, fault_of}
use Rattle.si_netlist_reader.specs.GateParts.{gate_fault}

-- any word but a lone brace
abbrev pub is_model_word : List ℕ → Bool
is_model_word word = not (is_empty word) && not (bytes_eq (codes "{") word)
    && not (bytes_eq (codes "}") word)

-- ---- the lines, each by its words

abbrev pub is_model_line : List (List ℕ) → Bool
is_model_line (head ∷ name ∷ []) = bytes_eq (codes ".model") head && is_model_word name
is_model_line _ = false

abbrev pub model_fault : List (List ℕ) → Option TextKind
model_fault words = when (not (is_model_line words)) BadLine

-- a bit for each signal; with no signal no word for them
abbrev pub is_start_line : ℕ → List (List ℕ) → Bool
is_start_line signals (head ∷ []) = bytes_eq (codes ".start") head && (signals == 0)
is_start_line signals (head ∷ bits ∷ []) = bytes_eq (codes ".start") head && not (is_empty bits)
    && (length bits == signals) && list_all (is_between digit_zero digit_one) bits
is_start_line signals _ = false

abbrev pub start_fault : ℕ → List (List ℕ) → Option TextKind
start_fault signals words = when (not (is_start_line signals words)) BadLine

-- two lists of states, and one word `down` between them
abbrev pub are_both_lists : Option (List (List ℕ) × List (List ℕ)) → Bool
are_both_lists None = false
are_both_lists (Some (up, down)) =
    not (is_empty up) && not (is_empty down) && not (stands_in down (codes "down"))

abbrev pub is_insert_line : List ℕ → List (List ℕ) → Bool
is_insert_line name (head ∷ w ∷ up ∷ states) =
    bytes_eq (codes ".insert") head && bytes_eq name w && bytes_eq (codes "up") up
    && not (list_any is_empty states) && are_both_lists (cut_at (codes "down") states)
is_insert_line name _ = false

abbrev pub insert_fault : List ℕ → List (List ℕ) → Option TextKind
insert_fault name words = when (not (is_insert_line name words)) BadLine

abbrev pub word_fault : List ℕ → List (List ℕ) → Option TextKind
word_fault word words = when (not (is_one word words)) BadLine

-- ---- the text

-- the names that the line at place k, from 0, has after its head
abbrev pub names_at : ℕ → List (List ℕ) → List (List ℕ)
names_at k lines = rest_of (words_of (slice_index_or lines k []))

-- the forms of the lines after the first six
abbrev pub due_after : List (List ℕ) → List (List ℕ) → List (List ℕ) → List (List ℕ) → List Form
due_after inputs outputs internals inserted =
    map insert_fault inserted
    ++ word_fault (codes ".gates")
    ∷ map (gate_fault (inputs ++ outputs ++ internals ++ inserted))
    (outputs ++ internals ++ inserted)
    ++ word_fault (codes ".end") ∷ []

-- the forms of the lines, in order, where so many signals may be named
abbrev pub due : ℕ → List (List ℕ) → List (List ℕ) → List (List ℕ) → List (List ℕ) → List Form
due limit inputs outputs internals inserted =
    model_fault
    ∷ names_fault limit (codes ".inputs") []
    ∷ names_fault limit (codes ".outputs") inputs
    ∷ names_fault limit (codes ".internal") (inputs ++ outputs)
    ∷ names_fault limit (codes ".inserted") (inputs ++ outputs ++ internals)
    ∷ start_fault (length (inputs ++ outputs ++ internals ++ inserted))
    ∷ due_after inputs outputs internals inserted

abbrev pub due_in : ℕ → List (List ℕ) → List Form
due_in limit lines =
    due limit (names_at 1 lines) (names_at 2 lines) (names_at 3 lines) (names_at 4 lines)

-- lines of which the first is `.version 2` are of version 2, any others of version 1
abbrev pub version_at : Left → Version
version_at left = if begins_with (codes ".version 2") left.lines then Version2 else Version1

abbrev pub version_of : List ℕ → Version
version_of text = version_at (all_lines text)

-- what is left after the line of the version, if there is one
abbrev pub after_version : Version → Left → Left
after_version Version1 left = left
after_version Version2 left = after_line left

abbrev pub body : List ℕ → Left
body text = after_version (version_of text) (all_lines text)

unfoldable pub netlist_fault : List ℕ → Option (ℕ × TextKind)
netlist_fault text =
    fault_of (due_in (most_signals (version_of text)) (body text).lines) (body text)
