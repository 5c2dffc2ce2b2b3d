-- (text) The text of the states of a graph: a line for each.
use Rattle.std.specs.Prelude.{ℕ, List, [], ◌∷◌, ◌++◌, map, flat_map, codes}
use Rattle.si_base.specs.NetlistText.{word_if_any}
use Rattle.si_base.specs.Words.{line}
use Rattle.si_pictures.specs.CodeWord.{first, code_word, enabled_events}
use Rattle.si_pictures.specs.Seen.{graph_of}
use Rattle.si_pictures.specs.declared.seen.Seen.{Seen}
use Rattle.si_pictures.specs.declared.seen.Seen.TheVariants.{Proper, Coded, Uncoded}
use Rattle.si_sg.specs.CanonicalText.{state_at, event_word}

-- the code of a state where there is a signal, and `-` where the graph has no codes
abbrev pub code_words : Seen → ℕ → List (List ℕ)
code_words (Proper c) s = word_if_any (code_word c s)
code_words (Coded c breach) s = word_if_any (code_word c s)
code_words (Uncoded g breach) s = codes "-" ∷ []

-- a state: its name, its code, and the events that it enables
abbrev pub state_line : Seen → List (List ℕ) → ℕ → List (List ℕ)
state_line seen states s = state_at states s ∷ code_words seen s
    ++ map (event_word (graph_of seen).signals) (enabled_events (graph_of seen) s)

-- the names of the signals, then the states in order
unfoldable pub states_text : Seen → List (List ℕ) → List ℕ
states_text seen states = line (codes "signals" ∷ map (λ x. x.name) (graph_of seen).signals)
    ++ flat_map (λ s. line (state_line seen states s)) (first (graph_of seen).states)
