-- Hidden signals, and the word of a state that the circuit reaches, computed.
use Rattle.std.proofs.Common.{◌≡◌, List, [], ◌∷◌, codes, refl}
use Rattle.si_base.specs.declared.graph.SigKind.{SigKind}
use Rattle.si_base.specs.declared.graph.SigKind.TheVariants.{Input, Internal, Inserted}
use Rattle.si_base.specs.declared.graph.Signal.{Signal}
use Rattle.std.specs.Prelude.{ℕ, flat_map}
use Rattle.si_certify.specs.Certify.{reached_word}
use Rattle.si_certify.specs.Hidden.{hide, unknown, unknown_of}

abbrev signal : List ℕ → SigKind → Signal
signal name kind = record { name = name; kind = kind }

-- the graph has `r` and `x`; the netlist has `y` and `z` beside them
abbrev four : List Signal
four = signal (codes "r") Input ∷ signal (codes "x") Internal ∷ signal (codes "y") Internal
    ∷ signal (codes "z") Inserted ∷ []

abbrev hidden : List Signal
hidden = signal (codes "r") Input ∷ signal (codes "x") Internal ∷ signal (codes "y") Inserted
    ∷ signal (codes "z") Inserted ∷ []

further_are_hidden : hide 2 four ≡ hidden
further_are_hidden = refl

-- a netlist without a signal of the graph has none to hide
none_to_hide : hide 5 four ≡ four
none_to_hide = refl

-- each hidden signal has a line that isn't known
lines_are_unknown : flat_map unknown_of hidden ≡ unknown (codes "y") ∷ unknown (codes "z") ∷ []
lines_are_unknown = refl

-- beside `s1` the circuit has `r` = 1, `x` = 0, `y` = 0 and `z` = 1
word_of_a_state : reached_word (codes "s0" ∷ codes "s1" ∷ []) 2 four (record { state = 1; values = 9 }) ≡ codes "s1@01"
word_of_a_state = refl
