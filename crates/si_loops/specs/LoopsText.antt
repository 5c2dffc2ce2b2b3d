-- (text) The text of the arcs of a netlist that are cut.
use Rattle.std.specs.Prelude.{◌≡◌, ℕ, List, [], ◌∷◌, map, length, codes, decimal}
use Rattle.si_base.specs.declared.graph.Signal.{Signal}
use Rattle.si_base.specs.Graph.{name_of}
use Rattle.si_base.specs.Netlist.{Netlist}
use Rattle.si_base.specs.Words.{text_of}
use Rattle.si_loops.specs.declared.arcs.Arc.{Arc}
use Rattle.si_loops.specs.Arcs.{arcs_of, AreCut}

-- the gate, by its signal, and the signal at the pin that is cut
abbrev pub cut_line : List Signal → Arc → List (List ℕ)
cut_line signals a = codes "cut" ∷ name_of signals a.to ∷ name_of signals a.from ∷ []

-- how many arcs there are, how many are cut, and these
unfoldable pub loops_text : List Signal → ℕ → List Arc → List ℕ
loops_text signals arcs cut =
    text_of ((codes "arcs" ∷ decimal arcs ∷ []) ∷ (codes "cut" ∷ decimal (length cut) ∷ [])
    ∷ map (cut_line signals) cut)

-- the text of the arcs of n and of those that are cut
pub record IsLoopsText (n : Netlist) (text : List ℕ) : Type 0 where
  pub kept : List Arc
  pub cut : List Arc
  pub split : AreCut n kept cut
  pub text_is : text ≡ loops_text n.signals (length (arcs_of n)) cut
