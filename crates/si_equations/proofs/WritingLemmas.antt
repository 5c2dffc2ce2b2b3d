-- What the writers of a text of equations have still to add, a step at a time.
use Rattle.std.proofs.Common.{◌≡◌, ℕ, List, [], ◌∷◌, ◌++◌, drop, flat_map, append_assoc, codes}
use Rattle.si_base.specs.declared.graph.Signal.{Signal}
use Rattle.si_base.specs.declared.graph.SigKind.{SigKind}
use Rattle.si_base.specs.declared.graph.SigKind.TheVariants.{Input, Output}
use Rattle.si_base.specs.declared.ids.Literal.{Literal}
use Rattle.si_base.specs.Netlist.{Sum, Gate, Netlist}
use Rattle.si_base.specs.NetlistText.{names_of}
use Rattle.si_equations.specs.Written.{literal_text, cube_text, list_line, equation_lines, equations_text}

-- the cubes from the i-th on, each after a `+`
abbrev pub cubes_from : List Signal → Sum → ℕ → List ℕ
cubes_from signals cubes i = flat_map (λ cube. codes " + " ++ cube_text signals cube) (drop i cubes)

-- the literals from the i-th on, each after a blank
abbrev pub literals_after : List Signal → List Literal → ℕ → List ℕ
literals_after signals literals i = flat_map (λ l. codes " " ++ literal_text signals l) (drop i literals)

-- the names of a kind from the i-th signal on, each after a blank
abbrev pub names_from : SigKind → List Signal → ℕ → List ℕ
names_from kind signals i = flat_map (λ name. 32 ∷ name) (names_of kind (drop i signals))

-- the lines of the gates, the next of which is that of a signal from the i-th on
abbrev pub lines_from : List Signal → ℕ → List Gate → List ℕ
lines_from signals i gates = flat_map (λ line. line ++ 10 ∷ []) (equation_lines signals (drop i signals) gates)

three_lines : (a b c e : List ℕ) → [] ++ a ++ e ++ b ++ e ++ c ≡ a ++ e ++ (b ++ e ++ c)
three_lines a b c e = simp append_assoc

-- the lines that the calls add one after another
pub text_by_calls : (n : Netlist) (none inputs outputs all : List ℕ) → none ≡ []
    → inputs ≡ none ++ list_line (codes "INORDER") (names_of Input n.signals) ++ 10 ∷ []
    → outputs ≡ inputs ++ list_line (codes "OUTORDER") (names_of Output n.signals) ++ 10 ∷ []
    → all ≡ outputs ++ flat_map (λ line. line ++ 10 ∷ []) (equation_lines n.signals n.signals n.gates)
    → all ≡ equations_text n
unfolding equations_text
text_by_calls n none inputs outputs all is_none are_inputs are_outputs are_all =
    rw (are_all, are_outputs, are_inputs, is_none)
    (three_lines (list_line (codes "INORDER") (names_of Input n.signals))
    (list_line (codes "OUTORDER") (names_of Output n.signals))
    (flat_map (λ line. line ++ 10 ∷ []) (equation_lines n.signals n.signals n.gates)) (10 ∷ []))
