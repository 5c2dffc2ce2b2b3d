-- The text of a small library, and of cells without pins.
use Rattle.std.proofs.Common.{◌≡◌, ℕ, Bool, true, false, List, [], ◌∷◌, refl, codes}
use Rattle.si_base.specs.declared.ids.Literal.{Literal}
use Rattle.si_cell.specs.Library.{Cell, Library}
use Rattle.si_cell.specs.declared.pins.Pins.TheVariants.{Any}
use Rattle.si_genlib.specs.Written.{library_text}

abbrev lit : ℕ → Bool → Literal
lit s v = record { sig = s; plain = v }

-- Muller's C-element, which reads its own output
abbrev c_element : Cell
c_element = record {
  name = codes "C2";
  pins = codes "p1" ∷ codes "p2" ∷ [];
  sum = (lit 0 true ∷ lit 1 true ∷ []) ∷ (lit 0 true ∷ lit 2 true ∷ []) ∷ (lit 1 true ∷ lit 2 true ∷ []) ∷ [];
}

abbrev nand : Cell
nand = record {
  name = codes "_1310_nand";
  pins = codes "p1" ∷ codes "p2" ∷ [];
  sum = (lit 1 false ∷ []) ∷ (lit 0 false ∷ []) ∷ [];
}

abbrev always : List (List Literal) → Cell
always sum = record { name = codes "one"; pins = []; sum = sum }

abbrev genlib : List Cell → Library
genlib cells = record { name = codes "genlib"; cells = cells; pins = Any }

two_cells : library_text (genlib (nand ∷ c_element ∷ []))
    ≡ codes ".library genlib\n.cell _1310_nand p1 p2 = p2' + p1'\n.cell C2 p1 p2 = p1 p2 + p1 q + p2 q\n.end\n"
unfolding library_text
two_cells = refl

-- a cube without literals
one : library_text (genlib (always ([] ∷ []) ∷ [])) ≡ codes ".library genlib\n.cell one = 1\n.end\n"
unfolding library_text
one = refl

-- no cube
nought : library_text (genlib (always [] ∷ [])) ≡ codes ".library genlib\n.cell one = 0\n.end\n"
unfolding library_text
nought = refl

no_cells : library_text (genlib []) ≡ codes ".library genlib\n.end\n"
unfolding library_text
no_cells = refl
