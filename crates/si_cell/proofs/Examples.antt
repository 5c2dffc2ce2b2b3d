-- Library texts and their faults, and the sums of instances.
use Rattle.std.proofs.Common.{◌≡◌, ℕ, Bool, true, false, List, [], ◌∷◌, ◌++◌, refl, Some, None, codes}
use Rattle.si_base.specs.declared.fault.TextKind.TheVariants as kinds
use Rattle.si_base.specs.declared.ids.Literal.{Literal}
use Rattle.si_cell.specs.Library.{Library, admits, instance_value, table_of, with_pins}
use Rattle.si_cell.specs.declared.pins.Pins.TheVariants.{Any, Plain}
use Rattle.si_cell.specs.Expanded.{expanded}
use Rattle.si_cell.specs.Literals.{in_literal_order}
use Rattle.si_cell.specs.LibraryText.{library_fault, library_of}

-- the text with this as its second line
abbrev four : List ℕ → List ℕ
four two = codes ".library four\n" ++ two ++ codes "\n.cell AND2 a b = a b\n.cell OR2 a b = a + b\n"
    ++ codes ".cell C2 a b = a b + a q + b q\n.end\n"

good : library_fault (four (codes ".cell BUF a = a")) ≡ None
good = refl

abbrev lit : ℕ → Bool → Literal
lit s v = record { sig = s; plain = v }

-- the literals of a cube stand in the order of the pins
abbrev small : Library
small = record {
  name = codes "small";
  cells = record {
    name = codes "GATE";
    pins = codes "a" ∷ codes "b" ∷ [];
    sum = (lit 0 false ∷ lit 1 true ∷ []) ∷ (lit 1 false ∷ lit 2 true ∷ []) ∷ [] ∷ [];
  } ∷ [];
  pins = Any;
}

spelled : library_of (codes "# a library\n.library small # the name\n\n.cell GATE a b = b a' + q b' + 1\n.end of it\n")
    ≡ small
unfolding in_literal_order
spelled = refl

-- plain pins have no complement, and take no cell away
plain_alone : admits Plain (lit 1 false) ≡ false
plain_alone = refl

any_literal : admits Any (lit 1 false) ≡ true
any_literal = refl

same_cells : (with_pins Plain small).cells ≡ small.cells
same_cells = refl

no_lines : library_fault [] ≡ Some (1, kinds.NoEnd)
no_lines = refl

no_end : library_fault (codes ".library four\n.cell BUF a = a\n") ≡ Some (3, kinds.NoEnd)
no_end = refl

no_cells : library_fault (codes ".library e\n\n.end # \u{1}\n\u{1}\n") ≡ None
no_cells = refl

early_end : library_fault (codes "# x\n.end\n") ≡ Some (2, kinds.BadLine)
early_end = refl

second_name : library_fault (four (codes ".library again")) ≡ Some (2, kinds.BadLine)
second_name = refl

bad_byte : library_fault (four (codes ".cell X a = b \u{1}")) ≡ Some (2, kinds.BadByte)
bad_byte = refl

own_complemented : library_fault (four (codes ".cell 1 a = q'")) ≡ Some (2, kinds.BadLine)
own_complemented = refl

undeclared : library_fault (four (codes ".cell X a = b")) ≡ Some (2, kinds.Undeclared)
undeclared = refl

same_cell : library_fault (four (codes ".cell X a = a\n.cell X a = a")) ≡ Some (3, kinds.Repeated)
same_cell = refl

same_pin : library_fault (four (codes ".cell X a a = b")) ≡ Some (2, kinds.Repeated)
same_pin = refl

same_signal : library_fault (four (codes ".cell X a = a a' b")) ≡ Some (2, kinds.Repeated)
same_signal = refl

own_pin : library_fault (four (codes ".cell X q = q")) ≡ Some (2, kinds.BadName)
own_pin = refl

five_pins : library_fault (four (codes ".cell X a b c d e = x")) ≡ Some (2, kinds.TooManyPins)
five_pins = refl

mark_as_name : library_fault (four (codes ".cell = = a")) ≡ Some (2, kinds.BadName)
mark_as_name = refl

no_name : library_fault (four (codes ".cell = a")) ≡ Some (2, kinds.BadLine)
no_name = refl

-- a b + q is true at the codes 3 to 7, whatever the values of the two signals behind are
table : table_of ((lit 0 true ∷ lit 1 true ∷ []) ∷ (lit 2 true ∷ []) ∷ []) ≡ 0xF8F8F8F8
table = refl

no_cube : table_of [] ≡ 0
no_cube = refl

-- the cell of the small library with the literals of signals 5 and 3, as the gate of signal 3
value : instance_value small (record { cell = 0; literals = lit 5 true ∷ lit 3 false ∷ [] }) 32 true ≡ true
value = refl

-- signal 5 complemented and signal 3 complemented, or signal 3 twice, which stands once, or 1
sum : expanded small (record { cell = 0; literals = lit 5 true ∷ lit 3 false ∷ [] }) 3
    ≡ ((lit 3 false ∷ lit 5 false ∷ []) ∷ (lit 3 true ∷ []) ∷ [] ∷ [])
unfolding expanded in_literal_order
sum = refl

-- the first cube has signal 5 plain and complemented, and is left out
left_out : expanded small (record { cell = 0; literals = lit 5 true ∷ lit 5 true ∷ [] }) 3
    ≡ ((lit 3 true ∷ lit 5 false ∷ []) ∷ [] ∷ [])
unfolding expanded in_literal_order
left_out = refl
