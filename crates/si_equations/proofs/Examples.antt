-- Texts of equations with faults and without, and the text of a netlist.
use Rattle.std.proofs.Common.{◌≡◌, ℕ, Bool, true, false, List, [], ◌∷◌, ◌++◌, Ok, Err, codes, refl}
use Rattle.si_base.specs.declared.ids.Literal.{Literal}
use Rattle.si_base.specs.declared.fault.TextKind.TheVariants as kinds
use Rattle.si_base.specs.declared.graph.SigKind.TheVariants.{Input, Output, Inserted}
use Rattle.si_base.specs.Netlist.{SumGate, Gc, Netlist}
use Rattle.si_tokens.specs.Unread.{tokens}
use Rattle.si_genlib.specs.Expression.{step, Tree, Pin, Not, And, Or}
use Rattle.si_equations.specs.Equations.{mark_at, list_at, lists_at, equation_at, statements_at, equations_in}
use Rattle.si_equations.specs.Equations.{Equation, expression_value}
use Rattle.si_equations.specs.Written.{equations_text}

-- ---- texts that are read

abbrev lists : List ℕ
lists = codes "INORDER = a b;\nOUTORDER = c;\n"

-- Muller's C-element, with its output in brackets on the left, and without on the right
c_element : equations_in (lists ++ codes "[c] = a b + c (a + b);") ≡ Ok (record {
  inputs = codes "a" ∷ codes "b" ∷ [];
  outputs = codes "c" ∷ [];
  equations = record {
    line = 3;
    name = codes "c";
    tree = Or (And (Pin (codes "a")) (Pin (codes "b")))
        (And (Pin (codes "c")) (Or (Pin (codes "a")) (Pin (codes "b"))));
  } ∷ [];
})
unfolding equations_in statements_at lists_at list_at mark_at equation_at tokens step
c_element = refl

-- a controller of a VME bus, as petrify writes it: each output that an equation reads stands in both lists
vme : List ℕ
vme = codes "# Outputs between brackets \"[out]\" indicate a feedback to input \"out\"\n"
    ++ codes "INORDER = dsr ldtack d dtack lds csc0;\nOUTORDER = [d] [dtack] [lds] [csc0];\n"
    ++ codes "[d] = ldtack csc0;\n[dtack] = d;\n[lds] = csc0 + d;\n[csc0] = dsr (csc0 + ldtack');\n"

abbrev equation : ℕ → List ℕ → Tree → Equation
equation line name tree = record { line = line; name = name; tree = tree }

-- its inputs are those that no equation drives
fed_back : equations_in vme ≡ Ok (record {
  inputs = codes "dsr" ∷ codes "ldtack" ∷ [];
  outputs = codes "d" ∷ codes "dtack" ∷ codes "lds" ∷ codes "csc0" ∷ [];
  equations = equation 4 (codes "d") (And (Pin (codes "ldtack")) (Pin (codes "csc0")))
      ∷ equation 5 (codes "dtack") (Pin (codes "d"))
      ∷ equation 6 (codes "lds") (Or (Pin (codes "csc0")) (Pin (codes "d")))
      ∷ equation 7 (codes "csc0") (And (Pin (codes "dsr")) (Or (Pin (codes "csc0")) (Not (Pin (codes "ldtack")))))
      ∷ [];
})
unfolding vme equations_in statements_at lists_at list_at mark_at equation_at tokens step
fed_back = refl

-- it is 1 where a and b are, and keeps the value 1 where only one of them is
keeps_one : expression_value (codes "a" ∷ codes "b" ∷ codes "c" ∷ []) 5
    (Or (And (Pin (codes "a")) (Pin (codes "b"))) (And (Pin (codes "[c]")) (Or (Pin (codes "a")) (Pin (codes "b")))))
    ≡ true
keeps_one = refl

-- ---- faults

unknown_statement : equations_in (codes "NAME = x;\n") ≡ Err (1, kinds.BadWord)
unfolding equations_in statements_at lists_at list_at mark_at equation_at tokens step
unknown_statement = refl

cut : equations_in (lists ++ codes "c = a\n") ≡ Err (4, kinds.NoEnd)
unfolding equations_in statements_at lists_at list_at mark_at equation_at tokens step
cut = refl

bad_expression : equations_in (lists ++ codes "c = a +;") ≡ Err (3, kinds.BadExpression)
unfolding equations_in statements_at lists_at list_at mark_at equation_at tokens step
bad_expression = refl

twice_in_a_list : equations_in (codes "INORDER = a;\nOUTORDER = b\n[b];") ≡ Err (3, kinds.Repeated)
unfolding equations_in statements_at lists_at list_at mark_at equation_at tokens step
twice_in_a_list = refl

of_an_input : equations_in (lists ++ codes "c = a;\nb = a;") ≡ Err (4, kinds.Repeated)
unfolding equations_in statements_at lists_at list_at mark_at equation_at tokens step
of_an_input = refl

two_equations : equations_in (lists ++ codes "c = a;\n[c] = b;") ≡ Err (4, kinds.Repeated)
unfolding equations_in statements_at lists_at list_at mark_at equation_at tokens step
two_equations = refl

no_equation : equations_in lists ≡ Err (3, kinds.Undeclared)
unfolding equations_in statements_at lists_at list_at mark_at equation_at tokens step
no_equation = refl

unknown_name : equations_in (lists ++ codes "c = a d;") ≡ Err (3, kinds.Undeclared)
unfolding equations_in statements_at lists_at list_at mark_at equation_at tokens step
unknown_name = refl

no_name : equations_in (lists ++ codes "c = a;\n0 = b;") ≡ Err (4, kinds.BadName)
unfolding equations_in statements_at lists_at list_at mark_at equation_at tokens step
no_name = refl

-- ---- the text of a netlist

abbrev lit : ℕ → Bool → Literal
lit s v = record { sig = s; plain = v }

abbrev small : Netlist
small = record {
  model = codes "small";
  signals = record { name = codes "a"; kind = Input } ∷ record { name = codes "b"; kind = Input }
      ∷ record { name = codes "c"; kind = Output } ∷ record { name = codes "CONST1"; kind = Inserted } ∷ [];
  start = 0;
  inserts = [];
  gates = Gc ((lit 0 true ∷ lit 1 true ∷ []) ∷ []) ((lit 0 false ∷ lit 3 true ∷ []) ∷ (lit 1 false ∷ []) ∷ [])
      ∷ SumGate ([] ∷ []) ∷ [];
}

-- the inserted signal's name stands in brackets, since it would be a constant without them
small_text : equations_text small ≡ codes "INORDER = a b;\nOUTORDER = c;\n"
    ++ codes "[c] = a b + c (a' [CONST1] + b')';\n[CONST1] = CONST1;\n"
unfolding equations_text
small_text = refl
