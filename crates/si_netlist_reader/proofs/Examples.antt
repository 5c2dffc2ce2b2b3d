-- Gate lines: what they spell, and their faults.
use Rattle.std.proofs.Common.{◌≡◌, ℕ, List, [], ◌∷◌, Some, None, codes, refl, true, false}
use Rattle.si_base.specs.Netlist.{Gc}
use Rattle.si_base.specs.declared.fault.TextKind.TheVariants.{BadLine, Undeclared}
use Rattle.si_words.specs.Lines.{words_of}
use Rattle.si_netlist_reader.specs.GateParts.{gate_fault, gate_of}

abbrev names : List (List ℕ)
names = codes "a" ∷ codes "b" ∷ []

element : gate_of names (words_of (codes "gc a b' + b | 0")) ≡ Gc
    ((record { sig = 0; plain = true } ∷ record { sig = 1; plain = false } ∷ [])
    ∷ (record { sig = 1; plain = true } ∷ []) ∷ []) []
element = refl

good : gate_fault names (codes "b") (words_of (codes "b cell AND2 b a : a b")) ≡ None
good = refl

-- the first fault, from left to right
undeclared : gate_fault names (codes "b") (words_of (codes "b sum a c + b a")) ≡ Some Undeclared
undeclared = refl

disordered : gate_fault names (codes "b") (words_of (codes "b sum b a + c")) ≡ Some BadLine
disordered = refl

-- another form comes first
other_form : gate_fault names (codes "b") (words_of (codes "b gc c | a +")) ≡ Some BadLine
other_form = refl
