-- The two-input C-element: its pin literals, and its divisors by a buffer; and divisors on distinct signals.
use Rattle.std.proofs.Common.{◌≡◌, ℕ, zero, suc, ◌<◌, true, false, List, [], ◌∷◌, refl, sym, subst, codes, arith, inl}
use Rattle.std.proofs.Common.{IsTrue}
use Rattle.si_base.specs.Bits.{bit}
use Rattle.si_base.specs.Codes.{CodedGraph}
use Rattle.si_base.specs.Graph.{arc, rise, fall}
use Rattle.si_base.specs.declared.graph.SigKind.TheVariants.{Input, Output}
use Rattle.si_base.specs.declared.ids.Literal.{Literal}
use Rattle.si_base.proofs.GivenGraphUnique.{contains_from_in}
use Rattle.si_cell.specs.Library.{Cell, Library, Instance, with_pins}
use Rattle.si_cell.specs.declared.pins.Pins.TheVariants.{Any, Plain}
use Rattle.si_match.specs.Fit.{literals_of_signals}
use Rattle.si_match.specs.Support.{support_of}
use Rattle.si_match.proofs.FitLemmas.{literal_in}
use Rattle.si_divisor.specs.Divisors.{ArePins, AreDivisors, divisors_of}

-- the inputs a and b are signals 0 and 1, the output c is signal 2
abbrev c_element : CodedGraph
c_element = record {
  graph = record {
    signals = record { name = codes "a"; kind = Input } ∷ record { name = codes "b"; kind = Input }
        ∷ record { name = codes "c"; kind = Output } ∷ [];
    states = 8;
    edges = arc 0 (rise 0) 1 ∷ arc 0 (rise 1) 2 ∷ arc 1 (rise 1) 3 ∷ arc 2 (rise 0) 3 ∷ arc 3 (rise 2) 4
        ∷ arc 4 (fall 0) 5 ∷ arc 4 (fall 1) 6 ∷ arc 5 (fall 1) 7 ∷ arc 6 (fall 0) 7 ∷ arc 7 (fall 2) 0 ∷ [];
    start = 0;
  };
  codes = 0 ∷ 1 ∷ 2 ∷ 3 ∷ 7 ∷ 6 ∷ 5 ∷ 4 ∷ [];
}

abbrev plain : ℕ → Literal
plain s = record { sig = s; plain = true }

abbrev complemented : ℕ → Literal
complemented s = record { sig = s; plain = false }

abbrev instance_of : ℕ → List Literal → Instance
instance_of cell literals = record { cell = cell; literals = literals }

abbrev buffer : Cell
buffer = record { name = codes "BUF"; pins = codes "a" ∷ []; sum = (plain 0 ∷ []) ∷ [] }

abbrev and_2 : Cell
and_2 = record {
  name = codes "AND2";
  pins = codes "a" ∷ codes "b" ∷ [];
  sum = (plain 0 ∷ plain 1 ∷ []) ∷ [];
}

abbrev and_4 : Cell
and_4 = record {
  name = codes "AND4";
  pins = codes "a" ∷ codes "b" ∷ codes "c" ∷ codes "d" ∷ [];
  sum = (plain 0 ∷ plain 1 ∷ plain 2 ∷ plain 3 ∷ []) ∷ [];
}

abbrev library : List Cell → Library
library cells = record { name = codes "l"; cells = cells; pins = Any }

-- ---- pins
support : support_of c_element 2 ≡ 7
unfolding support_of
support = refl

all_three : (s : ℕ) → s < 3 → IsTrue (bit 7 s)
all_three zero below = refl
all_three (suc zero) below = refl
all_three (suc (suc zero)) below = refl
all_three (suc (suc (suc s))) below = absurd (omega (arith, below))

-- each signal is in the support, so both literals of each are pins, whatever cubes there are
pins_of_c : ArePins c_element 2 (literals_of_signals 3)
pins_of_c = record {
  in_order = refl;
  exactly = λ l small. (
    (λ there. inl (subst (λ k. IsTrue (bit k l.sig)) (sym support) (all_three l.sig small))),
    (λ is. contains_from_in (literals_of_signals 3) l (literal_in 3 0 l (omega arith) (omega (arith, small)))),
  );
}

-- ---- divisors
-- none by the cell of four pins
divisors_of_c : AreDivisors c_element (library (and_4 ∷ buffer ∷ [])) 2 (
    instance_of 1 (plain 0 ∷ []) ∷ instance_of 1 (complemented 0 ∷ [])
    ∷ instance_of 1 (plain 1 ∷ []) ∷ instance_of 1 (complemented 1 ∷ [])
    ∷ instance_of 1 (plain 2 ∷ []) ∷ instance_of 1 (complemented 2 ∷ []) ∷ []
    )
unfolding divisors_of
divisors_of_c = record { pins = literals_of_signals 3; are_pins = pins_of_c; are = refl }

-- with plain pins half of them are left
plain_divisors_of_c : AreDivisors c_element (with_pins Plain (library (and_4 ∷ buffer ∷ []))) 2 (
    instance_of 1 (plain 0 ∷ []) ∷ instance_of 1 (plain 1 ∷ []) ∷ instance_of 1 (plain 2 ∷ []) ∷ []
    )
unfolding divisors_of
plain_divisors_of_c = record { pins = literals_of_signals 3; are_pins = pins_of_c; are = refl }

-- the pins are both literals of one signal, and one of the next
on_distinct_signals : divisors_of 2 (library (and_2 ∷ [])) (plain 0 ∷ complemented 0 ∷ complemented 1 ∷ [])
    ≡ instance_of 0 (plain 0 ∷ complemented 1 ∷ []) ∷ instance_of 0 (complemented 0 ∷ complemented 1 ∷ [])
    ∷ instance_of 0 (complemented 1 ∷ plain 0 ∷ []) ∷ instance_of 0 (complemented 1 ∷ complemented 0 ∷ []) ∷ []
unfolding divisors_of
on_distinct_signals = refl
