-- What gates read, and that a signal that a gate doesn't read doesn't change its value.
use Rattle.std.proofs.Common.{◌≡◌, ◌≢◌, ℕ, ◌<◌, ◌≤◌, ◌+◌, ◌^◌, ◌==◌, bit_or, Bool, true, false, List}
use Rattle.std.proofs.Common.{[], ◌∷◌, zero, suc, length, take, get_or, if◌then◌else◌, slice_get, Option, Some, None}
use Rattle.std.proofs.Common.{refl, sym, ap, ◌∙◌, arith, inl, inr}
use Rattle.std.specs.List.{list_any, list_all}
use Rattle.std.proofs.lemmas.Bool.{true≢false, cases_lt, or_parts}
use Rattle.std.proofs.lemmas.Bool.Decides.{eqb_tells}
use Rattle.std.proofs.lemmas.List.Folds.{list_any_more}
use Rattle.std.proofs.lemmas.Nat.Bits.{bit_at_above}
use mathlib.Core.Bool.{beq}
use Rattle.si_base.specs.declared.ids.Literal.{Literal}
use Rattle.si_base.specs.Bits.{bit, flip}
use Rattle.si_base.specs.Limits.{code_width}
use Rattle.si_base.specs.Netlist.{Sum, Gate, SumGate, Gc, Cell, Netlist, gate_place, gate_value, value_of}
use Rattle.si_base.specs.Netlist.{value_if_there, sum_value, literal_value, IsExcited}
use Rattle.si_base.proofs.BitFacts.{flip-other, bit-or}
use Rattle.si_cube.specs.Literals.{literals_from, literals_of}
use Rattle.si_netlist.specs.Reads.{sum_reads, gate_reads, reads_if_there, signal_reads}

-- a cube has a literal of signal x
abbrev pub cube_reads : List Literal → ℕ → Bool
cube_reads cube x = list_any (λ l. l.sig == x) cube

-- ---- the signals of a cube that is kept as two codes

reads_later : (x : ℕ) (is_there : Bool) (l : Literal) (rest : List Literal) → (l.sig == x) ≡ false
    → cube_reads (if is_there then l ∷ rest else rest) x ≡ cube_reads rest x
reads_later x true l rest other = rw other refl
reads_later x false l rest other = refl

reads_first : (x : ℕ) (is_there : Bool) (l : Literal) (rest : List Literal) → (l.sig == x) ≡ true
    → cube_reads rest x ≡ false → cube_reads (if is_there then l ∷ rest else rest) x ≡ is_there
reads_first x true l rest same none = rw same refl
reads_first x false l rest same none = none

-- x is none of the next n signals from the i-th on
reads_outside : (n i care value x : ℕ) → (i ≤ x → x < i + n → ⊥)
    → cube_reads (literals_from n i care value) x ≡ false
reads_outside zero i care value x outside = refl
reads_outside (suc n) i care value x outside =
    let rest = reads_outside n (i + 1) care value x (λ low high. outside (omega arith) (omega arith)) in
    elim (eqb_tells i x) [
      | inl same ↦ absurd (outside (omega (arith, same.1)) (omega (arith, same.1)))
      | inr other ↦ reads_later x (bit care i) (record { sig = i; plain = bit value i }) _ other.0 ∙ rest
    ]

reads_within : (n i care value x : ℕ) → i ≤ x → x < i + n
    → cube_reads (literals_from n i care value) x ≡ bit care x
reads_within zero i care value x low high = absurd (omega arith)
reads_within (suc n) i care value x low high =
    elim (eqb_tells i x) [
      | inl same ↦ reads_first x (bit care i) (record { sig = i; plain = bit value i }) _ same.0
          (reads_outside n (i + 1) care value x (λ above below. omega (arith, same.1))) ∙ ap (bit care) same.1
      | inr other ↦ reads_later x (bit care i) (record { sig = i; plain = bit value i }) _ other.0
          ∙ reads_within n (i + 1) care value x (omega (arith, other.1)) (omega arith)
    ]

-- a cube has literals of the signals that it cares for
pub cares_read : (care value x : ℕ) → care < 2 ^ code_width → cube_reads (literals_of care value) x ≡ bit care x
unfolding literals_of
cares_read care value x small =
    elim (cases_lt x code_width) [
      | inl below ↦ reads_within code_width 0 care value x (omega arith) (omega arith)
      | inr above ↦ reads_outside code_width 0 care value x (λ low high. omega arith)
          ∙ sym (rw (bit_at_above care code_width x small above) refl)
    ]

-- ---- the signals of a sum, a cube at a time

pub reads_more : (cubes : Sum) (i signals care value x : ℕ) (cube : List Literal) → i < length cubes
    → cube ≡ get_or cubes i cube → literals_of care value ≡ cube → care < 2 ^ code_width
    → bit signals x ≡ sum_reads (take i cubes) x → bit (bit_or signals care) x ≡ sum_reads (take (i + 1) cubes) x
reads_more cubes i signals care value x cube within is seen small before =
    let here : bit care x ≡ cube_reads cube x =
    sym (cares_read care value x small) ∙ ap (λ (c : List Literal). cube_reads c x) seen in
    let more = list_any_more (λ (c : List Literal). cube_reads c x) cubes i cube within in
    rw (bit-or, before, here, more, ← is) refl

-- ---- values

literal_keeps : (values x : ℕ) (l : Literal) → (l.sig == x) ≡ false
    → literal_value (flip values x) l ≡ literal_value values l
literal_keeps values x l other =
    elim (eqb_tells l.sig x) [
      | inl same ↦ absurd (true≢false (sym same.0 ∙ other))
      | inr apart ↦ ap (λ (b : Bool). beq b l.plain) (flip-other values x l.sig apart.1)
    ]

cube_keeps : (values x : ℕ) (cube : List Literal) → cube_reads cube x ≡ false
    → list_all (literal_value (flip values x)) cube ≡ list_all (literal_value values) cube
cube_keeps values x [] none = refl
cube_keeps values x (l ∷ ls) none =
    let apart = or_parts (l.sig == x) (cube_reads ls x) none in
    rw (literal_keeps values x l apart.0, cube_keeps values x ls apart.1) refl

sum_keeps : (values x : ℕ) (sum : Sum) → sum_reads sum x ≡ false
    → sum_value (flip values x) sum ≡ sum_value values sum
sum_keeps values x [] none = refl
sum_keeps values x (cube ∷ cubes) none =
    let apart = or_parts (cube_reads cube x) (sum_reads cubes x) none in
    rw (cube_keeps values x cube apart.0, sum_keeps values x cubes apart.1) refl

-- the gate of z has the same value once x, another signal that it doesn't read, has switched
gate_keeps : (gate : Gate) (z x values : ℕ) → z ≢ x → gate_reads gate x ≡ false
    → value_of gate z (flip values x) ≡ value_of gate z values
gate_keeps (SumGate sum) z x values other none = sum_keeps values x sum none
gate_keeps (Gc set reset) z x values other none =
    let apart = or_parts (sum_reads set x) (sum_reads reset x) none in
    rw (sum_keeps values x set apart.0, sum_keeps values x reset apart.1, flip-other values x z other) refl
gate_keeps (Cell name literals sum) z x values other none = sum_keeps values x sum none

keeps_if_there : (gate : Option Gate) (z x values : ℕ) → z ≢ x → reads_if_there gate x ≡ false
    → value_if_there gate z (flip values x) ≡ value_if_there gate z values
keeps_if_there None z x values other none = refl
keeps_if_there (Some gate) z x values other none = gate_keeps gate z x values other none

pub value_keeps : (n : Netlist) (z x values : ℕ) → z ≢ x → signal_reads n z x ≡ false
    → gate_value n z (flip values x) ≡ gate_value n z values
value_keeps n z x values other none =
    keeps_if_there (slice_get n.gates (gate_place n.signals z)) z x values other none

-- and stays excited
pub excitation_keeps : (n : Netlist) (z x values : ℕ) → z ≢ x → signal_reads n z x ≡ false
    → IsExcited n values z → IsExcited n (flip values x) z
excitation_keeps n z x values other none excited = record {
  gate = excited.gate;
  differs = λ same. excited.differs (sym (value_keeps n z x values other none) ∙ same ∙ flip-other values x z other);
}
