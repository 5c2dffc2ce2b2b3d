-- What a text without fault spells is a library, and the names of ports are those of its cells.
use Rattle.std.proofs.Common.{◌≡◌, ℕ, zero, suc, ◌&&◌, List, bytes_eq, codes, Result, Ok, Err, refl, inl, inr, arith}
use Rattle.std.proofs.lemmas.Bool.{cases_Bool}
use Rattle.si_words.specs.Sums.{is_empty}
use Rattle.si_cell.specs.Library.{Cell, IsLibrary}
use Rattle.si_cell.proofs.LawLemmas.{no_cells}
use Rattle.si_tokens.specs.declared.fault.Stop.{Stop}
use Rattle.si_tokens.specs.Unread.{Unread, Piece, unread, size, word}
use Rattle.si_genlib.specs.Gate.{Gate, with_gate, with_ports}
use Rattle.si_genlib.specs.Ports.{ArePorts}
use Rattle.si_genlib.specs.Statements.{gate_at, pin_at, Progress, nothing_yet, gate_statement_at, pin_statement_at}
use Rattle.si_genlib.specs.Statements.{statement_at, kept_from}
use Rattle.si_genlib.specs.GenlibText.{all_kept, kept_or_nothing, kept_of, library_of, ported_of}
use Rattle.si_genlib.proofs.GateCellLemmas.{IsReadGate, Holds, AreKept, still_kept}
use Rattle.si_genlib.proofs.GateReadLemmas.{then_holds, anything, gate_is_read}

-- what holds of what is kept so far
abbrev KeptSoFar : Progress → Type 0
KeptSoFar kept = AreKept kept.cells kept.ports

abbrev StillKept : Progress × Unread → Type 0
StillKept x = KeptSoFar x.0

nothing_is_kept : KeptSoFar nothing_yet
nothing_is_kept = record {
  cells = no_cells;
  ports = record { count = refl; each = λ k cell names inside. absurd (omega (arith, inside)) };
}

gate_adds : (old : Progress) (line : ℕ) (u : Unread) → KeptSoFar old → Holds StillKept (gate_statement_at old line u)
unfolding gate_statement_at
gate_adds old line u are = then_holds {A = Gate × Unread} (λ x. IsReadGate x.0) StillKept (gate_at line u) _
    (gate_is_read line u)
    (λ gate is. then_holds {A = List Cell} (λ cells. AreKept cells (with_ports old.ports gate.0)) StillKept
    (with_gate old.cells gate.0) _
    (still_kept old.cells old.ports gate.0 are is)
    (λ cells fine. fine))

pin_adds : (old : Progress) (u : Unread) → KeptSoFar old → Holds StillKept (pin_statement_at old u)
unfolding pin_statement_at
pin_adds old u are = then_holds {A = Unread} (λ x. Unit {0}) StillKept (pin_at u) _ (anything (pin_at u))
    (λ rest any. are)

statement_adds : (old : Progress) (p : Piece) → KeptSoFar old → Holds StillKept (statement_at old p)
unfolding statement_at
statement_adds old p are = elim (cases_Bool (bytes_eq (codes "GATE") p.bytes)) [
  | inl gate ↦ rw gate (gate_adds old p.line p.rest are)
  | inr other ↦ elim (cases_Bool (bytes_eq (codes "PIN") p.bytes && old.begun)) [
    | inl pin ↦ rw (other, pin) (pin_adds old p.rest are)
    | inr none ↦ rw (other, none) tt
  ]
]

kept_are : (most : ℕ) (old : Progress) (u : Unread) → KeptSoFar old → Holds KeptSoFar (kept_from most old u)
kept_are zero old u are = tt
kept_are (suc most) old u are = elim (cases_Bool (is_empty (word u).bytes)) [
  | inl none ↦ rw none are
  | inr some ↦ rw some (then_holds {A = Progress × Unread} StillKept KeptSoFar (statement_at old (word u)) _
      (statement_adds old (word u) are) (λ new fine. kept_are most new.0 new.1 fine))
]

all_are : (u : Unread) → Holds KeptSoFar (all_kept nothing_yet u)
unfolding all_kept
all_are u = kept_are (suc (size u)) nothing_yet u nothing_is_kept

-- what was kept are the cells of a library, with the names of their ports
pub read_are : (u : Unread) (kept : Progress) → all_kept nothing_yet u ≡ Ok kept → AreKept kept.cells kept.ports
read_are u kept is = rw is at (all_are u)

kept_of_text : (text : List ℕ) → KeptSoFar (kept_of text)
kept_of_text text = by_result (all_kept nothing_yet (unread text)) (all_are (unread text))
  where
    by_result : (r : Result Progress Stop) → Holds KeptSoFar r → KeptSoFar (kept_or_nothing r)
    by_result (Ok kept) are = are
    by_result (Err stop) are = nothing_is_kept

pub is_library : (text : List ℕ) → IsLibrary (library_of text)
unfolding library_of
is_library text = record { name = refl; cells = (kept_of_text text).cells }

-- ---- the names of ports
pub same_library : (text : List ℕ) → (ported_of text).library ≡ library_of text
unfolding ported_of
same_library text = refl

pub ports_are : (text : List ℕ) → ArePorts (library_of text).cells (ported_of text).ports
unfolding library_of ported_of
ports_are text = (kept_of_text text).ports
