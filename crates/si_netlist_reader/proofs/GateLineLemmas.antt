-- The line of a gate, by its head and the words behind it.
use Rattle.std.proofs.Common.{◌≡◌, ℕ, ◌≤◌, true, List, [], ◌∷◌, length, drop, get_or, MatchResult, ap, sym, ◌∙◌, arith}
use Rattle.std.proofs.Common.{Bor, Some, None, Result, Ok, Err, bytes_eq}
use Rattle.si_base.specs.Netlist.{SumGate}
use Rattle.si_base.specs.declared.fault.TextKind.{TextKind}
use Rattle.si_base.specs.declared.fault.TextKind.TheVariants.{BadLine}
use Rattle.si_netlist.specs.Loops.Parts.{gate_seen}
use Rattle.si_netlist.specs.declared.gate.Gate.{Gate}
use Rattle.si_words.specs.Loops.Reads.{words_now}
use Rattle.si_tokens.specs.LineParts.{made, part_fault, part_value}
use Rattle.si_netlist_reader.specs.GateParts.{gate_part, gate_fault}
use Rattle.si_netlist_reader.specs.Loops.Headers.{gate_in}

module _ (names : List (List ℕ)) (name : List ℕ) where
  pub read_line : (words tail : List (Bor (List ℕ))) (d : Bor (List ℕ)) (read : Result Gate TextKind)
      → 1 ≤ length words → tail ≡ drop 1 words → bytes_eq name (get_or words 0 d).now ≡ true
      → made gate_seen (Some read) ≡ gate_part names (words_now tail)
      → MatchResult read (λ gate. (gate_fault names name (words_now words) ≡ None)
      × (gate_seen gate ≡ gate_in names (words_now words)))
      (λ kind. gate_fault names name (words_now words) ≡ Some kind)
  read_line [] tail d read some is head says = absurd (omega arith)
  read_line (w ∷ ws) tail d (Ok gate) some is head says =
      let part = says ∙ ap (λ ws. gate_part names (words_now ws)) is in
      (rw head (ap part_fault (sym part)), ap (part_value (SumGate [])) part)
  read_line (w ∷ ws) tail d (Err kind) some is head says =
      let part = says ∙ ap (λ ws. gate_part names (words_now ws)) is in
      rw head (ap part_fault (sym part))

  pub no_gate : (words tail : List (Bor (List ℕ))) (d : Bor (List ℕ)) → 1 ≤ length words → tail ≡ drop 1 words
      → bytes_eq name (get_or words 0 d).now ≡ true → None ≡ gate_part names (words_now tail)
      → gate_fault names name (words_now words) ≡ Some BadLine
  no_gate [] tail d some is head none = absurd (omega arith)
  no_gate (w ∷ ws) tail d some is head none =
      let part = none ∙ ap (λ ws. gate_part names (words_now ws)) is in
      rw head (ap part_fault (sym part))
