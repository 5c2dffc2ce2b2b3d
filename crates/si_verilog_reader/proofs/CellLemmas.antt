-- Cells, one after another.
use Rattle.std.proofs.Common.{◌≡◌, ℕ, suc, ◌+◌, ◌-◌, ◌<◌, List, [], ◌∷◌, ◌++◌, map}
use Rattle.std.proofs.Common.{Ok, Err, refl, sym, ap, ◌∙◌, arith}
use Rattle.std.proofs.lemmas.List.{map-append}
use Rattle.si_tokens.specs.declared.fault.ReadFault.{ReadFault}
use Rattle.si_tokens.specs.declared.fault.ReadFault.TheVariants as faults
use Rattle.si_tokens.specs.Loops.Parts.{Shows}
use Rattle.si_verilog_reader.specs.Placed.{Placed}
use Rattle.si_verilog_reader.specs.Parts.{Reading}
use Rattle.si_verilog_reader.specs.Modules.{Cell, cell_at, cells_at}
use Rattle.si_verilog_reader.specs.Loops.Held.{cell_now}
use Rattle.si_verilog_reader.specs.declared.cells.Cell.{Cell as CellHeld}

-- so many of `count` are read, and all of them are what the others lead to
module _ (count i : ℕ) (old : List CellHeld) (ps : List Placed) (all : Reading (List Cell))
    (so_far : cells_at (count - i) (map cell_now old) ps ≡ all) where
  pub one_more : (new : List CellHeld) (cell : CellHeld) (rest : List Placed) → i < count
      → new ≡ old ++ cell ∷ [] → cell_at (map cell_now old) ps ≡ Ok (cell_now cell, rest)
      → cells_at (count - (i + 1)) (map cell_now new) rest ≡ all
  one_more new cell rest less is read =
      let left : count - i ≡ suc (count - (i + 1)) = omega arith in
      let longer : map cell_now new ≡ map cell_now old ++ cell_now cell ∷ [] =
      ap (map cell_now) is ∙ map-append cell_now old (cell ∷ []) in
      let next : cells_at (count - i) (map cell_now old) ps
      ≡ cells_at (count - (i + 1)) (map cell_now old ++ cell_now cell ∷ []) rest = rw (left, read) refl in
      rw longer (sym next ∙ so_far)

  pub fails : (fault : ReadFault) → i < count → Shows fault (cell_at (map cell_now old) ps) → Shows fault all
  fails faults.NoMemory less shows = tt
  fails (faults.Stop stop) less shows =
      let left : count - i ≡ suc (count - (i + 1)) = omega arith in
      let here : cells_at (count - i) (map cell_now old) ps ≡ Err stop = rw (left, shows) refl in
      sym so_far ∙ here
