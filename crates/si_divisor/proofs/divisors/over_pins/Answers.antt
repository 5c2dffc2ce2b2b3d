use Rattle.std.proofs.Common.{◌≡◌, ◌≤◌, ◌<◌, ◌∙◌, sym, length, rules}
use Rattle.si_divisor.specs.Divisors.{max_divisors}
use Rattle.si_divisor.proofs.CompletionLemmas.{stays_few, cell_put, cell_passed, cells_done}
use Rattle.si_divisor.proofs.divisors.over_pins.Goals as goal
use Rattle.si_divisor.proofs.divisors.over_pins.Goals.{then-has_few+in_ok-add_completions, else-has_few}

pub loop-k-preserved : goal.loop-k-preserved
loop-k-preserved c =
    let within : c.loop-k.k < length c.args.library.now.cells = search rules in
    let count : c.len-count.result ≡ length c.cell.result.now.pins = search rules in
    elim c.if-has_few.branch [
      | then-has_few+in_ok-add_completions w ↦ (
          let found : c.if-has_few.found.items ≡ w.add_completions.new.found.items = search rules in
          let here = cell_put c.args.pins.now c.args.library.now c.loop-k.k within c.loop-k.found.items
          c.loop-k.invariant.found c.cell.result.now c.len-count.result c.cell.ensures.cell count
          w.new-literals.result.items w.add_completions.new.found.items (sym c.has_few.ensures ∙ w.if-has_few.true)
          w.new-literals.ensures w.in_ok-add_completions.ensures.found in
          record {
            found = found ∙ here;
            few = stays_few max_divisors c.if-has_few.found.items _ (found ∙ here);
          })
      | else-has_few w ↦ (
          let found : c.if-has_few.found.items ≡ c.loop-k.found.items = search rules in
          let here = cell_passed c.args.pins.now c.args.library.now c.loop-k.k within c.loop-k.found.items
          c.loop-k.invariant.found c.cell.result.now c.len-count.result c.cell.ensures.cell count
          (sym c.has_few.ensures ∙ w.if-has_few.false) in
          record {
            found = found ∙ here;
            few = stays_few max_divisors c.if-has_few.found.items _ (found ∙ here);
          })
    ]

pub returns : goal.returns
returns c =
    let past : length c.args.library.now.cells ≤ c.loop-k.k = search rules in
    cells_done c.args.pins.now c.args.library.now.cells c.loop-k.k c.loop-k.found.items past c.loop-k.invariant.found
