use Rattle.std.proofs.Common.{◌≡◌, ◌∙◌, ap, filter, take, length, List}
use Rattle.si_cell.specs.Library.{admits}
use Rattle.si_cell.specs.declared.pins.Pins.{Pins}
use Rattle.std.proofs.lemmas.Result.{IfOk-weaker}
use Rattle.si_base.specs.declared.ids.Literal.{Literal}
use Rattle.si_checks.specs.Loops.Lent.{coded_of}
use Rattle.si_divisor.specs.Divisors.{AreDivisors, max_divisors}
use Rattle.si_divisor.specs.Loops.Completions.{of_cells}
use Rattle.si_divisor.proofs.DivisorLemmas.{divisors_are}
use Rattle.si_divisor.proofs.divisors.divisors.Goals as goal

pub returns : goal.returns
returns c =
    let pins : List Literal = c.in_ok-all.all.items in
    let kept : c.as_slice-2.result.now ≡ filter (admits c.args.library.now.pins) pins =
    c.as_slice-2.ensures.value ∙ c.in_ok-pins.ensures ∙ ap (λ (p : Pins). filter (admits p) c.as_slice.result.now)
    c.pins.ensures ∙ ap (filter (admits c.args.library.now.pins)) c.as_slice.ensures.value in
    let signals = length (coded_of c.args.graph).graph.signals in
    IfOk-weaker c.over_pins.result
    (λ found. found.items ≡ take max_divisors (of_cells c.as_slice-2.result.now c.args.library.now.cells))
    (λ found. AreDivisors (coded_of c.args.graph) c.args.library.now c.args.z found.items)
    (λ found is. record {
      pins = pins;
      are_pins = c.in_ok-all.ensures;
      are = is
          ∙ ap (λ (ls : List Literal). take max_divisors (of_cells ls c.args.library.now.cells))
          kept
          ∙ divisors_are signals c.args.library.now pins c.in_ok-all.ensures.in_order;
    }) c.over_pins.ensures
