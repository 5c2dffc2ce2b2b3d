use Rattle.std.proofs.Common.{◌≡◌, ◌<◌, ◌≤◌, List, sym, refl, subst, length, rules}
use Rattle.si_base.specs.declared.ids.Literal.{Literal}
use Rattle.si_cell.specs.Library.{Cell, cell_at}
use Rattle.si_match.specs.Triggers.{AreMissing}
use Rattle.si_match.proofs.SearchLemmas.{all_cells, found_cell, none_cell, no_cell_left}
use Rattle.si_match.proofs.fit.first_fitting.Goals as goal

pub loop-k-init : goal.loop-k-init
loop-k-init c = record {
  told = all_cells c.args.coded.now c.args.z c.args.library.now;
  within = c.requires.states;
}

pub complete-requires-clause-missing : goal.complete-requires-clause-missing
complete-requires-clause-missing c =
    let within : c.loop-k.k < length c.args.library.now.cells = search rules in
    let AtCell : Cell → Type 0 =
    λ cell. AreMissing c.args.coded.now c.args.z cell c.new-literals.result.items c.args.needed.signals in
    let AtLiterals : List Literal → Type 0 =
    λ ls. AreMissing c.args.coded.now c.args.z (cell_at c.args.library.now c.loop-k.k) ls c.args.needed.signals in
    subst AtCell (sym c.cell-cell.ensures.cell)
    (subst AtLiterals (sym c.new-literals.ensures) (c.requires.needed c.loop-k.k within))

pub complete-requires-clause-witnesses : goal.complete-requires-clause-witnesses
complete-requires-clause-witnesses c = c.loop-k.invariant.within

pub returns-then-complete : goal.returns-then-complete
returns-then-complete c =
    let within : c.loop-k.k < length c.args.library.now.cells = search rules in
    let count : c.len-pins.result ≡ length c.cell-cell.result.now.pins = search rules in
    found_cell c.args.coded.now c.args.coded.now c.args.z c.args.library.now c.loop-k.k c.cell-cell.result.now
    c.new-literals.result.items c.len-pins.result c.pins-allowed.result refl c.pins-allowed.ensures within c.cell-cell.ensures.cell
    c.new-literals.ensures count c.loop-k.invariant.told c.complete.new.literals.items
    (c.complete.ensures.found c.if-complete.true)

pub loop-k-preserved : goal.loop-k-preserved
loop-k-preserved c =
    let within : c.loop-k.k < length c.args.library.now.cells = search rules in
    let count : c.len-pins.result ≡ length c.cell-cell.result.now.pins = search rules in
    record {
      told = none_cell c.args.coded.now c.args.coded.now c.args.z c.args.library.now c.loop-k.k
          c.cell-cell.result.now c.new-literals.result.items c.len-pins.result c.pins-allowed.result refl
          c.pins-allowed.ensures within c.cell-cell.ensures.cell
          c.new-literals.ensures count c.loop-k.invariant.told (c.complete.ensures.none c.if-complete.false);
      within = c.complete.ensures.witnesses;
    }

pub returns : goal.returns
returns c =
    let past : length c.args.library.now.cells ≤ c.loop-k.k = search rules in
    no_cell_left c.args.coded.now c.args.coded.now c.args.z c.args.library.now c.loop-k.k refl past
    c.loop-k.invariant.told
