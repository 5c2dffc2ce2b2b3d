use Rattle.std.proofs.Common.{◌≡◌, ◌≤◌, ◌<◌, sym, ◌∙◌, ap, subst, length, All, List, get_or, take, ℕ, arith}
use Rattle.std.proofs.lemmas.List.{take_all}
use Rattle.std.proofs.lemmas.List.Elements.{All-push}
use Rattle.si_base.specs.Limits.{code_width}
use Rattle.si_base.specs.Netlist.{Sum, sum_value}
use Rattle.si_base.specs.declared.ids.Literal.{Literal}
use Rattle.si_cell.specs.Expanded.{placed_sum, sources, plain, expanded}
use Rattle.si_cell.specs.Library.{cell_at, Cell, Instance, Library}
use Rattle.si_cell.proofs.ExpandedLemmas.{expanded_value, sum_inside}
use Rattle.si_cell.proofs.expand.expand.Goals as goal

pub placed_cube-requires-clause-signals : goal.placed_cube-requires-clause-signals
placed_cube-requires-clause-signals c =
    subst (All (λ (l : Literal). l.sig < code_width)) (sym (c.as_slice.ensures.value ∙ c.sources_of-at_pins.ensures))
    (All-push (λ (l : Literal). l.sig < code_width) c.args.instance.now.literals
    (plain c.args.z) c.requires.instance.signals c.requires.signal)

-- the cubes that are gone through are those of the instance's cell
cubes_are : (library : Library) (i held : Instance) (cell : Cell) (cubes sum : Sum) → held ≡ i
    → cell ≡ cell_at library held.cell
    → sum ≡ cell.sum → cubes ≡ sum → cubes ≡ (cell_at library i.cell).sum
cubes_are library i held cell cubes sum e is sum_is same = same ∙ sum_is ∙ ap (λ (x : Cell). x.sum) (is
    ∙ ap (λ (x : Instance). cell_at library x.cell) e)

-- the literals of one of them stand at pins
inside_of : (sum : Sum) (cubes : Sum) (k : ℕ) (cube : List Literal) (n count : ℕ)
    → All (All (λ (l : Literal). l.sig < n)) sum → cubes ≡ sum
    → k < length cubes → cube ≡ get_or cubes k cube → n ≡ count → All (λ (l : Literal). l.sig < count) cube
inside_of sum cubes k cube n count all e within is same =
    let here : All (All (λ (l : Literal). l.sig < n)) cubes = subst (All (All (λ (l : Literal). l.sig < n)))
    (sym e) all in
    subst (λ (m : ℕ). All (λ (l : Literal). l.sig < m) cube) same (rw is (here k cube within))

pub placed_cube-requires-clause-pins : goal.placed_cube-requires-clause-pins
placed_cube-requires-clause-pins c =
    let inside = sum_inside c.args.library.now c.args.instance.now c.args.z c.cell-cell.ensures.library
    c.requires.instance in
    let cubes = cubes_are c.args.library.now c.args.instance.now _ _ c.cubes-cube-items.result.now c.cell.inside.sum
    c.instance.view_is
    c.cell-cell.ensures.cell (ap (λ (x : Cell). x.sum) c.cell.view_is) c.cubes-cube-items.ensures in
    let count = ap length (sym (c.as_slice.ensures.value ∙ c.sources_of-at_pins.ensures)) in
    subst (All (λ (l : Literal). l.sig < length c.as_slice.result.now)) (sym (c.wide.view_is ∙ c.widened-wide.ensures))
    (inside_of _ c.cubes-cube-items.result.now c.loop-cube.cube-index c.cube-item.result _ _ inside cubes
    c.loop-cube-test.true c.cube-item.is count)

-- all cubes were gone through
all_done : (at_pins : List Literal) (sum cubes made : Sum) (k : ℕ) → made ≡ placed_sum at_pins (take k sum)
    → cubes ≡ sum → length cubes ≤ k
    → made ≡ placed_sum at_pins sum
all_done at_pins sum cubes made k is same past = is ∙ ap (placed_sum at_pins) (take_all k sum (omega
    (arith, past, ap length same)))

pub returns-clause-sum : goal.returns-clause-sum
unfolding expanded
returns-clause-sum c =
    let cubes = cubes_are c.args.library.now c.args.instance.now _ _ c.cubes-cube-items.result.now c.cell.inside.sum
    c.instance.view_is
    c.cell-cell.ensures.cell (ap (λ (x : Cell). x.sum) c.cell.view_is) c.cubes-cube-items.ensures in
    c.new.ensures ∙ all_done (sources c.args.instance.now.literals c.args.z)
    (cell_at c.args.library.now c.args.instance.now.cell).sum
    c.cubes-cube-items.result.now c.loop-cube.cubes.items c.loop-cube.cube-index c.loop-cube.invariant cubes
    c.loop-cube-test.false

pub returns-clause-value : goal.returns-clause-value
returns-clause-value c = λ code. (
    ap (sum_value code) (returns-clause-sum c) ∙ expanded_value c.args.library.now c.args.instance.now c.args.z
    c.cell-cell.ensures.library c.requires.instance c.requires.signal code)
