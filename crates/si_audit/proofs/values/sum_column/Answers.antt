use Rattle.std.proofs.Common.{◌≡◌, ◌+◌, ◌||◌, Bool, [], drop, ap, ◌∙◌, arith}
use Rattle.std.proofs.lemmas.List.{drop_all}
use Rattle.si_base.specs.Netlist.{sum_value}
use Rattle.si_base.specs.Sets.{flag}
use Rattle.si_audit.proofs.ColumnLemmas.{cube_joined, all_cubes}
use Rattle.si_audit.proofs.values.sum_column.Goals as goal

pub loop-j-preserved : goal.loop-j-preserved
loop-j-preserved c =
    let j = c.loop-j.j in
    let cubes = c.cubes-cubes.result.now in
    let product = c.put_product.new.product in
    let before = c.loop-j.invariant in (
      c.unite.ensures.size ∙ before.0,
      c.put_product.ensures.size_is ∙ before.1,
      λ s k low has.
          ap (λ (b : Bool). b || sum_value k (drop (j + 1) cubes)) (c.unite.ensures.each s)
          ∙ cube_joined k j cubes c.index-cubes-j.result (flag c.loop-j.values s) (flag product s)
          (sum_value k c.args.sum.now) c.loop-j-test.true c.index-cubes-j.is
          (c.put_product.ensures.each s k (omega (arith, low, before.1)) has)
          (before.2 s k low has),
    )

pub returns : goal.returns
returns c =
    let j = c.loop-j.j in
    let cubes = c.cubes-cubes.result.now in
    let none : drop j cubes ≡ [] = drop_all j cubes (omega (arith, c.loop-j-test.false)) in record {
      size_is = c.loop-j.invariant.0;
      each = λ s k low has.
          all_cubes k (drop j cubes) (flag c.loop-j.values s) (sum_value k c.args.sum.now) none
          (c.loop-j.invariant.2 s k low has);
    }
