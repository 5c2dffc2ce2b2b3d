use Rattle.std.proofs.Common.{◌≡◌, ◌<◌, ◌+◌, ◌&&◌, ℕ, Bool, List, [], length, refl, sym, ap, ◌∙◌, arith}
use Rattle.std.proofs.lemmas.List.{get_or_read}
use Rattle.std.specs.List.{list_all}
use Rattle.si_base.specs.Bits.{bit}
use Rattle.si_base.specs.Limits.{code_width}
use Rattle.si_base.specs.Netlist.{literal_value}
use Rattle.si_base.specs.Sets.{flag}
use Rattle.si_audit.specs.Loops.Columns.{column, is_value}
use Rattle.si_audit.proofs.ColumnLemmas.{rest_value, first_value, literal_kept, no_literal, all_literals}
use Rattle.si_audit.proofs.values.put_product.Goals as goal
use Rattle.si_audit.proofs.values.put_product.Goals.{then-get, else-get}

pub loop-z-init : goal.loop-z-init
loop-z-init c = (
  refl,
  λ s k low has. ap (λ (b : Bool). b && rest_value k 0 c.cube.inside.care c.cube.inside.value)
      (c.raise_all.ensures.each s (omega (arith, low, c.raise_all.ensures.size)))
      ∙ first_value k c.cube.inside.care c.cube.inside.value c.args.cube.now c.cube.view_is,
)

pub loop-z-preserved : goal.loop-z-preserved
loop-z-preserved c =
    let care = c.cube.inside.care in
    let value = c.cube.inside.value in
    let z = c.loop-z.z in
    let old = c.loop-z.product in
    let within : z < code_width = omega (arith, c.loop-z-test.true) in
    elim c.if-get.branch [
      | then-get w ↦ (
          let own = w.index-columns-z.result in
          let own_is : own ≡ column c.args.columns.now z =
          get_or_read c.args.columns.now z own (omega (arith, c.requires.count, within)) w.index-columns-z.is [] in (
            ap (length {A = ℕ}) w.product-is ∙ w.keep_where.ensures.size ∙ c.loop-z.invariant.0,
            λ s k low has.
                let same : flag own s ≡ bit k z = ap (λ (ws : List ℕ). flag ws s) own_is ∙ has z within in
                let kept = w.keep_where.ensures.each s (omega (arith, low, c.loop-z.invariant.0)) in
                ap (λ (ws : List ℕ). flag ws s && rest_value k (z + 1) care value) w.product-is
                ∙ ap (λ (b : Bool). b && rest_value k (z + 1) care value)
                (kept ∙ ap (λ (v : Bool). flag old s && is_value v (flag own s)) w.get-then-get.ensures)
                ∙ literal_kept k z care value (flag old s) (flag own s) (list_all (literal_value k) c.args.cube.now)
                within (sym c.get.ensures ∙ w.if-get.true) same (c.loop-z.invariant.1 s k low has),
          ))
      | else-get w ↦ (
        ap (length {A = ℕ}) w.product-is ∙ c.loop-z.invariant.0,
        λ s k low has. ap (λ (ws : List ℕ). flag ws s && rest_value k (z + 1) care value) w.product-is
            ∙ no_literal k z care value (flag old s) (list_all (literal_value k) c.args.cube.now) within
            (sym c.get.ensures ∙ w.if-get.false) (c.loop-z.invariant.1 s k low has),
      )
    ]

pub returns : goal.returns
returns c =
    let z = c.loop-z.z in
    let product = c.loop-z.product in
    let end : z ≡ code_width = omega (arith, c.loop-z-test.false, c.loop-z.auto.z-end) in record {
      size_is = c.loop-z.invariant.0 ∙ c.raise_all.ensures.size;
      each = λ s k low has.
          all_literals k z c.cube.inside.care c.cube.inside.value (flag product s)
          (list_all (literal_value k) c.args.cube.now) end
          (c.loop-z.invariant.1 s k (omega (arith, low, c.raise_all.ensures.size)) has);
    }
