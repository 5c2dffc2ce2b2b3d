use Rattle.std.proofs.Common.{◌≡◌, ℕ, ◌+◌, ◌*◌, ◌<◌, [], ◌∷◌, ◌++◌, length, arith, rules, subst}
use Rattle.si_base.specs.Bits.{bit}
use Rattle.si_base.specs.Netlist.{literal_value}
use Rattle.si_cell.specs.Limits.{table_codes}
use Rattle.si_match.proofs.ColumnLemmas.{one_column_more, with_next_pin}
use Rattle.si_match.proofs.columns.with_literal.Goals as goal

pub loop-rest-preserved : goal.loop-rest-preserved
loop-rest-preserved c =
    let columns = c.args.columns.now in
    let l = c.args.literal in
    let rest = c.loop-rest.rest in
    let within : 2 * rest + 1 < length columns = omega (arith, c.loop-rest-test.true) in
    let column = c.literal_column-at_codes.result in
    let told : (m : ℕ) → m < table_codes → bit column m ≡ literal_value m l =
    λ m below. subst (λ x. bit column m ≡ literal_value m x) c.literal.view_is
    (c.literal_column-at_codes.ensures m below) in
    record {
      count = search rules;
      columns = λ cell ls are. one_column_more cell (ls ++ l ∷ []) c.loop-rest.chosen.items
          (c.loop-rest.invariant.columns cell ls are) c.merged.result rest c.push.new.self.items
          c.loop-rest.invariant.count c.push.ensures.items
          (λ m below. with_next_pin cell ls columns are l rest m column c.merged.result within below
          (told m below) (c.merged.ensures m));
    }
