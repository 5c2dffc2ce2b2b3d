use Rattle.std.proofs.Common.{◌≡◌, sym, not, refl, Bool, true, false, length, rules}
use Rattle.std.proofs.lemmas.Bool.{true≢false}
use Rattle.si_match.proofs.StateLemmas.{refutes_at}
use Rattle.si_match.proofs.refute.is_refuted_at.Goals as goal

not_is : (b : Bool) → not b ≡ true → b ≡ false
not_is true e = absurd (true≢false (sym e))
not_is false e = refl

pub returns : goal.returns
returns c = λ refuted. (
    let none = c.can_be.ensures (not_is c.can_be.result refuted) in
    let pins_are : c.len-pins.result ≡ length c.args.cell.now.pins = search rules in
    refutes_at c.args.coded.now c.args.z c.args.s c.args.cell.now c.args.literals.now c.args.cell.now.sum
    c.code-code.result c.values_of.result
    c.len-pins.result c.set-values.result c.get.result c.next_value.result c.requires.first refl
    pins_are c.code-code.ensures c.values_of.ensures c.get.ensures
    c.next_value.ensures c.set-values.ensures none)
