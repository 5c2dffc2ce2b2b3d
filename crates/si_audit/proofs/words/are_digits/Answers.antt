use Rattle.std.proofs.Common.{◌≡◌, Bool, true, false, refl, sym, ap, ◌∙◌, arith}
use Rattle.std.proofs.lemmas.Bool.{true≢false}
use Rattle.si_circuit.specs.Spelling as spelled
use Rattle.si_audit.proofs.WordParts.{digits_if, not_digits}
use Rattle.si_audit.proofs.words.are_digits.Goals as goal

pub returns-then-bytes-i : goal.returns-then-bytes-i
returns-then-bytes-i c = (
  λ (e : false ≡ true). absurd (true≢false (sym e)),
  λ same. absurd (not_digits c.args.k c.args.bits c.loop-i.i c.args.bytes.now c.loop-i-test.true
      (λ at. c.if-bytes-i.true
      (at ∙ sym (c.digit.ensures ∙ ap (λ (b : Bool). spelled.digit b) c.get-is_one.ensures))) same),
)

pub returns : goal.returns
returns c = (
  λ e. digits_if c.args.k c.args.bits c.args.bytes.now c.requires.count
      (λ j below. c.loop-i.invariant j (omega (arith, below, c.loop-i-test.false))),
  λ same. refl,
)
