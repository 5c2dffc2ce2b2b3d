use Rattle.std.proofs.Common.{◌≡◌, ◌<◌, ℕ, sym, ◌∙◌, ap, arith, subst, Bool, length, All}
use Rattle.si_base.specs.Bits.{bit}
use Rattle.si_base.specs.declared.ids.Literal.{Literal}
use Rattle.si_cube.specs.Literals.{literals_of}
use Rattle.si_cell.specs.Expanded.{placed}
use Rattle.si_cell.proofs.PlacedLemmas.{none_placed, passed, placed_one, met, all_placed}
use Rattle.si_cell.proofs.expand.placed_cube.Goals as goal

pub loop-i-init : goal.loop-i-init
loop-i-init c = none_placed c.args.at_pins.now c.args.care c.args.value

pub loop-i-preserved-then-not-get : goal.loop-i-preserved-then-not-get
loop-i-preserved-then-not-get c =
    passed c.args.at_pins.now c.args.care c.args.value c.loop-i.i _ _ (sym c.get.ensures
    ∙ c.if-not-get.true) c.loop-i.invariant

pub returns-then-has_complement : goal.returns-then-has_complement
returns-then-has_complement c =
    let is : placed c.args.at_pins.now (record { sig = c.loop-i.i; plain = bit c.args.value c.loop-i.i })
    ≡ c.literal_at-literal.result =
    ap (λ (b : Bool). placed c.args.at_pins.now (record { sig = c.loop-i.i; plain = b }))
    (sym c.get-in-loop-i.ensures) ∙ sym c.literal_at-literal.ensures.literal in
    met c.args.at_pins.now c.args.care c.args.value c.loop-i.i c.loop-i.made_care c.loop-i.made_value
    c.literal_at-literal.result
    (omega (arith, c.loop-i-test.true, c.requires.few)) (sym c.get.ensures ∙ c.if-not-get.false) is
    (sym c.has_complement.ensures ∙ c.if-has_complement.true) c.loop-i.invariant

pub loop-i-preserved : goal.loop-i-preserved
loop-i-preserved c =
    let is : placed c.args.at_pins.now (record { sig = c.loop-i.i; plain = bit c.args.value c.loop-i.i })
    ≡ c.literal_at-literal.result =
    ap (λ (b : Bool). placed c.args.at_pins.now (record { sig = c.loop-i.i; plain = b }))
    (sym c.get-in-loop-i.ensures) ∙ sym c.literal_at-literal.ensures.literal in
    placed_one c.args.at_pins.now c.args.care c.args.value c.loop-i.i c.loop-i.made_care c.loop-i.made_value _ _
    c.literal_at-literal.result
    (sym c.get.ensures ∙ c.if-not-get.false) is (sym c.has_complement.ensures
    ∙ c.if-has_complement.false) c.set-made_care.ensures
    c.set-made_value.ensures c.loop-i.invariant

pub returns : goal.returns
returns c =
    let last : length c.args.at_pins.now ≡ c.loop-i.i = omega (arith, c.loop-i-test.false, c.loop-i.auto.i-end) in
    all_placed c.args.at_pins.now c.args.care c.args.value c.loop-i.i c.loop-i.made_care c.loop-i.made_value (omega
    (arith, last, c.requires.few))
    (subst (λ (n : ℕ). All (λ (l : Literal). l.sig < n)
    (literals_of c.args.care c.args.value)) last c.requires.pins) c.loop-i.invariant
