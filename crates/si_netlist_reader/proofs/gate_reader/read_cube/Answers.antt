use Rattle.std.proofs.Common.{length, ◌<◌, ◌+◌, Bool, Some, sym, ◌∙◌, ap, arith, subst}
use Rattle.std.proofs.lemmas.Result.{IfOk-at_ok}
use Rattle.si_base.specs.declared.ids.Literal.{Literal}
use Rattle.si_base.specs.Bits.{IsSet}
use Rattle.si_base.specs.Limits.{code_width}
use Rattle.si_netlist_reader.proofs.CubeReading.{in_none, one_read, undeclared, disordered, ordered}
use Rattle.si_netlist_reader.proofs.gate_reader.read_cube.Goals as goal
use Rattle.si_netlist_reader.proofs.gate_reader.read_cube.Goals.{in-Err, in-Ok+else-literal-next}

pub returns-then-is_one : goal.returns-then-is_one
returns-then-is_one c = one_read c.args.signals.now c.args.words.now (sym c.is_one.ensures ∙ c.if-is_one.true)

pub loop-word-init : goal.loop-word-init
loop-word-init c = in_none c.args.signals.now c.args.words.now

pub loop-word-preserved-then-literal-next : goal.loop-word-preserved-then-literal-next
loop-word-preserved-then-literal-next c =
    let read = sym c.in_ok-kind.ensures.read ∙ ap (λ r. Some r) c.in-Ok.is in
    let sig = ap (λ (l : Literal). l.sig) c.literal.view_is in
    rw c.or-fault-then-literal-next.ensures (disordered c.args.signals.now c.args.words.now c.loop-word.word-index _
    c.loop-word-test.true c.loop-word.care c.loop-word.value c.loop-word.next c.loop-word.fault c.loop-word.invariant
    c.in-Ok.literal read (omega (arith, sig, c.if-literal-next.true)))

pub loop-word-preserved : goal.loop-word-preserved
loop-word-preserved c = elim c.match-branch-2.branch [
  | in-Err w ↦
      let read = sym c.in_ok-kind.ensures.read ∙ ap (λ r. Some r) w.in-Err.is in
      rw (w.care-is, w.value-is, w.next-is, w.fault-is, w.or-fault.ensures) (undeclared c.args.signals.now
      c.args.words.now c.loop-word.word-index _ c.loop-word-test.true c.loop-word.care c.loop-word.value
      c.loop-word.next c.loop-word.fault c.loop-word.invariant w.in-Err.kind read)
  | in-Ok+else-literal-next w ↦
      let read = sym c.in_ok-kind.ensures.read ∙ ap (λ r. Some r) w.in-Ok.is in
      let sig = ap (λ (l : Literal). l.sig) w.literal.view_is in
      let there : w.in-Ok.literal.sig < length c.args.signals.now =
      IfOk-at_ok (λ (l : Literal). l.sig < length c.args.signals.now) w.in-Ok.is c.in_ok-kind.ensures.within in
      let small : w.in-Ok.literal.sig < code_width = omega (arith, there, c.requires) in
      let Set : Bool → Type 0 = λ v. IsSet c.loop-word.value w.in-Ok.literal.sig v w.set-value.result in
      let set : Set w.in-Ok.literal.plain =
      subst Set (ap (λ (l : Literal). l.plain) w.literal-in-Ok.view_is) w.set-value.ensures in
      let more = ap (λ (l : Literal). l.sig + 1) w.literal-in-Ok.view_is in
      rw (w.care-is, w.value-is, w.next-is, w.fault-is) (ordered c.args.signals.now c.args.words.now
      c.loop-word.word-index _ c.loop-word-test.true c.loop-word.care c.loop-word.value c.loop-word.next
      c.loop-word.fault c.loop-word.invariant w.in-Ok.literal _ _ _ read
      (omega (arith, sig, w.if-literal-next.false)) small w.set-care.ensures set more)
]
