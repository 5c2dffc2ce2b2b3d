use Rattle.std.proofs.Common.{Some, sym, ◌∙◌, ap}
use Rattle.std.proofs.Common.{Option, Ok}
use Rattle.si_base.specs.declared.fault.TextKind.{TextKind}
use Rattle.si_cube.specs.Literals.{literals_of}
use Rattle.si_tokens.specs.LineParts.{held}
use Rattle.si_cell.proofs.CubeLemmas.{one_read, undeclared, again, one_more, cube_read}
use Rattle.si_cell.proofs.sums.read_cube.Goals as goal
use Rattle.si_cell.proofs.sums.read_cube.Goals.{in-Err, in-Ok+else-get}

pub returns-then-is_one : goal.returns-then-is_one
returns-then-is_one c = one_read c.args.declared.now c.args.words.now (sym c.is_one.ensures ∙ c.if-is_one.true)

pub loop-word-preserved-then-get : goal.loop-word-preserved-then-get
loop-word-preserved-then-get c =
    let read = sym c.in_ok-kind.ensures.read ∙ ap (λ r. Some r) c.in-Ok.is in
    rw c.or-fault-then-get.ensures (again c.args.declared.now c.args.words.now c.loop-word.word-index _
    c.loop-word-test.true c.loop-word.care c.loop-word.value c.loop-word.fault c.loop-word.invariant c.in-Ok.literal
    read (sym c.get.ensures ∙ c.if-get.true))

pub loop-word-preserved : goal.loop-word-preserved
loop-word-preserved c = elim c.match-branch-2.branch [
  | in-Err w ↦
      let read = sym c.in_ok-kind.ensures.read ∙ ap (λ r. Some r) w.in-Err.is in
      rw (w.care-is, w.value-is, w.fault-is, w.or-fault.ensures) (undeclared c.args.declared.now c.args.words.now
      c.loop-word.word-index _ c.loop-word-test.true c.loop-word.care c.loop-word.value c.loop-word.fault
      c.loop-word.invariant w.in-Err.kind read)
  | in-Ok+else-get w ↦
      let read = sym c.in_ok-kind.ensures.read ∙ ap (λ r. Some r) w.in-Ok.is in
      rw (w.care-is, w.value-is, w.fault-is) (one_more c.args.declared.now c.args.words.now
      c.loop-word.word-index _ c.loop-word-test.true c.loop-word.care c.loop-word.value c.loop-word.fault
      c.loop-word.invariant w.in-Ok.literal _ _ read (sym w.get.ensures ∙ w.if-get.false)
      w.set-care.ensures w.set-value.ensures)
]

pub returns-in-None : goal.returns-in-None
returns-in-None c =
    ap (λ (f : Option TextKind). held f (Some (Ok (literals_of c.loop-word.care c.loop-word.value)))) (sym c.in-None.is)
    ∙ cube_read c.args.declared.now c.args.words.now (sym c.is_empty.ensures ∙ c.if-is_empty.false)
    (sym c.is_one.ensures ∙ c.if-is_one.false) c.loop-word.word-index c.loop-word.care c.loop-word.value
    c.loop-word.fault c.loop-word-test.false c.loop-word.invariant
