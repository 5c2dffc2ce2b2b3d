use Rattle.std.proofs.Common.{◌≡◌, Bool, List, ℕ, [], ◌∷◌, ◌++◌, Option, Some, Ok, codes, sym, ap, ◌∙◌}
use Rattle.si_base.specs.declared.fault.TextKind.{TextKind}
use Rattle.si_words.specs.Loops.Reads.{words_now}
use Rattle.si_tokens.specs.LineParts.{each_after, held}
use Rattle.si_tokens.proofs.LinePartLemmas.{next_fault, next_value}
use Rattle.si_cell.specs.CellWords.{cube_part}
use Rattle.si_cell.specs.Loops.Reads.{parts_left}
use Rattle.si_cell.proofs.CellLemmas.{cube_low}
use Rattle.si_cell.proofs.sums.read_cubes.Goals as goal
use Rattle.si_cell.proofs.sums.read_cubes.Goals.{in-Err, in-Ok+in_ok-push-in-Ok}

pub of-requires : goal.of-requires
of-requires c = cube_low c.args.declared.now (words_now c.deref.result.now) c.in-Ok.cube c.requires
    (sym c.in-Some.ensures ∙ ap (λ r. Some r) c.in-Ok.is)

pub loop-cube-preserved : goal.loop-cube-preserved
loop-cube-preserved c =
    let read = rw c.deref.ensures.value at (sym c.in-Some.ensures) in
    let left : List (List (List ℕ)) = words_now c.take_before.new.before.items
    ∷ parts_left (codes "+") c.in_ok-left.left c.take_before.new.words in
    let behind : parts_left (codes "+") c.loop-cube.left c.loop-cube.words ≡ left =
    ap (λ (m : Bool). parts_left (codes "+") m c.loop-cube.words) c.if-not-left.false ∙ c.in_ok-left.ensures.parts in
    let so_far = sym (ap (λ (ws : List (List (List ℕ))). held c.loop-cube.fault (each_after
    (λ before. cube_part c.args.declared.now) c.loop-cube.sum (words_now c.loop-cube.part.items ∷ ws))) behind)
    ∙ c.loop-cube.invariant in
    elim c.match-cube.branch [
      | in-Err w ↦ rw (w.sum-is, w.fault-is, w.or-fault.ensures)
          (sym (next_fault (λ before. cube_part c.args.declared.now) c.loop-cube.sum c.loop-cube.fault
          (words_now c.loop-cube.part.items) left w.in-Err.kind (read ∙ ap (λ r. Some r) w.in-Err.is)) ∙ so_far)
      | in-Ok+in_ok-push-in-Ok w ↦ rw (w.sum-is, w.fault-is, w.in_ok-push-in-Ok.ensures, w.of.ensures)
          (sym (next_value (λ before. cube_part c.args.declared.now) c.loop-cube.sum c.loop-cube.fault
          (words_now c.loop-cube.part.items) left w.in-Ok.cube (read ∙ ap (λ r. Some r) w.in-Ok.is)) ∙ so_far)
    ]

pub returns-in-Some-fault : goal.returns-in-Some-fault
returns-in-Some-fault c =
    let read = rw c.deref.ensures.value at (sym c.in-Some.ensures) in
    let so_far = sym (ap (λ (m : Bool). held c.loop-cube.fault (each_after (λ before. cube_part c.args.declared.now)
    c.loop-cube.sum (words_now c.loop-cube.part.items ∷ parts_left (codes "+") m c.loop-cube.words)))
    c.if-not-left.true) ∙ c.loop-cube.invariant in
    elim c.match-cube.branch [
      | in-Err w ↦ ap (λ (f : Option TextKind). held f (Some (Ok c.loop-cube.sum)))
          (sym c.in-Some-fault.is ∙ w.fault-is ∙ w.or-fault.ensures)
          ∙ sym (next_fault (λ before. cube_part c.args.declared.now) c.loop-cube.sum c.loop-cube.fault
          (words_now c.loop-cube.part.items) [] w.in-Err.kind (read ∙ ap (λ r. Some r) w.in-Err.is)) ∙ so_far
      | in-Ok+in_ok-push-in-Ok w ↦ ap (λ (f : Option TextKind). held f (Some (Ok (c.loop-cube.sum
          ++ w.in-Ok.cube ∷ [])))) (sym c.in-Some-fault.is ∙ w.fault-is)
          ∙ sym (next_value (λ before. cube_part c.args.declared.now) c.loop-cube.sum c.loop-cube.fault
          (words_now c.loop-cube.part.items) [] w.in-Ok.cube (read ∙ ap (λ r. Some r) w.in-Ok.is)) ∙ so_far
    ]
