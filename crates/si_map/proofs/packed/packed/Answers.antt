use Rattle.std.proofs.Common.{List, ℕ, ◌+◌, ◌*◌, ◌++◌, ◌∷◌, [], arith, subst, sym, take}
use Rattle.std.proofs.lemmas.List.{take_all}
use Rattle.si_insert.specs.declared.partition.Class.{Class}
use Rattle.si_insert.specs.declared.partition.Class.TheVariants.{Low}
use Rattle.si_map.specs.Loops.Packed.{ArePacked, ArePacking}
use Rattle.si_map.proofs.PackedLemmas.{all_packed, next_class, none_packed}
use Rattle.si_map.proofs.packed.packed.Goals as goal

pub loop-class-init : goal.loop-class-init
loop-class-init c = none_packed c.new-words.result.items c.new-words.ensures.items

pub loop-class-preserved : goal.loop-class-preserved
loop-class-preserved c =
    let done = c.loop-class.class-index in
    let words = c.with_room.new.words.items in
    let room = c.in_ok-room.room in
    let before = c.in_ok-room.ensures.same (take done c.args.classes.now) c.loop-class.invariant in
    subst (λ (n : ℕ). ArePacking (take (done + 1) c.args.classes.now) words (4 * room + n)) (sym c.digit_of.ensures.is)
    (next_class c.args.classes.now done Low words room c.loop-class-test.true before)

pub returns : goal.returns
returns c =
    let done = c.loop-class.class-index in
    let words = c.loop-class.words.items in
    let word = c.loop-class.word in
    let all = take_all done c.args.classes.now (omega (arith, c.loop-class-test.false)) in
    let are = all_packed (take done c.args.classes.now) words word c.loop-class.invariant in
    subst (ArePacked c.args.classes.now) (sym c.in_ok-push.ensures.items)
    (subst (λ (cs : List Class). ArePacked cs (words ++ word ∷ [])) all are)
