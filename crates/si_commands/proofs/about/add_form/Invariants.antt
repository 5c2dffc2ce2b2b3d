use Rattle.std.proofs.Common.{◌≡◌, ◌∷◌, ◌++◌, take}
use Rattle.std.specs.List.{flat_map}
use Rattle.si_base.specs.Bytes.{space}
use Rattle.si_commands.specs.About.{shown_slot}
use Rattle.si_commands.specs.Loops.Reads.{slot_now}
use Rattle.si_commands.proofs.about.add_form.Given as goal

-- the words of the places so far are there
abbrev pub invariant-loop-slot : goal.invariant-loop-slot
invariant-loop-slot l =
    l.text ≡ l.initial.text ++ flat_map (λ slot. space ∷ shown_slot (slot_now slot)) (take l.slot-index l.places)
