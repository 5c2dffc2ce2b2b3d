use Rattle.std.proofs.Common.{◌≡◌, flat_map, take, vec_items}
use Rattle.si_systems.proofs.compose.joined_texts.Given as goal

abbrev pub invariant-loop-text : goal.invariant-loop-text
invariant-loop-text l = l.all ≡ flat_map vec_items (take l.text-index l.texts)
