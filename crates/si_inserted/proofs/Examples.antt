-- Names of current states, worked out.
use Rattle.std.proofs.Common.{◌≡◌, map, codes, refl}
use Rattle.si_base.specs.declared.graph.SigKind.TheVariants.{Input, Inserted, Internal}
use Rattle.si_inserted.specs.Current.{given_kind, name_byte}

-- the state `s6` where the first of two inserted signals is 0 and the second is 1
two_inserted : map name_byte (codes "s6@01") ≡ codes "s6_01"
two_inserted = refl

-- a state where nothing is inserted
none_inserted : map name_byte (codes "s6") ≡ codes "s6"
none_inserted = refl

inserted_becomes_internal : given_kind Inserted ≡ Internal
inserted_becomes_internal = refl

input_stays : given_kind Input ≡ Input
input_stays = refl
