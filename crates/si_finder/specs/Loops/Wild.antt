-- What the refusal of the reached states becomes.
use Rattle.si_reached.specs.declared.reached.Wild.{Wild}
use Rattle.si_reached.specs.declared.reached.Wild.TheVariants as wild
use Rattle.si_finder.specs.declared.not_found.NotFound.{NotFound}
use Rattle.si_finder.specs.declared.not_found.NotFound.TheVariants.{NoMemory, TooMany, Astray}

abbrev pub not_found_of : Wild → NotFound
not_found_of wild.NoMemory = NoMemory
not_found_of wild.TooMany = TooMany
not_found_of (wild.Astray at sig) = Astray at sig
