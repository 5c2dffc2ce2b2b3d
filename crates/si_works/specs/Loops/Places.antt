-- Places of a group by which an interference is shown.
use Rattle.std.specs.Prelude.{◌≡◌, ℕ, ◌<◌, List, [], ◌∷◌, length, Some}
use Rattle.si_groups.specs.declared.misfit.Interference.{Interference}
use Rattle.si_groups.specs.declared.misfit.Misfit.{Misfit}
use Rattle.si_groups.specs.declared.misfit.Misfit.TheVariants as misfit
use Rattle.si_refusals.specs.Ending.{Ending, NoMemory, Answered}
use Rattle.si_refusals.specs.Refusal.{TextRefused}
use Rattle.si_works.specs.Audited.{AuditedPart}
use Rattle.si_works.specs.Works.{misfit_name, states_of}

-- each is a part with one of its states
abbrev pub ArePlaces : List AuditedPart → (group at : List ℕ) → Type 0
ArePlaces parts [] [] = Unit {0}
ArePlaces parts (k ∷ group) (s ∷ at) = (k < length parts) × (s < length (states_of parts k))
    × ArePlaces parts group at
ArePlaces parts [] (s ∷ at) = ⊥
ArePlaces parts (k ∷ group) [] = ⊥

pub record IsPlaced (parts : List AuditedPart) (x : Interference) : Type 0 where
  pub places : ArePlaces parts x.group x.at
  pub driver : x.driver < length parts
  pub refuser : x.refuser < length parts

-- where the misfit shows an interference, it shows parts and states
abbrev pub ShowsPlaced : List AuditedPart → Misfit → Type 0
ShowsPlaced parts (misfit.Interferes x) = IsPlaced parts x
ShowsPlaced parts e = Unit {0}

-- the call stops with the misfit by its names, or memory ran out
abbrev pub ShowsMisfitSo : (files : List (List ℕ)) → List AuditedPart → Misfit → Ending → Type 0
ShowsMisfitSo files parts e NoMemory = Unit {0}
ShowsMisfitSo files parts e (Answered (TextRefused refusal)) =
    misfit_name files parts e ≡ Some refusal
ShowsMisfitSo files parts e ending = ⊥
