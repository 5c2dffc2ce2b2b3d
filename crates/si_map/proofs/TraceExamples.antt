-- A signal that follows an input: mapped at once by a buffer, and unmapped where there is no cell.
use Rattle.std.proofs.Common.{◌≡◌, ℕ, zero, suc, ◌<◌, List, [], slice_get, is_some, codes, refl, sym, ap, subst, ◌∙◌}
use Rattle.std.proofs.Common.{arith}
use Rattle.std.proofs.lemmas.Bool.{true≢false}
use Rattle.std.proofs.lemmas.Option.{slice_get_within, same_Some}
use Rattle.si_base.specs.Graph.{IsNonInput, is_driven}
use Rattle.si_base.specs.declared.graph.Signal.{Signal}
use Rattle.si_base.specs.declared.graph.SigKind.TheVariants.{Input, Output}
use Rattle.si_cell.specs.Library.{Library, Instance}
use Rattle.si_cell.specs.declared.pins.Pins.TheVariants.{Any}
use Rattle.si_circuit.specs.Cells.{AllFit, IsFirstUnfit}
use Rattle.si_divisor.specs.Divisors.{divisors_of}
use Rattle.si_insert.specs.Lineage.{Current, given_current}
use Rattle.si_match.specs.Fit.{first_fit}
use Rattle.si_map.specs.Best.{NoneServes}
use Rattle.si_map.specs.Trace.{EndsMapped, EndsUnmapped}
use Rattle.si_map.proofs.EndLemmas.{not_both}
use Rattle.si_map.proofs.Examples.{follower, buffers}

abbrev no_cells : Library
no_cells = record { name = codes "l"; cells = []; pins = Any }

abbrev start : Current
start = given_current follower

not_driven : IsNonInput follower.graph.signals 0 → ⊥
not_driven (x, at, is) =
    let same = same_Some (record { name = codes "a"; kind = Input }) x at in
    true≢false (sym is ∙ ap (λ (y : Signal). is_driven y.kind) (sym same))

fits_all : AllFit follower buffers
unfolding first_fit
fits_all zero driven = absurd (not_driven driven)
fits_all (suc zero) driven = refl
fits_all (suc (suc z)) (x, at, is) =
    absurd (omega (arith, slice_get_within follower.graph.signals (suc (suc z)) x at))

-- with a buffer nothing is inserted
mapped : EndsMapped buffers start [] start
mapped = record { goes = refl; done = fits_all }

first_unfit : IsFirstUnfit follower no_cells 1
unfolding first_fit
first_unfit = record {
  driven = (record { name = codes "b"; kind = Output }, refl, refl);
  unfit = refl;
  others = λ y below driven. absurd (not_driven (at_zero y below driven));
}
  where
    at_zero : (y : ℕ) → y < 1 → IsNonInput follower.graph.signals y → IsNonInput follower.graph.signals 0
    at_zero y below driven =
        let same : y ≡ 0 = omega (arith, below) in subst (IsNonInput follower.graph.signals) same driven

-- without cells there is no divisor
none_serves : NoneServes follower no_cells
unfolding divisors_of
none_serves x serves =
    let empty : List Instance = [] in
    let none : serves.at.divisors ≡ empty = serves.at.are.are in
    let there = sym (ap (λ ds. slice_get ds x.place) none) ∙ serves.at.there in
    not_both (slice_get empty x.place) (ap (λ o. is_some o) there) refl

unmapped : EndsUnmapped no_cells start [] start 1
unmapped = record { goes = refl; stuck = record { first = first_unfit; none = none_serves } }
