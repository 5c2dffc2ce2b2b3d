use Rattle.std.proofs.Common.{◌∙◌, ℕ, List, inl, inr, sym, subst}
use Rattle.std.proofs.lemmas.Bool.{cases_Bool}
use Rattle.std.proofs.lemmas.Option.{slice_get_within}
use Rattle.si_base.specs.Bits.{bit}
use Rattle.si_cell.specs.Limits.{max_pins}
use Rattle.si_match.specs.Loops.Apart.{NoneFitsWith}
use Rattle.si_match.specs.Loops.Choices.{AreOwed}
use Rattle.si_match.proofs.ApartLemmas.{all_read_first}
use Rattle.si_match.proofs.ChoiceLemmas.{all_but, also_read, fitted_first, owed_first, trigger_read, unfitted_first}
use Rattle.si_map.proofs.unfit.fits_some.Goals as goal

pub some_reading_fits-requires-clause-missing : goal.some_reading_fits-requires-clause-missing
some_reading_fits-requires-clause-missing c =
    let coded = c.args.coded.now in
    let library = c.args.library.now in
    let z = c.args.z in
    let missing = c.needed_signals-missing.result in
    let by_trigger = trigger_read coded library z c.requires.coded c.args.triggers.signals c.requires.triggers in
    subst (λ (ys : List ℕ). AreOwed coded library z ys missing) (sym c.new-chosen.ensures)
    (elim (cases_Bool (bit c.args.known.now.unknown z)) [
      | inl unknown ↦ (
          let set = c.needed_signals-missing.ensures.unknown unknown in
          owed_first coded library z missing (all_but coded library z c.args.triggers.signals missing set by_trigger)
          set.there)
      | inr told ↦ (
          let (more, with_read, set) = c.needed_signals-missing.ensures.others told in
          let by_reading = c.requires.known.others z c.requires.driven told (c.requires.unfitted told) in
          owed_first coded library z missing (all_but coded library z more missing set
          (also_read coded library z c.args.known.now.read c.args.triggers.signals more by_reading with_read
          by_trigger))
          set.there)
    ])

pub some_reading_fits-requires-clause-read : goal.some_reading_fits-requires-clause-read
some_reading_fits-requires-clause-read c =
    all_read_first c.args.z c.set.result c.new-chosen.result.items c.new-chosen.ensures c.set.ensures

pub returns : goal.returns
returns c =
    let coded = c.args.coded.now in
    let library = c.args.library.now in
    let z = c.args.z in
    let (x, at, driven) = c.requires.driven in
    let z_small = slice_get_within coded.graph.signals z x at in
    elim (cases_Bool c.some_reading_fits.result) [
      | inl fits ↦ fits ∙ sym (fitted_first coded library z c.requires.coded (c.some_reading_fits.ensures.fits fits))
      | inr unfit ↦ unfit ∙ sym (unfitted_first coded library z c.requires.coded c.some_reading_fits.ensures.library
          z_small (subst (λ (ys : List ℕ). NoneFitsWith coded library z ys max_pins) c.new-chosen.ensures
          (c.some_reading_fits.ensures.none unfit)))
    ]
