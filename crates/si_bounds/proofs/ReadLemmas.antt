-- An instance reads no more signals than its cell has pins.
use Rattle.std.proofs.Common.{◌≡◌, ◌≢◌, ℕ, zero, suc, ◌+◌, ◌<◌, ◌≤◌, not, Bool, true, false, List, [], ◌∷◌, length}
use Rattle.std.proofs.Common.{is_none, Option, Some, None, refl, sym, ap, subst, ◌∙◌, arith}
use Rattle.std.proofs.Common.{if◌then◌else◌, map, get_or}
use Rattle.std.proofs.lemmas.Bool.{true≢false}
use Rattle.std.proofs.lemmas.List.{get_or-map, length-map}
use Rattle.si_base.specs.Bits.{bit, flip}
use Rattle.si_base.specs.Codes.{CodedGraph, IsCoded}
use Rattle.si_base.specs.declared.ids.Literal.{Literal}
use Rattle.si_base.proofs.BitFacts.{flip-same, flip-other}
use Rattle.si_cell.specs.Library.{Library, Instance, cell_at, no_cell}
use Rattle.si_match.specs.Fit.{first_fit}
use Rattle.si_match.specs.Loops.Choices.{AreAmong}
use Rattle.si_match.specs.Loops.Known.{FitsByReading}
use Rattle.si_match.specs.Weight.{size_from}
use Rattle.si_match.proofs.ChoiceLemmas.{owed_first, owed_unfit}
use Rattle.si_match.proofs.FitLemmas.{fit_fits}
use Rattle.si_match.proofs.UnfitLemmas.{size_le}
use Rattle.si_bounds.specs.Loops.Least.{HaveFewPins}

-- ---- sizes of sets
abbrev one_if : Bool → ℕ
one_if b = if b then 1 else 0

-- with the signal behind the others
pub size_last : (n i set : ℕ) → size_from (suc n) i set ≡ size_from n i set + (if bit set (i + n) then 1 else 0)
size_last zero i set = let here : i + 0 ≡ i = omega arith in rw here (omega arith)
size_last (suc n) i set =
    let last : i + 1 + n ≡ i + suc n = omega arith in
    let later : size_from (suc n) (i + 1) set ≡ size_from n (i + 1) set + one_if (bit set (i + suc n)) =
    subst (λ m. size_from (suc n) (i + 1) set ≡ size_from n (i + 1) set + one_if (bit set m)) last
    (size_last n (i + 1) set) in
    omega (arith, later)

-- ---- a set of the first signals, so many, and the one behind them
module _ (n set : ℕ) (absent : bit set n ≡ false) where
  pub last_there : bit (flip set n) n ≡ true
  last_there = flip-same set n ∙ ap not absent

  pub others_stay : (i : ℕ) → bit set i ≡ true → bit (flip set n) i ≡ true
  others_stay i there =
      flip-other set n i (λ same. true≢false (sym there ∙ ap (bit set) same ∙ absent)) ∙ there

  pub others_given : (i : ℕ) → i ≢ n → bit (flip set n) i ≡ true → bit set i ≡ true
  others_given i other there = sym (flip-other set n i other) ∙ there

  pub one_larger : size_from n 0 set + 1 ≤ size_from (suc n) 0 (flip set n)
  one_larger =
      let place : 0 + n ≡ n = omega arith in
      let last : one_if (bit (flip set n) (0 + n)) ≡ 1 =
      ap (λ m. one_if (bit (flip set n) m)) place ∙ ap one_if last_there in
      omega (arith, size_last n 0 (flip set n), last, size_le n 0 set (flip set n) others_stay)

-- ---- where each instance that fits z reads all signals of a set
module _ (d : CodedGraph) (library : Library) (z most : ℕ) (made : IsCoded d) (few : HaveFewPins library most)
    (count read : ℕ) (by_reading : (i : ℕ) → bit read i ≡ true → FitsByReading d library i z)
    (clear : bit read z ≡ false) (many : most < size_from count 0 read) where
  -- the signals of literals are those that they read
  among_own : (ls : List Literal) → AreAmong (z ∷ map (λ l. l.sig) ls) ls
  among_own ls k l inside =
      let within : k < length (map (λ (m : Literal). m.sig) ls) = rw length-map inside in
      (suc k, omega (arith, within), get_or-map (λ (m : Literal). m.sig) ls k l (get_or ls k l).sig inside)

  never_fits : (f : Instance) → first_fit d library z ≡ Some f → ⊥
  never_fits f found =
      let (over, fit) = fit_fits d library z f made found in
      let short : length (cell_at library f.cell).pins ≤ most = few f.cell no_cell over.instance.cell in
      let pins = over.instance.pins in
      let too_many : length f.literals < size_from count 0 read = omega (arith, many, pins, short) in
      owed_unfit d library z count (length f.literals) (map (λ l. l.sig) f.literals) [] read
      (length-map f.literals (λ l. l.sig)) (owed_first d library z read by_reading clear) too_many f over fit
      (among_own f.literals)

  -- none does
  pub stays_unfit : is_none (first_fit d library z) ≡ true
  stays_unfit = by_first (first_fit d library z) refl
    where
      by_first : (o : Option Instance) → first_fit d library z ≡ o → is_none o ≡ true
      by_first None none = refl
      by_first (Some f) found = absurd (never_fits f found)
