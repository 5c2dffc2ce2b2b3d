-- The words of paths: where there is no arc, and once there is one more.
use Rattle.std.proofs.Common.{◌≡◌, ℕ, ◌<◌, ◌⊎◌, ◌↔◌, ◌&&◌, ◌||◌, not, Bool, true, false, List, [], ◌∷◌, ◌++◌, refl, sym}
use Rattle.std.proofs.Common.{ap, subst, ◌∙◌, arith, inl, inr, length, map, get_or, take, drop, bit_or, if◌then◌else◌}
use Rattle.std.specs.List.{range_with_len}
use Rattle.std.proofs.lemmas.Bool.{true≢false, cases_eq, and_parts, and_from}
use Rattle.std.proofs.lemmas.List.{append-nil, drop_all, get_or-map, length-map, take_all}
use Rattle.std.proofs.lemmas.List.FromFn.{get_or-map-range_with_len, length-map-range_with_len}
use Rattle.si_base.specs.Bits.{bit, flip}
use Rattle.si_base.specs.Limits.{max_signals}
use Rattle.si_base.proofs.BitFacts.{bit-zero, flip-same, flip-other}
use Rattle.si_base.proofs.BitFacts.{bit-or}
use Rattle.si_loops.specs.declared.arcs.Arc.{Arc}
use Rattle.si_loops.specs.Arcs.{Leads, Path}
use Rattle.si_loops.specs.Loops.Paths.{AreEnds, IsNarrow, led_on}
use Rattle.si_loops.proofs.Cutting.{none_there, last_there, join, more_path, goes_without}

-- ---- no arcs
from_none : (y z : ℕ) (us : List ℕ) → Path [] y us z → y ≡ z
from_none y z [] path = path
from_none y z (u ∷ us) path = absurd (none_there _ path.0)

own_bit : (y z : ℕ) → y ≡ z → bit (flip 0 y) z ≡ true
own_bit y z same = ap (bit (flip 0 y)) (sym same) ∙ flip-same 0 y ∙ ap not (bit-zero y)

no_other_bit : (y z : ℕ) → (z ≡ y → ⊥) → bit (flip 0 y) z ≡ false
no_other_bit y z other = flip-other 0 y z other ∙ bit-zero z

alone : (y z : ℕ) → (bit (flip 0 y) z ≡ true) ↔ Leads [] y z
alone y z = (to, λ leads. own_bit y z (from_none y z leads.0 leads.1))
  where
    to : bit (flip 0 y) z ≡ true → Leads [] y z
    to is = elim (cases_eq z y) [
      | inl same ↦ ([], sym same)
      | inr other ↦ absurd (true≢false (sym is ∙ no_other_bit y z other))
    ]

pub no_ends : AreEnds [] (map (flip 0) (range_with_len 0 max_signals))
no_ends = record {
  size = length-map-range_with_len (flip 0) 0 max_signals;
  ends = λ y z y_small z_small. (let P : ℕ → Type 0 = λ w. (bit w z ≡ true) ↔ Leads [] y z in
      subst P (sym (get_or-map-range_with_len (flip 0) 0 max_signals y y 0 y_small (omega arith))) (alone y z));
}

-- ---- one more arc
or_parts : (a b : Bool) → (a || b) ≡ true → (a ≡ true) ⊎ (b ≡ true)
or_parts true b h = inl refl
or_parts false b h = inr h

or_left : (a b : Bool) → a ≡ true → (a || b) ≡ true
or_left true b h = refl
or_left false b h = absurd (true≢false (sym h))

or_right : (a b : Bool) → b ≡ true → (a || b) ≡ true
or_right true b h = refl
or_right false b h = h

or_none : (a : Bool) → a ≡ (a || false)
or_none true = refl
or_none false = refl

led_bit : (leads : Bool) (word beyond z : ℕ)
    → bit (if leads then bit_or word beyond else word) z ≡ (bit word z || (leads && bit beyond z))
led_bit true word beyond z = bit-or word beyond z
led_bit false word beyond z = or_none (bit word z)

module _ (arcs : List Arc) (words : List ℕ) (b : Arc) (are : AreEnds arcs words) (narrow : IsNarrow b) where
  abbrev word : ℕ → ℕ
  word y = get_or words y 0

  abbrev led : ℕ → ℕ
  led w = led_on b.from (word b.to) w

  bit_is : (y z : ℕ) → y < max_signals
      → bit (get_or (map led words) y 0) z ≡ (bit (word y) z || (bit (word y) b.from && bit (word b.to) z))
  bit_is y z small =
      ap (λ (w : ℕ). bit w z) (get_or-map led words y 0 0 (omega (arith, are.size, small)))
      ∙ led_bit (bit (word y) b.from) (word y) (word b.to) z

  to_path : (y z : ℕ) → y < max_signals → z < max_signals
      → (bit (word y) z || (bit (word y) b.from && bit (word b.to) z)) ≡ true → Leads (arcs ++ b ∷ []) y z
  to_path y z y_small z_small is = elim (or_parts (bit (word y) z) _ is) [
    | inl old ↦
        (let path = (are.ends y z y_small z_small).0 old in (path.0, more_path arcs b y path.0 z path.1))
    | inr through ↦
        (let both = and_parts (bit (word y) b.from) (bit (word b.to) z) through in
        let first = (are.ends y b.from y_small narrow.from).0 both.0 in
        let second = (are.ends b.to z narrow.to z_small).0 both.1 in (
          first.0 ++ (b.to ∷ second.0),
          join (arcs ++ b ∷ []) y first.0 b.from (b.to ∷ second.0) z
              (more_path arcs b y first.0 b.from first.1) (last_there arcs b, more_path arcs b b.to second.0 z second.1),
        ))
  ]

  from_path : (y z : ℕ) → y < max_signals → z < max_signals → Leads (arcs ++ b ∷ []) y z
      → (bit (word y) z || (bit (word y) b.from && bit (word b.to) z)) ≡ true
  from_path y z y_small z_small leads = elim (goes_without arcs b y leads.0 z leads.1) [
    | inl path ↦ or_left _ _ ((are.ends y z y_small z_small).1 (leads.0, path))
    | inr around ↦ or_right _ _ (and_from _ _ ((are.ends y b.from y_small narrow.from).1 around.0)
        ((are.ends b.to z narrow.to z_small).1 around.1))
  ]

  pub more_ends : AreEnds (arcs ++ b ∷ []) (map led words)
  more_ends = record {
    size = length-map words led ∙ are.size;
    ends = λ y z y_small z_small. (
      (λ is. to_path y z y_small z_small (sym (bit_is y z y_small) ∙ is)),
      (λ leads. bit_is y z y_small ∙ from_path y z y_small z_small leads),
    );
  }

-- a slice that was written, put back in its place
pub written_back : (new old : List ℕ) (n : ℕ) → length new ≡ length old → n ≡ length old
    → take n (new ++ drop (length new) old) ≡ new
written_back new old n same size =
    ap (λ (l : List ℕ). take n (new ++ l)) (drop_all (length new) old (omega (arith, same)))
    ∙ ap (take n) (append-nil new) ∙ take_all n new (omega (arith, same, size))
