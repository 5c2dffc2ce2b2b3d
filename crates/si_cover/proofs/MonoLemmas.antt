-- Monotonous cubes: two meet in a third, and two least ones have the same literals.
use Rattle.std.proofs.Common.{◌≡◌, ℕ, ◌<◌, ◌++◌, ◌↔◌, not, Bool, true, false, List, [], ◌∷◌, length, Contains}
use Rattle.std.proofs.Common.{refl, sym, ap, ap₂, ◌∙◌, inl, inr}
use Rattle.std.proofs.lemmas.Bool.{true≢false, and_parts, cases_order, cases_eq, cases_Bool}
use Rattle.std.proofs.lemmas.List.Elements.{All-append}
use Rattle.std.proofs.lemmas.List.Folds.{list_all-append}
use Rattle.std.specs.List.{list_all}
use mathlib.Core.Bool.{beq}
use Rattle.si_base.specs.declared.ids.Literal.{Literal}
use Rattle.si_base.specs.Bits.{bit, flip}
use Rattle.si_base.specs.Codes.{CodedGraph, code}
use Rattle.si_base.specs.Netlist.{literal_value}
use Rattle.si_base.proofs.BitFacts.{flip-same, flip-other}
use Rattle.si_base.proofs.OrderAscending.{In}
use Rattle.si_base.proofs.GraphSteps.{beq-true}
use Rattle.si_base.proofs.GivenGraphUnique.{contains_from_in, in_from_contains}
use Rattle.si_cube.specs.Cubes.{Covers}
use Rattle.si_cover.specs.Mono.{IsFallingCover, CoversOutside, IsMono, IsLeastCube, IsLeastMono, ShowsNoMono}
use Rattle.si_cube.proofs.NeededLemmas.{all_in}

-- ---- two cubes
covers_both : (x y : List Literal) (k : ℕ) → Covers x k → Covers y k → Covers (x ++ y) k
covers_both x y k a b = list_all-append (literal_value k) x y ∙ rw a b

covers_parts : (x y : List Literal) (k : ℕ) → Covers (x ++ y) k → Covers x k × Covers y k
covers_parts x y k h =
    and_parts (list_all (literal_value k) x) (list_all (literal_value k) y)
    (sym (list_all-append (literal_value k) x y) ∙ h)

falling_both : (c : CodedGraph) (er qr : List ℕ) (x y : List Literal) → IsFallingCover c er qr x
    → IsFallingCover c er qr y → IsFallingCover c er qr (x ++ y)
falling_both c er qr x y a b = record {
  of = All-append (λ (l : Literal). l.sig < length c.graph.signals) x y a.of b.of;
  covers = λ s there. covers_both x y (code c s) (a.covers s there) (b.covers s there);
  never_rises = λ s e t step there h.
      let parts = covers_parts x y (code c t) h in
      covers_both x y (code c s) (a.never_rises s e t step there parts.0) (b.never_rises s e t step there parts.1);
}

pub monos_meet : (c : CodedGraph) (er qr : List ℕ) (x y : List Literal) → IsMono c er qr x → IsMono c er qr y
    → IsMono c er qr (x ++ y)
monos_meet c er qr x y a b = record {
  falling = falling_both c er qr x y a.falling b.falling;
  stays = λ s k. a.stays s (record {
    within = k.within;
    covers = (covers_parts x y (code c s) k.covers).0;
    not_er = k.not_er;
    not_qr = k.not_qr;
  });
}

pub least_monos_agree : (c : CodedGraph) (er qr : List ℕ) (x y : List Literal) → IsLeastMono c er qr x
    → IsLeastMono c er qr y → (k : ℕ) → Covers x k → Covers y k
least_monos_agree c er qr x y a b = a.least y b.meets

-- ---- the least falling cube
pub falling_is_mono : (c : CodedGraph) (er qr : List ℕ) (cube : List Literal)
    → IsLeastCube (IsFallingCover c er qr) cube → ((s : ℕ) → CoversOutside c er qr cube s → ⊥)
    → IsLeastMono c er qr cube
falling_is_mono c er qr cube a stays =
    record { meets = record { falling = a.meets; stays = stays }; least = λ other m. a.least other m.falling }

-- what the least cube covers outside each other one covers outside
outside_too : (c : CodedGraph) (er qr : List ℕ) (x y : List Literal) (s : ℕ) → IsLeastCube (IsFallingCover c er qr) x
    → IsFallingCover c er qr y → CoversOutside c er qr x s → CoversOutside c er qr y s
outside_too c er qr x y s a b k =
    record { within = k.within; covers = a.least y b (code c s) k.covers; not_er = k.not_er; not_qr = k.not_qr }

pub outside_is_none : (c : CodedGraph) (er qr : List ℕ) (s : ℕ) (other : List Literal) → ShowsNoMono c er qr s
    → IsMono c er qr other → ⊥
outside_is_none c er qr s other (cube, a, first) m =
    m.stays s (outside_too c er qr cube other s a m.falling first.holds)

pub no_mono_is_unique : (c : CodedGraph) (er qr : List ℕ) (s t : ℕ) → ShowsNoMono c er qr s → ShowsNoMono c er qr t
    → s ≡ t
no_mono_is_unique c er qr s t (x, a, first) (y, b, other) = elim (cases_order s t) [
  | inl same ↦ same
  | inr (inl below) ↦ absurd (other.none_before s (outside_too c er qr x y s a b.meets first.holds) (inl below))
  | inr (inr above) ↦ absurd (first.none_before t (outside_too c er qr y x t b a.meets other.holds) (inl above))
]

-- ---- the literals of a cube
-- a literal that is true at a code, and false once a signal is flipped, is of that signal
literal_told : (k s : ℕ) (v : Bool) (m : Literal) → bit k s ≡ v → literal_value k m ≡ true
    → literal_value (flip k s) m ≡ false → m ≡ record { sig = s; plain = v }
literal_told k s v m value here gone = elim (cases_eq m.sig s) [
  | inl same ↦ (
      let make : ℕ → Bool → Literal = λ sig plain. record { sig = sig; plain = plain } in
      let plain : m.plain ≡ v = sym (beq-true (bit k m.sig) m.plain here) ∙ ap (bit k) same ∙ value in
      ap₂ make same plain)
  | inr other ↦ (
      let kept : literal_value (flip k s) m ≡ true = ap (λ b. beq b m.plain) (flip-other k s m.sig other) ∙ here in
      absurd (true≢false (sym kept ∙ gone)))
]

-- a cube that covers a code, and doesn't once a signal is flipped, has a literal of the signal
literal_there : (k s : ℕ) (v : Bool) (cube : List Literal) → bit k s ≡ v → Covers cube k
    → (Covers cube (flip k s) → ⊥) → In (record { sig = s; plain = v }) cube
literal_there k s v [] value here gone = absurd (gone refl)
literal_there k s v (m ∷ ms) value here gone =
    let parts = and_parts (literal_value k m) (list_all (literal_value k) ms) here in
    elim (cases_Bool (literal_value (flip k s) m)) [
      | inl stays ↦ inr (literal_there k s v ms value parts.1 (λ rest. gone (rw stays rest)))
      | inr leaves ↦ inl (sym (literal_told k s v m value parts.0 leaves))
    ]

not_itself : (b : Bool) → not b ≡ b → ⊥
not_itself true h = true≢false (sym h)
not_itself false h = true≢false h

-- once the signal of a literal is flipped, the cube doesn't cover the code
flipped_out : (k : ℕ) (cube : List Literal) (l : Literal) → In l cube → Covers cube k
    → Covers cube (flip k l.sig) → ⊥
flipped_out k cube l there here still =
    let before : bit k l.sig ≡ l.plain = beq-true (bit k l.sig) l.plain (all_in (literal_value k) cube here l there) in
    let after : bit (flip k l.sig) l.sig ≡ l.plain =
    beq-true (bit (flip k l.sig) l.sig) l.plain (all_in (literal_value (flip k l.sig)) cube still l there) in
    not_itself (bit k l.sig) (sym (flip-same k l.sig) ∙ after ∙ sym before)

-- a cube that covers a code, and nothing that the other doesn't cover, has the literals of the other
pub has_literals : (k : ℕ) (x y : List Literal) → ((j : ℕ) → Covers y j → Covers x j) → Covers y k
    → (l : Literal) → Contains x l → Contains y l
has_literals k x y less here l (i, within, at) =
    let there = in_from_contains x l i within at in
    let all = less k here in
    let value : bit k l.sig ≡ l.plain = beq-true (bit k l.sig) l.plain (all_in (literal_value k) x all l there) in
    contains_from_in y l
    (literal_there k l.sig l.plain y value here (λ still. flipped_out k x l there all (less (flip k l.sig) still)))

pub least_monos_have_same_literals : (c : CodedGraph) (er qr : List ℕ) (x y : List Literal) (s : ℕ) → Contains er s
    → IsLeastMono c er qr x → IsLeastMono c er qr y → (l : Literal) → Contains x l ↔ Contains y l
least_monos_have_same_literals c er qr x y s there a b l = (
  has_literals (code c s) x y (b.least x a.meets) (b.meets.falling.covers s there) l,
  has_literals (code c s) y x (a.least y b.meets) (a.meets.falling.covers s there) l,
)
