-- The classes that the sides of two blocks tell are the only ones, and the blocks have them just
-- where they are lawful.
use Rattle.std.proofs.Common.{◌≡◌, ℕ, ◌<◌, ◌↔◌, ◌∙◌, Bool, List, length, map, sym, ap, subst, arith}
use Rattle.std.specs.List.{range_with_len}
use Rattle.std.proofs.lemmas.Bool.{true≢false}
use Rattle.std.proofs.lemmas.List.{ext_get_or}
use Rattle.std.proofs.lemmas.List.FromFn.{get_or-map-range_with_len, length-map-range_with_len}
use Rattle.si_base.specs.Graph.{StateGraph, IsGraph}
use Rattle.si_base.specs.Codes.{IsConnected}
use Rattle.si_base.specs.Sets.{IsIn, is_in, IsDisjoint}
use Rattle.si_graph.proofs.SearchLemmas.{in_below}
use Rattle.si_insert.specs.declared.partition.Class.{Class}
use Rattle.si_insert.specs.declared.partition.Class.TheVariants.{Low, Rising, Falling}
use Rattle.si_insert.specs.declared.partition.Unlawful.{Unlawful}
use Rattle.si_insert.specs.declared.partition.Unlawful.TheVariants.{NoRise, NoFall, Arc}
use Rattle.si_insert.specs.Partition.{class_of, IsLawful, ShowsUnlawful}
use Rattle.si_candidates.specs.Parts.{AreClasses, HaveNoClasses}
use Rattle.si_candidates.specs.Loops.Sides.{AreOfOneSize, AreSided, IsPartitionOfBlocks, between, class_by, differ}
use Rattle.si_candidates.specs.Loops.Sides.{side_classes}
use Rattle.si_candidates.proofs.LawfulParts.{lawful_are_classes}
use Rattle.si_candidates.proofs.PartLaws.{classes_lawful}
use Rattle.si_candidates.proofs.SideLemmas.{classes_told, rising_is, falling_is}

-- a list is its items one after another
pub all_listed : (classes : List Class) (n : ℕ) → n ≡ length classes
    → map (λ s. class_of classes s) (range_with_len 0 n) ≡ classes
all_listed classes n all =
    let count = length-map-range_with_len (λ s. class_of classes s) 0 n in
    ext_get_or Low (map (λ s. class_of classes s) (range_with_len 0 n)) classes (count ∙ all)
    (λ s inside. get_or-map-range_with_len (λ k. class_of classes k) 0 n s s Low (omega (arith, inside, count))
    (omega arith))

-- a lawful partition refutes each reason to refuse it
pub never_refused : (g : StateGraph) (classes : List Class) (why : Unlawful) → IsLawful g classes
    → ShowsUnlawful g classes why → ⊥
never_refused g classes NoRise lawful shown = shown lawful.rises
never_refused g classes NoFall lawful shown = shown.1 lawful.falls
never_refused g classes (Arc s e t) lawful shown =
    let fault = shown.2.holds in
    true≢false (sym (lawful.arcs s e t fault.step) ∙ fault.unlawful)

module _ (plus minus plus_sides minus_sides : List Bool) (turn : Bool) where
  abbrev told : ℕ → Class
  told s = class_by (is_in plus s) (is_in minus s) (differ turn (between plus_sides minus_sides s))

  pub size_is : length (side_classes plus minus plus_sides minus_sides turn) ≡ length plus
  size_is = length-map-range_with_len told 0 (length plus)

  -- a state that a list of these classes has
  pub state_within : (list : List Class) (s : ℕ) → side_classes plus minus plus_sides minus_sides turn ≡ list
      → s < length list → s < length plus
  state_within list s are within = omega (arith, within, size_is, ap (length {A = Class}) are)

  pub class_at : (s : ℕ) → s < length plus
      → class_of (side_classes plus minus plus_sides minus_sides turn) s ≡ told s
  class_at s within = get_or-map-range_with_len told 0 (length plus) s s Low within (omega arith)

module _ (g : StateGraph) (plus minus plus_sides minus_sides : List Bool) (plus_size : length plus ≡ g.states)
    (sided : AreSided g plus minus plus_sides minus_sides) where
  pub one_size : length minus ≡ g.states → AreOfOneSize plus minus plus_sides minus_sides
  one_size minus_size = record {
    minus_size = minus_size ∙ sym plus_size;
    plus_sides_size = sided.plus_are.size ∙ sym plus_size;
    minus_sides_size = sided.minus_are.size ∙ sym plus_size;
  }

  pub only_by_sides : IsGraph g → (rising : ℕ) → rising < length plus → IsIn plus rising → (others : List Class)
      → IsPartitionOfBlocks g plus minus others
      → others ≡ side_classes plus minus plus_sides minus_sides (between plus_sides minus_sides rising)
  only_by_sides graph rising within there others from =
      let turn = between plus_sides minus_sides rising in
      classes_told g graph plus minus others from sided.tree sided.is_tree plus_sides minus_sides
      sided.plus_are sided.minus_are rising (omega (arith, within, plus_size)) there
      (side_classes plus minus plus_sides minus_sides turn)
      (size_is plus minus plus_sides minus_sides turn ∙ plus_size)
      (λ s s_in. class_at plus minus plus_sides minus_sides turn s (omega (arith, s_in, plus_size)))

-- ---- the classes of the blocks by those that the sides tell
module _ (g : StateGraph) (plus minus plus_sides minus_sides : List Bool) (turn : Bool)
    (plus_size : length plus ≡ g.states) where
  abbrev classes_here : List Class
  classes_here = side_classes plus minus plus_sides minus_sides turn

  here : (s : ℕ) → s < g.states → (c : Class) (P : Type 0) → (told plus minus plus_sides minus_sides turn s ≡ c) ↔ P
      → (class_of classes_here s ≡ c) ↔ P
  here s within c P tells =
      let is = class_at plus minus plus_sides minus_sides turn s (omega (arith, within, plus_size)) in
      (λ h. tells.0 (sym is ∙ h), λ p. is ∙ tells.1 p)

  pub told_are_classes : IsGraph g → IsConnected g → IsDisjoint plus minus → IsLawful g classes_here
      → AreClasses g plus minus classes_here
  told_are_classes graph connected apart lawful =
      lawful_are_classes g plus minus classes_here graph connected lawful
      (λ s within. here s within Rising (IsIn plus s) (rising_is _ _ _))
      (λ s within. here s within Falling (IsIn minus s) (falling_is _ _ _ (apart s)))

-- where the only classes that there can be aren't lawful, the blocks have none
pub unlawful_none : (g : StateGraph) (plus minus : List Bool) (only : List Class) → IsGraph g
    → length plus ≡ g.states → length minus ≡ g.states → ((s : ℕ) × IsIn plus s) → ((s : ℕ) × IsIn minus s)
    → ((others : List Class) → IsPartitionOfBlocks g plus minus others → others ≡ only)
    → (IsLawful g only → ⊥) → HaveNoClasses g plus minus
unlawful_none g plus minus only graph plus_size minus_size r f told unlawful classes are =
    let r_in : r.0 < g.states = omega (arith, in_below plus r.0 r.1, plus_size) in
    let f_in : f.0 < g.states = omega (arith, in_below minus f.0 f.1, minus_size) in
    let lawful = classes_lawful g plus minus classes r.0 f.0 graph are r.1 r_in f.1 f_in in
    let same = told classes (record { lawful = lawful; rising = are.rising; falling = are.falling }) in
    unlawful (subst (IsLawful g) same lawful)
