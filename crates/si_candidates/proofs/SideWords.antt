-- The sides of many sets at once, a bit of each word for each set.
use Rattle.std.proofs.Common.{◌≡◌, ℕ, zero, ◌+◌, ◌-◌, ◌^◌, ◌%◌, ◌<◌, ◌≤◌, ◌==◌, ◌&&◌, not, false, List, length}
use Rattle.std.proofs.Common.{get_or, set, replicate, refl, sym, ap, ap₂, ◌∙◌, arith, inl, inr, bit_and, bit_xor}
use Rattle.std.proofs.Common.{get_or-set_same, get_or-set_other, length-set}
use Rattle.std.proofs.lemmas.Bool.{cases_lt}
use Rattle.std.proofs.lemmas.List.{get_or-replicate, get_or_past, length-map, length-replicate}
use Rattle.std.proofs.lemmas.Nat.Bits.{bit_at-lt, bit_at_xor}
use Rattle.std.specs.Int.{bit_at}
use Rattle.si_base.specs.Bits.{bit}
use Rattle.si_base.specs.Graph.{StateGraph}
use Rattle.si_base.specs.Sets.{is_in}
use Rattle.si_base.proofs.BitFacts.{below_two, bit-and, bit-zero}
use Rattle.si_closures.specs.Loops.WordSearch.{column}
use Rattle.si_closures.proofs.WordBits.{not_is}
use Rattle.si_closures.proofs.WordSearchLemmas.{column-at}
use Rattle.si_candidates.specs.declared.tree.Link.{Link}
use Rattle.si_candidates.specs.Loops.Tree.{IsTree}
use Rattle.si_candidates.specs.Loops.Sides.{differ, side_after, AreSides}
use Rattle.si_candidates.proofs.SideLemmas.{AreSidesTo, sides_more}

-- ---- one bit
differing : (x y : ℕ) → x < 2 → y < 2 → ((x + y) % 2 == 1) ≡ differ (x == 1) (y == 1)
differing x y x_bit y_bit = elim (below_two x x_bit) [
  | inl x0 ↦ elim (below_two y y_bit) [ inl y0 ↦ rw (x0, y0) refl | inr y1 ↦ rw (x0, y1) refl ]
  | inr x1 ↦ elim (below_two y y_bit) [ inl y0 ↦ rw (x1, y0) refl | inr y1 ↦ rw (x1, y1) refl ]
]

bit_differs : (x y k : ℕ) → bit (bit_xor x y) k ≡ differ (bit x k) (bit y k)
bit_differs x y k =
    ap (λ n. n == 1) (bit_at_xor x y k) ∙ differing (bit_at x k) (bit_at y k) (bit_at-lt x k) (bit_at-lt y k)

-- the bit of a state of that number, under another name
bit_of : (words : List ℕ) (k s t : ℕ) → s ≡ t → bit (get_or words s 0) k ≡ is_in (column k words) t
bit_of words k s t same = sym (column-at k words s) ∙ ap (λ x. is_in (column k words) x) same

pub side_bit : (words sides : List ℕ) (l : Link) (from to k : ℕ) → from ≡ l.from → to ≡ l.to → k < 128
    → ((s : ℕ) → get_or words s 0 < 2 ^ 128)
    → bit (bit_xor (get_or sides from 0) (bit_and (get_or words from 0) (2 ^ 128 - 1 - get_or words to 0))) k
    ≡ side_after (column k words) (column k sides) l
side_bit words sides l from to k from_is to_is few fits =
    let out = 2 ^ 128 - 1 - get_or words to 0 in
    bit_differs (get_or sides from 0) (bit_and (get_or words from 0) out) k
    ∙ ap₂ differ (bit_of sides k from l.from from_is) (bit-and (get_or words from 0) out k
    ∙ ap₂ (λ a b. a && b) (bit_of words k from l.from from_is)
    (not_is (get_or words to 0) k (fits to) few ∙ ap not (bit_of words k to l.to to_is)))

-- ---- link after link
-- for each set the sides of the states that the first n links meet
pub record AreAllSidesTo (g : StateGraph) (tree : List Link) (words : List ℕ) (n : ℕ) (sides : List ℕ) : Type 0 where
  pub size : length sides ≡ g.states
  pub each : (k : ℕ) → k < 128 → AreSidesTo g tree (column k words) n (column k sides)

no_side : (n k s : ℕ) → is_in (column k (replicate n zero)) s ≡ false
no_side n k s = column-at k (replicate n 0) s ∙ ap (λ w. bit w k) none ∙ bit-zero k
  where
    none : get_or (replicate n zero) s zero ≡ zero
    none = elim (cases_lt s n) [
      | inl below ↦ get_or-replicate n s 0 0 below
      | inr past ↦ get_or_past (replicate n 0) s 0 (omega (arith, past, length-replicate n zero))
    ]

pub no_sides_yet : (g : StateGraph) (tree : List Link) (words : List ℕ) (n : ℕ) (sides : List ℕ) → n ≡ g.states
    → sides ≡ replicate n 0 → AreAllSidesTo g tree words 0 sides
no_sides_yet g tree words n sides size are = rw are (record {
  size = length-replicate n 0 ∙ size;
  each = λ k few. record {
    size = length-map (replicate n 0) (λ (w : ℕ). bit w k) ∙ length-replicate n 0 ∙ size;
    start = no_side n k g.start;
    along = λ j l early there. absurd (omega (arith, early));
    waits = λ t none. no_side n k t;
  };
})

module _ (g : StateGraph) (tree : List Link) (is : IsTree g tree) (words : List ℕ) (n : ℕ) (l : Link)
    (inside : n < length tree) (here : l ≡ get_or tree n l) (sides : List ℕ)
    (before : AreAllSidesTo g tree words n sides) (side : ℕ) (within : l.to < length sides)
    (told : (k : ℕ) → k < 128 → bit side k ≡ side_after (column k words) (column k sides) l) where
  abbrev after : List ℕ
  after = set sides l.to side

  pub one_link_more : AreAllSidesTo g tree words (n + 1) after
  one_link_more = record {
    size = length-set sides l.to side ∙ before.size;
    each = λ k few. sides_more g tree is (column k words) n l inside here (column k sides) (column k after)
        (before.each k few)
        (length-map after (λ (w : ℕ). bit w k)
        ∙ length-set sides l.to side
        ∙ sym (length-map sides (λ (w : ℕ). bit w k)))
        (column-at k after l.to ∙ ap (λ w. bit w k) (get_or-set_same sides l.to side 0 within) ∙ told k few)
        (λ t apart. column-at k after t ∙ ap (λ w. bit w k) (get_or-set_other sides l.to t side 0 apart)
        ∙ sym (column-at k sides t));
  }

pub all_sides : (g : StateGraph) (tree : List Link) (words : List ℕ) (n : ℕ) (sides : List ℕ) → length tree ≤ n
    → AreAllSidesTo g tree words n sides → (k : ℕ) → k < 128 → AreSides g tree (column k words) (column k sides)
all_sides g tree words n sides all are k few =
    let one = are.each k few in
    record {
      size = one.size;
      start = one.start;
      along = λ j l there. one.along j l (omega (arith, there.0, all)) there;
    }
