-- Products and sums of cubes whose literals stand in signal order.
use Rattle.std.proofs.Common.{◌≡◌, ◌≢◌, ℕ, suc, ◌+◌, ◌*◌, ◌<◌, ◌≤◌, ◌==◌, Bool, true, false, List, [], ◌∷◌, ◌++◌}
use Rattle.std.proofs.Common.{length, if◌then◌else◌, Option, Some, None, option_map, option_and_then, nat_lt, nat_le}
use Rattle.std.proofs.Common.{filter_map, All, AllPairs, refl, arith}
use Rattle.std.specs.List.{cons_option}
use Rattle.std.proofs.lemmas.Bool.{ltb-true, ltb-false, eqb-false}
use Rattle.std.proofs.lemmas.List.Elements.{All-nil, All-cons}
use Rattle.std.proofs.lemmas.List.Kept.{AllPairs-cons}
use mathlib.Core.Bool.{beq}
use Rattle.si_base.specs.Netlist.{Sum}
use Rattle.si_base.specs.WellFormed.{IsCube, IsSum}
use Rattle.si_base.specs.declared.ids.Literal.{Literal}
use Rattle.si_from_equations.specs.Limits.{max_cubes, max_pairs}
use Rattle.si_from_equations.specs.Sums.{with_literal, product, products, plus, times}

-- literals of the first signals, so many, in signal order
module _ (signals : ℕ) where
  -- ---- cubes

  -- from this signal on
  abbrev pub Rises : ℕ → List Literal → Type 0
  Rises i [] = Unit {0}
  Rises i (l ∷ cube) = (i ≤ l.sig) × (l.sig < signals) × Rises (suc l.sig) cube

  abbrev RisesSome : ℕ → Option (List Literal) → Type 0
  RisesSome i None = Unit {0}
  RisesSome i (Some cube) = Rises i cube

  with_rises : (i : ℕ) (l : Literal) (cube : List Literal) → i ≤ l.sig → l.sig < signals → Rises i cube
      → RisesSome i (with_literal l cube)
  with_rises i l [] low high rises = (low, high, tt)
  with_rises i l (m ∷ cube) low high (low2, high2, later) =
      by_tests (nat_lt l.sig m.sig) (l.sig == m.sig) (ltb-true l.sig m.sig) (ltb-false l.sig m.sig)
      (eqb-false l.sig m.sig) (λ above. with_rises (suc m.sig) l cube above high later)
    where
      by_tests : (is_before is_same : Bool) → (is_before ≡ true → l.sig < m.sig)
          → (is_before ≡ false → m.sig ≤ l.sig) → (is_same ≡ false → l.sig ≢ m.sig)
          → (suc m.sig ≤ l.sig → RisesSome (suc m.sig) (with_literal l cube))
          → RisesSome i (if is_before then Some (l ∷ m ∷ cube)
          else if is_same then (if beq l.plain m.plain then Some (m ∷ cube) else None)
          else option_map (λ literals. m ∷ literals) (with_literal l cube))
      by_tests true is_same below above apart rest = (low, high, (below refl, high2, later))
      by_tests false true below above apart rest = if_same (beq l.plain m.plain)
        where
          if_same : (test : Bool) → RisesSome i (if test then Some (m ∷ cube) else None)
          if_same true = (low2, high2, later)
          if_same false = tt
      by_tests false false below above apart rest =
          behind (with_literal l cube) (rest (
          let from = above refl in let other = apart refl in omega (arith, from, other)))
        where
          behind : (some : Option (List Literal)) → RisesSome (suc m.sig) some
              → RisesSome i (option_map (λ literals. m ∷ literals) some)
          behind None rises = tt
          behind (Some literals) rises = (low2, high2, rises)

  -- from some signal on
  product_rises : (i : ℕ) (left right : List Literal) → Rises i left → Rises 0 right
      → RisesSome 0 (product left right)
  product_rises i [] right rises rises2 = rises2
  product_rises i (l ∷ left) right (low, high, later) rises2 =
      one_more (product left right) (product_rises (suc l.sig) left right later rises2)
    where
      one_more : (cube : Option (List Literal)) → RisesSome 0 cube
          → RisesSome 0 (option_and_then (with_literal l) cube)
      one_more None rises = tt
      one_more (Some cube) rises = with_rises 0 l cube (omega arith) high rises

  -- ---- sums
  abbrev pub AllRise : Sum → Type 0
  AllRise [] = Unit {0}
  AllRise (cube ∷ sum) = Rises 0 cube × AllRise sum

  all_append : (left right : Sum) → AllRise left → AllRise right → AllRise (left ++ right)
  all_append [] right rise rise2 = rise2
  all_append (cube ∷ left) right (first, rise) rise2 = (first, all_append left right rise rise2)

  row_rises : (cube : List Literal) (right : Sum) → Rises 0 cube → AllRise right
      → AllRise (filter_map (product cube) right)
  row_rises cube [] rises rise = tt
  row_rises cube (other ∷ right) rises (first, rise) =
      one_more (product cube other) (filter_map (product cube) right) (product_rises 0 cube other rises first)
      (row_rises cube right rises rise)
    where
      one_more : (some : Option (List Literal)) (rest : Sum) → RisesSome 0 some → AllRise rest
          → AllRise (cons_option some rest)
      one_more None rest here later = later
      one_more (Some literals) rest here later = (here, later)

  products_rise : (left right : Sum) → AllRise left → AllRise right → AllRise (products left right)
  products_rise [] right rise rise2 = tt
  products_rise (cube ∷ left) right (first, rise) rise2 =
      all_append (filter_map (product cube) right) (products left right) (row_rises cube right first rise2)
      (products_rise left right rise rise2)

  -- all cubes of a sum that isn't missing
  abbrev pub SumRises : Option Sum → Type 0
  SumRises None = Unit {0}
  SumRises (Some sum) = AllRise sum

  rises_if : (fits : Bool) (sum : Sum) → AllRise sum → SumRises (if fits then Some sum else None)
  rises_if true sum rise = rise
  rises_if false sum rise = tt

  pub plus_rises : (left right : Option Sum) → SumRises left → SumRises right → SumRises (plus left right)
  plus_rises None right rise rise2 = tt
  plus_rises (Some left) None rise rise2 = tt
  plus_rises (Some left) (Some right) rise rise2 =
      rises_if (nat_le (length left + length right) max_cubes) _ (all_append left right rise rise2)

  pub times_rises : (left right : Option Sum) → SumRises left → SumRises right → SumRises (times left right)
  times_rises None right rise rise2 = tt
  times_rises (Some left) None rise rise2 = tt
  times_rises (Some left) (Some right) rise rise2 =
      rises_if (nat_le (length left * length right) max_pairs) _ (products_rise left right rise rise2)

  -- ---- what they are
  all_from : (i : ℕ) (cube : List Literal) → Rises i cube → All (λ (l : Literal). i ≤ l.sig) cube
  all_from i [] rises = All-nil (λ (l : Literal). i ≤ l.sig)
  all_from i (l ∷ cube) (low, high, later) = All-cons (λ (m : Literal). i ≤ m.sig) l cube low
      (λ k d inside. (let above = all_from (suc l.sig) cube later k d inside in omega (arith, low, above)))

  all_there : (i : ℕ) (cube : List Literal) → Rises i cube → All (λ (l : Literal). l.sig < signals) cube
  all_there i [] rises = All-nil (λ (l : Literal). l.sig < signals)
  all_there i (l ∷ cube) (low, high, later) =
      All-cons (λ (m : Literal). m.sig < signals) l cube high (all_there (suc l.sig) cube later)

  all_rising : (i : ℕ) (cube : List Literal) → Rises i cube → AllPairs (λ (k l : Literal). k.sig < l.sig) cube
  all_rising i [] rises = λ j k d order within. absurd (omega arith)
  all_rising i (l ∷ cube) (low, high, later) = AllPairs-cons (λ (k m : Literal). k.sig < m.sig) l cube
      (all_from (suc l.sig) cube later) (all_rising (suc l.sig) cube later)

  pub is_sum : (sum : Sum) → AllRise sum → IsSum signals sum
  is_sum [] rise = All-nil (IsCube signals)
  is_sum (cube ∷ sum) (first, rise) = All-cons (IsCube signals) cube sum
      (record { rising = all_rising 0 cube first; there = all_there 0 cube first }) (is_sum sum rise)
