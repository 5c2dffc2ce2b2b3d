-- The values of products and of sums.
use Rattle.std.proofs.Common.{◌≡◌, ℕ, ◌+◌, ◌*◌, ◌==◌, ◌&&◌, ◌||◌, Bool, true, false, List, [], ◌∷◌, length}
use Rattle.std.proofs.Common.{if◌then◌else◌, Option, Some, None, option_map, option_and_then, nat_lt, nat_le}
use Rattle.std.proofs.Common.{filter_map, refl, sym, ap, ap₂, ◌∙◌}
use Rattle.std.specs.List.{list_all, cons_option}
use Rattle.std.proofs.lemmas.Bool.{eqb-true}
use Rattle.std.proofs.lemmas.List.Folds.{list_any-append}
use Rattle.std.proofs.Math.Bool.{and-false}
use mathlib.Core.Bool.{beq}
use Rattle.si_base.specs.Bits.{bit}
use Rattle.si_base.specs.Netlist.{Sum, literal_value, sum_value}
use Rattle.si_base.specs.declared.ids.Literal.{Literal}
use Rattle.si_from_equations.specs.Limits.{max_cubes, max_pairs}
use Rattle.si_from_equations.specs.Sums.{with_literal, product, products, plus, times}

-- ---- truth tables
swapped : (a b c : Bool) → (a && (b && c)) ≡ (b && (a && c))
swapped true b c = refl
swapped false true c = refl
swapped false false c = refl

grouped : (a b c : Bool) → (a && (b && c)) ≡ ((a && b) && c)
grouped true b c = refl
grouped false b c = refl

shared_first : (a b c : Bool) → ((a && b) || (a && c)) ≡ (a && (b || c))
shared_first true b c = refl
shared_first false b c = refl

shared_last : (a b c : Bool) → ((a && c) || (b && c)) ≡ ((a || b) && c)
shared_last true true true = refl
shared_last true true false = refl
shared_last true false true = refl
shared_last true false false = refl
shared_last false b c = refl

-- the values of two literals of one signal
met : (b p q rest : Bool) → (if beq p q then beq b q && rest else false) ≡ (beq b p && (beq b q && rest))
met true true true rest = refl
met true true false rest = refl
met true false true rest = refl
met true false false rest = refl
met false true true rest = refl
met false true false rest = refl
met false false true rest = refl
met false false false rest = refl

module _ (values : ℕ) where
  -- ---- cubes
  abbrev covers : List Literal → Bool
  covers cube = list_all (literal_value values) cube

  abbrev covers_some : Option (List Literal) → Bool
  covers_some None = false
  covers_some (Some cube) = covers cube

  kept_if : (test : Bool) (cube : List Literal)
      → covers_some (if test then Some cube else None) ≡ (if test then covers cube else false)
  kept_if true cube = refl
  kept_if false cube = refl

  in_front : (m : Literal) (cube : Option (List Literal))
      → covers_some (option_map (λ literals. m ∷ literals) cube) ≡ (literal_value values m && covers_some cube)
  in_front m None = sym (and-false (literal_value values m))
  in_front m (Some literals) = refl

  with_value : (l : Literal) (cube : List Literal)
      → covers_some (with_literal l cube) ≡ (literal_value values l && covers cube)
  with_value l [] = refl
  with_value l (m ∷ cube) =
      by_tests (nat_lt l.sig m.sig) (l.sig == m.sig) (eqb-true l.sig m.sig) (with_value l cube)
    where
      by_tests : (is_before is_same : Bool) → (is_same ≡ true → l.sig ≡ m.sig)
          → covers_some (with_literal l cube) ≡ (literal_value values l && covers cube)
          → covers_some (if is_before then Some (l ∷ m ∷ cube)
          else if is_same then (if beq l.plain m.plain then Some (m ∷ cube) else None)
          else option_map (λ literals. m ∷ literals) (with_literal l cube))
          ≡ (literal_value values l && (literal_value values m && covers cube))
      by_tests true is_same at later = refl
      by_tests false true at later = kept_if (beq l.plain m.plain) (m ∷ cube)
          ∙ rw (at refl) (met (bit values m.sig) l.plain m.plain (covers cube))
      by_tests false false at later = in_front m (with_literal l cube)
          ∙ ap (λ (b : Bool). literal_value values m && b) later
          ∙ swapped (literal_value values m) (literal_value values l) (covers cube)

  product_value : (left right : List Literal) → covers_some (product left right) ≡ (covers left && covers right)
  product_value [] right = refl
  product_value (l ∷ left) right = one_more (product left right)
      ∙ ap (λ (b : Bool). literal_value values l && b) (product_value left right)
      ∙ grouped (literal_value values l) (covers left) (covers right)
    where
      one_more : (cube : Option (List Literal))
          → covers_some (option_and_then (with_literal l) cube) ≡ (literal_value values l && covers_some cube)
      one_more None = sym (and-false (literal_value values l))
      one_more (Some cube) = with_value l cube

  -- ---- sums
  row_value : (cube : List Literal) (right : Sum)
      → sum_value values (filter_map (product cube) right) ≡ (covers cube && sum_value values right)
  row_value cube [] = sym (and-false (covers cube))
  row_value cube (other ∷ right) = one_more (product cube other) (filter_map (product cube) right)
      ∙ ap₂ (λ (a b : Bool). a || b) (product_value cube other) (row_value cube right)
      ∙ shared_first (covers cube) (covers other) (sum_value values right)
    where
      one_more : (first : Option (List Literal)) (rest : Sum)
          → sum_value values (cons_option first rest) ≡ (covers_some first || sum_value values rest)
      one_more None rest = refl
      one_more (Some cube) rest = refl

  products_value : (left right : Sum)
      → sum_value values (products left right) ≡ (sum_value values left && sum_value values right)
  products_value [] right = refl
  products_value (cube ∷ left) right =
      list_any-append covers (filter_map (product cube) right) (products left right)
      ∙ ap₂ (λ (a b : Bool). a || b) (row_value cube right) (products_value left right)
      ∙ shared_last (covers cube) (sum_value values left) (sum_value values right)

  -- a sum has this value, where it isn't missing
  abbrev pub Has : Option Sum → Bool → Type 0
  Has None value = Unit {0}
  Has (Some sum) value = sum_value values sum ≡ value

  has_if : (fits : Bool) (sum : Sum) (value : Bool) → sum_value values sum ≡ value
      → Has (if fits then Some sum else None) value
  has_if true sum value is = is
  has_if false sum value is = tt

  pub plus_has : (left right : Option Sum) (a b : Bool) → Has left a → Has right b → Has (plus left right) (a || b)
  plus_has None right a b is is2 = tt
  plus_has (Some left) None a b is is2 = tt
  plus_has (Some left) (Some right) a b is is2 =
      has_if (nat_le (length left + length right) max_cubes) _ (a || b)
      (list_any-append covers left right ∙ ap₂ (λ (v w : Bool). v || w) is is2)

  pub times_has : (left right : Option Sum) (a b : Bool) → Has left a → Has right b → Has (times left right) (a && b)
  times_has None right a b is is2 = tt
  times_has (Some left) None a b is is2 = tt
  times_has (Some left) (Some right) a b is is2 =
      has_if (nat_le (length left * length right) max_pairs) _ (a && b)
      (products_value left right ∙ ap₂ (λ (v w : Bool). v && w) is is2)
