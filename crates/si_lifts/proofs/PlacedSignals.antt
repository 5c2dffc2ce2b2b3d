-- The signals that a part has in the whole are those at the places that its gates read.
use Rattle.std.proofs.Common.{◌≡◌, ℕ, zero, suc, ◌<◌, ◌+◌, true, false, List, [], ◌∷◌, ◌++◌, drop, length}
use Rattle.std.proofs.Common.{slice_get, slice_index, slice_index_or, Some, refl, sym, ap, ap₂, subst, ◌∙◌, arith, inl}
use Rattle.std.proofs.Common.{inr, bytes_eq}
use Rattle.std.proofs.lemmas.Bool.{cases_Bool, true≢false}
use Rattle.std.proofs.lemmas.Option.{slice_get_within}
use Rattle.std.proofs.lemmas.Slice.Eq.{bytes_eq-Decides}
use Rattle.si_base.specs.declared.graph.Signal.{Signal}
use Rattle.si_base.specs.declared.graph.SigKind.{SigKind}
use Rattle.si_base.specs.declared.graph.SigKind.TheVariants.{Inserted}
use Rattle.si_base.specs.Graph.{name_of}
use Rattle.si_base.specs.Netlist.{Netlist}
use Rattle.si_base.specs.System.{is_inserted}
use Rattle.si_compose.proofs.SameSignals.{some_same}
use Rattle.si_joins.specs.Gates.{all_places, place_of, places}
use Rattle.si_lifts.specs.Parts.{inserts_before, named_signals, part_at}
use Rattle.si_lifts.proofs.NamedParts.{name_there}
use Rattle.si_lifts.proofs.RenamedGraphs.{AreAlike}

same_signal : (x y : Signal) → x.name ≡ y.name → x.kind ≡ y.kind → x ≡ y
same_signal x y names kinds =
    let make : List ℕ → SigKind → Signal = λ n k. record { name = n; kind = k } in ap₂ make names kinds

-- ---- the place of a name
-- the whole has a signal of the name
abbrev pub HasName : List Signal → List ℕ → Type 0
HasName whole name = (k : ℕ) × (w : Signal) × (slice_get whole k ≡ Some w) × (w.name ≡ name)

found_at : (whole : List Signal) (name : List ℕ) → HasName whole name
    → (name_of whole (place_of whole name) ≡ name) × (place_of whole name < length whole)
found_at [] name (k, w, at, same) = cc
found_at (x ∷ xs) name (zero, w, at, same) =
    let here : bytes_eq x.name name ≡ true =
    (bytes_eq-Decides x.name name).1 (ap (λ (y : Signal). y.name) (some_same x w at) ∙ same) in
    rw here ((bytes_eq-Decides x.name name).0 here, omega arith)
found_at (x ∷ xs) name (suc k, w, at, same) =
    let later = found_at xs name (k, w, at, same) in
    elim (cases_Bool (bytes_eq x.name name)) [
      | inl here ↦ rw here ((bytes_eq-Decides x.name name).0 here, omega arith)
      | inr other ↦ rw other (later.0, (let below = later.1 in omega (arith, below)))
    ]

module _ (whole : List Signal) where
  -- ---- the inserted signals stand one after another
  named_tail : (next : ℕ) (ins mine : List Signal) → AreAlike mine ins
      → ((z : ℕ) (x : Signal) → slice_get ins z ≡ Some x → x.kind ≡ Inserted)
      → ((z : ℕ) (x : Signal) → slice_get mine z ≡ Some x → slice_get whole (next + z) ≡ Some x)
      → named_signals whole (places whole next ins) ins ≡ mine
  named_tail next [] [] alike inserted stand = refl
  named_tail next [] (y ∷ ys) alike inserted stand = absurd alike
  named_tail next (x ∷ xs) [] alike inserted stand = absurd alike
  named_tail next (x ∷ xs) (y ∷ ys) alike inserted stand =
      let new : is_inserted x.kind ≡ true = ap is_inserted (inserted 0 x refl) in
      let first : slice_get whole next ≡ Some y =
      subst (λ (k : ℕ). slice_get whole k ≡ Some y) (omega arith) (stand 0 y refl) in
      let rest = named_tail (next + 1) xs ys alike.1 (λ z w is. inserted (suc z) w is)
      (λ z w is. subst (λ (k : ℕ). slice_get whole k ≡ Some w) (omega arith) (stand (suc z) w is)) in
      rw new (ap₂ (λ (s : Signal) (ss : List Signal). s ∷ ss)
      (same_signal (record { name = name_of whole next; kind = x.kind }) y (name_there whole next y first)
      (sym alike.0))
      rest)

  within_tail : (next : ℕ) (ins mine : List Signal) → AreAlike mine ins
      → ((z : ℕ) (x : Signal) → slice_get ins z ≡ Some x → x.kind ≡ Inserted)
      → ((z : ℕ) (x : Signal) → slice_get mine z ≡ Some x → slice_get whole (next + z) ≡ Some x)
      → (z : ℕ) → z < length ins → slice_index (places whole next ins) z < length whole
  within_tail next [] mine alike inserted stand z below = absurd (omega (arith, below))
  within_tail next (x ∷ xs) [] alike inserted stand z below = absurd alike
  within_tail next (x ∷ xs) (y ∷ ys) alike inserted stand zero below =
      let new : is_inserted x.kind ≡ true = ap is_inserted (inserted 0 x refl) in
      let inside = slice_get_within whole (next + 0) y (stand 0 y refl) in
      rw new (omega (arith, inside))
  within_tail next (x ∷ xs) (y ∷ ys) alike inserted stand (suc z) below =
      let new : is_inserted x.kind ≡ true = ap is_inserted (inserted 0 x refl) in
      rw new (within_tail (next + 1) xs ys alike.1 (λ k w is. inserted (suc k) w is)
      (λ k w is. subst (λ (j : ℕ). slice_get whole j ≡ Some w) (omega arith) (stand (suc k) w is)) z
      (omega (arith, below)))

  -- ---- the given ones where their names do
  -- each signal is given, and the whole has its name
  abbrev AreFound : List Signal → Type 0
  AreFound given = (z : ℕ) (x : Signal) → slice_get given z ≡ Some x
      → (is_inserted x.kind ≡ false) × HasName whole x.name

  module _ (next : ℕ) (ins mine : List Signal) (alike : AreAlike mine ins)
      (inserted : (z : ℕ) (x : Signal) → slice_get ins z ≡ Some x → x.kind ≡ Inserted)
      (stand : (z : ℕ) (x : Signal) → slice_get mine z ≡ Some x → slice_get whole (next + z) ≡ Some x) where
    pub named_are : (given : List Signal) → AreFound given
        → named_signals whole (places whole next (given ++ ins)) (given ++ ins) ≡ given ++ mine
    named_are [] found = named_tail next ins mine alike inserted stand
    named_are (x ∷ xs) found =
        let first = found 0 x refl in
        let old : is_inserted x.kind ≡ false = first.0 in
        rw old (ap₂ (λ (s : Signal) (ss : List Signal). s ∷ ss)
        (same_signal (record { name = name_of whole (place_of whole x.name); kind = x.kind }) x
        (found_at whole x.name first.1).0 refl) (named_are xs (λ z w is. found (suc z) w is)))

    pub places_within : (given : List Signal) → AreFound given → (z : ℕ) → z < length (given ++ ins)
        → slice_index (places whole next (given ++ ins)) z < length whole
    places_within [] found z below = within_tail next ins mine alike inserted stand z below
    places_within (x ∷ xs) found zero below =
        let first = found 0 x refl in
        let old : is_inserted x.kind ≡ false = first.0 in
        rw old (found_at whole x.name first.1).1
    places_within (x ∷ xs) found (suc z) below =
        let old : is_inserted x.kind ≡ false = (found 0 x refl).0 in
        rw old (places_within xs (λ k w is. found (suc k) w is) z (omega (arith, below)))

    -- a signal that isn't inserted has its own name there
    pub given_named : (given : List Signal) → AreFound given → (z : ℕ) (x : Signal)
        → slice_get (given ++ ins) z ≡ Some x
        → is_inserted x.kind ≡ false → name_of whole (slice_index (places whole next (given ++ ins)) z) ≡ x.name
    given_named [] found z x at old =
        absurd (true≢false (sym (ap is_inserted (inserted z x at)) ∙ old))
    given_named (g ∷ gs) found zero x at old =
        let first = found 0 g refl in
        let kind : is_inserted g.kind ≡ false = first.0 in
        rw kind ((found_at whole g.name first.1).0 ∙ ap (λ (y : Signal). y.name) (some_same g x at))
    given_named (g ∷ gs) found (suc z) x at old =
        let kind : is_inserted g.kind ≡ false = (found 0 g refl).0 in
        rw kind (given_named gs (λ k w is. found (suc k) w is) z x at old)

-- ---- a list that begins as another
pub begins_as : (given all : List Signal)
    → ((a : ℕ) → a < length given → slice_get all a ≡ slice_get given a) → all ≡ given ++ drop (length given) all
begins_as [] all same = refl
begins_as (g ∷ given) [] same = absurd (none (same 0 (omega arith)))
  where
    none : slice_get [] 0 ≡ Some g → ⊥
    none is = cc
begins_as (g ∷ given) (x ∷ all) same =
    ap₂ (λ (s : Signal) (ss : List Signal). s ∷ ss) (some_same x g (same 0 (omega arith)))
    (begins_as given all (λ a below. same (suc a) (omega (arith, below))))

pub alike_rest : (given xs ys : List Signal) → AreAlike (given ++ xs) (given ++ ys) → AreAlike xs ys
alike_rest [] xs ys alike = alike
alike_rest (g ∷ given) xs ys alike = alike_rest given xs ys alike.1

-- ---- the places of part i
pub places_of_part : (whole : List Signal) (next : ℕ) (parts : List Netlist) (i : ℕ) → i < length parts
    → slice_index_or (all_places whole next parts) i []
    ≡ places whole (next + inserts_before parts i) (part_at parts i).signals
places_of_part whole next [] i below = absurd (omega (arith, below))
places_of_part whole next (n ∷ parts) zero below =
    ap (λ (k : ℕ). places whole k n.signals) (omega arith)
places_of_part whole next (n ∷ parts) (suc i) below =
    places_of_part whole (next + length n.inserts) parts i (omega (arith, below))
    ∙ ap (λ (k : ℕ). places whole k (part_at parts i).signals) (omega arith)
