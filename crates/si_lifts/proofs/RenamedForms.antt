-- A gate whose literals are listed anew by the places of its signals is that gate, renamed.
use Rattle.std.proofs.Common.{◌≡◌, ℕ, suc, ◌<◌, ◌==◌, Bool, List, [], ◌∷◌, Option, Some, None, All, AllPairs}
use Rattle.std.proofs.Common.{Contains, get_or, map, slice_index, refl, sym, ap, ap₂, subst, ◌∙◌}
use Rattle.std.proofs.Common.{arith, inl, inr, eq-eqb, ne_eqb, lt-ltb}
use Rattle.std.specs.List.{range_with_len}
use Rattle.std.proofs.lemmas.Bool.{cases_Bool, eqb-true}
use Rattle.std.proofs.lemmas.List.Elements.{All-contains, All-head, All-tail}
use Rattle.std.proofs.lemmas.List.FromFn.{get_or-range_with_len, length-range_with_len}
use Rattle.std.proofs.lemmas.Option.{same_Some}
use Rattle.si_base.specs.declared.ids.Literal.{Literal}
use Rattle.si_base.specs.Netlist.{Cell, Gate, Gc, Sum, SumGate}
use Rattle.si_base.specs.WellFormed.{IsCube, IsGate, IsSum}
use Rattle.si_graph.proofs.ListMembers.{Contains-cons_cases, Contains-here, Contains-nil, Contains-there}
use Rattle.si_insert.proofs.FlatMaps.{Contains-flat_map, Contains-from_flat_map}
use Rattle.si_compose.specs.Renamed.{IsRenamedCube, IsRenamedGate, IsRenamedSum, renamed_literal}
use Rattle.si_joins.specs.Gates.{literal_at, literal_if, renamed_cube, renamed_gate, renamed_pins, renamed_sum}

abbrev lit : ℕ → Bool → Literal
lit k v = record { sig = k; plain = v }

in_range : (n k : ℕ) → k < n → Contains (range_with_len 0 n) k
in_range n k below =
    let size = length-range_with_len 0 n in
    let here = get_or-range_with_len 0 n k k below in
    (k, omega (arith, size, below), omega (arith, here))

-- ---- the literal that is found at a place is one of the cube
found_from : (to : List ℕ) (cube : List Literal) (k : ℕ) (plain : Bool) → literal_at to cube k ≡ Some plain
    → (l : Literal) × Contains cube l × (slice_index to l.sig ≡ k) × (l.plain ≡ plain)
found_from to [] k plain is = cc
found_from to (l ∷ ls) k plain is = elim (cases_Bool (slice_index to l.sig == k)) [
  | inl here ↦ (
      let same : Some l.plain ≡ Some plain = rw here at is in
      (l, Contains-here l ls, eqb-true (slice_index to l.sig) k here, same_Some l.plain plain same))
  | inr other ↦ (
      let later : literal_at to ls k ≡ Some plain = rw other at is in
      let rest = found_from to ls k plain later in
      (rest.0, Contains-there l ls rest.0 rest.1, rest.2, rest.3))
]

-- the places of signals below the size are below n, and different signals have different ones
module _ (to : List ℕ) (size n : ℕ) (below : (z : ℕ) → z < size → slice_index to z < n)
    (apart : (y z : ℕ) → y < size → z < size → slice_index to y ≡ slice_index to z → y ≡ z) where
  -- ---- each literal of a cube is found at its place
  before_rest : (h l : Literal) (ls : List Literal) → AllPairs (λ a b. a.sig < b.sig) (h ∷ ls) → Contains ls l
      → h.sig < l.sig
  before_rest h l ls rising there =
      let pair : h.sig < (get_or ls there.0 l).sig = rising 0 (suc there.0) l (omega arith) (omega (arith, there.1)) in
      subst (λ (x : Literal). h.sig < x.sig) there.2 pair

  finds : (cube : List Literal) (l : Literal) → AllPairs (λ a b. a.sig < b.sig) cube → All (λ a. a.sig < size) cube
      → Contains cube l → literal_at to cube (slice_index to l.sig) ≡ Some l.plain
  finds [] l rising small there = absurd (Contains-nil l there)
  finds (h ∷ ls) l rising small there =
      let rest = finds ls l
      (λ i j d before inside. rising (suc i) (suc j) d (omega (arith, before)) (omega (arith, inside)))
      (All-tail (λ (a : Literal). a.sig < size) h ls small) in
      elim (Contains-cons_cases h ls l there) [
        | inl same ↦ (
            let here = eq-eqb (slice_index to h.sig) (slice_index to l.sig)
            (ap (λ (a : Literal). slice_index to a.sig) same) in
            rw here (ap (λ (a : Literal). Some a.plain) same))
        | inr later ↦ (
            let less = before_rest h l ls rising later in
            let last = All-contains (λ (a : Literal). a.sig < size) (h ∷ ls) l small there in
            let first = All-head (λ (a : Literal). a.sig < size) h ls small in
            let other = ne_eqb (slice_index to h.sig) (slice_index to l.sig)
            (λ same. (let one = apart h.sig l.sig first last same in omega (arith, one, less))) in
            rw other (rest later))
      ]

  -- ---- cubes, sums and pins
  module _ (cube : List Literal) (is : IsCube size cube) where
    abbrev at : ℕ → List Literal
    at k = literal_if k (literal_at to cube k)

    of_cube : (l : Literal) → Contains (renamed_cube to n cube) l
        → (k : Literal) × Contains cube k × (l ≡ renamed_literal (slice_index to) k)
    of_cube l there =
        let found = Contains-from_flat_map at (range_with_len 0 n) l there in
        by_literal found.0 (literal_at to cube found.0) refl found.2
      where
        by_literal : (k : ℕ) (o : Option Bool) → literal_at to cube k ≡ o → Contains (literal_if k o) l
            → (h : Literal) × Contains cube h × (l ≡ renamed_literal (slice_index to) h)
        by_literal k None none has = absurd (Contains-nil l has)
        by_literal k (Some plain) some has =
            let found = found_from to cube k plain some in
            elim (Contains-cons_cases (lit k plain) [] l has) [
              | inl same ↦ (found.0, found.1, sym same ∙ ap₂ lit (sym found.2) (sym found.3))
              | inr none ↦ absurd (Contains-nil l none)
            ]

    in_cube : (k : Literal) → Contains cube k → Contains (renamed_cube to n cube) (renamed_literal (slice_index to) k)
    in_cube k there =
        let small = All-contains (λ (a : Literal). a.sig < size) cube k is.there there in
        let place = slice_index to k.sig in
        let here : Contains (at place) (lit place k.plain) =
        subst (λ (o : Option Bool). Contains (literal_if place o) (lit place k.plain))
        (sym (finds cube k is.rising is.there there)) (Contains-here (lit place k.plain) []) in
        Contains-flat_map at (range_with_len 0 n) place (lit place k.plain) (in_range n place (below k.sig small)) here

    cube_is : IsRenamedCube (slice_index to) cube (renamed_cube to n cube)
    cube_is l = (
      of_cube l,
      λ k. subst (λ (x : Literal). Contains (renamed_cube to n cube) x) (sym k.2) (in_cube k.0 k.1),
    )

  sum_is : (sum : Sum) → IsSum size sum → IsRenamedSum (slice_index to) sum (renamed_sum to n sum)
  sum_is [] are = tt
  sum_is (cube ∷ sum) are =
      (cube_is cube (All-head (IsCube size) cube sum are), sum_is sum (All-tail (IsCube size) cube sum are))

  pins_are : (ls : List Literal) → All (λ l. l.sig < size) ls
      → renamed_pins to n ls ≡ map (renamed_literal (slice_index to)) ls
  pins_are [] small = refl
  pins_are (l ∷ ls) small =
      let first = below l.sig (All-head (λ (a : Literal). a.sig < size) l ls small) in
      let rest = pins_are ls (All-tail (λ (a : Literal). a.sig < size) l ls small) in
      rw (lt-ltb (slice_index to l.sig) n first)
      (ap (λ (pins : List Literal). renamed_literal (slice_index to) l ∷ pins) rest)

  -- ---- gates
  pub form_is : (gate : Gate) → IsGate size gate → IsRenamedGate (slice_index to) gate (renamed_gate to n gate)
  form_is (SumGate sum) is = sum_is sum is
  form_is (Gc set reset) is = (sum_is set is.0, sum_is reset is.1)
  form_is (Cell name literals sum) is = (refl, pins_are literals is.2, sum_is sum is.3)
