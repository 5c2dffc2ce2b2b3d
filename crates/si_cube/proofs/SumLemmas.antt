-- The chosen sums are sums of a netlist: literals in rising signal order, of signals that are there.
use Rattle.std.proofs.Common.{◌≡◌, ℕ, zero, suc, ◌+◌, ◌<◌, ◌≤◌, List, [], ◌∷◌, ◌++◌, get_or, All, AllPairs, ap, arith}
use Rattle.std.proofs.Common.{inl, inr}
use Rattle.std.proofs.lemmas.Bool.{cases_Bool}
use Rattle.std.proofs.lemmas.List.Elements.{Contains-get_or}
use Rattle.std.proofs.lemmas.List.Kept.{AllPairs-cons}
use Rattle.si_base.specs.declared.ids.Literal.{Literal}
use Rattle.si_base.specs.Bits.{bit}
use Rattle.si_base.specs.WellFormed.{IsCube, IsSum}
use Rattle.si_base.proofs.OrderAscending.{In}
use Rattle.si_base.proofs.OrderLemmas.{in_contains}
use Rattle.si_cube.specs.Literals.{full_literals}
use Rattle.si_cube.specs.Covers.{Demand}
use Rattle.si_cube.specs.Needed.{needed_from}
use Rattle.si_cube.specs.Rule.{is_needless_literal, is_needless_cube, grown, grown_cubes, chosen}
use Rattle.si_cube.proofs.NeededLemmas.{Needless, in_from_needed}
use Rattle.si_cube.proofs.RuleLemmas.{each_grown}

all_from_in : {A : Type 0} (P : A → Type 0) (xs : List A) → ((x : A) → In x xs → P x) → All P xs
all_from_in P xs each =
    λ k d within. each (get_or xs k d) (in_contains xs (get_or xs k d) (Contains-get_or xs k d within))

full_range : (n i code : ℕ) (l : Literal) → In l (full_literals n i code) → (i ≤ l.sig) × (l.sig < i + n)
full_range zero i code l here = absurd here
full_range (suc n) i code l (inl same) = let at : l.sig ≡ i =
    ap (λ (m : Literal). m.sig) same in (omega arith, omega arith)
full_range (suc n) i code l (inr later) = let rest =
    full_range n (i + 1) code l later in (omega (arith, rest.0), omega (arith, rest.1))

-- what stays of rising literals rises
still_rising : (needless : Needless Literal) (before : List Literal) (n i code : ℕ)
    → AllPairs (λ k l. k.sig < l.sig) (needed_from needless before (full_literals n i code))
still_rising needless before zero i code = λ j k d order within. absurd (omega arith)
still_rising needless before (suc n) i code =
    let l : Literal = record { sig = i; plain = bit code i } in
    let rest : List Literal = full_literals n (i + 1) code in
    elim (cases_Bool (needless l (before ++ rest))) [
      | inl goes ↦ rw goes (still_rising needless before n (i + 1) code)
      | inr stays ↦
          rw stays (AllPairs-cons (λ (k m : Literal). k.sig < m.sig) l (needed_from needless (before ++ l ∷ []) rest)
          (all_from_in (λ (m : Literal). i < m.sig) (needed_from needless (before ++ l ∷ []) rest)
          (λ m here. (let range = full_range n (i + 1) code m
          (in_from_needed needless (before ++ l ∷ []) rest m here) in omega (arith, range.0))))
          (still_rising needless (before ++ l ∷ []) n (i + 1) code))
    ]

grown_is_cube : (n : ℕ) (forbidden : List ℕ) (code : ℕ) → IsCube n (grown n forbidden code)
grown_is_cube n forbidden code = record {
  rising = still_rising (is_needless_literal forbidden) [] n 0 code;
  there = all_from_in (λ (l : Literal). l.sig < n) (grown n forbidden code)
      (λ l here. (let range = full_range n 0 code l
      (in_from_needed (is_needless_literal forbidden) [] (full_literals n 0 code) l here) in omega (arith, range.1)));
}

pub chosen_is_sum : (n : ℕ) (d : Demand) → IsSum n (chosen n d)
chosen_is_sum n d = all_from_in (IsCube n) (chosen n d) (λ cube here.
    each_grown (IsCube n) n d.forbidden [] d.required (λ other none. absurd none)
    (λ code there. grown_is_cube n d.forbidden code) cube
    (in_from_needed (is_needless_cube d.required) [] (grown_cubes n d.forbidden [] d.required) cube here))
