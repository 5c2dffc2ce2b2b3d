-- Full cubes, and what a cube covers.
use Rattle.std.proofs.Common.{◌≡◌, ◌≢◌, ℕ, zero, suc, ◌+◌, ◌<◌, ◌≤◌, ◌==◌, ◌^◌, not, Bool, true, List, [], ◌∷◌}
use Rattle.std.proofs.Common.{refl, sym, ap, subst, ◌∙◌, arith, inl, inr, get_or, filter, eq-eqb}
use Rattle.std.proofs.lemmas.Bool.{cases_Bool, cases_eq, cases_lt, true≢false, and_parts, and_from, not-true}
use Rattle.si_base.specs.declared.ids.Literal.{Literal}
use Rattle.si_base.specs.Bits.{bit}
use Rattle.si_base.specs.Netlist.{literal_value}
use Rattle.si_base.proofs.BitFacts.{same_codes}
use Rattle.si_base.proofs.GraphSteps.{beq-refl, beq-true}
use Rattle.si_base.proofs.OrderAscending.{In}
use Rattle.si_base.proofs.StepCodes.{no_bit}
use Rattle.si_cube.specs.Literals.{full_literals}
use Rattle.si_cube.specs.Covers.{without}
use Rattle.si_cube.specs.Rule.{covers, covers_any}
use Rattle.si_cube.proofs.NeededLemmas.{IsWithin, others, all_in, all_from_in, any_in, any_from_in, differs_in_others}

pub full_holds : (n i code : ℕ) → covers (full_literals n i code) code ≡ true
full_holds zero i code = refl
full_holds (suc n) i code = and_from _ _ (beq-refl (bit code i)) (full_holds n (i + 1) code)

pub full_bits : (n i k v : ℕ) → covers (full_literals n i k) v ≡ true → (j : ℕ) → i ≤ j → j < i + n → bit v j ≡ bit k j
full_bits zero i k v all j low high = absurd (omega arith)
full_bits (suc n) i k v all j low high =
    let parts = and_parts _ _ all in
    elim (cases_eq j i) [
      | inl same ↦ (let P : ℕ → Type 0 = λ m. bit v m ≡ bit k m in subst P (sym same) (beq-true _ _ parts.0))
      | inr other ↦ full_bits n (i + 1) k v parts.1 j (omega arith) (omega arith)
    ]

-- the full cube of one code covers no other
pub full_tells : (n k v : ℕ) → k < 2 ^ n → v < 2 ^ n → covers (full_literals n 0 k) v ≡ true → v ≡ k
full_tells n k v small_k small_v all = same_codes v k (λ i. elim (cases_lt i n) [
  | inl below ↦ full_bits n 0 k v all i (omega arith) (omega arith)
  | inr above ↦ no_bit v n i small_v above ∙ sym (no_bit k n i small_k above)
])

-- fewer literals cover more
pub covers_more : (smaller larger : List Literal) (k : ℕ) → IsWithin smaller larger → covers larger k ≡ true
    → covers smaller k ≡ true
covers_more smaller larger k within all =
    all_from_in (literal_value k) smaller (λ l here. all_in (literal_value k) larger all l (within l here))

pub covers_any_more : (codes : List ℕ) (smaller larger : List Literal) → IsWithin smaller larger
    → covers_any codes larger ≡ true → covers_any codes smaller ≡ true
covers_any_more codes smaller larger within any =
    let found = any_in (covers larger) codes any in
    any_from_in (covers smaller) codes found.0 found.1 (covers_more smaller larger found.0 within found.2)

in_filter : {A : Type 0} (p : A → Bool) (xs : List A) (x : A) → In x (filter p xs) → In x xs × (p x ≡ true)
in_filter p [] x here = absurd here
in_filter p (y ∷ xs) x here = elim (cases_Bool (p y)) [
  | inl passes ↦ elim (let here : In x (y ∷ filter p xs) = rw passes at here in here) [
    | inl same ↦ (inl same, ap p same ∙ passes)
    | inr later ↦ (let rest = in_filter p xs x later in (inr rest.0, rest.1))
  ]
  | inr fails ↦ (let rest = in_filter p xs x (rw fails at here) in (inr rest.0, rest.1))
]

not_same : (a b : ℕ) → not (a == b) ≡ true → a ≢ b
not_same a b apart same = true≢false (sym (eq-eqb a b same) ∙ not-true (a == b) apart)

-- the cube without the signal of its i-th literal has the other literals alone
pub without_within : (cube : List Literal) (i : ℕ) (d : Literal)
    → IsWithin (without (get_or cube i d).sig cube) (others cube i)
without_within cube i d l here =
    let parts = in_filter (λ (m : Literal). not (m.sig == (get_or cube i d).sig)) cube l here in
    differs_in_others cube i d l parts.0
    (λ same. not_same l.sig (get_or cube i d).sig parts.1 (ap (λ (m : Literal). m.sig) same))
