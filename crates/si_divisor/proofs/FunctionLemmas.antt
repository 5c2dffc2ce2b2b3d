-- The function that an instance computes.
use Rattle.std.proofs.Common.{◌≡◌, ℕ, zero, suc, ◌+◌, ◌-◌, ◌*◌, ◌/◌, ◌%◌, ◌<◌, ◌^◌, ◌==◌, Bool, List, [], ◌∷◌, ◌++◌}
use Rattle.std.proofs.Common.{length, map, get_or, true, false, All, Contains, refl, sym, ap, ap₂, subst, ◌∙◌, arith}
use Rattle.std.proofs.Common.{inl, inr}
use Rattle.std.proofs.lemmas.Bool.{cases_eq}
use Rattle.std.proofs.lemmas.List.{get_or_append_left, get_or-map, get_or_default, length-map, length_push}
use Rattle.std.proofs.lemmas.List.Elements.{All-map}
use Rattle.std.proofs.lemmas.List.Sorted.{All-permutation, Contains-permutation}
use Rattle.std.proofs.lemmas.Nat.{pow-add, pow_pos}
use Rattle.std.proofs.lemmas.Nat.Bits.{bit_at_lowest, bit_at-suc}
use Rattle.std.proofs.Math.Nat.{pow-suc}
use Rattle.std.proofs.Math.Seq.{get_or-append_seam}
use Rattle.std.specs.Int.{bit_at}
use Rattle.std.specs.List.Sorted.{IsPermutation}
use mathlib.Core.Bool.{beq}
use mir.Val.{bool_byte}
use Rattle.si_base.specs.Bits.{bit, IsSet}
use Rattle.si_base.specs.Limits.{code_width}
use Rattle.si_base.specs.Netlist.{literal_value, sum_value}
use Rattle.si_base.specs.declared.ids.Literal.{Literal}
use Rattle.si_cell.specs.Library.{Library, Instance, IsInstance, cell_at, code_of, instance_value}
use Rattle.si_cell.proofs.ExpandedLemmas.{bit_of}
use Rattle.si_divisor.specs.declared.function.Function.{Function}
use Rattle.si_divisor.specs.Functions.{IsFunction, values_at}

-- ---- the values at a code
pub bit_of_signal : (signals : List ℕ) (code : ℕ) (q : Bool) (i d : ℕ) → i < length signals
    → bit (values_at signals code q) i ≡ bit code (get_or signals i d)
bit_of_signal signals code q i d inside =
    bit_of (map (bit code) signals ++ q ∷ []) i
    ∙ (get_or_append_left (map (bit code) signals) (q ∷ []) false i (omega (arith, size, inside))
    ∙ get_or-map (bit code) signals i d false inside)
  where
    size : length (map (bit code) signals) ≡ length signals
    size = length-map signals (bit code)

pub bit_of_output : (signals : List ℕ) (code : ℕ) (q : Bool) → bit (values_at signals code q) (length signals) ≡ q
bit_of_output signals code q =
    ap (bit (values_at signals code q)) (sym (length-map signals (bit code)))
    ∙ (bit_of (map (bit code) signals ++ q ∷ []) (length (map (bit code) signals))
    ∙ get_or-append_seam (map (bit code) signals) q [] false)

-- ---- a code in which the signals have such values
-- the first i of the signals have in c the values that they have in each code with these values
abbrev pub Agrees : List ℕ → ℕ → ℕ → ℕ → Type 0
Agrees signals values i c = (code : ℕ) (q : Bool) → values_at signals code q ≡ values
    → (j d : ℕ) → j < i → bit c (get_or signals j d) ≡ bit code (get_or signals j d)

pub agrees_more : (signals : List ℕ) (values i s : ℕ) (v : Bool) (old new : ℕ) → i < length signals
    → s ≡ get_or signals i 0 → v ≡ bit values i → IsSet old s v new → Agrees signals values i old
    → Agrees signals values (i + 1) new
agrees_more signals values i s v old new inside is told set before code q values_are j d below = elim (cases_eq t s) [
  | inl same ↦ rw same (set.there ∙ value)
  | inr other ↦ set.others t other ∙ before code q values_are j d (earlier other)
]
  where
    t : ℕ
    t = get_or signals j d

    value : v ≡ bit code s
    value = told ∙ (ap (λ k. bit k i) (sym values_are)
        ∙ (bit_of_signal signals code q i 0 inside ∙ ap (bit code) (sym is)))

    earlier : (t ≡ s → ⊥) → j < i
    earlier other = elim (cases_eq j i) [
      | inl last ↦ absurd (other (ap (λ k. get_or signals k d) last ∙ (get_or_default signals i d 0 inside ∙ sym is)))
      | inr another ↦ omega (arith, another, below)
    ]

-- ---- an instance reads the signals of its literals alone
same_values : (a b : ℕ) (literals : List Literal) → All (λ l. bit a l.sig ≡ bit b l.sig) literals
    → map (literal_value a) literals ≡ map (literal_value b) literals
same_values a b [] same = refl
same_values a b (l ∷ ls) same =
    ap₂ (λ (v : Bool) (vs : List Bool). v ∷ vs) (ap (λ v. beq v l.plain) (same 0 l (omega arith)))
    (same_values a b ls (λ i d within. same (suc i) d (omega (arith, within))))

pub same_value : (library : Library) (i : Instance) (signals : List ℕ) (a b : ℕ) (q : Bool)
    → All (λ l. Contains signals l.sig) i.literals → All (λ s. bit a s ≡ bit b s) signals
    → instance_value library i a q ≡ instance_value library i b q
same_value library i signals a b q all same =
    ap (λ (vs : List Bool). sum_value (code_of (vs ++ q ∷ [])) (cell_at library i.cell).sum)
    (same_values a b i.literals at_literal)
  where
    at_signal : (s : ℕ) → Contains signals s → bit a s ≡ bit b s
    at_signal s (k, within, is) = subst (λ t. bit a t ≡ bit b t) is (same k s within)

    at_literal : All (λ l. bit a l.sig ≡ bit b l.sig) i.literals
    at_literal k d within = at_signal (get_or i.literals k d).sig (all k d within)

pub value_by : (library : Library) (i : Instance) (signals : List ℕ) (values c : ℕ) (r v : Bool)
    → All (λ l. Contains signals l.sig) i.literals
    → ((code : ℕ) (q : Bool) → values_at signals code q ≡ values → All (λ s. bit c s ≡ bit code s) signals)
    → v ≡ bit values (length signals) → r ≡ instance_value library i c v
    → (code : ℕ) (q : Bool) → values_at signals code q ≡ values → r ≡ instance_value library i code q
value_by library i signals values c r v all agree told is code q values_are =
    is ∙ (ap (instance_value library i c) own ∙ same_value library i signals c code q all (agree code q values_are))
  where
    own : v ≡ q
    own = told ∙ (ap (λ k. bit k (length signals)) (sym values_are) ∙ bit_of_output signals code q)

-- ---- the table, from its last bit on
-- so many of its last bits are those of a table of so many
abbrev pub HasValues : Library → Instance → List ℕ → ℕ → ℕ → ℕ → Type 0
HasValues library i signals codes k table = (v code : ℕ) (q : Bool) → v < k
    → values_at signals code q ≡ (codes - k) + v → bit table v ≡ instance_value library i code q

lowest : (b : Bool) (m : ℕ) → ((bool_byte b + 2 * m) % 2 == 1) ≡ b
lowest true m = let e : (1 + 2 * m) % 2 ≡ 1 = omega arith in rw e refl
lowest false m = let e : (0 + 2 * m) % 2 ≡ 0 = omega arith in rw e refl

doubled : (b : Bool) (m : ℕ) → (bool_byte b + 2 * m) / 2 ≡ m
doubled true m = omega arith
doubled false m = omega arith

first_bit : (b : Bool) (m n : ℕ) → n ≡ bool_byte b + 2 * m → bit n 0 ≡ b
first_bit b m n is = ap (λ k. bit k 0) is
    ∙ (ap (λ (x : ℕ). x == 1) (bit_at_lowest (bool_byte b + 2 * m)) ∙ lowest b m)

later_bit : (b : Bool) (m n i : ℕ) → n ≡ bool_byte b + 2 * m → bit n (suc i) ≡ bit m i
later_bit b m n i is = ap (λ k. bit k (suc i)) is
    ∙ ap (λ (x : ℕ). x == 1) (bit_at-suc (bool_byte b + 2 * m) i ∙ ap (λ k. bit_at k i) (doubled b m))

pub values_more : (library : Library) (i : Instance) (signals : List ℕ) (codes k old new : ℕ) (value : Bool) → k < codes
    → new ≡ bool_byte value + 2 * old
    → ((code : ℕ) (q : Bool) → values_at signals code q ≡ codes - 1 - k → value ≡ instance_value library i code q)
    → HasValues library i signals codes k old → HasValues library i signals codes (k + 1) new
values_more library i signals codes k old new value inside is told before zero code q below values_are =
    first_bit value old new is ∙ told code q (omega (arith, values_are, inside))
values_more library i signals codes k old new value inside is told before (suc v) code q below values_are =
    later_bit value old new v is ∙ before v code q (omega (arith, below)) (omega (arith, values_are, inside))

pub small_more : (value : Bool) (k old new : ℕ) → new ≡ bool_byte value + 2 * old → old < 2 ^ k
    → new < 2 ^ (k + 1)
small_more true k old new is below = let twice = pow-add 2 k 1 in omega (arith, is, below, twice)
small_more false k old new is below = let twice = pow-add 2 k 1 in omega (arith, is, below, twice)

-- ---- the whole table
values_below : (vs : List Bool) → code_of vs < 2 ^ length vs
values_below [] = pow_pos 0
values_below (true ∷ vs) = let below = values_below vs in rw pow-suc (omega (arith, below))
values_below (false ∷ vs) = let below = values_below vs in rw pow-suc (omega (arith, below))

pub values_small : (signals : List ℕ) (code : ℕ) (q : Bool) → values_at signals code q < 2 ^ (length signals + 1)
values_small signals code q =
    subst (λ (n : ℕ). values_at signals code q < 2 ^ n) size (values_below (map (bit code) signals ++ q ∷ []))
  where
    size : length (map (bit code) signals ++ q ∷ []) ≡ length signals + 1
    size = length_push (map (bit code) signals) q ∙ ap (λ n. n + 1) (length-map signals (bit code))

pub whole_table : (library : Library) (i : Instance) (signals : List ℕ) (codes table : ℕ)
    → codes ≡ 2 ^ (length signals + 1) → HasValues library i signals codes codes table
    → (code : ℕ) (q : Bool) → bit table (values_at signals code q) ≡ instance_value library i code q
whole_table library i signals codes table is values code q =
    values (values_at signals code q) code q below (omega arith)
  where
    below : values_at signals code q < codes
    below = subst (λ n. values_at signals code q < n) (sym is) (values_small signals code q)

-- the values where the own output is 1 in place of 0
output_adds : (vs : List Bool) → code_of (vs ++ true ∷ []) ≡ code_of (vs ++ false ∷ []) + 2 ^ length vs
output_adds [] = refl
output_adds (true ∷ vs) = let later = output_adds vs in rw pow-suc (omega (arith, later))
output_adds (false ∷ vs) = let later = output_adds vs in rw pow-suc (omega (arith, later))

pub output_at_one : (signals : List ℕ) (code low codes : ℕ) → low ≡ values_at signals code false
    → codes ≡ 2 ^ (length signals + 1) → low + codes / 2 ≡ values_at signals code true
output_at_one signals code low codes low_is codes_are =
    let size : 2 ^ length (map (bit code) signals) ≡ 2 ^ length signals =
    ap (λ (n : ℕ). 2 ^ n) (length-map signals (bit code)) in
    let twice = pow-add 2 (length signals) 1 in
    let adds : values_at signals code true ≡ values_at signals code false + 2 ^ length (map (bit code) signals) =
    output_adds (map (bit code) signals) in
    omega (arith, adds, size, twice, low_is, codes_are)

-- ---- the signals
module _ (literals given : List Literal) (signals shown : List ℕ) (same : given ≡ literals)
    (moved : IsPermutation (map (λ l. l.sig) given) signals) (is : shown ≡ signals) where
  pub reads_all : All (λ l. Contains shown l.sig) literals
  reads_all k d within = subst (λ (xs : List ℕ). Contains xs (get_or literals k d).sig) (sym is)
      (Contains-permutation (map (λ l. l.sig) given) signals _ moved
      (subst (λ (ls : List Literal). Contains (map (λ l. l.sig) ls) (get_or literals k d).sig) (sym same) (
        k,
        omega (arith, within, length-map literals (λ (l : Literal). l.sig)),
        get_or-map (λ (l : Literal). l.sig) literals k d (get_or literals k d).sig within,
      )))

  pub within_all : All (λ l. l.sig < code_width) literals → All (λ s. s < code_width) shown
  within_all all = subst (λ (xs : List ℕ). All (λ s. s < code_width) xs) (sym is)
      (All-permutation (λ s. s < code_width) (map (λ l. l.sig) given) signals moved
      (subst (λ (ls : List Literal). All (λ s. s < code_width) (map (λ l. l.sig) ls)) (sym same)
      (All-map (λ s. s < code_width) (λ (l : Literal). l.sig) literals all)))

-- ---- the values of an instance's function
pub signals_within : (library : Library) (i : Instance) (f : Function) → IsInstance library i → IsFunction library i f
    → All (λ s. s < code_width) f.signals.items
signals_within library i f instance is = within_all i.literals i.literals f.signals.items f.signals.items refl is.same
    refl instance.signals
