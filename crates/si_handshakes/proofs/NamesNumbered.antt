-- Numbered names differ, and what the signals with such names are.
use Rattle.std.proofs.Common.{◌≡◌, ◌≢◌, ℕ, ◌+◌, ◌-◌, ◌^◌, ◌<◌, ◌≤◌, List, [], ◌∷◌, ◌++◌, length, map, get_or, AllPairs}
use Rattle.std.proofs.Common.{Contains, codes, decimal, sym, ap, ◌∙◌, arith, inl, inr, append_assoc}
use Rattle.std.proofs.lemmas.Bool.{cases_lt}
use Rattle.std.proofs.lemmas.List.{get_or_append_left, get_or-append_right, get_or-map, length-map}
use Rattle.std.proofs.lemmas.List.{map-append, length-append}
use Rattle.std.proofs.lemmas.List.FromFn.{map-range_with_len_more, length-map-range_with_len, get_or-map-range_with_len}
use Rattle.si_base.specs.declared.graph.Signal.{Signal}
use Rattle.si_base.specs.declared.graph.SigKind.{SigKind}
use Rattle.si_base.specs.declared.graph.SigKind.TheVariants.{Input, Output}
use Rattle.si_base.specs.Graph.{kind_place}
use Rattle.si_base.specs.GivenGraph.{signals_of}
use Rattle.si_base.proofs.NumberedNames.{numbers_differ}
use Rattle.si_handshakes.specs.Handshakes.{numbered}

-- ---- names
pub numbered_more : (stem : List ℕ) (k : ℕ) → numbered stem (k + 1) ≡ numbered stem k ++ (stem ++ decimal k) ∷ []
numbered_more stem k = map-range_with_len_more (λ j. stem ++ decimal j) 0 k k (omega arith)

pub length-numbered : (stem : List ℕ) (k : ℕ) → length (numbered stem k) ≡ k
length-numbered stem k = length-map-range_with_len (λ j. stem ++ decimal j) 0 k

pub name_at : (stem : List ℕ) (n k : ℕ) (d : List ℕ) → k < n → get_or (numbered stem n) k d ≡ stem ++ decimal k
name_at stem n k d within = get_or-map-range_with_len (λ j. stem ++ decimal j) 0 n k k d within (omega arith)

-- the next name is new
pub next_is_new : (stem : List ℕ) (k : ℕ) → k < 2 ^ 64 → Contains (numbered stem k) (stem ++ decimal k) → ⊥
next_is_new stem k small (j, within, at) =
    let below : j < k = omega (arith, length-numbered stem k) in
    let same : j ≡ k = numbers_differ stem j k (omega arith) small
    (sym (name_at stem k j (stem ++ decimal k) below) ∙ at) in
    absurd (omega arith)

-- a name that is added
pub name_added : (stem name : List ℕ) (names new : List (List ℕ)) (k : ℕ) → k < 2 ^ 64 → names ≡ numbered stem k
    → name ≡ stem ++ decimal k → ((Contains names name → ⊥) → new ≡ names ++ name ∷ []) → new ≡ numbered stem (k + 1)
name_added stem name names new k small so_far is added =
    let absent : Contains names name → ⊥ = rw (so_far, is) (next_is_new stem k small) in
    added absent ∙ rw (so_far, is) (sym (numbered_more stem k))

-- ---- signals
pub signal_added : (kind : SigKind) (stem name : List ℕ) (old items new : List Signal) (k : ℕ)
    → items ≡ old ++ signals_of kind (numbered stem k) → name ≡ stem ++ decimal k
    → new ≡ items ++ record { name = name; kind = kind } ∷ [] → new ≡ old ++ signals_of kind (numbered stem (k + 1))
signal_added kind stem name old items new k so_far is added =
    let signal : List ℕ → Signal = λ m. record { name = m; kind = kind } in
    let longer : signals_of kind (numbered stem (k + 1)) ≡ signals_of kind (numbered stem k) ++ signal name ∷ [] =
    ap (map signal) (numbered_more stem k) ∙ map-append signal (numbered stem k) ((stem ++ decimal k) ∷ [])
    ∙ ap (λ (m : List ℕ). signals_of kind (numbered stem k) ++ signal m ∷ []) (sym is) in
    added ∙ ap (λ (xs : List Signal). xs ++ signal name ∷ []) so_far
    ∙ append_assoc old (signals_of kind (numbered stem k)) (signal name ∷ [])
    ∙ ap (λ (xs : List Signal). old ++ xs) (sym longer)

-- the signals of n handshakes
abbrev pub both_kinds : ℕ → List Signal
both_kinds n = signals_of Input (numbered (codes "r") n) ++ signals_of Output (numbered (codes "a") n)

of_one_kind : (kind : SigKind) (stem : List ℕ) (n : ℕ) → length (signals_of kind (numbered stem n)) ≡ n
of_one_kind kind stem n =
    length-map (numbered stem n) (λ (m : List ℕ). record { name = m; kind = kind }) ∙ length-numbered stem n

pub twice_as_many : (n : ℕ) → length (both_kinds n) ≡ n + n
twice_as_many n =
    length-append (signals_of Input (numbered (codes "r") n)) (signals_of Output (numbered (codes "a") n))
    ∙ omega (arith, of_one_kind Input (codes "r") n, of_one_kind Output (codes "a") n)

one_at : (kind : SigKind) (stem : List ℕ) (n k : ℕ) (d : Signal) → k < n
    → get_or (signals_of kind (numbered stem n)) k d ≡ record { name = stem ++ decimal k; kind = kind }
one_at kind stem n k d within =
    let signal : List ℕ → Signal = λ m. record { name = m; kind = kind } in
    let inside : k < length (numbered stem n) = omega (arith, length-numbered stem n) in
    get_or-map signal (numbered stem n) k d.name d inside ∙ ap signal (name_at stem n k d.name within)

pub input_at : (n k : ℕ) (d : Signal) → k < n
    → get_or (both_kinds n) k d ≡ record { name = codes "r" ++ decimal k; kind = Input }
input_at n k d within =
    get_or_append_left (signals_of Input (numbered (codes "r") n)) (signals_of Output (numbered (codes "a") n)) d k
    (omega (arith, of_one_kind Input (codes "r") n)) ∙ one_at Input (codes "r") n k d within

pub output_at : (n k : ℕ) (d : Signal) → n ≤ k → k < n + n
    → get_or (both_kinds n) k d ≡ record { name = codes "a" ++ decimal (k - n); kind = Output }
output_at n k d above within =
    get_or-append_right (signals_of Input (numbered (codes "r") n)) (signals_of Output (numbered (codes "a") n)) n k d
    (of_one_kind Input (codes "r") n) above ∙ one_at Output (codes "a") n (k - n) d (omega arith)

pub kinds_in_order : (n : ℕ) → AllPairs (λ x y. kind_place x.kind ≤ kind_place y.kind) (both_kinds n)
kinds_in_order n i j d before within = elim (cases_lt i n) [
  | inl low ↦ elim (cases_lt j n) [
    | inl also ↦ rw (input_at n i d low, input_at n j d also) (omega arith)
    | inr high ↦
        (let inside : j < n + n = omega (arith, twice_as_many n) in
        rw (input_at n i d low, output_at n j d high inside) (omega arith))
  ]
  | inr high ↦
      (let inside : j < n + n = omega (arith, twice_as_many n) in
      rw (output_at n i d high (omega arith), output_at n j d (omega arith) inside) (omega arith))
]

pub names_differ : (n : ℕ) → n < 2 ^ 64 → AllPairs (λ x y. x.name ≢ y.name) (both_kinds n)
names_differ n small i j d before within = elim (cases_lt i n) [
  | inl low ↦ elim (cases_lt j n) [
    | inl also ↦ rw (input_at n i d low, input_at n j d also) (λ same.
        (let equal : i ≡ j = numbers_differ (codes "r") i j (omega arith) (omega arith) same in absurd (omega arith)))
    | inr high ↦
        (let inside : j < n + n = omega (arith, twice_as_many n) in
        rw (input_at n i d low, output_at n j d high inside) (λ same.
        (let r : ℕ = 114 in
        let a : ℕ = 97 in
        let first : r ≡ a = ap (λ (l : List ℕ). get_or l 0 0) same in absurd (omega arith))))
  ]
  | inr high ↦
      (let inside : j < n + n = omega (arith, twice_as_many n) in
      rw (output_at n i d high (omega arith), output_at n j d (omega arith) inside) (λ same.
      (let equal : i - n ≡ j - n = numbers_differ (codes "a") (i - n) (j - n) (omega arith) (omega arith) same in
      absurd (omega arith))))
]
