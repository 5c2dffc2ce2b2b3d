-- The signals that aren't inserted stand in front of a netlist's signals.
use Rattle.std.proofs.Common.{◌≡◌, ℕ, ◌<◌, ◌≤◌, not, Bool, true, false, List, [], ◌∷◌, suc, length, filter, take}
use Rattle.std.proofs.Common.{get_or, refl, ap, arith, AllPairs}
use Rattle.si_base.specs.declared.graph.Signal.{Signal}
use Rattle.si_base.specs.declared.graph.SigKind.{SigKind}
use Rattle.si_base.specs.declared.graph.SigKind.TheVariants.{Input, Output, Internal, Inserted}
use Rattle.si_base.specs.Graph.{kind_place}
use Rattle.si_base.specs.System.{is_inserted}

abbrev pub is_given : Signal → Bool
is_given x = not (is_inserted x.kind)

-- a kind that doesn't come before an inserted one is inserted
inserted_after : (k l : SigKind) → not (is_inserted k) ≡ false → kind_place k ≤ kind_place l
    → not (is_inserted l) ≡ false
inserted_after Input l here le = cc
inserted_after Output l here le = cc
inserted_after Internal l here le = cc
inserted_after Inserted Input here le = absurd (omega arith)
inserted_after Inserted Output here le = absurd (omega arith)
inserted_after Inserted Internal here le = absurd (omega arith)
inserted_after Inserted Inserted here le = refl

tail_pairs : (x : Signal) (xs : List Signal) → AllPairs (λ x y. kind_place x.kind ≤ kind_place y.kind) (x ∷ xs)
    → AllPairs (λ x y. kind_place x.kind ≤ kind_place y.kind) xs
tail_pairs x xs pairs i j d lt within = pairs (suc i) (suc j) d (omega arith) (omega arith)

head_pairs : (x : Signal) (xs : List Signal) → AllPairs (λ x y. kind_place x.kind ≤ kind_place y.kind) (x ∷ xs)
    → (j : ℕ) (d : Signal) → j < length xs → kind_place x.kind ≤ kind_place (get_or xs j d).kind
head_pairs x xs pairs j d within = pairs 0 (suc j) d (omega arith) (omega arith)

none_given : (xs : List Signal) → ((j : ℕ) (d : Signal) → j < length xs → is_given (get_or xs j d) ≡ false)
    → filter is_given xs ≡ []
none_given [] none = refl
none_given (x ∷ xs) none = rw (none 0 x (omega arith)) (none_given xs (λ j d within. none (suc j) d (omega arith)))

given_in_front_at : (first : Bool) (x : Signal) (xs : List Signal) → is_given x ≡ first
    → AllPairs (λ x y. kind_place x.kind ≤ kind_place y.kind) (x ∷ xs)
    → take (length (filter is_given xs)) xs ≡ filter is_given xs
    → take (length (filter is_given (x ∷ xs))) (x ∷ xs) ≡ filter is_given (x ∷ xs)
given_in_front_at true x xs is pairs rest = rw is (ap (λ (ys : List Signal). x ∷ ys) rest)
given_in_front_at false x xs is pairs rest =
    let none = none_given xs
    (λ j d within. inserted_after x.kind (get_or xs j d).kind is (head_pairs x xs pairs j d within)) in
    rw (is, none) refl

pub given_in_front : (xs : List Signal) → AllPairs (λ x y. kind_place x.kind ≤ kind_place y.kind) xs
    → take (length (filter is_given xs)) xs ≡ filter is_given xs
given_in_front [] pairs = refl
given_in_front (x ∷ xs) pairs =
    given_in_front_at (is_given x) x xs refl pairs (given_in_front xs (tail_pairs x xs pairs))
