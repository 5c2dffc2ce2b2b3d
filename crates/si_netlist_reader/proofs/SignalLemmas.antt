-- Signals of a list of names, one after the other.
use Rattle.std.proofs.Common.{◌≡◌, ℕ, ◌+◌, ◌-◌, ◌<◌, ◌≤◌, List, [], ◌∷◌, ◌++◌, length, take, drop, get_or, sym, ap, ◌∙◌}
use Rattle.std.proofs.Common.{arith, slice_get, Some, append_assoc}
use Rattle.std.proofs.lemmas.List.{get_or-drop, take_more, length-drop, map_push}
use Rattle.std.proofs.lemmas.Option.{slice_get_within, get_or_from_slice_get}
use Rattle.si_base.specs.declared.graph.Signal.{Signal}
use Rattle.si_base.specs.declared.graph.SigKind.{SigKind}
use Rattle.si_base.specs.GivenGraph.{signals_of}

abbrev signal : SigKind → List ℕ → Signal
signal kind name = record { name = name; kind = kind }

pub one_more : (kind : SigKind) (names : List (List ℕ)) (from k : ℕ) (name read : List ℕ) (old items new : List Signal)
    → from ≤ k → slice_get names k ≡ Some name → read ≡ name
    → items ≡ old ++ signals_of kind (take (k - from) (drop from names)) → new ≡ items ++ signal kind read ∷ []
    → new ≡ old ++ signals_of kind (take (k + 1 - from) (drop from names))
one_more kind names from k name read old items new le at is so_far more =
    let within : k < length names = slice_get_within names k name at in
    let inside : k - from < length (drop from names) = omega (arith, length-drop from names) in
    let place : from + (k - from) ≡ k = omega arith in
    let here : get_or (drop from names) (k - from) [] ≡ name =
    get_or-drop from names (k - from) [] ∙ ap (λ (i : ℕ). get_or names i []) place
    ∙ get_or_from_slice_get names k name [] at in
    let count : k + 1 - from ≡ k - from + 1 = omega arith in
    let longer : take (k + 1 - from) (drop from names) ≡ take (k - from) (drop from names) ++ name ∷ [] =
    ap (λ (n : ℕ). take n (drop from names)) count ∙ take_more (drop from names) (k - from) [] inside
    ∙ ap (λ (n : List ℕ). take (k - from) (drop from names) ++ n ∷ []) here in
    more ∙ ap (λ (xs : List Signal). xs ++ signal kind read ∷ []) so_far
    ∙ append_assoc old _ (signal kind read ∷ []) ∙ ap (λ (xs : List Signal). old ++ xs)
    (ap (λ (n : List ℕ). signals_of kind (take (k - from) (drop from names)) ++ signal kind n ∷ []) is
    ∙ sym (ap (signals_of kind) longer ∙ map_push (signal kind) (take (k - from) (drop from names)) name))
