-- The lines of a kind, one after another.
use Rattle.std.proofs.Common.{◌≡◌, ℕ, ◌+◌, ◌<◌, ◌≤◌, ◌∙◌, List, [], ◌∷◌, ◌++◌, map, take, length, get_or}
use Rattle.std.proofs.Common.{All, sym, ap, subst, append_assoc, arith, ◌⊎◌, inl, inr}
use Rattle.std.proofs.lemmas.Grind.{flat_map-append}
use Rattle.std.proofs.lemmas.List.{append-nil, map-append, take_more, take_all}
use Rattle.std.proofs.lemmas.List.Elements.{All-take, All-from_recursion}
use Rattle.si_base.specs.Words.{line, text_of}
use Rattle.si_base.specs.declared.ids.Event.{Event}
use Rattle.si_base.specs.Graph.{StateGraph}
use Rattle.si_told.specs.ToldLines.{max_told, kind_lines}
use Rattle.si_told.specs.Loops.Lines.{AddsLines}
use Rattle.si_walks.specs.Paths.{IsWayTo}
use Rattle.si_walks.proofs.FirstPaths.{one_way_to}

-- ---- the lines of the first k items
module _ {A : Type 0} (line_of : A → List (List ℕ)) (xs : List A) where
  abbrev pub first_lines : ℕ → List ℕ
  first_lines k = text_of (map line_of (take k xs))

  pub lines_none : (old : List ℕ) → old ≡ old ++ first_lines 0
  lines_none old = sym (append-nil old)

  pub lines_more : (k : ℕ) (x : A) (old text new : List ℕ) → k < length xs → x ≡ get_or xs k x
      → text ≡ old ++ first_lines k → new ≡ text ++ line (line_of x) → new ≡ old ++ first_lines (k + 1)
  lines_more k x old text new within at so_far is =
      is ∙ ap (λ (t : List ℕ). t ++ line (line_of x)) so_far
      ∙ append_assoc old (first_lines k) (line (line_of x)) ∙ ap (λ (t : List ℕ). old ++ t) step
    where
      longer : take k xs ++ x ∷ [] ≡ take (k + 1) xs
      longer = ap (λ (y : A). take k xs ++ y ∷ []) at ∙ sym (take_more xs k x within)

      step : first_lines k ++ line (line_of x) ≡ first_lines (k + 1)
      step = ap (λ (t : List ℕ). first_lines k ++ t) (sym (append-nil (line (line_of x))))
          ∙ sym (flat_map-append line (map line_of (take k xs)) (line_of x ∷ []))
          ∙ ap text_of (sym (map-append line_of (take k xs) (x ∷ [])) ∙ ap (map line_of) longer)

  pub lines_all : (k : ℕ) (found : List A) (old text : List ℕ) → length xs ≤ k → xs ≡ take max_told found
      → text ≡ old ++ first_lines k → text ≡ old ++ text_of (kind_lines line_of found)
  lines_all k found old text all first is =
      is ∙ ap (λ (l : List A). old ++ text_of (map line_of l)) (take_all k xs all ∙ first)

-- those of the first of a list that isn't at hand as one
pub lines_to : {A : Type 0} (line_of : A → List (List ℕ)) (xs : List A) (k : ℕ) (old text : List ℕ)
    → ((k ≡ length xs) × (length xs ≤ max_told)) ⊎ (k ≡ max_told) → text ≡ old ++ first_lines line_of xs k
    → text ≡ old ++ text_of (kind_lines line_of xs)
lines_to {A} line_of xs k old text (inl (all, few)) is = is ∙ ap (λ (l : List A). old ++ text_of (map line_of l))
    (take_all k xs (omega arith) ∙ sym (take_all max_told xs few))
lines_to line_of xs k old text (inr most) is = is ∙ ap (λ (n : ℕ). old ++ first_lines line_of xs n) most

-- ---- lines with walks
module _ (g : StateGraph) {A : Type 0} (line_of : (ℕ → List Event) → A → List (List ℕ)) (xs : List A) where
  pub walks_none : (old : List ℕ) → AddsLines g (λ walk. map (line_of walk) (take 0 xs)) old old
  walks_none old walk walks = lines_none (line_of walk) xs old

  pub walks_more : (k : ℕ) (x : A) (s : ℕ) (es : List Event) (old text new : List ℕ) → k < length xs
      → x ≡ get_or xs k x → s < g.states → IsWayTo g s es
      → AddsLines g (λ walk. map (line_of walk) (take k xs)) old text
      → ((walk : ℕ → List Event) → es ≡ walk s → new ≡ text ++ line (line_of walk x))
      → AddsLines g (λ walk. map (line_of walk) (take (k + 1) xs)) old new
  walks_more k x s es old text new within at small way so_far is walk walks =
      let same = one_way_to g s es (walk s) way (walks s small) in
      lines_more (line_of walk) xs k x old text new within at (so_far walk walks) (is walk same)

  pub walks_all : (k : ℕ) (found : List A) (old text : List ℕ) → length xs ≤ k → xs ≡ take max_told found
      → AddsLines g (λ walk. map (line_of walk) (take k xs)) old text
      → AddsLines g (λ walk. kind_lines (line_of walk) found) old text
  walks_all k found old text all first is walk walks =
      lines_all (line_of walk) xs k found old text all first (is walk walks)

-- ---- what is printed is within the graph
-- an item of those that are printed
pub printed_at : {A : Type 0} (P : A → Type 0) (found first : List A) (k : ℕ) (x : A) → All P found
    → first ≡ take max_told found → k < length first → x ≡ get_or first k x → P x
printed_at {A} P found first k x all is within at =
    let taken : All P first = subst (All P) (sym is) (All-take P max_told found all) in
    subst P (sym at) (taken k x within)

pub two_small : (n : ℕ) (e f : Event) → e.sig < n → f.sig < n → All (λ (x : Event). x.sig < n) (e ∷ f ∷ [])
two_small n e f one other = All-from_recursion (λ (x : Event). x.sig < n) (e ∷ f ∷ []) (one, (other, tt))
