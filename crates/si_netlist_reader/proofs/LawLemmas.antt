-- What the words of cubes and sums spell is written as these words.
use Rattle.std.proofs.Common.{◌≡◌, ℕ, ◌<◌, true, List, [], ◌∷◌, ◌++◌, length, refl, subst, arith, nat_lt}
use Rattle.std.proofs.Common.{Some, None, Ok, Err, inl, inr}
use Rattle.std.proofs.lemmas.Bool.{cases_Bool, ltb-true}
use Rattle.std.proofs.lemmas.List.Elements.{All-nil, All-push}
use Rattle.std.proofs.lemmas.List.Quantifiers.{all_pairs_push}
use Rattle.std.proofs.lemmas.List.Sums.{AllPass-from_list_all}
use Rattle.std.specs.List.{list_all}
use Rattle.si_base.specs.Graph.{names_in}
use Rattle.si_base.specs.Netlist.{Sum}
use Rattle.si_base.specs.NetlistText.{cube_words, sum_words, literal_word}
use Rattle.si_base.specs.WellFormed.{IsCube, IsSum}
use Rattle.si_base.specs.declared.fault.TextKind.TheVariants.{BadLine}
use Rattle.si_base.specs.declared.graph.Signal.{Signal}
use Rattle.si_base.specs.declared.ids.Literal.{Literal}
use Rattle.si_tokens.specs.LineParts.{Part}
use Rattle.si_tokens.specs.SumParts.{literal_part}
use Rattle.si_tokens.proofs.SumPartLemmas as sums
use Rattle.si_netlist_reader.specs.GateParts.{in_order, next_literal, cube_part, sum_part}

abbrev Less : Literal → Literal → Type 0
Less k l = k.sig < l.sig

no_literals : (n : ℕ) → IsCube n []
no_literals n = record { rising = λ i j d before within. absurd (omega arith); there = All-nil _ }

module _ (signals : List Signal) where
  abbrev names : List (List ℕ)
  names = names_in signals

  abbrev IsHere : List Literal → Type 0
  IsHere = IsCube (length names)

  above : (before : List Literal) (word : List ℕ) (l : Literal) → IsHere before
      → list_all (λ k. nat_lt k.sig l.sig) before ≡ true → literal_part names word ≡ Some (Ok l)
      → IsHere (before ++ l ∷ []) × (literal_word signals l ≡ word)
  above before word l good low is =
      let (there, back) = sums.literal_back signals word l is in
      let passes = AllPass-from_list_all (λ (k : Literal). nat_lt k.sig l.sig) before low in (
        record {
          rising = all_pairs_push Less before l good.rising (λ k d inside. ltb-true _ _ (passes k d inside));
          there = All-push (λ (k : Literal). k.sig < length names) before l good.there there;
        },
        back,
      )

  literal_added : (before : List Literal) (word : List ℕ) (l : Literal) → IsHere before
      → next_literal names before word ≡ Some (Ok l) → IsHere (before ++ l ∷ []) × (literal_word signals l ≡ word)
  literal_added before word l good is = by_part (literal_part names word) refl is
    where
      by_part : (part : Part Literal) → literal_part names word ≡ part → in_order before part ≡ Some (Ok l)
          → IsHere (before ++ l ∷ []) × (literal_word signals l ≡ word)
      by_part None at is = absurd cc
      by_part (Some (Err kind)) at is = absurd cc
      by_part (Some (Ok m)) at is = elim (cases_Bool (list_all (λ k. nat_lt k.sig m.sig) before)) [
        | inl low ↦ (
            let same : Some (Ok m) ≡ Some (Ok l) = rw low at is in
            let it_is : m ≡ l = cc in
            subst (λ (k : Literal). IsHere (before ++ k ∷ []) × (literal_word signals k ≡ word)) it_is
            (above before word m good low at))
        | inr high ↦ absurd (let bad : Some (Err BadLine) ≡ Some (Ok l) = rw high at is in cc)
      ]

  cube_added : (before : Sum) (words : List (List ℕ)) (cube : List Literal) → IsSum (length names) before
      → cube_part names words ≡ Some (Ok cube)
      → IsSum (length names) (before ++ cube ∷ []) × (cube_words signals cube ≡ words)
  cube_added before words cube good is =
      let (here, back) =
      sums.cube_back signals (next_literal names) IsHere (no_literals (length names)) literal_added words cube is in
      (All-push IsHere before cube good here, back)

  pub sum_back : (words : List (List ℕ)) (sum : Sum) → sum_part names words ≡ Some (Ok sum)
      → IsSum (length names) sum × (sum_words signals sum ≡ words)
  sum_back words sum is =
      sums.sum_back signals (cube_part names) (IsSum (length names)) (All-nil IsHere) cube_added words sum is
