-- No two tuples of states have one name.
use Rattle.std.proofs.Common.{◌≡◌, ◌≢◌, ℕ, ◌<◌, ◌⊎◌, ◌==◌, ◌||◌, false, List, [], ◌∷◌, ◌++◌, map, length}
use Rattle.std.proofs.Common.{AllPairs, get_or, take, suc, zero, refl, sym, ap, ap₂, subst, ◌∙◌, inl, inr, arith}
use Rattle.std.proofs.Common.{true≢false, append-nil, append_assoc}
use Rattle.std.specs.List.{join_with_byte}
use Rattle.std.proofs.lemmas.Bool.{cases_Bool, cases_order}
use Rattle.std.proofs.lemmas.List.{get_or-map, length-map}
use Rattle.si_base.specs.GivenGraph.{Sg}
use Rattle.si_sg.specs.CanonicalText.{state_at}
use Rattle.si_sg.proofs.GivenApart.{given_apart}
use Rattle.si_systems.specs.Loops.Parts.{AreGiven, AreTuplesOf}
use Rattle.si_systems.specs.Names.{IsTupleOf, escape, escaped, names_at, tuple_name}

-- ---- a byte behind a `\`, or alone
pub record IsPlain (b : ℕ) : Type 0 where
  pub alone : escape b ≡ b ∷ []
  pub no_bar : b ≢ 124
  pub no_backslash : b ≢ 92

pub marked_or_plain : (b : ℕ) → (escape b ≡ 92 ∷ b ∷ []) ⊎ IsPlain b
marked_or_plain b = elim (cases_Bool ((b == 124) || (b == 92))) [
  | inl marked ↦ inl (rw marked refl)
  | inr plain ↦ inr (record {
    alone = rw plain refl;
    no_bar = λ same. true≢false (subst (λ (c : ℕ). ((c == 124) || (c == 92)) ≡ false) same plain);
    no_backslash = λ same. true≢false (subst (λ (c : ℕ). ((c == 124) || (c == 92)) ≡ false) same plain);
  })
]

-- ---- an escaped word ends where there is no more, or a `|` stands
abbrev pub Ends : List ℕ → Type 0
Ends [] = Unit {0}
Ends (b ∷ bs) = b ≡ 124

never_begins : (b : ℕ) (bs rest more : List ℕ) → Ends rest → rest ≡ escaped (b ∷ bs) ++ more → ⊥
never_begins b bs [] more ends same = elim (marked_or_plain b) [
  | inl marked ↦ (let is : [] ≡ (92 ∷ b ∷ escaped bs) ++ more = same ∙ ap (λ (e : List ℕ). (e ++ escaped bs) ++ more) marked in cc)
  | inr plain ↦ (let is : [] ≡ (b ∷ escaped bs) ++ more = same ∙ ap (λ (e : List ℕ). (e ++ escaped bs) ++ more) plain.alone in cc)
]
never_begins b bs (c ∷ cs) more ends same = elim (marked_or_plain b) [
  | inl marked ↦ (
      let is : c ∷ cs ≡ 92 ∷ ((b ∷ escaped bs) ++ more) = same
      ∙ ap (λ (e : List ℕ). (e ++ escaped bs) ++ more) marked in
      let head : c ≡ 92 = cc in
      absurd (omega (arith, head, ends)))
  | inr plain ↦ (
      let is : c ∷ cs ≡ b ∷ (escaped bs ++ more) = same
      ∙ ap (λ (e : List ℕ). (e ++ escaped bs) ++ more) plain.alone in
      let head : c ≡ b = cc in
      plain.no_bar (sym head ∙ ends))
]

same_tails : (x y : ℕ) (xs ys : List ℕ) → x ∷ xs ≡ y ∷ ys → (x ≡ y) × (xs ≡ ys)
same_tails x y xs ys same = (cc, cc)

-- what the escaped word begins with
opened : (b : ℕ) (bs rest e : List ℕ) → escape b ≡ e → escaped (b ∷ bs) ++ rest ≡ e ++ (escaped bs ++ rest)
opened b bs rest e is = ap (λ (f : List ℕ). (f ++ escaped bs) ++ rest) is ∙ append_assoc e (escaped bs) rest

-- where the rests of two words are told apart
abbrev Later : (ms bs rest more : List ℕ) → Type 0
Later ms bs rest more = escaped ms ++ rest ≡ escaped bs ++ more → (ms ≡ bs) × (rest ≡ more)

pub one_word : (a b rest more : List ℕ) → Ends rest → Ends more → escaped a ++ rest ≡ escaped b ++ more
    → (a ≡ b) × (rest ≡ more)
one_word [] [] rest more ends also same = (refl, same)
one_word [] (b ∷ bs) rest more ends also same = absurd (never_begins b bs rest more ends same)
one_word (a ∷ ms) [] rest more ends also same = absurd (never_begins a ms more rest also (sym same))
one_word (a ∷ ms) (b ∷ bs) rest more ends also same =
    by (λ tails. one_word ms bs rest more ends also tails) (marked_or_plain a) (marked_or_plain b)
  where
    later : Later ms bs rest more → a ≡ b → escaped ms ++ rest ≡ escaped bs ++ more → (a ∷ ms ≡ b ∷ bs) × (rest ≡ more)
    later tails_same head tails =
        let found = tails_same tails in
        (ap₂ (λ (c : ℕ) (cs : List ℕ). c ∷ cs) head found.0, found.1)

    heads : (e f : List ℕ) → escape a ≡ e → escape b ≡ f → e ++ (escaped ms ++ rest) ≡ f ++ (escaped bs ++ more)
    heads e f one other = sym (opened a ms rest e one) ∙ same ∙ opened b bs more f other

    by : Later ms bs rest more → (escape a ≡ 92 ∷ a ∷ []) ⊎ IsPlain a → (escape b ≡ 92 ∷ b ∷ []) ⊎ IsPlain b
        → (a ∷ ms ≡ b ∷ bs) × (rest ≡ more)
    by tails_same (inl one) (inl other) =
        let first = same_tails 92 92 _ _ (heads (92 ∷ a ∷ []) (92 ∷ b ∷ []) one other) in
        let second = same_tails a b _ _ first.1 in
        later tails_same second.0 second.1
    by tails_same (inl one) (inr other) =
        let first = same_tails 92 b _ _ (heads (92 ∷ a ∷ []) (b ∷ []) one other.alone) in
        absurd (other.no_backslash (sym first.0))
    by tails_same (inr one) (inl other) =
        let first = same_tails a 92 _ _ (heads (a ∷ []) (92 ∷ b ∷ []) one.alone other) in
        absurd (one.no_backslash first.0)
    by tails_same (inr one) (inr other) =
        let first = same_tails a b _ _ (heads (a ∷ []) (b ∷ []) one.alone other.alone) in
        later tails_same first.0 first.1

-- ---- words with `|` between them
words_same : (ms bs : List (List ℕ)) → length ms ≡ length bs
    → join_with_byte 124 (map escaped ms) ≡ join_with_byte 124 (map escaped bs) → ms ≡ bs
words_same [] [] many same = refl
words_same [] (b ∷ bs) many same = absurd (omega (arith, many))
words_same (a ∷ ms) [] many same = absurd (omega (arith, many))
words_same (a ∷ []) (b ∷ []) many same =
    let found = one_word a b [] [] tt tt (append-nil (escaped a) ∙ same ∙ sym (append-nil (escaped b))) in
    ap (λ (w : List ℕ). w ∷ []) found.0
words_same (a ∷ []) (b ∷ c ∷ bs) many same = absurd (omega (arith, many))
words_same (a ∷ c ∷ ms) (b ∷ []) many same = absurd (omega (arith, many))
words_same (a ∷ c ∷ ms) (b ∷ d ∷ bs) many same =
    let found = one_word a b _ _ refl refl same in
    let rest = same_tails 124 124 _ _ found.1 in
    let others = words_same (c ∷ ms) (d ∷ bs) (omega (arith, many)) rest.1 in
    let first : a ≡ b = found.0 in
    cc

-- ---- the names of states, one of each graph
pub many_names : (given : List Sg) (xs : List ℕ) → IsTupleOf given xs → length (names_at given xs) ≡ length given
many_names [] [] is = refl
many_names [] (x ∷ xs) is = absurd is
many_names (g ∷ gs) [] is = absurd is
many_names (g ∷ gs) (x ∷ xs) is = ap suc (many_names gs xs is.1)

one_state : (names : List (List ℕ)) → AllPairs (λ a b. a ≢ b) names → (x y : ℕ) → x < length names → y < length names
    → state_at names x ≡ state_at names y → x ≡ y
one_state names apart x y first second same = elim (cases_order x y) [
  | inl is ↦ is
  | inr (inl less) ↦ absurd (apart x y [] less second same)
  | inr (inr more) ↦ absurd (apart y x [] more first (sym same))
]

states_same : (given : List Sg) (xs ys : List ℕ) → AreGiven given → IsTupleOf given xs → IsTupleOf given ys
    → names_at given xs ≡ names_at given ys → xs ≡ ys
states_same [] [] [] are is also same = refl
states_same [] (x ∷ xs) ys are is also same = absurd is
states_same [] [] (y ∷ ys) are is also same = absurd also
states_same (g ∷ gs) [] ys are is also same = absurd is
states_same (g ∷ gs) (x ∷ xs) [] are is also same = absurd also
states_same (g ∷ gs) (x ∷ xs) (y ∷ ys) are is also same =
    let names : state_at g.states x ≡ state_at g.states y = cc in
    let rest : names_at gs xs ≡ names_at gs ys = cc in
    let head : x ≡ y = one_state g.states (given_apart are.0.0 g are.0.1) x y is.0 also.0 names in
    let tail : xs ≡ ys = states_same gs xs ys are.1 is.1 also.1 rest in
    cc

pub tuple_width : (given : List Sg) (xs : List ℕ) → IsTupleOf given xs → length xs ≡ length given
tuple_width [] [] is = refl
tuple_width [] (x ∷ xs) is = absurd is
tuple_width (g ∷ gs) [] is = absurd is
tuple_width (g ∷ gs) (x ∷ xs) is = ap suc (tuple_width gs xs is.1)

pub state_below : (given : List Sg) (xs : List ℕ) (k : ℕ) (g : Sg) → IsTupleOf given xs → k < length given
    → g ≡ get_or given k g → get_or xs k 0 < length g.states
state_below [] xs k g is below at = absurd (omega (arith, below))
state_below (h ∷ hs) [] k g is below at = absurd is
state_below (h ∷ hs) (x ∷ xs) zero g is below at = subst (λ (f : Sg). x < length f.states) (sym at) is.0
state_below (h ∷ hs) (x ∷ xs) (suc k) g is below at = state_below hs xs k g is.1 (omega (arith, below)) at

-- the name of the state at a place is the next
pub names_more : (given : List Sg) (xs : List ℕ) (k : ℕ) (g : Sg) (name : List ℕ) → IsTupleOf given xs
    → k < length given → g ≡ get_or given k g → name ≡ state_at g.states (get_or xs k 0)
    → take (suc k) (names_at given xs) ≡ take k (names_at given xs) ++ name ∷ []
names_more [] xs k g name is below at named = absurd (omega (arith, below))
names_more (h ∷ hs) [] k g name is below at named = absurd is
names_more (h ∷ hs) (x ∷ xs) zero g name is below at named =
    ap (λ (n : List ℕ). n ∷ []) (sym (named ∙ ap (λ (f : Sg). state_at f.states x) at))
names_more (h ∷ hs) (x ∷ xs) (suc k) g name is below at named =
    ap (λ (ns : List (List ℕ)). state_at h.states x ∷ ns)
    (names_more hs xs k g name is.1 (omega (arith, below)) at named)

-- ---- names of tuples
pub one_tuple : (given : List Sg) (xs ys : List ℕ) → AreGiven given → IsTupleOf given xs → IsTupleOf given ys
    → tuple_name given xs ≡ tuple_name given ys → xs ≡ ys
one_tuple given xs ys are is also same =
    let many = many_names given xs is ∙ sym (many_names given ys also) in
    states_same given xs ys are is also (words_same (names_at given xs) (names_at given ys) many same)

pub tuple_at : (given : List Sg) (tuples : List (List ℕ)) (k : ℕ) (d : List ℕ) → AreTuplesOf given tuples
    → k < length tuples → IsTupleOf given (get_or tuples k d)
tuple_at given [] k d are below = absurd (omega (arith, below))
tuple_at given (xs ∷ tuples) zero d are below = are.0
tuple_at given (xs ∷ tuples) (suc k) d are below = tuple_at given tuples k d are.1 (omega (arith, below))

pub names_apart : (given : List Sg) (tuples : List (List ℕ)) → AreGiven given → AreTuplesOf given tuples
    → AllPairs (λ xs ys. xs ≢ ys) tuples → AllPairs (λ a b. a ≢ b) (map (tuple_name given) tuples)
names_apart given tuples are each apart i j d before within =
    let second : j < length tuples = omega (arith, within, length-map tuples (tuple_name given)) in
    let first : i < length tuples = omega (arith, before, second) in
    λ same. apart i j [] before second (one_tuple given (get_or tuples i []) (get_or tuples j []) are
    (tuple_at given tuples i [] each first) (tuple_at given tuples j [] each second)
    (sym (get_or-map (tuple_name given) tuples i [] d first) ∙ same
    ∙ get_or-map (tuple_name given) tuples j [] d second))
