-- Parts of a list: what a loop over them keeps, and what is written is read.
use Rattle.std.proofs.Common.{◌≡◌, ℕ, ◌+◌, ◌<◌, ◌≤◌, List, [], ◌∷◌, ◌++◌, length, map, drop, get_or}
use Rattle.std.proofs.Common.{is_some, Option, Some, None, Ok, Err, refl, sym, ap, subst, ◌∙◌, add-one, append_assoc}
use Rattle.std.proofs.Math.Seq.{drop-cons}
use Rattle.std.proofs.lemmas.List.{append-nil, drop_all, map_push}
use Rattle.std.specs.List.{AllByRecursion}
use Rattle.std.specs.Option.{option_or}
use Rattle.si_base.specs.declared.fault.TextKind.{TextKind}
use Rattle.si_tokens.specs.LineParts.{Part, made, behind_fault, held, both, then_rest, each_after}

held_more : {A : Type 0} (fault : Option TextKind) (kind : TextKind) (part : Part A)
    → held fault (behind_fault kind part) ≡ held (option_or fault (Some kind)) part
held_more None kind part = refl
held_more (Some first) kind None = refl
held_more (Some first) kind (Some read) = refl

-- ---- a loop over a list of parts
module _ {W A : Type 0} (read : List A → W → Part A) (before : List A) (fault : Option TextKind) (w : W)
    (ws : List W) where
  step : (part : Part A) → read before w ≡ part → held fault (each_after read before (w ∷ ws))
      ≡ held fault (then_rest (λ sofar. each_after read sofar ws) before part)
  step part = ap (λ p. held fault (then_rest (λ sofar. each_after read sofar ws) before p))

  pub next_fault : (kind : TextKind) → read before w ≡ Some (Err kind) → held fault (each_after read before (w ∷ ws))
      ≡ held (option_or fault (Some kind)) (each_after read before ws)
  next_fault kind is = step (Some (Err kind)) is ∙ held_more fault kind (each_after read before ws)

  pub next_value : (a : A) → read before w ≡ Some (Ok a)
      → held fault (each_after read before (w ∷ ws)) ≡ held fault (each_after read (before ++ a ∷ []) ws)
  next_value a = step (Some (Ok a))

-- the parts from the i-th on
module _ {V W A : Type 0} (read : List A → W → Part A) (seen : V → W) (before : List A) (fault : Option TextKind)
    (vs : List V) (i : ℕ) where
  abbrev pub left : ℕ → List W
  left k = map seen (drop k vs)

  module _ (v : V) (inside : i < length vs) where
    left_is : held fault (each_after read before (left i))
        ≡ held fault (each_after read before (seen (get_or vs i v) ∷ left (i + 1)))
    left_is =
        let same : drop i vs ≡ get_or vs i v ∷ drop (i + 1) vs = rw (drop-cons vs i v inside, add-one) refl in
        ap (λ ws. held fault (each_after read before (map seen ws))) same

    pub with_fault : (kind : TextKind) → read before (seen (get_or vs i v)) ≡ Some (Err kind)
        → held fault (each_after read before (left i))
        ≡ held (option_or fault (Some kind)) (each_after read before (left (i + 1)))
    with_fault kind is = left_is ∙ next_fault read before fault _ (left (i + 1)) kind is

    pub with_value : (a : A) → read before (seen (get_or vs i v)) ≡ Some (Ok a)
        → held fault (each_after read before (left i)) ≡ held fault (each_after read (before ++ a ∷ []) (left (i + 1)))
    with_value a is = left_is ∙ next_value read before fault _ (left (i + 1)) a is

  pub all_read : length vs ≤ i → held fault (each_after read before (left i)) ≡ held fault (Some (Ok before))
  all_read past = ap (λ ws. held fault (each_after read before (map seen ws))) (drop_all i vs past)

-- ---- one part, and two
no_value : {A B : Type 0} (kind : TextKind) (part : Part A) (b : B) → behind_fault kind part ≡ Some (Ok b) → ⊥
no_value kind None b is = cc
no_value kind (Some read) b is = cc

pub made_read : {A B : Type 0} (make : A → B) (part : Part A) (b : B) → made make part ≡ Some (Ok b)
    → (a : A) × (part ≡ Some (Ok a)) × (make a ≡ b)
made_read make None b is = absurd cc
made_read make (Some (Err kind)) b is = absurd cc
made_read make (Some (Ok a)) b is = (a, refl, cc)

pub both_read : {A B C : Type 0} (make : A → B → C) (one : Part A) (other : Part B) (c : C)
    → both make one other ≡ Some (Ok c)
    → (a : A) × (b : B) × (one ≡ Some (Ok a)) × (other ≡ Some (Ok b)) × (make a b ≡ c)
both_read make None other c is = absurd cc
both_read make (Some (Err kind)) other c is = absurd (no_value kind other c is)
both_read make (Some (Ok a)) None c is = absurd cc
both_read make (Some (Ok a)) (Some (Err kind)) c is = absurd cc
both_read make (Some (Ok a)) (Some (Ok b)) c is = (a, b, refl, refl, cc)

-- ---- forms
pub made_form : {A B : Type 0} (make : A → B) (part : Part A) → is_some (made make part) ≡ is_some part
made_form make None = refl
made_form make (Some (Err kind)) = refl
made_form make (Some (Ok a)) = refl

behind_form : {A : Type 0} (kind : TextKind) (part : Part A)
    → is_some (behind_fault {B = A} kind part) ≡ is_some part
behind_form kind None = refl
behind_form kind (Some read) = refl

-- two readings that tell the same forms word for word
pub each_form : {W A : Type 0} (read other : List A → W → Part A)
    → ((before after : List A) (w : W) → is_some (read before w) ≡ is_some (other after w))
    → (before after : List A) (ws : List W)
    → is_some (each_after read before ws) ≡ is_some (each_after other after ws)
each_form read other same before after [] = refl
each_form {W} {A} read other same before after (w ∷ ws) =
    by_parts (read before w) (other after w) (same before after w) (λ b a. each_form read other same b a ws)
  where
    by_parts : (one two : Part A) → is_some one ≡ is_some two
        → ((b a : List A) → is_some (each_after read b ws) ≡ is_some (each_after other a ws))
        → is_some (then_rest (λ sofar. each_after read sofar ws) before one)
        ≡ is_some (then_rest (λ sofar. each_after other sofar ws) after two)
    by_parts None None e later = refl
    by_parts None (Some r) e later = absurd cc
    by_parts (Some r) None e later = absurd cc
    by_parts (Some (Err k)) (Some (Err j)) e later =
        behind_form k (each_after read before ws) ∙ later before after ∙ sym (behind_form j (each_after other after ws))
    by_parts (Some (Err k)) (Some (Ok a)) e later =
        behind_form k (each_after read before ws) ∙ later before (after ++ a ∷ [])
    by_parts (Some (Ok a)) (Some (Err j)) e later =
        later (before ++ a ∷ []) after ∙ sym (behind_form j (each_after other after ws))
    by_parts (Some (Ok a)) (Some (Ok b)) e later = later (before ++ a ∷ []) (after ++ b ∷ [])

-- ---- lists
module _ {W A : Type 0} (read : List A → W → Part A) where
  -- what each part keeps holds at the end
  pub each_read : (Keeps : List A → List W → Type 0)
      → ((before : List A) (w : W) (ws : List W) (a : A) → Keeps before (w ∷ ws) → read before w ≡ Some (Ok a)
      → Keeps (before ++ a ∷ []) ws)
      → (before : List A) (ws : List W) (all : List A) → Keeps before ws → each_after read before ws ≡ Some (Ok all)
      → Keeps all []
  each_read Keeps step before [] all keeps is =
      let same : before ≡ all = cc in subst (λ (l : List A). Keeps l []) same keeps
  each_read Keeps step before (w ∷ ws) all keeps is =
      by_part (read before w) (λ a. step before w ws a keeps) (λ sofar. each_read Keeps step sofar ws all) is
    where
      by_part : (part : Part A) → ((a : A) → part ≡ Some (Ok a) → Keeps (before ++ a ∷ []) ws)
          → ((sofar : List A) → Keeps sofar ws → each_after read sofar ws ≡ Some (Ok all) → Keeps all [])
          → then_rest (λ sofar. each_after read sofar ws) before part ≡ Some (Ok all) → Keeps all []
      by_part None here later is = absurd cc
      by_part (Some (Err kind)) here later is = absurd (no_value kind (each_after read before ws) all is)
      by_part (Some (Ok a)) here later is = later (before ++ a ∷ []) (here a refl) is

  -- what is read is written as it stood, too
  pub each_back : (word : A → W) (Keeps : List A → Type 0)
      → ((before : List A) (w : W) (a : A) → Keeps before → read before w ≡ Some (Ok a)
      → Keeps (before ++ a ∷ []) × (word a ≡ w))
      → (ws : List W) (all : List A) → Keeps [] → each_after read [] ws ≡ Some (Ok all)
      → Keeps all × (map word all ≡ ws)
  each_back word Keeps step ws all keeps is =
      let (kept, back) = each_read (λ before left. Keeps before × (map word before ++ left ≡ ws)) one [] ws all
      (keeps, refl) is in
      (kept, sym (append-nil (map word all)) ∙ back)
    where
      one : (before : List A) (w : W) (left : List W) (a : A) → Keeps before × (map word before ++ w ∷ left ≡ ws)
          → read before w ≡ Some (Ok a) → Keeps (before ++ a ∷ []) × (map word (before ++ a ∷ []) ++ left ≡ ws)
      one before w left a keeps is =
          let (kept, same) = step before w a keeps.0 is in (
            kept,
            ap (λ (l : List W). l ++ left) (map_push word before a)
                ∙ append_assoc (map word before) (word a ∷ []) left
                ∙ ap (λ (v : W). map word before ++ v ∷ left) same ∙ keeps.1,
          )

-- what is written is read, where no part asks for those before it
pub each_forth : {W A : Type 0} (read : W → Part A) (word : A → W) (before all : List A)
    → AllByRecursion (λ a. read (word a) ≡ Some (Ok a)) all
    → each_after (λ sofar. read) before (map word all) ≡ Some (Ok (before ++ all))
each_forth read word before [] good = ap (λ l. Some (Ok l)) (sym (append-nil before))
each_forth read word before (a ∷ all) good =
    ap (then_rest (λ sofar. each_after (λ _. read) sofar (map word all)) before) good.0
    ∙ each_forth read word (before ++ a ∷ []) all good.1 ∙ ap (λ l. Some (Ok l)) (append_assoc before (a ∷ []) all)
