-- Of a graph and a netlist there is one answer.
use Rattle.std.proofs.Common.{◌≡◌, ℕ, ◌<◌, ◌⊎◌, Bool, false, List, [], ◌∷◌, ◌++◌, length}
use Rattle.std.proofs.Common.{refl, sym, ap, ap₂, subst, suc, get_or, ◌∙◌, arith, inl, inr, Result, Ok, Err}
use Rattle.std.proofs.lemmas.List.{append-nil}
use Rattle.si_base.specs.Bits.{bit}
use Rattle.si_base.specs.declared.graph.Signal.{Signal}
use Rattle.si_base.specs.Codes.{CodedGraph, IsCoded}
use Rattle.si_base.specs.Graph.{StateGraph}
use Rattle.si_base.specs.Netlist.{Netlist}
use Rattle.si_base.specs.Proper.{IsProper}
use Rattle.si_base.proofs.Booleans.{same_if}
use Rattle.si_insert.specs.declared.lineage.TraceStep.{TraceStep}
use Rattle.si_insert.specs.Lineage.{Current, History, IsTrace, Keeps, given_current}
use Rattle.si_insert.proofs.InsertionKeeps.{keeps_first, keeps_next}
use Rattle.si_checks.proofs.SearchFirst.{firsts_at_one_place}
use Rattle.si_audit.specs.Faults.{IsWrong, spot_place}
use Rattle.si_found.specs.Found.{Finds}
use Rattle.si_found.proofs.FoundTraces.{one_told}
use Rattle.si_found.proofs.OneLineage.{fitting_one}
use Rattle.si_certified.specs.Sets.{AreSwitchSets, NoneIsFound}
use Rattle.si_reached.proofs.OneAnswer.{told_are_not_wild, wild_are_one}
use Rattle.si_reached.specs.declared.reached.Wild.{Wild}
use Rattle.si_reached.specs.declared.reached.Wild.TheVariants.{NoMemory as NoRoom, TooMany as Crowd, Astray as Strays}
use Rattle.si_reached.specs.Reached.{ShowsWild}
use Rattle.si_reached.specs.declared.state.Reached.{Reached}
use Rattle.si_finder.specs.declared.not_found.Difference.{Difference}
use Rattle.si_finder.specs.declared.not_found.Difference.TheVariants.{Start, Gate}
use Rattle.si_finder.specs.declared.not_found.NotFound.{NotFound}
use Rattle.si_finder.specs.declared.not_found.NotFound.TheVariants.{NoMemory, TooMany, Astray, Hindered, Unbuilt}
use Rattle.si_finder.specs.declared.not_found.Obstacle.{Obstacle}
use Rattle.si_finder.specs.Laws.{AnswersAreOne}
use Rattle.si_finder.specs.Loops.Wild.{not_found_of}
use Rattle.si_finder.specs.NotFound.{CanBeTold, FindsAll, IsFirstDifference, IsFound, IsHindered, IsObstacle}
use Rattle.si_finder.specs.NotFound.{ShowsNotFound}
use Rattle.si_finder.proofs.NoneFound.{all_finds_none, found_keeps, hindered_finds_none, refusals_fit_none}
use Rattle.si_finder.proofs.OneObstacle.{one_obstacle, one_state}

same_flags : (xs ys : List Bool) → length xs ≡ length ys
    → ((s : ℕ) → s < length xs → get_or xs s false ≡ get_or ys s false) → xs ≡ ys
same_flags [] [] size each = refl
same_flags [] (y ∷ ys) size each = absurd (omega (arith, size))
same_flags (x ∷ xs) [] size each = absurd (omega (arith, size))
same_flags (x ∷ xs) (y ∷ ys) size each =
    ap₂ (λ (z : Bool) (zs : List Bool). z ∷ zs) (each 0 (omega arith))
    (same_flags xs ys (omega (arith, size)) (λ s small. each (suc s) (omega (arith, small))))

-- ---- found insertions that don't go on are the same
-- the second goes on where the first ends, or the first does where the second ends
abbrev GoesOn : StateGraph → Netlist → List TraceStep → Current → List TraceStep → Current → Type 0
GoesOn g n one v two u =
    ((more : List TraceStep) × (two ≡ one ++ more) × IsTrace (Finds g n) v more u)
    ⊎ ((p : TraceStep) × (w : Current) × Finds g n u p w)

goes_on : (given : CodedGraph) (g : StateGraph) (n : Netlist) (x : Current) (one two : List TraceStep) (v u : Current)
    → IsCoded given → Keeps given x → IsTrace (Finds g n) x one v → IsTrace (Finds g n) x two u
    → GoesOn g n one v two u
goes_on given g n x [] two v u is kept a b =
    inl (two, refl, subst (λ (y : Current). IsTrace (Finds g n) y two u) a b)
goes_on given g n x (p ∷ one) [] v u is kept a b =
    inr (p, a.0, subst (λ (y : Current). Finds g n y p a.0) b a.1)
goes_on given g n x (p ∷ one) (q ∷ two) v u is kept a b =
    let same = one_told given g n x p q a.0 b.0 kept a.1 b.1 in
    let rest = subst (λ (w : Current). IsTrace (Finds g n) w two u) (sym same.1) b.2 in
    elim (goes_on given g n a.0 one two v u is (keeps_next given x p a.0 is kept a.1.0) a.2 rest) [
      | inl more ↦ inl (
        more.0,
        ap₂ (λ (y : TraceStep) (ys : List TraceStep). y ∷ ys) (sym same.0) more.1,
        more.2,
      )
      | inr next ↦ inr next
    ]

no_more : (g : StateGraph) (n : Netlist) (one two : List TraceStep) (v u : Current) → NoneIsFound g n v
    → (more : List TraceStep) → two ≡ one ++ more → IsTrace (Finds g n) v more u → (two ≡ one) × (v ≡ u)
no_more g n one two v u none [] same found = (same ∙ append-nil one, found)
no_more g n one two v u none (p ∷ more) same found = absurd (none p found.0 found.1)

module _ (c : CodedGraph) (n : Netlist) (is : IsCoded c) (proper : IsProper c.graph) where
  one_end : (l m : History) → IsFound c n l → IsFound c n m → NoneIsFound c.graph n l.current
      → NoneIsFound c.graph n m.current → l ≡ m
  one_end l m l_found m_found l_ends m_ends =
      let both =
      goes_on c c.graph n (given_current c) l.trace m.trace l.current m.current is (keeps_first c is proper)
      l_found.trace m_found.trace in
      elim both [
        | inl more ↦ (
            let same = no_more c.graph n l.trace m.trace l.current m.current l_ends more.0 more.1 more.2 in
            let make : CodedGraph → List TraceStep → Current → History =
            λ d t v. record { given = d; trace = t; current = v } in
            let given : l.given ≡ m.given = l_found.given_is ∙ sym m_found.given_is in
            ap₂ (λ (d : CodedGraph) (t : List TraceStep). make d t l.current) given (sym same.0)
            ∙ ap (λ (v : Current). make m.given m.trace v) same.1)
        | inr next ↦ absurd (m_ends next.0 next.1 next.2)
      ]

  -- ---- one reason
  same_sets : (v : Current) (p q a b : List Bool) → AreSwitchSets c.graph n v p q → AreSwitchSets c.graph n v a b
      → (p ≡ a) × (q ≡ b)
  same_sets v p q a b one other = (
    same_flags p a (one.plus_size ∙ sym other.plus_size)
        (λ s small. same_if _ _
        (λ in_p. (other.plus_is s (omega (arith, small, one.plus_size))).1
        ((one.plus_is s (omega (arith, small, one.plus_size))).0 in_p))
        (λ in_a. (one.plus_is s (omega (arith, small, one.plus_size))).1
        ((other.plus_is s (omega (arith, small, one.plus_size))).0 in_a))),
    same_flags q b (one.minus_size ∙ sym other.minus_size)
        (λ s small. same_if _ _
        (λ in_q. (other.minus_is s (omega (arith, small, one.minus_size))).1
        ((one.minus_is s (omega (arith, small, one.minus_size))).0 in_q))
        (λ in_b. (one.minus_is s (omega (arith, small, one.minus_size))).1
        ((other.minus_is s (omega (arith, small, one.minus_size))).0 in_b))),
  )

  one_hindrance : (l : History) (a b : Obstacle) → IsHindered c n l a → IsHindered c n l b → a ≡ b
  one_hindrance l a b x y =
      let v = l.current in
      let h = x.hinders in
      let k = y.hinders in
      let kept = found_keeps c n l is proper x.found in
      let same = same_sets v h.plus h.minus k.plus k.minus h.sets k.sets in
      let Shows : (p q : List Bool) → Type 0 = λ p q. IsObstacle v.coded.graph p q b in
      one_obstacle v.coded h.plus h.minus kept.coded kept.proper h.sets.plus_size h.sets.minus_size a b h.shows
      (subst (λ (p : List Bool). Shows p h.minus) (sym same.0)
      (subst (λ (q : List Bool). Shows k.plus q) (sym same.1) k.shows))

  one_difference : (l : History) (a b : Difference) → IsFirstDifference l n a → IsFirstDifference l n b → a ≡ b
  one_difference l (Start s) (Start t) x y = ap (λ (k : ℕ). Start k) (one_state _ s t x y)
  one_difference l (Start s) (Gate z t) x y = absurd (x.holds.differs (ap (λ (k : ℕ). bit k s) y.0))
  one_difference l (Gate z s) (Start t) x y = absurd (y.holds.differs (ap (λ (k : ℕ). bit k t) x.0))
  one_difference l (Gate z s) (Gate u t) x y =
      let place : z ∷ s ∷ [] ≡ u ∷ t ∷ [] =
      firsts_at_one_place spot_place (IsWrong l.current.coded n) (record { sig = z; state = s })
      (record { sig = u; state = t }) refl x.1 y.1 in
      let signal : z ≡ u = cc in
      let state : s ≡ t = cc in
      ap₂ (λ (i k : ℕ). Gate i k) signal state

  -- ---- one refusal
  told_not_wild : CanBeTold c.graph n → (w : Wild) → (w ≡ NoRoom → ⊥) → ShowsWild c.graph n w → ⊥
  told_not_wild told w other shows = other (told_are_not_wild c.graph n told.0 w told.1 shows)

  crowd_has_room : Crowd ≡ NoRoom → ⊥
  crowd_has_room same = cc

  strays_have_room : (x : Reached) (z : ℕ) → Strays x z ≡ NoRoom → ⊥
  strays_have_room x z same = cc

  one_astray : (x y : Reached) (z u : ℕ) → ShowsWild c.graph n (Strays x z) → ShowsWild c.graph n (Strays y u)
      → Astray x z ≡ Astray y u
  one_astray x y z u shows also = elim (wild_are_one c.graph n (Strays x z) (Strays y u) shows also) [
    | inl same ↦ absurd (strays_have_room x z same)
    | inr (inl same) ↦ absurd (strays_have_room y u same)
    | inr (inr same) ↦ ap not_found_of same
  ]

  hindered_or_all : (l m : History) (a : Obstacle) → IsHindered c n l a → FindsAll c n m → ⊥
  hindered_or_all l m a x y =
      let same = one_end l m x.found y.found (hindered_finds_none c n l a is proper x) (all_finds_none c n m y) in
      let signals : n.signals ≡ l.current.coded.graph.signals =
      y.signals ∙ ap (λ (k : History). k.current.coded.graph.signals) (sym same) in
      let size = ap (length {A = Signal}) signals in
      let next = x.next in
      omega (arith, size, next)

  one_refusal : (a b : NotFound) → ShowsNotFound c n a → ShowsNotFound c n b → (a ≡ NoMemory → ⊥)
      → (b ≡ NoMemory → ⊥) → a ≡ b
  one_refusal NoMemory b x y a_is b_is = absurd (a_is refl)
  one_refusal TooMany NoMemory x y a_is b_is = absurd (b_is refl)
  one_refusal TooMany TooMany x y a_is b_is = refl
  one_refusal TooMany (Astray at sig) x y a_is b_is = absurd (y.0 x)
  one_refusal TooMany (Hindered m why) x y a_is b_is = absurd (told_not_wild y.0 Crowd crowd_has_room x)
  one_refusal TooMany (Unbuilt m why) x y a_is b_is = absurd (told_not_wild y.0 Crowd crowd_has_room x)
  one_refusal (Astray at sig) NoMemory x y a_is b_is = absurd (b_is refl)
  one_refusal (Astray at sig) TooMany x y a_is b_is = absurd (x.0 y)
  one_refusal (Astray at sig) (Astray there z) x y a_is b_is = one_astray at there sig z x y
  one_refusal (Astray at sig) (Hindered m why) x y a_is b_is =
      absurd (told_not_wild y.0 (Strays at sig) (strays_have_room at sig) x)
  one_refusal (Astray at sig) (Unbuilt m why) x y a_is b_is =
      absurd (told_not_wild y.0 (Strays at sig) (strays_have_room at sig) x)
  one_refusal (Hindered l why) NoMemory x y a_is b_is = absurd (b_is refl)
  one_refusal (Hindered l why) TooMany x y a_is b_is = absurd (told_not_wild x.0 Crowd crowd_has_room y)
  one_refusal (Hindered l why) (Astray at sig) x y a_is b_is =
      absurd (told_not_wild x.0 (Strays at sig) (strays_have_room at sig) y)
  one_refusal (Hindered l why) (Hindered m also) x y a_is b_is =
      let same = one_end l m x.1.found y.1.found (hindered_finds_none c n l why is proper x.1)
      (hindered_finds_none c n m also is proper y.1) in
      let here = subst (λ (k : History). IsHindered c n k also) (sym same) y.1 in
      let make : History → Obstacle → NotFound = λ k w. Hindered k w in
      ap₂ make same (one_hindrance l why also x.1 here)
  one_refusal (Hindered l why) (Unbuilt m also) x y a_is b_is = absurd (hindered_or_all l m why x.1 y.1)
  one_refusal (Unbuilt l why) NoMemory x y a_is b_is = absurd (b_is refl)
  one_refusal (Unbuilt l why) TooMany x y a_is b_is = absurd (told_not_wild x.0 Crowd crowd_has_room y)
  one_refusal (Unbuilt l why) (Astray at sig) x y a_is b_is =
      absurd (told_not_wild x.0 (Strays at sig) (strays_have_room at sig) y)
  one_refusal (Unbuilt l why) (Hindered m also) x y a_is b_is = absurd (hindered_or_all m l also y.1 x.1)
  one_refusal (Unbuilt l why) (Unbuilt m also) x y a_is b_is =
      let same = one_end l m x.1.found y.1.found (all_finds_none c n l x.1) (all_finds_none c n m y.1) in
      let here = subst (λ (k : History). IsFirstDifference k n also) (sym same) y.2 in
      let make : History → Difference → NotFound = λ k w. Unbuilt k w in
      ap₂ make same (one_difference l why also x.2 here)

pub answers_are_one : AnswersAreOne
answers_are_one c n (Ok l) (Ok m) is proper x y =
    let make : History → Result History NotFound = λ k. Ok k in ap make (fitting_one c n l m x y)
answers_are_one c n (Ok l) (Err why) is proper x y = absurd (refusals_fit_none c n why is proper y.0 y.1 l x)
answers_are_one c n (Err why) (Ok l) is proper x y = absurd (refusals_fit_none c n why is proper x.0 x.1 l y)
answers_are_one c n (Err one) (Err other) is proper x y =
    let make : NotFound → Result History NotFound = λ w. Err w in
    ap make (one_refusal c n is proper one other x.0 y.0 x.1 y.1)
