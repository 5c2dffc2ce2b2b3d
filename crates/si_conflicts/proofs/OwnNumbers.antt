-- Each set of states has one number of conflicts of its own.
use Rattle.std.proofs.Common.{◌≡◌, ℕ, suc, Bool, true, false, cond, List, [], ◌∷◌, length, map, filter, All}
use Rattle.std.proofs.Common.{get_or, Contains, refl, sym, ap, ap₂, subst, ◌∙◌, arith, inl, inr}
use Rattle.std.proofs.lemmas.Bool.{cases_eq, cases_Bool, true≢false}
use Rattle.si_base.specs.declared.graph.Edge.{Edge}
use Rattle.si_base.specs.Graph.{StateGraph, arc}
use Rattle.si_base.specs.Codes.{CodedGraph}
use Rattle.si_base.specs.Sets.{IsIn, is_in}
use Rattle.si_checks.proofs.SearchDecisions as decide
use Rattle.si_checks.proofs.SearchDecisions.{Decided}
use Rattle.si_conflicts.specs.declared.keys.Key.{Key}
use Rattle.si_conflicts.specs.declared.members.Member.{Member}
use Rattle.si_conflicts.specs.Loops.Own.{AllStayingIn, AreStayingIn, HasOwnConflicts, StaysIn, own_keys}
use Rattle.si_conflicts.specs.Loops.Chains.{AreChains, Chains}
use Rattle.si_conflicts.specs.Loops.Keys.{clash_count}
use Rattle.si_conflicts.proofs.KeyNumbers.{driven_within, some_number}
use Rattle.si_conflicts.proofs.OwnLemmas.{one_staying_in}

-- ---- the signals that stay within a set
is_inside : (set : List Bool) (s : ℕ) → Decided (IsIn set s)
is_inside set s = elim (cases_Bool (is_in set s)) [
  | inl inside ↦ inl inside
  | inr outside ↦ inr (λ inside. true≢false (sym inside ∙ outside))
]

-- the arc is one of z that leads from s into the set
abbrev LeadsBy : List Bool → ℕ → ℕ → Edge → Type 0
LeadsBy set s z a = (a.from ≡ s) × ((a.event.sig ≡ z) × IsIn set a.to)

leads_by : (set : List Bool) (s z : ℕ) (a : Edge) → Decided (LeadsBy set s z a)
leads_by set s z a = decide.both (cases_eq a.from s) (decide.both (cases_eq a.event.sig z) (is_inside set a.to))

stays_in : (g : StateGraph) (set : List Bool) (s z : ℕ) → Decided (StaysIn g set s z)
stays_in g set s z = elim (decide.driven g.signals z) [
  | inr input ↦ inr (λ is. input is.non_input)
  | inl non_input ↦ elim (decide.some_of (LeadsBy set s z) (leads_by set s z) g.edges) [
    | inl (a, there, of) ↦ inl (record {
      non_input = non_input;
      up = a.event.up;
      to = a.to;
      step = subst (λ x. Contains g.edges x) (same_arc a of.0 of.1.0) there;
      inside = of.1.1;
    })
    | inr none ↦ inr (λ is.
        none (arc s (record { sig = z; up = is.up }) is.to, is.step, (refl, (refl, is.inside))))
  ]
]
  where
    same_arc : (a : Edge) → a.from ≡ s → a.event.sig ≡ z → a ≡ arc s (record { sig = z; up = a.event.up }) a.to
    same_arc a from sig i =
        record { from = from i; event = record { sig = sig i; up = a.event.up }; to = a.to }

some_staying_in : (g : StateGraph) (set : List Bool)
    → (staying : ℕ → ℕ) × ((s : ℕ) → AreStayingIn g set s (staying s))
some_staying_in g set = ((λ s. (at s).0), (λ s. (at s).1))
  where
    at : (s : ℕ) → (k : ℕ) × AreStayingIn g set s k
    at s = some_number (λ z. StaysIn g set s z) (λ z. stays_in g set s z) (length g.signals)
        (λ z is. driven_within g z is.non_input)

-- ---- the keys of the set's members
map_cond : (f : Member → Key) (b : Bool) (m : Member) (ms : List Member)
    → map f (cond b (m ∷ ms) ms) ≡ cond b (f m ∷ map f ms) (map f ms)
map_cond f true m ms = refl
map_cond f false m ms = refl

module _ (set : List Bool) (f g : ℕ → ℕ) where
  abbrev key_by : (ℕ → ℕ) → Member → Key
  key_by h m = record { code = m.key.code; excited = h m.state }

  abbrev Agree : Member → Type 0
  Agree m = IsIn set m.state → f m.state ≡ g m.state

  own_first : (h : ℕ → ℕ) (m : Member) (ms : List Member) → own_keys set h (m ∷ ms)
      ≡ cond (is_in set m.state) (key_by h m ∷ own_keys set h ms) (own_keys set h ms)
  own_first h m ms = map_cond (key_by h) (is_in set m.state) m (filter (λ (x : Member). is_in set x.state) ms)

  first_agrees : (b : Bool) (m : Member) (xs ys : List Key) → is_in set m.state ≡ b → Agree m → xs ≡ ys
      → cond b (key_by f m ∷ xs) xs ≡ cond b (key_by g m ∷ ys) ys
  first_agrees true m xs ys inside agree same =
      ap₂ (λ n rest. record { code = m.key.code; excited = n } ∷ rest) (agree inside) same
  first_agrees false m xs ys outside agree same = same

  keys_agree : (ms : List Member) → All Agree ms → own_keys set f ms ≡ own_keys set g ms
  keys_agree [] all = refl
  keys_agree (m ∷ ms) all =
      let later = keys_agree ms (λ k d inside. all (suc k) d (omega (arith, inside))) in
      own_first f m ms
      ∙ first_agrees (is_in set m.state) m (own_keys set f ms) (own_keys set g ms) refl (all 0 m (omega arith)) later
      ∙ sym (own_first g m ms)

pub own_exists : (c : CodedGraph) (chains : Chains) (set : List Bool) → AreChains c chains
    → (n : ℕ) × HasOwnConflicts c.graph chains.members set n
own_exists c chains set are =
    let g = c.graph in
    let some = some_staying_in g set in
    let within = are.members_are.within in (
      clash_count (own_keys set some.0 chains.members),
      λ staying all. ap clash_count (keys_agree set some.0 staying chains.members
          (λ k d inside in_set. (
          let s = (get_or chains.members k d).state in
          one_staying_in g set s (some.0 s) (staying s) (some.1 s) (all s (within k d inside) in_set)))),
    )

pub own_unique : (g : StateGraph) (members : List Member) (set : List Bool) (a b : ℕ)
    → HasOwnConflicts g members set a → HasOwnConflicts g members set b → a ≡ b
own_unique g members set a b one other =
    let some = some_staying_in g set in
    let all : AllStayingIn g set some.0 = λ s within inside. some.1 s in
    one some.0 all ∙ sym (other some.0 all)
