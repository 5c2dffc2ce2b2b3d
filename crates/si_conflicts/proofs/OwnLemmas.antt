-- The signals that stay within a set, arc by arc, and the keys of the set's members.
use Rattle.std.proofs.Common.{◌≡◌, ℕ, ◌+◌, ◌<◌, ◌≤◌, Bool, true, false, cond, List, [], ◌∷◌, ◌++◌, append-nil, length}
use Rattle.std.proofs.Common.{map, take, filter, get_or, Contains, refl, sym, ap, subst, ◌∙◌, arith}
use Rattle.std.proofs.lemmas.List.{map-append}
use Rattle.std.proofs.lemmas.List.Elements.{filter_more}
use Rattle.si_base.specs.declared.graph.Edge.{Edge}
use Rattle.si_base.specs.Graph.{StateGraph, Step, IsNonInput, arc}
use Rattle.si_base.specs.Sets.{IsIn, is_in}
use Rattle.si_graph.specs.Loops.Arcs.{AreOut}
use Rattle.si_conflicts.specs.declared.keys.Key.{Key}
use Rattle.si_conflicts.specs.declared.members.Member.{Member}
use Rattle.si_conflicts.specs.Loops.Own.{AreStayingIn, StaysIn, own_keys}
use Rattle.si_conflicts.proofs.KeyLemmas.{ExcitedTo}
use Rattle.si_conflicts.proofs.KeyNumbers.{one_number}

-- the arc is of a non-input and leads into the set
abbrev pub LeadsInto : StateGraph → List Bool → Edge → Type 0
LeadsInto g set a = IsNonInput g.signals a.event.sig × IsIn set a.to

pub staying_in_all : (g : StateGraph) (set : List Bool) (s : ℕ) (arcs : List Edge) (n bits : ℕ) → AreOut g s arcs
    → length arcs ≤ n → ExcitedTo (LeadsInto g set) arcs n bits → AreStayingIn g set s bits
staying_in_all g set s arcs n bits out all x z = (
  λ on. (let found = (x z).0 on in stays found.1 (found.0, found.3, found.4) found.5 found.6),
  λ is. (
      let a = arc s (record { sig = z; up = is.up }) is.to in
      let place = (out.exactly a).1 (is.step, refl) in
      (x z).1 (place.0, a, (let l = place.1 in omega arith), place.1, place.2, (is.non_input, is.inside), refl)),
)
  where
    stays : (a : Edge) → Contains arcs a → LeadsInto g set a → a.event.sig ≡ z → StaysIn g set s z
    stays a there is same =
        let of = (out.exactly a).0 there in
        subst (λ y. StaysIn g set s y) same (record {
          non_input = is.0;
          up = a.event.up;
          to = a.to;
          step = subst (λ (v : ℕ). Step g v a.event a.to) of.1 of.0;
          inside = is.1;
        })

pub one_staying_in : (g : StateGraph) (set : List Bool) (s k m : ℕ) → AreStayingIn g set s k
    → AreStayingIn g set s m → k ≡ m
one_staying_in g set s k m a b = one_number (λ z. StaysIn g set s z) k m a b

-- ---- the keys of the set's members, member by member
module _ (set : List Bool) (staying : ℕ → ℕ) (ms : List Member) (i : ℕ) (m : Member)
    (inside : i < length ms) (at : m ≡ get_or ms i m) where
  abbrev test : Member → Bool
  test x = is_in set x.state

  abbrev key : Member → Key
  key x = record { code = x.key.code; excited = staying x.state }

  more : (t : Bool) → test m ≡ t → filter test (take (i + 1) ms) ≡ filter test (take i ms) ++ cond t (m ∷ []) []
  more t is = filter_more test ms i m inside
      ∙ ap (λ x. filter test (take i ms) ++ cond (test x) (x ∷ []) []) (sym at)
      ∙ ap (λ w. filter test (take i ms) ++ cond w (m ∷ []) []) is

  pub own_taken : test m ≡ true
      → own_keys set staying (take (i + 1) ms) ≡ own_keys set staying (take i ms) ++ key m ∷ []
  own_taken is = ap (map key) (more true is) ∙ map-append key (filter test (take i ms)) (m ∷ [])

  pub own_passed : test m ≡ false → own_keys set staying (take (i + 1) ms) ≡ own_keys set staying (take i ms)
  own_passed is = ap (map key) (more false is) ∙ map-append key (filter test (take i ms)) []
      ∙ append-nil (map key (filter test (take i ms)))
