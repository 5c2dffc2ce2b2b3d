-- The signals that stay excited within a class, arc by arc, and the keys of such copies.
use Rattle.std.proofs.Common.{◌≡◌, ℕ, ◌+◌, ◌<◌, ◌≤◌, Bool, true, false, cond, List, [], ◌∷◌, ◌++◌, append-nil, length}
use Rattle.std.proofs.Common.{map, take, filter, get_or, Contains, refl, sym, ap, subst, ◌∙◌, arith}
use Rattle.std.proofs.lemmas.List.{map-append}
use Rattle.std.proofs.lemmas.List.Elements.{filter_more}
use Rattle.si_base.specs.declared.graph.Edge.{Edge}
use Rattle.si_base.specs.Graph.{StateGraph, Step, IsNonInput, arc}
use Rattle.si_graph.specs.Loops.Arcs.{AreOut}
use Rattle.si_insert.specs.declared.partition.Class.{Class}
use Rattle.si_insert.specs.Partition.{class_of}
use Rattle.si_conflicts.specs.declared.keys.Key.{Key}
use Rattle.si_conflicts.specs.declared.members.Member.{Member}
use Rattle.si_conflicts.specs.Loops.Apart.{Stays, AreStaying, role_at, is_switching, switching_keys}
use Rattle.si_conflicts.proofs.KeyLemmas.{ExcitedTo}

-- the arc is of a non-input and leads to a state of the same class
abbrev pub IsStayingArc : StateGraph → List Class → Edge → Type 0
IsStayingArc g classes a = IsNonInput g.signals a.event.sig × (class_of classes a.to ≡ class_of classes a.from)

pub staying_all : (g : StateGraph) (classes : List Class) (s : ℕ) (arcs : List Edge) (n bits : ℕ) → AreOut g s arcs
    → length arcs ≤ n → ExcitedTo (IsStayingArc g classes) arcs n bits → AreStaying g classes s bits
staying_all g classes s arcs n bits out all x z = (
  λ on. (let found = (x z).0 on in stays found.1 (found.0, found.3, found.4) found.5 found.6),
  λ is. (
      let a = arc s (record { sig = z; up = is.up }) is.to in
      let place = (out.exactly a).1 (is.step, refl) in
      (x z).1 (place.0, a, (let l = place.1 in omega arith), place.1, place.2, (is.non_input, is.class), refl)),
)
  where
    stays : (a : Edge) → Contains arcs a → IsStayingArc g classes a → a.event.sig ≡ z → Stays g classes s z
    stays a there is same =
        let of = (out.exactly a).0 there in
        subst (λ y. Stays g classes s y) same (record {
          non_input = is.0;
          up = a.event.up;
          to = a.to;
          step = subst (λ (v : ℕ). Step g v a.event a.to) of.1 of.0;
          class = is.1 ∙ ap (λ (v : ℕ). class_of classes v) of.1;
        })

-- ---- the keys of switching copies, member by member
module _ (classes : List Class) (staying : ℕ → ℕ) (b : Bool) (ms : List Member) (i : ℕ) (m : Member)
    (inside : i < length ms) (at : m ≡ get_or ms i m) where
  abbrev test : Member → Bool
  test x = is_switching (role_at b (class_of classes x.state))

  abbrev key : Member → Key
  key x = record { code = x.key.code; excited = staying x.state }

  more : (t : Bool) → test m ≡ t → filter test (take (i + 1) ms) ≡ filter test (take i ms) ++ cond t (m ∷ []) []
  more t is = filter_more test ms i m inside
      ∙ ap (λ x. filter test (take i ms) ++ cond (test x) (x ∷ []) []) (sym at)
      ∙ ap (λ w. filter test (take i ms) ++ cond w (m ∷ []) []) is

  pub key_taken : test m ≡ true → switching_keys classes staying b (take (i + 1) ms)
      ≡ switching_keys classes staying b (take i ms) ++ key m ∷ []
  key_taken is = ap (map key) (more true is) ∙ map-append key (filter test (take i ms)) (m ∷ [])

  pub key_passed : test m ≡ false → switching_keys classes staying b (take (i + 1) ms)
      ≡ switching_keys classes staying b (take i ms)
  key_passed is = ap (map key) (more false is) ∙ map-append key (filter test (take i ms)) [] ∙ append_nil
    where
      append_nil : map key (filter test (take i ms)) ++ [] ≡ map key (filter test (take i ms))
      append_nil = append-nil (map key (filter test (take i ms)))
