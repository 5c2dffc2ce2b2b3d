-- An arc of a graph is looked for among those out of its state.
use Rattle.std.proofs.Common.{◌≡◌, ℕ, ◌==◌, ◌&&◌, Bool, true, List, inl, inr, sym, ◌∙◌, eqb-true}
use Rattle.std.specs.List.{list_any}
use Rattle.std.proofs.lemmas.Bool.{cases_Bool, true≢false, and_parts}
use Rattle.si_base.specs.declared.graph.Edge.{Edge}
use Rattle.si_base.specs.declared.ids.Event.{Event}
use Rattle.si_base.specs.Graph.{StateGraph, same_event}
use Rattle.si_graph.specs.Loops.Arcs.{AreOut}
use Rattle.si_pictures.specs.Seen.{is_step, leads}
use Rattle.si_pictures.proofs.PictureLemmas.{any_found, any_there}

-- ---- both or neither
same_truth : (a b : Bool) → (a ≡ true → b ≡ true) → (b ≡ true → a ≡ true) → a ≡ b
same_truth a b one other = elim (cases_Bool a) [
  | inl on ↦ on ∙ sym (one on)
  | inr off ↦ elim (cases_Bool b) [
    | inl also ↦ absurd (true≢false (sym (other also) ∙ off))
    | inr none ↦ off ∙ sym none
  ]
]

pub any_out : (g : StateGraph) (s : ℕ) (e : Event) (t : ℕ) (arcs : List Edge) → AreOut g s arcs
    → list_any (is_step s e t) arcs ≡ leads g s e t
any_out g s e t arcs out = same_truth _ _ into from
  where
    into : list_any (is_step s e t) arcs ≡ true → leads g s e t ≡ true
    into some =
        let (a, there, is) = any_found (is_step s e t) arcs some in
        any_there (is_step s e t) g.edges a ((out.exactly a).0 there).0 is

    from : leads g s e t ≡ true → list_any (is_step s e t) arcs ≡ true
    from some =
        let (a, there, is) = any_found (is_step s e t) g.edges some in
        let both = (and_parts ((a.from == s) && same_event a.event e) (a.to == t) is).0 in
        let left = (and_parts (a.from == s) (same_event a.event e) both).0 in
        any_there (is_step s e t) arcs a ((out.exactly a).1 (there, eqb-true a.from s left)) is
