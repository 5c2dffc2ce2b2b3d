-- (text) The text of all breaches of a graph that isn't proper.
use Rattle.std.specs.Prelude.{◌≡◌, ℕ, ◌+◌, ◌*◌, List, [], ◌∷◌, ◌++◌, map, flat_map, length, codes}
use Rattle.si_base.specs.declared.ids.Event.{Event}
use Rattle.si_base.specs.declared.graph.Signal.{Signal}
use Rattle.si_base.specs.Graph.{StateGraph, name_of}
use Rattle.si_base.specs.Proper.{Split, Fork, Loss}
use Rattle.si_base.specs.Words.{text_of}
use Rattle.si_explain.specs.ExplainText.{events_words}
use Rattle.si_breaches.specs.Breaches.{AreFirstWays, by_arc, Breaches, AreBreaches}
use Rattle.si_told.specs.ToldLines.{told_line, dropped_line, kind_lines}
use Rattle.si_breaches.specs.declared.clashes.Clash.{Clash}
use Rattle.si_breaches.specs.declared.clashes.Clash.TheVariants.{Torn, Apart}
use Rattle.si_breaches.specs.declared.clashes.Clashing.{Clashing}
use Rattle.si_sg.specs.CanonicalText.{state_at}

-- how many lines there are of all kinds, with the states that were dropped: two for each clash
abbrev pub breach_count : List (List ℕ) → Breaches → ℕ
breach_count dropped b = length dropped + length b.splits + 2 * length b.clashes + length b.forks
    + length b.losses

-- ---- the lines, each by its words
-- a word, a state, what it enables, states to which that leads, and a walk to the state
abbrev pub breach_line : List ℕ → List Signal → List (List ℕ) → ℕ → (events : List Event)
    → (ends : List ℕ) → (walk : List Event) → List (List ℕ)
breach_line word signals states s events ends walk = word ∷ state_at states s
    ∷ (events_words signals events ++ (map (state_at states) ends ++ events_words signals walk))

abbrev pub split_line : List Signal → List (List ℕ) → (ℕ → List Event) → Split → List (List ℕ)
split_line signals states walk b =
    breach_line (codes "nondeterministic") signals states b.s (b.e ∷ []) (b.t ∷ b.u ∷ []) (walk b.s)

abbrev pub fork_line : List Signal → List (List ℕ) → (ℕ → List Event) → Fork → List (List ℕ)
fork_line signals states walk b = breach_line (codes "noncommutative") signals states b.s
    (b.a ∷ b.c ∷ []) (b.w ∷ b.w2 ∷ []) (walk b.s)

abbrev pub lost_line : List Signal → List (List ℕ) → (ℕ → List Event) → Loss → List (List ℕ)
lost_line signals states walk b =
    breach_line (codes "nonpersistent") signals states b.s (b.lost ∷ b.by ∷ []) [] (walk b.s)

-- a signal, a state, and a walk to it
abbrev pub value_line : List Signal → List (List ℕ) → ℕ → ℕ → List Event → List (List ℕ)
value_line signals states a s walk =
    codes "inconsistent" ∷ name_of signals a ∷ state_at states s ∷ events_words signals walk

-- the two walks of a clash: by the arc to its target and by itself there, or by two arcs
abbrev pub clash_lines : List Signal → List (List ℕ) → (ℕ → List Event) → ℕ → Clash
    → List (List (List ℕ))
clash_lines signals states walk a (Torn x) =
    value_line signals states a x.to (by_arc walk x)
    ∷ value_line signals states a x.to (walk x.to) ∷ []
clash_lines signals states walk a (Apart x y) =
    value_line signals states a x.to (by_arc walk x)
    ∷ value_line signals states a y.to (by_arc walk y) ∷ []

-- of all signals
abbrev pub all_clash_lines : List Signal → List (List ℕ) → (ℕ → List Event) → List Clashing
    → List (List (List ℕ))
all_clash_lines signals states walk clashes =
    flat_map (λ c. clash_lines signals states walk c.sig c.clash) clashes

-- ---- the text
-- how many lines there would be, and the lines, kind by kind in the order in which a graph is
-- checked
unfoldable pub breach_text : List Signal → (states dropped : List (List ℕ)) → (ℕ → List Event)
    → Breaches → List ℕ
breach_text signals states dropped walk b =
    text_of (told_line (breach_count dropped b) ∷ [])
    ++ text_of (kind_lines dropped_line dropped)
    ++ text_of (kind_lines (split_line signals states walk) b.splits)
    ++ text_of (all_clash_lines signals states walk b.clashes)
    ++ text_of (kind_lines (fork_line signals states walk) b.forks)
    ++ text_of (kind_lines (lost_line signals states walk) b.losses)

-- what is told of g, with these names of its states and of those that were dropped: all its
-- breaches, and shortest walks
pub record IsBreachText (g : StateGraph) (states dropped : List (List ℕ)) (text : List ℕ)
    : Type 0 where
  pub walk : ℕ → List Event
  pub walks : AreFirstWays g walk
  pub breaches : Breaches
  pub are : AreBreaches g walk breaches
  pub text_is : text ≡ breach_text g.signals states dropped walk breaches
