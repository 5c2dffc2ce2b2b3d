-- (text) The text of what is told of a graph beside its breaches.
use Rattle.std.specs.Prelude.{◌≡◌, ℕ, ◌+◌, ◌<◌, List, [], ◌∷◌, ◌++◌, map, take, length, codes}
use Rattle.std.specs.Prelude.{decimal}
use Rattle.si_base.specs.declared.ids.Event.{Event}
use Rattle.si_base.specs.declared.graph.Edge.{Edge}
use Rattle.si_base.specs.declared.graph.Signal.{Signal}
use Rattle.si_base.specs.Graph.{StateGraph, name_of}
use Rattle.si_base.specs.Codes.{CodedGraph}
use Rattle.si_base.specs.Proper.{Loss}
use Rattle.si_base.specs.Words.{text_of}
use Rattle.si_explain.specs.ExplainText.{events_line, events_words}
use Rattle.si_lint.specs.Findings.{Findings, AreFindings}
use Rattle.si_sg.specs.CanonicalText.{state_at, event_word}
use Rattle.si_walks.specs.declared.arcs.Arcs.TheVariants.{All}
use Rattle.si_walks.specs.Walks.{IsFirstWalk}

-- the most lines of a kind
abbrev pub max_told : ℕ
max_told = 1000

-- for each state the first walk from the start to it
abbrev pub AreFirstWalks : StateGraph → (ℕ → List Event) → Type 0
AreFirstWalks g walk = (s : ℕ) → s < g.states → IsFirstWalk g All g.start s (walk s)

-- how many there are of all kinds, with the states that were dropped
abbrev pub told_count : List (List ℕ) → Findings → ℕ
told_count dropped f = length dropped + length f.unused + length f.dead + length f.one_way
    + length f.choices + length f.disablings + length f.same_codes + length f.merged
    + length f.unresolvable

-- ---- the lines, each by its words
abbrev pub told_line : ℕ → List (List ℕ)
told_line count = codes "told" ∷ decimal count ∷ []

-- the name of a state of the text that no walk reaches
abbrev pub dropped_line : List ℕ → List (List ℕ)
dropped_line name = codes "dropped" ∷ name ∷ []

abbrev pub unused_line : List Signal → ℕ → List (List ℕ)
unused_line signals a = codes "unused" ∷ name_of signals a ∷ []

-- a state and the events of a walk to it
abbrev pub dead_line : List Signal → List (List ℕ) → (ℕ → List Event) → ℕ → List (List ℕ)
dead_line signals states walk s = events_line (codes "dead") signals states s (walk s)

-- an arc and the events of a walk to its source
abbrev pub one_way_line : List Signal → List (List ℕ) → (ℕ → List Event) → Edge → List (List ℕ)
one_way_line signals states walk a =
    codes "oneway" ∷ state_at states a.from ∷ event_word signals a.event ∷ state_at states a.to
    ∷ events_words signals (walk a.from)

-- a state, the input event that is disabled, and the event that disables it
abbrev pub loss_line : List ℕ → List Signal → List (List ℕ) → Loss → List (List ℕ)
loss_line word signals states b = events_line word signals states b.s (b.lost ∷ b.by ∷ [])

-- two states
abbrev pub pair_line : List ℕ → List (List ℕ) → ℕ × ℕ → List (List ℕ)
pair_line word states pair = word ∷ state_at states pair.0 ∷ state_at states pair.1 ∷ []

-- the lines of the first of a kind
abbrev pub kind_lines : {A : Type 0} → (A → List (List ℕ)) → List A → List (List (List ℕ))
kind_lines line_of xs = map line_of (take max_told xs)

-- ---- the text
-- how many lines there would be, and the lines, kind by kind
unfoldable pub lint_text : List Signal → (states dropped : List (List ℕ)) → (ℕ → List Event)
    → Findings → List ℕ
lint_text signals states dropped walk f =
    text_of (told_line (told_count dropped f) ∷ [])
    ++ text_of (kind_lines dropped_line dropped)
    ++ text_of (kind_lines (unused_line signals) f.unused)
    ++ text_of (kind_lines (dead_line signals states walk) f.dead)
    ++ text_of (kind_lines (one_way_line signals states walk) f.one_way)
    ++ text_of (kind_lines (loss_line (codes "choice") signals states) f.choices)
    ++ text_of (kind_lines (loss_line (codes "disabled") signals states) f.disablings)
    ++ text_of (kind_lines (pair_line (codes "samecode") states) f.same_codes)
    ++ text_of (kind_lines (pair_line (codes "alike") states) f.merged)
    ++ text_of (kind_lines (pair_line (codes "unresolvable") states) f.unresolvable)

-- what is told of c, with these names of its states and of those that were dropped: all that it has
-- of each kind, and first walks
pub record IsLintText (c : CodedGraph) (states dropped : List (List ℕ)) (text : List ℕ)
    : Type 0 where
  pub findings : Findings
  pub are : AreFindings c findings
  pub walk : ℕ → List Event
  pub walks : AreFirstWalks c.graph walk
  pub text_is : text ≡ lint_text c.graph.signals states dropped walk findings
