-- (text) The picture of a graph: the statements that Graphviz draws it from.
use Rattle.std.specs.Prelude.{◌≡◌, ℕ, ◌==◌, not, Bool, true, false, List, filter}
use Rattle.std.specs.Prelude.{[], ◌∷◌, ◌++◌, map, codes, decimal}
use Rattle.std.specs.Prelude.{slice_get, option_map, unwrap_or, if◌then◌else◌}
use Rattle.std.specs.List.{join_with_byte}
use mathlib.Core.Bool.{beq}
use Rattle.si_base.specs.declared.graph.Edge.{Edge}
use Rattle.si_base.specs.declared.graph.Signal.{Signal}
use Rattle.si_base.specs.Bytes.{line_feed, space}
use Rattle.si_base.specs.Graph.{is_driven}
use Rattle.si_conflicts.specs.Conflicts.{AreConflicts, AreFirstConflicts}
use Rattle.si_pictures.specs.CodeWord.{first, code_word}
use Rattle.si_pictures.specs.Grammar.{Attribute, Statement, Setting, Node, Link}
use Rattle.si_pictures.specs.InConflict.{is_among}
use Rattle.si_pictures.specs.Seen.{graph_of, is_breach_state, is_red_arc}
use Rattle.si_pictures.specs.declared.seen.Seen.{Seen}
use Rattle.si_pictures.specs.declared.seen.Seen.TheVariants.{Proper, Coded, Uncoded}
use Rattle.si_pictures.specs.Writing.{dot_text}
use Rattle.si_sg.specs.CanonicalText.{state_at, event_word}

abbrev pub label_attribute : List ℕ → Attribute
label_attribute label = record { name = codes "label"; value = label }

abbrev pub two_borders : Attribute
two_borders = record { name = codes "peripheries"; value = codes "2" }

abbrev pub in_red : Attribute
in_red = record { name = codes "color"; value = codes "red" }

abbrev pub dashed_style : Attribute
dashed_style = record { name = codes "style"; value = codes "dashed" }

-- an edge without an arrow
abbrev pub without_arrow : Attribute
without_arrow = record { name = codes "dir"; value = codes "none" }

-- an edge that has no say in where its nodes stand
abbrev pub without_constraint : Attribute
without_constraint = record { name = codes "constraint"; value = codes "false" }

-- ---- the title

-- the names of the inputs, or of the signals that the circuit drives, in signal order
abbrev pub names_where : (driven : Bool) → List Signal → List (List ℕ)
names_where driven signals =
    map (λ x. x.name) (filter (λ x. beq (is_driven x.kind) driven) signals)

-- the name of the model, and on the next line the signals in signal order: `signals a b / c`
unfoldable pub title : (model : List ℕ) → List Signal → List ℕ
title model signals = model ++ line_feed ∷ join_with_byte space (codes "signals"
    ∷ names_where false signals ++ codes "/" ∷ names_where true signals)

-- ---- states

-- on a line of its own, where the graph has codes
abbrev pub code_line : Seen → ℕ → List ℕ
code_line (Proper c) s = line_feed ∷ code_word c s
code_line (Coded c breach) s = line_feed ∷ code_word c s
code_line (Uncoded g breach) s = []

-- the name of a state, and on the next line its code
abbrev pub state_label : Seen → List (List ℕ) → ℕ → List ℕ
state_label seen states s = state_at states s ++ code_line seen s

-- a state by its number, with two borders where the graph starts, and in red where it is marked
abbrev pub state_node : Seen → List (List ℕ) → ℕ → Bool → Statement
state_node seen states s marked = Node (decimal s) (label_attribute (state_label seen states s)
    ∷ (if s == (graph_of seen).start then two_borders ∷ [] else [])
    ++ (if marked then in_red ∷ [] else []))

-- ---- arcs

-- the circuit drives signal z
abbrev pub drives : List Signal → ℕ → Bool
drives signals z = unwrap_or (option_map (λ x. is_driven x.kind) (slice_get signals z)) true

-- an arc, dashed where its event is of an input, and in red where it is marked
abbrev pub arc_link : List Signal → Edge → Bool → Statement
arc_link signals a marked = Link (decimal a.from) (decimal a.to)
    (label_attribute (event_word signals a.event)
    ∷ (if not (drives signals a.event.sig) then dashed_style ∷ [] else [])
    ++ (if marked then in_red ∷ [] else []))

-- ---- conflicts

-- the most conflicts of which each has a red line
abbrev pub max_lines : ℕ
max_lines = 1000

-- a red line between the two states
abbrev pub conflict_line : ℕ × ℕ → Statement
conflict_line pair = Link (decimal pair.0) (decimal pair.1)
    (without_arrow ∷ in_red ∷ without_constraint ∷ [])

-- of a proper graph all conflicts, and the first of them, which have lines; of another graph none
abbrev pub AreShown : Seen → (conflicts lines : List (ℕ × ℕ)) → Type 0
AreShown (Proper c) conflicts lines =
    AreConflicts c conflicts × AreFirstConflicts c max_lines lines
AreShown (Coded c breach) conflicts lines = (conflicts ≡ []) × (lines ≡ [])
AreShown (Uncoded g breach) conflicts lines = (conflicts ≡ []) × (lines ≡ [])

-- a state of a conflict, and in a graph that isn't proper the state of the breach
abbrev pub is_red_state : Seen → (conflicts : List (ℕ × ℕ)) → ℕ → Bool
is_red_state (Proper c) conflicts s = is_among conflicts s
is_red_state (Coded c breach) conflicts s = is_breach_state breach s
is_red_state (Uncoded g breach) conflicts s = is_breach_state breach s

-- ---- the picture

-- the title, the states in order, the arcs in order, and the lines; in red what shows conflicts or
-- the breach
unfoldable pub picture : (model : List ℕ) → (states : List (List ℕ)) → Seen
    → (conflicts lines : List (ℕ × ℕ)) → List Statement
picture model states seen conflicts lines =
    let g = graph_of seen in
    Setting (label_attribute (title model g.signals))
    ∷ map (λ s. state_node seen states s (is_red_state seen conflicts s)) (first g.states)
    ++ (map (λ a. arc_link g.signals a (is_red_arc seen a)) g.edges
    ++ map conflict_line lines)

-- the text of the picture of what was read
pub record IsDotText (model : List ℕ) (states : List (List ℕ)) (seen : Seen)
    (text : List ℕ) : Type 0 where
  pub conflicts : List (ℕ × ℕ)
  pub lines : List (ℕ × ℕ)
  pub are : AreShown seen conflicts lines
  pub text_is : text ≡ dot_text (picture model states seen conflicts lines)
