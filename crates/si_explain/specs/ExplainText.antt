-- (text) The text that explains the first conflicts of a graph.
use Rattle.std.specs.Prelude.{◌≡◌, ℕ, ◌==◌, List, [], ◌∷◌, ◌++◌, map, filter, flat_map, Contains}
use Rattle.std.specs.Prelude.{codes, decimal, Option, Some, None, Bool, true, false, ◌&&◌}
use Rattle.std.specs.List.{list_any}
use Rattle.std.specs.Prelude.{if◌then◌else◌}
use Rattle.si_base.specs.declared.ids.Event.{Event}
use Rattle.si_base.specs.declared.graph.Signal.{Signal}
use Rattle.si_base.specs.Graph.{StateGraph}
use Rattle.si_base.specs.Codes.{CodedGraph, code}
use Rattle.si_base.specs.NetlistText.{bits_from, word_if_any}
use Rattle.si_base.specs.Words.{text_of}
use Rattle.si_conflicts.specs.Conflicts.{HasConflicts, AreFirstConflicts}
use Rattle.si_sg.specs.CanonicalText.{state_at, event_word}
use Rattle.si_walks.specs.declared.arcs.Arcs.TheVariants.{All}
use Rattle.si_walks.specs.Walks.{IsFirstWalk}
use Rattle.si_walks.specs.Joined.{Source, IsSourceOrNone}
use Rattle.si_walks.specs.Twins.{IsFirstTwinOrNone, TellsTwins}
use Rattle.si_kin.specs.Kin.{IsFirstKinOrNone, TellsKin}

-- the most conflicts that are explained
abbrev pub max_explained : ℕ
max_explained = 10

-- the events that s enables, in event order
abbrev pub enabled_events : StateGraph → ℕ → List Event
enabled_events g s = map (λ a. a.event) (filter (λ a. a.from == s) g.edges)

-- a conflict, walks from the start to its two states, a state from which inputs alone lead to both,
-- if there is one, whether its states are twins, and whether they are kin
pub record Explained : Type 0 where
  pub pair : ℕ × ℕ
  pub to_first : List Event
  pub to_second : List Event
  pub source : Option Source
  pub twins : Bool
  pub kin : Bool

-- the walks are the first, and so is the source
pub record IsExplained (c : CodedGraph) (x : Explained) : Type 0 where
  pub to_first : IsFirstWalk c.graph All c.graph.start x.pair.0 x.to_first
  pub to_second : IsFirstWalk c.graph All c.graph.start x.pair.1 x.to_second
  pub source : IsSourceOrNone c x.pair x.source
  pub twins : TellsTwins c x.pair.0 x.pair.1 x.twins
  pub kin : TellsKin c x.pair.0 x.pair.1 x.kin

-- ---- the lines
abbrev pub events_words : List Signal → List Event → List (List ℕ)
events_words signals es = map (event_word signals) es

-- a word, a state, and events
abbrev pub events_line : List ℕ → List Signal → List (List ℕ) → ℕ → List Event → List (List ℕ)
events_line word signals states s es = word ∷ state_at states s ∷ events_words signals es

-- the events of a walk by inputs alone
abbrev pub inputs_line : List Signal → List (List ℕ) → ℕ → ℕ → List Event → List (List ℕ)
inputs_line signals states s t es =
    codes "inputs" ∷ state_at states s ∷ state_at states t ∷ events_words signals es

-- what such walks mean, in plain words
abbrev pub meaning : List ℕ
meaning = codes "# inputs alone lead to both states, so no inserted signals tell them apart"

abbrev pub source_lines : List Signal → List (List ℕ) → ℕ × ℕ → Option Source
    → List (List (List ℕ))
source_lines signals states pair None = []
source_lines signals states pair (Some x) =
    inputs_line signals states x.state pair.0 x.first
    ∷ inputs_line signals states x.state pair.1 x.second
    ∷ (codes "unresolvable" ∷ state_at states pair.0 ∷ state_at states pair.1 ∷ meaning ∷ [])
    ∷ []

-- what twins mean, in plain words
abbrev pub twin_meaning : List ℕ
twin_meaning =
    codes "# at states of one code the circuit does the same, so nothing tells them apart"

-- twins are told where no source is
abbrev pub tells_twins : Option Source → Bool → Bool
tells_twins None twins = twins
tells_twins (Some x) twins = false

-- what kin mean, in plain words
abbrev pub kin_meaning : List ℕ
kin_meaning =
    codes "# inputs join them, some backwards, so no signals that delay no input tell them apart"

-- kin are told where neither a source is nor twins are
abbrev pub tells_kin : Option Source → (twins kin : Bool) → Bool
tells_kin None false kin = kin
tells_kin None true kin = false
tells_kin (Some x) twins kin = false

-- that no insertions resolve the conflict, and why, where that is told
abbrev pub unresolvable_lines : List (List ℕ) → ℕ × ℕ → List ℕ → Bool → List (List (List ℕ))
unresolvable_lines states pair why false = []
unresolvable_lines states pair why true =
    (codes "unresolvable" ∷ state_at states pair.0 ∷ state_at states pair.1 ∷ why ∷ []) ∷ []

-- the two states, their code, what each enables, a walk to each, and the source, if there is one,
-- or else that the states are twins, if they are, or else that they are kin, if they are
abbrev pub explained_lines : CodedGraph → List (List ℕ) → Explained → List (List (List ℕ))
explained_lines c states x =
    let signals = c.graph.signals in
    let p = x.pair.0 in
    let q = x.pair.1 in
    (codes "conflict" ∷ state_at states p ∷ state_at states q ∷ [])
    ∷ (codes "code" ∷ word_if_any (bits_from 0 signals (code c p)))
    ∷ events_line (codes "enables") signals states p (enabled_events c.graph p)
    ∷ events_line (codes "enables") signals states q (enabled_events c.graph q)
    ∷ events_line (codes "walk") signals states p x.to_first
    ∷ events_line (codes "walk") signals states q x.to_second
    ∷ (source_lines signals states x.pair x.source
    ++ (unresolvable_lines states x.pair twin_meaning (tells_twins x.source x.twins)
    ++ unresolvable_lines states x.pair kin_meaning (tells_kin x.source x.twins x.kin)))

abbrev pub count_line : ℕ → List (List ℕ)
count_line count = codes "conflicts" ∷ decimal count ∷ []

-- ---- the text
-- how many conflicts there are, and the lines of these
unfoldable pub explain_text : CodedGraph → List (List ℕ) → ℕ → List Explained → List ℕ
explain_text c states count explained =
    text_of (count_line count ∷ [])
    ++ flat_map (λ x. text_of (explained_lines c states x)) explained

abbrev pub same_pair : ℕ × ℕ → ℕ × ℕ → Bool
same_pair x y = (y.0 == x.0) && (y.1 == x.1)

-- the pair, if there is one that isn't among these
abbrev pub further : List (ℕ × ℕ) → Option (ℕ × ℕ) → List (ℕ × ℕ)
further pairs None = []
further pairs (Some x) =
    if list_any (same_pair x) pairs then [] else x ∷ []

-- the pairs, and last this one, if there is one that isn't among them
abbrev pub with_further : List (ℕ × ℕ) → Option (ℕ × ℕ) → List (ℕ × ℕ)
with_further pairs found = pairs ++ further pairs found

-- the text of the number of all conflicts of c, and of the first of them, the first of twins and
-- the first of kin, explained, with these names of its states
pub record IsExplainText (c : CodedGraph) (states : List (List ℕ)) (text : List ℕ) : Type 0 where
  pub count : ℕ
  pub counted : HasConflicts c count
  pub pairs : List (ℕ × ℕ)
  pub first : AreFirstConflicts c max_explained pairs
  pub twin : Option (ℕ × ℕ)
  pub first_twin : IsFirstTwinOrNone c twin
  pub kin : Option (ℕ × ℕ)
  pub first_kin : IsFirstKinOrNone c kin
  pub explained : List Explained
  pub pairs_are : map (λ x. x.pair) explained ≡ with_further (with_further pairs twin) kin
  pub each : (x : Explained) → Contains explained x → IsExplained c x
  pub text_is : text ≡ explain_text c states count explained

-- ---- one conflict after another
-- the text goes on with the lines of the pair, explained
pub record Explains (c : CodedGraph) (states : List (List ℕ)) (pair : ℕ × ℕ) (old new : List ℕ)
    : Type 0 where
  pub explained : Explained
  pub pair_is : explained.pair ≡ pair
  pub is : IsExplained c explained
  pub added : new ≡ old ++ text_of (explained_lines c states explained)

-- and so with each of the pairs
pub record ExplainsAll (c : CodedGraph) (states : List (List ℕ)) (pairs : List (ℕ × ℕ))
    (old new : List ℕ) : Type 0 where
  pub explained : List Explained
  pub pairs_are : map (λ x. x.pair) explained ≡ pairs
  pub each : (x : Explained) → Contains explained x → IsExplained c x
  pub added : new ≡ old ++ flat_map (λ x. text_of (explained_lines c states x)) explained
