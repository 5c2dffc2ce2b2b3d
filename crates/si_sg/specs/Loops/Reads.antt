-- What readers answer, as the definitions see it.
use Rattle.std.specs.Prelude.{◌≡◌, ℕ, ◌<◌, ◌≤◌, false, List, [], ◌∷◌, length, bytes_eq, position}
use Rattle.std.specs.Prelude.{Option, Some, None, Result, Ok, Err, All, true}
use Rattle.std.specs.List.{AllByRecursion}
use Rattle.std.specs.Borrow.{Bor}
use Rattle.si_base.specs.Limits.{max_signals, max_states_read, max_arcs_read}
use Rattle.si_base.specs.Lines.{Line}
use Rattle.si_base.specs.TextFaults.{Shows}
use Rattle.si_base.specs.declared.fault.TextFault.{TextFault}
use Rattle.si_base.specs.declared.fault.TextKind.{TextKind}
use Rattle.si_words.specs.Names.{stands_in}
use Rattle.si_sg.specs.declared.arc_set.Arc.{Arc}
use Rattle.si_sg.specs.GivenGraph.{start_in}
use Rattle.si_sg.specs.declared.header.HeaderSoFar.{HeaderSoFar}
use Rattle.si_sg.specs.declared.section.SectionSoFar.{SectionSoFar}
use Rattle.si_sg.specs.declared.section.Mark.{Mark}
use Rattle.si_sg.specs.Header.{Header, no_header, declared}
use Rattle.si_sg.specs.Section.{Section}
use Rattle.si_sg.specs.StateWords.{is_state_word}
use Rattle.si_sg.specs.GraphText.{header_lines_fault, section_lines_fault, header_says}
use Rattle.si_sg.specs.GraphText.{after_header}
use Rattle.si_sg.specs.Section.{no_section}

-- ---- what is held, as what the lines say

abbrev pub models_now : Option (Bor (List ℕ)) → List (List ℕ)
models_now None = []
models_now (Some name) = name.now ∷ []

abbrev pub header_now : HeaderSoFar → Header
header_now h = record {
  models = models_now h.model;
  inputs = h.inputs;
  outputs = h.outputs;
  internals = h.internals;
}

abbrev pub marks_now : Option Mark → List (ℕ × List ℕ)
marks_now None = []
marks_now (Some mark) = (mark.line, mark.word.now) ∷ []

abbrev pub section_now : SectionSoFar → Section
section_now x = record { states = x.states; arcs = x.arcs; marks = marks_now x.mark }

-- ---- names

-- each name once
abbrev pub Apart : List (List ℕ) → Type 0
Apart [] = Unit {0}
Apart (name ∷ names) = (stands_in names name ≡ false) × Apart names

-- names of signals, as a text without fault has them
pub record AreSignals (names : List (List ℕ)) : Type 0 where
  pub apart : Apart names
  pub few : length names ≤ max_signals

-- the name stands at this place first
abbrev pub StandsAt : List (List ℕ) → List ℕ → ℕ → Type 0
StandsAt names name k = position (λ n. bytes_eq name n) names ≡ Some k

-- the words of states, no more than may be read
pub record AreStates (states : List (List ℕ)) : Type 0 where
  pub few : length states ≤ max_states_read
  pub words : All (λ word. is_state_word word ≡ true) states

-- ---- faults

-- Ok where there is no fault, the fault where there is one, and either may want memory
abbrev pub Finds : {X : Type 0} → Result X TextFault → Option (ℕ × TextKind) → Type 0
Finds (Ok x) fault = fault ≡ None
Finds (Err e) fault = Shows e fault

-- the header was read: from the old lines to the new ones
pub record ReadsHeader (last : ℕ) (old new : List Line) (h : Header) : Type 0 where
  pub fault : header_lines_fault last no_header old
      ≡ section_lines_fault last (declared h) no_section new
  pub says : header_says no_header old ≡ h
  pub after : after_header old ≡ new
  pub signals : AreSignals (declared h)

-- ---- arcs

-- the arc's states and its signal are there
pub record IsWithin (signals states : ℕ) (a : Arc) : Type 0 where
  pub from : a.from < states
  pub sig : a.sig < signals
  pub to : a.to < states

-- what holds of what the lines of the section say, as long as they have no fault
pub record IsSection (signals : ℕ) (x : Section) : Type 0 where
  pub within : AllByRecursion (IsWithin signals (length x.states)) x.arcs
  pub few_states : length x.states ≤ max_states_read
  pub few_arcs : length x.arcs ≤ max_arcs_read

-- the same of the whole section, with a marked state that is there
pub record IsWholeSection (signals : ℕ) (x : Section) : Type 0 where
  pub section : IsSection signals x
  pub start : start_in x.states x.marks < length x.states
