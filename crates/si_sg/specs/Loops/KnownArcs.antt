-- Lines of one arc whose states were read before.
use Rattle.std.specs.Prelude.{◌≡◌, true, false, List, ℕ, [], ◌∷◌, None}
use Rattle.si_base.specs.Lines.{has_bad_byte}
use Rattle.si_base.specs.Words.{is_model_name}
use Rattle.si_base.specs.declared.ids.Event.{Event}
use Rattle.si_words.specs.Events.{event_fault, event_of}
use Rattle.si_sg.specs.declared.arc_set.Arc.{Arc}
use Rattle.si_sg.specs.GraphText.{words}
use Rattle.si_sg.specs.StateWords.{is_state_word}
use Rattle.si_sg.specs.Loops.Reads.{StandsAt}

-- the word spells the event; it has no brace, no `#` and no bad byte, as a model name has none
pub record SpellsEvent (signals : List (List ℕ)) (word : List ℕ) (e : Event) : Type 0 where
  pub no_fault : event_fault signals word ≡ None
  pub is : e ≡ event_of signals word
  pub clean : is_model_name word ≡ true

-- the line has no bad byte, and its words are the states at these places and this event
pub record IsKnownArc (signals states : List (List ℕ)) (line : List ℕ) (a : Arc) : Type 0 where
  pub source : List ℕ
  pub event : List ℕ
  pub target : List ℕ
  pub clean : has_bad_byte line ≡ false
  pub words_are : words line ≡ source ∷ event ∷ target ∷ []
  pub from : StandsAt states source a.from
  pub from_state : is_state_word source ≡ true
  pub spelled : SpellsEvent signals event (record { sig = a.sig; up = a.up })
  pub to : StandsAt states target a.to
  pub to_state : is_state_word target ≡ true
