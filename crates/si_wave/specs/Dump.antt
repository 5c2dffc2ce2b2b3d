-- (text) Value Change Dumps of wires of one bit, and their text (IEEE 1364-2005, clause 18).
use Rattle.std.specs.Prelude.{ℕ, Bool, List, [], ◌∷◌, ◌++◌, map, flat_map, codes, decimal}
use Rattle.std.specs.Prelude.{if◌then◌else◌}
use Rattle.si_base.specs.Bytes.{hash, digit_zero, digit_one}
use Rattle.si_base.specs.Words.{text_of}

-- a wire: the code by which changes name it, and its name
pub record Wire : Type 0 where
  pub code : List ℕ
  pub name : List ℕ

-- the wire with the code has that value from then on
pub record Change : Type 0 where
  pub value : Bool
  pub code : List ℕ

-- what changes at a time
pub record Moment : Type 0 where
  pub time : ℕ
  pub changes : List Change

-- the wires of one scope, their values at time 0, and what changes later, in the order of time
pub record Dump : Type 0 where
  pub scope : List ℕ
  pub wires : List Wire
  pub starts : List Change
  pub moments : List Moment

-- ---- the text

-- a digit, and the wire's code right behind it
abbrev pub change_word : Change → List ℕ
change_word c = (if c.value then digit_one else digit_zero) ∷ c.code

abbrev pub change_line : Change → List (List ℕ)
change_line c = change_word c ∷ []

abbrev pub wire_line : Wire → List (List ℕ)
wire_line w = codes "$var" ∷ codes "wire" ∷ codes "1" ∷ w.code ∷ w.name ∷ codes "$end" ∷ []

abbrev pub time_line : ℕ → List (List ℕ)
time_line time = (hash ∷ decimal time) ∷ []

abbrev pub moment_lines : Moment → List (List (List ℕ))
moment_lines m = time_line m.time ∷ map change_line m.changes

-- the declarations, the values at time 0, and what changes later, each line by its words
abbrev pub dump_lines : Dump → List (List (List ℕ))
dump_lines d = (codes "$timescale" ∷ codes "1" ∷ codes "ns" ∷ codes "$end" ∷ [])
    ∷ (codes "$scope" ∷ codes "module" ∷ d.scope ∷ codes "$end" ∷ [])
    ∷ map wire_line d.wires
    ++ (codes "$upscope" ∷ codes "$end" ∷ [])
    ∷ (codes "$enddefinitions" ∷ codes "$end" ∷ [])
    ∷ time_line 0
    ∷ (codes "$dumpvars" ∷ [])
    ∷ map change_line d.starts
    ++ (codes "$end" ∷ [])
    ∷ flat_map moment_lines d.moments

abbrev pub dump_text : Dump → List ℕ
dump_text d = text_of (dump_lines d)
