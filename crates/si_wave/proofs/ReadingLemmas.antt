-- The value that a wave shows of a signal is the one that a run gives it.
use Rattle.std.proofs.Common.{◌≡◌, ℕ, zero, suc, ◌+◌, ◌<◌, ◌≤◌, not, Bool, true, false, List, [], ◌∷◌, ◌++◌, length}
use Rattle.std.proofs.Common.{map, filter, flat_map, take, nat_le, refl, sym, ap, ◌∙◌, arith, inl, inr}
use Rattle.std.proofs.lemmas.Bool.{cases_eq, le-leb, lt-leb}
use Rattle.si_base.specs.declared.graph.Signal.{Signal}
use Rattle.si_base.specs.declared.ids.Event.{Event}
use Rattle.si_base.specs.Bits.{bit, flip}
use Rattle.si_base.specs.Graph.{StateGraph}
use Rattle.si_base.specs.Netlist.{Netlist}
use Rattle.si_base.specs.System.{Fires, Runs, State, start}
use Rattle.si_base.proofs.BitFacts.{flip-same, flip-other}
use Rattle.si_wave.specs.Dump.{Change, Moment}
use Rattle.si_wave.specs.Wave.{change_of, moments_from, starts_from, wire_code}
use Rattle.si_wave.specs.Reading.{ShowsRuns, value_after}
use Rattle.si_wave.proofs.CodesOfWires.{other_code, same_code}

-- what changes at events
abbrev changes_of : List Event → List Change
changes_of es = map (λ e. change_of e.sig e.up) es

module _ (a : ℕ) where
  -- the value of signal a after changes
  abbrev after : Bool → List Change → Bool
  after v cs = value_after (wire_code a) v cs

  own : (v w : Bool) (rest : List Change) → after v (change_of a w ∷ rest) ≡ after w rest
  own v w rest = rw (same_code a) refl

  other : (b : ℕ) (v w : Bool) (rest : List Change) → (b ≡ a → ⊥)
      → after v (change_of b w ∷ rest) ≡ after v rest
  other b v w rest apart = rw (other_code a b apart) refl

  -- ---- the start values
  past : (signals : List Signal) (k values : ℕ) (v : Bool) (rest : List Change) → a < k
      → after v (starts_from k signals values ++ rest) ≡ after v rest
  past [] k values v rest before = refl
  past (x ∷ xs) k values v rest before =
      other k v (bit values k) (starts_from (k + 1) xs values ++ rest) (λ same. omega (arith, same))
      ∙ past xs (k + 1) values v rest (omega arith)

  pub start_value : (signals : List Signal) (k values : ℕ) (v : Bool) (rest : List Change) → k ≤ a
      → a < k + length signals → after v (starts_from k signals values ++ rest) ≡ after (bit values a) rest
  start_value [] k values v rest from within = absurd (omega arith)
  start_value (x ∷ xs) k values v rest from within = elim (cases_eq k a) [
    | inl same ↦
        let more = starts_from (k + 1) xs values ++ rest in
        ap (λ (j : ℕ). after v (change_of j (bit values j) ∷ more)) same
        ∙ own v (bit values a) more
        ∙ past xs (k + 1) values (bit values a) rest (omega arith)
    | inr apart ↦
        other k v (bit values k) (starts_from (k + 1) xs values ++ rest) apart
        ∙ start_value xs (k + 1) values v rest (omega arith) (omega arith)
  ]

  -- ---- the events
  fired_value : (g : StateGraph) (n : Netlist) (x : State) (e : Event) (z : State) → Fires g n x e z
      → (rest : List Change)
      → after (bit x.values a) (change_of e.sig e.up ∷ rest) ≡ after (bit z.values a) rest
  fired_value g n x e z fires rest = elim (cases_eq e.sig a) [
    | inl same ↦
        let now : bit z.values a ≡ e.up =
        ap (λ (v : ℕ). bit v a) fires.new_values
        ∙ ap (λ (j : ℕ). bit (flip x.values j) a) same
        ∙ flip-same x.values a
        ∙ ap not (ap (λ (j : ℕ). bit x.values j) (sym same) ∙ fires.old_value)
        ∙ twice e.up in
        ap (λ (j : ℕ). after (bit x.values a) (change_of j e.up ∷ rest)) same
        ∙ own (bit x.values a) e.up rest
        ∙ ap (λ (v : Bool). after v rest) (sym now)
    | inr apart ↦
        let now : bit z.values a ≡ bit x.values a =
        ap (λ (v : ℕ). bit v a) fires.new_values ∙ flip-other x.values e.sig a (λ same. apart (sym same)) in
        other e.sig (bit x.values a) e.up rest apart ∙ ap (λ (v : Bool). after v rest) (sym now)
  ]
    where
      twice : (b : Bool) → not (not b) ≡ b
      twice true = refl
      twice false = refl

  pub run_value : (g : StateGraph) (n : Netlist) (x : State) (es : List Event) (y : State) → Runs g n x es y
      → after (bit x.values a) (changes_of es) ≡ bit y.values a
  run_value g n x [] y runs = ap (λ (z : State). bit z.values a) runs
  run_value g n x (e ∷ es) y runs =
      fired_value g n x e runs.0 runs.1 (changes_of es) ∙ run_value g n runs.0 es y runs.2

-- ---- what changes up to a time
abbrev until : ℕ → List Moment → List Change
until time ms = flat_map (λ m. m.changes) (filter (λ m. nat_le m.time time) ms)

none_until : (es : List Event) (j time : ℕ) → time < j → until time (moments_from j es) ≡ []
none_until [] j time late = (let beyond : nat_le j time ≡ false = lt-leb j time late in rw beyond refl)
none_until (e ∷ es) j time late =
    let beyond : nat_le j time ≡ false = lt-leb j time late in
    rw beyond (none_until es (j + 1) time (omega arith))

pub some_until : (es : List Event) (j time count : ℕ) → time + 1 ≡ j + count → count ≤ length es
    → until time (moments_from j es) ≡ changes_of (take count es)
some_until es j time zero counted few = none_until es j time (omega arith)
some_until [] j time (suc count) counted few = absurd (omega arith)
some_until (e ∷ es) j time (suc count) counted few =
    let here : nat_le j time ≡ true = le-leb j time (omega arith) in
    rw here (ap (λ (cs : List Change). change_of e.sig e.up ∷ cs)
    (some_until es (j + 1) time count (omega arith) (omega arith)))

pub shows_runs : (n : Netlist) (events : List Event) → ShowsRuns n events
shows_runs n events g time x within runs sig there =
    let later = until time (moments_from 1 events) in
    start_value sig n.signals 0 n.start false later (omega arith) (omega arith)
    ∙ ap (λ (cs : List Change). value_after (wire_code sig) (bit n.start sig) cs)
    (some_until events 1 time time (omega arith) within)
    ∙ run_value sig g n (start g n) (take time events) x runs
