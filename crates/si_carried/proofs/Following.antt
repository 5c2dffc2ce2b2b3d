-- Schedules follow walks, and walks are what is seen of schedules.
use Rattle.std.proofs.Common.{◌≡◌, ℕ, not, Bool, true, false, List, [], ◌∷◌, ◌++◌, refl, sym, ap, subst, ◌∙◌}
use Rattle.std.proofs.Common.{slice_get, Option, Some, None, IsSome, inl, inr, unwrap_or, option_map}
use Rattle.std.proofs.lemmas.Bool.{true≢false, cases_Bool}
use Rattle.std.proofs.lemmas.List.Elements.{recursion_from_All}
use Rattle.std.specs.List.{AllByRecursion}
use Rattle.si_base.specs.declared.ids.Event.{Event}
use Rattle.si_base.specs.declared.graph.Signal.{Signal}
use Rattle.si_base.specs.declared.graph.SigKind.{SigKind}
use Rattle.si_base.specs.declared.graph.SigKind.TheVariants.{Input, Output, Internal, Inserted}
use Rattle.si_base.specs.Graph.{StateGraph, Step, Walk, IsReachable}
use Rattle.si_base.specs.Codes.{CodedGraph, code, IsCoded}
use Rattle.si_base.specs.Bits.{bit}
use Rattle.si_base.specs.Netlist.{Netlist}
use Rattle.si_base.specs.System.{State, Fires, Runs, IsReached, start, is_inserted}
use Rattle.si_base.specs.Behaviour.{IsHidden, Implements}
use Rattle.si_base.proofs.StepCodes.{step_within, turns}
use Rattle.si_carried.specs.Always.{is_hidden, seen}

-- ---- schedules and walks, one behind another
pub runs_on : (g : StateGraph) (n : Netlist) (x : State) (es : List Event) (y : State) (fs : List Event) (z : State)
    → Runs g n x es y → Runs g n y fs z → Runs g n x (es ++ fs) z
runs_on g n x [] y fs z one other = let P : State → Type 0 = λ w. Runs g n w fs z in subst P (sym one) other
runs_on g n x (e ∷ es) y fs z one other = (one.0, one.1, runs_on g n one.0 es y fs z one.2 other)

pub reached_on : (g : StateGraph) (n : Netlist) (x : State) (es : List Event) (y : State) → IsReached g n x
    → Runs g n x es y → IsReached g n y
reached_on g n x es y reached runs = (reached.0 ++ es, runs_on g n (start g n) reached.0 x es y reached.1 runs)

pub reached_next : (g : StateGraph) (n : Netlist) (x : State) (e : Event) (y : State) → IsReached g n x
    → Fires g n x e y → IsReached g n y
reached_next g n x e y reached fires = reached_on g n x (e ∷ []) y reached (y, fires, refl)

-- ---- hidden events, as a test
kind_hidden : (kind : SigKind) → is_inserted kind ≡ true → kind ≡ Inserted
kind_hidden Input h = absurd (true≢false (sym h))
kind_hidden Output h = absurd (true≢false (sym h))
kind_hidden Internal h = absurd (true≢false (sym h))
kind_hidden Inserted h = refl

hidden_word : (o : Option Signal) (x : Signal) → o ≡ Some x
    → unwrap_or (option_map (λ (y : Signal). is_inserted y.kind) o) false ≡ is_inserted x.kind
hidden_word o x h = rw h refl

pub hidden_is : (n : Netlist) (e : Event) → IsHidden n e → is_hidden n e ≡ true
hidden_is n e h = hidden_word (slice_get n.signals e.sig) h.0 h.1 ∙ ap is_inserted h.2

pub hidden_if : (n : Netlist) (e : Event) (x : Signal) → slice_get n.signals e.sig ≡ Some x → is_hidden n e ≡ true
    → IsHidden n e
hidden_if n e x named h =
    (x, named, kind_hidden x.kind (sym (hidden_word (slice_get n.signals e.sig) x named) ∙ h))

pub given_not : (n : Netlist) (e : Event) → is_hidden n e ≡ false → IsHidden n e → ⊥
given_not n e h hidden = true≢false (sym (hidden_is n e hidden) ∙ h)

pub not_given : (n : Netlist) (e : Event) → (IsHidden n e → ⊥) → (x : Signal) → slice_get n.signals e.sig ≡ Some x
    → is_hidden n e ≡ false
not_given n e other x named = elim (cases_Bool (is_hidden n e)) [
  | inl h ↦ absurd (other (hidden_if n e x named h))
  | inr h ↦ h
]

seen_hidden : (n : Netlist) (e : Event) (es : List Event) → is_hidden n e ≡ true → seen n (e ∷ es) ≡ seen n es
seen_hidden n e es h = rw h refl

seen_given : (n : Netlist) (e : Event) (es : List Event) → is_hidden n e ≡ false → seen n (e ∷ es) ≡ e ∷ seen n es
seen_given n e es h = rw h refl

-- ---- what is seen of a schedule
pub runs_walk : (g : StateGraph) (n : Netlist) (x y : State) (s : ℕ) (es : List Event) → Implements n g
    → IsReached g n x → x.place ≡ Some s → Runs g n x es y → (t : ℕ) × (y.place ≡ Some t) × Walk g s (seen n es) t
runs_walk g n x y s [] is reached place runs =
    let P : State → Type 0 = λ z. z.place ≡ Some s in (s, subst P runs place, refl)
runs_walk g n x y s (e ∷ es) is reached place runs =
    let z = runs.0 in
    let next = reached_next g n x e z reached runs.1 in
    elim (cases_Bool (is_hidden n e)) [
      | inl h ↦ (
          let hidden = hidden_if n e runs.1.signal runs.1.named h in
          let stays = is.bisimilar.hidden_stays x z e reached runs.1 hidden in
          let rest = runs_walk g n z y s es is next (stays ∙ place) runs.2 in
          let P : List Event → Type 0 = λ fs. Walk g s fs rest.0 in
          (rest.0, rest.1, subst P (sym (seen_hidden n e es h)) rest.2)
          )
      | inr h ↦ (
          let step = is.bisimilar.same_step x z e s reached runs.1 place (given_not n e h) in
          let rest = runs_walk g n z y step.0 es is next step.1 runs.2 in
          let P : List Event → Type 0 = λ fs. Walk g s fs rest.0 in
          (rest.0, rest.1, subst P (sym (seen_given n e es h)) (step.0, step.2, rest.2))
          )
    ]

pub place_of : (g : StateGraph) (n : Netlist) (x : State) → Implements n g → IsReached g n x
    → (s : ℕ) × (x.place ≡ Some s) × IsReachable g s
place_of g n x is reached =
    let at = runs_walk g n (start g n) x g.start reached.0 is ([], refl) refl reached.1 in
    (at.0, at.1, (seen n reached.0, at.2))

-- ---- schedules for walks
seen_all : (n : Netlist) (es fs : List Event) → AllByRecursion (IsHidden n) es → seen n (es ++ fs) ≡ seen n fs
seen_all n [] fs all = refl
seen_all n (e ∷ es) fs all = seen_hidden n e (es ++ fs) (hidden_is n e all.0) ∙ seen_all n es fs all.1

-- hidden events leave the place
stays_on : (g : StateGraph) (n : Netlist) (x : State) (es : List Event) (y : State) → Implements n g
    → IsReached g n x → AllByRecursion (IsHidden n) es → Runs g n x es y → y.place ≡ x.place
stays_on g n x [] y is reached all runs = ap (λ (z : State). z.place) (sym runs)
stays_on g n x (e ∷ es) y is reached all runs =
    stays_on g n runs.0 es y is (reached_next g n x e runs.0 reached runs.1) all.1 runs.2
    ∙ is.bisimilar.hidden_stays x runs.0 e reached runs.1 all.0

-- no arc of a coded graph stays
bool_turns : (b : Bool) → b ≡ not b → ⊥
bool_turns true h = true≢false h
bool_turns false h = true≢false (sym h)

no_loop : (c : CodedGraph) (s : ℕ) (e : Event) → IsCoded c → Step c.graph s e s → ⊥
no_loop c s e is step =
    let parts = step_within c.graph s e s is.graph_is step in
    bool_turns (bit (code c s) e.sig)
    (turns c.graph e.sig (λ a. bit (code c a) e.sig) s s e.up (is.values e.sig parts.1) step)

some_same : (a b : ℕ) (o : Option ℕ) → o ≡ Some a → o ≡ Some b → a ≡ b
some_same a b o p q = cc

-- the event by which a schedule follows the graph isn't hidden
pub follows_given : (c : CodedGraph) (n : Netlist) (y z : State) (e : Event) (s t : ℕ) → IsCoded c
    → Implements n c.graph → IsReached c.graph n y → y.place ≡ Some s → Step c.graph s e t → Fires c.graph n y e z
    → z.place ≡ Some t → is_hidden n e ≡ false
follows_given c n y z e s t is imp reached place step fires after =
    not_given n e (λ hidden. (
    let stays = imp.bisimilar.hidden_stays y z e reached fires hidden in
    let same : t ≡ s = some_same t s z.place after (stays ∙ place) in
    let P : ℕ → Type 0 = λ u. Step c.graph s e u in
    no_loop c s e is (subst P same step))) fires.signal fires.named

pub walk_runs : (c : CodedGraph) (n : Netlist) (x : State) (s : ℕ) (es : List Event) (t : ℕ) → IsCoded c
    → Implements n c.graph → IsReached c.graph n x → x.place ≡ Some s → Walk c.graph s es t
    → (fs : List Event) × (y : State) × Runs c.graph n x fs y × (y.place ≡ Some t) × (seen n fs ≡ es)
walk_runs c n x s [] t is imp reached place walk =
    ([], x, refl, place ∙ ap Some walk, refl)
walk_runs c n x s (e ∷ es) t is imp reached place walk =
    let g = c.graph in
    let f = imp.bisimilar.can_follow x s walk.0 e reached place walk.1 in
    let hidden = recursion_from_All (IsHidden n) f.0 f.1 in
    let y = f.3 in
    let z = f.5 in
    let at_y = reached_on g n x f.0 y reached f.4 in
    let y_place = stays_on g n x f.0 y imp reached hidden f.4 ∙ place in
    let given = follows_given c n y z e s walk.0 is imp at_y y_place walk.1 f.6 f.7 in
    let at_z = reached_next g n y e z at_y f.6 in
    let rest = walk_runs c n z walk.0 es t is imp at_z f.7 walk.2 in (
      f.0 ++ e ∷ rest.0,
      rest.1,
      runs_on g n x f.0 y (e ∷ rest.0) rest.1 f.4 (z, f.6, rest.2),
      rest.3,
      seen_all n f.0 (e ∷ rest.0) hidden ∙ seen_given n e rest.0 given ∙ ap (λ (l : List Event). e ∷ l) rest.4,
    )
