-- The graph of handshakes is proper, and its codes tell its states apart.
use Rattle.std.proofs.Common.{◌≡◌, ◌≢◌, ℕ, zero, suc, ◌+◌, ◌-◌, ◌*◌, ◌%◌, ◌^◌, ◌<◌, ◌≤◌, ◌⊎◌, Bool, true, false, []}
use Rattle.std.proofs.Common.{length, IsTrue, refl, sym, ap, ap₂, subst, ◌∙◌, arith, inl, inr}
use Rattle.std.proofs.lemmas.Bool.{cases_eq, cases_lt}
use Rattle.si_base.specs.declared.ids.Event.{Event}
use Rattle.si_base.specs.Bits.{bit}
use Rattle.si_base.specs.Graph.{StateGraph, Step, IsReachable, rise, fall, enables}
use Rattle.si_base.specs.GivenGraph.{Sg}
use Rattle.si_base.specs.Codes.{AreValues, HasValues, IsConsistent, IsDeterministic, IsConnected, CodedGraph, IsCoded}
use Rattle.si_base.specs.Codes.{IsIdle, code}
use Rattle.si_base.specs.Proper.{IsProper, HasNoConflict}
use Rattle.si_base.proofs.GraphSteps.{enables-step, step_from_enables}
use Rattle.si_base.proofs.StepCodes.{step_within}
use Rattle.si_base.proofs.CodesUnique.{value_unique}
use Rattle.si_graph.proofs.SearchLemmas.{reachable-step}
use Rattle.si_handshakes.specs.Handshakes.{phase, request, acknowledgement, ending, GoesOn, IsHandshakes}
use Rattle.si_handshakes.specs.Handshakes.{HasValuesOfPhases}
use Rattle.si_handshakes.proofs.DigitLemmas.{phase_below, power_pos, lowest, later, same_digits, some_digit, put}
use Rattle.si_handshakes.proofs.DigitLemmas.{put_same, put_other, put_below, put_is}
use Rattle.si_handshakes.proofs.NamesNumbered.{twice_as_many}
use Rattle.si_handshakes.proofs.HandshakePhases.{same_handshake, request_rises, request_falls, acknowledgement_rises}
use Rattle.si_handshakes.proofs.HandshakePhases.{acknowledgement_falls, request_rests, acknowledgement_rests, goes_on}
use Rattle.si_handshakes.proofs.HandshakePhases.{target_below, same_target}

-- a step, by what goes on
pub record Goes (n m : ℕ) (e : Event) (t : ℕ) : Type 0 where
  pub from : m < 4 ^ n
  pub to : t < 4 ^ n
  pub step : GoesOn n m e t

-- two events of steps from any two states that are one belong to one handshake
one_handshake : (n m k : ℕ) (e : Event) (t u : ℕ) (g : GoesOn n m e t) (h : GoesOn n k e u) → g.handshake ≡ h.handshake
one_handshake n m k e t u g h =
    same_handshake n g.handshake h.handshake (phase m g.handshake) (phase k h.handshake) g.within h.within
    (phase_below m g.handshake) (phase_below k h.handshake) (ap (λ (x : Event). x.sig) (sym g.event ∙ h.event))

-- what a step does to each phase
after : (n m : ℕ) (e : Event) (t k : ℕ) (g : GoesOn n m e t) → ((k ≡ g.handshake) × (phase t k ≡ (phase m k + 1) % 4))
    ⊎ ((k ≢ g.handshake) × (phase t k ≡ phase m k))
after n m e t k g = elim (cases_eq k g.handshake) [
  | inl same ↦ inl (same, subst (λ j. phase t j ≡ (phase m j + 1) % 4) (sym same) g.next)
  | inr other ↦ inr (other, g.others k other)
]

-- the phases of the handshake that goes on
moved : (n m : ℕ) (e : Event) (t a p : ℕ) (g : GoesOn n m e t) → g.handshake ≡ a → phase m g.handshake ≡ p
    → (phase m a ≡ p) × (phase t a ≡ (p + 1) % 4)
moved n m e t a p g same at =
    (subst (λ j. phase m j ≡ p) same at, subst (λ j. phase t j ≡ (p + 1) % 4) same (g.next ∙ ap (λ q. (q + 1) % 4) at))

-- a value that is the same in the next phase
same_value : (v : ℕ → Bool) (p r : ℕ) → p ≡ r → v ((r + 1) % 4) ≡ v r → v ((p + 1) % 4) ≡ v p
same_value v p r at same = ap (λ x. v ((x + 1) % 4)) at ∙ same ∙ sym (ap v at)

-- ---- deterministic, commutative
one_target : (n m : ℕ) (e : Event) (t u : ℕ) → Goes n m e t → Goes n m e u → t ≡ u
one_target n m e t u one other =
    let g = one.step in
    let h = other.step in
    let same : h.handshake ≡ g.handshake = one_handshake n m m e u t h g in
    let next : phase u g.handshake ≡ (phase m g.handshake + 1) % 4 =
    subst (λ j. phase u j ≡ (phase m j + 1) % 4) same h.next in
    same_target n m g.handshake t u one.to other.to g.next next g.others
    (λ k differs. h.others k (λ equal. differs (equal ∙ same)))

-- two handshakes go on in either order
square : (n s : ℕ) (a c : Event) (t w u w2 k : ℕ) → (first : GoesOn n s a t) → (then : GoesOn n t c w)
    → (other : GoesOn n s c u) → (last : GoesOn n u a w2) → first.handshake ≢ other.handshake → phase w k ≡ phase w2 k
square n s a c t w u w2 k first then other last apart =
    let c_is : then.handshake ≡ other.handshake = one_handshake n t s c w u then other in
    let a_is : last.handshake ≡ first.handshake = one_handshake n u s a w2 t last first in
    elim (after n s a t k first) [
      | inl one ↦ elim (after n t c w k then) [
        | inl both ↦ absurd (apart (sym one.0 ∙ both.0 ∙ c_is))
        | inr alone ↦ elim (after n s c u k other) [
          | inl both ↦ absurd (apart (sym one.0 ∙ both.0))
          | inr rests ↦ elim (after n u a w2 k last) [
            | inl goes ↦ alone.1 ∙ one.1 ∙ ap (λ p. (p + 1) % 4) (sym rests.1) ∙ sym goes.1
            | inr stays ↦ absurd (stays.0 (one.0 ∙ sym a_is))
          ]
        ]
      ]
      | inr one ↦ elim (after n u a w2 k last) [
        | inl goes ↦ absurd (one.0 (goes.0 ∙ a_is))
        | inr stays ↦ elim (after n s c u k other) [
          | inl moves ↦ elim (after n t c w k then) [
            | inl both ↦ both.1 ∙ ap (λ p. (p + 1) % 4) one.1 ∙ sym moves.1 ∙ sym stays.1
            | inr rests ↦ absurd (rests.0 (moves.0 ∙ sym c_is))
          ]
          | inr rests ↦ elim (after n t c w k then) [
            | inl moves ↦ absurd (rests.0 (moves.0 ∙ c_is))
            | inr both ↦ both.1 ∙ one.1 ∙ sym rests.1 ∙ sym stays.1
          ]
        ]
      ]
    ]

-- no handshake has begun at the state 0
none_at_zero : (i : ℕ) → phase 0 i ≡ 0
none_at_zero zero = lowest 0
none_at_zero (suc i) = later 0 i ∙ none_at_zero i

-- one phase back is an earlier state
earlier : (s i : ℕ) → 0 < phase s i → put i s (phase s i - 1) < s
earlier s i some =
    let d : ℕ = phase s i - 1 in
    let more : phase s i ≡ d + 1 = omega (arith, some) in
    let is : put i s d + phase s i * 4 ^ i ≡ s + d * 4 ^ i = put_is i s d in
    let also : put i s d + (d + 1) * 4 ^ i ≡ s + d * 4 ^ i =
    subst (λ p. put i s d + p * 4 ^ i ≡ s + d * 4 ^ i) more is in
    omega (arith, also, power_pos i)

-- the values of request and acknowledgement tell the phase
decode : Bool → Bool → ℕ
decode true true = 2
decode true false = 1
decode false true = 3
decode false false = 0

decoded : (p : ℕ) → p < 4 → decode (request p) (acknowledgement p) ≡ p
unfolding decode
decoded zero small = refl
decoded (suc zero) small = refl
decoded (suc (suc zero)) small = refl
decoded (suc (suc (suc zero))) small = refl
decoded (suc (suc (suc (suc p)))) small = absurd (omega arith)

same_phase : (p q : ℕ) → p < 4 → q < 4 → request p ≡ request q → acknowledgement p ≡ acknowledgement q → p ≡ q
same_phase p q small also requests acknowledgements =
    sym (decoded p small) ∙ ap₂ decode requests acknowledgements ∙ decoded q also

module _ (n : ℕ) (sg : Sg) (is : IsHandshakes n sg) where
  goes : (m : ℕ) (e : Event) (t : ℕ) → Step sg.graph m e t → Goes n m e t
  goes m e t step = let h = (is.steps m e t).0 step in record { from = h.0; to = h.1; step = h.2 }

  -- a step by what ends a phase
  step_by : (m i : ℕ) (e : Event) → i < n → m < 4 ^ n → ending n i (phase m i) ≡ e
      → Step sg.graph m e (put i m ((phase m i + 1) % 4))
  step_by m i e within below event =
      let At : Event → Type 0 = λ x. GoesOn n m x (put i m ((phase m i + 1) % 4)) in
      (is.steps m e (put i m ((phase m i + 1) % 4))).1
      (below, target_below n m i within below, subst At event (goes_on n m i within))

  -- the step that leads to s by the handshake i, which isn't at rest there
  back_step : (s i : ℕ) → s < 4 ^ n → i < n → 0 < phase s i
      → Step sg.graph (put i s (phase s i - 1)) (ending n i (phase (put i s (phase s i - 1)) i)) s
  back_step s i below within some =
      let d : ℕ = phase s i - 1 in
      let small : d < 4 = omega (arith, phase_below s i) in
      let m : ℕ = put i s d in
      let at : phase m i ≡ d = put_same i s d small in
      (is.steps m (ending n i (phase m i)) s).1 (
        put_below i n s d small within below,
        below,
        record {
          handshake = i;
          within = within;
          event = refl;
          next = omega (arith, at, phase_below s i);
          others = λ k other. sym (put_other i s d k small other);
        },
      )

  -- a signal has one value at each state
  told : (c : CodedGraph) → c.graph ≡ sg.graph → IsCoded c → (a : ℕ) (v : ℕ → Bool) (s : ℕ)
      → a < length c.graph.signals → s < c.graph.states → AreValues sg.graph a v → bit (code c s) a ≡ v s
  told c same coded a v s there within values =
      value_unique c.graph a (λ k. bit (code c k) a) v s coded.connected
      (λ p f q step. (step_within c.graph p f q coded.graph_is step).0) (coded.values a there)
      (subst (λ (g : StateGraph). AreValues g a v) (sym same) values) within

  deterministic : IsDeterministic sg.graph
  deterministic s e t u one other = one_target n s e t u (goes s e t one) (goes s e u other)

  commutes : (s : ℕ) (a c : Event) (t w u w2 : ℕ) → Step sg.graph s a t → Step sg.graph t c w → Step sg.graph s c u
      → Step sg.graph u a w2 → w ≡ w2
  commutes s a c t w u w2 first then other last =
      let g = (goes s a t first).step in
      let h = (goes s c u other).step in
      elim (cases_eq g.handshake h.handshake) [
        | inl same ↦
            (let event : c ≡ a =
            h.event ∙ sym (g.event ∙ ap (λ i. ending n i (phase s i)) same) in
            let At : Event → Type 0 = λ e. Step sg.graph s e u in
            let Then : Event → Type 0 = λ e. Step sg.graph t e w in
            let target : t ≡ u = deterministic s a t u first (subst At event other) in
            let On : ℕ → Type 0 = λ v. Step sg.graph v a w in
            deterministic u a w w2 (subst On target (subst Then event then)) last)
        | inr apart ↦
            same_digits n w w2 (goes t c w then).to (goes u a w2 last).to
            (λ k within. square n s a c t w u w2 k g (goes t c w then).step h (goes u a w2 last).step apart)
      ]

  -- ---- persistent
  stays_enabled : (s : ℕ) (e f : Event) (t : ℕ) → IsTrue (enables sg.graph s e) → Step sg.graph s f t → e ≢ f
      → IsTrue (enables sg.graph t e)
  stays_enabled s e f t enabled step other =
      let found = step_from_enables sg.graph s e enabled in
      let g = (goes s e found.0 found.1).step in
      let by = goes s f t step in
      let i = g.handshake in
      let rests : phase t i ≡ phase s i = elim (after n s f t i by.step) [
        | inl same ↦ absurd (other (g.event ∙ ap (λ j. ending n j (phase s j)) same.0 ∙ sym by.step.event))
        | inr rest ↦ rest.1
      ] in
      let event : ending n i (phase t i) ≡ e = ap (ending n i) rests ∙ sym g.event in
      let next : ℕ = put i t ((phase t i + 1) % 4) in
      let At : Event → Type 0 = λ x. GoesOn n t x next in
      let again : Step sg.graph t e next =
      (is.steps t e next).1 (by.to, target_below n t i g.within by.to, subst At event (goes_on n t i g.within)) in
      enables-step sg.graph t e next again

  -- ---- consistent
  -- the phases of the handshake a around an event that only ends its phase p
  phases_at : (e : Event) (a p s t : ℕ)
      → ((i q : ℕ) → i < n → q < 4 → e ≡ ending n i q → (i ≡ a) × (q ≡ p))
      → Step sg.graph s e t → (phase s a ≡ p) × (phase t a ≡ (p + 1) % 4)
  phases_at e a p s t only step =
      let g = (goes s e t step).step in
      let i = g.handshake in
      let at = only i (phase s i) g.within (phase_below s i) g.event in
      moved n s e t a p g at.0 at.1

  -- a signal that rises and falls where two phases of the handshake a end has values by the phase
  switches : (z a : ℕ) (v : ℕ → Bool) (up down : ℕ)
      → ((i p : ℕ) → i < n → p < 4 → rise z ≡ ending n i p → (i ≡ a) × (p ≡ up))
      → ((i p : ℕ) → i < n → p < 4 → fall z ≡ ending n i p → (i ≡ a) × (p ≡ down))
      → (v up ≡ false) × (v ((up + 1) % 4) ≡ true) → (v down ≡ true) × (v ((down + 1) % 4) ≡ false)
      → ((p : ℕ) → p < 4 → (ending n a p).sig ≢ z → v ((p + 1) % 4) ≡ v p)
      → (IsIdle sg.graph z → (s : ℕ) → s < sg.graph.states → v (phase s a) ≡ false)
      → AreValues sg.graph z (λ s. v (phase s a))
  switches z a v up down at_rise at_fall risen fallen rests never = record {
    rises = λ s t step.
        (let phases = phases_at (rise z) a up s t at_rise step in
        (ap v phases.0 ∙ risen.0, ap v phases.1 ∙ risen.1));
    falls = λ s t step.
        (let phases = phases_at (fall z) a down s t at_fall step in
        (ap v phases.0 ∙ fallen.0, ap v phases.1 ∙ fallen.1));
    keeps = λ s t e other step.
        (let g = (goes s e t step).step in
        elim (after n s e t a g) [
          | inr stays ↦ ap v stays.1
          | inl moves ↦
              (let event : (ending n a (phase s a)).sig ≡ e.sig =
              ap (λ j. (ending n j (phase s j)).sig) moves.0 ∙ ap (λ (x : Event). x.sig) (sym g.event) in
              ap v moves.1 ∙ rests (phase s a) (phase_below s a) (λ same. other (sym event ∙ same)))
        ]);
    idle = never;
  }

  requests_switch : (a : ℕ) → a < n → AreValues sg.graph a (λ s. request (phase s a))
  requests_switch a within = switches a a request 0 2
      (λ i p there small event. request_rises n i a p there within small event)
      (λ i p there small event. request_falls n i a p there within small event) (refl, refl) (refl, refl)
      (λ p small other. elim (request_rests n a p small other) [
        | inl second ↦ same_value request p 1 second refl
        | inr last ↦ same_value request p 3 last refl
      ])
      (λ idle s below. absurd (idle 0 (rise a) (put a 0 ((phase 0 a + 1) % 4))
      (step_by 0 a (rise a) within (power_pos n) (ap (ending n a) (none_at_zero a))) refl))

  acknowledgements_switch : (a : ℕ) → a < n → AreValues sg.graph (n + a) (λ s. acknowledgement (phase s a))
  acknowledgements_switch a within = switches (n + a) a acknowledgement 1 3
      (λ i p there small event. acknowledgement_rises n i a p there within small event)
      (λ i p there small event. acknowledgement_falls n i a p there within small event) (refl, refl) (refl, refl)
      (λ p small other. elim (acknowledgement_rests n a p small other) [
        | inl first ↦ same_value acknowledgement p 0 first refl
        | inr third ↦ same_value acknowledgement p 2 third refl
      ])
      (λ idle s below.
      (let m : ℕ = put a 0 1 in
      let at : phase m a ≡ 1 = put_same a 0 1 (omega arith) in
      let inside : m < 4 ^ n = put_below a n 0 1 (omega arith) within (power_pos n) in
      absurd (idle m (rise (n + a)) (put a m ((phase m a + 1) % 4))
      (step_by m a (rise (n + a)) within inside (ap (ending n a) at)) refl)))

  as_many_signals : length sg.graph.signals ≡ n + n
  as_many_signals = ap length is.signals ∙ twice_as_many n

  consistent : IsConsistent sg.graph
  consistent a there = elim (cases_lt a n) [
    | inl low ↦ ((λ s. request (phase s a)), requests_switch a low)
    | inr high ↦
        (let back : n + (a - n) ≡ a = omega arith in
        let within : a - n < n = omega (arith, as_many_signals) in
        subst (λ z. HasValues sg.graph z) back
        ((λ s. acknowledgement (phase s (a - n))), acknowledgements_switch (a - n) within))
  ]

  -- ---- connected
  reaches : (most s : ℕ) → s ≤ most → s < 4 ^ n → IsReachable sg.graph s
  reaches zero s least below = ([], is.start ∙ omega arith)
  reaches (suc most) s least below = elim (cases_eq s 0) [
    | inl same ↦ ([], is.start ∙ sym same)
    | inr some ↦
        (let digit = some_digit n s below (omega arith) in
        let i = digit.0 in
        let d : ℕ = phase s i - 1 in
        let small : d < 4 = omega (arith, phase_below s i) in
        let m : ℕ = put i s d in
        let inside : m < 4 ^ n = put_below i n s d small digit.1 below in
        let step : Step sg.graph m (ending n i (phase m i)) s = back_step s i below digit.1 digit.2 in
        reachable-step sg.graph m s (ending n i (phase m i))
        (reaches most m (omega (arith, earlier s i digit.2, least)) inside) step)
  ]

  pub connected : IsConnected sg.graph
  connected s there = reaches s s (omega arith) (omega (arith, is.count))

  -- ---- codes
  pub values_of_phases : (c : CodedGraph) → c.graph ≡ sg.graph → IsCoded c → HasValuesOfPhases n c
  values_of_phases c same coded =
      let signals : length c.graph.signals ≡ n + n =
      ap (λ (g : StateGraph). length g.signals) same ∙ as_many_signals in
      let states : c.graph.states ≡ 4 ^ n = ap (λ (g : StateGraph). g.states) same ∙ is.count in
      record {
        requests = λ m i below within.
            told c same coded i (λ s. request (phase s i)) m (omega (arith, signals)) (omega (arith, states))
            (requests_switch i within);
        acknowledgements = λ m i below within.
            told c same coded (n + i) (λ s. acknowledgement (phase s i)) m (omega (arith, signals))
            (omega (arith, states)) (acknowledgements_switch i within);
      }

  pub no_conflict : (c : CodedGraph) → c.graph ≡ sg.graph → IsCoded c → HasNoConflict c
  no_conflict c same coded pair conflict =
      let values = values_of_phases c same coded in
      let states : c.graph.states ≡ 4 ^ n = ap (λ (g : StateGraph). g.states) same ∙ is.count in
      let second : pair.1 < 4 ^ n = omega (arith, conflict.within, states) in
      let first : pair.0 < 4 ^ n = omega (arith, conflict.order, second) in
      let equal : pair.0 ≡ pair.1 = same_digits n pair.0 pair.1 first second (λ k within.
      same_phase (phase pair.0 k) (phase pair.1 k) (phase_below pair.0 k) (phase_below pair.1 k)
      (sym (values.requests pair.0 k first within) ∙ ap (λ x. bit x k) conflict.same_code
      ∙ values.requests pair.1 k second within)
      (sym (values.acknowledgements pair.0 k first within) ∙ ap (λ x. bit x (n + k)) conflict.same_code
      ∙ values.acknowledgements pair.1 k second within)) in
      omega (arith, conflict.order, equal)

  pub proper : IsProper sg.graph
  proper = record {
    deterministic = deterministic;
    consistent = consistent;
    commutative = commutes;
    persistent = λ s e f t driven. stays_enabled s e f t;
  }
