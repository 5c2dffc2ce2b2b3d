-- What the steps of handshakes are: which event ends which phase, and which state a step leads to.
use Rattle.std.proofs.Common.{◌≡◌, ◌≢◌, ℕ, ◌+◌, ◌%◌, ◌^◌, ◌<◌, ◌⊎◌, refl, sym, ap, subst, ◌∙◌, arith, inl, inr}
use Rattle.std.proofs.lemmas.Bool.{cases_eq, true≢false, false≢true}
use Rattle.si_base.specs.declared.ids.Event.{Event}
use Rattle.si_base.specs.Graph.{rise, fall}
use Rattle.si_handshakes.specs.Handshakes.{phase, ending, GoesOn}
use Rattle.si_handshakes.proofs.DigitLemmas.{same_digits, put, put_same, put_other, put_below}

-- ---- the event that ends a phase
pub data Ends (n i p : ℕ) : Type 0 where
  First : p ≡ 0 → ending n i p ≡ rise i → Ends n i p
  Second : p ≡ 1 → ending n i p ≡ rise (n + i) → Ends n i p
  Third : p ≡ 2 → ending n i p ≡ fall i → Ends n i p
  Last : p ≡ 3 → ending n i p ≡ fall (n + i) → Ends n i p

pub ends : (n i p : ℕ) → p < 4 → Ends n i p
ends n i p small = elim (cases_eq p 0) [
  | inl first ↦ First first (rw first refl)
  | inr not_first ↦ elim (cases_eq p 1) [
    | inl second ↦ Second second (rw second refl)
    | inr not_second ↦ elim (cases_eq p 2) [
      | inl third ↦ Third third (rw third refl)
      | inr not_third ↦ (let last : p ≡ 3 = omega arith in Last last (rw last refl))
    ]
  ]
]

same_sig : (e f g : Event) → e ≡ f → e ≡ g → f.sig ≡ g.sig
same_sig e f g one other = ap (λ (x : Event). x.sig) (sym one ∙ other)

same_up : (e f g : Event) → e ≡ f → e ≡ g → f.up ≡ g.up
same_up e f g one other = ap (λ (x : Event). x.up) (sym one ∙ other)

-- its signal is the handshake's request or acknowledgement
pub its_signal : (n i p : ℕ) → p < 4 → ((ending n i p).sig ≡ i) ⊎ ((ending n i p).sig ≡ n + i)
its_signal n i p small = elim (ends n i p small) [
  | First at is ↦ inl (ap (λ (x : Event). x.sig) is)
  | Second at is ↦ inr (ap (λ (x : Event). x.sig) is)
  | Third at is ↦ inl (ap (λ (x : Event). x.sig) is)
  | Last at is ↦ inr (ap (λ (x : Event). x.sig) is)
]

pub same_handshake : (n i j p q : ℕ) → i < n → j < n → p < 4 → q < 4 → (ending n i p).sig ≡ (ending n j q).sig → i ≡ j
same_handshake n i j p q within also small below same = elim (its_signal n i p small) [
  | inl request ↦ elim (its_signal n j q below) [ inl r ↦ omega arith | inr a ↦ absurd (omega arith) ]
  | inr acknowledgement ↦ elim (its_signal n j q below) [ inl r ↦ absurd (omega arith) | inr a ↦ omega arith ]
]

pub request_rises : (n i a p : ℕ) → i < n → a < n → p < 4 → rise a ≡ ending n i p → (i ≡ a) × (p ≡ 0)
request_rises n i a p within there small event = elim (ends n i p small) [
  | First at is ↦ (same_sig _ _ _ is (sym event), at)
  | Second at is ↦ (let same : n + i ≡ a = same_sig _ _ _ is (sym event) in absurd (omega arith))
  | Third at is ↦ absurd (false≢true (same_up _ _ _ is (sym event)))
  | Last at is ↦ absurd (false≢true (same_up _ _ _ is (sym event)))
]

pub request_falls : (n i a p : ℕ) → i < n → a < n → p < 4 → fall a ≡ ending n i p → (i ≡ a) × (p ≡ 2)
request_falls n i a p within there small event = elim (ends n i p small) [
  | First at is ↦ absurd (true≢false (same_up _ _ _ is (sym event)))
  | Second at is ↦ absurd (true≢false (same_up _ _ _ is (sym event)))
  | Third at is ↦ (same_sig _ _ _ is (sym event), at)
  | Last at is ↦ (let same : n + i ≡ a = same_sig _ _ _ is (sym event) in absurd (omega arith))
]

pub acknowledgement_rises : (n i a p : ℕ) → i < n → a < n → p < 4 → rise (n + a) ≡ ending n i p → (i ≡ a) × (p ≡ 1)
acknowledgement_rises n i a p within there small event = elim (ends n i p small) [
  | First at is ↦ (let same : i ≡ n + a = same_sig _ _ _ is (sym event) in absurd (omega arith))
  | Second at is ↦ (let same : n + i ≡ n + a = same_sig _ _ _ is (sym event) in (omega arith, at))
  | Third at is ↦ absurd (false≢true (same_up _ _ _ is (sym event)))
  | Last at is ↦ absurd (false≢true (same_up _ _ _ is (sym event)))
]

pub acknowledgement_falls : (n i a p : ℕ) → i < n → a < n → p < 4 → fall (n + a) ≡ ending n i p → (i ≡ a) × (p ≡ 3)
acknowledgement_falls n i a p within there small event = elim (ends n i p small) [
  | First at is ↦ absurd (true≢false (same_up _ _ _ is (sym event)))
  | Second at is ↦ absurd (true≢false (same_up _ _ _ is (sym event)))
  | Third at is ↦ (let same : i ≡ n + a = same_sig _ _ _ is (sym event) in absurd (omega arith))
  | Last at is ↦ (let same : n + i ≡ n + a = same_sig _ _ _ is (sym event) in (omega arith, at))
]

-- an event of another signal than the request is one of the acknowledgement, and the other way round
pub request_rests : (n a p : ℕ) → p < 4 → (ending n a p).sig ≢ a → (p ≡ 1) ⊎ (p ≡ 3)
request_rests n a p small other = elim (ends n a p small) [
  | First at is ↦ absurd (other (ap (λ (x : Event). x.sig) is))
  | Second at is ↦ inl at
  | Third at is ↦ absurd (other (ap (λ (x : Event). x.sig) is))
  | Last at is ↦ inr at
]

pub acknowledgement_rests : (n a p : ℕ) → p < 4 → (ending n a p).sig ≢ n + a → (p ≡ 0) ⊎ (p ≡ 2)
acknowledgement_rests n a p small other = elim (ends n a p small) [
  | First at is ↦ inl at
  | Second at is ↦ absurd (other (ap (λ (x : Event). x.sig) is))
  | Third at is ↦ inr at
  | Last at is ↦ absurd (other (ap (λ (x : Event). x.sig) is))
]

-- ---- the state that a step leads to
-- handshake i may go on at each state
pub goes_on : (n m i : ℕ) → i < n → GoesOn n m (ending n i (phase m i)) (put i m ((phase m i + 1) % 4))
goes_on n m i within = record {
  handshake = i;
  within = within;
  event = refl;
  next = put_same i m ((phase m i + 1) % 4) (omega arith);
  others = λ k other. put_other i m ((phase m i + 1) % 4) k (omega arith) other;
}

pub target_below : (n m i : ℕ) → i < n → m < 4 ^ n → put i m ((phase m i + 1) % 4) < 4 ^ n
target_below n m i within below = put_below i n m ((phase m i + 1) % 4) (omega arith) within below

-- two states whose phases are those after a step of handshake i are one
pub same_target : (n m i t u : ℕ) → t < 4 ^ n → u < 4 ^ n → phase t i ≡ (phase m i + 1) % 4
    → phase u i ≡ (phase m i + 1) % 4 → ((k : ℕ) → k ≢ i → phase t k ≡ phase m k)
    → ((k : ℕ) → k ≢ i → phase u k ≡ phase m k) → t ≡ u
same_target n m i t u below also next next_u others others_u =
    same_digits n t u below also (λ k within. elim (cases_eq k i) [
      | inl same ↦ subst (λ j. phase t j ≡ phase u j) (sym same) (next ∙ sym next_u)
      | inr other ↦ others k other ∙ sym (others_u k other)
    ])

pub target_is : (n m : ℕ) (e : Event) (t : ℕ) → m < 4 ^ n → t < 4 ^ n → (g : GoesOn n m e t)
    → t ≡ put g.handshake m ((phase m g.handshake + 1) % 4)
target_is n m e t below also g =
    let i = g.handshake in
    let p : ℕ = (phase m i + 1) % 4 in
    same_target n m i t (put i m p) also (target_below n m i g.within below) g.next
    (put_same i m p (omega arith)) g.others (λ k other. put_other i m p k (omega arith) other)
