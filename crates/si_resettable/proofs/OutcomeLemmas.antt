-- A netlist and a name have one text and one outcome.
use Rattle.std.proofs.Common.{◌≡◌, ◌≢◌, ◌⊎◌, ℕ, Bool, true, false, List, refl, sym, ap, ◌∙◌, inl, inr}
use Rattle.std.proofs.lemmas.Bool.{true≢false, cases_Bool}
use Rattle.si_base.specs.Netlist.{Netlist}
use Rattle.si_base.specs.Words.{is_signal_name}
use Rattle.si_loops.specs.Arcs.{gated}
use Rattle.si_settled.specs.Settling.{inputs_of}
use Rattle.si_settled.proofs.Forcing.{drops_are_one}
use Rattle.si_settled.proofs.DecidingForced.{drops_exist}
use Rattle.si_resettable.specs.Forcing.{Forcing, IsForcing}
use Rattle.si_resettable.specs.Refusals.{HasRoomFor, Shows, is_taken}
use Rattle.si_resettable.specs.ResettableText.{IsResettableText, resettable_text}
use Rattle.si_resettable.specs.declared.refusal.Unresettable.{Unresettable}
use Rattle.si_resettable.specs.declared.refusal.Unresettable.TheVariants.{NoMemory, NotAName, NameIsTaken}

pub one_text : (n : Netlist) (reset text other : List ℕ) → IsResettableText n reset text
    → IsResettableText n reset other → text ≡ other
one_text n reset text other a b =
    a.text_is
    ∙ ap (λ (forced : List ℕ). resettable_text n forced reset)
    (drops_are_one n (inputs_of n.signals) (gated n.signals) a.forced b.forced a.are b.are)
    ∙ sym b.text_is

pub some_text : (n : Netlist) (reset : List ℕ) → (text : List ℕ) × IsResettableText n reset text
some_text n reset =
    let dropped = drops_exist n (inputs_of n.signals) (gated n.signals) in
    (resettable_text n dropped.0 reset, record { forced = dropped.0; are = dropped.1; text_is = refl })

both_ways : (b : Bool) → b ≡ true → b ≡ false → ⊥
both_ways b is other = true≢false (sym is ∙ other)

pub one_refusal : (n : Netlist) (reset : List ℕ) (e f : Unresettable) → e ≢ NoMemory → f ≢ NoMemory
    → Shows n reset e → Shows n reset f → e ≡ f
one_refusal n reset NoMemory f some other a b = absurd (some refl)
one_refusal n reset e NoMemory some other a b = absurd (other refl)
one_refusal n reset NotAName NotAName some other a b = refl
one_refusal n reset NameIsTaken NameIsTaken some other a b = refl
one_refusal n reset NotAName NameIsTaken some other a b = absurd (both_ways (is_signal_name reset) b.0 a)
one_refusal n reset NameIsTaken NotAName some other a b = absurd (both_ways (is_signal_name reset) a.0 b)

pub none_with_room : (n : Netlist) (reset : List ℕ) (e : Unresettable) → HasRoomFor n reset → Shows n reset e
    → e ≡ NoMemory
none_with_room n reset NoMemory room shows = refl
none_with_room n reset NotAName room shows = absurd (both_ways (is_signal_name reset) room.is_name shows)
none_with_room n reset NameIsTaken room shows = absurd (both_ways (is_taken n reset) shows.1 room.is_free)

pub some_outcome : (n : Netlist) (reset : List ℕ)
    → HasRoomFor n reset ⊎ ((e : Unresettable) × (e ≢ NoMemory) × Shows n reset e)
some_outcome n reset = elim (cases_Bool (is_signal_name reset)) [
  | inr other ↦ inr (NotAName, (λ same. cc), other)
  | inl name ↦ elim (cases_Bool (is_taken n reset)) [
    | inl taken ↦ inr (NameIsTaken, (λ same. cc), (name, taken))
    | inr free ↦ inl (record { is_name = name; is_free = free })
  ]
]

-- ---- reset inputs

-- a netlist has one reset input of a name, where there is room for it
pub one_forcing : (n : Netlist) (f g : Forcing) → f.name ≡ g.name → IsForcing n f → IsForcing n g → f ≡ g
one_forcing n f g named one other =
    let same : f.forced ≡ g.forced =
    drops_are_one n (inputs_of n.signals) (gated n.signals) f.forced g.forced one.are other.are in
    λ i. record { name = named i; forced = same i }

pub some_forcing : (n : Netlist) (name : List ℕ) → HasRoomFor n name
    → (f : Forcing) × (f.name ≡ name) × IsForcing n f
some_forcing n name room =
    let dropped = drops_exist n (inputs_of n.signals) (gated n.signals) in
    (record { name = name; forced = dropped.0 }, refl, record { room = room; are = dropped.1 })
