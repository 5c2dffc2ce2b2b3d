-- The class whose states an arc waits to leave.
use Rattle.std.proofs.Common.{◌≡◌, ◌≢◌, ◌⊎◌, Bool, true, false, not, refl, sym, ap, subst, ◌∙◌, inl, inr}
use Rattle.std.proofs.lemmas.Bool.{true≢false, cases_Bool}
use Rattle.si_insert.specs.declared.partition.Class.{Class}
use Rattle.si_insert.specs.declared.partition.Class.TheVariants.{Low, Rising, High, Falling}
use Rattle.si_insert.specs.Partition.{may_lead}
use Rattle.si_insert.specs.Insertion.{waits, has_copy, entry, switching}
use Rattle.si_insert.proofs.PartitionClasses.{is_waiting, waits_switching, same_goes, leaves, enters}

-- the class where an arc waits at the value
abbrev pub waiting : Bool → Class
waiting b = switching (not b)

pub is_or_not : (c : Class) (b : Bool) → (c ≡ waiting b) ⊎ (c ≢ waiting b)
is_or_not Low true = inr (λ (h : Low ≡ Falling). cc)
is_or_not Rising true = inr (λ (h : Rising ≡ Falling). cc)
is_or_not High true = inr (λ (h : High ≡ Falling). cc)
is_or_not Falling true = inl refl
is_or_not Low false = inr (λ (h : Low ≡ Rising). cc)
is_or_not Rising false = inl refl
is_or_not High false = inr (λ (h : High ≡ Rising). cc)
is_or_not Falling false = inr (λ (h : Falling ≡ Rising). cc)

-- an arc waits just where it leaves that class
pub waits_at : (s t : Class) (b : Bool) → waits s t b ≡ true → (s ≡ waiting b) × (t ≢ waiting b)
waits_at s t b h = (
  waits_switching s t b h,
  λ same. (let from = waits_switching s t b h in
      let e : waits s t b ≡ false = subst (λ c. waits c t b ≡ false) (sym from)
      (subst (λ d. waits (waiting b) d b ≡ false) (sym same) (same_goes (waiting b) b)) in
      true≢false (sym h ∙ e)),
)

pub waits_if : (s t : Class) (b : Bool) → s ≡ waiting b → t ≢ waiting b → waits s t b ≡ true
waits_if s t true from to = is_waiting s t true (inr (refl, from, to))
waits_if s t false from to = is_waiting s t false (inl (refl, from, to))

pub goes_elsewhere : (s t : Class) (b : Bool) → s ≢ waiting b → waits s t b ≡ false
goes_elsewhere s t b other = elim (cases_Bool (waits s t b)) [
  | inl h ↦ absurd (other (waits_switching s t b h))
  | inr h ↦ h
]

pub goes_within : (s t : Class) (b : Bool) → s ≡ waiting b → t ≡ waiting b → waits s t b ≡ false
goes_within s t b from to =
    subst (λ c. waits c t b ≡ false) (sym from)
    (subst (λ d. waits (waiting b) d b ≡ false) (sym to) (same_goes (waiting b) b))

entry_of : (b : Bool) → entry (waiting b) ≡ b
entry_of true = refl
entry_of false = refl

-- an arc into that class stands at the value, and doesn't wait
pub goes_into : (s u : Class) (b : Bool) → may_lead s u ≡ true → u ≡ waiting b
    → (has_copy s b ≡ true) × (waits s u b ≡ false)
goes_into s u b lawful into =
    let e : entry u ≡ b = ap entry into ∙ entry_of b in
    (subst (λ v. has_copy s v ≡ true) e (leaves s u lawful), subst (λ v. waits s u v ≡ false) e (enters s u lawful))
