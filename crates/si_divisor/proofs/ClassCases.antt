-- Laws of the classes, by a test of all cases.
use Rattle.std.proofs.Common.{◌≡◌, ◌⊎◌, Bool, true, false, not, refl, inl, inr, sym}
use Rattle.std.proofs.lemmas.Bool.{true≢false}
use Rattle.si_insert.specs.declared.partition.Class.{Class}
use Rattle.si_insert.specs.declared.partition.Class.TheVariants.{Low, Rising, High, Falling}
use Rattle.si_insert.specs.Partition.{may_lead}
use Rattle.si_insert.specs.Insertion.{has_copy}
use Rattle.si_insert.proofs.PairWaiting.{waiting}
use Rattle.si_divisor.specs.Laws.{to_one}

-- the states where an arc waits at the value have the other target
pub target_of_waiting : (v : Bool) → to_one (waiting v) ≡ not v
target_of_waiting true = refl
target_of_waiting false = refl

-- a copy at the value is of a state with that target, or where the arcs wait
pub copy_has : (c : Class) (v : Bool) → has_copy c v ≡ true → (to_one c ≡ v) ⊎ (c ≡ waiting v)
copy_has Low true h = absurd (true≢false (sym h))
copy_has Low false h = inl refl
copy_has Rising true h = inl refl
copy_has Rising false h = inr refl
copy_has High true h = inl refl
copy_has High false h = absurd (true≢false (sym h))
copy_has Falling true h = inr refl
copy_has Falling false h = inl refl

-- a lawful arc to the other target leads to where arcs wait
pub crosses : (s t : Class) (v : Bool) → may_lead s t ≡ true → to_one s ≡ v → to_one t ≡ not v → t ≡ waiting v
crosses Low Low true l p q = absurd (true≢false (sym p))
crosses Low Low false l p q = absurd (true≢false (sym q))
crosses Low Rising true l p q = absurd (true≢false (sym p))
crosses Low Rising false l p q = refl
crosses Low High true l p q = absurd (true≢false (sym l))
crosses Low High false l p q = absurd (true≢false (sym l))
crosses Low Falling true l p q = refl
crosses Low Falling false l p q = absurd (true≢false (sym l))
crosses Rising Low true l p q = absurd (true≢false (sym l))
crosses Rising Low false l p q = absurd (true≢false (sym l))
crosses Rising Rising true l p q = absurd (true≢false q)
crosses Rising Rising false l p q = refl
crosses Rising High true l p q = absurd (true≢false q)
crosses Rising High false l p q = absurd (true≢false p)
crosses Rising Falling true l p q = refl
crosses Rising Falling false l p q = absurd (true≢false p)
crosses High Low true l p q = absurd (true≢false (sym l))
crosses High Low false l p q = absurd (true≢false (sym l))
crosses High Rising true l p q = absurd (true≢false (sym l))
crosses High Rising false l p q = refl
crosses High High true l p q = absurd (true≢false q)
crosses High High false l p q = absurd (true≢false p)
crosses High Falling true l p q = refl
crosses High Falling false l p q = absurd (true≢false p)
crosses Falling Low true l p q = absurd (true≢false (sym p))
crosses Falling Low false l p q = absurd (true≢false (sym q))
crosses Falling Rising true l p q = absurd (true≢false (sym p))
crosses Falling Rising false l p q = refl
crosses Falling High true l p q = absurd (true≢false (sym l))
crosses Falling High false l p q = absurd (true≢false (sym l))
crosses Falling Falling true l p q = refl
crosses Falling Falling false l p q = absurd (true≢false (sym q))

-- where a lawful arc leads to such a state from one of its target, it comes from one
pub comes : (s : Class) (v : Bool) → may_lead s (waiting v) ≡ true → to_one s ≡ not v → s ≡ waiting v
comes Low true l p = absurd (true≢false (sym l))
comes Low false l p = absurd (true≢false (sym p))
comes Rising true l p = absurd (true≢false p)
comes Rising false l p = refl
comes High true l p = absurd (true≢false p)
comes High false l p = absurd (true≢false (sym l))
comes Falling true l p = refl
comes Falling false l p = absurd (true≢false (sym p))
