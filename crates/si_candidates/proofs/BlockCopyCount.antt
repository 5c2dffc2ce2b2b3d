-- The number of copies is that of the states and of the states of both blocks.
use Rattle.std.proofs.Common.{◌≡◌, ℕ, suc, ◌+◌, ◌<◌, ◌↔◌, Bool, true, false, List, [], ◌∷◌, length, count_by, cond}
use Rattle.std.proofs.Common.{refl, sym, ◌∙◌, arith}
use Rattle.std.proofs.lemmas.Bool.{true≢false}
use Rattle.std.proofs.lemmas.List.Recursion.{is_count_by}
use Rattle.si_base.specs.Graph.{StateGraph}
use Rattle.si_base.specs.Sets.{IsIn}
use Rattle.si_insert.specs.declared.partition.Class.{Class}
use Rattle.si_insert.specs.declared.partition.Class.TheVariants.{Low, Rising, High, Falling}
use Rattle.si_insert.specs.Partition.{class_of}
use Rattle.si_insert.specs.Accepted.{copy_count}
use Rattle.si_candidates.specs.Parts.{AreClasses}

abbrev members : List Bool → ℕ
members [] = 0
members (b ∷ set) = cond b (1 + members set) (members set)

counted : (set : List Bool) → members set ≡ count_by (λ b. b) set
counted set = is_count_by members (λ b. b) refl (λ _ _. refl) set

-- one more state
step : (c : Class) (p m : Bool) (classes : List Class) (plus minus : List Bool) → (c ≡ Rising) ↔ (p ≡ true)
    → (c ≡ Falling) ↔ (m ≡ true) → copy_count classes ≡ length classes + members plus + members minus
    → copy_count (c ∷ classes) ≡ length (c ∷ classes) + members (p ∷ plus) + members (m ∷ minus)
step Low true m classes plus minus r f rest = absurd (let e : Low ≡ Rising = r.1 refl in cc)
step Low false true classes plus minus r f rest = absurd (let e : Low ≡ Falling = f.1 refl in cc)
step Low false false classes plus minus r f rest = omega arith
step High true m classes plus minus r f rest = absurd (let e : High ≡ Rising = r.1 refl in cc)
step High false true classes plus minus r f rest = absurd (let e : High ≡ Falling = f.1 refl in cc)
step High false false classes plus minus r f rest = omega arith
step Rising true true classes plus minus r f rest = absurd (let e : Rising ≡ Falling = f.1 refl in cc)
step Rising true false classes plus minus r f rest = omega arith
step Rising false m classes plus minus r f rest = absurd (true≢false (sym (r.0 refl)))
step Falling true m classes plus minus r f rest = absurd (let e : Falling ≡ Rising = r.1 refl in cc)
step Falling false true classes plus minus r f rest = omega arith
step Falling false false classes plus minus r f rest = absurd (true≢false (sym (f.0 refl)))

counts : (classes : List Class) (plus minus : List Bool) → length plus ≡ length classes → length minus ≡ length classes
    → ((s : ℕ) → s < length classes → (class_of classes s ≡ Rising) ↔ IsIn plus s)
    → ((s : ℕ) → s < length classes → (class_of classes s ≡ Falling) ↔ IsIn minus s)
    → copy_count classes ≡ length classes + members plus + members minus
counts [] [] [] p m r f = refl
counts [] [] (y ∷ minus) p m r f = absurd (omega arith)
counts [] (x ∷ plus) minus p m r f = absurd (omega arith)
counts (c ∷ classes) [] minus p m r f = absurd (omega arith)
counts (c ∷ classes) (x ∷ plus) [] p m r f = absurd (omega arith)
counts (c ∷ classes) (x ∷ plus) (y ∷ minus) p m r f =
    step c x y classes plus minus (r 0 (omega arith)) (f 0 (omega arith))
    (counts classes plus minus (omega arith) (omega arith) (λ s h. r (suc s) (omega arith))
    (λ s h. f (suc s) (omega arith)))

pub copies_by_blocks : (g : StateGraph) (plus minus : List Bool) (classes : List Class) → length plus ≡ g.states
    → length minus ≡ g.states → AreClasses g plus minus classes
    → copy_count classes ≡ g.states + count_by (λ b. b) plus + count_by (λ b. b) minus
copies_by_blocks g plus minus classes p m a =
    let e = counts classes plus minus (p ∙ sym a.count) (m ∙ sym a.count)
    (λ s h. a.rising s (omega (arith, a.count))) (λ s h. a.falling s (omega (arith, a.count))) in
    omega (arith, e, a.count, counted plus, counted minus)
