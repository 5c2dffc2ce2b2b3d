-- The classes of two blocks are a lawful partition, the only one.
use Rattle.std.proofs.Common.{◌≡◌, ◌≢◌, ℕ, ◌<◌, ◌⊎◌, Bool, true, List, [], ◌∷◌, refl, sym, ◌∙◌, arith, inl}
use Rattle.std.proofs.Common.{inr}
use Rattle.si_base.specs.declared.ids.Event.{Event}
use Rattle.si_base.specs.Graph.{StateGraph, Step, IsGraph}
use Rattle.si_base.specs.Codes.{IsConnected}
use Rattle.si_base.proofs.RightGateLemmas.{step_within}
use Rattle.si_base.specs.Sets.{IsIn}
use Rattle.si_regions.specs.Connected.{Adjoins}
use Rattle.si_insert.specs.declared.partition.Class.{Class}
use Rattle.si_insert.specs.declared.partition.Class.TheVariants.{Low, Rising, High, Falling}
use Rattle.si_insert.specs.Partition.{class_of, may_lead, IsLawful, HasSameSwitches}
use Rattle.si_insert.proofs.OnePartition.{one_partition}
use Rattle.si_insert.proofs.PartitionClasses.{same_classes}
use Rattle.si_candidates.specs.Parts.{IsOther, ComesFrom, GoesInto, PartMeets, IsHigh, IsLow, AreClasses, HasBothLevels}

-- a state is in one class
pub torn_have_none : (g : StateGraph) (plus minus : List Bool) (classes : List Class) (s : ℕ)
    → AreClasses g plus minus classes → HasBothLevels g plus minus s → ⊥
torn_have_none g plus minus classes s a torn =
    let within = torn.high.part.begins.within in
    let high : class_of classes s ≡ High = (a.high s within).1 torn.high in
    let low : class_of classes s ≡ Low = (a.low s within).1 torn.low in
    let same : High ≡ Low = sym high ∙ low in cc

-- a step of connected states goes on
pub drawn_on : (g : StateGraph) (plus minus from into : List Bool) (s t : ℕ) → IsOther g plus minus s → Adjoins g s t
    → PartMeets g plus minus from into t → PartMeets g plus minus from into s
drawn_on g plus minus from into s t other adjoins d = record {
  at = d.at;
  part = record { begins = other; path = t ∷ d.part.path; leads = (adjoins, d.part.begins, d.part.leads) };
  by = d.by;
}

-- what classes say of the blocks
is_other : (g : StateGraph) (plus minus : List Bool) (classes : List Class) (s : ℕ) → AreClasses g plus minus classes
    → s < g.states → class_of classes s ≢ Rising → class_of classes s ≢ Falling → IsOther g plus minus s
is_other g plus minus classes s a within rise fall = record {
  within = within;
  not_plus = λ there. rise ((a.rising s within).1 there);
  not_minus = λ there. fall ((a.falling s within).1 there);
}

pub alone : (g : StateGraph) (s : ℕ) (plus minus from into : List Bool) → IsOther g plus minus s
    → (ComesFrom g from s ⊎ GoesInto g into s) → PartMeets g plus minus from into s
alone g s plus minus from into other by =
    record { at = s; part = record { begins = other; path = []; leads = refl }; by = by }

-- the class of each end of an arc, if it isn't lawful, is another
arc_lawful : (g : StateGraph) (plus minus : List Bool) (classes : List Class) (s : ℕ) (e : Event) (t : ℕ) → IsGraph g
    → AreClasses g plus minus classes → Step g s e t
    → (c d : Class) → class_of classes s ≡ c → class_of classes t ≡ d → may_lead c d ≡ true
arc_lawful g plus minus classes s e t graph a step c d at_s at_t = cases c d at_s at_t
  where
    in_s : s < g.states
    in_s = (step_within g s e t graph step).0

    in_t : t < g.states
    in_t = (step_within g s e t graph step).2

    other : (k : ℕ) → k < g.states → ((class_of classes k ≡ Low) ⊎ (class_of classes k ≡ High)) → IsOther g plus minus k
    other k within (inl low) = is_other g plus minus classes k a within
        (λ h. (let x : Low ≡ Rising = sym low ∙ h in cc)) (λ h. (let x : Low ≡ Falling = sym low ∙ h in cc))
    other k within (inr high) = is_other g plus minus classes k a within
        (λ h. (let x : High ≡ Rising = sym high ∙ h in cc)) (λ h. (let x : High ≡ Falling = sym high ∙ h in cc))

    both : (k : ℕ) → IsHigh g plus minus k → IsLow g plus minus k → ⊥
    both k high low = torn_have_none g plus minus classes k a (record { high = high; low = low })

    cases : (c d : Class) → class_of classes s ≡ c → class_of classes t ≡ d → may_lead c d ≡ true
    cases Low Low p q = refl
    cases Low Rising p q = refl
    cases Low High p q = absurd (both s
        (drawn_on g plus minus plus minus s t (other s in_s (inl p)) (inl (e, step)) ((a.high t in_t).0 q))
        ((a.low s in_s).0 p))
    cases Low Falling p q = absurd (both s
        (alone g s plus minus plus minus (other s in_s (inl p)) (inr (t, e, (a.falling t in_t).0 q, step)))
        ((a.low s in_s).0 p))
    cases Rising Low p q = absurd (both t
        (alone g t plus minus plus minus (other t in_t (inl q)) (inl (s, e, (a.rising s in_s).0 p, step)))
        ((a.low t in_t).0 q))
    cases Rising Rising p q = refl
    cases Rising High p q = refl
    cases Rising Falling p q = refl
    cases High Low p q = absurd (both s ((a.high s in_s).0 p)
        (drawn_on g plus minus minus plus s t (other s in_s (inr p)) (inl (e, step)) ((a.low t in_t).0 q)))
    cases High Rising p q = absurd (both s ((a.high s in_s).0 p)
        (alone g s plus minus minus plus (other s in_s (inr p)) (inr (t, e, (a.rising t in_t).0 q, step))))
    cases High High p q = refl
    cases High Falling p q = refl
    cases Falling Low p q = refl
    cases Falling Rising p q = refl
    cases Falling High p q = absurd
        (both t ((a.high t in_t).0 q)
        (alone g t plus minus minus plus (other t in_t (inr q)) (inl (s, e, (a.falling s in_s).0 p, step))))
    cases Falling Falling p q = refl

pub classes_lawful : (g : StateGraph) (plus minus : List Bool) (classes : List Class) (r f : ℕ) → IsGraph g
    → AreClasses g plus minus classes → IsIn plus r → r < g.states → IsIn minus f → f < g.states → IsLawful g classes
classes_lawful g plus minus classes r f graph a in_r r_in in_f f_in = record {
  count = a.count;
  rises = (r, r_in, (a.rising r r_in).1 in_r);
  falls = (f, f_in, (a.falling f f_in).1 in_f);
  arcs = λ s e t step. arc_lawful g plus minus classes s e t graph a step (class_of classes s)
      (class_of classes t) refl refl;
}

same_switches : (g : StateGraph) (plus minus : List Bool) (xs ys : List Class) → AreClasses g plus minus xs
    → AreClasses g plus minus ys → HasSameSwitches g xs ys
same_switches g plus minus xs ys a b s within = (
  ((λ h. (b.rising s within).1 ((a.rising s within).0 h)), (λ h. (a.rising s within).1 ((b.rising s within).0 h))),
  ((λ h. (b.falling s within).1 ((a.falling s within).0 h)), (λ h. (a.falling s within).1 ((b.falling s within).0 h))),
)

pub classes_unique : (g : StateGraph) (plus minus : List Bool) (xs ys : List Class) (r f : ℕ) → IsGraph g
    → IsConnected g → IsIn plus r → r < g.states → IsIn minus f → f < g.states → AreClasses g plus minus xs
    → AreClasses g plus minus ys → xs ≡ ys
classes_unique g plus minus xs ys r f graph connected in_r r_in in_f f_in a b =
    let lx = classes_lawful g plus minus xs r f graph a in_r r_in in_f f_in in
    let ly = classes_lawful g plus minus ys r f graph b in_r r_in in_f f_in in
    let switches = same_switches g plus minus xs ys a b in
    same_classes xs ys (a.count ∙ sym b.count)
    (λ s h. (let within : s < g.states = omega (arith, a.count) in
    one_partition g xs ys s graph connected lx ly switches within))
