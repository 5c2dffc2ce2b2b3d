-- Each lawful partition of a connected graph is that of its Rising and its Falling states.
use Rattle.std.proofs.Common.{◌≡◌, ℕ, ◌<◌, ◌↔◌, ◌⊎◌, Bool, true, false, List, [], ◌∷◌, get_or, refl, sym, ap, subst}
use Rattle.std.proofs.Common.{◌∙◌, inl, inr}
use Rattle.std.proofs.lemmas.Bool.{true≢false}
use Rattle.si_base.specs.declared.ids.Event.{Event}
use Rattle.si_base.specs.Graph.{StateGraph, Walk, IsGraph}
use Rattle.si_base.specs.Codes.{IsConnected}
use Rattle.si_base.proofs.RightGateLemmas.{step_within}
use Rattle.si_base.specs.Sets.{IsIn}
use Rattle.si_regions.specs.Connected.{Adjoins, PathOf}
use Rattle.si_insert.specs.declared.partition.Class.{Class}
use Rattle.si_insert.specs.declared.partition.Class.TheVariants.{Low, Rising, High, Falling}
use Rattle.si_insert.specs.Partition.{class_of, may_lead, IsLawful}
use Rattle.si_candidates.specs.Parts.{IsOther, ComesFrom, GoesInto, IsHigh, IsLow, AreClasses}
use Rattle.si_candidates.proofs.PartLaws.{alone, drawn_on}

-- the facts at hand
pub record Setting (g : StateGraph) (plus minus : List Bool) (classes : List Class) : Type 0 where
  pub graph : IsGraph g
  pub connected : IsConnected g
  pub lawful : IsLawful g classes
  pub rising : (s : ℕ) → s < g.states → (class_of classes s ≡ Rising) ↔ IsIn plus s
  pub falling : (s : ℕ) → s < g.states → (class_of classes s ≡ Falling) ↔ IsIn minus s

low_or_high : (c : Class) → (c ≡ Rising → ⊥) → (c ≡ Falling → ⊥) → (c ≡ Low) ⊎ (c ≡ High)
low_or_high Low r f = inl refl
low_or_high Rising r f = absurd (r refl)
low_or_high High r f = inr refl
low_or_high Falling r f = absurd (f refl)

side_of : (g : StateGraph) (plus minus : List Bool) (classes : List Class) (s : ℕ) → Setting g plus minus classes
    → IsOther g plus minus s → (class_of classes s ≡ Low) ⊎ (class_of classes s ≡ High)
side_of g plus minus classes s x other =
    low_or_high (class_of classes s) (λ h. other.not_plus ((x.rising s other.within).0 h))
    (λ h. other.not_minus ((x.falling s other.within).0 h))

-- an arc between two such states joins equal classes
joined : (c d : Class) → (c ≡ Low) ⊎ (c ≡ High) → (d ≡ Low) ⊎ (d ≡ High) → may_lead c d ≡ true → c ≡ d
joined c d (inl p) (inl q) h = p ∙ sym q
joined c d (inr p) (inr q) h = p ∙ sym q
joined c d (inl p) (inr q) h = absurd (true≢false (sym (rw (p, q) at h)))
joined c d (inr p) (inl q) h = absurd (true≢false (sym (rw (p, q) at h)))

adjoined : (g : StateGraph) (plus minus : List Bool) (classes : List Class) (s t : ℕ) → Setting g plus minus classes
    → IsOther g plus minus s → IsOther g plus minus t → Adjoins g s t → class_of classes s ≡ class_of classes t
adjoined g plus minus classes s t x at_s at_t (inl (e, step)) =
    joined _ _ (side_of g plus minus classes s x at_s) (side_of g plus minus classes t x at_t)
    (x.lawful.arcs s e t step)
adjoined g plus minus classes s t x at_s at_t (inr (e, step)) =
    sym (joined _ _ (side_of g plus minus classes t x at_t) (side_of g plus minus classes s x at_s)
    (x.lawful.arcs t e s step))

along : (g : StateGraph) (plus minus : List Bool) (classes : List Class) (s : ℕ) (path : List ℕ) (t : ℕ)
    → Setting g plus minus classes → IsOther g plus minus s → PathOf g (IsOther g plus minus) s path t
    → class_of classes s ≡ class_of classes t
along g plus minus classes s [] t x other p = ap (class_of classes) p
along g plus minus classes s (u ∷ us) t x other p =
    adjoined g plus minus classes s u x other p.1 p.0 ∙ along g plus minus classes u us t x p.1 p.2

end_other : (g : StateGraph) (P : ℕ → Type 0) (s : ℕ) (path : List ℕ) (t : ℕ) → P s → PathOf g P s path t → P t
end_other g P s [] t here p = subst P p here
end_other g P s (u ∷ us) t here p = end_other g P u us t p.1 p.2

-- a part that meets the blocks as High ones do is High, and so with Low
pub drawn_high : (g : StateGraph) (plus minus : List Bool) (classes : List Class) (s : ℕ)
    → Setting g plus minus classes → IsHigh g plus minus s → class_of classes s ≡ High
drawn_high g plus minus classes s x d =
    let other = end_other g (IsOther g plus minus) s d.part.path d.at d.part.begins d.part.leads in
    along g plus minus classes s d.part.path d.at x d.part.begins d.part.leads
    ∙ at_end (side_of g plus minus classes d.at x other) d.by
  where
    at_end : (class_of classes d.at ≡ Low) ⊎ (class_of classes d.at ≡ High)
        → (ComesFrom g plus d.at ⊎ GoesInto g minus d.at) → class_of classes d.at ≡ High
    at_end (inr high) by = high
    at_end (inl low) (inl (r, e, there, step)) =
        let from : class_of classes r ≡ Rising = (x.rising r (step_within g r e d.at x.graph step).0).1 there in
        absurd (true≢false (sym (rw (from, low) at (x.lawful.arcs r e d.at step))))
    at_end (inl low) (inr (f, e, there, step)) =
        let into : class_of classes f ≡ Falling = (x.falling f (step_within g d.at e f x.graph step).2).1 there in
        absurd (true≢false (sym (rw (low, into) at (x.lawful.arcs d.at e f step))))

pub drawn_low : (g : StateGraph) (plus minus : List Bool) (classes : List Class) (s : ℕ)
    → Setting g plus minus classes → IsLow g plus minus s → class_of classes s ≡ Low
drawn_low g plus minus classes s x d =
    let other = end_other g (IsOther g plus minus) s d.part.path d.at d.part.begins d.part.leads in
    along g plus minus classes s d.part.path d.at x d.part.begins d.part.leads
    ∙ at_end (side_of g plus minus classes d.at x other) d.by
  where
    at_end : (class_of classes d.at ≡ Low) ⊎ (class_of classes d.at ≡ High)
        → (ComesFrom g minus d.at ⊎ GoesInto g plus d.at) → class_of classes d.at ≡ Low
    at_end (inl low) by = low
    at_end (inr high) (inl (f, e, there, step)) =
        let from : class_of classes f ≡ Falling = (x.falling f (step_within g f e d.at x.graph step).0).1 there in
        absurd (true≢false (sym (rw (from, high) at (x.lawful.arcs f e d.at step))))
    at_end (inr high) (inr (r, e, there, step)) =
        let into : class_of classes r ≡ Rising = (x.rising r (step_within g d.at e r x.graph step).2).1 there in
        absurd (true≢false (sym (rw (high, into) at (x.lawful.arcs d.at e r step))))

-- ---- each part meets a block
either : (b : Bool) → (b ≡ true) ⊎ (b ≡ true → ⊥)
either true = inl refl
either false = inr (λ h. true≢false (sym h))

abbrev Drawn : StateGraph → List Bool → List Bool → ℕ → Type 0
Drawn g plus minus s = IsOther g plus minus s → IsHigh g plus minus s ⊎ IsLow g plus minus s

next_to : (g : StateGraph) (plus minus : List Bool) (s t : ℕ) → t < g.states → Adjoins g s t → Drawn g plus minus t
    → Drawn g plus minus s
next_to g plus minus s t inside adjoins drawn other = elim (either (get_or plus t false)) [
  | inl in_plus ↦ by_plus adjoins in_plus
  | inr not_plus ↦ elim (either (get_or minus t false)) [
    | inl in_minus ↦ by_minus adjoins in_minus
    | inr not_minus ↦ on (drawn (record { within = inside; not_plus = not_plus; not_minus = not_minus }))
  ]
]
  where
    by_plus : Adjoins g s t → IsIn plus t → IsHigh g plus minus s ⊎ IsLow g plus minus s
    by_plus (inl (e, step)) there = inr (alone g s plus minus minus plus other (inr (t, e, there, step)))
    by_plus (inr (e, step)) there = inl (alone g s plus minus plus minus other (inl (t, e, there, step)))

    by_minus : Adjoins g s t → IsIn minus t → IsHigh g plus minus s ⊎ IsLow g plus minus s
    by_minus (inl (e, step)) there = inl (alone g s plus minus plus minus other (inr (t, e, there, step)))
    by_minus (inr (e, step)) there = inr (alone g s plus minus minus plus other (inl (t, e, there, step)))

    on : IsHigh g plus minus t ⊎ IsLow g plus minus t → IsHigh g plus minus s ⊎ IsLow g plus minus s
    on (inl high) = inl (drawn_on g plus minus plus minus s t other adjoins high)
    on (inr low) = inr (drawn_on g plus minus minus plus s t other adjoins low)

back_walk : (g : StateGraph) (plus minus : List Bool) (s : ℕ) (es : List Event) (t : ℕ) → IsGraph g → Walk g s es t
    → Drawn g plus minus t → Drawn g plus minus s
back_walk g plus minus s [] t graph walk drawn = subst (Drawn g plus minus) (sym walk) drawn
back_walk g plus minus s (e ∷ es) t graph walk drawn =
    let inside = (step_within g s e walk.0 graph walk.1).2 in
    next_to g plus minus s walk.0 inside (inl (e, walk.1)) (back_walk g plus minus walk.0 es t graph walk.2 drawn)

on_walk : (g : StateGraph) (plus minus : List Bool) (s : ℕ) (es : List Event) (t : ℕ) → IsGraph g → Walk g s es t
    → Drawn g plus minus s → Drawn g plus minus t
on_walk g plus minus s [] t graph walk drawn = subst (Drawn g plus minus) walk drawn
on_walk g plus minus s (e ∷ es) t graph walk drawn =
    let inside = (step_within g s e walk.0 graph walk.1).0 in
    on_walk g plus minus walk.0 es t graph walk.2 (next_to g plus minus walk.0 s inside (inr (e, walk.1)) drawn)

-- some state is in one of the blocks, so each part meets one
pub each_is_drawn : (g : StateGraph) (plus minus : List Bool) (r s : ℕ) → IsGraph g → IsConnected g → IsIn plus r
    → r < g.states → s < g.states → Drawn g plus minus s
each_is_drawn g plus minus r s graph connected there r_in s_in =
    let to_r = connected r r_in in
    let to_s = connected s s_in in
    let at_r : Drawn g plus minus r = λ other. absurd (other.not_plus there) in
    let at_start = back_walk g plus minus g.start to_r.0 r graph to_r.1 at_r in
    on_walk g plus minus g.start to_s.0 s graph to_s.1 at_start

pub lawful_are_classes : (g : StateGraph) (plus minus : List Bool) (classes : List Class) → IsGraph g → IsConnected g
    → IsLawful g classes
    → ((s : ℕ) → s < g.states → (class_of classes s ≡ Rising) ↔ IsIn plus s)
    → ((s : ℕ) → s < g.states → (class_of classes s ≡ Falling) ↔ IsIn minus s) → AreClasses g plus minus classes
lawful_are_classes g plus minus classes graph connected lawful rising falling = record {
  count = lawful.count;
  rising = rising;
  falling = falling;
  high = λ s within. (
    (λ h. pick_high s within h
        (drawn s within (other s within (λ r. (let e : High ≡ Rising = sym h ∙ r in cc))
        (λ f. (let e : High ≡ Falling = sym h ∙ f in cc))))),
    drawn_high g plus minus classes s x,
  );
  low = λ s within. (
    (λ h. pick_low s within h
        (drawn s within (other s within (λ r. (let e : Low ≡ Rising = sym h ∙ r in cc))
        (λ f. (let e : Low ≡ Falling = sym h ∙ f in cc))))),
    drawn_low g plus minus classes s x,
  );
}
  where
    x : Setting g plus minus classes
    x = record { graph = graph; connected = connected; lawful = lawful; rising = rising; falling = falling }

    other : (s : ℕ) → s < g.states → (class_of classes s ≡ Rising → ⊥) → (class_of classes s ≡ Falling → ⊥)
        → IsOther g plus minus s
    other s within r f = record {
      within = within;
      not_plus = λ h. r ((rising s within).1 h);
      not_minus = λ h. f ((falling s within).1 h);
    }

    drawn : (s : ℕ) → s < g.states → Drawn g plus minus s
    drawn s within = let r = lawful.rises in each_is_drawn g plus minus r.0 s graph connected
        ((rising r.0 r.1).0 r.2) r.1 within

    pick_high : (s : ℕ) → s < g.states → class_of classes s ≡ High → IsHigh g plus minus s ⊎ IsLow g plus minus s
        → IsHigh g plus minus s
    pick_high s within h (inl high) = high
    pick_high s within h (inr low) = absurd (let e : High ≡ Low = sym h ∙ drawn_low g plus minus classes s x low in cc)

    pick_low : (s : ℕ) → s < g.states → class_of classes s ≡ Low → IsHigh g plus minus s ⊎ IsLow g plus minus s
        → IsLow g plus minus s
    pick_low s within h (inr low) = low
    pick_low s within h (inl high) = absurd
        (let e : Low ≡ High = sym h ∙ drawn_high g plus minus classes s x high in cc)
