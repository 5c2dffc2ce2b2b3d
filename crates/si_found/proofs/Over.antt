-- States of a last graph stand over states of the graphs before it, and an inserted signal switches over the states
-- where its insertion says so.
use Rattle.std.proofs.Common.{◌≡◌, ℕ, ◌<◌, ◌≤◌, ◌+◌, ◌⊎◌, Bool, true, not, List, [], ◌∷◌, refl, sym, ap, subst, ◌∙◌}
use Rattle.std.proofs.Common.{arith, length, inl, inr}
use Rattle.std.proofs.lemmas.List.{length_push}
use Rattle.std.proofs.lemmas.Bool.{cases_lt}
use Rattle.si_base.specs.declared.ids.Event.{Event}
use Rattle.si_base.specs.declared.graph.Signal.{Signal}
use Rattle.si_base.specs.Bits.{bit}
use Rattle.si_base.specs.Graph.{Step}
use Rattle.si_base.specs.Codes.{CodedGraph, code, IsCoded}
use Rattle.si_base.proofs.RightGateLemmas.{step_within, code_fits}
use Rattle.si_insert.specs.declared.partition.Class.{Class}
use Rattle.si_insert.specs.declared.lineage.TraceStep.{TraceStep}
use Rattle.si_insert.specs.Partition.{class_of}
use Rattle.si_insert.specs.Insertion as insertion
use Rattle.si_insert.specs.Insertion.{Copy, IsCopied, IsSwitch, entry, switching, copy_code, new_signal}
use Rattle.si_insert.specs.Lineage.{Current, origin, Keeps, Inserts, Grows}
use Rattle.si_insert.proofs.PartitionClasses.{leaves, enters, switching_there}
use Rattle.si_insert.proofs.InsertionCopies.{copy, placed, given_copied, new_switches}
use Rattle.si_base.proofs.StepCodes.{no_bit}
use Rattle.si_insert.proofs.InsertionProper.{leads, goes_on, old_bit}
use Rattle.si_insert.proofs.InsertionKeeps.{keeps_next}
use Rattle.si_found.proofs.Peeling.{Made, made_of, CopyAt, the_copy, copy_place, step_of, step_in}

-- the state k of u stands over the state s of w: equal origins, and equal values of the signals of w
pub record Over (w u : Current) (s k : ℕ) : Type 0 where
  pub there : s < w.coded.graph.states
  pub inside : k < u.coded.graph.states
  pub origins : origin u k ≡ origin w s
  pub values : (i : ℕ) → i < length w.coded.graph.signals → bit (code u.coded k) i ≡ bit (code w.coded s) i

pub over_itself : (v : Current) (s : ℕ) → s < v.coded.graph.states → Over v v s s
over_itself v s there = record { there = there; inside = there; origins = refl; values = λ i _. refl }

pub over_over : (w v u : Current) (s a k : ℕ) → length w.coded.graph.signals ≤ length v.coded.graph.signals → Over w v s a
    → Over v u a k → Over w u s k
over_over w v u s a k more one other = record {
  there = one.there;
  inside = other.inside;
  origins = other.origins ∙ one.origins;
  values = λ i small. other.values i (omega (arith, small, more)) ∙ one.values i small;
}

-- a copy stands over its state
over_copy : (given : CodedGraph) (w : Current) (p : TraceStep) (v : Current) (m : Made given w p v) (k : ℕ) (x : Copy)
    → CopyAt w p v m.copies k x → Over w v x.state k
over_copy given w p v m k x at = record {
  there = at.state;
  inside = at.inside;
  origins = at.origin_is;
  values = λ i small. ap (λ (c : ℕ). bit c i) at.code_is ∙ old_bit w.coded x i (λ same. omega (arith, small, same));
}

-- a state stands over one state at most
pub one_below : (given : CodedGraph) (w u : Current) (s t k : ℕ) → Keeps given w → Over w u s k → Over w u t k → s ≡ t
one_below given w u s t k kept one other = kept.determined s t one.there other.there (sym one.origins ∙ other.origins)
    (λ i _. at i (cases_lt i (length w.coded.graph.signals)))
  where
    at : (i : ℕ) → ((i < length w.coded.graph.signals) ⊎ (length w.coded.graph.signals ≤ i))
        → bit (code w.coded s) i ≡ bit (code w.coded t) i
    at i (inl small) = sym (one.values i small) ∙ other.values i small
    at i (inr above) =
        no_bit (code w.coded s) (length w.coded.graph.signals) i (code_fits w.coded s kept.coded one.there) above
        ∙ sym (no_bit (code w.coded t) (length w.coded.graph.signals) i (code_fits w.coded t kept.coded other.there) above)

pub more_signals : (v : Current) (p : TraceStep) (u : Current) → Inserts v p u
    → length u.coded.graph.signals ≡ length v.coded.graph.signals + 1
more_signals v p u ins =
    ap (length {A = Signal}) (ap (λ (w : Current). w.coded.graph.signals) ins.makes ∙ ins.insertion.signals)
    ∙ length_push v.coded.graph.signals (new_signal p.name)

-- ---- down: each state of the last graph stands over one of w, and its steps by signals of w are steps there
pub below : (given : CodedGraph) (w : Current) (rest : List TraceStep) (u : Current) (k : ℕ) → IsCoded given
    → Keeps given w → Grows w rest u → k < u.coded.graph.states → (s : ℕ) × Over w u s k
below given w [] u k is kept grows there =
    let P : Current → Type 0 = λ x. Over w x k k in
    let Q : Current → Type 0 = λ x. k < x.coded.graph.states in
    (k, subst P grows (over_itself w k (subst Q (sym grows) there)))
below given w (p ∷ rest) u k is kept grows there =
    let v = grows.0 in
    let m = made_of given w p v kept grows.1 in
    let a = below given v rest u k is (keeps_next given w p v is kept grows.1) grows.2 there in
    let x = the_copy given w p v m a.0 a.1.there in (
      x.0.state,
      over_over w v u x.0.state a.0 k (omega (arith, more_signals w p v grows.1))
          (over_copy given w p v m a.0 x.0 x.1) a.1,
    )

pub step_below : (given : CodedGraph) (w : Current) (rest : List TraceStep) (u : Current) (k : ℕ) (e : Event) (l s : ℕ)
    → IsCoded given → Keeps given w → Grows w rest u → Step u.coded.graph k e l → e.sig < length w.coded.graph.signals
    → Over w u s k → (t : ℕ) × Step w.coded.graph s e t
step_below given w [] u k e l s is kept grows step small over =
    let P : Current → Type 0 = λ x. Step x.coded.graph k e l in
    let Q : Current → Type 0 = λ x. Over w x s k in
    let same : s ≡ k =
    kept.determined s k over.there (subst (λ (x : Current). k < x.coded.graph.states) (sym grows) over.inside)
    (sym (subst Q (sym grows) over).origins) (λ i _. all_bits i) in
    let R : ℕ → Type 0 = λ i. Step w.coded.graph i e l in
    (l, subst R (sym same) (subst P (sym grows) step))
  where
    here : Over w w s k
    here = let Q : Current → Type 0 = λ x. Over w x s k in subst Q (sym grows) over

    all_bits : (i : ℕ) → bit (code w.coded s) i ≡ bit (code w.coded k) i
    all_bits i = elim (cases_lt i (length w.coded.graph.signals)) [
      | inl low ↦ sym (here.values i low)
      | inr above ↦
          no_bit (code w.coded s) (length w.coded.graph.signals) i (code_fits w.coded s kept.coded here.there) above
          ∙ sym (no_bit (code w.coded k) (length w.coded.graph.signals) i (code_fits w.coded k kept.coded here.inside) above)
    ]
step_below given w (p ∷ rest) u k e l s is kept grows step small over =
    let v = grows.0 in
    let m = made_of given w p v kept grows.1 in
    let more = more_signals w p v grows.1 in
    let v_kept = keeps_next given w p v is kept grows.1 in
    let a = below given v rest u k is v_kept grows.2 over.inside in
    let next = step_below given v rest u k e l a.0 is v_kept grows.2 step (omega (arith, small, more)) a.1 in
    let x = the_copy given w p v m a.0 a.1.there in
    let moved =
    leads w.coded.graph p.partition (new_signal p.name) m.copies m.graph a.0 e next.0 x.0 m.inserted
    (step_in given w p v m a.0 e next.0 next.1) x.1.at in
    let copied =
    given_copied w.coded.graph p.partition x.0 e moved.0 (λ same. omega (arith, same, small)) moved.2 in
    let over_x =
    over_over w v u x.0.state a.0 k (omega (arith, more)) (over_copy given w p v m a.0 x.0 x.1) a.1 in
    let same : x.0.state ≡ s = one_below given w u x.0.state s k kept over_x over in
    let P : ℕ → Type 0 = λ i. Step w.coded.graph i e moved.0.state in
    (moved.0.state, subst P same copied.step)

-- ---- up: each step of w is made somewhere over it
pub step_above : (given : CodedGraph) (w : Current) (rest : List TraceStep) (u : Current) (s : ℕ) (e : Event) (t : ℕ)
    → IsCoded given → Keeps given w → Grows w rest u → Step w.coded.graph s e t
    → (k : ℕ) × (l : ℕ) × Over w u s k × Step u.coded.graph k e l
step_above given w [] u s e t is kept grows step =
    let P : Current → Type 0 = λ x. Over w x s s × Step x.coded.graph s e t in
    let parts = step_within w.coded.graph s e t kept.coded.graph_is step in
    let r = subst P grows (over_itself w s parts.0, step) in
    (s, t, r.0, r.1)
step_above given w (p ∷ rest) u s e t is kept grows step =
    let g = w.coded.graph in
    let v = grows.0 in
    let m = made_of given w p v kept grows.1 in
    let parts = step_within g s e t kept.coded.graph_is step in
    let b = entry (class_of p.partition t) in
    let law = m.lawful.arcs s e t step in
    let x = copy s b in
    let at =
    placed g p.partition (new_signal p.name) m.copies m.graph x m.inserted (record {
      within = parts.0;
      there = leaves (class_of p.partition s) (class_of p.partition t) law;
    }) in
    let move : IsCopied g p.partition x e (copy t b) =
    record { step = step; keeps = refl; goes = enters (class_of p.partition s) (class_of p.partition t) law } in
    let on =
    goes_on g p.partition (new_signal p.name) m.copies m.graph at.0 e x (copy t b) kept.coded.graph_is m.lawful
    m.inserted at.2 (inl move) in
    let x_at = copy_place given w p v m at.0 x at.2 parts.0 in
    let r =
    step_above given v rest u at.0 e on.0 is (keeps_next given w p v is kept grows.1) grows.2
    (step_of given w p v m at.0 e on.0 on.2) in
    (r.0, r.1, over_over w v u s at.0 r.0 (omega (arith, more_signals w p v grows.1)) (over_copy given w p v m at.0 x x_at) r.2, r.3)

-- ---- the classes are told by the steps of the new signal over them
pub switch_above : (given : CodedGraph) (w : Current) (p : TraceStep) (v : Current) (rest : List TraceStep) (u : Current)
    (s : ℕ) (up : Bool) → IsCoded given → Keeps given w → Inserts w p v → Grows v rest u → s < w.coded.graph.states
    → class_of p.partition s ≡ switching up
    → (k : ℕ) × (l : ℕ) × Over w u s k × Step u.coded.graph k (record { sig = length w.coded.graph.signals; up = up }) l
switch_above given w p v rest u s up is kept ins grows there class =
    let g = w.coded.graph in
    let e : Event = record { sig = length g.signals; up = up } in
    let m = made_of given w p v kept ins in
    let x = copy s (not up) in
    let y = copy s up in
    let at =
    placed g p.partition (new_signal p.name) m.copies m.graph x m.inserted (record {
      within = there;
      there = has_both (class_of p.partition s) up (not up) class;
    }) in
    let switch : IsSwitch g p.partition x e y = record { new = refl; stays = refl; from = refl; to = refl; class = class } in
    let on =
    goes_on g p.partition (new_signal p.name) m.copies m.graph at.0 e x y kept.coded.graph_is m.lawful m.inserted at.2
    (inr switch) in
    let x_at = copy_place given w p v m at.0 x at.2 there in
    let r =
    step_above given v rest u at.0 e on.0 is (keeps_next given w p v is kept ins) grows
    (step_of given w p v m at.0 e on.0 on.2) in
    (r.0, r.1, over_over w v u s at.0 r.0 (omega (arith, more_signals w p v ins)) (over_copy given w p v m at.0 x x_at) r.2, r.3)
  where
    has_both : (c : Class) (up b : Bool) → c ≡ switching up → insertion.has_copy c b ≡ true
    has_both c up b same = rw same (switching_there up b)

pub switch_below : (given : CodedGraph) (w : Current) (p : TraceStep) (v : Current) (rest : List TraceStep) (u : Current)
    (s k : ℕ) (e : Event) (l : ℕ) → IsCoded given → Keeps given w → Inserts w p v → Grows v rest u → Over w u s k
    → e.sig ≡ length w.coded.graph.signals → Step u.coded.graph k e l → class_of p.partition s ≡ switching e.up
switch_below given w p v rest u s k e l is kept ins grows over new step =
    let g = w.coded.graph in
    let m = made_of given w p v kept ins in
    let v_kept = keeps_next given w p v is kept ins in
    let more = more_signals w p v ins in
    let a = below given v rest u k is v_kept grows over.inside in
    let next = step_below given v rest u k e l a.0 is v_kept grows step (omega (arith, new, more)) a.1 in
    let x = the_copy given w p v m a.0 a.1.there in
    let moved =
    leads g p.partition (new_signal p.name) m.copies m.graph a.0 e next.0 x.0 m.inserted
    (step_in given w p v m a.0 e next.0 next.1) x.1.at in
    let switch = new_switches g p.partition x.0 e moved.0 kept.coded.graph_is new moved.2 in
    let over_x = over_over w v u x.0.state a.0 k (omega (arith, more)) (over_copy given w p v m a.0 x.0 x.1) a.1 in
    let same : x.0.state ≡ s = one_below given w u x.0.state s k kept over_x over in
    let P : ℕ → Type 0 = λ i. class_of p.partition i ≡ switching e.up in
    subst P same switch.class
