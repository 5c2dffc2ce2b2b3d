-- Where the inserted graphs are alike, so are the graphs before, and the new signal switches at the same states.
use Rattle.std.proofs.Common.{◌≡◌, ℕ, ◌<◌, ◌⊎◌, Bool, true, not, List, refl, sym, ap, subst, ◌∙◌}
use Rattle.std.proofs.Common.{arith, length, slice_get, Some, inl, inr}
use Rattle.std.proofs.lemmas.Bool.{cases_eq}
use Rattle.si_base.specs.declared.ids.Event.{Event}
use Rattle.si_base.specs.Bits.{bit}
use Rattle.si_base.specs.Graph.{StateGraph, Step}
use Rattle.si_base.specs.Codes.{CodedGraph, code, IsCoded}
use Rattle.si_base.proofs.BitFacts.{same_codes}
use Rattle.si_base.proofs.RightGateLemmas.{step_within, code_fits}
use Rattle.si_insert.specs.declared.partition.Class.{Class}
use Rattle.si_insert.specs.declared.lineage.TraceStep.{TraceStep}
use Rattle.si_insert.specs.Partition.{class_of, IsLawful}
use Rattle.si_insert.specs.Insertion.{Copy, IsCopied, IsSwitch, IsInsertedGraph, entry, switching, copy_code, coded, new_signal}
use Rattle.si_insert.specs.Insertion as insertion
use Rattle.si_insert.specs.Lineage.{Current, origin, Keeps, Inserts, next_current}
use Rattle.si_insert.proofs.PartitionClasses.{entry_there, leaves, enters, switching_there}
use Rattle.si_insert.proofs.InsertionCopies.{copy, copy_at, placed, given_copied, new_switches}
use Rattle.si_base.proofs.StepCodes.{no_bit}
use Rattle.si_insert.proofs.InsertionProper.{leads, goes_on, code_at, old_bit, new_bit, within}
use Rattle.si_insert.proofs.InsertionKeeps.{origin_at}
use Rattle.si_found.proofs.Twins.{Twin, Alike}

-- an insertion into w, whose inserted graph is v
pub record Made (given : CodedGraph) (w : Current) (p : TraceStep) (v : Current) : Type 0 where
  pub keeps : Keeps given w
  pub copies : List Copy
  pub graph : StateGraph
  pub lawful : IsLawful w.coded.graph p.partition
  pub inserted : IsInsertedGraph w.coded.graph p.partition (new_signal p.name) copies graph
  pub is : v ≡ next_current w copies graph

pub made_of : (given : CodedGraph) (w : Current) (p : TraceStep) (v : Current) → Keeps given w → Inserts w p v
    → Made given w p v
made_of given w p v keeps ins = record {
  keeps = keeps;
  copies = ins.copies;
  graph = ins.graph;
  lawful = ins.accepted.lawful;
  inserted = ins.insertion;
  is = ins.makes;
}

-- the copy that a state of v is
pub record CopyAt (w : Current) (p : TraceStep) (v : Current) (copies : List Copy) (k : ℕ) (x : Copy) : Type 0 where
  pub at : slice_get copies k ≡ Some x
  pub inside : k < v.coded.graph.states
  pub state : x.state < w.coded.graph.states
  pub origin_is : origin v k ≡ origin w x.state
  pub code_is : code v.coded k ≡ copy_code w.coded x

pub copy_place : (given : CodedGraph) (w : Current) (p : TraceStep) (v : Current) (m : Made given w p v) (k : ℕ) (x : Copy)
    → slice_get m.copies k ≡ Some x → x.state < w.coded.graph.states → CopyAt w p v m.copies k x
copy_place given w p v m k x at small =
    let P : Current → Type 0 = λ u. CopyAt w p u m.copies k x in
    subst P (sym m.is) (record {
      at = at;
      inside = within m.copies w.coded.graph p.partition (new_signal p.name) m.graph k x m.inserted at;
      state = small;
      origin_is = origin_at w m.copies m.graph k x at;
      code_is = code_at w.coded m.copies m.graph k x at;
    })

states_of : (given : CodedGraph) (w : Current) (p : TraceStep) (v : Current) (m : Made given w p v)
    → v.coded.graph ≡ m.graph
states_of given w p v m = ap (λ (u : Current). u.coded.graph) m.is

-- the copy at a place
pub the_copy : (given : CodedGraph) (w : Current) (p : TraceStep) (v : Current) (m : Made given w p v) (k : ℕ)
    → k < v.coded.graph.states → (x : Copy) × CopyAt w p v m.copies k x
the_copy given w p v m k there =
    let P : StateGraph → Type 0 = λ g. k < g.states in
    let x =
    copy_at w.coded.graph p.partition (new_signal p.name) m.copies m.graph k m.inserted (subst P (states_of given w p v m) there) in
    (x.0, copy_place given w p v m k x.0 x.1 x.2.within)

-- ---- equal codes of copies
same_state_code : (c d : CodedGraph) (x y : Copy) → IsCoded c → IsCoded d
    → length c.graph.signals ≡ length d.graph.signals → x.state < c.graph.states → y.state < d.graph.states
    → copy_code c x ≡ copy_code d y → code c x.state ≡ code d y.state
same_state_code c d x y c_is d_is count x_in y_in same =
    same_codes (code c x.state) (code d y.state) (λ i. at i (cases_eq i (length c.graph.signals)))
  where
    at : (i : ℕ) → ((i ≡ length c.graph.signals) ⊎ (i ≡ length c.graph.signals → ⊥))
        → bit (code c x.state) i ≡ bit (code d y.state) i
    at i (inl new) =
        no_bit (code c x.state) (length c.graph.signals) i (code_fits c x.state c_is x_in) (omega (arith, new))
        ∙ sym (no_bit (code d y.state) (length d.graph.signals) i (code_fits d y.state d_is y_in) (omega (arith, new, count)))
    at i (inr old) =
        sym (old_bit c x i old) ∙ ap (λ (k : ℕ). bit k i) same ∙ old_bit d y i (λ e. old (e ∙ sym count))

same_value : (c d : CodedGraph) (x y : Copy) → IsCoded c → IsCoded d
    → length c.graph.signals ≡ length d.graph.signals → x.state < c.graph.states → y.state < d.graph.states
    → copy_code c x ≡ copy_code d y → x.value ≡ y.value
same_value c d x y c_is d_is count x_in y_in same =
    sym (new_bit c x c_is x_in) ∙ ap (λ (k : ℕ). bit k (length c.graph.signals)) same
    ∙ ap (λ (i : ℕ). bit (copy_code d y) i) count ∙ new_bit d y d_is y_in

-- ---- two insertions
pub record Pair (given : CodedGraph) (w : Current) (p : TraceStep) (v w2 : Current) (p2 : TraceStep) (v2 : Current)
    : Type 0 where
  pub one : Made given w p v
  pub other : Made given w2 p2 v2
  pub count : length w.coded.graph.signals ≡ length w2.coded.graph.signals
  pub alike : Alike v v2

-- twins of v are copies, at one value, of twins of w
pub twin_below : (given : CodedGraph) (w : Current) (p : TraceStep) (v w2 : Current) (p2 : TraceStep) (v2 : Current)
    (q : Pair given w p v w2 p2 v2) (k m : ℕ) (x : Copy) → CopyAt w p v q.one.copies k x → Twin v v2 k m
    → (y : Copy) × CopyAt w2 p2 v2 q.other.copies m y × (x.value ≡ y.value) × Twin w w2 x.state y.state
twin_below given w p v w2 p2 v2 q k m x at twin =
    let y = the_copy given w2 p2 v2 q.other m twin.there in
    let same : copy_code w.coded x ≡ copy_code w2.coded y.0 = sym at.code_is ∙ twin.codes ∙ y.1.code_is in
    let c_is = q.one.keeps.coded in
    let d_is = q.other.keeps.coded in (
      y.0,
      y.1,
      same_value w.coded w2.coded x y.0 c_is d_is q.count at.state y.1.state same,
      record {
        there = y.1.state;
        origins = sym at.origin_is ∙ twin.origins ∙ y.1.origin_is;
        codes = same_state_code w.coded w2.coded x y.0 c_is d_is q.count at.state y.1.state same;
      },
    )

-- a state has one twin at most
pub one_twin : (given : CodedGraph) (w w2 : Current) (s a b : ℕ) → Keeps given w2 → Twin w w2 s a → Twin w w2 s b → a ≡ b
one_twin given w w2 s a b keeps one other =
    keeps.determined a b one.there other.there (sym one.origins ∙ other.origins)
    (λ i _. ap (λ (k : ℕ). bit k i) (sym one.codes ∙ other.codes))

-- a move of a copy is a step of v
pub step_of : (given : CodedGraph) (w : Current) (p : TraceStep) (v : Current) (m : Made given w p v) (k : ℕ) (e : Event) (l : ℕ)
    → Step m.graph k e l → Step v.coded.graph k e l
step_of given w p v m k e l step = let P : StateGraph → Type 0 = λ g. Step g k e l in subst P (sym (states_of given w p v m)) step

pub step_in : (given : CodedGraph) (w : Current) (p : TraceStep) (v : Current) (m : Made given w p v) (k : ℕ) (e : Event) (l : ℕ)
    → Step v.coded.graph k e l → Step m.graph k e l
step_in given w p v m k e l step = let P : StateGraph → Type 0 = λ g. Step g k e l in subst P (states_of given w p v m) step

peel_states : (given : CodedGraph) (w : Current) (p : TraceStep) (v w2 : Current) (p2 : TraceStep) (v2 : Current)
    (q : Pair given w p v w2 p2 v2) (s : ℕ) → s < w.coded.graph.states → (t : ℕ) × Twin w w2 s t
peel_states given w p v w2 p2 v2 q s there =
    let x = copy s (entry (class_of p.partition s)) in
    let at =
    placed w.coded.graph p.partition (new_signal p.name) q.one.copies q.one.graph x q.one.inserted (record {
      within = there;
      there = entry_there (class_of p.partition s);
    }) in
    let here = copy_place given w p v q.one at.0 x at.2 there in
    let m = q.alike.states at.0 here.inside in
    let below = twin_below given w p v w2 p2 v2 q at.0 m.0 x here m.1 in
    (below.0.state, below.3)

peel_steps : (given : CodedGraph) (w : Current) (p : TraceStep) (v w2 : Current) (p2 : TraceStep) (v2 : Current)
    (q : Pair given w p v w2 p2 v2) (s a : ℕ) (e : Event) (t : ℕ) → Twin w w2 s a → Step w.coded.graph s e t
    → (b : ℕ) × Step w2.coded.graph a e b × Twin w w2 t b
peel_steps given w p v w2 p2 v2 q s a e t twin step =
    let g = w.coded.graph in
    let parts = step_within g s e t q.one.keeps.coded.graph_is step in
    let b = entry (class_of p.partition t) in
    let law = q.one.lawful.arcs s e t step in
    let x = copy s b in
    let y = copy t b in
    let at =
    placed g p.partition (new_signal p.name) q.one.copies q.one.graph x q.one.inserted (record {
      within = parts.0;
      there = leaves (class_of p.partition s) (class_of p.partition t) law;
    }) in
    let move : IsCopied g p.partition x e y =
    record { step = step; keeps = refl; goes = enters (class_of p.partition s) (class_of p.partition t) law } in
    let on =
    goes_on g p.partition (new_signal p.name) q.one.copies q.one.graph at.0 e x y q.one.keeps.coded.graph_is q.one.lawful
    q.one.inserted at.2 (inl move) in
    let x_at = copy_place given w p v q.one at.0 x at.2 parts.0 in
    let y_at = copy_place given w p v q.one on.0 y on.1 parts.2 in
    let m = q.alike.states at.0 x_at.inside in
    let x_below = twin_below given w p v w2 p2 v2 q at.0 m.0 x x_at m.1 in
    let next = q.alike.steps at.0 m.0 e on.0 x_at.inside m.1 (step_of given w p v q.one at.0 e on.0 on.2) in
    let y_below = twin_below given w p v w2 p2 v2 q on.0 next.0 y y_at next.2 in
    let moved =
    leads w2.coded.graph p2.partition (new_signal p2.name) q.other.copies q.other.graph m.0 e next.0 x_below.0
    q.other.inserted (step_in given w2 p2 v2 q.other m.0 e next.0 next.1) x_below.1.at in
    let given_sig : e.sig ≡ length w2.coded.graph.signals → ⊥ = λ same. omega (arith, same, parts.1, q.count) in
    let copied = given_copied w2.coded.graph p2.partition x_below.0 e moved.0 given_sig moved.2 in
    let same_y : moved.0 ≡ y_below.0 = same_copy_at q.other.copies next.0 moved.0 y_below.0 moved.1 y_below.1.at in
    let same_x : x_below.0.state ≡ a = one_twin given w w2 s x_below.0.state a q.other.keeps x_below.3 twin in
    let P : ℕ → ℕ → Type 0 = λ i j. Step w2.coded.graph i e j in (
      y_below.0.state,
      subst (λ (i : ℕ). P i y_below.0.state) same_x
          (subst (λ (j : ℕ). P x_below.0.state j) (ap (λ (c : Copy). c.state) same_y) copied.step),
      y_below.3,
    )
  where
    same_copy_at : (copies : List Copy) (k : ℕ) (x y : Copy) → slice_get copies k ≡ Some x → slice_get copies k ≡ Some y → x ≡ y
    same_copy_at copies k x y one other = cc

pub peeled : (given : CodedGraph) (w : Current) (p : TraceStep) (v w2 : Current) (p2 : TraceStep) (v2 : Current)
    → Pair given w p v w2 p2 v2 → Alike w w2
peeled given w p v w2 p2 v2 q = record {
  states = peel_states given w p v w2 p2 v2 q;
  steps = λ s a e t there twin step. peel_steps given w p v w2 p2 v2 q s a e t twin step;
}

-- at twins the new signal switches alike
pub same_switch : (given : CodedGraph) (w : Current) (p : TraceStep) (v w2 : Current) (p2 : TraceStep) (v2 : Current)
    (q : Pair given w p v w2 p2 v2) (s a : ℕ) (up : Bool) → s < w.coded.graph.states → Twin w w2 s a
    → class_of p.partition s ≡ switching up → class_of p2.partition a ≡ switching up
same_switch given w p v w2 p2 v2 q s a up there twin class =
    let g = w.coded.graph in
    let n = length g.signals in
    let e : Event = record { sig = n; up = up } in
    let x = copy s (not up) in
    let y = copy s up in
    let at =
    placed g p.partition (new_signal p.name) q.one.copies q.one.graph x q.one.inserted (record {
      within = there;
      there = has_both (class_of p.partition s) up (not up) class;
    }) in
    let switch : IsSwitch g p.partition x e y = record { new = refl; stays = refl; from = refl; to = refl; class = class } in
    let on =
    goes_on g p.partition (new_signal p.name) q.one.copies q.one.graph at.0 e x y q.one.keeps.coded.graph_is q.one.lawful
    q.one.inserted at.2 (inr switch) in
    let x_at = copy_place given w p v q.one at.0 x at.2 there in
    let m = q.alike.states at.0 x_at.inside in
    let x_below = twin_below given w p v w2 p2 v2 q at.0 m.0 x x_at m.1 in
    let next = q.alike.steps at.0 m.0 e on.0 x_at.inside m.1 (step_of given w p v q.one at.0 e on.0 on.2) in
    let moved =
    leads w2.coded.graph p2.partition (new_signal p2.name) q.other.copies q.other.graph m.0 e next.0 x_below.0
    q.other.inserted (step_in given w2 p2 v2 q.other m.0 e next.0 next.1) x_below.1.at in
    let is_new =
    new_switches w2.coded.graph p2.partition x_below.0 e moved.0 q.other.keeps.coded.graph_is q.count moved.2 in
    let same_x : x_below.0.state ≡ a = one_twin given w w2 s x_below.0.state a q.other.keeps x_below.3 twin in
    let P : ℕ → Type 0 = λ i. class_of p2.partition i ≡ switching up in
    subst P same_x is_new.class
  where
    has_both : (c : Class) (up b : Bool) → c ≡ switching up → insertion.has_copy c b ≡ true
    has_both c up b same = rw same (switching_there up b)
