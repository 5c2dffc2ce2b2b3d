-- Insertion after insertion of a netlist.
use Rattle.std.proofs.Common.{◌≡◌, ◌≢◌, ℕ, ◌+◌, ◌<◌, List, [], ◌∷◌, ◌++◌, length, map, get_or, take, drop}
use Rattle.std.proofs.Common.{AllPairs, append_assoc, refl, sym, ap, subst, ◌∙◌, arith}
use Rattle.std.proofs.lemmas.List.{append-nil, drop_more, length-take-le, map-append, take-append-drop}
use Rattle.std.proofs.lemmas.List.{take_more}
use Rattle.si_base.specs.declared.graph.Signal.{Signal}
use Rattle.si_base.specs.Codes.{CodedGraph}
use Rattle.si_base.specs.Netlist.{Insertion, Netlist}
use Rattle.si_base.specs.System.{IsFor}
use Rattle.si_base.specs.WellFormed.{IsNetlist}
use Rattle.si_insert.specs.declared.lineage.TraceStep.{TraceStep}
use Rattle.si_insert.specs.Fresh.{IsTaken}
use Rattle.si_insert.specs.Insertion.{new_signal}
use Rattle.si_insert.specs.Lineage.{Current, History, given_history}
use Rattle.si_audit.specs.declared.fault.AuditFault.{AuditFault}
use Rattle.si_audit.specs.Audit.{Takes, TakesAll}
use Rattle.si_audit.specs.Faults.{ShowsRejection, StopsAt}
use Rattle.si_audit.proofs.WalkSignals.{new_of, signals_are, free_before}
use Rattle.si_audit.proofs.InsertionFaults.{stops_show}

-- ---- what stays and what grows
pub given_stays : (states : List (List ℕ)) (l : History) (inserts : List Insertion) (m : History)
    → TakesAll states l inserts m → m.given ≡ l.given
given_stays states l [] m taken = ap (λ (h : History). h.given) (sym taken)
given_stays states l (i ∷ rest) m taken =
    given_stays states taken.0 rest m taken.2 ∙ taken.1.extends.given_stays

signals_next : (states : List (List ℕ)) (l : History) (i : Insertion) (m : History) → Takes states l i m
    → m.current.coded.graph.signals ≡ l.current.coded.graph.signals ++ new_signal i.name ∷ []
signals_next states l i m takes =
    ap (λ (v : Current). v.coded.graph.signals) takes.extends.inserts.makes ∙ takes.extends.inserts.insertion.signals
    ∙ ap (λ (name : List ℕ). l.current.coded.graph.signals ++ new_signal name ∷ []) takes.name_is

pub signals_grow : (states : List (List ℕ)) (l : History) (inserts : List Insertion) (m : History)
    → TakesAll states l inserts m → m.current.coded.graph.signals ≡ l.current.coded.graph.signals ++ new_of inserts
signals_grow states l [] m taken =
    ap (λ (h : History). h.current.coded.graph.signals) (sym taken)
    ∙ sym (append-nil l.current.coded.graph.signals)
signals_grow states l (i ∷ rest) m taken =
    signals_grow states taken.0 rest m taken.2
    ∙ ap (λ (xs : List Signal). xs ++ new_of rest) (signals_next states l i taken.0 taken.1)
    ∙ append_assoc l.current.coded.graph.signals (new_signal i.name ∷ []) (new_of rest)

pub names_grow : (states : List (List ℕ)) (l : History) (inserts : List Insertion) (m : History)
    → TakesAll states l inserts m → map (λ p. p.name) m.trace ≡ map (λ p. p.name) l.trace ++ map (λ i. i.name) inserts
names_grow states l [] m taken =
    ap (λ (h : History). map (λ (p : TraceStep). p.name) h.trace) (sym taken)
    ∙ sym (append-nil (map (λ (p : TraceStep). p.name) l.trace))
names_grow states l (i ∷ rest) m taken =
    let name : TraceStep → List ℕ = λ p. p.name in
    let w = taken.0 in
    let p = taken.1.step in
    names_grow states w rest m taken.2
    ∙ ap (λ (xs : List (List ℕ)). xs ++ map (λ (j : Insertion). j.name) rest)
    (ap (map name) taken.1.extends.trace_grows ∙ map-append name l.trace (p ∷ [])
    ∙ ap (λ (n : List ℕ). map name l.trace ++ n ∷ []) taken.1.name_is)
    ∙ append_assoc (map name l.trace) (i.name ∷ []) (map (λ (j : Insertion). j.name) rest)

-- ---- one more insertion
pub one_more : (states : List (List ℕ)) (l : History) (inserts : List Insertion) (m : History) (i : Insertion)
    (w : History)
    → TakesAll states l inserts m → Takes states m i w → TakesAll states l (inserts ++ i ∷ []) w
one_more states l [] m i w taken takes =
    (w, subst (λ (h : History). Takes states h i w) (sym taken) takes, refl)
one_more states l (j ∷ rest) m i w taken takes =
    (taken.0, taken.1, one_more states taken.0 rest m i w taken.2 takes)

-- the name of the next insertion is free
pub free_at : (states : List (List ℕ)) (c : CodedGraph) (n : Netlist) (l : History) (before : List Insertion)
    (i : Insertion) (after : List Insertion) → n.inserts ≡ before ++ i ∷ after
    → TakesAll states (given_history c) before l → IsNetlist n → IsFor c n
    → IsTaken l.current.coded.graph.signals i.name → ⊥
free_at states c n l before i after cut taken is fits =
    let front : List Signal = c.graph.signals ++ new_of before in
    let rest : List Signal = new_of after in
    let split : n.signals ≡ front ++ new_signal i.name ∷ rest =
    signals_are c n is fits
    ∙ ap (λ (xs : List Insertion). c.graph.signals ++ new_of xs) cut
    ∙ ap (λ (xs : List Signal). c.graph.signals ++ xs)
    (map-append (λ (j : Insertion). new_signal j.name) before (i ∷ after))
    ∙ sym (append_assoc c.graph.signals (new_of before) (new_signal i.name ∷ rest)) in
    let now : l.current.coded.graph.signals ≡ front = signals_grow states (given_history c) before l taken in
    let P : List Signal → Type 0 = λ xs. AllPairs (λ x z. x.name ≢ z.name) xs in
    let free : IsTaken front i.name → ⊥ =
    free_before front rest (new_signal i.name) (subst P split is.distinct) in
    subst (λ (xs : List Signal). IsTaken xs i.name → ⊥) (sym now) free

module _ (states : List (List ℕ)) (c : CodedGraph) (n : Netlist) (k : ℕ) (l : History) (inserts : List Insertion)
    (i : Insertion) (same : inserts ≡ n.inserts) (within : k < length inserts) (item : i ≡ get_or inserts k i)
    (taken : TakesAll states (given_history c) (take k n.inserts) l) where
  there : k < length n.inserts
  there = subst (λ (xs : List Insertion). k < length xs) same within

  item_is : get_or n.inserts k i ≡ i
  item_is = sym (subst (λ (xs : List Insertion). i ≡ get_or xs k i) same item)

  pub next_taken : (w : History) → Takes states l i w → TakesAll states (given_history c) (take (k + 1) n.inserts) w
  next_taken w takes =
      let P : List Insertion → Type 0 = λ xs. TakesAll states (given_history c) xs w in
      let more : take (k + 1) n.inserts ≡ take k n.inserts ++ i ∷ [] =
      take_more n.inserts k i there ∙ ap (λ (j : Insertion). take k n.inserts ++ j ∷ []) item_is in
      subst P (sym more) (one_more states (given_history c) (take k n.inserts) l i w taken takes)

  cut : n.inserts ≡ take k n.inserts ++ i ∷ drop (k + 1) n.inserts
  cut = sym (take-append-drop k n.inserts)
      ∙ ap (λ (xs : List Insertion). take k n.inserts ++ xs)
      (drop_more n.inserts k i there ∙ ap (λ (j : Insertion). j ∷ drop (k + 1) n.inserts) item_is)

  pub next_rejected : (number : ℕ) (fault : AuditFault) → number ≡ k + 1 → StopsAt states l i number fault
      → ShowsRejection states c n fault
  next_rejected number fault number_is stops =
      let count : number ≡ length (take k n.inserts) + 1 =
      omega (arith, length-take-le k n.inserts (omega (arith, there)), number_is) in
      stops_show states c n l i number fault
      (λ f also. record {
        before = take k n.inserts;
        insertion = i;
        after = drop (k + 1) n.inserts;
        cut = cut;
        lineage = l;
        taken = taken;
        stops = subst (λ (m : ℕ). StopsAt states l i m f) count also;
      }) stops

  pub next_free : IsNetlist n → IsFor c n → IsTaken l.current.coded.graph.signals i.name → ⊥
  next_free is fits = free_at states c n l (take k n.inserts) i (drop (k + 1) n.inserts) cut taken is fits

  pub names_stay : length states ≡ c.graph.states → length states ≡ l.given.graph.states
  names_stay count =
      count ∙ ap (λ (d : CodedGraph). d.graph.states)
      (sym (given_stays states (given_history c) (take k n.inserts) l taken))

-- ---- the end
pub last_signals : (states : List (List ℕ)) (c : CodedGraph) (n : Netlist) (l : History) → IsNetlist n → IsFor c n
    → TakesAll states (given_history c) n.inserts l → n.signals ≡ l.current.coded.graph.signals
last_signals states c n l is fits taken =
    signals_are c n is fits ∙ sym (signals_grow states (given_history c) n.inserts l taken)
