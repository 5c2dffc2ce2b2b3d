-- The first six lines of a netlist text, one after the other.
use Rattle.std.proofs.Common.{◌≡◌, ℕ, suc, List, [], ◌∷◌, ◌++◌, length, refl, sym, ap, ◌∙◌, Option, codes, subst}
use Rattle.si_base.specs.declared.fault.TextKind.{TextKind}
use Rattle.si_netlist_reader.specs.NetlistFault.{due_in, due_after, names_at, model_fault, start_fault}
use Rattle.si_words.specs.Lines.{Form, rest_of, words_of, names_fault}
use Rattle.si_words.specs.Loops.RowValues.{TakesValue}
use Rattle.si_words.specs.Rows.{Left, fault_of, AddsNames, TakesForm}
use Rattle.si_words.proofs.RowLemmas.{row_step}
use Rattle.std.proofs.Common.{Result, Err}
use Rattle.si_base.specs.declared.fault.TextFault.{TextFault}
use Rattle.si_base.specs.TextFaults.{ToldBy, Shows}
use Rattle.si_netlist_reader.specs.declared.header.Header.{Header}
use Rattle.si_netlist_reader.specs.Loops.Headers.{ReadsHeader, model_of, start_of}

abbrev pub from5 : List (List ℕ) → List (List ℕ) → List (List ℕ) → List (List ℕ) → List Form
from5 i o n s = start_fault (length (i ++ o ++ n ++ s)) ∷ due_after i o n s

abbrev L : Type 0
L = List (List ℕ)

cong4 : {B : Type 0} (f : L → L → L → L → B) {a b c d e g h i : L} → a ≡ e → b ≡ g → c ≡ h
    → d ≡ i → f a b c d ≡ f e g h i
cong4 f {b = b} {c = c} {d = d} {e = e} {g = g} {h = h} p q r s = ap (λ (x : L). f x b c d) p
    ∙ ap (λ (x : L). f e x c d) q ∙ ap (λ (x : L). f e g x d) r ∙ ap (λ (x : L). f e g h x) s

nothing : (x : L) → x ≡ x
nothing x = refl

names_step : (form : Form) (forms : List Form) (old new : Left) (before after : List (List ℕ))
    → AddsNames form old new before after → fault_of (form ∷ forms) old ≡ fault_of forms new
names_step form forms old new before after t = row_step form forms old new t.takes.words t.takes.takes t.takes.good

at_next : (k : ℕ) (form : Form) (old new : Left) (before after : List (List ℕ)) → AddsNames form old new before after
    → names_at (suc k) old.lines ≡ names_at k new.lines
at_next k form old new before after t = rw t.takes.takes.lines refl

at_here : (form : Form) (old new : Left) (before after : List (List ℕ)) (t : AddsNames form old new before after)
    → names_at 0 old.lines ≡ t.added
at_here form old new before after t =
    rw t.takes.takes.lines (ap rest_of (sym t.takes.takes.words_are) ∙ sym t.takes.names_are)

pub h6 : (l5 l6 : Left) (i o n s : List (List ℕ)) (k : ℕ) → k ≡ length (i ++ o ++ n ++ s)
    → TakesForm (start_fault k) l5 l6 → fault_of (from5 i o n s) l5 ≡ fault_of (due_after i o n s) l6
h6 l5 l6 i o n s k e t = head e ∙ row_step (start_fault k) (due_after i o n s) l5 l6 t.words t.takes t.good
  where
    head : k ≡ length (i ++ o ++ n ++ s) → fault_of (from5 i o n s) l5 ≡ fault_of (start_fault k ∷ due_after i o n s) l5
    head e1 = ap (λ (x : ℕ). fault_of (start_fault x ∷ due_after i o n s) l5) (sym e1)

pub failed : {X : Type 0} (r : Result X TextFault) (x e : TextFault) (a b : Option (ℕ × TextKind)) → r ≡ Err x → x ≡ e
    → a ≡ b → Shows e b → ToldBy r a
failed r x e a b is from same told = rw (is, from, same) told

-- the fault of the text, told by the lines from each of the six on

-- ---- the parts that the six lines spell

pub formed : {V : Type 0} (form : Form) (spelled : L → V) (old new : Left) (value : V)
    → TakesValue form spelled old new value → TakesForm form old new
formed form spelled old new value t = record { words = t.words; takes = t.takes; good = t.good }

one_of : (a b : Left) (form : Form) (n m : L) (t : AddsNames form a b n m)
    → (line : List ℕ) × (a.lines ≡ line ∷ b.lines) × (rest_of (words_of line) ≡ t.added)
one_of a b form n m t =
    (t.takes.takes.line, t.takes.takes.lines, ap rest_of (sym t.takes.takes.words_are) ∙ sym t.takes.names_are)

value_of : {V : Type 0} (form : Form) (spelled : L → V) (a b : Left) (v : V) (t : TakesValue form spelled a b v)
    → v ≡ spelled (words_of t.takes.line)
value_of form spelled a b v t = t.value_is ∙ ap spelled t.takes.words_are

six : (a b c d e f : List ℕ) (l0 l1 l2 l3 l4 l5 l6 : L) → l0 ≡ a ∷ l1 → l1 ≡ b ∷ l2 → l2 ≡ c ∷ l3 → l3 ≡ d ∷ l4
    → l4 ≡ e ∷ l5 → l5 ≡ f ∷ l6 → l0 ≡ a ∷ b ∷ c ∷ d ∷ e ∷ f ∷ l6
six a b c d e f l0 l1 l2 l3 l4 l5 l6 p0 p1 p2 p3 p4 p5 = rw (p0, p1, p2, p3, p4, p5) refl

-- ---- line by line, where so many signals may be named
module _ (limit : ℕ) where
  abbrev pub from4 : List (List ℕ) → List (List ℕ) → List (List ℕ) → List (List ℕ) → List Form
  from4 i o n s = names_fault limit (codes ".inserted") (i ++ o ++ n) ∷ from5 i o n s

  abbrev pub from3 : List (List ℕ) → List (List ℕ) → List (List ℕ) → List (List ℕ) → List Form
  from3 i o n s = names_fault limit (codes ".internal") (i ++ o) ∷ from4 i o n s

  abbrev pub from2 : List (List ℕ) → List (List ℕ) → List (List ℕ) → List (List ℕ) → List Form
  from2 i o n s = names_fault limit (codes ".outputs") i ∷ from3 i o n s

  abbrev pub from1 : List (List ℕ) → List (List ℕ) → List (List ℕ) → List (List ℕ) → List Form
  from1 i o n s = names_fault limit (codes ".inputs") [] ∷ from2 i o n s

  -- the line of a list was read: its names follow those before
  abbrev AddsInputs : Left → Left → L → L → Type 0
  AddsInputs old new before after = AddsNames (names_fault limit (codes ".inputs") before) old new before after

  abbrev AddsOutputs : Left → Left → L → L → Type 0
  AddsOutputs old new before after = AddsNames (names_fault limit (codes ".outputs") before) old new before after

  abbrev AddsInternals : Left → Left → L → L → Type 0
  AddsInternals old new before after = AddsNames (names_fault limit (codes ".internal") before) old new before after

  abbrev AddsInserted : Left → Left → L → L → Type 0
  AddsInserted old new before after = AddsNames (names_fault limit (codes ".inserted") before) old new before after

  pub h1 : (l0 l1 : Left) → TakesForm model_fault l0 l1 → fault_of (due_in limit l0.lines) l0
      ≡ fault_of (from1 (names_at 0 l1.lines) (names_at 1 l1.lines) (names_at 2 l1.lines) (names_at 3 l1.lines)) l1
  h1 l0 l1 m = row_step model_fault (from1 (names_at 1 l0.lines) (names_at 2 l0.lines)
      (names_at 3 l0.lines) (names_at 4 l0.lines)) l0 l1 m.words m.takes m.good ∙ ap
      (λ (ls : L). fault_of (from1 (names_at 1 ls) (names_at 2 ls) (names_at 3 ls) (names_at 4 ls)) l1) m.takes.lines

  pub h2 : (l1 l2 : Left) (n1 : List (List ℕ)) → AddsInputs l1 l2 [] n1
      → fault_of (from1 (names_at 0 l1.lines) (names_at 1 l1.lines) (names_at 2 l1.lines) (names_at 3 l1.lines)) l1
      ≡ fault_of (from2 n1 (names_at 0 l2.lines) (names_at 1 l2.lines) (names_at 2 l2.lines)) l2
  h2 l1 l2 n1 t = names_step (names_fault limit (codes ".inputs") []) (from2 (names_at 0 l1.lines) (names_at 1 l1.lines)
      (names_at 2 l1.lines) (names_at 3 l1.lines)) l1 l2 [] n1 t ∙ same (at_here _ l1 l2 [] n1 t ∙ sym t.names_are)
      (at_next 0 _ l1 l2 [] n1 t) (at_next 1 _ l1 l2 [] n1 t) (at_next 2 _ l1 l2 [] n1 t)
    where
      same : {a b c d e f g h : List (List ℕ)} → a ≡ e → b ≡ f → c ≡ g → d ≡ h
          → fault_of (from2 a b c d) l2 ≡ fault_of (from2 e f g h) l2
      same p q r s = cong4 (λ (x y z u : L). fault_of (from2 x y z u) l2) p q r s

  pub h3 : (l2 l3 : Left) (n1 n2 : List (List ℕ)) (t : AddsOutputs l2 l3 n1 n2)
      → fault_of (from2 n1 (names_at 0 l2.lines) (names_at 1 l2.lines) (names_at 2 l2.lines)) l2
      ≡ fault_of (from3 n1 t.added (names_at 0 l3.lines) (names_at 1 l3.lines)) l3
  h3 l2 l3 n1 n2 t = names_step (names_fault limit (codes ".outputs") n1)
      (from3 n1 (names_at 0 l2.lines) (names_at 1 l2.lines) (names_at 2 l2.lines)) l2 l3 n1 n2 t
      ∙ same (at_here _ l2 l3 n1 n2 t) (at_next 0 _ l2 l3 n1 n2 t) (at_next 1 _ l2 l3 n1 n2 t)
    where
      same : {b c d f g h : List (List ℕ)} → b ≡ f → c ≡ g → d ≡ h
          → fault_of (from3 n1 b c d) l3 ≡ fault_of (from3 n1 f g h) l3
      same q r s = cong4 (λ (x y z u : L). fault_of (from3 n1 y z u) l3) (nothing n1) q r s

  pub h4 : (l3 l4 : Left) (i o n2 n3 : List (List ℕ)) → n2 ≡ i ++ o → (t : AddsInternals l3 l4 n2 n3)
      → fault_of (from3 i o (names_at 0 l3.lines) (names_at 1 l3.lines)) l3
      ≡ fault_of (from4 i o t.added (names_at 0 l4.lines)) l4
  h4 l3 l4 i o n2 n3 e t = head e ∙ names_step (names_fault limit (codes ".internal") n2)
      (from4 i o (names_at 0 l3.lines) (names_at 1 l3.lines)) l3 l4 n2 n3 t
      ∙ same (at_here _ l3 l4 n2 n3 t) (at_next 0 _ l3 l4 n2 n3 t)
    where
      head : n2 ≡ i ++ o → fault_of (from3 i o (names_at 0 l3.lines) (names_at 1 l3.lines)) l3 ≡ fault_of (names_fault
          limit (codes ".internal") n2 ∷ from4 i o (names_at 0 l3.lines) (names_at 1 l3.lines)) l3
      head e1 = ap (λ (x : L). fault_of
          (names_fault limit (codes ".internal") x ∷ from4 i o (names_at 0 l3.lines) (names_at 1 l3.lines)) l3) (sym e1)

      same : {c d g h : List (List ℕ)} → c ≡ g → d ≡ h → fault_of (from4 i o c d) l4 ≡ fault_of (from4 i o g h) l4
      same r s = cong4 (λ (x y z u : L). fault_of (from4 i o z u) l4) (nothing i) (nothing o) r s

  pub h5 : (l4 l5 : Left) (i o n n3 n4 : List (List ℕ)) → n3 ≡ i ++ o ++ n → (t : AddsInserted l4 l5 n3 n4)
      → fault_of (from4 i o n (names_at 0 l4.lines)) l4 ≡ fault_of (from5 i o n t.added) l5
  h5 l4 l5 i o n n3 n4 e t =
      head e ∙ names_step (names_fault limit (codes ".inserted") n3) (from5 i o n (names_at 0 l4.lines)) l4 l5 n3 n4 t
      ∙ same (at_here _ l4 l5 n3 n4 t)
    where
      head : n3 ≡ i ++ o ++ n → fault_of (from4 i o n (names_at 0 l4.lines)) l4
          ≡ fault_of (names_fault limit (codes ".inserted") n3 ∷ from5 i o n (names_at 0 l4.lines)) l4
      head e1 =
          ap (λ (x : L). fault_of (names_fault limit (codes ".inserted") x ∷ from5 i o n (names_at 0 l4.lines)) l4)
          (sym e1)

      same : {d h : List (List ℕ)} → d ≡ h → fault_of (from5 i o n d) l5 ≡ fault_of (from5 i o n h) l5
      same s = ap (λ (u : L). fault_of (from5 i o n u) l5) s

  abbrev total : Left → Option (ℕ × TextKind)
  total l0 = fault_of (due_in limit l0.lines) l0

  abbrev pub Goes : Left → Form → Left → Type 0
  Goes l0 form l = (forms : List Form) × (total l0 ≡ fault_of (form ∷ forms) l)

  pub at2 : (l0 l1 : Left) (n0 : L) → n0 ≡ [] → TakesForm model_fault l0 l1
      → Goes l0 (names_fault limit (codes ".inputs") n0) l1
  at2 l0 l1 n0 e m = (
    from2 (names_at 0 l1.lines) (names_at 1 l1.lines) (names_at 2 l1.lines) (names_at 3 l1.lines),
    h1 l0 l1 m ∙ ap (λ (x : L). fault_of (names_fault limit (codes ".inputs") x
        ∷ from2 (names_at 0 l1.lines) (names_at 1 l1.lines) (names_at 2 l1.lines) (names_at 3 l1.lines)) l1) (sym e),
  )

  begun : (l1 l2 : Left) (n0 n1 : L) → n0 ≡ [] → AddsInputs l1 l2 n0 n1 → AddsInputs l1 l2 [] n1
  begun l1 l2 n0 n1 e t = subst (λ (x : L). AddsInputs l1 l2 x n1) e t

  pub at3 : (l0 l1 l2 : Left) (n0 n1 : L) → n0 ≡ [] → TakesForm model_fault l0 l1 → AddsInputs l1 l2 n0 n1
      → Goes l0 (names_fault limit (codes ".outputs") n1) l2
  at3 l0 l1 l2 n0 n1 e m t1 = (
    from3 n1 (names_at 0 l2.lines) (names_at 1 l2.lines) (names_at 2 l2.lines),
    h1 l0 l1 m ∙ h2 l1 l2 n1 (begun l1 l2 n0 n1 e t1),
  )

  pub record Three (l0 l1 l2 l3 : Left) (n0 n1 n2 : L) : Type 0 where
    pub none : n0 ≡ []
    pub m : TakesForm model_fault l0 l1
    pub t1 : AddsInputs l1 l2 n0 n1
    pub t2 : AddsOutputs l2 l3 n1 n2

  three : (l0 l1 l2 l3 : Left) (n0 n1 n2 : L) (a : Three l0 l1 l2 l3 n0 n1 n2)
      → total l0 ≡ fault_of (from3 n1 a.t2.added (names_at 0 l3.lines) (names_at 1 l3.lines)) l3
  three l0 l1 l2 l3 n0 n1 n2 a = h1 l0 l1 a.m ∙ h2 l1 l2 n1 (begun l1 l2 n0 n1 a.none a.t1) ∙ h3 l2 l3 n1 n2 a.t2

  pub at4 : (l0 l1 l2 l3 : Left) (n0 n1 n2 : L) → Three l0 l1 l2 l3 n0 n1 n2
      → Goes l0 (names_fault limit (codes ".internal") n2) l3
  at4 l0 l1 l2 l3 n0 n1 n2 a = (
    from4 n1 a.t2.added (names_at 0 l3.lines) (names_at 1 l3.lines),
    three l0 l1 l2 l3 n0 n1 n2 a ∙ ap (λ (x : L). fault_of (names_fault limit (codes ".internal") x
        ∷ from4 n1 a.t2.added (names_at 0 l3.lines) (names_at 1 l3.lines)) l3) (sym a.t2.names_are),
  )

  four : (l0 l1 l2 l3 l4 : Left) (n0 n1 n2 n3 : L) (a : Three l0 l1 l2 l3 n0 n1 n2) (t3 : AddsInternals l3 l4 n2 n3)
      → (total l0 ≡ fault_of (from4 n1 a.t2.added t3.added (names_at 0 l4.lines)) l4)
      × (n3 ≡ n1 ++ a.t2.added ++ t3.added)
  four l0 l1 l2 l3 l4 n0 n1 n2 n3 a t3 = (
    three l0 l1 l2 l3 n0 n1 n2 a ∙ h4 l3 l4 n1 a.t2.added n2 n3 a.t2.names_are t3,
    t3.names_are ∙ ap (λ (x : L). x ++ t3.added) a.t2.names_are,
  )

  pub at5 : (l0 l1 l2 l3 l4 : Left) (n0 n1 n2 n3 : L) → Three l0 l1 l2 l3 n0 n1 n2 → AddsInternals l3 l4 n2 n3
      → Goes l0 (names_fault limit (codes ".inserted") n3) l4
  at5 l0 l1 l2 l3 l4 n0 n1 n2 n3 a t3 =
      let p = four l0 l1 l2 l3 l4 n0 n1 n2 n3 a t3 in (
        from5 n1 a.t2.added t3.added (names_at 0 l4.lines),
        p.0 ∙ ap (λ (x : L).
            fault_of (names_fault limit (codes ".inserted") x ∷ from5 n1 a.t2.added t3.added (names_at 0 l4.lines)) l4)
            (sym p.1),
      )

  five : (l0 l1 l2 l3 l4 l5 : Left) (n0 n1 n2 n3 n4 : L) (a : Three l0 l1 l2 l3 n0 n1 n2)
      (t3 : AddsInternals l3 l4 n2 n3) (t4 : AddsInserted l4 l5 n3 n4)
      → (total l0 ≡ fault_of (from5 n1 a.t2.added t3.added t4.added) l5)
      × (n4 ≡ n1 ++ a.t2.added ++ t3.added ++ t4.added)
  five l0 l1 l2 l3 l4 l5 n0 n1 n2 n3 n4 a t3 t4 =
      let p = four l0 l1 l2 l3 l4 n0 n1 n2 n3 a t3 in
      (p.0 ∙ h5 l4 l5 n1 a.t2.added t3.added n3 n4 p.1 t4, t4.names_are ∙ ap (λ (x : L). x ++ t4.added) p.1)

  pub at6 : (l0 l1 l2 l3 l4 l5 : Left) (n0 n1 n2 n3 n4 : L) (k : ℕ) → k ≡ length n4 → Three l0 l1 l2 l3 n0 n1 n2
      → AddsInternals l3 l4 n2 n3 → AddsInserted l4 l5 n3 n4 → Goes l0 (start_fault k) l5
  at6 l0 l1 l2 l3 l4 l5 n0 n1 n2 n3 n4 k e a t3 t4 =
      let p = five l0 l1 l2 l3 l4 l5 n0 n1 n2 n3 n4 a t3 t4 in (
        due_after n1 a.t2.added t3.added t4.added,
        p.0 ∙ ap (λ (x : ℕ). fault_of (start_fault x ∷ due_after n1 a.t2.added t3.added t4.added) l5)
            (sym (e ∙ ap length p.1)),
      )

  pub whole : (l0 l1 l2 l3 l4 l5 l6 : Left) (n0 n1 n2 n3 n4 : L) (k : ℕ) (header : Header)
      → header.inputs ≡ length n1 → header.outputs ≡ length n2 → header.internals ≡ length n3 → k ≡ length n4
      → n0 ≡ [] → TakesValue model_fault model_of l0 l1 header.model → AddsInputs l1 l2 n0 n1 → AddsOutputs l2 l3 n1 n2
      → AddsInternals l3 l4 n2 n3 → AddsInserted l4 l5 n3 n4 → TakesValue (start_fault k) start_of l5 l6 header.start
      → ReadsHeader limit l0 l6 n4 header
  whole l0 l1 l2 l3 l4 l5 l6 n0 n1 n2 n3 n4 k header ei eo en es none m t1 t2 t3 t4 s =
      let a : Three l0 l1 l2 l3 n0 n1 n2 = record { none = none; m = formed _ _ _ _ _ m; t1 = t1; t2 = t2 } in
      let p = five l0 l1 l2 l3 l4 l5 n0 n1 n2 n3 n4 a t3 t4 in
      let b1 = begun l1 l2 n0 n1 none t1 in
      let o1 = one_of _ _ _ _ _ b1 in
      let o2 = one_of _ _ _ _ _ t2 in
      let o3 = one_of _ _ _ _ _ t3 in
      let o4 = one_of _ _ _ _ _ t4 in
      let all = six _ _ _ _ _ _ _ _ _ _ _ _ _ m.takes.lines o1.1 o2.1 o3.1 o4.1 s.takes.lines in
      record {
        inputs = n1;
        outputs = t2.added;
        internals = t3.added;
        inserted = t4.added;
        names_are = p.1;
        inputs_are = ei;
        outputs_are = eo ∙ ap length t2.names_are;
        internals_are = en ∙ ap length (four l0 l1 l2 l3 l4 n0 n1 n2 n3 a t3).1;
        fault = p.0 ∙ h6 l5 l6 n1 t2.added t3.added t4.added k (es ∙ ap length p.1) (formed _ _ _ _ _ s);
        model_at = rw all (value_of _ _ _ _ _ m);
        inputs_at = rw all (b1.names_are ∙ sym o1.2);
        outputs_at = rw all (sym o2.2);
        internals_at = rw all (sym o3.2);
        inserted_at = rw all (sym o4.2);
        start_at = rw all (value_of _ _ _ _ _ s);
        lines = rw all refl;
      }
