-- A netlist is certified by one lineage, or it has one fault.
use Rattle.std.proofs.Common.{◌≡◌, ℕ, ◌+◌, ◌<◌, List, [], ◌∷◌, ◌++◌, length, get_or, All, refl, sym, ap, subst, ◌∙◌}
use Rattle.std.proofs.Common.{arith, inl, inr, ◌⊎◌}
use Rattle.std.proofs.lemmas.Bool.{cases_order}
use Rattle.std.proofs.lemmas.List.{get_or_append_left, get_or_at, length-append}
use Rattle.si_base.specs.Bits.{bit}
use Rattle.si_base.specs.Behaviour.{Implements}
use Rattle.si_base.specs.Codes.{CodedGraph}
use Rattle.si_base.specs.Netlist.{Insertion, Netlist}
use Rattle.si_base.specs.Order.{IsFirst}
use Rattle.si_base.specs.WellFormed.{IsInsertion}
use Rattle.si_checks.proofs.SearchFirst.{firsts_at_one_place}
use Rattle.si_insert.specs.Built.{IsBuilt}
use Rattle.si_insert.specs.Lineage.{History, given_history}
use Rattle.si_insert.proofs.LineageChain.{implements}
use Rattle.si_circuit.specs.Spelling.{current_word}
use Rattle.si_audit.specs.declared.fault.AuditFault.{AuditFault}
use Rattle.si_audit.specs.declared.fault.AuditFault.TheVariants.{NoMemory, States, Classes, Refused, Start, Gate}
use Rattle.si_audit.specs.Audit.{Certifies, Takes, TakesAll}
use Rattle.si_audit.specs.Faults.{IsRejected, IsUnbuilt, IsWrong, Spot, StartsOtherwise, ShowsFault, StopsAt, StopsLast}
use Rattle.si_audit.specs.Faults.{signal_place, spot_place}
use Rattle.si_audit.specs.Laws.{CanBeAudited, CertifiedImplement, CertificatesAreOne, CertifiedHaveNone, FaultsAreOne}
use Rattle.si_audit.proofs.OneAudit.{all_one, never_stops, one_stop, spelled_all, spelled_first, taken_parts}
use Rattle.si_audit.proofs.WalkLemmas.{given_stays}

-- ---- two cuts of one list
same_cut : (xs : List Insertion) (x : Insertion) (later : List Insertion) (ys : List Insertion) (y : Insertion)
    (bs : List Insertion) → xs ++ x ∷ later ≡ ys ++ y ∷ bs → length xs ≡ length ys → (xs ≡ ys) × (x ≡ y)
same_cut [] x later [] y bs same size = (let head : x ≡ y = cc in (refl, head))
same_cut [] x later (z ∷ ys) y bs same size = absurd (omega arith)
same_cut (z ∷ xs) x later [] y bs same size = absurd (omega arith)
same_cut (z ∷ xs) x later (w ∷ ys) y bs same size =
    let head : z ≡ w = cc in
    let tail : xs ++ x ∷ later ≡ ys ++ y ∷ bs = cc in
    let rest = same_cut xs x later ys y bs tail (omega arith) in
    let rest_is : xs ≡ ys = rest.0 in
    let whole : z ∷ xs ≡ w ∷ ys = cc in
    (whole, rest.1)

shorter_cut : (xs : List Insertion) (x : Insertion) (later : List Insertion) (ys : List Insertion) (y : Insertion)
    (bs : List Insertion) → xs ++ x ∷ later ≡ ys ++ y ∷ bs → length xs < length ys
    → (more : List Insertion) × (ys ≡ xs ++ x ∷ more)
shorter_cut xs x later [] y bs same size = absurd (omega arith)
shorter_cut [] x later (w ∷ ys) y bs same size =
    (let head : x ≡ w = cc in (ys, ap (λ (i : Insertion). i ∷ ys) (sym head)))
shorter_cut (z ∷ xs) x later (w ∷ ys) y bs same size =
    let head : z ≡ w = cc in
    let tail : xs ++ x ∷ later ≡ ys ++ y ∷ bs = cc in
    let rest = shorter_cut xs x later ys y bs tail (omega arith) in
    let rest_is : ys ≡ xs ++ x ∷ rest.0 = rest.1 in
    let whole : w ∷ ys ≡ z ∷ (xs ++ x ∷ rest.0) = cc in
    (rest.0, whole)

module _ (states : List (List ℕ)) (c : CodedGraph) (n : Netlist) (can : CanBeAudited states c n) where
  forms_front : (xs ys : List Insertion) → n.inserts ≡ xs ++ ys → All IsInsertion xs
  forms_front xs ys cut i d within =
      let P : List Insertion → Type 0 = λ zs. All IsInsertion zs in
      front xs ys i d within (subst P cut can.netlist.inserts)
    where
      front : (xs ys : List Insertion) (i : ℕ) (d : Insertion) → i < length xs → All IsInsertion (xs ++ ys)
          → IsInsertion (get_or xs i d)
      front xs ys i d within all =
          subst IsInsertion (get_or_append_left xs ys d i within) (all i d (omega (arith, length-append xs ys)))

  pub front_form : (xs : List Insertion) (x : Insertion) (ys : List Insertion) → n.inserts ≡ xs ++ x ∷ ys
      → IsInsertion x
  front_form xs x ys cut =
      let P : List Insertion → Type 0 = λ zs. All IsInsertion zs in
      let all : P (xs ++ x ∷ ys) = subst P cut can.netlist.inserts in
      subst IsInsertion (get_or_at xs x ys x (length xs) refl)
      (all (length xs) x (omega (arith, length-append xs (x ∷ ys))))

  -- what is rejected is not taken
  pub rejected_not_taken : (fault : AuditFault) (l : History) → (fault ≡ NoMemory → ⊥) → IsRejected states c n fault
      → TakesAll states (given_history c) n.inserts l → ⊥
  rejected_not_taken fault l other r taken =
      let P : List Insertion → Type 0 = λ xs. TakesAll states (given_history c) xs l in
      let parts = taken_parts states (given_history c) r.before (r.insertion ∷ r.after) l (subst P r.cut taken) in
      let first = spelled_first states c n can in
      let same : parts.0 ≡ r.lineage =
      all_one states (given_history c) r.before parts.0 r.lineage first
      (forms_front r.before (r.insertion ∷ r.after) r.cut)
      parts.1 r.taken in
      let spelled = spelled_all states (given_history c) r.before r.lineage first r.taken in
      let Q : History → Type 0 = λ h. Takes states h r.insertion parts.2.0 in
      never_stops states r.lineage r.insertion spelled (front_form r.before r.insertion r.after r.cut)
      (length r.before + 1) fault parts.2.0 other r.stops (subst Q same parts.2.1)

  all_forms : All IsInsertion n.inserts
  all_forms = can.netlist.inserts

  pub one_lineage : (l m : History) → TakesAll states (given_history c) n.inserts l
      → TakesAll states (given_history c) n.inserts m → l ≡ m
  one_lineage l m one other =
      all_one states (given_history c) n.inserts l m (spelled_first states c n can) all_forms one other

  -- ---- the end
  built_never_stops : (l : History) (fault : AuditFault) → (fault ≡ NoMemory → ⊥) → IsBuilt l.current n
      → StopsLast states l n fault → ⊥
  built_never_stops l NoMemory other built stops = other refl
  built_never_stops l (States k) other built stops = stops
  built_never_stops l (Classes k) other built stops = stops
  built_never_stops l (Refused k s w) other built stops = stops
  built_never_stops l (Start z) other built stops =
      stops.holds.differs (ap (λ (k : ℕ). bit k z) built.start)
  built_never_stops l (Gate z s) other built stops =
      stops.first.holds.differs (built.gives.gates stops.at z stops.first.holds.within stops.first.holds.gate)

  one_start : (l : History) (y z : ℕ) → IsFirst signal_place (StartsOtherwise l.given l.current n) y
      → IsFirst signal_place (StartsOtherwise l.given l.current n) z → y ≡ z
  one_start l y z one other = elim (cases_order y z) [
    | inl same ↦ same
    | inr (inl below) ↦ absurd (other.none_before y one.holds (inl below))
    | inr (inr above) ↦ absurd (one.none_before z other.holds (inl above))
  ]

  one_last : (l : History) (a b : AuditFault) → (a ≡ NoMemory → ⊥) → (b ≡ NoMemory → ⊥) → StopsLast states l n a
      → StopsLast states l n b → a ≡ b
  one_last l NoMemory b not_a not_b one other = absurd (not_a refl)
  one_last l (States k) b not_a not_b one other = absurd one
  one_last l (Classes k) b not_a not_b one other = absurd one
  one_last l (Refused k s w) b not_a not_b one other = absurd one
  one_last l (Start z) NoMemory not_a not_b one other = absurd (not_b refl)
  one_last l (Start z) (States k) not_a not_b one other = absurd other
  one_last l (Start z) (Classes k) not_a not_b one other = absurd other
  one_last l (Start z) (Refused k s w) not_a not_b one other = absurd other
  one_last l (Start y) (Start z) not_a not_b one other = ap (λ (x : ℕ). Start x) (one_start l y z one other)
  one_last l (Start y) (Gate z s) not_a not_b one other =
      absurd (one.holds.differs (ap (λ (k : ℕ). bit k y) other.starts))
  one_last l (Gate y s) NoMemory not_a not_b one other = absurd (not_b refl)
  one_last l (Gate y s) (States k) not_a not_b one other = absurd other
  one_last l (Gate y s) (Classes k) not_a not_b one other = absurd other
  one_last l (Gate y s) (Refused k t w) not_a not_b one other = absurd other
  one_last l (Gate y s) (Start z) not_a not_b one other =
      absurd (other.holds.differs (ap (λ (k : ℕ). bit k z) one.starts))
  one_last l (Gate y s) (Gate z t) not_a not_b one other =
      let x : Spot = record { sig = y; state = one.at } in
      let w : Spot = record { sig = z; state = other.at } in
      let place : spot_place x ≡ spot_place w =
      firsts_at_one_place spot_place (IsWrong l.current.coded n) x w refl one.first other.first in
      let sig : y ≡ z = cc in
      let at : one.at ≡ other.at = cc in
      let word : s ≡ t = one.word ∙ ap (λ (k : ℕ). current_word states l k) at ∙ sym other.word in
      cc

  -- ---- the two kinds of faults
  kinds : (fault : AuditFault) → (fault ≡ NoMemory → ⊥) → ShowsFault states c n fault
      → IsRejected states c n fault ⊎ IsUnbuilt states c n fault
  kinds NoMemory other shows = absurd (other refl)
  kinds (States k) other shows = inl shows
  kinds (Classes k) other shows = inl shows
  kinds (Refused k s w) other shows = inl shows
  kinds (Start z) other shows = inr shows
  kinds (Gate z s) other shows = inr shows

  -- one that is rejected later has taken the earlier one
  later_not : (a b : AuditFault) → (a ≡ NoMemory → ⊥) → (r : IsRejected states c n a) (q : IsRejected states c n b)
      → length r.before < length q.before → ⊥
  later_not a b other r q below =
      let cut = shorter_cut r.before r.insertion r.after q.before q.insertion q.after (sym r.cut ∙ q.cut) below in
      let P : List Insertion → Type 0 = λ xs. TakesAll states (given_history c) xs q.lineage in
      let parts = taken_parts states (given_history c) r.before (r.insertion ∷ cut.0) q.lineage
      (subst P cut.1 q.taken) in
      let first = spelled_first states c n can in
      let same : parts.0 ≡ r.lineage =
      all_one states (given_history c) r.before parts.0 r.lineage first
      (forms_front r.before (r.insertion ∷ r.after) r.cut)
      parts.1 r.taken in
      let Q : History → Type 0 = λ h. Takes states h r.insertion parts.2.0 in
      never_stops states r.lineage r.insertion (spelled_all states (given_history c) r.before r.lineage first r.taken)
      (front_form r.before r.insertion r.after r.cut) (length r.before + 1) a parts.2.0 other r.stops
      (subst Q same parts.2.1)

  at_one_place : (a b : AuditFault) → (a ≡ NoMemory → ⊥) → (b ≡ NoMemory → ⊥) → (r : IsRejected states c n a)
      (q : IsRejected states c n b) → length r.before ≡ length q.before → a ≡ b
  at_one_place a b not_a not_b r q size =
      let cut = same_cut r.before r.insertion r.after q.before q.insertion q.after (sym r.cut ∙ q.cut) size in
      let first = spelled_first states c n can in
      let P : List Insertion → Type 0 = λ xs. TakesAll states (given_history c) xs q.lineage in
      let same : q.lineage ≡ r.lineage =
      all_one states (given_history c) r.before q.lineage r.lineage first
      (forms_front r.before (r.insertion ∷ r.after) r.cut)
      (subst P (sym cut.0) q.taken) r.taken in
      let L : History → Type 0 = λ h. StopsAt states h q.insertion (length q.before + 1) b in
      let I : Insertion → Type 0 = λ i. StopsAt states r.lineage i (length q.before + 1) b in
      let K : ℕ → Type 0 = λ k. StopsAt states r.lineage r.insertion (k + 1) b in
      one_stop states r.lineage r.insertion (spelled_all states (given_history c) r.before r.lineage first r.taken)
      (front_form r.before r.insertion r.after r.cut) (length r.before + 1) a b not_a not_b r.stops
      (subst K (sym size) (subst I (sym cut.1) (subst L same q.stops)))

  pub two_rejected : (a b : AuditFault) → (a ≡ NoMemory → ⊥) → (b ≡ NoMemory → ⊥) → IsRejected states c n a
      → IsRejected states c n b → a ≡ b
  two_rejected a b not_a not_b r q = elim (cases_order (length r.before) (length q.before)) [
    | inl same ↦ at_one_place a b not_a not_b r q same
    | inr (inl below) ↦ absurd (later_not a b not_a r q below)
    | inr (inr above) ↦ absurd (later_not b a not_b q r above)
  ]

  two_unbuilt : (a b : AuditFault) → (a ≡ NoMemory → ⊥) → (b ≡ NoMemory → ⊥) → IsUnbuilt states c n a
      → IsUnbuilt states c n b → a ≡ b
  two_unbuilt a b not_a not_b u v =
      let same : v.lineage ≡ u.lineage = one_lineage v.lineage u.lineage v.taken u.taken in
      let L : History → Type 0 = λ h. StopsLast states h n b in
      one_last u.lineage a b not_a not_b u.stops (subst L same v.stops)

  both_kinds : (a b : AuditFault) → (a ≡ NoMemory → ⊥) → (b ≡ NoMemory → ⊥)
      → IsRejected states c n a ⊎ IsUnbuilt states c n a → IsRejected states c n b ⊎ IsUnbuilt states c n b → a ≡ b
  both_kinds a b not_a not_b (inl r) (inl q) = two_rejected a b not_a not_b r q
  both_kinds a b not_a not_b (inl r) (inr v) = absurd (rejected_not_taken a v.lineage not_a r v.taken)
  both_kinds a b not_a not_b (inr u) (inl q) = absurd (rejected_not_taken b u.lineage not_b q u.taken)
  both_kinds a b not_a not_b (inr u) (inr v) = two_unbuilt a b not_a not_b u v

  certified_never : (l : History) (fault : AuditFault) → Certifies states c n l → (fault ≡ NoMemory → ⊥)
      → IsRejected states c n fault ⊎ IsUnbuilt states c n fault → ⊥
  certified_never l fault is other (inl r) = rejected_not_taken fault l other r is.taken
  certified_never l fault is other (inr u) =
      let same : u.lineage ≡ l = one_lineage u.lineage l u.taken is.taken in
      let L : History → Type 0 = λ h. StopsLast states h n fault in
      built_never_stops l fault other is.built (subst L same u.stops)

  implemented : (l : History) → Certifies states c n l → Implements n c.graph
  implemented l is =
      let lineage = (spelled_all states (given_history c) n.inserts l (spelled_first states c n can)
      is.taken).lineage in
      let given = given_stays states (given_history c) n.inserts l is.taken in
      let P : CodedGraph → Type 0 = λ d. Implements n d.graph in
      subst P given (implements l.given l.trace l.current n lineage is.built)

  -- no fault but want of memory
  none_but : (l : History) (fault : AuditFault) → Certifies states c n l → ShowsFault states c n fault
      → fault ≡ NoMemory
  none_but l NoMemory is shows = refl
  none_but l (States k) is shows =
      absurd (certified_never l (States k) is (λ (e : States k ≡ NoMemory). cc) (inl shows))
  none_but l (Classes k) is shows =
      absurd (certified_never l (Classes k) is (λ (e : Classes k ≡ NoMemory). cc) (inl shows))
  none_but l (Refused k s w) is shows =
      absurd (certified_never l (Refused k s w) is (λ (e : Refused k s w ≡ NoMemory). cc) (inl shows))
  none_but l (Start z) is shows = absurd (certified_never l (Start z) is (λ (e : Start z ≡ NoMemory). cc) (inr shows))
  none_but l (Gate z s) is shows =
      absurd (certified_never l (Gate z s) is (λ (e : Gate z s ≡ NoMemory). cc) (inr shows))

-- ---- the laws
pub certified_implement : CertifiedImplement
certified_implement states c n l can is = implemented states c n can l is

pub one_certificate : CertificatesAreOne
one_certificate states c n l m can one other = one_lineage states c n can l m one.taken other.taken

pub certified_have_none : CertifiedHaveNone
certified_have_none states c n l fault can is shows = none_but states c n can l fault is shows

pub one_fault : FaultsAreOne
one_fault states c n a b can one other not_a not_b =
    both_kinds states c n can a b not_a not_b (kinds states c n can a not_a one) (kinds states c n can b not_b other)
