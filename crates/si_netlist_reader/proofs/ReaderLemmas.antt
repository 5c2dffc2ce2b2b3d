-- A whole netlist text, read.
use Rattle.std.proofs.Common.{◌≡◌, ℕ, zero, suc, ◌+◌, ◌-◌, List, [], ◌∷◌, ◌++◌, length, map, take, drop, refl, sym, ap}
use Rattle.std.proofs.Common.{ap₂, ◌∙◌, arith, Option, None, codes, append_assoc, length-append, Result, Err, subst}
use Rattle.std.proofs.Math.Seq.{drop-append_seam, take-append_seam}
use Rattle.std.proofs.lemmas.List.{length-map, drop_all}
use Rattle.si_base.specs.declared.fault.TextKind.{TextKind}
use Rattle.si_base.specs.declared.fault.TextFault.{TextFault}
use Rattle.si_base.specs.declared.graph.Signal.{Signal}
use Rattle.si_base.specs.declared.graph.SigKind.TheVariants.{Input, Output, Internal, Inserted}
use Rattle.si_base.specs.Netlist.{Netlist, Insertion, Gate}
use Rattle.si_base.specs.GivenGraph.{signals_of}
use Rattle.si_base.specs.NetlistText.{most_signals}
use Rattle.si_base.specs.TextFaults.{Gives, Shows}
use Rattle.si_base.specs.WellFormed.{IsNetlist}
use Rattle.si_netlist_reader.specs.declared.header.Header.{Header}
use Rattle.si_netlist_reader.specs.Loops.Headers.{ReadsHeader, gate_in, signals_by}
use Rattle.si_netlist_reader.specs.NetlistFault.{netlist_fault, version_at, version_of, after_version, body, due_in}
use Rattle.si_netlist_reader.specs.NetlistFault.{due_after, insert_fault, word_fault, names_at}
use Rattle.si_words.specs.Lines.{Form, words_of}
use Rattle.si_netlist_reader.specs.GateParts.{gate_fault}
use Rattle.si_netlist_reader.specs.NetlistValue.{netlist_of, netlist_of_lines, insertion_of}
use Rattle.si_words.specs.Rows.{Left, all_lines, fault_of, TakesForm}
use Rattle.si_words.specs.Loops.RowValues.{TakesAll}
use Rattle.si_words.proofs.RowLemmas.{row_step}
use Rattle.si_netlist_reader.proofs.ReadLaw.{read_is_netlist}

abbrev L : Type 0
L = List (List ℕ)

-- ---- the four lists among the names

module _ (i o n s names : L) (same : names ≡ i ++ o ++ n ++ s) where
  from_first : i ++ o ++ n ++ s ≡ i ++ (o ++ (n ++ s))
  from_first = append_assoc (i ++ o) n s ∙ append_assoc i o (n ++ s)

  after_first : drop (length i) names ≡ o ++ (n ++ s)
  after_first = ap (drop (length i)) (same ∙ from_first) ∙ drop-append_seam i (o ++ (n ++ s))

  after_second : drop (length (i ++ o)) names ≡ n ++ s
  after_second = ap (drop (length (i ++ o))) (same ∙ append_assoc (i ++ o) n s) ∙ drop-append_seam (i ++ o) (n ++ s)

  after_third : drop (length (i ++ o ++ n)) names ≡ s
  after_third = ap (drop (length (i ++ o ++ n))) same ∙ drop-append_seam (i ++ o ++ n) s

  pub driven : drop (length i) names ≡ o ++ n ++ s
  driven = after_first ∙ sym (append_assoc o n s)

  first : take (length i) names ≡ i
  first = ap (take (length i)) (same ∙ from_first) ∙ take-append_seam i (o ++ (n ++ s))

  second : take (length (i ++ o) - length i) (drop (length i) names) ≡ o
  second =
      let count : length (i ++ o) - length i ≡ length o = omega (arith, length-append i o) in
      rw (count, after_first) (take-append_seam o (n ++ s))

  third : take (length (i ++ o ++ n) - length (i ++ o)) (drop (length (i ++ o)) names) ≡ n
  third =
      let count : length (i ++ o ++ n) - length (i ++ o) ≡ length n = omega (arith, length-append (i ++ o) n) in
      rw (count, after_second) (take-append_seam n s)

  pub signals_are : (a b c : ℕ) → a ≡ length i → b ≡ length (i ++ o) → c ≡ length (i ++ o ++ n) → signals_by names a b c
      ≡ signals_of Input i ++ signals_of Output o ++ signals_of Internal n ++ signals_of Inserted s
  signals_are a b c p q r = rw (p, q, r, first, second, third, after_third) refl

  abbrev forms : L → L → L → List Form
  forms all inserted gates = map insert_fault inserted ++ word_fault (codes ".gates")
      ∷ (map (gate_fault all) gates ++ word_fault (codes ".end") ∷ [])

  pub due_is : (a c : ℕ) → a ≡ length i → c ≡ length (i ++ o ++ n)
      → due_after i o n s ≡ forms names (drop c names) (drop a names)
  due_is a c p r =
      let inserted : drop c names ≡ s = ap (λ (k : ℕ). drop k names) r ∙ after_third in
      let gates : drop a names ≡ o ++ n ++ s = ap (λ (k : ℕ). drop k names) p ∙ driven in
      append_assoc (map insert_fault s)
      (word_fault (codes ".gates") ∷ map (gate_fault (i ++ o ++ n ++ s)) (o ++ n ++ s))
      (word_fault (codes ".end") ∷ [])
      ∙ ap (λ (x : L). forms (i ++ o ++ n ++ s) x (o ++ n ++ s)) (sym inserted)
      ∙ ap (λ (x : L). forms (i ++ o ++ n ++ s) (drop c names) x) (sym gates)
      ∙ ap (λ (x : L). forms x (drop c names) (drop a names)) (sym same)

-- ---- the fault, told by the lines left

abbrev pub rest3 : List Form
rest3 = word_fault (codes ".end") ∷ []

abbrev pub rest2 : L → ℕ → List Form
rest2 names inputs = map (gate_fault names) (drop inputs names) ++ rest3

abbrev pub rest1 : L → ℕ → List Form
rest1 names inputs = word_fault (codes ".gates") ∷ rest2 names inputs

pub failed : {X Y : Type 0} (view : X → Y) (r : Result X TextFault) (x e : TextFault) (fault a : Option (ℕ × TextKind))
    (value : Y) → r ≡ Err x → x ≡ e → fault ≡ a → Shows e a → Gives view r fault value
failed view r x e fault a value is from same told = rw (is, from, same) told

-- ---- the value

drop_drop : (m k : ℕ) (xs : L) → drop k (drop m xs) ≡ drop (m + k) xs
drop_drop zero k xs = let e : k ≡ 0 + k = omega arith in ap (λ (n : ℕ). drop n xs) e
drop_drop (suc m) k [] = drop_all k [] (omega arith) ∙ sym (drop_all (suc m + k) [] (omega arith))
drop_drop (suc m) k (x ∷ xs) =
    let e : suc (m + k) ≡ suc m + k = omega arith in drop_drop m k xs ∙ ap (λ (n : ℕ). drop n (x ∷ xs)) e

drop_tail : (m : ℕ) (xs : L) (y : List ℕ) (ys : L) → drop m xs ≡ y ∷ ys → drop (suc m) xs ≡ ys
drop_tail zero xs y ys e = rw e refl
drop_tail (suc m) [] y ys e = absurd cc
drop_tail (suc m) (x ∷ xs) y ys e = drop_tail m xs y ys e

abbrev made : List ℕ → List Signal → ℕ → List Insertion → List Gate → Netlist
made model signals start inserts gates = record {
  model = model;
  signals = signals;
  start = start;
  inserts = inserts;
  gates = gates;
}

same_made : (m m2 : List ℕ) (s s2 : List Signal) (c c2 : ℕ) (i i2 : List Insertion) (g g2 : List Gate) → m ≡ m2 → s ≡ s2
    → c ≡ c2 → i ≡ i2 → g ≡ g2 → made m s c i g ≡ made m2 s2 c2 i2 g2
same_made m m2 s s2 c c2 i i2 g g2 p q r t u = cc

abbrev signals4 : L → L → L → L → List Signal
signals4 i o n s = signals_of Input i ++ signals_of Output o ++ signals_of Internal n ++ signals_of Inserted s

same_four : {B : Type 0} (f : L → L → L → L → B) (a b c d e g h k : L) → a ≡ e → b ≡ g → c ≡ h
    → d ≡ k → f a b c d ≡ f e g h k
same_four f a b c d e g h k p q r s = ap (λ (x : L). f x b c d) p ∙ ap (λ (x : L). f e x c d) q
    ∙ ap (λ (x : L). f e g x d) r ∙ ap (λ (x : L). f e g h x) s

abbrev gates4 : L → L → L → L → L → List Gate
gates4 lines i o n s =
    map (λ line. gate_in (i ++ o ++ n ++ s) (words_of line)) (take (length (o ++ n ++ s)) (drop (7 + length s) lines))

-- the text was begun: so many signals may be named, and these lines are left
pub record Opens (text : List ℕ) (limit : ℕ) (left : Left) : Type 0 where
  pub limit_is : limit ≡ most_signals (version_of text)
  pub left_is : left ≡ body text

pub opens : (text : List ℕ) (limit : ℕ) (old new : Left) → old ≡ all_lines text → limit ≡ most_signals (version_at old)
    → new ≡ after_version (version_at old) old → Opens text limit new
opens text limit old new begun most left = record {
  limit_is = most ∙ ap (λ (l : Left). most_signals (version_at l)) begun;
  left_is = left ∙ ap (λ (l : Left). after_version (version_at l) l) begun;
}

module _ (limit : ℕ) where
  abbrev total : Left → Option (ℕ × TextKind)
  total l0 = fault_of (due_in limit l0.lines) l0

  pub to1 : (l0 l1 : Left) (names : L) (header : Header) → ReadsHeader limit l0 l1 names header
      → total l0 ≡ fault_of (map insert_fault (drop header.internals names) ++ rest1 names header.inputs) l1
  to1 l0 l1 names header h = h.fault ∙ ap (λ (fs : List Form). fault_of fs l1) (due_is h.inputs h.outputs h.internals
      h.inserted names h.names_are header.inputs header.internals h.inputs_are h.internals_are)

  pub to2 : (l0 l1 l2 : Left) (names : L) (header : Header) (inserts : List Insertion)
      → ReadsHeader limit l0 l1 names header
      → TakesAll (map insert_fault (drop header.internals names)) insertion_of l1 l2 inserts
      → total l0 ≡ fault_of (rest1 names header.inputs) l2
  to2 l0 l1 l2 names header inserts h t = to1 l0 l1 names header h ∙ t.fault (rest1 names header.inputs)

  pub to3 : (l0 l1 l2 l3 : Left) (names : L) (header : Header) (inserts : List Insertion)
      → ReadsHeader limit l0 l1 names header
      → TakesAll (map insert_fault (drop header.internals names)) insertion_of l1 l2 inserts
      → TakesForm (word_fault (codes ".gates")) l2 l3 → total l0 ≡ fault_of (rest2 names header.inputs) l3
  to3 l0 l1 l2 l3 names header inserts h t w = to2 l0 l1 l2 names header inserts h t
      ∙ row_step (word_fault (codes ".gates")) (rest2 names header.inputs) l2 l3 w.words w.takes w.good

  -- all that was read up to the gates
  pub record ReadsAll (l0 l4 : Left) (names : L) (header : Header) (inserts : List Insertion)
      (gates : List Gate) : Type 0 where
    pub l1 : Left
    pub l2 : Left
    pub l3 : Left
    pub head : ReadsHeader limit l0 l1 names header
    pub inserted : TakesAll (map insert_fault (drop header.internals names)) insertion_of l1 l2 inserts
    pub word : TakesForm (word_fault (codes ".gates")) l2 l3
    pub gated : TakesAll (map (gate_fault names) (drop header.inputs names)) (gate_in names) l3 l4 gates

  pub to4 : (l0 l4 : Left) (names : L) (header : Header) (inserts : List Insertion) (gates : List Gate)
      → ReadsAll l0 l4 names header inserts gates → total l0 ≡ fault_of rest3 l4
  to4 l0 l4 names header inserts gates a =
      to3 l0 a.l1 a.l2 a.l3 names header inserts a.head a.inserted a.word ∙ a.gated.fault rest3

  pub to5 : (l0 l4 l5 : Left) (names : L) (header : Header) (inserts : List Insertion) (gates : List Gate)
      → ReadsAll l0 l4 names header inserts gates → TakesForm (word_fault (codes ".end")) l4 l5
      → total l0 ≡ fault_of [] l5
  to5 l0 l4 l5 names header inserts gates a w = to4 l0 l4 names header inserts gates a
      ∙ row_step (word_fault (codes ".end")) [] l4 l5 w.words w.takes w.good

  pub begins : (text : List ℕ) (l0 : Left) → Opens text limit l0 → netlist_fault text ≡ total l0
  unfolding netlist_fault
  begins text l0 o = ap₂ (λ (m : ℕ) (l : Left). fault_of (due_in m l.lines) l) (sym o.limit_is) (sym o.left_is)

  value_is : (l0 l4 : Left) (names : L) (header : Header) (inserts : List Insertion)
      (gates : List Gate) (signals : List Signal) → ReadsAll l0 l4 names header inserts gates
      → signals ≡ signals_by names header.inputs header.outputs header.internals
      → made header.model signals header.start inserts gates ≡ netlist_of_lines l0.lines
  value_is l0 l4 names header inserts gates signals a given =
      let h = a.head in
      let i = h.inputs in
      let o = h.outputs in
      let n = h.internals in
      let s = h.inserted in
      let last : drop header.internals names ≡ s =
      ap (λ (k : ℕ). drop k names) h.internals_are ∙ after_third i o n s names h.names_are in
      let rest : drop header.inputs names ≡ o ++ n ++ s =
      ap (λ (k : ℕ). drop k names) h.inputs_are ∙ driven i o n s names h.names_are in
      let count : length (map insert_fault (drop header.internals names)) ≡ length s =
      length-map (drop header.internals names) insert_fault ∙ ap length last in
      let count2 : length (map (gate_fault names) (drop header.inputs names)) ≡ length (o ++ n ++ s) =
      length-map (drop header.inputs names) (gate_fault names) ∙ ap length rest in
      let lines2 : a.l2.lines ≡ drop (6 + length s) l0.lines =
      a.inserted.lines ∙ ap (λ (k : ℕ). drop k a.l1.lines) count ∙ ap (drop (length s)) h.lines
      ∙ drop_drop 6 (length s) l0.lines in
      let seven : suc (6 + length s) ≡ 7 + length s = omega arith in
      let lines3 : a.l3.lines ≡ drop (7 + length s) l0.lines =
      sym (drop_tail (6 + length s) l0.lines _ a.l3.lines (sym lines2 ∙ a.word.takes.lines))
      ∙ ap (λ (k : ℕ). drop k l0.lines) seven in
      let signals_same : signals
      ≡ signals4 (names_at 1 l0.lines) (names_at 2 l0.lines) (names_at 3 l0.lines) (names_at 4 l0.lines) =
      given ∙ signals_are i o n s names h.names_are header.inputs header.outputs
      header.internals h.inputs_are h.outputs_are h.internals_are
      ∙ same_four signals4 i o n s _ _ _ _ h.inputs_at h.outputs_at h.internals_at h.inserted_at in
      let inserts_same : inserts
      ≡ map (λ line. insertion_of (words_of line)) (take (length (names_at 4 l0.lines)) (drop 6 l0.lines)) =
      a.inserted.values_are ∙ ap (λ (k : ℕ). map (λ line. insertion_of (words_of line)) (take k a.l1.lines))
      (count ∙ ap length h.inserted_at) ∙ ap (λ (ls : L). map (λ line. insertion_of (words_of line))
      (take (length (names_at 4 l0.lines)) ls)) h.lines in
      let gates_here : gates ≡ gates4 l0.lines i o n s =
      a.gated.values_are ∙ ap (λ (k : ℕ). map (λ line. gate_in names (words_of line)) (take k a.l3.lines)) count2
      ∙ ap (λ (ls : L). map (λ line. gate_in names (words_of line)) (take (length (o ++ n ++ s)) ls)) lines3
      ∙ ap (λ (ns : L). map (λ line. gate_in ns (words_of line))
      (take (length (o ++ n ++ s)) (drop (7 + length s) l0.lines))) h.names_are in
      let gates_same : gates
      ≡ gates4 l0.lines (names_at 1 l0.lines) (names_at 2 l0.lines) (names_at 3 l0.lines) (names_at 4 l0.lines) =
      gates_here ∙ same_four (gates4 l0.lines) i o n s _ _ _ _ h.inputs_at h.outputs_at h.internals_at h.inserted_at in
      same_made _ _ _ _ _ _ _ _ _ _ h.model_at signals_same h.start_at inserts_same gates_same

  pub parts_are : (text : List ℕ) (l0 l4 : Left) (names : L) (header : Header) (inserts : List Insertion)
      (gates : List Gate) (signals : List Signal) → Opens text limit l0 → ReadsAll l0 l4 names header inserts gates
      → signals ≡ signals_by names header.inputs header.outputs header.internals
      → made header.model signals header.start inserts gates ≡ netlist_of text
  unfolding netlist_of
  parts_are text l0 l4 names header inserts gates signals e a given =
      value_is l0 l4 names header inserts gates signals a given ∙ ap (λ (l : Left). netlist_of_lines l.lines) e.left_is

  pub makes : (text : List ℕ) (l0 l4 l5 : Left) (names : L) (header : Header)
      (inserts : List Insertion) (gates : List Gate) (signals : List Signal) → Opens text limit l0
      → ReadsAll l0 l4 names header inserts gates → TakesForm (word_fault (codes ".end")) l4 l5
      → fault_of [] l5 ≡ None → signals ≡ signals_by names header.inputs header.outputs header.internals
      → IsNetlist (made header.model signals header.start inserts gates)
  makes text l0 l4 l5 names header inserts gates signals e a w none given =
      let P : Netlist → Type 0 = λ n. IsNetlist n in
      subst P (sym (parts_are text l0 l4 names header inserts gates signals e a given))
      (read_is_netlist text (begins text l0 e ∙ to5 l0 l4 l5 names header inserts gates a w ∙ none))
