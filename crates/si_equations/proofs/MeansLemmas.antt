-- The text of a netlist has no fault, and its equations are of the netlist.
use Rattle.std.proofs.Common.{◌≡◌, ℕ, suc, ◌+◌, ◌<◌, ◌≤◌, true, false, List, [], ◌∷◌, ◌++◌, length, flat_map}
use Rattle.std.proofs.Common.{slice_get, Option, Some, None, Result, Ok, refl, sym, ap, subst, ◌∙◌, append_assoc}
use Rattle.std.proofs.Common.{codes, arith, if◌then◌else◌}
use Rattle.std.specs.List.{AllByRecursion, list_all}
use Rattle.std.specs.Prelude.{IsTrue}
use Rattle.std.proofs.lemmas.List.{append-nil, length-append, length-map}
use Rattle.std.proofs.lemmas.List.Elements.{recursion_from_All}
use Rattle.si_base.specs.declared.graph.Signal.{Signal}
use Rattle.si_base.specs.declared.graph.SigKind.TheVariants.{Input, Output}
use Rattle.si_base.specs.declared.fault.TextKind.{TextKind}
use Rattle.si_base.specs.declared.fault.TextKind.TheVariants.{Undeclared}
use Rattle.si_base.specs.Faults.{◌otherwise◌, first_in}
use Rattle.si_base.specs.Graph.{names_in, IsNonInput}
use Rattle.si_base.specs.Limits.{max_signals}
use Rattle.si_base.specs.Netlist.{Netlist, gate_place, value_if_there}
use Rattle.si_base.specs.NetlistText.{name_of, names_of}
use Rattle.si_base.specs.WellFormed.{IsNetlist}
use Rattle.si_base.specs.Words.{is_signal_name}
use Rattle.si_words.specs.Ends.{after_last}
use Rattle.si_words.specs.Names.{stands_in}
use Rattle.si_tokens.specs.declared.fault.Stop.{Stop}
use Rattle.si_tokens.specs.Unread.{◌>>=◌, Unread, Piece, tokens, unread}
use Rattle.si_equations.specs.Equations.{Equations, driven, signals, without, internal_among, mark_at, names_from}
use Rattle.si_equations.specs.Equations.{list_at, lists_at, equations_from, statements_at, undeclared, last_fault}
use Rattle.si_equations.specs.Equations.{ended, unless, equations_in, expression_value}
use Rattle.si_equations.specs.Meaning.{IsGateOf, AreOfNetlist, MeansNetlist}
use Rattle.si_equations.specs.Written.{list_line, equation_lines, lines, equations_text}
use Rattle.si_equations.proofs.ChainLemmas.{IsAt, NewNames, follows, mark_read, names_read}
use Rattle.si_equations.proofs.EquationLemmas.{item_tokens, AreRead, longer, equations_read, enough_tokens}
use Rattle.si_equations.proofs.EquationLemmas.{names_same, all_known, there_back}
use Rattle.si_equations.proofs.LineLemmas.{text, AreLines, no_bad_line, text_tokens}
use Rattle.si_equations.proofs.NameLemmas.{fixed_in_line}
use Rattle.si_equations.proofs.NetlistLemmas.{netlist_named, netlist_there, inner, names_in_order, driven_in}
use Rattle.si_equations.proofs.NetlistLemmas.{driven_in_order}
use Rattle.si_equations.proofs.NewLemmas.{AreNew, netlist_new, new_parts, new_without, new_apart, AreGood, new_names}
use Rattle.si_equations.proofs.NewLemmas.{apart_none, apart_turned, all_kept, inner_are, outputs_stand, NoFaults}
use Rattle.si_equations.proofs.NewLemmas.{no_faults}
use Rattle.si_equations.proofs.TokenLemmas.{marks, name_read}
use Rattle.si_equations.proofs.WrittenLemmas.{AreFrom, SaysEquations, says_equations, list_marks, list_in_line}

-- ---- a list

abbrev names_behind : List (List ℕ) → Unread → Result (List (List ℕ) × Unread) Stop
names_behind others body = names_from others [] (tokens body)

list_read : (word : List ℕ) (others names : List (List ℕ)) (u : Unread) (ws : List (List ℕ))
    → IsAt u (word ∷ codes "=" ∷ (names ++ codes ";" ∷ ws)) → NewNames others [] names
    → (r : Unread) × (list_at word others u ≡ Ok (names, r)) × IsAt r ws
unfolding list_at
list_read word others names u ws at new =
    let listed = names ++ codes ";" ∷ ws in
    let equals = mark_read word u (codes "=" ∷ listed) at in
    let body = mark_read (codes "=") equals.0 listed equals.2 in
    let all = names_read others [] names (tokens body.0) ws body.2 (follows body.0) new in (
      all.0,
      ap (λ (r : Result Unread Stop). r >>= λ rest. mark_at (codes "=") rest >>= names_behind others) equals.1
          ∙ ap (λ (r : Result Unread Stop). r >>= names_behind others) body.1 ∙ all.1,
      all.2,
    )

-- ---- names that are good

good_parts : (xs ys : List (List ℕ)) → AreGood (xs ++ ys) → AreGood xs × AreGood ys
good_parts [] ys all = (tt, all)
good_parts (x ∷ xs) ys all = let rest = good_parts xs ys all.1 in ((all.0, rest.0), rest.1)

good_names : (xs : List Signal) → AllByRecursion (λ x. IsTrue (is_signal_name x.name)) xs → AreGood (names_in xs)
good_names [] all = tt
good_names (x ∷ xs) all = (all.0, good_names xs all.1)

all_from : (all : List Signal) → AreFrom all 0 all
all_from all = λ k within.
    let place : k ≡ 0 + k = omega arith in
    (ap (name_of all) place, omega arith)

module _ (n : Netlist) (is : IsNetlist n) where
  abbrev inputs : List (List ℕ)
  inputs = names_of Input n.signals

  abbrev outputs : List (List ℕ)
  outputs = names_of Output n.signals

  abbrev others : List (List ℕ)
  others = inner n.signals

  whole : (inputs ++ outputs) ++ others ≡ names_in n.signals
  whole = names_in_order n.signals is.kinds

  driven_whole : outputs ++ others ≡ driven_in n.signals
  driven_whole = driven_in_order n.signals is.kinds

  all_good : AreGood ((inputs ++ outputs) ++ others)
  all_good = subst AreGood (sym whole)
      (good_names n.signals (recursion_from_All (λ (x : Signal). IsTrue (is_signal_name x.name)) n.signals is.names))

  good_lists : AreGood inputs × AreGood outputs
  good_lists = good_parts inputs outputs (good_parts (inputs ++ outputs) others all_good).0

  good_driven : AreGood (outputs ++ others)
  good_driven = (good_parts inputs (outputs ++ others)
      (subst AreGood (append_assoc inputs outputs others) all_good)).1

  all_new : AreNew [] ((inputs ++ outputs) ++ others)
  all_new = subst (AreNew []) (sym whole) (netlist_new n is)

  new_lists : AreNew [] inputs × AreNew inputs outputs
  new_lists = new_parts [] inputs outputs (new_parts [] (inputs ++ outputs) others all_new).0

  new_others : AreNew (inputs ++ outputs) others
  new_others = (new_parts [] (inputs ++ outputs) others all_new).1

  new_driven : AreNew inputs (outputs ++ others)
  new_driven = (new_parts [] inputs (outputs ++ others)
      (subst (AreNew []) (append_assoc inputs outputs others) all_new)).1

  count : length (inputs ++ outputs) + length others ≤ max_signals
  count =
      let same = ap (λ (l : List (List ℕ)). length l) whole in
      let few = is.few in
      omega (
        arith,
        few,
        same,
        length-append (inputs ++ outputs) others,
        length-map n.signals (λ (x : Signal). x.name),
      )

  input_names : NewNames [] [] inputs
  input_names = new_names [] [] inputs good_lists.0 (apart_none inputs) new_lists.0
      (omega (arith, count, length-append inputs outputs))

  -- no output is an input
  apart_lists : AllByRecursion (λ x. stands_in inputs x ≡ false) outputs
  apart_lists = new_apart inputs [] outputs
      (subst (λ (l : List (List ℕ)). AreNew l outputs) (sym (append-nil inputs)) new_lists.1)

  output_names : NewNames inputs [] outputs
  output_names = new_names inputs [] outputs good_lists.1 apart_lists
      (new_without inputs [] outputs
      (subst (λ (l : List (List ℕ)). AreNew l outputs) (sym (append-nil inputs)) new_lists.1))
      (omega (arith, count, length-append inputs outputs))

  -- so none is fed back
  inputs_are : without outputs inputs ≡ inputs
  inputs_are = all_kept outputs inputs (apart_turned inputs outputs apart_lists)

  inner_is : internal_among outputs (outputs ++ others) ≡ others
  inner_is = inner_are outputs others (new_apart outputs [] others
      (subst (λ (l : List (List ℕ)). AreNew l others) (sym (append-nil outputs))
      (new_without inputs outputs others new_others)))

  equation_names : NoFaults inputs outputs [] (driven_in n.signals)
  equation_names = subst (NoFaults inputs outputs []) driven_whole (no_faults inputs outputs [] (outputs ++ others)
      good_driven
      (new_apart inputs [] (outputs ++ others)
      (subst (λ (l : List (List ℕ)). AreNew l (outputs ++ others)) (sym (append-nil inputs)) new_driven))
      (new_without inputs [] (outputs ++ others)
      (subst (λ (l : List (List ℕ)). AreNew l (outputs ++ others)) (sym (append-nil inputs)) new_driven))
      (subst (λ (l : List (List ℕ)). length (inputs ++ outputs) + length l ≤ max_signals) (sym inner_is) count))

  said : SaysEquations n.signals 0 n.signals n.gates
  said = says_equations n.signals (netlist_named n is) 0 n.signals n.gates (all_from n.signals) is.gate_count
      (netlist_there n is)

  all_lines : AreLines (lines n)
  all_lines = (
    list_in_line (codes "INORDER") inputs good_lists.0 (fixed_in_line (codes "INORDER") refl),
    (list_in_line (codes "OUTORDER") outputs good_lists.1 (fixed_in_line (codes "OUTORDER") refl), said.in_line),
  )

  abbrev equation_tokens : List (List ℕ)
  equation_tokens = flat_map item_tokens said.items

  abbrev output_tokens : List (List ℕ)
  output_tokens = codes "OUTORDER" ∷ codes "=" ∷ (outputs ++ codes ";" ∷ equation_tokens)

  abbrev source : Unread
  source = unread (text (lines n))

  first_marks : marks (list_line (codes "INORDER") inputs)
      ≡ codes "INORDER" ∷ codes "=" ∷ (inputs ++ codes ";" ∷ [])
  first_marks = list_marks (codes "INORDER") inputs good_lists.0 (name_read 73 (codes "NORDER") refl)

  second_marks : marks (list_line (codes "OUTORDER") outputs)
      ≡ codes "OUTORDER" ∷ codes "=" ∷ (outputs ++ codes ";" ∷ [])
  second_marks = list_marks (codes "OUTORDER") outputs good_lists.1 (name_read 79 (codes "UTORDER") refl)

  at_outputs : marks (list_line (codes "OUTORDER") outputs)
      ++ flat_map marks (equation_lines n.signals n.signals n.gates) ≡ output_tokens
  at_outputs = (λ i. second_marks i ++ said.reads i)
      ∙ ap (λ (l : List (List ℕ)). codes "OUTORDER" ∷ codes "=" ∷ l)
      (append_assoc outputs (codes ";" ∷ []) equation_tokens)

  at_start : IsAt source (codes "INORDER" ∷ codes "=" ∷ (inputs ++ codes ";" ∷ output_tokens))
  at_start = text_tokens (lines n) all_lines ∙ (λ i. first_marks i ++ at_outputs i)
      ∙ ap (λ (l : List (List ℕ)). codes "INORDER" ∷ codes "=" ∷ l)
      (append_assoc inputs (codes ";" ∷ []) output_tokens)

  -- ---- what is read

  abbrev lists : Equations
  lists = record { inputs = inputs; outputs = outputs; equations = [] }

  read_inputs : (r : Unread) × (list_at (codes "INORDER") [] source ≡ Ok (inputs, r)) × IsAt r output_tokens
  read_inputs = list_read (codes "INORDER") [] inputs source output_tokens at_start input_names

  read_outputs : (r : Unread) × (list_at (codes "OUTORDER") inputs read_inputs.0 ≡ Ok (outputs, r))
      × IsAt r equation_tokens
  read_outputs = list_read (codes "OUTORDER") inputs outputs read_inputs.0 equation_tokens read_inputs.2 output_names

  abbrev both_lists : List (List ℕ) × Unread → List (List ℕ) × Unread → Result (Equations × Unread) Stop
  both_lists ins outs = Ok (record { inputs = without outs.0 ins.0; outputs = outs.0; equations = [] }, outs.1)

  read_lists : lists_at source ≡ Ok (lists, read_outputs.0)
  unfolding lists_at
  read_lists =
      ap (λ (r : Result (List (List ℕ) × Unread) Stop). r >>= λ ins. list_at (codes "OUTORDER") ins.0 ins.1
      >>= both_lists ins) read_inputs.1
      ∙ ap (λ (r : Result (List (List ℕ) × Unread) Stop). r >>= both_lists (inputs, read_inputs.0)) read_outputs.1
      ∙ ap (λ (l : List (List ℕ)). Ok (record { inputs = l; outputs = outputs; equations = [] }, read_outputs.0))
      inputs_are

  abbrev fuel : ℕ
  fuel = suc (length (tokens read_outputs.0))

  enough : length said.items < fuel
  enough =
      let same = ap (λ (l : List (List ℕ)). length l) read_outputs.2 in
      omega (arith, enough_tokens said.items, same, length-map (tokens read_outputs.0) (λ (p : Piece). p.bytes))

  read_equations : AreRead lists said.items (equations_from fuel lists read_outputs.0)
  read_equations = equations_read fuel (names_in n.signals) lists said.items read_outputs.0 enough said.fine
      (subst (NoFaults inputs outputs []) (sym said.names) equation_names) read_outputs.2

  abbrev found : Equations
  found = longer lists read_equations.list

  read_statements : statements_at source ≡ Ok found
  unfolding statements_at
  read_statements = ap (λ (r : Result (Equations × Unread) Stop). r
      >>= λ x. equations_from (suc (length (tokens x.1))) x.0 x.1) read_lists ∙ read_equations.read_as

  found_names : driven found ≡ outputs ++ others
  found_names = names_same read_equations.list said.items read_equations.same ∙ said.names ∙ sym driven_whole

  found_signals : signals found ≡ names_in n.signals
  found_signals = ap (λ (l : List (List ℕ)). (inputs ++ outputs) ++ internal_among outputs l) found_names
      ∙ ap (λ (l : List (List ℕ)). (inputs ++ outputs) ++ l) inner_is ∙ whole

  no_unknown : first_in (undeclared (signals found)) read_equations.list ≡ None
  no_unknown = ap (λ (l : List (List ℕ)). first_in (undeclared l) read_equations.list) found_signals
      ∙ all_known (names_in n.signals) read_equations.list said.items read_equations.same said.fine

  no_last_fault : (last : ℕ) → last_fault last found ≡ None
  no_last_fault last =
      let outputs_there : list_all (stands_in (driven found)) outputs ≡ true =
      ap (λ (l : List (List ℕ)). list_all (stands_in l) outputs) found_names ∙ outputs_stand outputs others in
      λ i. no_unknown i otherwise (if outputs_there i then None else Some (last, Undeclared))

  read_text : equations_in (text (lines n)) ≡ Ok found
  unfolding equations_in
  read_text =
      let last = after_last (text (lines n)) in
      (λ i. ended last (no_bad_line (lines n) all_lines i) (read_statements i))
      ∙ ap (λ (f : Option (ℕ × TextKind)). unless f found) (no_last_fault last)

  gate_found : (z : ℕ) → IsNonInput n.signals z → IsGateOf n found z
  gate_found z non_input =
      let here = said.each z non_input in
      let place = gate_place n.signals z in
      let there = there_back read_equations.list said.items read_equations.same place here.0 here.1 in
      let order : 0 + z ≡ z = omega arith in
      record {
        equation = there.equation;
        there = there.at;
        named = there.named ∙ here.2;
        value = λ v. (λ i. expression_value (found_signals i) v (there.tree i)) ∙ here.3 v
            ∙ ap (λ (k : ℕ). value_if_there (slice_get n.gates (gate_place n.signals z)) k v) order;
      }

  of_netlist : AreOfNetlist n found
  of_netlist = record {
    inputs = refl;
    outputs = refl;
    signals_are = found_signals;
    driven_are = found_names ∙ driven_whole;
    gates = gate_found;
  }

  spelled_text : equations_in (equations_text n) ≡ Ok found
  unfolding equations_text
  spelled_text = read_text

pub text_means : (n : Netlist) → IsNetlist n → MeansNetlist (equations_text n) n
text_means n is = record { equations = found n is; spelled = spelled_text n is; of_netlist = of_netlist n is }
