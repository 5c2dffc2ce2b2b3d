-- What the words of a gate spell is written as these words.
use Rattle.std.proofs.Common.{◌≡◌, ℕ, ◌<◌, ◌≤◌, ◌&&◌, true, List, [], ◌∷◌, ◌++◌, length, map, refl, sym, ap, ap₂, subst}
use Rattle.std.proofs.Common.{◌∙◌, inl, inr, arith, codes, bytes_eq, nat_le, Option, Some, None, Ok, Err, All}
use Rattle.std.proofs.lemmas.Bool.{cases_Bool, and_parts, leb-true}
use Rattle.std.proofs.lemmas.List.{length-map}
use Rattle.std.proofs.lemmas.List.Elements.{All-nil, All-push}
use Rattle.std.proofs.lemmas.Slice.Eq.{bytes_eq-Decides}
use Rattle.si_base.specs.Graph.{names_in}
use Rattle.si_base.specs.Netlist.{Gate, SumGate, Gc, Cell}
use Rattle.si_base.specs.NetlistText.{gate_words, literal_word}
use Rattle.si_base.specs.WellFormed.{IsGate}
use Rattle.si_base.specs.Words.{is_signal_name}
use Rattle.si_base.specs.declared.graph.Signal.{Signal}
use Rattle.si_base.specs.declared.ids.Literal.{Literal}
use Rattle.si_words.specs.Lines.{rest_of}
use Rattle.si_words.specs.Sums.{cut_at}
use Rattle.si_tokens.specs.LineParts.{Part, made, part_fault, part_value}
use Rattle.si_tokens.proofs.CutLemmas.{cut_facts}
use Rattle.si_tokens.proofs.LinePartLemmas.{made_read, both_read, each_back}
use Rattle.si_netlist_reader.specs.GateParts.{sum_part, pins_part, gc_part, cell_part, gate_part}
use Rattle.si_netlist_reader.specs.GateParts.{gate_fault, gate_of}
use Rattle.si_tokens.proofs.SumPartLemmas.{literal_back}
use Rattle.si_tokens.specs.SumParts.{literal_part}
use Rattle.si_netlist_reader.proofs.LawLemmas.{sum_back}

-- ---- the kinds of gate
module _ (signals : List Signal) where
  abbrev names : List (List ℕ)
  names = names_in signals

  abbrev ReadsAs : List (List ℕ) → Gate → Type 0
  ReadsAs words gate = (words ≡ gate_words signals gate) × IsGate (length names) gate

  sum_gate : (words : List (List ℕ)) (gate : Gate) → made SumGate (sum_part names words) ≡ Some (Ok gate)
      → ReadsAs (codes "sum" ∷ words) gate
  sum_gate words gate is =
      let (sum, read, same) = made_read SumGate (sum_part names words) gate is in
      let (good, back) = sum_back signals words sum read in
      subst (ReadsAs (codes "sum" ∷ words)) same (ap (λ (ws : List (List ℕ)). codes "sum" ∷ ws) (sym back), good)

  gc_gate : (words : List (List ℕ)) (gate : Gate) (o : Option (List (List ℕ) × List (List ℕ)))
      → cut_at (codes "|") words ≡ o → gc_part names o ≡ Some (Ok gate) → ReadsAs (codes "gc" ∷ words) gate
  gc_gate words gate None cut is = absurd cc
  gc_gate words gate (Some (set, reset)) cut is =
      let (one, other, read_one, read_other, same) =
      both_read Gc (sum_part names set) (sum_part names reset) gate is in
      let (set_good, set_back) = sum_back signals set one read_one in
      let (reset_good, reset_back) = sum_back signals reset other read_other in
      let split : words ≡ set ++ codes "|" ∷ reset = (cut_facts (codes "|") words set reset cut).0 in
      subst (ReadsAs (codes "gc" ∷ words)) same (
        ap (λ (ws : List (List ℕ)). codes "gc" ∷ ws)
            (split ∙ sym (ap₂ (λ (x y : List (List ℕ)). x ++ codes "|" ∷ y) set_back reset_back)),
        (set_good, reset_good),
      )

  abbrev AreHere : List Literal → Type 0
  AreHere = All (λ (l : Literal). l.sig < length names)

  pin_added : (before : List Literal) (word : List ℕ) (l : Literal) → AreHere before
      → literal_part names word ≡ Some (Ok l) → AreHere (before ++ l ∷ []) × (literal_word signals l ≡ word)
  pin_added before word l good is =
      let (here, back) = literal_back signals word l is in
      (All-push (λ (k : Literal). k.sig < length names) before l good here, back)

  pins_back : (cell : List ℕ) (words : List (List ℕ)) (literals : List Literal)
      → pins_part names cell words ≡ Some (Ok literals)
      → (is_signal_name cell ≡ true) × (length literals ≤ 4) × AreHere literals
      × (map (literal_word signals) literals ≡ words)
  pins_back cell words literals is = elim (cases_Bool (is_signal_name cell && nat_le (length words) 4)) [
    | inl form ↦ (
        let named = and_parts (is_signal_name cell) (nat_le (length words) 4) form in
        let few : length words ≤ 4 = leb-true (length words) 4 named.1 in
        let (good, back) = each_back (λ before. literal_part names) (literal_word signals) AreHere pin_added words
        literals (All-nil _) (rw form at is) in
        let many : length literals ≡ length words = sym (length-map literals (literal_word signals)) ∙ ap length back in
        (named.0, omega (arith, many, few), good, back))
    | inr other ↦ absurd (let none : None ≡ Some (Ok literals) = rw other at is in cc)
  ]

  cell_gate : (words : List (List ℕ)) (gate : Gate) (o : Option (List (List ℕ) × List (List ℕ)))
      → cut_at (codes ":") words ≡ o → cell_part names o ≡ Some (Ok gate) → ReadsAs (codes "cell" ∷ words) gate
  cell_gate words gate None cut is = absurd cc
  cell_gate words gate (Some ([], sum)) cut is = absurd cc
  cell_gate words gate (Some (cell ∷ pins, sum)) cut is =
      let (literals, made_of, read_pins, read_sum, same) =
      both_read (Cell cell) (pins_part names cell pins) (sum_part names sum) gate is in
      let (named, few, here, pins_as) = pins_back cell pins literals read_pins in
      let (good, sum_as) = sum_back signals sum made_of read_sum in
      let split : words ≡ cell ∷ pins ++ codes ":" ∷ sum = (cut_facts (codes ":") words (cell ∷ pins) sum cut).0 in
      subst (ReadsAs (codes "cell" ∷ words)) same (
        ap (λ (ws : List (List ℕ)). codes "cell" ∷ ws)
            (split ∙ sym (ap₂ (λ (x y : List (List ℕ)). cell ∷ x ++ codes ":" ∷ y) pins_as sum_as)),
        (named, few, here, good),
      )

  gate_back : (words : List (List ℕ)) (gate : Gate) → gate_part names words ≡ Some (Ok gate) → ReadsAs words gate
  gate_back [] gate is = absurd cc
  gate_back (kind ∷ words) gate is = elim (cases_Bool (bytes_eq (codes "sum") kind)) [
    | inl sum ↦ headed (codes "sum") sum (sum_gate words gate (rw sum at is))
    | inr no_sum ↦ elim (cases_Bool (bytes_eq (codes "gc") kind)) [
      | inl gc ↦ headed (codes "gc") gc (gc_gate words gate (cut_at (codes "|") words) refl (rw (no_sum, gc) at is))
      | inr no_gc ↦ elim (cases_Bool (bytes_eq (codes "cell") kind)) [
        | inl cell ↦ headed (codes "cell") cell
            (cell_gate words gate (cut_at (codes ":") words) refl (rw (no_sum, no_gc, cell) at is))
        | inr other ↦ absurd (let none : None ≡ Some (Ok gate) = rw (no_sum, no_gc, other) at is in cc)
      ]
    ]
  ]
    where
      headed : (head : List ℕ) → bytes_eq head kind ≡ true → ReadsAs (head ∷ words) gate → ReadsAs (kind ∷ words) gate
      headed head same = subst (λ (k : List ℕ). ReadsAs (k ∷ words) gate) ((bytes_eq-Decides head kind).0 same)

  -- a gate line without fault
  pub gate_read : (name : List ℕ) (words : List (List ℕ)) → gate_fault names name words ≡ None
      → (words ≡ name ∷ gate_words signals (gate_of names (rest_of words)))
      × IsGate (length names) (gate_of names (rest_of words))
  gate_read name [] none = absurd cc
  gate_read name (head ∷ words) none = elim (cases_Bool (bytes_eq name head)) [
    | inl same ↦ (
        let (as_written, good) = by_part (gate_part names words) refl (rw same at none) in (
          ap₂ (λ (x : List ℕ) (xs : List (List ℕ)). x ∷ xs) (sym ((bytes_eq-Decides name head).0 same)) as_written,
          good,
        ))
    | inr other ↦ absurd (let bad : part_fault {A = Gate} None ≡ None = rw other at none in cc)
  ]
    where
      by_part : (part : Part Gate) → gate_part names words ≡ part → part_fault part ≡ None
          → ReadsAs words (part_value (SumGate []) part)
      by_part None at good = absurd cc
      by_part (Some (Err kind)) at good = absurd cc
      by_part (Some (Ok gate)) at good = gate_back words gate at
