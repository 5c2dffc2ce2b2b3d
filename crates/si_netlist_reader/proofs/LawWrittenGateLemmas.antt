-- The words of a gate spell that gate, and have bytes of words only.
use Rattle.std.proofs.Common.{if◌then◌else◌, ◌≡◌, ℕ, ◌≤◌, Bool, true, false, List, [], ◌∷◌, ◌++◌, length, map, All}
use Rattle.std.proofs.Common.{refl, sym, ap, ap₂, ◌∙◌, arith, codes, bytes_eq, Some, None, Ok}
use Rattle.std.proofs.lemmas.Bool.{true≢false, and_parts, and_from, le-leb, false_from_ne_true}
use Rattle.std.proofs.lemmas.List.{length-map}
use Rattle.std.proofs.lemmas.List.Elements.{recursion_from_All}
use Rattle.std.proofs.lemmas.List.Folds.{list_all-append}
use Rattle.std.proofs.lemmas.Slice.Eq.{bytes_eq-Decides}
use Rattle.std.specs.List.{AllByRecursion, list_all}
use Rattle.si_base.specs.declared.ids.Literal.{Literal}
use Rattle.si_base.specs.declared.graph.Signal.{Signal}
use Rattle.si_base.specs.Netlist.{Sum, Gate, SumGate, Gc, Cell}
use Rattle.si_base.specs.Graph.{name_of, names_in}
use Rattle.si_base.specs.NetlistText.{literal_word, sum_words, gate_words}
use Rattle.si_base.specs.Words.{is_signal_name, is_name_byte, is_letter}
use Rattle.si_base.specs.WellFormed.{IsCube, IsSum, IsGate}
use Rattle.si_words.proofs.NameByteLemmas.{dark_letter, dark_name_byte}
use Rattle.si_words.specs.Sums.{is_literal}
use Rattle.si_tokens.specs.LineParts.{made, both, part_fault, part_value}
use Rattle.si_tokens.specs.SumParts.{literal_part}
use Rattle.si_tokens.proofs.CutLemmas.{Unlike, cut_made}
use Rattle.si_tokens.proofs.LinePartLemmas.{each_forth}
use Rattle.si_tokens.proofs.SumPartLemmas as sums
use Rattle.si_netlist_reader.specs.GateParts.{pins_part, gc_part, cell_part, gate_part, gate_fault, gate_of}
use Rattle.si_netlist_reader.proofs.LawTextLemmas.{IsDark}
use Rattle.si_netlist_reader.proofs.LawLineLemmas.{AreNames}
use Rattle.si_netlist_reader.proofs.LawWrittenSumLemmas.{IsThere, AreThere, all_there, sum_forth}

-- ---- bytes of names
dark_bytes : (bs : List ℕ) → list_all is_name_byte bs ≡ true → IsDark bs
dark_bytes [] are = refl
dark_bytes (b ∷ bs) are =
    let each = and_parts (is_name_byte b) _ are in
    and_from _ _ (dark_name_byte b each.0) (dark_bytes bs each.1)

pub dark_name : (name : List ℕ) → is_signal_name name ≡ true → IsDark name
dark_name [] is = refl
dark_name (b ∷ bs) is =
    let each = and_parts (is_letter b) (list_all is_name_byte bs) is in
    and_from _ _ (dark_letter b each.0) (dark_bytes bs each.1)

dark_end : (name : List ℕ) (plain : Bool) → IsDark name → IsDark (name ++ (if plain then [] else 39 ∷ []))
dark_end name true dark = rw list_all-append (and_from _ _ dark refl)
dark_end name false dark = rw list_all-append (and_from _ _ dark refl)

name_unlike : (mark name : List ℕ) → is_signal_name mark ≡ false → is_signal_name name ≡ true
    → bytes_eq mark name ≡ false
name_unlike mark name none is = false_from_ne_true _
    (λ same. true≢false (sym is ∙ sym (ap is_signal_name ((bytes_eq-Decides mark name).0 same)) ∙ none))

-- ---- gates
abbrev pub AreDark : List (List ℕ) → Type 0
AreDark words = AllByRecursion IsDark words

pub record Written (signals : List Signal) (gate : Gate) : Type 0 where
  pub read : gate_part (names_in signals) (gate_words signals gate) ≡ Some (Ok gate)
  pub dark : AreDark (gate_words signals gate)

module _ (signals : List Signal) {limit : ℕ} (are : AreNames limit (names_in signals)) where
  abbrev names : List (List ℕ)
  names = names_in signals

  abbrev Here : Literal → Type 0
  Here = IsThere signals are

  there : (sum : Sum) → IsSum (length names) sum → AllByRecursion (AreThere signals are) sum
  there sum is = all_there signals are sum (recursion_from_All (IsCube (length names)) sum is)

  dark_literal : (l : Literal) → Here l → IsDark (literal_word signals l)
  dark_literal l here = dark_end (name_of signals l.sig) l.plain
      (dark_name (name_of signals l.sig) (sums.good_name signals are.good are.distinct l.sig here))

  dark_sum : (sum : Sum) → IsSum (length names) sum → AreDark (sum_words signals sum)
  dark_sum sum is = sums.of_sum IsDark Here signals dark_literal refl sum refl refl (there sum is)

  -- words that no literal is
  unlike_literal : (mark : List ℕ) → is_literal mark ≡ false → (l : Literal) → Here l
      → bytes_eq mark (literal_word signals l) ≡ false
  unlike_literal mark none l here =
      sums.no_literal mark (literal_word signals l) none (sums.is_word signals are.good are.distinct l here)

  sum_written : (sum : Sum) → IsSum (length names) sum → Written signals (SumGate sum)
  sum_written sum is = record {
    read = ap (made SumGate) (sum_forth signals are sum is);
    dark = (refl, dark_sum sum is);
  }

  gc_written : (set reset : Sum) → IsSum (length names) set → IsSum (length names) reset
      → Written signals (Gc set reset)
  gc_written set reset is_set is_reset =
      let no_bar : Unlike (codes "|") (sum_words signals set) =
      sums.of_sum (λ w. bytes_eq (codes "|") w ≡ false) Here signals (unlike_literal (codes "|") refl) refl set refl
      refl (there set is_set) in
      record {
        read = ap (gc_part names) (cut_made (codes "|") (sum_words signals set) (sum_words signals reset) no_bar)
            ∙ ap₂ (both Gc) (sum_forth signals are set is_set) (sum_forth signals are reset is_reset);
        dark = (
          refl,
          sums.append_all IsDark (sum_words signals set) (codes "|" ∷ sum_words signals reset) (dark_sum set is_set)
              (refl, dark_sum reset is_reset),
        );
      }

  pins_forth : (ls : List Literal) → AreThere signals are ls
      → AllByRecursion (λ l. literal_part names (literal_word signals l) ≡ Some (Ok l)) ls
  pins_forth [] here = tt
  pins_forth (l ∷ ls) here =
      (sums.literal_forth signals are.good are.distinct l here.0, pins_forth ls here.1)

  cell_written : (name : List ℕ) (literals : List Literal) (sum : Sum) → is_signal_name name ≡ true
      → length literals ≤ 4 → All Here literals → IsSum (length names) sum → Written signals (Cell name literals sum)
  cell_written name literals sum named few all is =
      let here : AreThere signals are literals = recursion_from_All Here literals all in
      let words : List (List ℕ) = map (literal_word signals) literals in
      let no_colon : Unlike (codes ":") words = sums.of_literals (λ w. bytes_eq (codes ":") w ≡ false) Here signals
      (unlike_literal (codes ":") refl) refl literals here in
      let cut = cut_made (codes ":") (name ∷ words) (sum_words signals sum)
      (name_unlike (codes ":") name refl named, no_colon) in
      let count : length words ≡ length literals = length-map literals (literal_word signals) in
      let form = and_from _ _ named (le-leb (length words) 4 (omega arith)) in
      let pins : pins_part names name words ≡ Some (Ok literals) =
      rw form (each_forth (literal_part names) (literal_word signals) [] literals (pins_forth literals here)) in
      record {
        read = ap (cell_part names) cut ∙ ap₂ (both (Cell name)) pins (sum_forth signals are sum is);
        dark = (
          refl,
          (
            dark_name name named,
            sums.append_all IsDark words (codes ":" ∷ sum_words signals sum)
                (sums.of_literals IsDark Here signals dark_literal refl literals here) (refl, dark_sum sum is),
          ),
        );
      }

  pub gate_written : (gate : Gate) → IsGate (length names) gate → Written signals gate
  gate_written (SumGate sum) is = sum_written sum is
  gate_written (Gc set reset) is = gc_written set reset is.0 is.1
  gate_written (Cell name literals sum) is = cell_written name literals sum is.0 is.1 is.2 is.3

-- a gate line has no fault, and spells the gate
pub gate_line_good : (signals : List Signal) (name : List ℕ) (gate : Gate) → Written signals gate
    → gate_fault (names_in signals) name (name ∷ gate_words signals gate) ≡ None
gate_line_good signals name gate written =
    rw ((bytes_eq-Decides name name).1 refl) (ap part_fault written.read)

pub gate_spelled : (signals : List Signal) (gate : Gate) → Written signals gate
    → gate_of (names_in signals) (gate_words signals gate) ≡ gate
gate_spelled signals gate written = ap (part_value (SumGate [])) written.read
