-- Lines of a netlist text, one for each of some names.
use Rattle.std.proofs.Common.{◌≡◌, ℕ, suc, ◌+◌, ◌-◌, ◌*◌, ◌^◌, ◌<◌, ◌≤◌, List, [], ◌∷◌, ◌++◌, length, map, take, drop}
use Rattle.std.proofs.Common.{refl, sym, ap, ◌∙◌, arith, slice_get, Some, append_assoc, add-one, Result, Err, Bool}
use Rattle.std.proofs.Common.{true, false}
use Rattle.std.proofs.Math.Nat.{pow-le-pow_right}
use mir.Val.{bool_byte}
use Rattle.std.proofs.Math.Seq.{drop-cons}
use Rattle.std.proofs.lemmas.List.{length-map, length-drop, drop_all, append-nil}
use Rattle.std.proofs.lemmas.Option.{slice_get_within, get_or_from_slice_get}
use Rattle.si_base.specs.declared.fault.TextFault.{TextFault}
use Rattle.si_base.specs.TextFaults.{ToldBy, Shows}
use Rattle.si_words.specs.Lines.{Form, words_of}
use Rattle.si_words.specs.Rows.{Left, fault_of}
use Rattle.si_words.specs.Loops.RowValues.{TakesValue, TakesAll}
use Rattle.si_words.proofs.RowLemmas.{row_step}

module _ {V : Type 0} (form : List ℕ → Form) (spelled : List (List ℕ) → V) (names : List (List ℕ))
    (from : ℕ) (old : Left) where
  abbrev value_at : List ℕ → V
  value_at line = spelled (words_of line)

  -- what is left from place k on tells the fault of all, and completes the values of all
  pub record Doing (k : ℕ) (now : Left) (values : List V) : Type 0 where
    pub fault : (rest : List Form)
        → fault_of (map form (drop k names) ++ rest) now ≡ fault_of (map form (drop from names) ++ rest) old
    pub lines : drop (length names - k) now.lines ≡ drop (length names - from) old.lines
    pub values_are : values ++ map value_at (take (length names - k) now.lines)
        ≡ map value_at (take (length names - from) old.lines)

  next_name : (k : ℕ) (name : List ℕ) → slice_get names k ≡ Some name → drop k names ≡ name ∷ drop (k + 1) names
  next_name k name at =
      let within : k < length names = slice_get_within names k name at in
      rw (drop-cons names k [] within, get_or_from_slice_get names k name [] at, add-one) refl

  pub step : (k : ℕ) (now new : Left) (values more : List V) (name : List ℕ) (v : V)
      → Doing k now values → slice_get names k ≡ Some name → TakesValue (form name) spelled now new v
      → more ≡ values ++ v ∷ [] → Doing (k + 1) new more
  step k now new values more name v d at t is =
      let within : k < length names = slice_get_within names k name at in
      let e : length names - k ≡ suc (length names - (k + 1)) = omega arith in
      let value : v ≡ value_at t.takes.line = t.value_is ∙ ap spelled t.takes.words_are in
      record {
        fault =
            λ rest. sym (row_step (form name) (map form (drop (k + 1) names) ++ rest) now new t.words t.takes t.good)
            ∙ ap (λ (ns : List (List ℕ)). fault_of (map form ns ++ rest) now) (sym (next_name k name at))
            ∙ d.fault rest;
        lines = rw (e, t.takes.lines) at d.lines;
        values_are = rw is (append_assoc values (v ∷ []) _ ∙ rw value (rw (e, t.takes.lines) at d.values_are));
      }

  pub end : (k : ℕ) (now : Left) (values : List V) → from ≤ length names → length names ≤ k → Doing k now values
      → TakesAll (map form (drop from names)) spelled old now values
  end k now values room past d =
      let e : length names - k ≡ 0 = omega arith in
      let count : length (map form (drop from names)) ≡ length names - from =
      length-map (drop from names) form ∙ length-drop from names in
      record {
        fault = λ rest. sym (d.fault rest)
            ∙ ap (λ (ns : List (List ℕ)). fault_of (map form ns ++ rest) now) (drop_all k names past);
        lines = rw count (rw e at d.lines);
        values_are = rw count (sym (append-nil values) ∙ rw e at d.values_are);
      }

  pub failed_at : {X : Type 0} (k : ℕ) (now : Left) (values : List V) (name : List ℕ) (r : Result X TextFault)
      (x e : TextFault) → Doing k now values → slice_get names k ≡ Some name → r ≡ Err x → x ≡ e
      → ((forms : List Form) → Shows e (fault_of (form name ∷ forms) now)) → (rest : List Form)
      → ToldBy r (fault_of (map form (drop from names) ++ rest) old)
  failed_at k now values name r x e d at is same told rest =
      rw (is, same, ← d.fault rest, next_name k name at) (told (map form (drop (k + 1) names) ++ rest))

-- a code of so many bits, doubled, with one more bit
pub doubled_fits : (code i n bit : ℕ) → code < 2 ^ i → i < n → bit < 2 → bit + 2 * code < 2 ^ n
doubled_fits code i n bit small within one =
    let more : 2 ^ suc i ≤ 2 ^ n = pow-le-pow_right {n = 2} (omega arith) {i = suc i} {j = n} within in
    omega (arith, small, one, more)

pub bit_small : (b : Bool) → bool_byte b < 2
bit_small true = omega arith
bit_small false = omega arith
