-- A module begins with a bare word of these bytes alone.
use Rattle.std.proofs.Common.{◌≡◌, ℕ, ◌&&◌, not, Bool, true, false, if◌then◌else◌, List, bytes_eq, codes}
use Rattle.std.proofs.Common.{refl, sym, ap, ◌∙◌, inl, inr}
use Rattle.std.proofs.lemmas.Bool.{cases_Bool, true≢false}
use Rattle.std.proofs.lemmas.Slice.Eq.{bytes_eq-Decides}
use Rattle.si_verilog.specs.Keywords.{keywords, is_keyword}
use Rattle.si_verilog.specs.Symbols.{Name, Word, bare_symbol, is_identifier}
use Rattle.si_verilog_reader.specs.Parts.{same_symbol}

abbrev is_name : List ℕ → Bool
is_name word = is_identifier word && not (is_keyword word)

module_is_keyword : is_name (codes "module") ≡ false
unfolding is_keyword keywords
module_is_keyword = refl

no_name_is_module : (word : List ℕ) → is_name word ≡ true → bytes_eq (codes "module") word ≡ false
no_name_is_module word name = elim (cases_Bool (bytes_eq (codes "module") word)) [
  | inr other ↦ other
  | inl equal ↦
      let same : codes "module" ≡ word = (bytes_eq-Decides (codes "module") word).0 equal in
      absurd (true≢false (sym name ∙ sym (ap is_name same) ∙ module_is_keyword))
]

-- a bare word is the keyword `module` exactly if its bytes are
pub module_alone : (word : List ℕ)
    → bytes_eq (codes "module") word ≡ same_symbol (Word (codes "module")) (bare_symbol word)
module_alone word = elim (cases_Bool (is_name word)) [
  | inl name ↦ no_name_is_module word name ∙ sym (ap as_symbol name)
  | inr other ↦ sym (ap as_symbol other)
]
  where
    as_symbol : Bool → Bool
    as_symbol name = same_symbol (Word (codes "module")) (if name then Name word else Word word)
