-- The names of a gate's ports: tokens of name bytes, and no two of them the same.
use Rattle.std.proofs.Common.{◌≡◌, ◌≢◌, ℕ, ◌&&◌, not, true, false, List, [], ◌∷◌, ◌++◌, length, nat_le}
use Rattle.std.proofs.Common.{bytes_eq, All, AllPairs, refl, sym, inl, inr, arith}
use Rattle.std.specs.List.{list_all}
use Rattle.std.proofs.lemmas.Bool.{cases_Bool, true≢false, and_from, and_parts}
use Rattle.std.proofs.lemmas.List.Elements.{All-nil, All-push}
use Rattle.std.proofs.lemmas.List.Quantifiers.{all_pairs_push}
use Rattle.si_base.specs.Lines.{Line, is_blank, begins}
use Rattle.si_base.specs.Words.{is_name_byte}
use Rattle.si_base.proofs.WordLemmas.{excludes}
use Rattle.si_words.proofs.NameWords.{bytes_swap, other_names}
use Rattle.si_words.specs.Names.{stands_in}
use Rattle.si_cell.specs.Limits.{max_pins}
use Rattle.si_tokens.specs.Unread.{Unread, Piece, joined, tokens_in, tokens_of_lines, tokens}
use Rattle.si_genlib.specs.Expression.{is_name, is_constant}
use Rattle.si_genlib.specs.Gate.{Pins, no_pins, with_pin, with_token, ends_expression, pins_from}
use Rattle.si_genlib.specs.Ports.{Ports, port_names, IsPortName}
use Rattle.si_genlib.proofs.ExpressionReads.{stands_push}

-- ---- tokens
-- a token that begins with a name byte has no other bytes
abbrev pub IsWhole : List ℕ → Type 0
IsWhole bytes = is_name bytes ≡ true → IsPortName bytes

abbrev pub AreWhole : List Piece → Type 0
AreWhole [] = Unit {0}
AreWhole (token ∷ more) = IsWhole token.bytes × AreWhole more

abbrev BeginWithName : List Piece → Type 0
BeginWithName [] = ⊥
BeginWithName (token ∷ more) = IsPortName token.bytes

name_dark : (b : ℕ) → is_name_byte b ≡ true → is_blank b ≡ false
name_dark b name =
    rw (excludes is_name_byte 32 b refl name, excludes is_name_byte 9 b refl name, excludes is_name_byte 13 b refl name)
    refl

longer : (b : ℕ) (bytes : List ℕ) → is_name_byte b ≡ true → IsPortName bytes → IsPortName (b ∷ bytes)
longer b [] name is = absurd (true≢false (sym is))
longer b (c ∷ bytes) name is = and_from (is_name_byte b) (list_all is_name_byte (c ∷ bytes)) name is

alone : (b : ℕ) → is_name_byte b ≡ true → IsPortName (b ∷ [])
alone b name = and_from (is_name_byte b) true name refl

joined_begin : (b : ℕ) (ps : List Piece) → is_name_byte b ≡ true → BeginWithName ps → BeginWithName (joined b ps)
joined_begin b [] name is = absurd is
joined_begin b (p ∷ ps) name is = longer b p.bytes name is

begin_with_name : (n : ℕ) (lines : List Line) (bs : List ℕ) → begins is_name_byte bs ≡ true
    → BeginWithName (tokens_in n lines bs)
begin_with_name n lines [] name = absurd (true≢false (sym name))
begin_with_name n lines (b ∷ bs) name = elim (cases_Bool (begins is_name_byte bs)) [
  | inl goes ↦ rw (name_dark b name, name, goes) (joined_begin b (tokens_in n lines bs) name
      (begin_with_name n lines bs goes))
  | inr ends ↦ rw (name_dark b name, name, ends) (alone b name)
]

joined_whole : (b : ℕ) (ps : List Piece) → is_name_byte b ≡ true → BeginWithName ps → AreWhole ps
    → AreWhole (joined b ps)
joined_whole b [] name is whole = tt
joined_whole b (p ∷ ps) name is whole = (λ begins. longer b p.bytes name is, whole.1)

whole_in : (n : ℕ) (lines : List Line) (bs : List ℕ) → AreWhole (tokens_in n lines bs)
whole_in n lines [] = tt
whole_in n lines (b ∷ bs) = let rest = whole_in n lines bs in elim (cases_Bool (is_blank b)) [
  | inl blank ↦ rw blank rest
  | inr dark ↦ elim (cases_Bool (is_name_byte b && begins is_name_byte bs)) [
    | inl goes ↦
        let parts = and_parts (is_name_byte b) (begins is_name_byte bs) goes in
        rw (dark, goes) (joined_whole b (tokens_in n lines bs) parts.0 (begin_with_name n lines bs parts.1) rest)
    | inr ends ↦ rw (dark, ends) (λ name. alone b name, rest)
  ]
]

both_whole : (ps qs : List Piece) → AreWhole ps → AreWhole qs → AreWhole (ps ++ qs)
both_whole [] qs one other = other
both_whole (p ∷ ps) qs one other = (one.0, both_whole ps qs one.1 other)

whole_lines : (lines : List Line) → AreWhole (tokens_of_lines lines)
whole_lines [] = tt
whole_lines (line ∷ lines) = both_whole (tokens_in line.0 lines line.1) (tokens_of_lines lines)
    (whole_in line.0 lines line.1) (whole_lines lines)

pub tokens_whole : (u : Unread) → AreWhole (tokens u)
unfolding tokens
tokens_whole u = both_whole (tokens_in u.number u.lines u.here) (tokens_of_lines u.lines)
    (whole_in u.number u.lines u.here) (whole_lines u.lines)

-- ---- pins
-- what holds of the pins of a gate with this own output
pub record ArePins (out : List ℕ) (pins : Pins) : Type 0 where
  pub names : All IsPortName pins.names
  pub distinct : AllPairs (λ x y. x ≢ y) pins.names
  pub other : stands_in pins.names out ≡ false

no_pins_are : (out : List ℕ) → ArePins out no_pins
no_pins_are out = record {
  names = All-nil IsPortName;
  distinct = λ i j d order within. absurd (omega (arith, within));
  other = refl;
}

pin_added : (out : List ℕ) (pins : Pins) (name : List ℕ) → IsPortName name → ArePins out pins
    → ArePins out (with_pin out pins name)
pin_added out pins name is are = elim (cases_Bool (bytes_eq name out)) [
  | inl own ↦ rw own (record { names = are.names; distinct = are.distinct; other = are.other })
  | inr apart ↦ elim (cases_Bool (stands_in pins.names name)) [
    | inl there ↦ rw (apart, there) are
    | inr new ↦ elim (cases_Bool (nat_le max_pins (length pins.names))) [
      | inl full ↦ rw (apart, new, full) (record { names = are.names; distinct = are.distinct; other = are.other })
      | inr room ↦ rw (apart, new, room) (record {
        names = All-push IsPortName pins.names name are.names is;
        distinct = all_pairs_push (λ x y. x ≢ y) pins.names name are.distinct
            (λ k d inside same. other_names name pins.names new k d inside (sym same));
        other = rw (stands_push pins.names name out, are.other) (bytes_swap name out apart);
      })
    ]
  ]
]

token_added : (out : List ℕ) (pins : Pins) (bytes : List ℕ) → IsWhole bytes → ArePins out pins
    → ArePins out (with_token out pins bytes)
token_added out pins bytes whole are = elim (cases_Bool (is_name bytes && not (is_constant bytes))) [
  | inl pin ↦
      let parts = and_parts (is_name bytes) (not (is_constant bytes)) pin in
      rw pin (pin_added out pins bytes (whole parts.0) are)
  | inr none ↦ rw none are
]

pins_are_from : (out : List ℕ) (pins : Pins) (ps : List Piece) → AreWhole ps → ArePins out pins
    → ArePins out (pins_from out pins ps)
pins_are_from out pins [] whole are = are
pins_are_from out pins (p ∷ ps) whole are = elim (cases_Bool (ends_expression p.bytes)) [
  | inl ends ↦ rw ends are
  | inr goes ↦ rw goes (pins_are_from out (with_token out pins p.bytes) ps whole.1
      (token_added out pins p.bytes whole.0 are))
]

pins_are : (out : List ℕ) (u : Unread) → ArePins out (pins_from out no_pins (tokens u))
pins_are out u = pins_are_from out no_pins (tokens u) (tokens_whole u) (no_pins_are out)

-- ---- ports
-- what holds of the names of a gate's ports
pub record AreNamed (ports : Ports) : Type 0 where
  pub names : All IsPortName (port_names ports)
  pub distinct : AllPairs (λ x y. x ≢ y) (port_names ports)

pub ports_named : (out : List ℕ) (u : Unread) → IsPortName out
    → AreNamed (record { pins = (pins_from out no_pins (tokens u)).names; output = out })
ports_named out u is =
    let are = pins_are out u in
    let pins : List (List ℕ) = (pins_from out no_pins (tokens u)).names in record {
      names = All-push IsPortName pins out are.names is;
      distinct = all_pairs_push (λ x y. x ≢ y) pins out are.distinct
          (λ k d inside same. other_names out pins are.other k d inside (sym same));
    }
