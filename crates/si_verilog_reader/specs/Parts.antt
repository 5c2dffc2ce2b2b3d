-- (text) Parts of a text of Verilog, each read from the symbols that are left.
use Rattle.std.specs.Prelude.{ℕ, ◌==◌, not, Bool, true, false, List, [], ◌∷◌, length, bytes_eq}
use Rattle.std.specs.Prelude.{if◌then◌else◌, zero, suc, Option, Some, None, Result, Ok, Err}
use Rattle.si_base.specs.Bytes.{comma, closing_parenthesis}
use Rattle.si_base.specs.Faults.{when}
use Rattle.si_base.specs.declared.fault.TextKind.{TextKind}
use Rattle.si_base.specs.declared.fault.TextKind.TheVariants.{BadWord}
use Rattle.si_tokens.specs.declared.fault.Stop.{Stop}
use Rattle.si_tokens.specs.declared.fault.Stop.TheVariants.{Cut, Fault}
use Rattle.si_tokens.specs.Unread.{◌>>=◌}
use Rattle.si_verilog.specs.Symbols.{Symbol, Name, Word, Mark}
use Rattle.si_verilog_reader.specs.Placed.{Placed}

-- what is read, and what is left behind it
abbrev pub Reading : Type 0 → Type 0
Reading A = Result (A × List Placed) Stop

-- ---- one symbol

-- the value, if there is no fault at that line
abbrev pub if_good : {A : Type 0} → ℕ → Option TextKind → A → Result A Stop
if_good line None value = Ok value
if_good line (Some kind) value = Err (Fault line kind)

abbrev pub next : List Placed → Reading Placed
next [] = Err Cut
next (p ∷ ps) = Ok (p, ps)

abbrev pub same_symbol : Symbol → Symbol → Bool
same_symbol (Name x) (Name y) = bytes_eq x y
same_symbol (Word x) (Word y) = bytes_eq x y
same_symbol (Mark a) (Mark b) = a == b
same_symbol _ _ = false

-- what is behind a symbol, which has to be this one
unfoldable pub due : Symbol → List Placed → Result (List Placed) Stop
due symbol ps = do
  p ← next ps
  if_good p.0.line (when (not (same_symbol symbol p.0.symbol)) BadWord) p.1

-- a name, and the line on which it stands
pub record Named : Type 0 where
  pub line : ℕ
  pub name : List ℕ

abbrev pub named : ℕ → List Placed → Symbol → Reading Named
named line rest (Name name) = Ok (record { line = line; name = name }, rest)
named line rest _ = Err (Fault line BadWord)

unfoldable pub name_at : List Placed → Reading Named
name_at ps = do
  p ← next ps
  named p.0.line p.1 p.0.symbol

-- ---- one part after another

-- a part behind another, and whether one more follows; there are fewer than `most`
abbrev pub repeated : {A : Type 0} → (A → List Placed → Reading (Bool × A)) → ℕ → A
    → List Placed → Reading A
repeated part zero value ps = Err Cut
repeated part (suc most) value ps = do
  new ← part value ps
  if new.0.0 then repeated part most new.0.1 new.1 else Ok (new.0.1, new.1)

-- each takes at least one symbol
unfoldable pub all_parts : {A : Type 0} → (A → List Placed → Reading (Bool × A)) → A
    → List Placed → Reading A
all_parts part value ps = repeated part (suc (length ps)) value ps

-- ---- lists in parentheses

-- one more part follows behind `,`, and none behind `)`
unfoldable pub goes_on : List Placed → Reading Bool
goes_on ps = do
  p ← next ps
  if same_symbol (Mark comma) p.0.symbol then Ok (true, p.1)
      else if same_symbol (Mark closing_parenthesis) p.0.symbol then Ok (false, p.1)
      else Err (Fault p.0.line BadWord)

unfoldable pub part_of_list : {A : Type 0} → (A → List Placed → Reading A) → A → List Placed
    → Reading (Bool × A)
part_of_list part value ps = do
  new ← part value ps
  more ← goes_on new.1
  Ok ((more.0, new.0), more.1)

-- what is behind `)`, if that is next
abbrev pub closed : List Placed → Option (List Placed)
closed [] = None
closed (p ∷ ps) = if same_symbol (Mark closing_parenthesis) p.symbol then Some ps else None

abbrev pub unless_closed : {A : Type 0} → Option (List Placed) → A → Reading A → Reading A
unless_closed None value read = read
unless_closed (Some rest) value read = Ok (value, rest)

-- parts with commas between them, up to `)`; there may be none
unfoldable pub list_at : {A : Type 0} → (A → List Placed → Reading A) → A → List Placed
    → Reading A
list_at part value ps =
    unless_closed (closed ps) value (all_parts (part_of_list part) value ps)
