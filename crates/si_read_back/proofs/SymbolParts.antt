-- What is read of placed symbols, taken one by one.
use Rattle.std.proofs.Common.{◌≡◌, ℕ, true, List, [], ◌∷◌, Ok, Result, refl, ap, ◌∙◌}
use Rattle.std.proofs.lemmas.Bool.Decides.{Decides-eqb}
use Rattle.si_tokens.specs.declared.fault.Stop.{Stop}
use Rattle.si_words.proofs.NameWords.{same_bytes}
use Rattle.si_verilog.specs.Symbols.{Symbol, Name, Word, Mark}
use Rattle.si_verilog_reader.specs.Placed.{Placed, on_line}
use Rattle.si_verilog_reader.specs.Parts.{Reading, due, name_at, same_symbol}
use Rattle.si_verilog_reader.proofs.ExpressionLemmas.{Has}

-- a symbol stands first, and these behind it
pub record At (x : Symbol) (xs : List Symbol) (ps : List Placed) : Type 0 where
  pub line : ℕ
  pub rest : List Placed
  pub is : ps ≡ on_line line x ∷ rest
  pub has : Has xs rest

pub first : (x : Symbol) (xs : List Symbol) (ps : List Placed) → Has (x ∷ xs) ps → At x xs ps
first x xs [] has = absurd cc
first x xs (p ∷ ps) has =
    let here : p.symbol ≡ x = cc in
    record { line = p.line; rest = ps; is = ap (λ (y : Symbol). on_line p.line y ∷ ps) here; has = cc }

-- a value is read, and these symbols are left
pub record Leaves {A : Type 0} (read : Reading A) (value : A) (ys : List Symbol) : Type 0 where
  pub rest : List Placed
  pub is : read ≡ Ok (value, rest)
  pub has : Has ys rest

-- the same symbol stands there as is due
same_self : (x : Symbol) → same_symbol x x ≡ true
same_self (Name name) = same_bytes name
same_self (Word word) = same_bytes word
same_self (Mark byte) = (Decides-eqb byte byte).1 refl

pub record Behind (read : Result (List Placed) Stop) (ys : List Symbol) : Type 0 where
  pub rest : List Placed
  pub is : read ≡ Ok rest
  pub has : Has ys rest

due_first : (x : Symbol) (line : ℕ) (rest : List Placed) → due x (on_line line x ∷ rest) ≡ Ok rest
unfolding due
due_first x line rest = rw (same_self x) refl

pub due_read : (x : Symbol) (ys : List Symbol) (ps : List Placed) → Has (x ∷ ys) ps → Behind (due x ps) ys
due_read x ys ps has =
    let one = first x ys ps has in
    record { rest = one.rest; is = ap (due x) one.is ∙ due_first x one.line one.rest; has = one.has }

pub record NamedAt (name : List ℕ) (ps : List Placed) (ys : List Symbol) : Type 0 where
  pub line : ℕ
  pub rest : List Placed
  pub is : name_at ps ≡ Ok (record { line = line; name = name }, rest)
  pub has : Has ys rest

name_first : (name : List ℕ) (line : ℕ) (rest : List Placed)
    → name_at (on_line line (Name name) ∷ rest) ≡ Ok (record { line = line; name = name }, rest)
unfolding name_at
name_first name line rest = refl

pub name_read : (name : List ℕ) (ys : List Symbol) (ps : List Placed) → Has (Name name ∷ ys) ps → NamedAt name ps ys
name_read name ys ps has =
    let one = first (Name name) ys ps has in
    record {
      line = one.line;
      rest = one.rest;
      is = ap name_at one.is ∙ name_first name one.line one.rest;
      has = one.has;
    }
