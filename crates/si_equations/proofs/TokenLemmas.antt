-- The tokens of the parts of a line.
use Rattle.std.proofs.Common.{◌≡◌, ℕ, ◌&&◌, Bool, true, false, List, [], ◌∷◌, ◌++◌, refl, sym, ap, ◌∙◌, append_assoc}
use Rattle.std.proofs.Common.{if◌then◌else◌, inl, inr}
use Rattle.std.specs.List.{list_all}
use Rattle.std.proofs.lemmas.Bool.{cases_Bool, and_parts}
use Rattle.std.proofs.lemmas.List.{append-nil}
use Rattle.si_base.specs.Lines.{Line, is_blank, begins}
use Rattle.si_base.specs.Words.{is_name_byte}
use Rattle.si_base.proofs.WordLemmas.{excludes}
use Rattle.si_tokens.specs.Unread.{Piece, joined, tokens_in}
use Rattle.si_genlib.specs.Grammar.{bytes_of}

-- a byte in front of the first token
abbrev onto : ℕ → List (List ℕ) → List (List ℕ)
onto b [] = []
onto b (w ∷ ws) = (b ∷ w) ∷ ws

abbrev first_mark : Bool → ℕ → List (List ℕ) → List (List ℕ)
first_mark joins b ws = if joins then onto b ws else (b ∷ []) ∷ ws

-- the tokens of a line, each by its bytes
abbrev pub marks : List ℕ → List (List ℕ)
marks [] = []
marks (b ∷ bs) =
    if is_blank b then marks bs else first_mark (is_name_byte b && begins is_name_byte bs) b (marks bs)

onto_joined : (b : ℕ) (ps : List Piece) → bytes_of (joined b ps) ≡ onto b (bytes_of ps)
onto_joined b [] = refl
onto_joined b (p ∷ ps) = refl

first_same : (c : Bool) (n : ℕ) (lines : List Line) (b : ℕ) (bs : List ℕ) (ws : List (List ℕ))
    → bytes_of (tokens_in n lines bs) ≡ ws
    → bytes_of (if c then joined b (tokens_in n lines bs) else
    record { line = n; bytes = b ∷ []; rest = record { number = n; here = bs; lines = lines } }
    ∷ tokens_in n lines bs) ≡ first_mark c b ws
first_same true n lines b bs ws same = onto_joined b (tokens_in n lines bs) ∙ ap (onto b) same
first_same false n lines b bs ws same = ap (λ (vs : List (List ℕ)). (b ∷ []) ∷ vs) same

pub marks_in : (n : ℕ) (lines : List Line) (bs : List ℕ) → bytes_of (tokens_in n lines bs) ≡ marks bs
marks_in n lines [] = refl
marks_in n lines (b ∷ bs) = elim (cases_Bool (is_blank b)) [
  | inl blank ↦ rw blank (marks_in n lines bs)
  | inr dark ↦ rw dark (first_same (is_name_byte b && begins is_name_byte bs) n lines b bs (marks bs)
      (marks_in n lines bs))
]

-- the text has these tokens, whatever stands behind it
abbrev pub Reads : List ℕ → List (List ℕ) → Type 0
Reads text ws = (rest : List ℕ) → marks (text ++ rest) ≡ ws ++ marks rest

-- the same, where no name goes on behind it
abbrev pub ReadsBefore : List ℕ → List (List ℕ) → Type 0
ReadsBefore text ws = (rest : List ℕ) → begins is_name_byte rest ≡ false → marks (text ++ rest) ≡ ws ++ marks rest

-- ---- one behind another

pub read_then : (a b : List ℕ) (s t : List (List ℕ)) → Reads a s → ReadsBefore b t → ReadsBefore (a ++ b) (s ++ t)
read_then a b s t first next = λ rest ends. ap marks (append_assoc a b rest) ∙ first (b ++ rest)
    ∙ ap (λ (u : List (List ℕ)). s ++ u) (next rest ends) ∙ sym (append_assoc s t (marks rest))

-- a text that no name goes on with
abbrev pub Parts : List ℕ → Type 0
Parts text = (rest : List ℕ) → begins is_name_byte (text ++ rest) ≡ false

pub parted_read : (a b : List ℕ) (s t : List (List ℕ)) → ReadsBefore a s → Parts b → Reads b t → Reads (a ++ b) (s ++ t)
parted_read a b s t first parts next = λ rest. ap marks (append_assoc a b rest) ∙ first (b ++ rest) (parts rest)
    ∙ ap (λ (u : List (List ℕ)). s ++ u) (next rest) ∙ sym (append_assoc s t (marks rest))

pub parted_then : (a b : List ℕ) (s t : List (List ℕ)) → ReadsBefore a s → Parts b → ReadsBefore b t
    → ReadsBefore (a ++ b) (s ++ t)
parted_then a b s t first parts next = λ rest ends. ap marks (append_assoc a b rest)
    ∙ first (b ++ rest) (parts rest)
    ∙ ap (λ (u : List (List ℕ)). s ++ u) (next rest ends) ∙ sym (append_assoc s t (marks rest))

pub line_marks : (text : List ℕ) (ws : List (List ℕ)) → Reads text ws → marks text ≡ ws
line_marks text ws reads = ap marks (sym (append-nil text)) ∙ reads [] ∙ append-nil ws

-- ---- names

name_dark : (b : ℕ) → is_name_byte b ≡ true → is_blank b ≡ false
name_dark b name = rw (
  excludes is_name_byte 32 b refl name,
  excludes is_name_byte 9 b refl name,
  excludes is_name_byte 13 b refl name,
) refl

name_ends : (b : ℕ) (rest : List ℕ) → is_name_byte b ≡ true → begins is_name_byte rest ≡ false
    → marks (b ∷ rest) ≡ (b ∷ []) ∷ marks rest
name_ends b rest name ends = rw (name_dark b name, name, ends) refl

name_goes : (b c : ℕ) (cs : List ℕ) → is_name_byte b ≡ true → is_name_byte c ≡ true
    → marks (b ∷ c ∷ cs) ≡ onto b (marks (c ∷ cs))
name_goes b c cs name next = by (is_blank b) (is_name_byte b) (is_name_byte c) (name_dark b name) name next
  where
    by : (blank first second : Bool) → blank ≡ false → first ≡ true → second ≡ true
        → (if blank then marks (c ∷ cs) else first_mark (first && second) b (marks (c ∷ cs))) ≡ onto b (marks (c ∷ cs))
    by blank first second is_dark is_first is_second = rw (is_dark, is_first, is_second) refl

pub name_read : (b : ℕ) (bs : List ℕ) → list_all is_name_byte (b ∷ bs) ≡ true → ReadsBefore (b ∷ bs) ((b ∷ bs) ∷ [])
name_read b [] all = λ rest ends. name_ends b rest (and_parts (is_name_byte b) true all).0 ends
name_read b (c ∷ cs) all = λ rest ends.
    let here = and_parts (is_name_byte b) (list_all is_name_byte (c ∷ cs)) all in
    let next = and_parts (is_name_byte c) (list_all is_name_byte cs) here.1 in
    name_goes b c (cs ++ rest) here.0 next.0 ∙ ap (onto b) (name_read c cs here.1 rest ends)
