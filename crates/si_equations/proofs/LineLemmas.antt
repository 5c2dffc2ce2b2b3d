-- A text of lines, and their tokens.
use Rattle.std.proofs.Common.{◌≡◌, ℕ, ◌+◌, List, [], ◌∷◌, ◌++◌, flat_map, refl, ap, ◌∙◌, append_assoc}
use Rattle.std.proofs.Common.{None}
use Rattle.std.specs.List.{AllByRecursion, enumerate_from}
use Rattle.std.proofs.lemmas.List.{map-append}
use Rattle.si_base.specs.Lines.{Line, lines_of, numbered}
use Rattle.si_words.proofs.WrittenLineLemmas.{AreInLine, no_comment, no_bad_byte}
use Rattle.si_tokens.specs.Unread.{Piece, clean, bad_line, unread, tokens, tokens_in, tokens_of_lines}
use Rattle.si_genlib.specs.Grammar.{bytes_of}
use Rattle.si_equations.proofs.TokenLemmas.{marks, marks_in}

-- the lines, one after another
abbrev pub text : List (List ℕ) → List ℕ
text ls = flat_map (λ line. line ++ 10 ∷ []) ls

abbrev pub AreLines : List (List ℕ) → Type 0
AreLines ls = AllByRecursion AreInLine ls

line_first : (l rest : List ℕ) → AreInLine l → lines_of (l ++ 10 ∷ rest) ≡ l ∷ lines_of rest
line_first [] rest all = refl
line_first (b ∷ l) rest all = rw (all.0.0, line_first l rest all.1) refl

lines_back : (ls : List (List ℕ)) → AreLines ls → lines_of (text ls) ≡ ls
lines_back [] all = refl
lines_back (l ∷ ls) all = ap lines_of (append_assoc l (10 ∷ []) (text ls)) ∙ line_first l (text ls) all.0
    ∙ ap (λ (ms : List (List ℕ)). l ∷ ms) (lines_back ls all.1)

cleaned : (n : ℕ) (ls : List (List ℕ)) → AreLines ls → clean (enumerate_from n ls) ≡ enumerate_from n ls
cleaned n [] all = refl
cleaned n (l ∷ ls) all = rw (no_bad_byte l all.0, no_comment l all.0)
    (ap (λ (ms : List Line). (n, l) ∷ ms) (cleaned (n + 1) ls all.1))

none_bad : (n : ℕ) (ls : List (List ℕ)) → AreLines ls → bad_line (enumerate_from n ls) ≡ None
none_bad n [] all = refl
none_bad n (l ∷ ls) all = rw (no_bad_byte l all.0) (none_bad (n + 1) ls all.1)

pub no_bad_line : (ls : List (List ℕ)) → AreLines ls → bad_line (numbered (text ls)) ≡ None
no_bad_line ls all = ap (λ (ms : List (List ℕ)). bad_line (enumerate_from 1 ms)) (lines_back ls all) ∙ none_bad 1 ls all

line_tokens : (n : ℕ) (ls : List (List ℕ)) → bytes_of (tokens_of_lines (enumerate_from n ls)) ≡ flat_map marks ls
line_tokens n [] = refl
line_tokens n (l ∷ ls) =
    let later : List Line = enumerate_from (n + 1) ls in
    let first : bytes_of (tokens_in n later l) ≡ marks l = marks_in n later l in
    let rest : bytes_of (tokens_of_lines later) ≡ flat_map marks ls = line_tokens (n + 1) ls in
    map-append (λ (p : Piece). p.bytes) (tokens_in n later l) (tokens_of_lines later) ∙ (λ i. first i ++ rest i)

pub text_tokens : (ls : List (List ℕ)) → AreLines ls → bytes_of (tokens (unread (text ls))) ≡ flat_map marks ls
unfolding tokens
text_tokens ls all =
    ap (λ (ms : List (List ℕ)). bytes_of (tokens_of_lines (clean (enumerate_from 1 ms)))) (lines_back ls all)
    ∙ ap (λ (ms : List Line). bytes_of (tokens_of_lines ms)) (cleaned 1 ls all) ∙ line_tokens 1 ls
