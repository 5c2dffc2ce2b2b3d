-- A small expression, where reading stops, and what reading comes to.
use Rattle.std.proofs.Common.{◌≡◌, ℕ, List, [], replicate, codes, refl}
use Rattle.si_genlib.specs.Limits.{max_unfinished}
use Rattle.si_tokens.specs.Unread.{Unread, Piece, tokens}
use Rattle.si_genlib.specs.Expression.{Tree, Pin, Not, And, Or, step}
use Rattle.si_genlib.specs.Grammar.{Syntax, Word, InParens, Primed, Complemented, Beside, Times, Plus, written, tree_of}
use Rattle.si_genlib.specs.Grammar.{height, IsBeginning, IsSentence, CannotGoOn, GoesTooDeep, bytes_of}
use Rattle.si_genlib.proofs.GrammarViableLaws.{sentences, cuts, bad_expressions, deep_expressions}

-- what is left of a line, and its tokens
abbrev left_of : List ℕ → Unread
left_of here = record { number = 1; here = here; lines = [] }

abbrev tokens_of : List ℕ → List Piece
tokens_of here = tokens (left_of here)

-- `!a' * (b + c) d`: of three factors the first is complemented twice, and the second is a sum
abbrev small : Syntax
small = Beside (Times (Complemented (Primed (Word (codes "a"))))
    (InParens (Plus (Word (codes "b")) (Word (codes "c"))))) (Word (codes "d"))

abbrev small_tree : Tree
small_tree = And (And (Not (Not (Pin (codes "a")))) (Or (Pin (codes "b")) (Pin (codes "c")))) (Pin (codes "d"))

small_tokens : written small ≡ bytes_of (tokens_of (codes "!a' * (b + c) d"))
unfolding tokens
small_tokens = refl

small_means : tree_of small ≡ small_tree
small_means = refl

-- at once only the `!`, or only the parenthesis, is unfinished
small_height : height small ≡ 1
small_height = refl

small_read : IsSentence (tokens_of (codes "!a' * (b + c) d; e")) small_tree (left_of (codes " e"))
unfolding tokens step
small_read = (sentences (tokens_of (codes "!a' * (b + c) d; e")) small_tree (left_of (codes " e"))).0 refl

-- a term is due, where the text ends: `a + (` has to go on
not_all : IsBeginning max_unfinished (bytes_of (tokens_of (codes "a + (")))
unfolding tokens step
not_all = (cuts (tokens_of (codes "a + ("))).0 refl

-- no expression goes on with `;` behind `+`, nor with `)` where no parenthesis is open
no_term : CannotGoOn (tokens_of (codes "a + ;")) 1
unfolding tokens step
no_term = (bad_expressions (tokens_of (codes "a + ;")) 1).0 refl

not_open : CannotGoOn (tokens_of (codes "(a) b)")) 1
unfolding tokens step
not_open = (bad_expressions (tokens_of (codes "(a) b)")) 1).0 refl

-- the 65th `!` is one too many, and the 64th isn't
too_many : GoesTooDeep (tokens_of (replicate 65 33)) 1
unfolding tokens step
too_many = (deep_expressions (tokens_of (replicate 65 33)) 1).0 refl

enough : IsBeginning max_unfinished (bytes_of (tokens_of (replicate 64 33)))
unfolding tokens step
enough = (cuts (tokens_of (replicate 64 33))).0 refl
