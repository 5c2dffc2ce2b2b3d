-- What stands behind names where words were refused.
use Rattle.std.proofs.Common.{◌≡◌, ℕ, ◌<◌, ◌++◌, List, length, get_or, take, Bor, Some, None, Result, Err, subst, sym}
use Rattle.std.specs.Prelude.{IfErr}
use Rattle.si_base.specs.declared.fault.TextKind.{TextKind}
use Rattle.si_base.specs.declared.fault.LineFault.{LineFault}
use Rattle.si_base.specs.declared.fault.LineFault.TheVariants.{NoMemory}
use Rattle.si_base.specs.Faults.{first_after}
use Rattle.si_words.specs.Names.{name_fault, AddsFirst, AddsUntil, LeavesNames}
use Rattle.si_words.specs.Loops.Reads.{words_now}
use Rattle.si_words.proofs.FirstFaultLemmas.{word_at}

-- the word at i is the first with a fault
pub until : (limit : ℕ) (old before : List (List ℕ)) (ws : List (Bor (List ℕ))) (i : ℕ) (d : Bor (List ℕ))
    (kind : TextKind) → i < length ws → before ≡ old ++ take i (words_now ws)
    → first_after (name_fault limit) old (take i (words_now ws)) ≡ None
    → name_fault limit before (get_or ws i d).now ≡ Some kind → AddsUntil limit kind old before (words_now ws)
until limit old before ws i d kind within so_far good here = record {
  first = record { count = i; names_are = so_far; good = good };
  word = (get_or ws i d).now;
  next = word_at ws i d within;
  fault_is = here;
}

-- where memory ran out some first words stand there
pub some_left : {X : Type 0} (result : Result X LineFault) (limit : ℕ) (fault : LineFault)
    (old new words : List (List ℕ)) → result ≡ Err fault → fault ≡ NoMemory → AddsFirst limit old new words
    → IfErr result (λ e. LeavesNames limit e old new words)
some_left {X} result limit fault old new words is want first =
    let Left : LineFault → Type 0 = λ e. LeavesNames limit e old new words in
    let After : Result X LineFault → Type 0 = λ r. IfErr r Left in
    subst After (sym is) (subst Left (sym want) first)
