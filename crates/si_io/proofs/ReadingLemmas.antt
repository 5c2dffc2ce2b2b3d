-- Bytes that are written or read one part after another.
use Rattle.std.proofs.Common.{◌≡◌, ◌≢◌, ℕ, ◌+◌, ◌<◌, ◌≤◌, Bool, true, false, if◌then◌else◌, List, [], ◌∷◌, ◌++◌, Option}
use Rattle.std.proofs.Common.{Some, None, refl, IfSome, Result, Ok, Err, sym, ap, subst, ◌∙◌, append_assoc, append-nil, length}
use Rattle.std.proofs.Common.{length-append, length-take, take, drop, arith}
use Rattle.std.proofs.lemmas.List.{take-append-drop, take-append-le}
use Rattle.std.proofs.lemmas.List.Folds.{concat-append}
use Rattle.std.proofs.Math.Seq.{take-append_seam, take-append-add}
use Rattle.std.proofs.KnownBytes.{Appends-trans, Appends-kept, Consumes-trans}
use Rattle.std.specs.Io.KnownBytes.{Appends, Keeps, WriteAppends, Consumes, IsAtEnd}
use Rattle.std.specs.List.{concat}
use Rattle.si_io.specs.Host.{AreRead, AreWritten}
use Rattle.si_io.specs.Outside.{IsContent}

-- a part more of the piece is done
pub done_more : (piece done rest : List ℕ) (n : ℕ) → piece ≡ done ++ rest → piece ≡ (done ++ take n rest) ++ drop n rest
done_more piece done rest n parts = parts ∙ ap (λ (l : List ℕ). done ++ l) (sym (take-append-drop n rest))
    ∙ sym (append_assoc done (take n rest) (drop n rest))

-- nothing more was written
pub kept_appends : (a b : Option (List ℕ)) → Keeps a b → Appends a b []
kept_appends None b kept = tt
kept_appends (Some p) None kept = absurd kept
kept_appends (Some p) (Some q) kept = kept ∙ sym (append-nil p)

-- a write appended a prefix, whatever it answered
pub some_written : {E : Type 0} (a b : Option (List ℕ)) (answer : Result ℕ E) (piece : List ℕ)
    → WriteAppends a b answer piece → (k : ℕ) × Appends a b (take k piece)
some_written a b (Ok n) piece written = (n, written)
some_written a b (Err e) piece kept = (0, kept_appends a b kept)

-- a write after a part of the piece leaves a prefix of it
pub prefix_written : {E : Type 0} (a b c : Option (List ℕ)) (piece done rest : List ℕ) (answer : Result ℕ E)
    → piece ≡ done ++ rest → Appends a b done → WriteAppends b c answer rest → (k : ℕ) × Appends a c (take k piece)
prefix_written a b c piece done rest answer parts before written =
    let more = some_written b c answer rest written in (
      length done + more.0,
      rw (parts, take-append-add done rest more.0)
          (Appends-trans a b c done (take more.0 rest) before more.1),
    )

-- what was done is a prefix of the piece
pub prefix_kept : (a b c : Option (List ℕ)) (piece done rest : List ℕ) → piece ≡ done ++ rest → Appends a b done
    → Keeps b c → (k : ℕ) × Appends a c (take k piece)
prefix_kept a b c piece done rest parts before kept =
    (length done, rw (parts, take-append_seam done rest) (Appends-kept a b c done before kept))

-- a reader that is at its end gave its content
pub content_at_end : (a b : Option (List ℕ)) (bytes : List ℕ) → Consumes a b bytes → IsAtEnd b → IsContent a bytes
content_at_end None b bytes one end = tt
content_at_end (Some p) None bytes one end = absurd one
content_at_end (Some p) (Some q) bytes one end = sym (one ∙ ap (λ (l : List ℕ). bytes ++ l) end ∙ append-nil bytes)

-- a reader that gave more than the limit has more
pub content_beyond : (a b : Option (List ℕ)) (bytes : List ℕ) (limit : ℕ) → Consumes a b bytes → limit < length bytes
    → IfSome a (λ c. limit < length c)
content_beyond None b bytes limit one more = tt
content_beyond (Some p) None bytes limit one more = absurd one
content_beyond (Some p) (Some q) bytes limit one more = omega (arith, ap length one, length-append bytes q)

-- a read of nothing adds nothing
pub consumed_same : (a b c : Option (List ℕ)) (bytes buffer : List ℕ) (n : ℕ) → n ≡ 0 → Consumes a b bytes
    → Consumes b c (take n buffer) → Consumes a c bytes
consumed_same a b c bytes buffer n none before read =
    let P : ℕ → Type 0 = λ k. Consumes b c (take k buffer) in
    subst (Consumes a c) (append-nil bytes) (Consumes-trans a b c bytes [] before (subst P none read))

-- what was read into the front of a buffer was appended
pub appended : (ok : Bool) (new old front rest : List ℕ) (n : ℕ) → ok ≡ true → n ≤ length front
    → new ≡ (if ok then old ++ take n (front ++ rest) else old) → new ≡ old ++ take n front
appended true new old front rest n well within is =
    is ∙ ap (λ (l : List ℕ). old ++ l) (take-append-le n front rest within)
appended false new old front rest n well within is = cc

-- what was read and appended has room, where the part of the buffer that was lent for it has
pub still_within : (new old front buffer : List ℕ) (n size limit : ℕ) → new ≡ old ++ take n front
    → length front ≡ length (take size buffer) → length old + size ≤ limit + 1 → length new ≤ limit + 1
still_within new old front buffer n size limit joined lent room =
    omega (
      arith,
      ap length joined,
      length-append old (take n front),
      length-take n front,
      lent,
      length-take size
          buffer,
    )

-- ---- calls, one after another
pub one_more_read : {Source : Type 0} (Reads : Source → List ℕ → Source → Type 0) (pieces : List (List ℕ))
    (piece : List ℕ) (old now next : Source) → AreRead Reads pieces old now → piece ≢ [] → Reads now piece next
    → AreRead Reads (pieces ++ piece ∷ []) old next
one_more_read Reads [] piece old now next same some one = (some, next, rw (sym same) one, refl)
one_more_read Reads (p ∷ pieces) piece old now next path some one =
    (path.0, path.1, path.2, one_more_read Reads pieces piece path.1 now next path.3 some one)

-- the bytes of one piece more
pub joined_more : (pieces : List (List ℕ)) (piece old new : List ℕ) → concat pieces ≡ old → new ≡ old ++ piece
    → concat (pieces ++ piece ∷ []) ≡ new
joined_more pieces piece old new joined is = concat-append pieces (piece ∷ [])
    ∙ ap (λ (l : List ℕ). concat pieces ++ l) (append-nil piece)
    ∙ ap (λ (l : List ℕ). l ++ piece) joined ∙ sym is

pub some_taken : (front : List ℕ) (n : ℕ) → 0 < n → n ≤ length front → take n front ≢ []
some_taken front n some within none = omega (arith, length-take n front, ap length none)

pub read_nothing : {Source : Type 0} (Reads : Source → List ℕ → Source → Type 0) (old new : Source) (buffer : List ℕ)
    (n : ℕ) → n ≡ 0 → Reads old (take n buffer) new → Reads old [] new
read_nothing Reads old new buffer n none read = (let P : ℕ → Type 0 = λ k. Reads old (take k buffer) new in
    subst P none read)

pub one_more_written : {Outlet : Type 0} (Writes : Outlet → List ℕ → ℕ → Outlet → Type 0) (counts : List ℕ)
    (count : ℕ) (piece rest : List ℕ) (old now next : Outlet) → AreWritten Writes counts piece rest old now
    → 0 < count → Writes now rest count next
    → AreWritten Writes (counts ++ count ∷ []) piece (drop count rest) old next
one_more_written Writes [] count piece rest old now next same some one =
    (some, next, rw (sym same.0, sym same.1) one, (ap (drop count) same.0, refl))
one_more_written Writes (c ∷ counts) count piece rest old now next path some one =
    (path.0, path.1, path.2, one_more_written Writes counts count (drop c piece) rest path.1 now next path.3 some one)

pub nothing_left : (rest : List ℕ) → length rest ≡ 0 → rest ≡ []
nothing_left [] none = refl
nothing_left (byte ∷ rest) none = absurd (omega (arith, none))
