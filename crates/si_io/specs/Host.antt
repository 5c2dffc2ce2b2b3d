-- (outside) Which calls of the system a load and a put of the host make.
use Rattle.std.specs.Prelude.{◌≡◌, ◌≢◌, ℕ, ◌+◌, ◌<◌, ◌≤◌, ◌⊎◌, List, [], ◌∷◌, length, drop}
use Rattle.std.specs.Prelude.{Option, Result, Vec, Ok, Err}
use Rattle.std.specs.Io.KnownBytes.{Consumes}
use Rattle.std.specs.List.{concat}
use Rattle.std.specs.declared.alloc.Global.{Global}
use Rattle.si_io.specs.declared.shelf.LoadFault.{LoadFault}
use Rattle.si_io.specs.declared.shelf.LoadFault.TheVariants.{Failed, TooLong}
use Rattle.si_io.specs.declared.sink.PutFault.TheVariants.{NoMemory as NoRoomLeft}
use Rattle.si_io.specs.declared.sink.PutFault.TheVariants.{Failed as PutFailed}
use Rattle.si_io.specs.Outside.{IsLoad, LoadAnswer, PutAnswer, answer_of}

-- ---- reads

-- reads, one after another, gave these pieces, none of them empty; no other call was made
abbrev pub AreRead : {Source : Type 0} → (Reads : Source → List ℕ → Source → Type 0)
    → (pieces : List (List ℕ)) → (old new : Source) → Type 0
AreRead Reads [] old new = new ≡ old
AreRead {Source} Reads (piece ∷ pieces) old new = (piece ≢ []) × (between : Source)
    × Reads old piece between × AreRead Reads pieces between new

-- the last call after reads that gave these bytes: one that gave nothing, which is the end; or one
-- that failed; or none, where the bytes are too many or memory ran out
abbrev pub EndsReading : {Source : Type 0} → (Reads : Source → List ℕ → Source → Type 0)
    → (Fails : Source → Source → Type 0) → (bytes : List ℕ) → LoadAnswer → (old new : Source)
    → Type 0
EndsReading Reads Fails bytes (Ok text) old new = (text ≡ bytes) × Reads old [] new
EndsReading Reads Fails bytes (Err Failed) old new = Fails old new
EndsReading Reads Fails bytes (Err (TooLong taken)) old new = (length bytes ≡ taken) × (new ≡ old)
EndsReading Reads Fails bytes (Err fault) old new = new ≡ old

-- a source was read up to this answer: after a read that failed, and after the end, no more
pub record IsReadTo {Source : Type 0} (Reads : Source → List ℕ → Source → Type 0)
    (Fails : Source → Source → Type 0) (answer : LoadAnswer) (old new : Source) : Type 0 where
  pub pieces : List (List ℕ)
  pub between : Source
  pub read : AreRead Reads pieces old between
  pub ends : EndsReading Reads Fails (concat pieces) answer between new

-- ---- files

-- what the calls of a store and of its files make of them, and the bytes that a file has left,
-- where they are known
pub record StoreCalls (Store File : Type 0) : Type 1 where
  pub Opens : Store → List ℕ → File → Store → Type 0
  pub Refuses : Store → List ℕ → Store → Type 0
  pub Closes : Store → File → Store → Type 0
  pub Reads : File → List ℕ → File → Type 0
  pub Fails : File → File → Type 0
  pub remaining : File → Option (List ℕ)

-- a file of that name was opened, read up to this answer, and closed; the store saw no other call
pub record IsReadOnce {Store File : Type 0} (calls : StoreCalls Store File) (name : List ℕ)
    (answer : LoadAnswer) (old new : Store) : Type 0 where
  pub between : Store
  pub start : File
  pub end : File
  pub opened : calls.Opens old name start between
  pub read : IsReadTo calls.Reads calls.Fails answer start end
  pub closed : calls.Closes between end new

-- the store refused to open a file of that name, or such a file was read
abbrev pub IsLoadOf : {Store File : Type 0} → StoreCalls Store File → List ℕ → LoadAnswer
    → (old new : Store) → Type 0
IsLoadOf calls name answer old new = ((answer ≡ Err Failed) × calls.Refuses old name new)
    ⊎ IsReadOnce calls name answer old new

-- the same with the known bytes of the file: at most one past the limit was taken
pub record IsRead {Store File : Type 0} (calls : StoreCalls Store File) (name : List ℕ)
    (limit before now : ℕ) (result : Result (Vec ℕ Global) LoadFault)
    (old new : Store) : Type 0 where
  pub once : IsReadOnce calls name (answer_of result) old new
  pub taken : List ℕ
  pub takes : Consumes (calls.remaining once.start) (calls.remaining once.end) taken
  pub within : length taken ≤ limit + 1
  pub answer : IsLoad (calls.remaining once.start) limit before now result

-- ---- writes

-- what the calls of an outlet make of it
pub record OutletCalls (Outlet : Type 0) : Type 1 where
  pub Writes : Outlet → List ℕ → ℕ → Outlet → Type 0
  pub Fails : Outlet → List ℕ → Outlet → Type 0
  pub Flushes : Outlet → Outlet → Type 0
  pub FailsToFlush : Outlet → Outlet → Type 0

-- writes of a piece, each of what those before it left, took these counts of bytes, none of them 0,
-- and left the rest; no other call was made
abbrev pub AreWritten : {Outlet : Type 0} → (Writes : Outlet → List ℕ → ℕ → Outlet → Type 0)
    → (counts piece rest : List ℕ) → (old new : Outlet) → Type 0
AreWritten Writes [] piece rest old new = (rest ≡ piece) × (new ≡ old)
AreWritten {Outlet} Writes (count ∷ counts) piece rest old new = (0 < count)
    × (between : Outlet) × Writes old piece count between
    × AreWritten Writes counts (drop count piece) rest between new

-- the last call, where writes left the rest: all is flushed; or a write fails or takes nothing, or
-- the flush fails
abbrev pub EndsWriting : {Outlet : Type 0} → OutletCalls Outlet → (rest : List ℕ) → PutAnswer
    → (old new : Outlet) → Type 0
EndsWriting calls rest (Ok done) old new = (rest ≡ []) × calls.Flushes old new
EndsWriting calls rest (Err PutFailed) old new =
    ((rest ≡ []) × calls.FailsToFlush old new)
    ⊎ ((rest ≢ []) × (calls.Fails old rest new ⊎ calls.Writes old rest 0 new))
EndsWriting calls rest (Err NoRoomLeft) old new = ⊥

-- a piece was put with this answer: after a call that failed, or that took nothing, no more
pub record IsPutTo {Outlet : Type 0} (calls : OutletCalls Outlet) (piece : List ℕ)
    (answer : PutAnswer) (old new : Outlet) : Type 0 where
  pub counts : List ℕ
  pub rest : List ℕ
  pub between : Outlet
  pub written : AreWritten calls.Writes counts piece rest old between
  pub ends : EndsWriting calls rest answer between new
