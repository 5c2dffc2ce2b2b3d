-- Loads and puts: the definitions at work.
use Rattle.std.proofs.Common.{◌≡◌, ◌+◌, ◌≤◌, ℕ, List, [], ◌∷◌, ◌++◌, length, Some, Err, inl, inr, refl, codes, arith}
use Rattle.si_io.specs.Host.{StoreCalls, IsRead, IsLoadOf, OutletCalls, AreWritten, EndsWriting, IsPutTo}
use Rattle.si_io.specs.Memory.{ShelfState, IsAfterLoad}
use Rattle.si_io.specs.declared.shelf.LoadFault.TheVariants.{Failed, TooLong}
use Rattle.si_io.specs.declared.sink.PutFault.TheVariants.{Failed as PutFailed}

-- ---- a store of one file of three bytes, whose reads take one byte each and never fail
abbrev takes_one : List ℕ → List ℕ → List ℕ → Type 0
takes_one old bytes new = (old ≡ bytes ++ new) × (length bytes ≤ 1)

abbrev one_file : StoreCalls ℕ (List ℕ)
one_file = record {
  Opens = λ old name file new. (file ≡ 97 ∷ 98 ∷ 99 ∷ []) × (new ≡ old + 1);
  Refuses = λ old name new. ⊥;
  Closes = λ old file new. new ≡ old + 1;
  Reads = takes_one;
  Fails = λ old new. ⊥;
  remaining = Some;
}

-- up to a limit of one byte, two are taken, and one is left; the store saw two calls
long_file : IsRead one_file (codes "wire.sg") 1 0 0 (Err (TooLong 2)) 0 2
long_file = record {
  once = record {
    between = 1;
    start = 97 ∷ 98 ∷ 99 ∷ [];
    end = 99 ∷ [];
    opened = (refl, refl);
    read = record {
      pieces = (97 ∷ []) ∷ (98 ∷ []) ∷ [];
      between = 99 ∷ [];
      read = (λ e. cc, 98 ∷ 99 ∷ [], (refl, omega arith), (λ e. cc, 99 ∷ [], (refl, omega arith), refl));
      ends = (refl, refl);
    };
    closed = refl;
  };
  taken = 97 ∷ 98 ∷ [];
  takes = refl;
  within = omega arith;
  answer = record {
    loaded = tt;
    within = tt;
    failed = λ is. cc;
    too_long = λ taken is. let same : 2 ≡ taken = cc is in omega arith;
    really_too_long = λ taken is. omega arith;
    without_fault = λ taken is. refl;
  };
}

-- a load of it doesn't fail
never_fails : (old new : ℕ) → IsLoadOf one_file (codes "wire.sg") (Err Failed) old new → ⊥
never_fails old new (inl refused) = refused.1
never_fails old new (inr once) = once.read.ends

-- after a write of nothing there is no other
abbrev full : OutletCalls ℕ
full = record {
  Writes = λ old piece count new. (count ≡ 0) × (new ≡ old + 1);
  Fails = λ old piece new. ⊥;
  Flushes = λ old new. ⊥;
  FailsToFlush = λ old new. ⊥;
}

one_write : IsPutTo full (97 ∷ []) (Err PutFailed) 0 1
one_write = record {
  counts = [];
  rest = 97 ∷ [];
  between = 0;
  written = (refl, refl);
  ends = inr (λ e. cc, inr (refl, refl));
}

no_second_write : IsPutTo full (97 ∷ []) (Err PutFailed) 0 2 → ⊥
no_second_write put = by put.counts put.rest put.between put.written put.ends
  where
    by : (counts rest : List ℕ) (between : ℕ)
        → AreWritten full.Writes counts (97 ∷ []) rest 0 between → EndsWriting full rest (Err PutFailed) between 2 → ⊥
    by [] rest between written (inl flushed) = flushed.1
    by [] rest between written (inr (some, inl fails)) = fails
    by [] rest between written (inr (some, inr wrote)) = omega (arith, written.1, wrote.1)
    by (count ∷ counts) rest between written ends = omega (arith, written.0, written.2.0)

-- ---- a shelf without files
abbrev no_files : (calls faults : ℕ) → ShelfState
no_files calls faults = record { files = []; fails = []; calls = calls; faults = faults }

-- a load from it is a call and a fault more
missing_file : IsAfterLoad (no_files 0 0) (codes "c.sg") (Err Failed) (no_files 1 1)
missing_file = (0, refl, refl)
