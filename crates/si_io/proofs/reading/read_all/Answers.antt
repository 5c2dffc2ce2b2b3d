use Rattle.std.proofs.Common.{◌≡◌, ◌∙◌, ℕ, [], ◌∷◌, ◌++◌, take, refl, sym, ap, length, is_ok, length-append, length-take}
use Rattle.std.proofs.Common.{rules, arith}
use Rattle.std.proofs.KnownBytes.{Consumes-nil, Consumes-trans, Consumes-kept}
use Rattle.si_io.proofs.ReadingLemmas.{appended, still_within, content_at_end, content_beyond, consumed_same}
use Rattle.si_io.proofs.ReadingLemmas.{one_more_read, joined_more, some_taken, read_nothing}
use Rattle.si_io.proofs.reading.read_all.Goals as goal

pub loop-chunk-init : goal.loop-chunk-init
loop-chunk-init g c = record {
  within = search rules;
  chunk = search rules;
  faults = search rules;
  consumed = rw c.new-bytes.ensures.items (Consumes-nil _);
  pieces = [];
  read = refl;
  joined = sym c.new-bytes.ensures.items;
}

pub loop-chunk-preserved : goal.loop-chunk-preserved
loop-chunk-preserved g c =
    let joined = appended (is_ok c.extend_from_slice.result) _ _ _ _ _ (search rules) c.in-Ok.ensures.bound.0
    c.extend_from_slice.ensures.items in
    record {
      within = omega (
        arith,
        c.extend_from_slice.new.self.ok.0,
        still_within _ _ _ _ _ _ c.args.limit joined
            c.read_some.auto.chunk (omega arith),
      );
      chunk = search rules;
      faults = search rules;
      consumed = rw joined (Consumes-trans _ _ _ _ _ c.loop-chunk.invariant.consumed c.in-Ok.ensures.bytes.0);
      pieces = c.loop-chunk.invariant.pieces ++ take c.in-Ok.count c.read_some.new.chunk ∷ [];
      read = one_more_read _ _ _ _ _ _ c.loop-chunk.invariant.read
          (some_taken c.read_some.new.chunk c.in-Ok.count (omega (arith, c.in-Ok.count-test)) c.in-Ok.ensures.bound.0)
          c.in-Ok.ensures.read;
      joined = joined_more c.loop-chunk.invariant.pieces _ _ _ c.loop-chunk.invariant.joined joined;
    }

pub returns-in-Ok-eq0-clause-load : goal.returns-in-Ok-eq0-clause-load
returns-in-Ok-eq0-clause-load g c = record {
  loaded = content_at_end _ _ _ (consumed_same _ _ _ _ _ _ c.in-Ok-eq0.field-0-test c.loop-chunk.invariant.consumed
      c.in-Ok-eq0.ensures.bytes.0) (c.in-Ok-eq0.ensures.bytes.1 c.in-Ok-eq0.field-0-test (search rules));
  within = omega arith;
  failed = search rules;
  too_long = search rules;
  really_too_long = search rules;
  without_fault = search rules;
}

pub returns-in-Ok-eq0-clause-whole : goal.returns-in-Ok-eq0-clause-whole
returns-in-Ok-eq0-clause-whole g c = (
  consumed_same _ _ _ _ _ _ c.in-Ok-eq0.field-0-test c.loop-chunk.invariant.consumed c.in-Ok-eq0.ensures.bytes.0,
  c.in-Ok-eq0.ensures.bytes.1 c.in-Ok-eq0.field-0-test (search rules),
)

pub returns-in-Ok-eq0-clause-part : goal.returns-in-Ok-eq0-clause-part
returns-in-Ok-eq0-clause-part g c = (
  _,
  consumed_same _ _ _ _ _ _ c.in-Ok-eq0.field-0-test c.loop-chunk.invariant.consumed c.in-Ok-eq0.ensures.bytes.0,
  omega arith,
)

pub returns-then-is_err-clause-part : goal.returns-then-is_err-clause-part
returns-then-is_err-clause-part g c = (
  _,
  Consumes-trans _ _ _ _ _ c.loop-chunk.invariant.consumed c.in-Ok.ensures.bytes.0,
  grind
      (arith, length-append {A = ℕ}, length-take {A = ℕ}),
)

pub returns-in-Err-clause-part : goal.returns-in-Err-clause-part
returns-in-Err-clause-part g c =
    (_, Consumes-kept _ _ _ _ c.loop-chunk.invariant.consumed c.in-Err.ensures.bytes, omega arith)

pub returns-clause-load : goal.returns-clause-load
returns-clause-load g c = record {
  loaded = tt;
  within = tt;
  failed = search rules;
  too_long = λ taken told. let same : c.len-2.result ≡ taken = cc told in omega arith;
  really_too_long = λ taken told. content_beyond _ _ _ _ c.loop-chunk.invariant.consumed (omega arith);
  without_fault = λ taken told. search rules;
}

pub returns-clause-part : goal.returns-clause-part
returns-clause-part g c = (_, c.loop-chunk.invariant.consumed, omega arith)

pub returns-in-Ok-eq0-clause-calls : goal.returns-in-Ok-eq0-clause-calls
returns-in-Ok-eq0-clause-calls g c = record {
  pieces = c.loop-chunk.invariant.pieces;
  between = c.loop-chunk.reader;
  read = c.loop-chunk.invariant.read;
  ends = (
    sym c.loop-chunk.invariant.joined,
    read_nothing g.R.Source.reads c.loop-chunk.reader c.read_some.new.self c.read_some.new.chunk
        c.in-Ok-eq0.field-0 c.in-Ok-eq0.field-0-test c.in-Ok-eq0.ensures.read,
  );
}

pub returns-then-is_err-clause-calls : goal.returns-then-is_err-clause-calls
returns-then-is_err-clause-calls g c = record {
  pieces = c.loop-chunk.invariant.pieces ++ take c.in-Ok.count c.read_some.new.chunk ∷ [];
  between = c.read_some.new.self;
  read = one_more_read _ _ _ _ _ _ c.loop-chunk.invariant.read
      (some_taken c.read_some.new.chunk c.in-Ok.count (omega (arith, c.in-Ok.count-test)) c.in-Ok.ensures.bound.0)
      c.in-Ok.ensures.read;
  ends = refl;
}

pub returns-in-Err-clause-calls : goal.returns-in-Err-clause-calls
returns-in-Err-clause-calls g c = record {
  pieces = c.loop-chunk.invariant.pieces;
  between = c.loop-chunk.reader;
  read = c.loop-chunk.invariant.read;
  ends = c.in-Err.ensures.failed;
}

pub returns-clause-calls : goal.returns-clause-calls
returns-clause-calls g c = record {
  pieces = c.loop-chunk.invariant.pieces;
  between = c.loop-chunk.reader;
  read = c.loop-chunk.invariant.read;
  ends = (omega (arith, ap length c.loop-chunk.invariant.joined), refl);
}
