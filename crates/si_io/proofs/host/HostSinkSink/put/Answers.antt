use Rattle.std.proofs.Common.{◌≡◌, refl, [], ◌∷◌, ◌++◌, take, inl, inr, rules, arith}
use Rattle.std.proofs.KnownBytes.{Appends-nil, Appends-trans}
use Rattle.si_io.proofs.ReadingLemmas.{done_more, prefix_written, prefix_kept, one_more_written, nothing_left}
use Rattle.si_io.proofs.host.HostSinkSink.put.Goals as goal
use Rattle.si_io.proofs.host.HostSinkSink.put.Goals.{in_default-via-in-Ok+else-count-gt0, in_default-via-in_default}

pub loop-rest-init : goal.loop-rest-init
loop-rest-init g c = record {
  faults = refl;
  done = [];
  parts = refl;
  written = Appends-nil _;
  counts = [];
  calls = (refl, refl);
}

pub loop-rest-preserved : goal.loop-rest-preserved
loop-rest-preserved g c = record {
  faults = c.loop-rest.invariant.faults;
  done = c.loop-rest.invariant.done ++ take c.in-Ok.count c.loop-rest.rest.now;
  parts = rw c.split_at.ensures.back (done_more _ _ _ c.in-Ok.count c.loop-rest.invariant.parts);
  written = Appends-trans _ _ _ _ _ c.loop-rest.invariant.written c.in-Ok.ensures.bytes;
  counts = c.loop-rest.invariant.counts ++ c.in-Ok.count ∷ [];
  calls = rw c.split_at.ensures.back (one_more_written _ _ _ _ _ _ _ _ c.loop-rest.invariant.calls
      (omega (arith, c.if-count-gt0.true)) c.in-Ok.ensures.written);
}

pub returns-in_default-clause-part : goal.returns-in_default-clause-part
returns-in_default-clause-part g c =
    λ _. prefix_written _ _ _ _ _ _ _ c.loop-rest.invariant.parts c.loop-rest.invariant.written
    c.write_some.ensures.bytes

pub returns-in-Err-clause-part : goal.returns-in-Err-clause-part
returns-in-Err-clause-part g c = λ _. prefix_kept _ _ _ _ _ _ c.loop-rest.invariant.parts c.loop-rest.invariant.written
    c.in-Err.ensures.bytes

pub returns-in_default-clause-taken : goal.returns-in_default-clause-taken
returns-in_default-clause-taken g c = record {
  counts = c.loop-rest.invariant.counts;
  rest = c.loop-rest.rest.now;
  between = c.loop-rest.self.writer;
  written = c.loop-rest.invariant.calls;
  ends = inr (
    search rules,
    elim c.in_default.branch [
      | in_default-via-in-Ok+else-count-gt0 w ↦
          (let none : w.in-Ok.count ≡ 0 = omega (arith, w.if-count-gt0.false) in
          inr (rw none at w.in-Ok.ensures.written))
      | in_default-via-in_default w ↦ inl (search rules)
    ],
  );
}

pub returns-in-Ok-flush_all-clause-taken : goal.returns-in-Ok-flush_all-clause-taken
returns-in-Ok-flush_all-clause-taken g c = record {
  counts = c.loop-rest.invariant.counts;
  rest = c.loop-rest.rest.now;
  between = c.loop-rest.self.writer;
  written = c.loop-rest.invariant.calls;
  ends = (nothing_left _ (search rules), c.in-Ok-flush_all.ensures.flushed);
}

pub returns-in-Err-clause-taken : goal.returns-in-Err-clause-taken
returns-in-Err-clause-taken g c = record {
  counts = c.loop-rest.invariant.counts;
  rest = c.loop-rest.rest.now;
  between = c.loop-rest.self.writer;
  written = c.loop-rest.invariant.calls;
  ends = inl (nothing_left _ (search rules), c.in-Err.ensures.failed);
}
